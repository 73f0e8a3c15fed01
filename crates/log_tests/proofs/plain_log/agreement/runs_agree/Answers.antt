use Rattle.log_tests.proofs.Plain.Agreements.{always_again, always_same_answers}
use Rattle.log_tests.proofs.plain_log.agreement.runs_agree.Goals as goal

pub returns : goal.returns
returns c = record { answers = always_same_answers; again = always_again }
