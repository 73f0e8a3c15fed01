-- What a user reads of a sender's answer.
use Rattle.std.specs.Prelude.{ℕ, List, ◌++◌, codes}
use Rattle.std.specs.Fmt.{signed_decimal}
use Rattle.frames.specs.Fault.{code_of}
use Rattle.sender.specs.Resending.Answers as naks
use Rattle.sender.specs.declared.sender_core.SenderAnswer.{SenderAnswer}
use Rattle.sender.specs.declared.sender_core.SenderAnswer.TheVariants.{Ticked, Status, Asked, Missed, Other, Refused}

abbrev pub answer_text : SenderAnswer → List ℕ
answer_text Ticked = codes "ticked"
answer_text (Status limit) = codes "status " ++ signed_decimal limit
answer_text Asked = codes "asked"
answer_text (Missed answer) = naks.code_of answer
answer_text Other = codes "other"
answer_text (Refused fault) = code_of fault
