use Rattle.script_meaning.proofs.Premises.{honest_without_raw, polled_without_raw, whole_unrefused}
use Rattle.script_meaning.proofs.speaks_without_raw.Goals as goal

pub returns-clause-honest : goal.returns-clause-honest
returns-clause-honest c = honest_without_raw

pub returns-clause-whole : goal.returns-clause-whole
returns-clause-whole c = whole_unrefused

pub returns-clause-polled : goal.returns-clause-polled
returns-clause-polled c = polled_without_raw
