-- What a user reads of an outcome.
use Rattle.std.specs.Prelude.{ℕ, List, ◌++◌, codes, decimal}
use Rattle.frames.specs.Fault as frame_faults
use Rattle.image.specs.Codes.{answer_code}
use Rattle.receiver.specs.SetupFaults as setup_faults
use Rattle.receiver.specs.declared.receiver_core.Outcome.{Outcome}
use Rattle.receiver.specs.declared.receiver_core.Outcome.TheVariants.{Inserted, Heartbeat, Opened, Kept, Asked, SetupRefused, Other, Refused}

abbrev pub outcome_text : Outcome → List ℕ
outcome_text (Inserted answer) = answer_code answer
outcome_text Heartbeat = codes "heartbeat"
outcome_text (Opened position) = codes "opened " ++ decimal position
outcome_text Kept = codes "kept"
outcome_text Asked = codes "asked"
outcome_text (SetupRefused fault) = setup_faults.code_of fault
outcome_text Other = codes "other"
outcome_text (Refused fault) = frame_faults.code_of fault
