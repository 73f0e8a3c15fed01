-- A reader of a log that was just opened has read nothing.
use Rattle.std.proofs.Common.{◌≡◌, ℕ, []}
use Rattle.shared_log.specs.Steps.Handles.{LogValue}
use Rattle.shared_log.specs.Parts.{IsNewReader}
use Rattle.shared_log.specs.Readers.{ReaderValue, known_at, known_of}

pub new_unread : (l : LogValue) (n : ℕ) (r : ReaderValue) → IsNewReader l n r → known_of r ≡ []
new_unread l n r new = λ j. known_at (new.held.pass_is j).reading (new.place j)
