-- The readers of a log that was just opened have read nothing, nor has one that has joined.
use Rattle.std.proofs.Common.{◌≡◌, ℕ, suc, List, [], ◌∷◌}
use Rattle.std.specs.List.{AllByRecursion}
use Rattle.shared_log.specs.Steps.Handles.{LogValue}
use Rattle.shared_log.specs.Joining.{Joins}
use Rattle.shared_log.specs.Keepers.{KeeperValue}
use Rattle.shared_log.specs.Parts.{AreReaders}
use Rattle.shared_log.specs.Readers.{IsReaderOf, ReaderValue, known_at, known_of}
use Rattle.stream_tests.specs.Parties.{IsUnread}

pub new_unread : (l : LogValue) (n : ℕ) (rs : List ReaderValue) → AreReaders l n rs → AllByRecursion (IsReaderOf l) rs → AllByRecursion (IsUnread l) rs
new_unread l n [] new of = tt
new_unread l n (r ∷ rs) new of = (record { of = of.0; nothing = (λ j. known_at (new.0.held.pass_is j).reading (new.0.place j)) }, new_unread l (suc n) rs new.1 of.1)

pub joined_unread : (l : LogValue) (k : KeeperValue) (r : ReaderValue) (q : KeeperValue) → Joins l k r q → known_of r ≡ []
joined_unread l k r q h = λ j. known_at (h.reader.held.pass_is j).reading (h.reader.place j)
