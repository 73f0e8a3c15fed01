-- A reader of a log that was just opened is one consumer, and nothing else; one that has joined has read nothing.
use Rattle.std.proofs.Common.{◌≡◌, ℕ, ◌<◌, [], arith}
use Rattle.shared_log.specs.Steps.Handles.{LogValue}
use Rattle.shared_log.specs.Parts.{IsNewReader}
use Rattle.shared_log.specs.Joining.{IsJoined, Joins}
use Rattle.shared_log.specs.Keepers.{KeeperValue}
use Rattle.shared_log.specs.Readers.{ReaderValue, known_at, known_of}
use Rattle.log_rule.specs.Keepings.{newly}
use Rattle.stream_tests.specs.Consumers.{IsSingle}

pub new_single : (l : LogValue) (n : ℕ) (r : ReaderValue) → IsNewReader l n r → n < 8 → IsSingle l r
new_single l n r new low = record {
  of = record { of = new.held.of; number = (let e = new.number_is in below r.number n e low) };
  alone = record { consumer = newly n l.start; pass = new.held.pass_is; place = new.place };
}
  where
    below : (m n : ℕ) → m ≡ n → n < 8 → m < 8
    below m n e low = omega arith

pub joined_unread : (l : LogValue) (k : KeeperValue) (r : ReaderValue) (q : KeeperValue) → Joins l k r q → known_of r ≡ []
joined_unread l k r q h = λ j. known_at (h.reader.held.pass_is j).reading (h.reader.place j)
