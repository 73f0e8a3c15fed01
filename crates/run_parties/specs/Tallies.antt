-- What a subscriber polled, counted, and whether it came in order.
use Rattle.std.specs.Prelude.{◌≡◌, ◌↔◌, ℕ, ◌<◌, ◌≤◌, ◌==◌, Bool, true, List, [], count_by, drop, length, slice_index, slice_index_or, take}
use Rattle.byteorder.specs.Endian.{little_number}

-- what a contract sees of a tally: how many messages were taken, whether they were in order, and how many each publisher's were
pub record Counted : Type 0 where
  pub polled : ℕ
  pub kept : Bool
  pub counts : List ℕ

-- the number of the publisher that a message names, and its own number among that publisher's messages
abbrev pub publisher_of : List ℕ → ℕ
publisher_of message = little_number 4 message

abbrev pub number_of : List ℕ → ℕ
number_of message = little_number 4 (drop 4 message)

-- how many of the messages name this publisher
abbrev pub count_of : ℕ → List (List ℕ) → ℕ
count_of publisher messages = count_by (λ message. publisher_of message == publisher) messages

-- behind these messages this is the next one of its publisher, one of the eight
pub record IsNext (before : List (List ℕ)) (message : List ℕ) : Type 0 where
  pub whole : 8 ≤ length message
  pub known : publisher_of message < 8
  pub next : number_of message ≡ count_of (publisher_of message) before

-- the messages of each publisher are its 0, 1, 2 and so on
abbrev pub AreInOrder : List (List ℕ) → Type 0
AreInOrder messages = (k : ℕ) → k < length messages → IsNext (take k messages) (slice_index_or messages k [])

-- the tally of these messages
pub record IsTallyOf (messages : List (List ℕ)) (t : Counted) : Type 0 where
  pub many : t.polled ≡ length messages
  pub order : (t.kept ≡ true) ↔ AreInOrder messages
  pub counts : t.kept ≡ true → (publisher : ℕ) → publisher < 8 → slice_index t.counts publisher ≡ count_of publisher messages

-- the tally of some messages
pub record IsTally (t : Counted) : Type 0 where
  pub messages : List (List ℕ)
  pub tally : IsTallyOf messages t

-- by the counts, this message is the next one of its publisher
pub record Continues (t : Counted) (message : List ℕ) : Type 0 where
  pub whole : 8 ≤ length message
  pub known : publisher_of message < 8
  pub next : number_of message ≡ slice_index t.counts (publisher_of message)
