-- What a publisher has to have seen for a refusal.
-- A refusal is justified by the words that the same call loaded or added to, not by the log. Each but `Closed` needs
-- a limit word that isn't closed. Where the active term is used up, where its partition has another term by then, or
-- where the addition passed its end, an offer is to be tried again (`AdminAction`); in the last term no offer fits
-- any more (`MaxPositionExceeded`).
use Rattle.std.specs.Prelude.{◌≡◌, ℕ, ◌+◌, ◌-◌, ◌*◌, ◌/◌, ◌%◌, ◌^◌, ◌<◌, ◌≤◌, ◌⊎◌, Bool, true, false, nat_eq, List, ◌∷◌, ◌++◌, pos}
use Rattle.theory.specs.Position.{Geometry, count_of, id_of}
use Rattle.theory.specs.Placed.{Among}
use Rattle.theory.specs.Words.{id_in, offset_in}

-- what a pass loaded or added to in a call
pub data Sight : Type 0 where
  SawLimit : (word : ℕ) → Sight
  SawCount : (count : ℕ) → Sight
  SawTail : (partition : ℕ) (word : ℕ) → Sight
  AddedTo : (partition : ℕ) (word : ℕ) → Sight

pub data Why : Type 0 where
  Closed : Why
  NotConnected : Why
  BackPressured : Why
  AdminAction : Why
  MaxPositionExceeded : Why

-- the limit in a limit word, without its two flags
abbrev pub limit_in : ℕ → ℕ
limit_in word = word / 4 * 4

abbrev pub is_connected : ℕ → Bool
is_connected word = nat_eq (word % 2) 1

abbrev pub is_closed : ℕ → Bool
is_closed word = nat_eq (word / 2 % 2) 1

-- the one sight came before the other
pub record Before (a b : Sight) (sights : List Sight) : Type 0 where
  pub front : List Sight
  pub middle : List Sight
  pub back : List Sight
  pub parts : sights ≡ (front ++ a ∷ middle) ++ b ∷ back

-- a tail of the active count, below the term's end, at or above the limit
pub record IsFull (g : Geometry) (sights : List Sight) (limit : ℕ) : Type 0 where
  pub count : ℕ
  pub word : ℕ
  pub order : Before (SawCount count) (SawTail (count % 3) word) sights
  pub id : id_in word ≡ id_of g count
  pub below : offset_in word < g.term_length
  pub reached : limit_in limit ≤ count * g.term_length + offset_in word

-- an active count, and behind it the tail of its partition with another id
pub record IsStale (g : Geometry) (sights : List Sight) : Type 0 where
  pub count : ℕ
  pub word : ℕ
  pub order : Before (SawCount count) (SawTail (count % 3) word) sights
  pub other : id_in word ≡ id_of g count → ⊥

-- an active count, and behind it its tail at the end of the term or above
pub record IsSeenFinished (g : Geometry) (sights : List Sight) (Which : ℕ → Type 0) : Type 0 where
  pub count : ℕ
  pub word : ℕ
  pub order : Before (SawCount count) (SawTail (count % 3) word) sights
  pub id : id_in word ≡ id_of g count
  pub over : g.term_length ≤ offset_in word
  pub which : Which count

-- an addition that passed the end of its term; the word is the one before it
pub record IsTripped (g : Geometry) (taken : ℕ) (sights : List Sight) (Which : ℕ → Type 0) : Type 0 where
  pub partition : ℕ
  pub word : ℕ
  pub count : ℕ
  pub among : Among (AddedTo partition word) sights
  pub id : count_of g (id_in word) ≡ pos count
  pub over : g.term_length < offset_in word + taken
  pub which : Which count

abbrev pub IsNotLast : ℕ → Type 0
IsNotLast n = n < 2 ^ 31 - 1

abbrev pub IsLast : ℕ → Type 0
IsLast n = n ≡ 2 ^ 31 - 1

-- by the limit word that was loaded; taken is the covered length
abbrev pub IsCause : Geometry → ℕ → List Sight → ℕ → Why → Type 0
IsCause g taken sights limit Closed = is_closed limit ≡ true
IsCause g taken sights limit NotConnected = (is_closed limit ≡ false) × (is_connected limit ≡ false) × IsFull g sights limit
IsCause g taken sights limit BackPressured = (is_closed limit ≡ false) × (is_connected limit ≡ true) × IsFull g sights limit
IsCause g taken sights limit AdminAction = (is_closed limit ≡ false) × (IsStale g sights ⊎ (IsSeenFinished g sights IsNotLast ⊎ IsTripped g taken sights IsNotLast))
IsCause g taken sights limit MaxPositionExceeded = (is_closed limit ≡ false) × (IsSeenFinished g sights IsLast ⊎ IsTripped g taken sights IsLast)

abbrev pub IsJustified : Geometry → ℕ → List Sight → Why → Type 0
IsJustified g taken sights why = (limit : ℕ) × Among (SawLimit limit) sights × IsCause g taken sights limit why
