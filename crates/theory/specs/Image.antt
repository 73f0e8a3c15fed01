-- An image, and what may happen to it.
-- An image changes by frames that it stores, by heartbeats, and by consumers that move. A heartbeat above the
-- high-water mark, and at most three quarters of a term above the least consumer, raises the mark and stores no unit.
use Rattle.std.specs.Prelude.{◌≡◌, ℕ, ◌+◌, ◌*◌, ◌/◌, ◌%◌, ◌≤◌, Bool, false, ◌&&◌, List, [], ◌∷◌, map, min, max, nat_le, nat_lt, if◌then◌else◌, replicate, Some, slice_get, slice_set, ℤ, pos, negsuc}
use Rattle.std.specs.List.{AllByRecursion}
use Rattle.theory.specs.Position.{Geometry, max_position}
use Rattle.theory.specs.Placed.{Among, Placed, end_of}
use Rattle.theory.specs.Consumer.{Consumer, MayMove, consumer_at, moved, passed_by}
use Rattle.theory.specs.Insert.{Below, CrossesTerm, Duplicate, Insert, OverWindow, Overlap, Stored, head_of, insert_answer}

-- all frames that it ever stored, newest first, and its high-water mark
pub record Image : Type 0 where
  pub join : ℕ
  pub window : ℕ
  pub stored : List Placed
  pub high : ℕ
  pub consumers : List Consumer

pub record IsWindow (term_length mtu window : ℕ) : Type 0 where
  pub unit : window % 32 ≡ 0
  pub least : mtu ≤ window
  pub greatest : window ≤ term_length / 2

abbrev pub image_at : ℕ → ℕ → ℕ → Image
image_at join window consumers = record { join = join; window = window; stored = []; high = join; consumers = replicate consumers (consumer_at join) }

-- the image after that answer
abbrev pub after_insert : Image → Placed → Insert → Image
after_insert i s Stored = record i { stored = s ∷ i.stored; high = max i.high (end_of s) }
after_insert i s CrossesTerm = i
after_insert i s Below = i
after_insert i s OverWindow = i
after_insert i s Duplicate = i
after_insert i s Overlap = i

-- least is the least consumer position that the call read
abbrev pub is_accepted : Geometry → ℕ → ℕ → ℕ → Bool
is_accepted g high least p = nat_lt high p && nat_le p (min (least + 3 * g.term_length / 4) (max_position g))

-- a heartbeat at a negative position is never accepted
abbrev pub after_heartbeat : Geometry → Image → ℕ → ℤ → Image
after_heartbeat g i least (pos p) = if is_accepted g i.high least p then record i { high = p } else i
after_heartbeat g i least (negsuc n) = i

pub data ImageEvent : Type 0 where
  Inserted : (least : ℕ) (frame : Placed) → ImageEvent
  Heartbeat : (least : ℕ) (position : ℤ) → ImageEvent
  Poll : (consumer : ℕ) (past : Placed) → ImageEvent
  Lose : (consumer : ℕ) (past : Placed) → ImageEvent

-- a position that a call read as the least: no consumer is below it now
pub record IsLeast (i : Image) (least : ℕ) : Type 0 where
  pub low : i.join ≤ least
  pub all : AllByRecursion (λ r. least ≤ r.at) i.consumers

-- of an image that may be given these frames
abbrev pub ImageStep : Geometry → List Placed → Image → ImageEvent → Image → Type 0
ImageStep g given old (Inserted least s) new = Among s given × IsLeast old least × (new ≡ after_insert old s (insert_answer g (map head_of old.stored) least old.window (head_of s)))
ImageStep g given old (Heartbeat least p) new = IsLeast old least × (new ≡ after_heartbeat g old least p)
ImageStep g given old (Poll which past) new =
    (r : Consumer) × (slice_get old.consumers which ≡ Some r) × MayMove old.stored past r × (r.lost ≡ false) × (new ≡ record old { consumers = slice_set old.consumers which (moved r past) })
ImageStep g given old (Lose which past) new =
    (r : Consumer) × (slice_get old.consumers which ≡ Some r) × MayMove old.stored past r × (new ≡ record old { consumers = slice_set old.consumers which (passed_by r past) })

abbrev pub ImageRun : Geometry → List Placed → Image → List ImageEvent → Image → Type 0
ImageRun g given old [] new = new ≡ old
ImageRun g given old (e ∷ es) new = (mid : Image) × ImageStep g given old e mid × ImageRun g given mid es new
