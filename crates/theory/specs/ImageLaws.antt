-- Laws on images, whatever frames they are given.
use Rattle.std.specs.Prelude.{◌≡◌, ℕ, ◌+◌, ◌*◌, ◌/◌, ◌<◌, ◌≤◌, ◌⊎◌, ⊤, List, map, min, nat_le, pos, negsuc}
use Rattle.std.specs.List.{AllByRecursion, filter}
use Rattle.theory.specs.Position.{Geometry, max_position}
use Rattle.theory.specs.Placed.{Among, IsReached, Placed, end_of}
use Rattle.theory.specs.Units.{IsContiguous}
use Rattle.theory.specs.Insert.{AreApart, Head, head_of, insert_answer}
use Rattle.theory.specs.Image.{Heartbeat, Image, ImageEvent, ImageRun, Inserted, Lose, Poll, image_at}

-- it holds of every image after every list of events, whatever frames were given
abbrev pub ImageAlways : (Geometry → Image → Type 0) → Type 0
ImageAlways Holds = (g : Geometry) (given : List Placed) (join window consumers : ℕ) (events : List ImageEvent) (i : Image) → ImageRun g given (image_at join window consumers) events i → Holds g i

-- the stored frames never overlap
abbrev pub IsApart : Geometry → Image → Type 0
IsApart g i = AreApart (map head_of i.stored)

-- no frame lies on both sides of m
abbrev pub AreParted : ℕ → List Placed → Type 0
AreParted m frames = AllByRecursion (λ t. t.at < m → end_of t ≤ m) frames

-- a position that a consumer reached lies inside no stored frame
abbrev pub IsParted : Geometry → Image → Type 0
IsParted g i = (m : ℕ) → IsReached i.stored i.join m → AreParted m i.stored

-- the mark is the join, the end of a stored frame, or within three quarters of a term above each consumer; and nothing stored is above it
pub record IsMarked (g : Geometry) (i : Image) : Type 0 where
  pub above : AllByRecursion (λ s. end_of s ≤ i.high) i.stored
  pub from : i.join ≤ i.high
  pub reached : (i.high ≡ i.join) ⊎ (((s : Placed) × Among s i.stored × (i.high ≡ end_of s)) ⊎ AllByRecursion (λ r. i.high ≤ r.at + 3 * g.term_length / 4) i.consumers)

-- a heartbeat that a mark may rise to, where the least consumer stands here
abbrev pub IsNear : Geometry → ℕ → ℕ → Type 0
IsNear g least p = p ≤ min (least + 3 * g.term_length / 4) (max_position g)

abbrev pub IsHeard : Geometry → ℕ → ImageEvent → Type 0
IsHeard g high (Heartbeat least (pos p)) = IsNear g least p → p ≤ high
IsHeard g high (Heartbeat least (negsuc n)) = ⊤
IsHeard g high (Inserted least s) = ⊤
IsHeard g high (Poll which past) = ⊤
IsHeard g high (Lose which past) = ⊤

-- the mark is the greatest of its sources: the join, the ends of the stored frames, and the heartbeats that were near enough
pub record IsGreatestMark (g : Geometry) (events : List ImageEvent) (i : Image) : Type 0 where
  pub stored : AllByRecursion (λ s. end_of s ≤ i.high) i.stored
  pub join : i.join ≤ i.high
  pub heard : AllByRecursion (IsHeard g i.high) events
  pub reached : (i.high ≡ i.join) ⊎ (((s : Placed) × Among s i.stored × (i.high ≡ end_of s)) ⊎ ((least : ℕ) × Among (Heartbeat least (pos i.high)) events × IsNear g least i.high))

abbrev pub MarkIsGreatest : Type 0
MarkIsGreatest = (g : Geometry) (given : List Placed) (join window consumers : ℕ) (events : List ImageEvent) (i : Image) → ImageRun g given (image_at join window consumers) events i → IsGreatestMark g events i

-- the frames from m on
abbrev pub held : ℕ → List Placed → List Placed
held m frames = filter (λ t. nat_le m t.at) frames

-- frames below a position that lies inside none of them may be forgotten: what insert answers is the same
abbrev pub AnswersWithout : Type 0
AnswersWithout = (g : Geometry) (frames : List Placed) (m window : ℕ) (h : Head) → AreParted m frames → insert_answer g (map head_of frames) m window h ≡ insert_answer g (map head_of (held m frames)) m window h

-- and so is the contiguous end, counted from there
abbrev pub ReachesWithout : Type 0
ReachesWithout = (frames : List Placed) (j q m passed : ℕ) → m ≡ j + 32 * passed → m ≤ q → AreParted m frames → IsContiguous frames j q → IsContiguous (held m frames) m q
