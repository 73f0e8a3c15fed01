-- What contracts see of an inserter that rebuilds a stream, and what holds of each.
use Rattle.std.specs.Prelude.{◌≡◌, ℕ, suc, ◌+◌, ◌*◌, ◌%◌, ◌<◌, ◌≤◌, max, List, ◌∷◌, map, length, slice_index}
use Rattle.std.specs.List.{AllByRecursion}
use Rattle.theory.specs.Image.{IsWindow}
use Rattle.theory.specs.Insert.{AreApart, head_of}
use Rattle.theory.specs.Placed.{Placed, covered, end_of, frame_length}
use Rattle.theory.specs.Position.{Geometry, IsGeometry, max_position}
use Rattle.theory.specs.Units.{HasUnit, IsContiguous}
use Rattle.image.specs.Seen.{IsFit, IsJoin, least}
use Rattle.image_rule.specs.declared.view.Key.{Key}
use Rattle.image.specs.Handles.{ImageId, ImageWords, InserterSeat, floor_of, seen_by, stored_by}

pub record Inserting : Type 0 where
  -- which image it is of, and what that was told: the stream, the unit at which it joins, and how many consumers it has
  pub of : ImageId
  pub key : Key
  pub window : ℕ
  -- all frames that were ever stored, newest first
  pub stored : List Placed
  -- the high-water mark
  pub high : ℕ
  -- the position below which nothing is held any more
  pub floor : ℕ
  -- where it saw the consumers last, and how often it looked at each
  pub seen : List ℕ
  pub looks : List ℕ
  -- the readers below this number haven't been dealt yet
  pub undealt : ℕ

abbrev pub geometry_of : Inserting → Geometry
geometry_of i = i.key.identity.geometry

abbrev pub join_of : Inserting → ℕ
join_of i = 32 * i.key.join

-- by what its seat knows
abbrev pub inserting : InserterSeat → ℕ → ℕ → Inserting
inserting n window high = record { of = n.of; key = n.key; window = window; stored = stored_by n; high = high; floor = floor_of n; seen = seen_by n; looks = n.view.looks; undealt = n.view.undealt }

pub record IsInserterOf (image : ImageWords) (i : Inserting) : Type 0 where
  pub of : i.of ≡ image.of
  pub key : i.key ≡ image.key

-- it looked once at each consumer, and holds nothing more below the least position that it read, which isn't below the floor
-- before; these frames were stored then, and this is the mark
pub record Looked (i : Inserting) (stored : List Placed) (high : ℕ) (j : Inserting) : Type 0 where
  pub after : j ≡ record i { stored = stored; high = high; floor = j.floor; seen = j.seen; looks = j.looks }
  pub floor : j.floor ≡ least j.seen
  pub rises : i.floor ≤ j.floor
  pub looked : (n : ℕ) → n < i.key.consumers → slice_index j.looks n ≡ suc (slice_index i.looks n)
  pub all : length j.seen ≡ length i.seen
  pub forward : (n : ℕ) → slice_index i.seen n ≤ slice_index j.seen n

-- frames in whole units, of which each covers something, and no two overlap
pub record AreLaid (frames : List Placed) : Type 0 where
  pub units : AllByRecursion (λ s. s.at % 32 ≡ 0) frames
  pub full : AllByRecursion (λ s. 0 < covered s) frames
  pub apart : AreApart (map head_of frames)

-- what always holds of an inserter
pub record IsRebuilding (i : Inserting) (rebuilt : ℕ) : Type 0 where
  pub geometry : IsGeometry (geometry_of i)
  pub joined : IsJoin (geometry_of i) (join_of i)
  pub window : IsWindow (geometry_of i).term_length (geometry_of i).mtu i.window
  pub fit : AllByRecursion (IsFit (geometry_of i).term_length i.high) i.stored
  pub apart : AreApart (map head_of i.stored)
  pub from : AllByRecursion (λ s. join_of i ≤ s.at) i.stored
  pub contiguous : IsContiguous i.stored (join_of i) rebuilt
  pub floor_from : join_of i ≤ i.floor
  pub floor : i.floor ≤ rebuilt
  pub mark : rebuilt ≤ i.high
  pub high : i.high ≤ max_position (geometry_of i)
  pub near : i.high ≤ i.floor + 2 * (geometry_of i).term_length
  pub count : length i.seen ≡ i.key.consumers
  pub some : 0 < i.key.consumers
  pub behind : AllByRecursion (λ p. (join_of i ≤ p) × (p ≤ rebuilt)) i.seen

-- a frame that may be stored above others, from a floor on
pub record FitsIn (g : Geometry) (floor : ℕ) (stored : List Placed) (s : Placed) : Type 0 where
  pub unit : s.at % 32 ≡ 0
  pub long : 32 ≤ frame_length s.frame
  pub in_term : s.at % g.term_length + covered s ≤ g.term_length
  pub from : floor ≤ s.at
  pub low : end_of s ≤ max_position g
  pub near : end_of s ≤ floor + 2 * g.term_length
  pub free : (p : ℕ) → s.at ≤ p → p < end_of s → HasUnit stored p → ⊥

-- one frame more was stored
abbrev pub with_frame : Inserting → Placed → Inserting
with_frame i s = record i { stored = s ∷ i.stored; high = max i.high (end_of s) }

-- it looked once at each consumer, and stored one frame more
abbrev pub Inserts : Inserting → Placed → Inserting → Type 0
Inserts i s j = Looked i (s ∷ i.stored) (max i.high (end_of s)) j
