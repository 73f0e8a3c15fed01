-- The words and slots of a log that opens.
use Rattle.std.specs.Prelude.{◌≡◌, ◌≢◌, ℕ, ◌+◌, ◌-◌, ◌*◌, ◌/◌, ◌%◌, ◌<◌, ◌≤◌, List, [], length, replicate, slice_index, slice_set, take}
use mathlib.Core.Option.{some}
use Rattle.atomic_table.specs.Seated.{TableId}
use lib.ListN.{get_elem?}
use Rattle.theory.specs.Bytes.{Identity}
use Rattle.theory.specs.Position.{id_of}
use Rattle.theory.specs.Words.{id_before, tail_word}
use Rattle.region.specs.Identity as regions
use Rattle.region.specs.declared.access.Access.{Access}
use Rattle.region.specs.declared.access.WriteAccess.{WriteAccess}
use Rattle.log_rule.specs.declared.rule.Key.{Key}
use Rattle.log_rule.specs.Claims.Packs.{consumer_place, count_place, limit_place, tail_place}
use Rattle.log_rule.specs.Claims.Openings.{Fresh}
use Rattle.log_rule.specs.Claims.Plays.{bounds_of}
use Rattle.log_rule.specs.Claims.Rule.{Sound}
use Rattle.log_rule.specs.Opening.{Begun}
use Rattle.log_memory.specs.declared.view.Site.{Site}
use Rattle.log_memory.specs.Rule.{IsRoom, ring, whole_seat}
use Rattle.log_memory.specs.Kinds.{IsSeatOf}
use Rattle.log_memory.specs.Steps.{Mine}

-- each unit's first slot has the right to write it, which is zeros
pub record SlotsBegun (t : Site) (slots : List Access) : Type 0 where
  pub long : length slots ≡ 8 * ring t
  pub room : (k : ℕ) → k % 8 ≡ 0 → k < 8 * ring t → (g : Access) × (get_elem? slots k ≡ some g) × IsRoom t k g

-- the stream's words are those of a log that opens, of which the table has the control words and one for each unit
pub record WordsBegun (t : Site) (words : List ℕ) : Type 0 where
  pub sound : Sound (bounds_of (record { identity = t.key.identity; start = t.key.start }))
  pub some : 0 < t.key.consumers
  pub few : t.key.consumers ≤ 8
  pub fresh : List ℕ
  pub is_fresh : Fresh (bounds_of (record { identity = t.key.identity; start = t.key.start })) fresh
  pub stream : List ℕ
  pub begun : Begun t.key.start fresh t.key.consumers stream
  pub front : words ≡ take (208 + ring t) stream

-- ---- as they are made

-- the right to write the unit whose first slot has this number, which is zeros
pub record IsUnitOf (region : regions.Identity) (k : ℕ) (g : Access) : Type 0 where
  pub identity : g.write.identity ≡ region
  pub at : g.write.at ≡ 4 * k
  pub zeros : g.write.items ≡ replicate 32 0

-- what is left of the right to write a region of so many units, all zeros, once so many slots have theirs
pub record IsLeft (units slot : ℕ) (w : WriteAccess) : Type 0 where
  pub at : w.at ≡ 32 * ((slot + 7) / 8)
  pub zeros : w.items ≡ replicate (32 * (units - (slot + 7) / 8)) 0

-- eight slots for each of so many units, of which the first has the right to write it
pub record AreRooms (region : regions.Identity) (count : ℕ) (slots : List Access) : Type 0 where
  pub long : length slots ≡ 8 * count
  pub room : (k : ℕ) → k % 8 ≡ 0 → k < 8 * count → (g : Access) × (get_elem? slots k ≡ some g) × IsUnitOf region k g

-- the limit and the active count, and the three raw tails, among so many words that are zero else
abbrev pub control_words : Identity → ℕ → ℕ → List ℕ
control_words identity start n =
    let g = identity.geometry in let count = start / g.term_length in
    slice_set (slice_set (slice_set (slice_set (slice_set (replicate n 0) limit_place start) count_place count) (tail_place count) (tail_word (id_of g count) (start % g.term_length))) (tail_place (count + 1)) (tail_word (id_before g count 2) 0)) (tail_place (count + 2)) (tail_word (id_before g count 1) 0)

-- so many consumers stand at a position then, and all else is as it was
pub record StandAt (position : ℕ) (words : List ℕ) (count : ℕ) (after : List ℕ) : Type 0 where
  pub wide : length after ≡ length words
  pub consumers : (j : ℕ) → j < count → slice_index after (consumer_place j) ≡ position
  pub others : (i : ℕ) → ((j : ℕ) → j < count → i ≢ consumer_place j) → slice_index after i ≡ slice_index words i

abbrev pub IsFirstWords : Key → ℕ → List ℕ → Type 0
IsFirstWords key n words = StandAt key.start (control_words key.identity key.start n) key.consumers words

-- a log's table with its first seat, which has all
pub record IsOpened (key : Key) (site : Site) (table seat : TableId) (m : Mine) : Type 0 where
  pub site_is : site.key ≡ key
  pub of : IsSeatOf site table seat
  pub first : m ≡ (whole_seat site, [])
