-- The terms of a log, and how the raw tails and the active count show them.
use Rattle.std.specs.Prelude.{◌≡◌, ℕ, ◌+◌, ◌-◌, ◌*◌, ◌%◌, ◌^◌, ◌<◌, ◌≤◌, List, slice_index, min}
use Rattle.theory.specs.Position.{Geometry, id_of}
use Rattle.theory.specs.Words.{id_before, tail_word}
use Rattle.log_rule.specs.Claims.Packs.{count_place, tail_place}

-- the newest count, and for each count the bytes that were added to its tail, which pass the term's length where it is full
pub record Terms : Type 0 where
  pub newest : ℕ
  pub offset : ℕ → ℕ

-- the end of what was claimed
abbrev pub claimed_to : Geometry → Terms → ℕ
claimed_to g t = t.newest * g.term_length + min (t.offset t.newest) g.term_length

-- the term of this count is used up
abbrev pub Full : Geometry → ℕ → Terms → ℕ → Type 0
Full g first t count = (first ≤ count) × (count ≤ t.newest) × (g.term_length ≤ t.offset count)

-- the terms from the first one on follow each other, and each but the newest is full
pub record Turns (g : Geometry) (first : ℕ) (t : Terms) : Type 0 where
  pub from : first ≤ t.newest
  pub to : t.newest < 2 ^ 31
  pub done : (k : ℕ) → first ≤ k → k < t.newest → g.term_length ≤ t.offset k
  pub after : (k : ℕ) → t.newest < k → t.offset k ≡ 0
  pub units : (k : ℕ) → t.offset k % 32 ≡ 0

-- the raw tail of each of the three newest counts has its id and its offset; where there are fewer, the others have the ids of counts before 0
pub record Tailed (g : Geometry) (first : ℕ) (t : Terms) (words : List ℕ) : Type 0 where
  pub turns : Turns g first t
  pub active : (first ≤ slice_index words count_place) × (slice_index words count_place ≤ t.newest)
  pub tails : (k : ℕ) → k ≤ t.newest → t.newest ≤ k + 2 → slice_index words (tail_place k) ≡ tail_word (id_of g k) (t.offset k)
  pub unused : (back : ℕ) → t.newest < back → back < 3 → slice_index words (tail_place (t.newest + 3 - back)) ≡ tail_word (id_before g t.newest back) 0
