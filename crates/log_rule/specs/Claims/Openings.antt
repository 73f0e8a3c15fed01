-- The words of a log that opens.
use Rattle.std.specs.Prelude.{◌≡◌, ◌≢◌, ℕ, ◌+◌, ◌%◌, List, length, slice_index}
use Rattle.theory.specs.Position.{id_of}
use Rattle.theory.specs.Words.{id_before, tail_word}
use Rattle.log_rule.specs.Claims.Packs.{count_place, limit_place, table_length, tail_place}
use Rattle.log_rule.specs.Claims.Rule.{Bounds, first_of, shape_of, size_of}

-- neither the limit's place, nor that of the active count, nor one of a raw tail
pub record IsOther (b : Bounds) (i : ℕ) : Type 0 where
  pub limit : i ≢ limit_place
  pub count : i ≢ count_place
  pub here : i ≢ tail_place (first_of b)
  pub next : i ≢ tail_place (first_of b + 1)
  pub last : i ≢ tail_place (first_of b + 2)

-- the active count is that of the start, the other two tails have the ids of the two terms before, and all other words are zero
pub record Fresh (b : Bounds) (ws : List ℕ) : Type 0 where
  pub wide : length ws ≡ table_length (shape_of b)
  pub limit : slice_index ws limit_place ≡ b.word
  pub count : slice_index ws count_place ≡ first_of b
  pub here : slice_index ws (tail_place (first_of b)) ≡ tail_word (id_of (shape_of b) (first_of b)) (b.start % size_of b)
  pub next : slice_index ws (tail_place (first_of b + 1)) ≡ tail_word (id_before (shape_of b) (first_of b) 2) 0
  pub last : slice_index ws (tail_place (first_of b + 2)) ≡ tail_word (id_before (shape_of b) (first_of b) 1) 0
  pub others : (i : ℕ) → IsOther b i → slice_index ws i ≡ 0
