-- The words of a log that opens, by those of one that is connected and has no consumers.
use Rattle.std.specs.Prelude.{◌≡◌, ◌≢◌, ℕ, ◌<◌, List, length, slice_index}
use Rattle.log_rule.specs.Claims.Packs.{consumer_place, limit_place}

-- the limit stands at the start, with no flag, and so many consumers at the start
pub record Begun (start : ℕ) (words : List ℕ) (count : ℕ) (after : List ℕ) : Type 0 where
  pub wide : length after ≡ length words
  pub limit : slice_index after limit_place ≡ start
  pub consumers : (j : ℕ) → j < count → slice_index after (consumer_place j) ≡ start
  pub others : (i : ℕ) → i ≢ limit_place → ((j : ℕ) → j < count → i ≢ consumer_place j) → slice_index after i ≡ slice_index words i
