-- What figures of rounds tell.
use Rattle.std.specs.Prelude.{◌≡◌, ℕ, ◌/◌, List, IsPermutation, IsSorted, IfSome, None, Option, length, slice_index, slice_index_or}
use Rattle.std.specs.Ordering.{nat_cmp}
use Rattle.speed.specs.declared.samples.All.{All}
use Rattle.speed.specs.declared.sampling.Figures.{Figures}
use Rattle.speed.specs.declared.samples.Samples.{Samples}

-- the middle one of some figures that stand in any order
pub record IsMedian (figures : List ℕ) (median : ℕ) : Type 0 where
  pub sorted : List ℕ
  pub permutation : IsPermutation figures sorted
  pub in_order : IsSorted nat_cmp sorted
  pub middle : median ≡ slice_index sorted (length sorted / 2)

-- the medians of samples, with as many threads
pub record AreFigures (s : Samples) (f : Figures) : Type 0 where
  pub threads : f.threads ≡ s.threads
  pub claim : IsMedian s.claims.items f.claim
  pub stores : IsMedian s.stores.items f.stores

-- with 1, 2, 4 and 8 threads
pub record ByTurns (all : All) : Type 0 where
  pub one : all.one.threads ≡ 1
  pub two : all.two.threads ≡ 2
  pub four : all.four.threads ≡ 4
  pub eight : all.eight.threads ≡ 8

abbrev pub IsOf : List (Option Figures) → ℕ → ℕ → Type 0
IsOf figures place threads = IfSome (slice_index_or figures place None) (λ f. f.threads ≡ threads)

-- those of 1, 2, 4 and 8 threads, where there are any
pub record AreByTurns (figures : List (Option Figures)) : Type 0 where
  pub one : IsOf figures 0 1
  pub two : IsOf figures 1 2
  pub four : IsOf figures 2 4
  pub eight : IsOf figures 3 8
