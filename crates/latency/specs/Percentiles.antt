-- Which samples are the percentiles.
use Rattle.std.specs.Prelude.{◌≡◌, ℕ, ◌-◌, ◌*◌, ◌/◌, List, IsPermutation, IsSorted, length, slice_index}
use Rattle.std.specs.Ordering.{nat_cmp}
use Rattle.latency.specs.declared.percentiles.Percentiles.{Percentiles}

-- the one at the index that is so many thousandths of the last one's, rounded down
abbrev pub percentile_of : List ℕ → ℕ → ℕ
percentile_of sorted thousandths = slice_index sorted (thousandths * (length sorted - 1) / 1000)

pub record ArePercentiles (sorted : List ℕ) (p : Percentiles) : Type 0 where
  pub p50 : p.p50 ≡ percentile_of sorted 500
  pub p90 : p.p90 ≡ percentile_of sorted 900
  pub p99 : p.p99 ≡ percentile_of sorted 990
  pub p999 : p.p999 ≡ percentile_of sorted 999
  pub greatest : p.greatest ≡ percentile_of sorted 1000

-- of samples that stand in any order
pub record ArePercentilesOf (samples : List ℕ) (p : Percentiles) : Type 0 where
  pub sorted : List ℕ
  pub permutation : IsPermutation samples sorted
  pub in_order : IsSorted nat_cmp sorted
  pub are : ArePercentiles sorted p
