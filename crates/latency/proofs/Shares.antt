-- Products of a bounded number.
use Rattle.std.proofs.Common.{ℕ, ◌-◌, ◌*◌, ◌/◌, ◌<◌, ◌≤◌, ◌^◌, arith}
use Rattle.std.proofs.lemmas.Nat.{mul-le}

product_below : (a b most : ℕ) → a ≤ most → a * b ≤ most * b
product_below a b most few = mul-le a b most b few (omega arith)

-- so many thousandths of an index
pub index_fits : (a n : ℕ) → a ≤ 1000 → 1000 * n < 2 ^ 64 → a * (n - 1) < 2 ^ 64
index_fits a n few fits = let h = product_below a (n - 1) 1000 few in omega (arith, h)

index_below : (a last : ℕ) → a ≤ 1000 → a * last / 1000 ≤ last
index_below a last few = let h = product_below a last 1000 few in omega (arith, h)

pub index_inside : (a n : ℕ) → a ≤ 1000 → 0 < n → a * (n - 1) / 1000 < n
index_inside a n few some = let h = index_below a (n - 1) few in omega (arith, h)

-- the messages of eight publishers
pub eight_fit : (a b : ℕ) → a ≤ 8 → b < 2 ^ 32 → a * b < 2 ^ 36
eight_fit a b few fits = let h = product_below a b 8 few in omega (arith, h)
