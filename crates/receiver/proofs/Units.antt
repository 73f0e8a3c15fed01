-- A header names a position that is a multiple of 32.
use Rattle.std.proofs.Common.{◌≡◌, ℕ, suc, ◌*◌, ◌/◌, ◌%◌, refl, ap, arith, ℤ, pos, negsuc, ◌+ℤ◌, ◌*ℤ◌}
use Rattle.std.proofs.lemmas.Int.{ints}
use lib.IntN.{neg_ℤ}
use Rattle.theory.specs.Position.{Geometry, IsGeometry, count_of, position_of}
use Rattle.theory.proofs.Places.{power_unit}
use Rattle.image.specs.Stored.{IsUnit}

unit_by : (z : ℤ) → ((p : ℕ) → z ≡ pos p → p % 32 ≡ 0) → IsUnit z
unit_by (pos p) f = f p refl
unit_by (negsuc n) f = tt

pub whole_times : (a n : ℕ) → n % 32 ≡ 0 → (a * n) % 32 ≡ 0
whole_times a n h =
    let parts : n ≡ 32 * (n / 32) = omega arith in
    let product : a * n ≡ a * (32 * (n / 32)) = ap (λ x. a * x) parts in
    omega (arith, product)

unit_sum : (z : ℤ) (n o : ℕ) → n % 32 ≡ 0 → o % 32 ≡ 0 → IsUnit ((z *ℤ pos n) +ℤ pos o)
unit_sum (pos a) n o h k = let product : (a * n) % 32 ≡ 0 = whole_times a n h in omega arith
unit_sum (negsuc a) n o h k =
    let product : (suc a * n) % 32 ≡ 0 = whole_times (suc a) n h in
    below (suc a * n) product
  where
    below : (m : ℕ) → m % 32 ≡ 0 → IsUnit (neg_ℤ (pos m) +ℤ pos o)
    below m e = unit_by (neg_ℤ (pos m) +ℤ pos o) (λ p same. omega (arith, ints))

pub unit_position : (g : Geometry) (id : ℤ) (o : ℕ) → IsGeometry g → o % 32 ≡ 0 → IsUnit (position_of g id (pos o))
unit_position g id o legal k =
    unit_sum (count_of g id) g.term_length o (power_unit g.term_length legal.term.power legal.term.least) k
