-- A SETUP names a position at which an image may open.
use Rattle.std.proofs.Common.{◌≡◌, ℕ, ◌+◌, ◌-◌, ◌*◌, ◌%◌, ◌^◌, ◌<◌, ◌≤◌, ⊎_elim, subst, arith, ℤ, pos, FitsSigned, Fits}
use Rattle.std.specs.Int.{w32, cast_unsigned}
use Rattle.std.proofs.Math.Nat.{mul-le-mul_right}
use Rattle.std.proofs.lemmas.Int.{ints}
use Rattle.std.proofs.Math.Facts.{sfits_to_z}
use Rattle.theory.specs.Position.{Geometry, IsGeometry, count_of}
use Rattle.theory.specs.Setup.{NamesPosition, OpensAt}
use Rattle.theory.specs.Wire.{Setup}
use Rattle.image.specs.Seen.{IsJoin}
use Rattle.theory.proofs.Places.{power_unit}
use Rattle.receiver.proofs.Units.{whole_times}

count_low : (g : Geometry) (id : ℤ) (n : ℕ) → count_of g id ≡ pos n → n < 2 ^ 31
count_low g id n e =
    let fits : FitsSigned w32 (count_of g id) = sfits_to_z (low ((cast_unsigned w32 id + (4294967296 - cast_unsigned w32 g.initial_term_id)) % 4294967296) (omega arith)) in
    let small : FitsSigned w32 (pos n) = subst (FitsSigned w32) e fits in
    omega (arith, ints)
  where
    low : (m : ℕ) → m < 4294967296 → Fits w32 m
    low m l = record { fits = l }

pub opens_join : (f : Setup) (width : ℕ) (g : Geometry) (p : ℕ) → OpensAt f width g p → IsJoin g p
opens_join f width g p opens =
    let h : NamesPosition f g p = opens.position in
    let legal : IsGeometry g = opens.geometry.legal in
    let long : 65536 ≤ g.term_length = legal.term.least in
    let whole : (h.count * g.term_length) % 32 ≡ 0 = whole_times h.count g.term_length (power_unit g.term_length legal.term.power long) in
    let unit : h.offset % 32 ≡ 0 = h.unit in
    let here : p ≡ h.count * g.term_length + h.offset = h.here in
    let few : h.count < 2 ^ 31 = count_low g f.active_term_id h.count h.counted in
    let inside : h.offset ≤ g.term_length = ⊎_elim (λ (l : h.offset < g.term_length). omega arith) (λ (e : (h.offset ≡ g.term_length) × (h.count ≡ 2 ^ 31 - 1)). let same : h.offset ≡ g.term_length = e.0 in omega arith) h.inside in
    let most : (h.count + 1) * g.term_length ≤ 2 ^ 31 * g.term_length = mul-le-mul_right g.term_length (omega arith) in
    record { unit = omega arith; within = omega arith }
