-- Positions at which a log may start.
use Rattle.std.proofs.Common.{◌≡◌, ◌∙◌, ℕ, suc, ◌+◌, ◌*◌, ◌/◌, ◌%◌, ◌^◌, ◌<◌, ◌≤◌, pos, arith, refl, ap, subst, sym}
use Rattle.std.proofs.Math.Nat.{mul-add-mod_self_left, mul-le-mul_left, mul-suc, mul_comm, mul_left_comm}
use Rattle.theory.specs.Position.{Geometry, count_of}
use Rattle.position.specs.Openings.{IsStart}
use Rattle.channel.specs.declared.channel.Start.{Start}
use Rattle.options.specs.Ends.Plans.{IsPlace}

pub first : (g : Geometry) → 0 < g.term_length → IsStart g 0
first g some = (refl, omega (arith, some))

below : (count term offset : ℕ) → count < 2 ^ 31 → offset < term → count * term + offset < term * 2 ^ 31
below count term offset few inside =
    let scaled : term * suc count ≤ term * 2 ^ 31 = mul-le-mul_left term (omega (arith, few)) in
    let turned : count * term ≡ term * count = mul_comm count term in
    let one_more : term * suc count ≡ term * count + term = mul-suc term count in
    omega (arith, inside, scaled, turned, one_more)

unit_of : (count term offset : ℕ) → term % 65536 ≡ 0 → offset % 32 ≡ 0 → (count * term + offset) % 32 ≡ 0
unit_of count term offset whole unit =
    let k = term / 32 in
    let cut : term ≡ 32 * k = omega (arith, whole) in
    let moved : count * term ≡ 32 * (count * k) = ap (λ t. count * t) cut ∙ mul_left_comm count 32 k in
    ap (λ x. (x + offset) % 32) moved ∙ mul-add-mod_self_left 32 (count * k) offset ∙ unit

named : (g : Geometry) (count offset : ℕ) → g.term_length % 65536 ≡ 0 → count < 2 ^ 31 → offset % 32 ≡ 0 → offset < g.term_length → IsStart g (count * g.term_length + offset)
named g count offset whole few unit inside = (unit_of count g.term_length offset whole unit, below count g.term_length offset few inside)

pub placed : (g : Geometry) (s : Start) (count at : ℕ) → g.term_length % 65536 ≡ 0 → count_of g s.term_id ≡ pos count → count < 2 ^ 31 → s.term_offset % 32 ≡ 0 → s.term_offset < g.term_length → at ≡ count * g.term_length + s.term_offset → IsPlace s g at × IsStart g at
placed g s count at whole counted few unit inside here = (
  record { count = count; counted = counted; unit = unit; inside = inside; here = here },
  subst (IsStart g) (sym here) (named g count s.term_offset whole few unit inside),
)
