-- A sender's SETUP opens an image of its geometry at its position; a SETUP has one fault at the most.
use Rattle.std.proofs.Common.{◌≡◌, ℕ, ◌+◌, ◌-◌, ◌*◌, ◌/◌, ◌%◌, ◌^◌, ◌<◌, ◌≤◌, ◌⊎◌, inl, inr, ⊎_elim, true, false, refl, sym, ap, ◌∙◌, subst, arith}
use Rattle.std.specs.Prelude.{nat_le, pos}
use Rattle.std.proofs.lemmas.Bool.{cases_Bool, cases_lt, cond-true, cond-false, leb-true, leb-false}
use Rattle.std.proofs.lemmas.Nat.{div-add-mod'}
use Rattle.std.proofs.Math.Nat.{mul-le-mul_right}
use Rattle.theory.specs.Position.{Geometry, IsGeometry, max_position, Place, place_of}
use Rattle.theory.specs.Wire.{Setup}
use Rattle.theory.specs.Image.{IsWindow}
use Rattle.theory.specs.Setup.{BadGeometry, BadPosition, BadWindow, HasSetupFault, NamesGeometry, NamesPosition, OpensAt, SetupFault}
use Rattle.theory.specs.SenderLaws.{HasOneFault, SetupOpens}
use Rattle.theory.proofs.Named.{counts}
use Rattle.theory.proofs.Places.{mod_unit, power_unit}

-- a place is within its term, a whole number of units, and adds to the position
record IsAt (g : Geometry) (p : ℕ) (x : Place) : Type 0 where
  low : x.count < 2 ^ 31
  unit : x.offset % 32 ≡ 0
  inside : (x.offset < g.term_length) ⊎ ((x.offset ≡ g.term_length) × (x.count ≡ 2 ^ 31 - 1))
  here : p ≡ x.count * g.term_length + x.offset

place_is : (g : Geometry) (p : ℕ) → IsGeometry g → p ≤ max_position g → p % 32 ≡ 0 → IsAt g p (place_of g p)
place_is g p is le unit =
    let units : g.term_length % 32 ≡ 0 = power_unit g.term_length is.term.power is.term.least in
    let long : 0 < g.term_length = omega (arith, is.term.least) in
    ⊎_elim
    (λ (t : nat_le (max_position g) p ≡ true).
    let most : max_position g ≤ p = leb-true (max_position g) p t in
    subst (IsAt g p) (sym (cond-true (nat_le (max_position g) p) (record { count = 2 ^ 31 - 1; offset = g.term_length }) (record { count = p / g.term_length; offset = p % g.term_length }) t))
    (record { low = omega arith; unit = units; inside = inr (refl, refl); here = omega arith }))
    (λ (f : nat_le (max_position g) p ≡ false).
    let less : p < max_position g = leb-false (max_position g) p f in
    let offset : (p % g.term_length) % 32 ≡ 0 = mod_unit p g.term_length long units unit in
    let parts : p / g.term_length * g.term_length + p % g.term_length ≡ p = div-add-mod' p g.term_length in
    subst (IsAt g p) (sym (cond-false (nat_le (max_position g) p) (record { count = 2 ^ 31 - 1; offset = g.term_length }) (record { count = p / g.term_length; offset = p % g.term_length }) f))
    (record { low = count_low less parts; unit = offset; inside = inl (omega arith); here = sym parts }))
    (cases_Bool (nat_le (max_position g) p))
  where
    count_low : p < max_position g → p / g.term_length * g.term_length + p % g.term_length ≡ p → p / g.term_length < 2 ^ 31
    count_low less parts =
        ⊎_elim
        (λ (a : p / g.term_length < 2 ^ 31). a)
        (λ (a : 2 ^ 31 ≤ p / g.term_length). let past : 2 ^ 31 * g.term_length ≤ p / g.term_length * g.term_length = mul-le-mul_right g.term_length a in absurd (omega arith))
        (cases_lt (p / g.term_length) (2 ^ 31))

pub setup_opens : SetupOpens
setup_opens i p window is le unit w =
    let x : IsAt i.geometry p (place_of i.geometry p) = place_is i.geometry p is le unit in
    record {
      geometry = record { term_length = refl; mtu = refl; initial = refl; legal = is };
      position = record {
        count = (place_of i.geometry p).count;
        offset = (place_of i.geometry p).offset;
        counted = counts i.geometry (place_of i.geometry p).count is.initial x.low;
        placed = refl;
        unit = x.unit;
        inside = x.inside;
        here = x.here;
      };
      window = w;
    }

-- ---- one fault

-- its numbers are one geometry
pub one_geometry : (f : Setup) (g h : Geometry) → NamesGeometry f g → NamesGeometry f h → g ≡ h
one_geometry f g h n m =
    let terms : pos g.term_length ≡ pos h.term_length = sym n.term_length ∙ m.term_length in
    let mtus : pos g.mtu ≡ pos h.mtu = sym n.mtu ∙ m.mtu in
    let term : g.term_length ≡ h.term_length = cc in
    let mtu : g.mtu ≡ h.mtu = cc in
    ap (λ x. record g { term_length = x }) term ∙ ap (λ x. record g { term_length = h.term_length; mtu = x }) mtu ∙ ap (λ x. record h { initial_term_id = x }) (sym n.initial ∙ m.initial)

same_place : (f : Setup) (g h : Geometry) (p : ℕ) → NamesGeometry f g → NamesGeometry f h → NamesPosition f g p → NamesPosition f h p
same_place f g h p n m = subst (λ x. NamesPosition f x p) (one_geometry f g h n m)

no_other : (f : Setup) (window : ℕ) (a b : SetupFault) → HasSetupFault f window a → HasSetupFault f window b → a ≡ b
no_other f window BadGeometry BadGeometry x y = refl
no_other f window BadGeometry BadPosition x y = absurd (x y.0 y.1)
no_other f window BadGeometry BadWindow x y = absurd (x y.0 y.2)
no_other f window BadPosition BadGeometry x y = absurd (y x.0 x.1)
no_other f window BadPosition BadPosition x y = refl
no_other f window BadPosition BadWindow x y = absurd (x.2 y.1 (same_place f y.0 x.0 y.1 y.2 x.1 y.3))
no_other f window BadWindow BadGeometry x y = absurd (y x.0 x.2)
no_other f window BadWindow BadPosition x y = absurd (y.2 x.1 (same_place f x.0 y.0 x.1 x.2 y.1 x.3))
no_other f window BadWindow BadWindow x y = refl

opens_none : (f : Setup) (window : ℕ) (a : SetupFault) → HasSetupFault f window a → (g : Geometry) (p : ℕ) → OpensAt f window g p → ⊥
opens_none f window BadGeometry x g p o = x g o.geometry
opens_none f window BadPosition x g p o = x.2 p (same_place f g x.0 p o.geometry x.1 o.position)
opens_none f window BadWindow x g p o = x.4 (subst (λ h. IsWindow h.term_length h.mtu window) (one_geometry f g x.0 o.geometry x.2) o.window)

pub one_fault : HasOneFault
one_fault f window a x = (λ b y. no_other f window a b x y, λ g p o. opens_none f window a x g p o)
