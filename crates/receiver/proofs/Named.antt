-- Where the position stands that a SETUP names, and where it names none.
use Rattle.std.proofs.Common.{◌≡◌, ℕ, ◌+◌, ◌*◌, ◌-◌, ◌^◌, ◌%◌, ◌<◌, ◌⊎◌, ℤ, pos, negsuc, refl, sym, ap, ◌∙◌, subst, w32, arith}
use Rattle.std.proofs.lemmas.Int.{ints}
use Rattle.std.specs.Prelude.{◌<ℤ◌}
use Rattle.std.specs.Int.{int_wrapping_sub}
use Rattle.theory.specs.Position.{Geometry, count_of}
use Rattle.theory.specs.Setup.{NamesGeometry, NamesPosition}
use Rattle.theory.specs.Wire.{Setup}

-- in a term of this length
abbrev pub IsPlace : ℕ → ℕ → ℕ → Type 0
IsPlace offset count length = (offset % 32 ≡ 0) × ((offset < length) ⊎ ((offset ≡ length) × (count ≡ 2 ^ 31 - 1)))

-- the count as the code has it
pub counted_in : (f : Setup) (g : Geometry) (z : ℤ) → NamesGeometry f g → int_wrapping_sub w32 f.active_term_id f.initial_term_id ≡ z → count_of g f.active_term_id ≡ z
counted_in f g z names is = ap (λ (i : ℤ). int_wrapping_sub w32 f.active_term_id i) (sym names.initial) ∙ is

no_minus : (z : ℤ) (n : ℕ) → z <ℤ pos 0 → z ≡ pos n → ⊥
no_minus (pos m) n below is = omega (arith, ints)
no_minus (negsuc m) n below is = absurd (cc)

pub no_term_length : (f : Setup) → f.term_length <ℤ pos 0 → (g : Geometry) → NamesGeometry f g → ⊥
no_term_length f below g names = no_minus f.term_length g.term_length below names.term_length

pub no_mtu : (f : Setup) → f.mtu <ℤ pos 0 → (g : Geometry) → NamesGeometry f g → ⊥
no_mtu f below g names = no_minus f.mtu g.mtu below names.mtu

pub no_count : (f : Setup) (g : Geometry) → NamesGeometry f g → int_wrapping_sub w32 f.active_term_id f.initial_term_id <ℤ pos 0 → (p : ℕ) → NamesPosition f g p → ⊥
no_count f g names below p at = no_minus (int_wrapping_sub w32 f.active_term_id f.initial_term_id) at.count below (sym (counted_in f g (int_wrapping_sub w32 f.active_term_id f.initial_term_id) names refl) ∙ at.counted)

pub no_offset : (f : Setup) (g : Geometry) → f.term_offset <ℤ pos 0 → (p : ℕ) → NamesPosition f g p → ⊥
no_offset f g below p at = no_minus f.term_offset at.offset below at.placed

pub no_place : (f : Setup) (g : Geometry) (n o length : ℕ) → NamesGeometry f g → int_wrapping_sub w32 f.active_term_id f.initial_term_id ≡ pos n → f.term_offset ≡ pos o → (IsPlace o n length → ⊥) → length ≡ g.term_length → (p : ℕ) → NamesPosition f g p → ⊥
no_place f g n o length names counted placed outside is p at =
    let count : at.count ≡ n = cc (at.counted, counted_in f g (pos n) names counted) in
    let offset : at.offset ≡ o = cc (at.placed, placed) in
    outside (subst (λ (l : ℕ). IsPlace o n l) (sym is) (subst (λ (k : ℕ). IsPlace o k g.term_length) count (subst (λ (k : ℕ). IsPlace k at.count g.term_length) offset (at.unit, at.inside))))

pub place_named : (f : Setup) (g : Geometry) (n o length a b d : ℕ) → NamesGeometry f g → int_wrapping_sub w32 f.active_term_id f.initial_term_id ≡ pos n → f.term_offset ≡ pos o → IsPlace o n length → length ≡ g.term_length → a ≡ n → b ≡ length → d ≡ o → NamesPosition f g (a * b + d)
place_named f g n o length a b d names counted placed inside is first second third = record { count = n; offset = o; counted = counted_in f g (pos n) names counted; placed = placed; unit = inside.0; inside = subst (λ (l : ℕ). (o < l) ⊎ ((o ≡ l) × (n ≡ 2 ^ 31 - 1))) is inside.1; here = cc }
