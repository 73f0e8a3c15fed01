-- The id and the offset of a place name the position.
use Rattle.std.proofs.Common.{◌≡◌, ℕ, ◌+◌, ◌-◌, ◌*◌, ◌/◌, ◌%◌, ◌^◌, ◌<◌, ◌≤◌, ⊎_elim, true, false, sym, ap, ◌∙◌, subst, arith}
use Rattle.std.specs.Prelude.{pos, ◌+ℤ◌, ◌*ℤ◌, nat_le, FitsSigned}
use Rattle.std.specs.Int.{w32, cast_signed, cast_unsigned}
use Rattle.std.proofs.lemmas.Int.{of_z-to_z, to_z_pos}
use Rattle.std.proofs.lemmas.Bool.{cases_Bool, cases_lt, cond-true, cond-false, leb-true, leb-false}
use Rattle.std.proofs.lemmas.Nat.{div-add-mod'}
use Rattle.std.proofs.Math.Nat.{mul-le-mul_right}
use mir.ValLaws.{of_z_fits}
use Rattle.theory.specs.Laws.{HeaderNamesPlace}
use Rattle.theory.specs.Position.{Geometry, max_position, id_of, count_of, position_of, Place, NamesPlace}

pub counts : (g : Geometry) (n : ℕ) → FitsSigned w32 g.initial_term_id → n < 2 ^ 31 → count_of g (id_of g n) ≡ pos n
counts g n f l =
    let u = cast_unsigned w32 g.initial_term_id in
    let low : u < 4294967296 = (of_z_fits w32 g.initial_term_id f).fits in
    let back : cast_unsigned w32 (id_of g n) ≡ (u + n) % 4294967296 = of_z-to_z w32 ((u + n) % 4294967296) (omega arith) in
    let same : ((u + n) % 4294967296 + (4294967296 - u)) % 4294967296 ≡ n = omega arith in
    ap (λ b. cast_signed w32 ((b + (4294967296 - u)) % 4294967296)) back ∙ ap (cast_signed w32) same ∙ to_z_pos w32 n l

pub names_place : NamesPlace
names_place g p is le =
    ⊎_elim
    (λ (t : nat_le (max_position g) p ≡ true).
    let most : max_position g ≤ p = leb-true (max_position g) p t in
    subst (λ (x : Place). position_of g (id_of g x.count) (pos x.offset) ≡ pos p) (sym (cond-true (nat_le (max_position g) p) (record { count = 2 ^ 31 - 1; offset = g.term_length }) (record { count = p / g.term_length; offset = p % g.term_length }) t))
    (at (2 ^ 31 - 1) g.term_length (omega arith) (omega arith)))
    (λ (f : nat_le (max_position g) p ≡ false).
    let less : p < max_position g = leb-false (max_position g) p f in
    subst (λ (x : Place). position_of g (id_of g x.count) (pos x.offset) ≡ pos p) (sym (cond-false (nat_le (max_position g) p) (record { count = 2 ^ 31 - 1; offset = g.term_length }) (record { count = p / g.term_length; offset = p % g.term_length }) f))
    (at (p / g.term_length) (p % g.term_length) (div_less less) (div-add-mod' p g.term_length)))
    (cases_Bool (nat_le (max_position g) p))
  where
    at : (n k : ℕ) → n < 2 ^ 31 → n * g.term_length + k ≡ p → position_of g (id_of g n) (pos k) ≡ pos p
    at n k l e = ap (λ c. (c *ℤ pos g.term_length) +ℤ pos k) (counts g n is.initial l) ∙ ap pos e

    div_less : p < max_position g → p / g.term_length < 2 ^ 31
    div_less less =
        let parts : p / g.term_length * g.term_length + p % g.term_length ≡ p = div-add-mod' p g.term_length in
        ⊎_elim
        (λ (a : p / g.term_length < 2 ^ 31). a)
        (λ (a : 2 ^ 31 ≤ p / g.term_length). let past : 2 ^ 31 * g.term_length ≤ p / g.term_length * g.term_length = mul-le-mul_right g.term_length a in absurd (omega arith))
        (cases_lt (p / g.term_length) (2 ^ 31))

pub header_names_place : HeaderNamesPlace
header_names_place i p is le = names_place i.geometry p is le
