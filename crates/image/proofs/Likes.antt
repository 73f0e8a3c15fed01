-- Whether a frame is like another.
use Rattle.std.proofs.Common.{◌≡◌, ℕ, ⊎_elim, List, map, Bool, true, false, refl, sym, ◌∙◌, subst}
use Rattle.std.specs.Prelude.{nat_eq, ◌&&◌}
use Rattle.std.specs.List.{list_any}
use Rattle.std.proofs.lemmas.Bool.{and_from, and_left, and_parts, cases_Bool, cases_eq, eq-eqb, ne_eqb}
use Rattle.theory.specs.Insert.{head_of, is_duplicate, same_kind}
use Rattle.theory.specs.Placed.{Among, Placed, frame_length, is_padding}
use Rattle.theory.proofs.Lists.{any_here}
use Rattle.image.specs.Seen.{StartsAt}
use Rattle.image.proofs.Lists.{none_here}

pub like_none : (start : ℕ) (padding : Bool) (n : ℕ) (ss : List Placed) → (StartsAt ss start → ⊥) → false ≡ list_any (is_duplicate (record { at = start; padding = padding; length = n })) (map head_of ss)
like_none start padding n ss f =
    sym (none_here (is_duplicate (record { at = start; padding = padding; length = n })) head_of ss (λ t a. and_left (nat_eq start t.at && same_kind padding (is_padding t.frame)) (nat_eq n (frame_length t.frame)) (and_left (nat_eq start t.at) (same_kind padding (is_padding t.frame)) (ne_eqb start t.at (λ e. f (t, a, sym e))))))

-- the one frame that starts there
pub like_only : (start : ℕ) (padding : Bool) (n : ℕ) (ss : List Placed) (s : Placed) → ((t : Placed) → Among t ss → start ≡ t.at → s ≡ t) → Among s ss → s.at ≡ start → (same_kind padding (is_padding s.frame) && nat_eq n (frame_length s.frame)) ≡ list_any (is_duplicate (record { at = start; padding = padding; length = n })) (map head_of ss)
like_only start padding n ss s one a e =
    ⊎_elim
    (λ (y : (same_kind padding (is_padding s.frame) && nat_eq n (frame_length s.frame)) ≡ true).
    let parts = and_parts (same_kind padding (is_padding s.frame)) (nat_eq n (frame_length s.frame)) y in
    y ∙ sym (any_here (is_duplicate (record { at = start; padding = padding; length = n })) head_of s ss a (and_from (nat_eq start s.at && same_kind padding (is_padding s.frame)) (nat_eq n (frame_length s.frame)) (and_from (nat_eq start s.at) (same_kind padding (is_padding s.frame)) (eq-eqb start s.at (sym e)) parts.0) parts.1)))
    (λ (differs : (same_kind padding (is_padding s.frame) && nat_eq n (frame_length s.frame)) ≡ false). differs ∙ sym (none_here (is_duplicate (record { at = start; padding = padding; length = n })) head_of ss (λ t b. unlike t b differs)))
    (cases_Bool (same_kind padding (is_padding s.frame) && nat_eq n (frame_length s.frame)))
  where
    splits : (x y z : Bool) → (y && z) ≡ false → ((x && y) && z) ≡ false
    splits true y z h = h
    splits false y z h = refl

    unlike : (t : Placed) → Among t ss → (same_kind padding (is_padding s.frame) && nat_eq n (frame_length s.frame)) ≡ false → is_duplicate (record { at = start; padding = padding; length = n }) (head_of t) ≡ false
    unlike t b differs =
        ⊎_elim
        (λ (d : start ≡ t.at). let same : s ≡ t = one t b d in splits (nat_eq start t.at) (same_kind padding (is_padding t.frame)) (nat_eq n (frame_length t.frame)) (subst (λ (x : Placed). (same_kind padding (is_padding x.frame) && nat_eq n (frame_length x.frame)) ≡ false) same differs))
        (λ (d : start ≡ t.at → ⊥). and_left (nat_eq start t.at && same_kind padding (is_padding t.frame)) (nat_eq n (frame_length t.frame)) (and_left (nat_eq start t.at) (same_kind padding (is_padding t.frame)) (ne_eqb start t.at d)))
        (cases_eq start t.at)
