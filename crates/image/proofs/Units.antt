-- What the laws on units say.
use Rattle.std.proofs.Common.{◌≡◌, ℕ, ◌+◌, ◌*◌, ◌<◌, ◌≤◌, inl, inr, ⊎_elim, List, [], ◌∷◌, sym, subst, arith}
use Rattle.std.proofs.lemmas.Bool.{cases_lt}
use Rattle.theory.specs.Placed.{Among, Placed}
use Rattle.theory.specs.Units.{HasUnit}
use Rattle.image.specs.Law.{MoreUnitsReachFurther, StoringAddsUnits}

unit_in : (a b : List Placed) (p : ℕ) (u : HasUnit a p) → Among u.frame b → HasUnit b p
unit_in a b p u m = record { frame = u.frame; among = m; unit = u.unit; inside = u.inside; here = u.here }

pub storing_adds_units : StoringAddsUnits
storing_adds_units s frames p =
    (λ u. ⊎_elim (λ (e : u.frame ≡ s). inr (unit_in (s ∷ frames) (s ∷ []) p u (inl e))) (λ (m : Among u.frame frames). inl (unit_in (s ∷ frames) frames p u m)) u.among, λ o. ⊎_elim (λ (u : HasUnit frames p). unit_in frames (s ∷ frames) p u (inr u.among)) (λ (u : HasUnit (s ∷ []) p). unit_in (s ∷ []) (s ∷ frames) p u (only u.frame u.among)) o)
  where
    only : (t : Placed) → Among t (s ∷ []) → Among t (s ∷ frames)
    only t (inl e) = inl e
    only t (inr m) = absurd m

pub more_units_reach_further : MoreUnitsReachFurther
more_units_reach_further old new j p q f a b =
    let ea : p ≡ j + 32 * a.units = a.end in
    let eb : q ≡ j + 32 * b.units = b.end in
    ⊎_elim
    (λ (l : q < p). absurd (b.next (subst (λ x. HasUnit new x) (sym eb) (f (j + 32 * b.units) (a.all b.units (omega arith))))))
    (λ (l : p ≤ q). l)
    (cases_lt q p)
