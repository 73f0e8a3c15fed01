-- A range that is due can be reread.
use Rattle.std.proofs.Common.{◌≡◌, ℕ, ◌+◌, ◌-◌, ◌*◌, ◌/◌, ◌<◌, ◌≤◌, ⊎_elim, inl, inr, Bool, true, false, List, [], ◌∷◌, Option, None, Some, min, refl, sym, ap, ◌∙◌, subst, arith}
use Rattle.std.specs.List.{find}
use Rattle.std.specs.Option.{option_and_then, option_map}
use Rattle.std.specs.Prelude.{nat_le, nat_lt}
use Rattle.std.proofs.lemmas.Bool.{and_parts, cases_Bool, cond-true, cond-false, ltb-true}
use Rattle.theory.specs.Position.{Geometry}
use Rattle.theory.specs.Placed.{Among}
use Rattle.theory.specs.Bytes.{Identity}
use Rattle.theory.specs.Gap.{Gap}
use Rattle.theory.specs.Resend.{Action, first_due, first_resent, is_in_range, range_end, resend_range}
use Rattle.frame_source.specs.Sources.{Source}
use Rattle.sender.specs.Resending.Handler.{Handler, due_range}
use Rattle.sender.specs.Giving.{CanBeReread}
use Rattle.sender.specs.Sending.{AreThere, LeadsOn}

found : (test : ℕ → Bool) (xs : List ℕ) (q : ℕ) → find test xs ≡ Some q → Among q xs × (test q ≡ true)
found test [] q e = absurd (cc)
found test (x ∷ xs) q e =
    ⊎_elim
    (λ (t : test x ≡ true).
    let here : x ≡ q = let f = cond-true (test x) (Some x) (find test xs) t in cc in
    (inl (sym here), subst (λ (y : ℕ). test y ≡ true) here t))
    (λ (n : test x ≡ false). let r = found test xs q (sym (cond-false (test x) (Some x) (find test xs) n) ∙ e) in (inr r.0, r.1))
    (cases_Bool (test x))

record BeginsAt (starts : List ℕ) (at : ℕ) (range : Gap) : Type 0 where
  first : Among range.start starts
  below : range.start + range.length ≤ at

of_found : (g : Geometry) (s : ℕ) (starts : List ℕ) (a : Action) (range : Gap) (o : Option ℕ) → find (is_in_range g s a) starts ≡ o → option_map (λ p. record { start = p; length = range_end g s a - p }) o ≡ Some range → BeginsAt starts s range
of_found g s starts a range None e f = absurd (cc)
of_found g s starts a range (Some p) e f =
    let r = found (is_in_range g s a) starts p e in
    let here : record { start = p; length = range_end g s a - p } ≡ range = cc in
    let below : p < min (min (a.at + a.length) s) (a.at / g.term_length * g.term_length + g.term_length) = ltb-true p (range_end g s a) (and_parts (nat_le (first_resent g s a.at) p) (nat_lt p (range_end g s a)) r.1).1 in
    let all : BeginsAt starts s (record { start = p; length = range_end g s a - p }) = record { first = r.0; below = omega (arith, below) } in
    subst (BeginsAt starts s) here all

of_due : (g : Geometry) (s : ℕ) (starts : List ℕ) (range : Gap) (o : Option Action) → option_and_then (λ a. resend_range g s starts a) o ≡ Some range → BeginsAt starts s range
of_due g s starts range None e = absurd (cc)
of_due g s starts range (Some a) e = of_found g s starts a range (find (is_in_range g s a) starts) refl e

pub can_be_reread : (i : Identity) (s : Source) (h : Handler) (range : Gap) → s.identity ≡ i → s.position ≡ h.at → h.geometry ≡ i.geometry → AreThere s.frames h → due_range h ≡ Some range → CanBeReread s range
can_be_reread i s h range same from stream there e =
    let b = of_due h.geometry h.at h.starts range (first_due h.actions) e in
    let shape : h.geometry ≡ s.identity.geometry = stream ∙ ap (λ (x : Identity). x.geometry) (sym same) in
    record {
      starts = h.starts;
      first = b.first;
      there = λ p among. subst (λ (g : Geometry). LeadsOn g.term_length s.frames h.starts s.position p) shape (subst (λ (at : ℕ). LeadsOn h.geometry.term_length s.frames h.starts at p) (sym from) (there p among));
      passed = omega (arith, b.below, from);
    }
