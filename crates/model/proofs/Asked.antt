-- What is resent was asked for.
use Rattle.std.proofs.Common.{◌≡◌, ℕ, ◌+◌, ◌*◌, ◌/◌, ◌<◌, ◌≤◌, ⊎_elim, List, [], ◌∷◌, ◌++◌, true, false, sym, ◌∙◌, subst, arith}
use Rattle.std.specs.List.{AllByRecursion, filter}
use Rattle.std.specs.Prelude.{nat_le, nat_lt, min}
use Rattle.std.proofs.lemmas.Bool.{cases_Bool, cond-true, cond-false, leb-true, ltb-true, and_parts}
use Rattle.theory.specs.Position.{Geometry}
use Rattle.theory.specs.Placed.{Placed}
use Rattle.theory.specs.Resend.{Action, first_resent, is_resent, resent}
use Rattle.theory.specs.Datagrams.{grouped}
use Rattle.model.specs.CycleLaws.{IsAskedFor, ResendsAsked}
use Rattle.theory.proofs.Grouping.{grouped_is}
use Rattle.model.proofs.Datagrams.{front_of}
use Rattle.theory.proofs.Lists.{all_front}

asked : (g : Geometry) (s : ℕ) (a : Action) (f : Placed) → is_resent g s a f ≡ true → IsAskedFor g s a f
asked g s a f t =
    let low = first_resent g s a.at in
    let high = min (min (a.at + a.length) s) (a.at / g.term_length * g.term_length + g.term_length) in
    let parts = and_parts (nat_le low f.at) (nat_lt f.at high) t in
    let from : first_resent g s a.at ≤ f.at = leb-true low f.at parts.0 in
    let to : f.at < min (min (a.at + a.length) s) (a.at / g.term_length * g.term_length + g.term_length) = ltb-true f.at high parts.1 in
    record { from = omega arith; to = omega arith; near = omega arith; below = omega arith; term = omega arith }

filtered : (g : Geometry) (s : ℕ) (a : Action) (frames : List Placed) → AllByRecursion (IsAskedFor g s a) (filter (is_resent g s a) frames)
filtered g s a [] = tt
filtered g s a (f ∷ fs) =
    ⊎_elim
    (λ (t : is_resent g s a f ≡ true). subst (AllByRecursion (IsAskedFor g s a)) (sym (cond-true (is_resent g s a f) (f ∷ filter (is_resent g s a) fs) (filter (is_resent g s a) fs) t)) (asked g s a f t, filtered g s a fs))
    (λ (n : is_resent g s a f ≡ false). subst (AllByRecursion (IsAskedFor g s a)) (sym (cond-false (is_resent g s a f) (f ∷ filter (is_resent g s a) fs) (filter (is_resent g s a) fs) n)) (filtered g s a fs))
    (cases_Bool (is_resent g s a f))

pub resends_asked : ResendsAsked
resends_asked g s passed a =
    let range = filter (is_resent g s a) passed in
    let front = front_of 15 (grouped g range) in
    let whole : range ≡ resent g s passed a ++ front.0 = sym (grouped_is g range) ∙ front.1 in
    all_front (IsAskedFor g s a) (resent g s passed a) front.0 (subst (AllByRecursion (IsAskedFor g s a)) whole (filtered g s a passed))
