use Rattle.std.proofs.Common.{◌≡◌, ℕ, ◌+◌, ◌-◌, ◌*◌, ◌/◌, ◌%◌, ◌<◌, ◌≤◌, min, Some, refl, sym, ap, ◌∙◌, subst, arith}
use Rattle.std.specs.List.{AllByRecursion}
use Rattle.theory.specs.Bytes.{Identity}
use Rattle.theory.specs.Position.{Geometry}
use Rattle.theory.specs.Placed.{covered, end_of}
use Rattle.theory.specs.Units.{IsContiguous, contiguous}
use Rattle.theory.specs.Gap.{IsAnswer, IsGap, next_start}
use Rattle.theory.proofs.Contiguous.{contiguous_only}
use Rattle.theory.proofs.Follow.{one_end}
use Rattle.theory.proofs.Lists.{all_weaker}
use Rattle.image.specs.Seen.{IsFit}
use Rattle.image.proofs.Ends.{computed, is_gap, none_is, some_is}
use Rattle.image_rule.specs.declared.view.Key.{Key}
use Rattle.image.specs.Rebuilding.{Inserting, geometry_of, join_of}
use Rattle.image.proofs.inserter.gap.first_gap.Goals as goal
use Rattle.image.proofs.inserter.gap.first_gap.Goals.{After-first_held-end}

gap : (c : After-first_held-end) → IsGap (geometry_of c.args.inserter.now).term_length c.args.inserter.now.stored c.args.inserter.now.high c.rebuilt-start.result c.first_held-end.result
gap c =
    let i = c.args.inserter.now in
    let start : ℕ = c.rebuilt-start.result in
    let own : ℕ = c.geometry-geometry.result.term_length in
    let same : own ≡ (geometry_of i).term_length = ap (λ (g : Geometry). g.term_length) (c.geometry-geometry.ensures.value ∙ ap (λ (x : Identity). x.geometry) c.identity.ensures ∙ ap (λ (k : Key). k.identity.geometry) (sym c.requires.fits.key)) in
    let length : c.from.result ≡ own = c.from.ensures ∙ c.term_length.ensures.value in
    let goes_on : start < c.term_start.result + own = c.term_start.ensures.goes_on in
    let term_end : c.term_start.result + c.from.result ≡ start / (geometry_of i).term_length * (geometry_of i).term_length + (geometry_of i).term_length = ap (λ n. n + c.from.result) c.term_start.ensures.value ∙ ap (λ n. start / own * own + n) length ∙ ap (λ n. start / n * n + n) same in
    let above : start < i.high = omega (arith, c.rebuilt-start.ensures.marked, c.high_water-high.ensures.value, c.if-start-high.false) in
    let bound : c.min-bound.result ≡ min i.high (start / (geometry_of i).term_length * (geometry_of i).term_length + (geometry_of i).term_length) = c.min-bound.ensures ∙ ap (λ n. min n (c.term_start.result + c.from.result)) c.high_water-high.ensures.value ∙ ap (λ n. min i.high n) term_end in
    let inside : start < start / (geometry_of i).term_length * (geometry_of i).term_length + (geometry_of i).term_length = subst (λ n. start < n) term_end (omega arith) in
    is_gap (geometry_of i).term_length i.stored i.high start c.min-bound.result c.first_held-end.result above inside bound c.rebuilt-start.ensures.value.next c.first_held-end.ensures.first

pub overflow_sub-result : goal.overflow_sub-result
overflow_sub-result c = let long : c.rebuilt-start.result < c.first_held-end.result = (gap c).long in omega arith

-- the computed contiguous end is where it begins
begins : (i : Inserting) (start : ℕ) → AllByRecursion (IsFit (geometry_of i).term_length i.high) i.stored → IsContiguous i.stored (join_of i) start → contiguous i.stored (join_of i) i.high ≡ start
begins i start fit end = sym (contiguous_only i.stored (join_of i) i.high start (all_weaker (IsFit (geometry_of i).term_length i.high) (λ s. end_of s ≤ i.high) (λ s is. is.marked) i.stored fit) end)

pub returns-then-start-high-clause-value : goal.returns-then-start-high-clause-value
returns-then-start-high-clause-value c = let i = c.args.inserter.now in none_is (geometry_of i).term_length i.stored i.high _ c.rebuilt-start.result (begins i c.rebuilt-start.result c.stored_apart.ensures.fit c.rebuilt-start.ensures.value) (c.if-start-high.true ∙ c.high_water-high.ensures.value)

pub returns-then-start-high-clause-gap : goal.returns-then-start-high-clause-gap
returns-then-start-high-clause-gap c = λ q end. one_end c.args.inserter.now.stored (join_of c.args.inserter.now) q c.rebuilt-start.result end c.rebuilt-start.ensures.value ∙ c.if-start-high.true ∙ c.high_water-high.ensures.value

pub returns-clause-value : goal.returns-clause-value
returns-clause-value c =
    let i = c.args.inserter.now in
    let own : ℕ = c.geometry-geometry.result.term_length in
    let same : own ≡ (geometry_of i).term_length = ap (λ (g : Geometry). g.term_length) (c.geometry-geometry.ensures.value ∙ ap (λ (x : Identity). x.geometry) c.identity.ensures ∙ ap (λ (k : Key). k.identity.geometry) (sym c.requires.fits.key)) in
    let start : ℕ = c.rebuilt-start.result in
    let length : c.from.result ≡ own = c.from.ensures ∙ c.term_length.ensures.value in
    let term_end : c.term_start.result + c.from.result ≡ start / (geometry_of i).term_length * (geometry_of i).term_length + (geometry_of i).term_length = ap (λ n. n + c.from.result) c.term_start.ensures.value ∙ ap (λ n. start / own * own + n) length ∙ ap (λ n. start / n * n + n) same in
    let bound : c.min-bound.result ≡ min i.high (start / (geometry_of i).term_length * (geometry_of i).term_length + (geometry_of i).term_length) = c.min-bound.ensures ∙ ap (λ n. min n (c.term_start.result + c.from.result)) c.high_water-high.ensures.value ∙ ap (λ n. min i.high n) term_end in
    let full : AllByRecursion (λ s. 0 < covered s) i.stored = all_weaker (IsFit (geometry_of i).term_length i.high) (λ s. 0 < covered s) (λ s fit. omega (arith, fit.long)) i.stored c.stored_apart.ensures.fit in
    let units : AllByRecursion (λ s. s.at % 32 ≡ 0) i.stored = all_weaker (IsFit (geometry_of i).term_length i.high) (λ s. s.at % 32 ≡ 0) (λ s fit. fit.unit) i.stored c.stored_apart.ensures.fit in
    let is = computed i.stored start c.min-bound.result c.first_held-end.result full units c.rebuilt-start.ensures.unit (omega arith) c.rebuilt-start.ensures.value.next c.first_held-end.ensures.first in
    some_is (geometry_of i).term_length i.stored i.high _ start c.first_held-end.result (begins i c.rebuilt-start.result c.stored_apart.ensures.fit c.rebuilt-start.ensures.value) (λ e. c.if-start-high.false (e ∙ sym c.high_water-high.ensures.value)) (is ∙ ap (λ n. next_start start n i.stored) bound)

pub returns-clause-gap : goal.returns-clause-gap
returns-clause-gap c =
    let i = c.args.inserter.now in
    let found = gap c in
    let long : c.rebuilt-start.result < c.first_held-end.result = found.long in
    let same : c.first_held-end.result ≡ c.rebuilt-start.result + (c.first_held-end.result - c.rebuilt-start.result) = omega arith in
    λ q end.
    let at : c.rebuilt-start.result ≡ q = one_end i.stored (join_of i) c.rebuilt-start.result q c.rebuilt-start.ensures.value end in
    subst (λ x. IsAnswer (geometry_of i).term_length i.stored i.high x (Some (record { start = c.rebuilt-start.result; length = c.first_held-end.result - c.rebuilt-start.result }))) at
    (refl, subst (λ n. IsGap (geometry_of i).term_length i.stored i.high c.rebuilt-start.result n) same found)
