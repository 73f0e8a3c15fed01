use Rattle.std.proofs.Common.{◌≡◌, ◌≢◌, ℕ, ◌<◌, ◌≤◌, Ok, Err, ap, ◌∙◌, subst, arith}
use Rattle.std.specs.Prelude.{Result}
use Rattle.theory.specs.Image.{IsWindow}
use Rattle.theory.specs.Position.{Geometry, IsGeometry, max_position}
use Rattle.image.specs.Seen.{IsCount, IsJoin}
use Rattle.image.proofs.Opening.{is_first, opens}
use Rattle.image.proofs.inserter.open.Goals as goal

some_one : (n : ℕ) → n ≢ 0 → 0 < n
some_one n some = omega (arith, some)

not_refused : {T E : Type 0} {x : T} {e : E} → ◌≡◌ {A = Result T E} (Ok x) (Err e) → ⊥
not_refused h = cc

pub open_words-requires-clause-unit : goal.open_words-requires-clause-unit
open_words-requires-clause-unit c = c.is_multiple_of.ensures.0 c.if-not-is_multiple_of.false

pub open_words-requires-clause-within : goal.open_words-requires-clause-within
open_words-requires-clause-within c = subst (λ (n : ℕ). c.args.join ≤ n) (c.max_position.ensures.value ∙ ap max_position c.geometry-geometry.ensures.value) c.if-join-max_position.false

pub open_words-requires-clause-some : goal.open_words-requires-clause-some
open_words-requires-clause-some c = some_one c.args.consumers c.if-consumers-eq0.false

pub invariant_of-inserter : goal.invariant_of-inserter
invariant_of-inserter c =
    let g = c.args.identity.geometry in
    let joined : IsJoin g c.args.join = record { unit = c.is_multiple_of.ensures.0 c.if-not-is_multiple_of.false; within = subst (λ (n : ℕ). c.args.join ≤ n) (c.max_position.ensures.value ∙ ap max_position c.geometry-geometry.ensures.value) c.if-join-max_position.false } in
    let wide : IsWindow g.term_length g.mtu c.args.window = subst (λ (h : Geometry). IsWindow h.term_length h.mtu c.args.window) c.geometry-geometry.ensures.value (c.is_window.ensures.0 c.if-not-is_window.false) in
    let count : IsCount c.args.consumers = (some_one c.args.consumers c.if-consumers-eq0.false, c.if-consumers-gt-CONSUMERS.false) in
    opens c.in-Ok.image c.in-Ok.words c.args.identity c.args.join c.args.window c.args.consumers c.in-Ok.ensures.key c.in-Ok.ensures.fits c.in-Ok.ensures.whole joined.unit (subst IsGeometry c.geometry-geometry.ensures.value c.geometry-geometry.ensures.legal) joined wide count

pub returns : goal.returns
returns c =
    let g = c.args.identity.geometry in
    let joined : IsJoin g c.args.join = record { unit = c.is_multiple_of.ensures.0 c.if-not-is_multiple_of.false; within = subst (λ (n : ℕ). c.args.join ≤ n) (c.max_position.ensures.value ∙ ap max_position c.geometry-geometry.ensures.value) c.if-join-max_position.false } in
    let wide : IsWindow g.term_length g.mtu c.args.window = subst (λ (h : Geometry). IsWindow h.term_length h.mtu c.args.window) c.geometry-geometry.ensures.value (c.is_window.ensures.0 c.if-not-is_window.false) in
    let count : IsCount c.args.consumers = (some_one c.args.consumers c.if-consumers-eq0.false, c.if-consumers-gt-CONSUMERS.false) in
    record {
      key = c.in-Ok.ensures.key;
      opened = is_first c.in-Ok.image c.in-Ok.words c.args.identity c.args.join c.args.window c.args.consumers c.in-Ok.ensures.key c.in-Ok.ensures.fits c.in-Ok.ensures.whole joined.unit;
      legal = (joined, wide, count);
      asked = λ h. absurd (not_refused h);
      bad_join = (λ h. absurd (not_refused h), λ no. absurd (no joined));
      bad_window = (λ h. absurd (not_refused h), λ b. absurd (b.1 wide));
      bad_count = (λ h. absurd (not_refused h), λ b. absurd (b.2 count));
    }
