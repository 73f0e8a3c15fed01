use Rattle.std.proofs.Common.{◌≡◌, ⊎_elim, ℕ, ◌+◌, ◌-◌, ◌*◌, ◌/◌, ◌%◌, ◌<◌, ◌≤◌, min, sym, ap, ◌∙◌, subst, arith}
use Rattle.std.proofs.lemmas.Bool.{cases_lt}
use Rattle.std.specs.Int.{trailing_zeros, w64}
use Rattle.theory.specs.Position.{Geometry}
use Rattle.theory.specs.Bytes.{Identity}
use Rattle.image_rule.specs.declared.view.Key.{Key}
use Rattle.image.specs.Looks.{IsFirstHeld, TellsUnits}
use Rattle.image.proofs.WordBits.{first_in_word, from_bit, none_in_word}
use Rattle.image.specs.Rebuilding.{Inserting, geometry_of}
use Rattle.image.proofs.inserter.gap.first_held.Goals as goal

pub returns-then-from-ne0-clause-first : goal.returns-then-from-ne0-clause-first
returns-then-from-ne0-clause-first c =
    let i = c.args.inserter.now in
    let t : ℕ = (geometry_of i).term_length in
    let own : c.term_length.result ≡ t = c.term_length.ensures.value ∙ ap (λ (g : Geometry). g.term_length) (c.geometry.ensures.value ∙ ap (λ (x : Identity). x.geometry) c.identity.ensures ∙ ap (λ (k : Key). k.identity.geometry) (sym c.requires.fits.key)) in
    let whole : t % 65536 ≡ 0 = ap (λ n. n % 65536) (sym own) ∙ c.term_length.ensures.whole in
    let legal : 65536 ≤ c.geometry.result.term_length = c.geometry.ensures.legal.term.least in
    let some : 0 < t = omega (arith, own, c.term_length.ensures.value) in
    let size : 3 * c.from-size.result ≡ 3 * t = ap (λ n. 3 * n) (c.from-size.ensures ∙ own) in
    let here : c.loop-at.at % (3 * c.from-size.result) / 2048 ≡ c.loop-at.at % (3 * t) / 2048 = ap (λ n. c.loop-at.at % n / 2048) size in
    let tells = subst (λ (x : Inserting). TellsUnits (geometry_of x).term_length x.floor x.stored (c.loop-at.at % (3 * c.from-size.result) / 2048) c.held_word-word.result) c.loop-at.invariant.same c.held_word-word.ensures.units in
    let found = first_in_word t i.floor c.loop-at.at i.stored (c.loop-at.at % (3 * c.from-size.result) / 2048) c.held_word-word.result whole some c.loop-at.invariant.unit (omega (arith, c.loop-at.invariant.from, c.requires.from)) here tells c.args.start c.args.end (omega arith) c.loop-at.invariant.from c.loop-at-test.true c.requires.near c.loop-at.invariant.empty c.if-from-ne0.true in
    let is : c.min.result ≡ min (c.loop-at.at - c.loop-at.at % 2048 + 32 * trailing_zeros w64 (from_bit c.held_word-word.result (c.loop-at.at % 2048 / 32))) c.args.end = c.min.ensures ∙ ap (λ n. min (c.loop-at.at - c.loop-at.at % 2048 + 32 * n) c.args.end) c.from.ensures in
    subst (λ n. IsFirstHeld i.stored c.args.start c.args.end n) (sym is) found

pub loop-at-preserved : goal.loop-at-preserved
loop-at-preserved c =
    let i = c.args.inserter.now in
    let t : ℕ = (geometry_of i).term_length in
    let own : c.term_length.result ≡ t = c.term_length.ensures.value ∙ ap (λ (g : Geometry). g.term_length) (c.geometry.ensures.value ∙ ap (λ (x : Identity). x.geometry) c.identity.ensures ∙ ap (λ (k : Key). k.identity.geometry) (sym c.requires.fits.key)) in
    let whole : t % 65536 ≡ 0 = ap (λ n. n % 65536) (sym own) ∙ c.term_length.ensures.whole in
    let legal : 65536 ≤ c.geometry.result.term_length = c.geometry.ensures.legal.term.least in
    let some : 0 < t = omega (arith, own, c.term_length.ensures.value) in
    let size : 3 * c.from-size.result ≡ 3 * t = ap (λ n. 3 * n) (c.from-size.ensures ∙ own) in
    let here : c.loop-at.at % (3 * c.from-size.result) / 2048 ≡ c.loop-at.at % (3 * t) / 2048 = ap (λ n. c.loop-at.at % n / 2048) size in
    let tells = subst (λ (x : Inserting). TellsUnits (geometry_of x).term_length x.floor x.stored (c.loop-at.at % (3 * c.from-size.result) / 2048) c.held_word-word.result) c.loop-at.invariant.same c.held_word-word.ensures.units in
    record {
      same = c.held_word-word.ensures.same ∙ c.loop-at.invariant.same;
      unit = omega (arith, c.loop-at.invariant.unit);
      from = omega (arith, c.loop-at.invariant.from);
      near = omega (arith, c.loop-at-test.true);
      empty = λ p u l h e has.
          ⊎_elim
          (λ (a : p < c.loop-at.at). c.loop-at.invariant.empty p u l a e has)
          (λ (a : c.loop-at.at ≤ p). none_in_word t i.floor c.loop-at.at i.stored (c.loop-at.at % (3 * c.from-size.result) / 2048) c.held_word-word.result whole some c.loop-at.invariant.unit (omega (arith, c.loop-at.invariant.from, c.requires.from)) here tells c.if-from-ne0.false p u a (omega arith) (omega (arith, c.requires.near)) has)
          (cases_lt p c.loop-at.at);
      looked = omega (arith, c.held_word-word.ensures.counted, c.loop-at.invariant.looked, c.loop-at.invariant.from);
    }
