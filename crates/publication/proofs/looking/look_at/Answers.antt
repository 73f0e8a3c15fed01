use Rattle.std.proofs.Common.{◌≡◌, ℕ, ◌+◌, ◌*◌, ◌/◌, ◌%◌, ◌<◌, ◌≤◌, arith, sym, ap, ◌∙◌}
use Rattle.std.proofs.lemmas.Bool.{eq-eqb, false≢true, ne_eqb}
use Rattle.theory.specs.Bytes.{Identity}
use Rattle.theory.specs.Position.{Geometry, id_of}
use Rattle.theory.specs.Refusal.{limit_in}
use Rattle.theory.specs.Words.{offset_in}
use Rattle.publication.specs.declared.pass.Pass.{Pass}
use Rattle.publication.specs.Steps.{Names, geometry_of, term_of}
use Rattle.publication.specs.Claims.{position_in}
use Rattle.publication.proofs.Seeing.{looked_open, looked_pressed, looked_stale, looked_unconnected, looked_used_up, shut}
use Rattle.publication.proofs.Steppings.{calls_first, calls_three}
use Rattle.publication.proofs.Turned.{three_seen}
use Rattle.publication.proofs.looking.look_at.Goals as goal

pub returns-then-limit-eq1-clause-looked : goal.returns-then-limit-eq1-clause-looked
returns-then-limit-eq1-clause-looked g c = shut (g.W.WordCalls.pass_of c.args.words.now c.args.pass.now) (g.W.WordCalls.pass_of c.load_limit-limit.new.self c.load_limit-limit.new.pass) c.load_limit-limit.result c.load_limit-limit.ensures.told (eq-eqb (c.load_limit-limit.result / 2 % 2) 1 c.if-limit-eq1.true)

pub returns-then-not-is_of-clause-looked : goal.returns-then-not-is_of-clause-looked
returns-then-not-is_of-clause-looked g c =
    let geometry : c.geometry-geometry.result ≡ geometry_of (g.W.WordCalls.pass_of c.args.words.now c.args.pass.now) = c.geometry-geometry.ensures.value ∙ ap (λ (i : Identity). i.geometry) c.identity.ensures in
    looked_stale (g.W.WordCalls.pass_of c.args.words.now c.args.pass.now) (g.W.WordCalls.pass_of c.load_limit-limit.new.self c.load_limit-limit.new.pass) (g.W.WordCalls.pass_of c.load_count-count.new.self c.load_count-count.new.pass) (g.W.WordCalls.pass_of c.load_tail-tail.new.self c.load_tail-tail.new.pass) c.load_limit-limit.result c.load_count-count.result c.load_tail-tail.result c.load_limit-limit.ensures.told (ne_eqb (c.load_limit-limit.result / 2 % 2) 1 c.if-limit-eq1.false) c.load_count-count.ensures.told c.load_tail-tail.ensures.told (λ (e : Names (g.W.WordCalls.pass_of c.args.words.now c.args.pass.now) c.load_tail-tail.result c.load_count-count.result). false≢true (sym c.if-not-is_of.true ∙ c.is_of.ensures.1 (e ∙ ap (λ (h : Geometry). id_of h c.load_count-count.result) (sym geometry))))

pub returns-then-offset-term_length-clause-looked : goal.returns-then-offset-term_length-clause-looked
returns-then-offset-term_length-clause-looked g c =
    let geometry : c.geometry-geometry.result ≡ geometry_of (g.W.WordCalls.pass_of c.args.words.now c.args.pass.now) = c.geometry-geometry.ensures.value ∙ ap (λ (i : Identity). i.geometry) c.identity.ensures in
    let id : Names (g.W.WordCalls.pass_of c.args.words.now c.args.pass.now) c.load_tail-tail.result c.load_count-count.result = c.is_of.ensures.0 c.if-not-is_of.false ∙ ap (λ (h : Geometry). id_of h c.load_count-count.result) geometry in
    let term : c.term_length.result ≡ term_of (g.W.WordCalls.pass_of c.args.words.now c.args.pass.now) = c.term_length.ensures.value ∙ ap (λ (h : Geometry). h.term_length) geometry in
    looked_used_up (g.W.WordCalls.pass_of c.args.words.now c.args.pass.now) (g.W.WordCalls.pass_of c.load_limit-limit.new.self c.load_limit-limit.new.pass) (g.W.WordCalls.pass_of c.load_count-count.new.self c.load_count-count.new.pass) (g.W.WordCalls.pass_of c.load_tail-tail.new.self c.load_tail-tail.new.pass) c.load_limit-limit.result c.load_count-count.result c.load_tail-tail.result c.load_limit-limit.ensures.told (ne_eqb (c.load_limit-limit.result / 2 % 2) 1 c.if-limit-eq1.false) c.load_count-count.ensures.told c.load_tail-tail.ensures.told id (omega (arith, term, c.term_offset-offset.ensures, c.if-offset-term_length.true))

pub returns-then-position_at-limit-clause-looked : goal.returns-then-position_at-limit-clause-looked
returns-then-position_at-limit-clause-looked g c =
    let geometry : c.geometry-geometry.result ≡ geometry_of (g.W.WordCalls.pass_of c.args.words.now c.args.pass.now) = c.geometry-geometry.ensures.value ∙ ap (λ (i : Identity). i.geometry) c.identity.ensures in
    let id : Names (g.W.WordCalls.pass_of c.args.words.now c.args.pass.now) c.load_tail-tail.result c.load_count-count.result = c.is_of.ensures.0 c.if-not-is_of.false ∙ ap (λ (h : Geometry). id_of h c.load_count-count.result) geometry in
    let term : c.term_length.result ≡ term_of (g.W.WordCalls.pass_of c.args.words.now c.args.pass.now) = c.term_length.ensures.value ∙ ap (λ (h : Geometry). h.term_length) geometry in
    let room : offset_in c.load_tail-tail.result < term_of (g.W.WordCalls.pass_of c.args.words.now c.args.pass.now) = omega (arith, term, c.term_offset-offset.ensures, c.if-offset-term_length.false) in
    let position : c.position_at.result ≡ position_in (g.W.WordCalls.pass_of c.args.words.now c.args.pass.now) c.load_count-count.result c.load_tail-tail.result = c.position_at.ensures ∙ ap (λ (h : Geometry). c.load_count-count.result * h.term_length + c.term_offset-offset.result) geometry ∙ ap (λ (n : ℕ). c.load_count-count.result * term_of (g.W.WordCalls.pass_of c.args.words.now c.args.pass.now) + n) c.term_offset-offset.ensures in
    looked_open (g.W.WordCalls.pass_of c.args.words.now c.args.pass.now) (g.W.WordCalls.pass_of c.load_limit-limit.new.self c.load_limit-limit.new.pass) (g.W.WordCalls.pass_of c.load_count-count.new.self c.load_count-count.new.pass) (g.W.WordCalls.pass_of c.load_tail-tail.new.self c.load_tail-tail.new.pass) c.load_limit-limit.result c.load_count-count.result c.load_tail-tail.result c.load_limit-limit.ensures.told (ne_eqb (c.load_limit-limit.result / 2 % 2) 1 c.if-limit-eq1.false) c.load_count-count.ensures.told c.load_tail-tail.ensures.told id room (omega (arith, position, c.if-position_at-limit.true))

pub returns-then-limit-eq1-2-clause-looked : goal.returns-then-limit-eq1-2-clause-looked
returns-then-limit-eq1-2-clause-looked g c =
    let geometry : c.geometry-geometry.result ≡ geometry_of (g.W.WordCalls.pass_of c.args.words.now c.args.pass.now) = c.geometry-geometry.ensures.value ∙ ap (λ (i : Identity). i.geometry) c.identity.ensures in
    let id : Names (g.W.WordCalls.pass_of c.args.words.now c.args.pass.now) c.load_tail-tail.result c.load_count-count.result = c.is_of.ensures.0 c.if-not-is_of.false ∙ ap (λ (h : Geometry). id_of h c.load_count-count.result) geometry in
    let term : c.term_length.result ≡ term_of (g.W.WordCalls.pass_of c.args.words.now c.args.pass.now) = c.term_length.ensures.value ∙ ap (λ (h : Geometry). h.term_length) geometry in
    let room : offset_in c.load_tail-tail.result < term_of (g.W.WordCalls.pass_of c.args.words.now c.args.pass.now) = omega (arith, term, c.term_offset-offset.ensures, c.if-offset-term_length.false) in
    let position : c.position_at.result ≡ position_in (g.W.WordCalls.pass_of c.args.words.now c.args.pass.now) c.load_count-count.result c.load_tail-tail.result = c.position_at.ensures ∙ ap (λ (h : Geometry). c.load_count-count.result * h.term_length + c.term_offset-offset.result) geometry ∙ ap (λ (n : ℕ). c.load_count-count.result * term_of (g.W.WordCalls.pass_of c.args.words.now c.args.pass.now) + n) c.term_offset-offset.ensures in
    let reached : limit_in c.load_limit-limit.result ≤ position_in (g.W.WordCalls.pass_of c.args.words.now c.args.pass.now) c.load_count-count.result c.load_tail-tail.result = omega (arith, position, c.if-position_at-limit.false) in
    looked_pressed (g.W.WordCalls.pass_of c.args.words.now c.args.pass.now) (g.W.WordCalls.pass_of c.load_limit-limit.new.self c.load_limit-limit.new.pass) (g.W.WordCalls.pass_of c.load_count-count.new.self c.load_count-count.new.pass) (g.W.WordCalls.pass_of c.load_tail-tail.new.self c.load_tail-tail.new.pass) c.load_limit-limit.result c.load_count-count.result c.load_tail-tail.result c.load_limit-limit.ensures.told (ne_eqb (c.load_limit-limit.result / 2 % 2) 1 c.if-limit-eq1.false) c.load_count-count.ensures.told c.load_tail-tail.ensures.told id room reached (eq-eqb (c.load_limit-limit.result % 2) 1 c.if-limit-eq1-2.true)

pub returns-clause-looked : goal.returns-clause-looked
returns-clause-looked g c =
    let geometry : c.geometry-geometry.result ≡ geometry_of (g.W.WordCalls.pass_of c.args.words.now c.args.pass.now) = c.geometry-geometry.ensures.value ∙ ap (λ (i : Identity). i.geometry) c.identity.ensures in
    let id : Names (g.W.WordCalls.pass_of c.args.words.now c.args.pass.now) c.load_tail-tail.result c.load_count-count.result = c.is_of.ensures.0 c.if-not-is_of.false ∙ ap (λ (h : Geometry). id_of h c.load_count-count.result) geometry in
    let term : c.term_length.result ≡ term_of (g.W.WordCalls.pass_of c.args.words.now c.args.pass.now) = c.term_length.ensures.value ∙ ap (λ (h : Geometry). h.term_length) geometry in
    let room : offset_in c.load_tail-tail.result < term_of (g.W.WordCalls.pass_of c.args.words.now c.args.pass.now) = omega (arith, term, c.term_offset-offset.ensures, c.if-offset-term_length.false) in
    let position : c.position_at.result ≡ position_in (g.W.WordCalls.pass_of c.args.words.now c.args.pass.now) c.load_count-count.result c.load_tail-tail.result = c.position_at.ensures ∙ ap (λ (h : Geometry). c.load_count-count.result * h.term_length + c.term_offset-offset.result) geometry ∙ ap (λ (n : ℕ). c.load_count-count.result * term_of (g.W.WordCalls.pass_of c.args.words.now c.args.pass.now) + n) c.term_offset-offset.ensures in
    let reached : limit_in c.load_limit-limit.result ≤ position_in (g.W.WordCalls.pass_of c.args.words.now c.args.pass.now) c.load_count-count.result c.load_tail-tail.result = omega (arith, position, c.if-position_at-limit.false) in
    looked_unconnected (g.W.WordCalls.pass_of c.args.words.now c.args.pass.now) (g.W.WordCalls.pass_of c.load_limit-limit.new.self c.load_limit-limit.new.pass) (g.W.WordCalls.pass_of c.load_count-count.new.self c.load_count-count.new.pass) (g.W.WordCalls.pass_of c.load_tail-tail.new.self c.load_tail-tail.new.pass) c.load_limit-limit.result c.load_count-count.result c.load_tail-tail.result c.load_limit-limit.ensures.told (ne_eqb (c.load_limit-limit.result / 2 % 2) 1 c.if-limit-eq1.false) c.load_count-count.ensures.told c.load_tail-tail.ensures.told id room reached (ne_eqb (c.load_limit-limit.result % 2) 1 c.if-limit-eq1-2.false)

pub returns-then-not-is_of-clause-called : goal.returns-then-not-is_of-clause-called
returns-then-not-is_of-clause-called g c =
    calls_three g.W.WordCalls.fits g.W.WordCalls.pass_of g.W.WordCalls.name g.W.WordCalls.id g.W.WordCalls.took g.met.W.WordCalls.more _ _ _ _ _ _ _ _ _ _ _ c.load_limit-limit.ensures.moved c.load_count-count.ensures.moved c.load_tail-tail.ensures.moved c.load_limit-limit.ensures.took c.load_count-count.ensures.took c.load_tail-tail.ensures.took
    (three_seen (g.W.WordCalls.pass_of c.args.words.now c.args.pass.now) (g.W.WordCalls.pass_of c.load_limit-limit.new.self c.load_limit-limit.new.pass) (g.W.WordCalls.pass_of c.load_count-count.new.self c.load_count-count.new.pass) (g.W.WordCalls.pass_of c.load_tail-tail.new.self c.load_tail-tail.new.pass) c.load_limit-limit.result c.load_count-count.result c.load_tail-tail.result c.load_limit-limit.ensures.told c.load_count-count.ensures.told c.load_tail-tail.ensures.told)

pub returns-then-offset-term_length-clause-called : goal.returns-then-offset-term_length-clause-called
returns-then-offset-term_length-clause-called g c =
    calls_three g.W.WordCalls.fits g.W.WordCalls.pass_of g.W.WordCalls.name g.W.WordCalls.id g.W.WordCalls.took g.met.W.WordCalls.more _ _ _ _ _ _ _ _ _ _ _ c.load_limit-limit.ensures.moved c.load_count-count.ensures.moved c.load_tail-tail.ensures.moved c.load_limit-limit.ensures.took c.load_count-count.ensures.took c.load_tail-tail.ensures.took
    (three_seen (g.W.WordCalls.pass_of c.args.words.now c.args.pass.now) (g.W.WordCalls.pass_of c.load_limit-limit.new.self c.load_limit-limit.new.pass) (g.W.WordCalls.pass_of c.load_count-count.new.self c.load_count-count.new.pass) (g.W.WordCalls.pass_of c.load_tail-tail.new.self c.load_tail-tail.new.pass) c.load_limit-limit.result c.load_count-count.result c.load_tail-tail.result c.load_limit-limit.ensures.told c.load_count-count.ensures.told c.load_tail-tail.ensures.told)

pub returns-then-position_at-limit-clause-called : goal.returns-then-position_at-limit-clause-called
returns-then-position_at-limit-clause-called g c =
    calls_three g.W.WordCalls.fits g.W.WordCalls.pass_of g.W.WordCalls.name g.W.WordCalls.id g.W.WordCalls.took g.met.W.WordCalls.more _ _ _ _ _ _ _ _ _ _ _ c.load_limit-limit.ensures.moved c.load_count-count.ensures.moved c.load_tail-tail.ensures.moved c.load_limit-limit.ensures.took c.load_count-count.ensures.took c.load_tail-tail.ensures.took
    (three_seen (g.W.WordCalls.pass_of c.args.words.now c.args.pass.now) (g.W.WordCalls.pass_of c.load_limit-limit.new.self c.load_limit-limit.new.pass) (g.W.WordCalls.pass_of c.load_count-count.new.self c.load_count-count.new.pass) (g.W.WordCalls.pass_of c.load_tail-tail.new.self c.load_tail-tail.new.pass) c.load_limit-limit.result c.load_count-count.result c.load_tail-tail.result c.load_limit-limit.ensures.told c.load_count-count.ensures.told c.load_tail-tail.ensures.told)

pub returns-then-limit-eq1-2-clause-called : goal.returns-then-limit-eq1-2-clause-called
returns-then-limit-eq1-2-clause-called g c =
    calls_three g.W.WordCalls.fits g.W.WordCalls.pass_of g.W.WordCalls.name g.W.WordCalls.id g.W.WordCalls.took g.met.W.WordCalls.more _ _ _ _ _ _ _ _ _ _ _ c.load_limit-limit.ensures.moved c.load_count-count.ensures.moved c.load_tail-tail.ensures.moved c.load_limit-limit.ensures.took c.load_count-count.ensures.took c.load_tail-tail.ensures.took
    (three_seen (g.W.WordCalls.pass_of c.args.words.now c.args.pass.now) (g.W.WordCalls.pass_of c.load_limit-limit.new.self c.load_limit-limit.new.pass) (g.W.WordCalls.pass_of c.load_count-count.new.self c.load_count-count.new.pass) (g.W.WordCalls.pass_of c.load_tail-tail.new.self c.load_tail-tail.new.pass) c.load_limit-limit.result c.load_count-count.result c.load_tail-tail.result c.load_limit-limit.ensures.told c.load_count-count.ensures.told c.load_tail-tail.ensures.told)

pub returns-clause-called : goal.returns-clause-called
returns-clause-called g c =
    calls_three g.W.WordCalls.fits g.W.WordCalls.pass_of g.W.WordCalls.name g.W.WordCalls.id g.W.WordCalls.took g.met.W.WordCalls.more _ _ _ _ _ _ _ _ _ _ _ c.load_limit-limit.ensures.moved c.load_count-count.ensures.moved c.load_tail-tail.ensures.moved c.load_limit-limit.ensures.took c.load_count-count.ensures.took c.load_tail-tail.ensures.took
    (three_seen (g.W.WordCalls.pass_of c.args.words.now c.args.pass.now) (g.W.WordCalls.pass_of c.load_limit-limit.new.self c.load_limit-limit.new.pass) (g.W.WordCalls.pass_of c.load_count-count.new.self c.load_count-count.new.pass) (g.W.WordCalls.pass_of c.load_tail-tail.new.self c.load_tail-tail.new.pass) c.load_limit-limit.result c.load_count-count.result c.load_tail-tail.result c.load_limit-limit.ensures.told c.load_count-count.ensures.told c.load_tail-tail.ensures.told)

pub returns-then-limit-eq1-clause-called : goal.returns-then-limit-eq1-clause-called
returns-then-limit-eq1-clause-called g c = calls_first g.W.WordCalls.fits g.W.WordCalls.pass_of g.W.WordCalls.name g.W.WordCalls.id g.W.WordCalls.took _ _ _ _ _ c.load_limit-limit.ensures.moved c.load_limit-limit.ensures.took (ap (λ (u : Pass). u.call) c.load_limit-limit.ensures.told)
