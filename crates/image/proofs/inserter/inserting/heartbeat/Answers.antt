use Rattle.std.proofs.Common.{◌≡◌, sym, ap, ◌∙◌, arith}
use Rattle.theory.specs.Bytes.{Identity}
use Rattle.theory.specs.Position.{Geometry, max_position}
use Rattle.image_rule.specs.declared.view.Key.{Key}
use Rattle.image.specs.Rebuilding.{Inserting, geometry_of, inserting}
use Rattle.image.proofs.Kept.{beaten}
use Rattle.image.proofs.inserter.inserting.heartbeat.Goals as goal

pub invariant_of-inserter : goal.invariant_of-inserter
invariant_of-inserter c =
    let n = c.inserter.inside in let m : Inserting = c.least-lowest.new.inserter in let l = c.least-lowest.ensures.looked in
    let i : Inserting = inserting n.words n.window n.high_water in
    let key : m.key ≡ c.args.image.now.key = ap (λ (x : Inserting). x.key) l.after ∙ c.requires.fits.key in
    let g : c.geometry-geometry.result ≡ geometry_of i = c.geometry-geometry.ensures.value ∙ ap (λ (x : Identity). x.geometry) c.identity.ensures ∙ ap (λ (k : Key). k.identity.geometry) (sym key) ∙ ap geometry_of (sym c.inserter.view_is) in
    let low : c.max_position.result ≡ max_position (geometry_of i) = c.max_position.ensures.value ∙ ap max_position g in
    let term : c.term_length.result ≡ (geometry_of i).term_length = c.term_length.ensures.value ∙ ap (λ (x : Geometry). x.term_length) g in
    let floor : c.least-lowest.result ≡ i.floor = c.least-lowest.ensures.value ∙ sym l.floor ∙ ap (λ (x : Inserting). x.floor) (sym c.inserter.view_is) in
    beaten i n.rebuilt _ c.inserter.invariant c.if-position-inserter.false (omega (arith, c.if-position-greatest.false, c.min-greatest.ensures)) (omega (arith, c.if-position-greatest.false, c.min-greatest.ensures, c.from.ensures))
