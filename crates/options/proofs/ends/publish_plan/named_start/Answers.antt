use Rattle.std.proofs.Common.{rules, ◌≡◌, ◌∙◌, ◌<◌, ◌%◌, ◌+◌, ◌*◌, pos, arith, ap, ap₂, sym}
use Rattle.theory.specs.Position.{count_of}
use Rattle.options.proofs.Starts.{placed}
use Rattle.options.proofs.ends.publish_plan.named_start.Goals as goal

pub returns-clause-found : goal.returns-clause-found
returns-clause-found c =
    let g = c.args.geometry.now in
    let s = c.args.start in
    let whole : g.term_length % 65536 ≡ 0 = ap (λ x. x % 65536) (sym c.term_length-length.ensures.value) ∙ c.term_length-length.ensures.whole in
    let unit : s.term_offset % 32 ≡ 0 = search rules in
    let counted : count_of g s.term_id ≡ pos c.in_ok-count.count = search rules in
    let inside : s.term_offset < g.term_length = omega (arith, c.if-start-length.false, c.term_length-length.ensures.value) in
    placed g s c.in_ok-count.count _ whole counted c.in_ok-count.ensures.found.1 unit inside (ap₂ (λ x y. x + y) (ap₂ (λ x y. x * y) c.from.ensures (c.from-2.ensures ∙ c.term_length-length.ensures.value)) c.from-3.ensures)
