use Rattle.std.proofs.Common.{◌-◌, arith, inl, inr, refl}
use Rattle.std.proofs.lemmas.Result.{on_ok_weaker}
use Rattle.script.specs.Meaning as commands
use Rattle.simulation.specs.declared.line.Line.TheVariants as lines
use Rattle.simulation.proofs.Simulations.{no_reader, read_answered, seen_as, unchanged}
use Rattle.simulation.proofs.simulation.Simulation.read.Goals as goal
use Rattle.simulation.proofs.simulation.Simulation.read.Goals.{then-reader-eq0-via-then-reader-eq0, then-reader-eq0-via-else-reader-eq0+then-not-has_consumer}

pub returns-then-reader-eq0 : goal.returns-then-reader-eq0
returns-then-reader-eq0 c =
    on_ok_weaker c.add_line.result (λ told. unchanged _ _ (commands.Read c.args.reader.number) c.args.lines.now.items c.add_line.new.lines.items c.self.view_is
    (no_reader _ c.args.reader.number lines.Bad c.args.lines.now.items c.add_line.new.lines.items
    (elim c.then-reader-eq0.branch [
      | then-reader-eq0-via-then-reader-eq0 w ↦ inl (omega (arith, w.if-reader-eq0.true))
      | then-reader-eq0-via-else-reader-eq0+then-not-has_consumer w ↦ inr (w.has_consumer.ensures.none w.if-not-has_consumer.true)
    ])
    refl told)) c.add_line.ensures

pub returns : goal.returns
returns c =
    let k = c.args.reader.number in
    let before = c.args.lines.now.items in
    let after = c.add_line-2.new.lines.items in
    on_ok_weaker c.add_line-2.result (λ told. seen_as _ _ _ (commands.Read k) before after c.self.view_is
    (read_answered _ k (k - 1) c.read_line.new.log c.in_ok-line.line before after
    (omega (arith, c.if-reader-eq0.false)) (c.has_consumer.ensures.there c.if-not-has_consumer.false) c.in_ok-line.ensures.reads told)) c.add_line-2.ensures
