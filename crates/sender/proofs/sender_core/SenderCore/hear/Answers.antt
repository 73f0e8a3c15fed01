use Rattle.std.proofs.Common.{ap, subst}
use Rattle.theory.specs.Bytes.{Identity}
use Rattle.frames.specs.Frames.{nak_of}
use Rattle.sender.specs.Cycling.{IsNews, Misses}
use Rattle.sender.proofs.sender_core.SenderCore.hear.Goals as goal

pub returns-in-Misses-clause-hears : goal.returns-in-Misses-clause-hears
returns-in-Misses-clause-hears g c = record {
  news = Misses (nak_of c.in-Misses.nak);
  is = subst (λ (i : Identity). IsNews i c.args.bytes.now (Misses (nak_of c.in-Misses.nak))) (ap (λ s. s.identity) c.self.view_is) c.in-Misses.ensures;
  hears = (c.on_nak.ensures.answer.0, c.on_nak.ensures.answer.1, c.on_nak.ensures.answer.2, c.on_nak.ensures.state, c.requires.empty);
}
