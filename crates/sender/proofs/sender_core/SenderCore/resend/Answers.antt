use Rattle.std.proofs.Common.{◌∙◌, ap, subst, sym}
use Rattle.sender.specs.Sending.{Sending, SendsFrom}
use Rattle.sender.proofs.DueLemmas.{can_be_reread}
use Rattle.sender.proofs.sender_core.SenderCore.resend.Goals as goal

pub send_again-requires-clause-can : goal.send_again-requires-clause-can
send_again-requires-clause-can g c =
    let S = Sending g.row.R.Denot g.row.F.Denot in
    let from = subst (λ (s : S). SendsFrom s (g.R.FrameSource.source s.reads c.args.log.now)) (sym c.self.view_is) c.requires.from in
    record {
      same = from.identity;
      known = can_be_reread c.self.inside.identity _ c.self.inside.handler _ from.identity from.position c.self.invariant.1 from.near (sym c.in-Some.ensures.range);
      payload = c.self.invariant.0;
      size = c.requires.size ∙ ap (λ (s : S). s.identity.geometry.mtu) (sym c.self.view_is);
      room = c.requires.room;
    }
