use Rattle.std.proofs.Common.{◌+◌, ◌≤◌, ◌∙◌, ℕ, Some, arith, length, sym, ap, subst}
use Rattle.std.specs.Prelude.{nat_lt, if◌then◌else◌}
use Rattle.sender.specs.Giving.{SendsNew}
use Rattle.frames.specs.Outgoing.{Outgoing}
use Rattle.sender.specs.Naming.{is_due}
use Rattle.sender.specs.Sending.{Cycles, GoesOn, HasLooked, Sending, SendsFrom}
use Rattle.sender.proofs.CycleLemmas.{cycles, looks_on, more_few, named_few, named_from, still_goes}
use Rattle.sender.proofs.sender_core.SenderCore.cycle.Goals as goal

pub returns-clause-cycle : goal.returns-clause-cycle
returns-clause-cycle g c =
    let S = Sending g.row.R.Denot g.row.F.Denot in
    let source = g.R.FrameSource.source in
    let o = c.self.inside in
    let s : S = record { identity = o.identity; reads = o.reads; flow = o.flow; naming = o.setup; heard = o.heard; handler = o.handler; last = o.last; clock = o.clock } in
    let b = c.name_stream.new.self in
    let log = c.args.log.now in
    let mid = source c.send.new.self.reads c.send.new.log in
    let last = source c.note_moment.new.self.reads c.resend.new.log in
    let p = c.name_stream.new.outbox in
    let t = c.beat.new.outbox in
    let d = c.resend.new.self in
    let leaves = g.R.FrameSource.leaves in
    let looks = HasLooked leaves g.R.FrameSource.looked in
    let Looked = looks o.reads log c.note_moment.new.self.reads c.resend.new.log in
    let before = ap (λ (x : S). x.reads) c.name_stream.ensures.state in
    let after = sym (ap (λ (x : S). x.reads) c.note_moment.ensures) in
    let sends = subst (λ r. SendsNew (looks r log c.send.new.self.reads c.send.new.log) g.R.FrameSource.grown b.identity (g.F.FlowControl.reached b.flow) (source r log) b.handler p mid c.send.new.self.handler c.send.new.outbox) before c.send.ensures.sends in
    let since = subst (λ (r : g.row.R.Denot). leaves c.send.new.self.reads c.send.new.log r c.resend.new.log) after c.resend.ensures.leaves in
    let steps = cycles Looked g.R.FrameSource.grown g.F.FlowControl.after_tick g.F.FlowControl.reached s b c.send.new.self d c.note_moment.new.self c.tick.new.self c.args.outbox.now p c.send.new.outbox c.resend.new.outbox t (source o.reads log) mid last (record {
      empty = c.requires.empty;
      tick = c.tick.ensures.state;
      name = c.name_stream.ensures.state;
      named = c.name_stream.ensures.out;
      sends = looks_on (λ look. record { before = look.before; at = look.at; after = look.after; there = look.there; until = look.until; look = look.look; since = g.met.R.FrameSource.leaves_on _ _ _ _ _ _ look.since since }) sends;
      sent = c.send.ensures.state;
      again = c.resend.ensures.sends;
      answered = c.resend.ensures.state;
      stays = ap (λ (x : S). source x.reads c.resend.new.log) c.note_moment.ensures ∙ c.resend.ensures.stays;
      beat = c.beat.ensures;
      noted =
          c.note_moment.ensures
          ∙ ap (λ (n : ℕ). record d { last = if nat_lt n c.len.result then Some d.clock else d.last }) c.len-named.ensures.value
          ∙ ap (λ (n : ℕ). record d { last = if nat_lt (length p.datagrams) n then Some d.clock else d.last }) c.len.ensures.value;
    }) in
    subst (λ (x : S). Cycles (looks x.reads log c.note_moment.new.self.reads c.resend.new.log) g.R.FrameSource.grown g.F.FlowControl.after_tick g.F.FlowControl.reached x (source x.reads log) last c.note_moment.new.self t.datagrams) c.self.view_is steps

pub invariant_of-self : goal.invariant_of-self
invariant_of-self g c = c.self.invariant

pub send-requires-clause-stands : goal.send-requires-clause-stands
send-requires-clause-stands g c =
    let S = Sending g.row.R.Denot g.row.F.Denot in
    let same = ap (λ (x : S). x.reads) c.name_stream.ensures.state ∙ ap (λ (x : S). x.reads) c.self.view_is in
    subst (λ (r : g.row.R.Denot). g.R.FrameSource.stands r c.args.log.now) (sym same) c.requires.stands

pub send-requires-clause-from : goal.send-requires-clause-from
send-requires-clause-from g c =
    let S = Sending g.row.R.Denot g.row.F.Denot in
    let o = c.self.inside in
    let s : S = record { identity = o.identity; reads = o.reads; flow = o.flow; naming = o.setup; heard = o.heard; handler = o.handler; last = o.last; clock = o.clock } in
    let source = λ (r : g.row.R.Denot). g.R.FrameSource.source r c.args.log.now in
    let from : SendsFrom s (source s.reads) = subst (λ (x : S). SendsFrom x (source x.reads)) (sym c.self.view_is) c.requires.from in
    named_from source s c.name_stream.new.self c.tick.new.self _ from c.name_stream.ensures.state

pub send-requires-clause-size : goal.send-requires-clause-size
send-requires-clause-size g c =
    let S = Sending g.row.R.Denot g.row.F.Denot in
    ap (λ (x : Outgoing). x.mtu) c.name_stream.ensures.out ∙ c.requires.size ∙ sym (ap (λ (x : S). x.identity.geometry.mtu) c.name_stream.ensures.state ∙ ap (λ (x : S). x.identity.geometry.mtu) c.self.view_is)

pub send-requires-clause-room : goal.send-requires-clause-room
send-requires-clause-room g c =
    let few : length c.name_stream.new.outbox.datagrams ≤ 1 = named_few c.self.inside.identity c.self.inside.handler.at (is_due c.self.inside.setup c.self.inside.clock) c.args.outbox.now c.name_stream.new.outbox c.requires.empty c.name_stream.ensures.out in
    omega (arith, few)

pub resend-requires-clause-stands : goal.resend-requires-clause-stands
resend-requires-clause-stands g c = c.send.ensures.stands

pub resend-requires-clause-from : goal.resend-requires-clause-from
resend-requires-clause-from g c = c.send.ensures.from

pub resend-requires-clause-room : goal.resend-requires-clause-room
resend-requires-clause-room g c =
    let few : length c.name_stream.new.outbox.datagrams ≤ 1 = named_few c.self.inside.identity c.self.inside.handler.at (is_due c.self.inside.setup c.self.inside.clock) c.args.outbox.now c.name_stream.new.outbox c.requires.empty c.name_stream.ensures.out in
    let more : length c.send.new.outbox.datagrams ≤ 1 + 16 = more_few c.name_stream.new.self.identity c.send.ensures.sends.fresh c.name_stream.new.outbox c.send.new.outbox 1 16 few c.send.ensures.sends.few c.send.ensures.sends.out in
    omega (arith, more)

pub returns-clause-goes_on : goal.returns-clause-goes_on
returns-clause-goes_on g c =
    let S = Sending g.row.R.Denot g.row.F.Denot in
    let o = c.self.inside in
    let s : S = record { identity = o.identity; reads = o.reads; flow = o.flow; naming = o.setup; heard = o.heard; handler = o.handler; last = o.last; clock = o.clock } in
    let source = g.R.FrameSource.source in
    let d = c.resend.new.self in
    let e = c.note_moment.new.self in
    let last = source e.reads c.resend.new.log in
    let stays = ap (λ (x : S). source x.reads c.resend.new.log) c.note_moment.ensures ∙ c.resend.ensures.stays in
    subst (λ (x : S). GoesOn x e last) c.self.view_is (still_goes s c.name_stream.new.self c.send.new.self d e c.tick.new.self _ (source c.send.new.self.reads c.send.new.log) last _ c.name_stream.ensures.state c.send.ensures.state c.send.ensures.from c.resend.ensures.state c.note_moment.ensures stays)

pub returns-clause-stands : goal.returns-clause-stands
returns-clause-stands g c =
    let S = Sending g.row.R.Denot g.row.F.Denot in
    subst (λ (r : g.row.R.Denot). g.R.FrameSource.stands r c.resend.new.log) (sym (ap (λ (x : S). x.reads) c.note_moment.ensures)) c.resend.ensures.stands

pub returns-clause-leaves : goal.returns-clause-leaves
returns-clause-leaves g c =
    let S = Sending g.row.R.Denot g.row.F.Denot in
    let leaves = g.R.FrameSource.leaves in
    let before = ap (λ (x : S). x.reads) c.name_stream.ensures.state ∙ ap (λ (x : S). x.reads) c.self.view_is in
    let after = sym (ap (λ (x : S). x.reads) c.note_moment.ensures) in
    g.met.R.FrameSource.leaves_on c.args.self.now.reads c.args.log.now c.send.new.self.reads c.send.new.log c.note_moment.new.self.reads c.resend.new.log
    (subst (λ (r : g.row.R.Denot). leaves r c.args.log.now c.send.new.self.reads c.send.new.log) before c.send.ensures.leaves)
    (subst (λ (r : g.row.R.Denot). leaves c.send.new.self.reads c.send.new.log r c.resend.new.log) after c.resend.ensures.leaves)

pub returns-clause-size : goal.returns-clause-size
returns-clause-size g c =
    let mtu = λ (x : Outgoing). x.mtu in
    ap mtu c.beat.ensures ∙ ap mtu c.resend.ensures.sends.out ∙ ap mtu c.send.ensures.sends.out ∙ ap mtu c.name_stream.ensures.out
