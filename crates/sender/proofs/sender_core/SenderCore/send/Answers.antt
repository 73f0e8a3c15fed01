use Rattle.std.proofs.Common.{◌∙◌, ap, rules, subst, sym, arith}
use Rattle.theory.specs.Bytes.{Identity}
use Rattle.theory.specs.Position.{max_position}
use Rattle.sender.specs.Sending.{Sending, SendsFrom}
use Rattle.sender.proofs.NextLemmas.{ends_above, goes, has_no_room, no_frame, none_to, passed_end, read_to}
use Rattle.sender.proofs.SendLemmas.{from_here, has_packed, legal_here, same_stream, sends_from, sends_more, sends_new, sends_none, unit_here}
use Rattle.sender.proofs.sender_core.SenderCore.send.Goals as goal

pub loop-head-init : goal.loop-head-init
loop-head-init g c =
    let S = Sending g.row.R.Denot g.row.F.Denot in
    let v = c.self.invariant in
    let from = subst (λ (s : S). SendsFrom s (g.R.FrameSource.source s.reads c.args.log.now)) (sym c.self.view_is) c.requires.from in
    rw (← c.self.view_is) (record {
      on = sends_none g.R.FrameSource.grown _ _ _ c.args.outbox.now c.self.inside.block _ g.met.R.FrameSource.grown_same from v.0 v.1 v.2 (c.requires.size ∙ ap (λ (s : S). s.identity.geometry.mtu) (sym c.self.view_is)) c.requires.room c.new-packing.ensures;
      limit = search rules;
      stands = subst (λ (s : S). g.R.FrameSource.stands s.reads c.args.log.now) (sym c.self.view_is) c.requires.stands;
      leaves = g.met.R.FrameSource.leaves_same _ _ (subst (λ (s : S). g.R.FrameSource.stands s.reads c.args.log.now) (sym c.self.view_is) c.requires.stands);
    })

pub next-requires-clause-room : goal.next-requires-clause-room
next-requires-clause-room g c =
    let v = c.loop-head.invariant.on in
    let same = same_stream _ _ _ _ _ _ _ _ _ _ v in
    omega (arith, v.payload, ap (λ (i : Identity). i.geometry.mtu) same)

pub sent_to-requires : goal.sent_to-requires
sent_to-requires g c = legal_here _ _ _ _ _ _ _ _ _ _ c.loop-head.invariant.on _ _ _ _ c.in-Some.ensures.found

pub put-requires-clause-room : goal.put-requires-clause-room
put-requires-clause-room g c = omega (arith, c.loop-head.invariant.on.payload, c.in-Some.ensures.same_length)

pub put-requires-clause-head : goal.put-requires-clause-head
put-requires-clause-head g c = legal_here _ _ _ _ _ _ _ _ _ _ c.loop-head.invariant.on _ _ _ _ c.in-Some.ensures.found

pub put-requires-clause-packs : goal.put-requires-clause-packs
put-requires-clause-packs g c = has_packed _ _ _ _ _ _ _ _ _ _ c.loop-head.invariant.on

pub note-requires-clause-further : goal.note-requires-clause-further
note-requires-clause-further g c =
    let far = passed_end g.R.FrameSource.grown _ _ _ c.advance.result c.in-Some.head c.loop-head.self-inside.block c.next.new.block c.in-Some.ensures.found c.advance.ensures.passes in
    omega (arith, far, c.in-Some.ensures.found.read.legal.long)

pub note-requires-clause-in_stream : goal.note-requires-clause-in_stream
note-requires-clause-in_stream g c =
    let v = c.loop-head.invariant.on in
    let legal = legal_here _ _ _ _ _ _ _ _ _ _ v _ _ _ _ c.in-Some.ensures.found in
    let far = passed_end g.R.FrameSource.grown _ _ _ c.advance.result c.in-Some.head c.loop-head.self-inside.block c.next.new.block c.in-Some.ensures.found c.advance.ensures.passes in
    omega (arith, far, legal.in_stream, ap max_position v.sent.stream)

pub loop-head-smaller : goal.loop-head-smaller
loop-head-smaller g c =
    let l = c.loop-head in
    let i = l.self-inside in
    let v = l.invariant.on in
    let went =
    goes g.R.FrameSource.grown i.identity _ c.sent_to.result c.advance.result _ i.handler l.packing l.outbox c.in-Some.head i.block _ c.next.new.block _ c.note.new.self c.put.new.self c.put.new.outbox (same_stream _ _ _ _ _ _ _ _ _ _ v) (from_here _ _ _ _ _ _ _ _ _ _ v) c.in-Some.ensures.found c.sent_to.ensures c.if-sent_to-limit.false c.if-not-put.ensures c.advance.ensures.passes c.note.ensures in
    let further = went.further in
    let in_stream = went.in_stream in
    omega (arith, further, in_stream)

pub loop-head-preserved : goal.loop-head-preserved
loop-head-preserved g c =
    let l = c.loop-head in
    let i = l.self-inside in
    let v = l.invariant.on in
    record {
      on =
          sends_more g.R.FrameSource.grown _ _ _ _ _ _ i.block l.packing l.outbox _ c.advance.new.self c.note.new.self c.next.new.block c.put.new.self c.put.new.outbox g.met.R.FrameSource.grown_on g.met.R.FrameSource.grown_keeps v c.in-Some.ensures.same_length
          (goes g.R.FrameSource.grown i.identity _ c.sent_to.result c.advance.result _ i.handler l.packing l.outbox c.in-Some.head i.block _ c.next.new.block _ c.note.new.self c.put.new.self c.put.new.outbox (same_stream _ _ _ _ _ _ _ _ _ _ v) (from_here _ _ _ _ _ _ _ _ _ _ v) c.in-Some.ensures.found c.sent_to.ensures c.if-sent_to-limit.false c.if-not-put.ensures c.advance.ensures.passes c.note.ensures);
      limit = l.invariant.limit;
      stands = c.advance.ensures.stands;
      leaves = g.met.R.FrameSource.leaves_on _ _ _ _ _ _ (g.met.R.FrameSource.leaves_on _ _ _ _ _ _ l.invariant.leaves c.in-Some.ensures.leaves) c.advance.ensures.leaves;
    }

-- the first frame that ends above the limit

pub invariant_of-self : goal.invariant_of-self
invariant_of-self g c =
    let v = c.loop-head.invariant.on in
    (omega (arith, v.payload, c.in-Some.ensures.same_length), v.sent.stream, unit_here _ _ _ _ _ _ _ _ _ _ v)

pub returns-then-sent_to-limit-clause-sends : goal.returns-then-sent_to-limit-clause-sends
returns-then-sent_to-limit-clause-sends g c =
    let l = c.loop-head in
    let i = l.self-inside in
    let v = l.invariant.on in
    sends_new g.R.FrameSource.grown _ _ _ _ _ _ i.block l.packing l.outbox v _ _ i.handler l.packing l.outbox g.met.R.FrameSource.grown_on g.met.R.FrameSource.grown_keeps (λ look. look) l.invariant.limit
    (ends_above g.R.FrameSource.grown _ _ c.sent_to.result _ i.handler l.packing l.outbox c.in-Some.head i.block _ c.next.new.block (from_here _ _ _ _ _ _ _ _ _ _ v) c.in-Some.ensures.found c.sent_to.ensures c.if-sent_to-limit.true)

pub returns-then-sent_to-limit-clause-state : goal.returns-then-sent_to-limit-clause-state
returns-then-sent_to-limit-clause-state g c = ap (λ (s : Sending g.row.R.Denot g.row.F.Denot). record s { reads = c.next.new.self }) c.loop-head.invariant.on.state

pub returns-then-sent_to-limit-clause-from : goal.returns-then-sent_to-limit-clause-from
returns-then-sent_to-limit-clause-from g c =
    let v = c.loop-head.invariant.on in
    sends_from g.R.FrameSource.grown _ _ _ _ _ _ _ _ _ v _ c.next.new.self g.met.R.FrameSource.grown_keeps (read_to g.R.FrameSource.grown _ _ _ _ _ _ (from_here _ _ _ _ _ _ _ _ _ _ v) c.in-Some.ensures.found)

-- the first that has no place

pub invariant_of-self-then-not-put : goal.invariant_of-self-then-not-put
invariant_of-self-then-not-put g c =
    let v = c.loop-head.invariant.on in
    (omega (arith, v.payload, c.in-Some.ensures.same_length), v.sent.stream, unit_here _ _ _ _ _ _ _ _ _ _ v)

pub returns-then-not-put-clause-sends : goal.returns-then-not-put-clause-sends
returns-then-not-put-clause-sends g c =
    let l = c.loop-head in
    let i = l.self-inside in
    let v = l.invariant.on in
    sends_new g.R.FrameSource.grown _ _ _ _ _ _ i.block l.packing l.outbox v _ _ i.handler c.put.new.self c.put.new.outbox g.met.R.FrameSource.grown_on g.met.R.FrameSource.grown_keeps (λ look. look) l.invariant.limit
    (has_no_room g.R.FrameSource.grown _ _ c.sent_to.result _ i.handler l.packing l.outbox c.in-Some.head i.block _ c.next.new.block c.put.new.self c.put.new.outbox (from_here _ _ _ _ _ _ _ _ _ _ v) c.in-Some.ensures.found c.sent_to.ensures c.if-sent_to-limit.false c.if-not-put.ensures)

pub returns-then-not-put-clause-state : goal.returns-then-not-put-clause-state
returns-then-not-put-clause-state g c = ap (λ (s : Sending g.row.R.Denot g.row.F.Denot). record s { reads = c.next.new.self }) c.loop-head.invariant.on.state

pub returns-then-not-put-clause-from : goal.returns-then-not-put-clause-from
returns-then-not-put-clause-from g c =
    let v = c.loop-head.invariant.on in
    sends_from g.R.FrameSource.grown _ _ _ _ _ _ _ _ _ v _ c.next.new.self g.met.R.FrameSource.grown_keeps (read_to g.R.FrameSource.grown _ _ _ _ _ _ (from_here _ _ _ _ _ _ _ _ _ _ v) c.in-Some.ensures.found)

-- a look finds none

pub invariant_of-self-in_default : goal.invariant_of-self-in_default
invariant_of-self-in_default g c =
    let v = c.loop-head.invariant.on in
    (omega (arith, v.payload, c.in_default.ensures.same_length), v.sent.stream, unit_here _ _ _ _ _ _ _ _ _ _ v)

pub returns-clause-sends : goal.returns-clause-sends
returns-clause-sends g c =
    let l = c.loop-head in
    let i = l.self-inside in
    let v = l.invariant.on in
    sends_new g.R.FrameSource.grown _ _ _ _ _ _ i.block l.packing l.outbox v _ _ i.handler l.packing l.outbox g.met.R.FrameSource.grown_on g.met.R.FrameSource.grown_keeps
    (λ look. record { before = i.reads; at = l.log; after = c.next.new.self; there = c.next.new.log; until = l.invariant.leaves; look = look; since = g.met.R.FrameSource.leaves_same _ _ c.in_default.ensures.stands })
    l.invariant.limit
    (no_frame g.R.FrameSource.grown _ _ _ i.handler l.packing l.outbox _ i.block c.next.new.block g.met.R.FrameSource.grown_same (from_here _ _ _ _ _ _ _ _ _ _ v) c.in_default.ensures.none c.in_default.ensures.looked)

pub returns-clause-state : goal.returns-clause-state
returns-clause-state g c = ap (λ (s : Sending g.row.R.Denot g.row.F.Denot). record s { reads = c.next.new.self }) c.loop-head.invariant.on.state

pub returns-clause-from : goal.returns-clause-from
returns-clause-from g c =
    let v = c.loop-head.invariant.on in
    sends_from g.R.FrameSource.grown _ _ _ _ _ _ _ _ _ v _ c.next.new.self g.met.R.FrameSource.grown_keeps (none_to g.R.FrameSource.grown _ _ _ _ _ g.met.R.FrameSource.grown_same (from_here _ _ _ _ _ _ _ _ _ _ v) c.in_default.ensures.none)
