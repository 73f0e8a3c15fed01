use Rattle.std.proofs.Common.{◌∙◌, arith}
use Rattle.image.proofs.Freeing.{ends_within, exact_here, freed_on, further, memory_on, next_here, out_here, passed_here, short}
use Rattle.image.proofs.inserter.clearing.free_units.Goals as goal

pub free_frame-room-requires-clause-exact : goal.free_frame-room-requires-clause-exact
free_frame-room-requires-clause-exact c =
    let i = c.args.image.now in let h = c.args.hand.now in let q = c.requires in let a = c.loop-at.invariant in
    exact_here i.key i.is_key h.seat.me.0 c.loop-at.hand.seat.me.0 q.exact c.loop-at.at c.args.to c.loop-at.room.pool.free c.args.heads.now a.3 a.5 q.rise q.reached q.edge c.loop-at-test.true

pub free_frame-room-requires-clause-next : goal.free_frame-room-requires-clause-next
free_frame-room-requires-clause-next c =
    let i = c.args.image.now in let h = c.args.hand.now in let q = c.requires in let a = c.loop-at.invariant in
    next_here i.key i.is_key h.seat.me.0 c.loop-at.hand.seat.me.0 q.exact c.loop-at.at c.args.to c.loop-at.room.pool.free c.args.heads.now a.3 a.5 q.rise q.reached q.edge c.loop-at-test.true

pub free_frame-room-requires-clause-passed : goal.free_frame-room-requires-clause-passed
free_frame-room-requires-clause-passed c =
    let i = c.args.image.now in let h = c.args.hand.now in let q = c.requires in let a = c.loop-at.invariant in
    passed_here i.key i.is_key h.seat.me.0 c.loop-at.hand.seat.me.0 q.exact c.loop-at.at c.args.to c.loop-at.room.pool.free c.args.heads.now a.3 a.5 q.rise q.reached q.edge c.loop-at-test.true

pub free_frame-room-requires-clause-out : goal.free_frame-room-requires-clause-out
free_frame-room-requires-clause-out c =
    let i = c.args.image.now in let h = c.args.hand.now in let q = c.requires in let a = c.loop-at.invariant in
    out_here i.key i.is_key h.seat.me.0 c.loop-at.hand.seat.me.0 q.exact c.loop-at.at c.args.to c.loop-at.room.pool.free c.args.heads.now a.3 a.5 q.rise q.reached q.edge c.loop-at-test.true

pub align32-requires : goal.align32-requires
align32-requires c =
    let i = c.args.image.now in let h = c.args.hand.now in let q = c.requires in let a = c.loop-at.invariant in
    short i.key i.is_key h.seat.me.0 c.loop-at.hand.seat.me.0 q.exact c.loop-at.at c.args.to c.loop-at.room.pool.free c.args.heads.now a.3 a.5 q.rise q.reached q.edge c.loop-at-test.true c.place.result c.head_in-head.result c.place.ensures.is c.head_in-head.ensures

pub loop-at-smaller : goal.loop-at-smaller
loop-at-smaller c =
    let i = c.args.image.now in let h = c.args.hand.now in let q = c.requires in let a = c.loop-at.invariant in
    let size = c.from.ensures ∙ c.align32.ensures in
    let le = ends_within i.key i.is_key h.seat.me.0 c.loop-at.hand.seat.me.0 q.exact c.loop-at.at c.args.to c.loop-at.room.pool.free c.args.heads.now a.3 a.5 q.rise q.reached q.edge c.loop-at-test.true c.place.result c.head_in-head.result c.place.ensures.is c.head_in-head.ensures c.from.result size in
    let lt = further i.key i.is_key h.seat.me.0 c.loop-at.hand.seat.me.0 q.exact c.loop-at.at c.args.to c.loop-at.room.pool.free c.args.heads.now a.3 a.5 q.rise q.reached q.edge c.loop-at-test.true c.place.result c.head_in-head.result c.place.ensures.is c.head_in-head.ensures c.from.result size in
    omega arith

pub loop-at-preserved : goal.loop-at-preserved
loop-at-preserved c =
    let i = c.args.image.now in let h = c.args.hand.now in let q = c.requires in let a = c.loop-at.invariant in
    let size = c.from.ensures ∙ c.align32.ensures in let e = c.free_frame-room.ensures in (
      e.fits ∙ a.0,
      ends_within i.key i.is_key h.seat.me.0 c.loop-at.hand.seat.me.0 q.exact c.loop-at.at c.args.to c.loop-at.room.pool.free c.args.heads.now a.3 a.5 q.rise q.reached q.edge c.loop-at-test.true c.place.result c.head_in-head.result c.place.ensures.is c.head_in-head.ensures c.from.result size,
      e.slots,
      freed_on i.key i.is_key h.seat.me.0 c.loop-at.hand.seat.me.0 q.exact c.loop-at.at c.args.to c.loop-at.room.pool.free c.args.heads.now a.3 a.5 q.rise q.reached q.edge c.loop-at-test.true c.place.result c.head_in-head.result c.place.ensures.is c.head_in-head.ensures c.from.result c.free_frame-room.new.hand.seat.me.0 size e.freed,
      e.lies ∙ a.4,
      memory_on i.key i.is_key h.seat.me.0 c.loop-at.hand.seat.me.0 q.exact c.loop-at.at c.args.to c.loop-at.room.pool.free c.args.heads.now a.3 a.5 q.rise q.reached q.edge c.loop-at-test.true c.place.result c.head_in-head.result c.place.ensures.is c.head_in-head.ensures c.free_frame-room.new.hand.seat.me.0 c.free_frame-room.result.pool.free e.freed e.rest,
    )
