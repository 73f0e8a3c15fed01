use Rattle.std.proofs.Common.{◌∙◌, refl, subst, sym}
use Rattle.theory.specs.Gap.{Gap}
use Rattle.frame_source.specs.Sources.{MayReread, Source}
use Rattle.sender.proofs.AgainLemmas.{is_behind, is_below, may_reread, reread_at, resent_all, resent_from, resent_full, resent_more, resent_none}
use Rattle.sender.proofs.again.send_again.Goals as goal

pub loop-at-init : goal.loop-at-init
loop-at-init g c = record {
  resent = resent_none _ _ _ c.args.outbox.now c.new-packing.result c.requires.can.known c.new-packing.ensures c.requires.can.size;
  stays = refl;
  stands = c.requires.stands;
  leaves = g.met.R.FrameSource.leaves_same _ _ c.requires.stands;
  block = refl;
}

pub overflow_sub-at : goal.overflow_sub-at
overflow_sub-at g c = resent_from _ _ _ _ _ _ _ c.loop-at.invariant.resent

pub reread-head-requires-clause-may : goal.reread-head-requires-clause-may
reread-head-requires-clause-may g c =
    let l = c.loop-at in
    let i = c.args.identity.now in
    let s = g.R.FrameSource.source c.args.reads.now c.args.log.now in
    let range : Gap = record { start = c.args.range.start; length = c.args.range.length } in
    let o = c.args.outbox.now in
    let below = is_below i s range o l.at l.packing l.outbox l.invariant.resent c.loop-at-test.true in
    subst (λ (x : Source). MayReread x l.at) (sym l.invariant.stays) (may_reread i s range o l.at l.packing l.outbox below l.invariant.resent)

pub returns-then-not-put-clause-sends : goal.returns-then-not-put-clause-sends
returns-then-not-put-clause-sends g c =
    let l = c.loop-at in
    let i = c.args.identity.now in
    let s = g.R.FrameSource.source c.args.reads.now c.args.log.now in
    let range : Gap = record { start = c.args.range.start; length = c.args.range.length } in
    let o = c.args.outbox.now in
    let head = c.reread-head.result in
    let after = c.reread-head.new.block in
    let below = is_below i s range o l.at l.packing l.outbox l.invariant.resent c.loop-at-test.true in
    let read = reread_at s (g.R.FrameSource.source l.reads l.log) l.at head l.block (g.R.FrameSource.source c.reread-head.new.self c.reread-head.new.log) after l.invariant.stays c.reread-head.ensures.again in
    resent_full i s range o l.at l.packing c.put.new.self l.outbox c.put.new.outbox head l.block after c.requires.can.size below l.invariant.resent read c.if-not-put.ensures

pub returns-then-not-put-clause-same_length : goal.returns-then-not-put-clause-same_length
returns-then-not-put-clause-same_length g c = c.reread-head.ensures.same_length ∙ c.loop-at.invariant.block

pub loop-at-preserved : goal.loop-at-preserved
loop-at-preserved g c =
    let l = c.loop-at in
    let i = c.args.identity.now in
    let s = g.R.FrameSource.source c.args.reads.now c.args.log.now in
    let range : Gap = record { start = c.args.range.start; length = c.args.range.length } in
    let o = c.args.outbox.now in
    let head = c.reread-head.result in
    let after = c.reread-head.new.block in
    let below = is_below i s range o l.at l.packing l.outbox l.invariant.resent c.loop-at-test.true in
    let read = reread_at s (g.R.FrameSource.source l.reads l.log) l.at head l.block (g.R.FrameSource.source c.reread-head.new.self c.reread-head.new.log) after l.invariant.stays c.reread-head.ensures.again in
    record {
      resent = resent_more i s range o l.at _ l.packing c.put.new.self l.outbox c.put.new.outbox head l.block after below l.invariant.resent read c.if-not-put.ensures c.frame_end-at.ensures;
      stays = c.reread-head.ensures.again.same ∙ l.invariant.stays;
      stands = c.reread-head.ensures.stands;
      leaves = g.met.R.FrameSource.leaves_on _ _ _ _ _ _ l.invariant.leaves c.reread-head.ensures.leaves;
      block = c.reread-head.ensures.same_length ∙ l.invariant.block;
    }

pub returns-clause-sends : goal.returns-clause-sends
returns-clause-sends g c =
    let l = c.loop-at in
    let i = c.args.identity.now in
    let s = g.R.FrameSource.source c.args.reads.now c.args.log.now in
    let range : Gap = record { start = c.args.range.start; length = c.args.range.length } in
    let o = c.args.outbox.now in
    let behind = is_behind i s range o l.at l.packing l.outbox l.invariant.resent c.loop-at-test.false in
    resent_all i s range o l.at l.packing l.outbox c.requires.can.size behind l.invariant.resent

pub returns-clause-same_length : goal.returns-clause-same_length
returns-clause-same_length g c = c.loop-at.invariant.block
