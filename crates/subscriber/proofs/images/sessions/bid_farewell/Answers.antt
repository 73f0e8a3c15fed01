use Rattle.std.proofs.Common.{◌≤◌, ◌+◌, ℕ, arith, subst}
use Rattle.std.specs.List.{AllZip}
use Rattle.subscriber.proofs.Farewells.{ToldAt, all_bid, all_left_on, all_left_still}
use Rattle.subscriber.proofs.images.sessions.bid_farewell.Goals as goal

pub returns-in_err-see-clause-left : goal.returns-in_err-see-clause-left
returns-in_err-see-clause-left g c = all_left_still c.args.sessions.now

pub loop-init : goal.loop-init
loop-init g c = record { size = c.requires; left = all_left_still c.args.sessions.now; later = omega arith }

pub returns-in_err-busy-clause-left : goal.returns-in_err-busy-clause-left
returns-in_err-busy-clause-left g c = all_left_on _ _ _ c.loop.invariant.left c.tell_places.ensures.left

pub returns-in_err-see-2-clause-left : goal.returns-in_err-see-2-clause-left
returns-in_err-see-2-clause-left g c = all_left_on _ _ _ c.loop.invariant.left c.tell_places.ensures.left

pub returns-then-saturating_sub-ge-FAREWELL-clause-left : goal.returns-then-saturating_sub-ge-FAREWELL-clause-left
returns-then-saturating_sub-ge-FAREWELL-clause-left g c = all_left_on _ _ _ c.loop.invariant.left c.tell_places.ensures.left

pub returns-then-saturating_sub-ge-FAREWELL-clause-farewell : goal.returns-then-saturating_sub-ge-FAREWELL-clause-farewell
returns-then-saturating_sub-ge-FAREWELL-clause-farewell g c =
    let began = c.see.ensures.later in
    let ended = c.moment-ended.ensures in
    let here = c.moment-in-loop.ensures in
    let passed = c.saturating_sub.ensures in
    let second = c.if-saturating_sub-ge-FAREWELL.true in
    let later = c.loop.invariant.later in
    let since : c.args.watch.now.moment ≤ c.loop.watch.moment = omega (arith, began, later) in
    let lasts : c.args.watch.now.moment + 1000000000 ≤ c.see-in-loop.new.self.moment = omega (arith, began, ended, here, passed, second) in
    all_bid c.args.watch.now.moment c.loop.watch.moment c.see-in-loop.new.self.moment c.args.sessions.now c.loop.sessions c.tell_places.new.sessions c.loop.invariant.left
    (subst (λ (n : ℕ). AllZip (ToldAt n) c.loop.sessions c.tell_places.new.sessions) c.moment.ensures c.in_ok-busy.ensures.told)
    since lasts

pub loop-preserved : goal.loop-preserved
loop-preserved g c = record {
  size = c.tell_places.ensures.size;
  left = all_left_on _ _ _ c.loop.invariant.left c.tell_places.ensures.left;
  later = omega (arith, c.loop.invariant.later, c.see-in-loop.ensures.later);
}
