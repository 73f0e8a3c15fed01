use Rattle.std.proofs.Common.{◌≡◌, ◌-◌, suc, length, ap, sym, ◌∙◌, subst, arith, length-append}
use Rattle.image.specs.Rebuilding.{Inserting, join_of}
use Rattle.receiver.specs.Dealt.{AreDealt}
use Rattle.receiver.proofs.Rooms.{dealt_more}
use Rattle.receiver.proofs.dealing.deal_all.Goals as goal

pub loop-number-preserved : goal.loop-number-preserved
loop-number-preserved c =
    let l = c.loop-number in let n = l.number in let d = c.deal-reader.ensures in
    let image = c.args.image.now in let join = join_of c.args.inserter.now in
    let some : n ≡ suc (n - 1) = omega (arith, c.loop-number-test.true) in
    let before = subst (λ k. AreDealt image join k l.readers.items) some l.invariant.dealt in
    let long = ap length c.push_reserved.ensures.items ∙ length-append l.readers.items _ in
    record {
      left = d.left ∙ ap (λ (x : Inserting). record x { undealt = n - 1 }) l.invariant.left;
      dealt = subst (AreDealt image join (n - 1)) (sym c.push_reserved.ensures.items) (dealt_more image join (n - 1) l.readers.items c.deal-reader.result before d.fits d.number (d.position ∙ ap join_of l.invariant.left));
      count = omega (arith, long, l.invariant.count, c.loop-number-test.true);
      room = omega (arith, l.invariant.room, c.push_reserved.ensures.len, c.push_reserved.ensures.capacity, c.loop-number-test.true);
    }
