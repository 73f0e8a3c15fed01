use Rattle.std.proofs.Common.{◌∙◌, ap, length, subst, sym, arith}
use Rattle.run_parties.specs.Devices.{AreSeeded, IsLossy, reply_seed, way_seed}
use Rattle.run_parties.proofs.Seeds.{one_longer, seeded_more}
use Rattle.run_parties.proofs.devices.lossy_devices.Goals as goal

pub loop-number-preserved : goal.loop-number-preserved
loop-number-preserved g c =
    let l = c.loop-number in
    let i = l.invariant in
    let put = c.in_ok-put.ensures in
    let pair = c.in_ok-way.ensures in
    let n = l.number in
    record {
      ways_many = ap length put.ways ∙ one_longer l.devices.ways.items _ n i.ways_many;
      replies_many = ap length put.replies ∙ one_longer l.devices.replies.items _ n i.replies_many;
      ways_lose = subst (AreSeeded c.args.rates (way_seed c.args.seed) 0) (sym put.ways) (seeded_more c.args.rates (way_seed c.args.seed) 0 n l.devices.ways.items _ i.ways_lose (omega (arith, i.ways_many)) (subst (λ s. IsLossy c.args.rates s c.in_ok-way.way) c.way_seed.ensures pair.0));
      replies_lose = subst (AreSeeded c.args.rates (reply_seed c.args.seed) 0) (sym put.replies) (seeded_more c.args.rates (reply_seed c.args.seed) 0 n l.devices.replies.items _ i.replies_lose (omega (arith, i.replies_many)) (subst (λ s. IsLossy c.args.rates s c.in_ok-way.reply) c.reply_seed.ensures pair.1));
    }
