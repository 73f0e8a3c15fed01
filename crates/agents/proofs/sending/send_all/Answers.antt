use Rattle.std.proofs.Common.{◌≡◌, ◌∙◌, Some, rules, ap, arith, take}
use Rattle.std.specs.Prelude.{slice_get}
use Rattle.endpoint.specs.Devices.{Device}
use Rattle.agents.proofs.Carrying.{first_part, grown_later, sent_one}
use Rattle.agents.proofs.sending.send_all.Goals as goal

pub returns-in_err-send-clause-sends : goal.returns-in_err-send-clause-sends
returns-in_err-send-clause-sends g c =
    let l = c.loop-index in
    let s = c.in_err-send.ensures.sends in
    let grown = grown_later _ _ _ l.invariant.counts.failures s.failures in
    record {
      sent = take l.index c.args.outbox.now.datagrams;
      part = first_part c.args.outbox.now.datagrams l.index;
      whole = search rules;
      failed = search (rules, grown);
      carries = λ t. ap (λ (d : Device). d.sent) (s.unsent (l.invariant.tells t)) ∙ l.invariant.sent t;
    }

pub loop-index-preserved : goal.loop-index-preserved
loop-index-preserved g c =
    let l = c.loop-index in
    let e = c.in_ok-send.ensures in
    let all = c.args.outbox.now.datagrams in
    let found : slice_get all l.index ≡ Some c.in-Some.datagram.now = search rules in
    record {
      counts = record { failures = omega (arith, l.invariant.counts.failures, e.counts.failures); nones = omega (arith, l.invariant.counts.nones, e.counts.nones) };
      received = e.sends.same_received ∙ l.invariant.received;
      nones = e.sends.same_nones ∙ l.invariant.nones;
      sent = λ t. sent_one _ _ _ all l.index _ (l.invariant.sent t) found (ap (λ (d : Device). d.sent) (e.sends.sent (l.invariant.tells t)));
      tells = λ t. e.still_tells (l.invariant.tells t);
      lives = g.met.D.Datagrams.lives_on _ _ _ l.invariant.lives e.lives;
    }

pub returns-in_err-send-clause-lives : goal.returns-in_err-send-clause-lives
returns-in_err-send-clause-lives g c = g.met.D.Datagrams.lives_on _ _ _ c.loop-index.invariant.lives c.in_err-send.ensures.lives
