use Rattle.std.proofs.Common.{◌∙◌, refl, arith}
use Rattle.agents.proofs.Carrying.{never_fall_on}
use Rattle.agents.proofs.Hearings.{came, err_is, front_is, heard_all, heard_few, heard_more, heard_none, heard_until, one_answered, one_broken, one_lost, received_none, receive_failed}
use Rattle.agents.proofs.duty.Duty.hear_all.Goals as goal

pub loop-count-init : goal.loop-count-init
loop-count-init g c = rw (← c.self.view_is) (record {
  counts = record { failures = omega arith; nones = omega arith };
  heard = heard_none g.P.Party.hears c.args.now _ _ _;
  stands = c.requires.stands;
  size = (refl, refl);
  tells = λ t. t;
  lives = g.met.D.Datagrams.lives_still _;
})

pub loop-count-preserved : goal.loop-count-preserved
loop-count-preserved g c =
    let i = c.loop-count.invariant in
    let l = c.in_ok-length.ensures in
    let h = c.in_ok-hear.ensures in
    let s = c.in_ok-send_all.ensures in
    let one = came _ _ _ _ _ _ _ c.in-Some.length l.counts l.receives c.in-Some.is (front_is c.recv.new.buffer c.loop-count.self-inside.buffer.items _ _ c.in-Some.length c.deref.ensures.value (c.recv.auto.buffer ∙ c.as_mut_slice.ensures.len)) in
    record {
      counts = never_fall_on _ _ _ i.counts (never_fall_on _ _ _ l.counts s.counts);
      heard = heard_more g.P.Party.hears c.args.now _ _ _ _ _ _ _ _ _ _ i.tells i.heard (one_answered g.P.Party.hears c.args.now _ _ _ _ _ _ _ _ _ _ l.still_tells one h.heard s.received s.sends);
      stands = h.stands;
      size = (h.size ∙ i.size.0, h.same_mtu ∙ i.size.1);
      tells = λ t. s.still_tells (l.still_tells (i.tells t));
      lives = g.met.D.Datagrams.lives_on _ _ _ i.lives (g.met.D.Datagrams.lives_on _ _ _ l.lives s.lives);
    }

pub returns-in_err-length-clause-hears : goal.returns-in_err-length-clause-hears
returns-in_err-length-clause-hears g c =
    let i = c.loop-count.invariant in
    let e = c.from_residual in
    heard_until g.P.Party.hears c.args.now _ _ _ _ _ _ _ _ _ _ e.result (err_is e.result _ e.ensures.1) (omega (arith, c.loop-count-test.true)) i.tells i.counts i.heard (receive_failed g.P.Party.hears c.args.now _ _ _ _ _ _ _ c.in_err-length.ensures.receives)

pub returns-in_default-clause-hears : goal.returns-in_default-clause-hears
returns-in_default-clause-hears g c =
    let i = c.loop-count.invariant in
    heard_few g.P.Party.hears c.args.now _ _ _ _ _ _ _ _ _ (omega (arith, c.loop-count-test.true)) i.tells i.counts i.heard (received_none g.P.Party.hears c.args.now _ _ _ _ _ _ _ c.in_default.is c.in_ok-length.ensures.receives)

pub returns-in_err-hear-clause-hears : goal.returns-in_err-hear-clause-hears
returns-in_err-hear-clause-hears g c =
    let i = c.loop-count.invariant in
    let l = c.in_ok-length.ensures in
    let e = c.from_residual-in_err-hear in
    let one = came _ _ _ _ _ _ _ c.in-Some.length l.counts l.receives c.in-Some.is (front_is c.recv.new.buffer c.loop-count.self-inside.buffer.items _ _ c.in-Some.length c.deref.ensures.value (c.recv.auto.buffer ∙ c.as_mut_slice.ensures.len)) in
    heard_until g.P.Party.hears c.args.now _ _ _ _ _ _ _ _ _ _ e.result (err_is e.result _ e.ensures.1) (omega (arith, c.loop-count-test.true)) i.tells i.counts i.heard (one_lost g.P.Party.hears c.args.now _ _ _ _ _ _ c.in_err-hear.ensures.refused one)

pub returns-in_err-send_all-clause-hears : goal.returns-in_err-send_all-clause-hears
returns-in_err-send_all-clause-hears g c =
    let i = c.loop-count.invariant in
    let l = c.in_ok-length.ensures in
    let s = c.in_err-send_all.ensures in
    let e = c.from_residual-in_err-send_all in
    let one = came _ _ _ _ _ _ _ c.in-Some.length l.counts l.receives c.in-Some.is (front_is c.recv.new.buffer c.loop-count.self-inside.buffer.items _ _ c.in-Some.length c.deref.ensures.value (c.recv.auto.buffer ∙ c.as_mut_slice.ensures.len)) in
    heard_until g.P.Party.hears c.args.now _ _ _ _ _ _ _ _ _ _ e.result (err_is e.result _ e.ensures.1) (omega (arith, c.loop-count-test.true)) i.tells i.counts i.heard (one_broken g.P.Party.hears c.args.now _ _ _ _ _ _ _ _ _ _ l.still_tells one c.in_ok-hear.ensures.heard s.received s.sends)

pub returns-clause-hears : goal.returns-clause-hears
returns-clause-hears g c =
    heard_all g.P.Party.hears c.args.now _ _ _ _ _ _ (omega (arith, c.loop-count-test.false, c.loop-count.auto.count-end)) c.loop-count.invariant.heard
