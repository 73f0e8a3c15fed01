use Rattle.std.proofs.Common.{◌≡◌, ◌∙◌, Bool, true, false, ap, refl, subst, sym, arith}
use Rattle.std.specs.Prelude.{◌||◌, nat_lt}
use Rattle.agents.proofs.Rounds.{way_heard}
use Rattle.agents.proofs.duty.Duty.hear_ways.Goals.{else-any, then-any}
use Rattle.agents.proofs.duty.Duty.hear_ways.Goals as goal

pub loop-way-init : goal.loop-way-init
loop-way-init g c = record { counts = omega arith; heard = (refl, refl, refl); lives = g.met.D.Datagrams.lives_still _; stands = c.requires.stands; size = (refl, refl) }

some_before : (before any test : Bool) → before ≡ true → any ≡ before → any ≡ (before || test)
some_before before any test is e = e ∙ is ∙ sym (ap (λ (b : Bool). b || test) is)

none_before : (before any test : Bool) → before ≡ false → any ≡ test → any ≡ (before || test)
none_before before any test is e = e ∙ sym (ap (λ (b : Bool). b || test) is)

pub loop-way-preserved : goal.loop-way-preserved
loop-way-preserved g c =
    let l = c.loop-way in
    let e = c.in_ok-count.ensures in
    let v = c.self-in-loop-way.view_is in
    let device_is = ap (λ d. d.device) v in
    let turned_is = c.turn_to.ensures.turned ∙ ap (λ d. g.D.Ways.turned d l.way) device_is in
    let any_is : c.if-any.any ≡ (l.any || nat_lt 0 c.in_ok-count.count) = elim c.if-any.branch [
      | then-any w ↦ some_before l.any c.if-any.any (nat_lt 0 c.in_ok-count.count) w.if-any.true w.any-is
      | else-any w ↦ none_before l.any c.if-any.any (nat_lt 0 c.in_ok-count.count) w.if-any.false w.any-is
    ] in
    record {
      counts = (let a = l.invariant.counts in let t = c.turn_to.ensures.failures in let k = e.counts.failures in let same = ap (λ d. (g.D.Datagrams.device d.device).failures) v in omega (arith, a, t, k, same));
      heard = way_heard g.P.Party.hears g.P.Party.ticks c.args.now g.D.Datagrams.device g.D.Datagrams.tells g.D.Ways.turned l.way l.any c.if-any.any c.in_ok-count.count c.args.party.now c.args.self.now.device l.party l.self.device c.turn_to.new.self c.hear_all.new.party c.hear_all.new.self.device
          l.invariant.heard turned_is e.hears any_is;
      lives = g.met.D.Datagrams.lives_on _ _ _ l.invariant.lives (g.met.D.Datagrams.lives_on _ _ _ (subst (λ x. g.D.Datagrams.lives l.self.device x) (sym turned_is) (g.met.D.Ways.turned_lives l.self.device l.way)) e.lives);
      stands = e.stands;
      size = (e.size.0 ∙ ap (λ d. d.mtu) v ∙ l.invariant.size.0, e.size.1 ∙ l.invariant.size.1);
    }
