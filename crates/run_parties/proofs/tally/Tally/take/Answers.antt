use Rattle.std.proofs.Common.{[], ◌∷◌, ◌++◌, subst, sym, ◌%◌, ◌+◌, ◌^◌}
use Rattle.run_parties.specs.Tallies.{Continues, IsTallyOf}
use Rattle.run_parties.proofs.Orders.{breaks, goes_on}
use Rattle.run_parties.proofs.tally.Tally.take.Goals.{in-None, in-Some}
use Rattle.run_parties.proofs.tally.Tally.take.Goals as goal

pub returns-clause-tally : goal.returns-clause-tally
returns-clause-tally c ms room is =
    let v = c.self.view_is in let m = c.args.message.now in
    elim c.match-continued.branch [
      | in-Some w ↦
          let here = w.in-Some.ensures.some in
          subst (λ s. IsTallyOf (ms ++ m ∷ []) (record { polled = (s.polled + 1) % 2 ^ 64; kept = s.kept; counts = s.counts })) (sym w.self-inside-is) (goes_on ms m _ w.in-Some.publisher c.self.invariant room (subst (IsTallyOf ms) (sym v) is) here.0 (subst (λ t. Continues t m) (sym v) here.1))
      | in-None w ↦
          subst (λ s. IsTallyOf (ms ++ m ∷ []) (record { polled = (s.polled + 1) % 2 ^ 64; kept = s.kept; counts = s.counts })) (sym w.self-inside-is) (breaks ms m _ room (subst (IsTallyOf ms) (sym v) is) (λ goes. w.in-None.ensures.none (subst (λ t. Continues t m) v goes)))
    ]
