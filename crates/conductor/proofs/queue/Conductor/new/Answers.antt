use Rattle.std.proofs.Common.{◌≡◌, arith, ap, refl, sym, subst, ◌∙◌, ◌+◌, List, [], ◌∷◌, ◌++◌}
use Rattle.crossbeam_queue.specs.Passes.{view}
use Rattle.conductor.specs.Parties.{ClientSeen, AreFirst, AreFresh}
use Rattle.std.specs.Result.{is_ok}
use Rattle.std.proofs.lemmas.Bool.{cond-true}
use Rattle.conductor.specs.declared.hand.Hand.{Hand}
use Rattle.conductor.proofs.Moves.{begins, opens}
use Rattle.conductor.proofs.Rows.{first_more, fresh_more}
use Rattle.conductor.proofs.queue.Conductor.new.Goals as goal

pub ruled-requires-clause-rule : goal.ruled-requires-clause-rule
ruled-requires-clause-rule c = begins

pub another-requires-clause-rule : goal.another-requires-clause-rule
another-requires-clause-rule c = let m = c.loop-number.invariant.made in let l = c.loop-number.invariant.left in let t = c.loop-number-test.true in opens _ _ c.loop-number.invariant.takes (omega (arith, m, l, t))

pub loop-number-preserved : goal.loop-number-preserved
loop-number-preserved c =
    let h = c.loop-number.invariant in
    let taker = c.another.ensures.rule.0 in
    let pass = c.another.ensures.queue.0 in
    let held : c.push.new.self.items ≡ c.loop-number.clients.items ++ record { queue = c.another.result.table_id; number = c.loop-number.number; accepted = (view c.another.result).put } ∷ [] = c.push.ensures.items ∙ cond-true (is_ok c.push.result) _ _ (ap is_ok c.unwrap.ensures) in
    record {
      pass = (pass.0 ∙ h.pass.0, pass.2 ∙ h.pass.1);
      takes = ap (λ (v : Hand). v.takes) taker ∙ h.takes;
      made = ap (λ (v : Hand). v.made) taker ∙ ap (λ n. n + 1) h.made;
      left = ap (λ (v : Hand). v.left) taker ∙ h.left;
      taken = ap (λ (v : Hand). v.taken) taker ∙ h.taken;
      heard = ap (λ (v : Hand). v.heard) taker ∙ h.heard;
      known = ap (λ (v : Hand). v.known) taker ∙ h.known;
      capacity = h.capacity;
      room = let grown = c.push.ensures.capacity in let was = h.room in omega (arith, grown, was);
      first = let P : List ClientSeen → Type 0 = λ l. AreFirst c.in_ok-line.line.table.shared.table_id (c.loop-number.number + 1) l in subst P (sym held) (first_more _ _ _ _ h.first c.another.ensures.queue.1.0 refl);
      fresh = let P : List ClientSeen → Type 0 = AreFresh in subst P (sym held) (fresh_more _ _ h.fresh (ap (λ (v : Hand). v.put) c.another.ensures.rule.1));
    }
