use Rattle.std.proofs.Common.{◌≡◌, ◌∙◌, ℕ, ◌+◌, ◌*◌, ◌<◌, ◌≤◌, ⊎_elim, ap, sym, arith}
use Rattle.std.proofs.lemmas.Bool.{cases_lt}
use Rattle.one_hand.specs.Stream.{Stream}
use Rattle.log_tests.proofs.Plain.Growing.{turn_plain}
use Rattle.log_tests.proofs.plain_log.PlainLog.turn.Goals as goal

pub invariant_of-self : goal.invariant_of-self
invariant_of-self c =
    let end : c.self.inside.tail ≡ (c.self.inside.active + 1) * c.self.inside.geometry.term_length = ap (λ (s : Stream). s.tail) c.self.view_is ∙ c.requires.end ∙ sym (ap (λ (s : Stream). (s.active + 1) * s.identity.geometry.term_length) c.self.view_is) in
    let last = c.self.invariant.0.whole.legal.last in let apart = c.if-self-eq2147483647.false in
    (turn_plain _ c.self.invariant.0 end (below c.self.inside.active last apart), c.self.invariant.1, c.self.invariant.2)
  where
    below : (n : ℕ) → n < 2147483648 → (n ≡ 2147483647 → ⊥) → n + 1 < 2147483648
    below n low apart = ⊎_elim (λ (l : n < 2147483647). omega (arith, l)) (λ (l : 2147483647 ≤ n). absurd (apart (omega (arith, l, low)))) (cases_lt n 2147483647)
