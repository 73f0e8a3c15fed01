use Rattle.std.proofs.Common.{◌≡◌, ◌∙◌, ℕ, zero, suc, refl, ◌+◌, ◌-◌, ◌*◌, ◌<◌, ◌≤◌, sym, ap, subst, arith}
use Rattle.theory.specs.Position.{max_message}
use Rattle.one_hand.specs.Stream.{Stream, room, term_of}
use Rattle.log_tests.specs.Plain.{stream_of}
use Rattle.log_tests.proofs.Plain.Growing.{ends_low, pad_ends}
use Rattle.log_tests.proofs.Plain.Parts.{parts}
use Rattle.log_tests.proofs.plain_log.PlainLog.admit.Goals as goal

pub pad-requires-clause-bound : goal.pad-requires-clause-bound
pad-requires-clause-bound c =
    let short = subst (λ (s : Stream). c.args.size ≤ max_message s.identity.geometry) (sym c.self.view_is) c.requires.short in
    let term = c.from-term.ensures in let value = c.term_length.ensures.value in let below = c.if-self-term.false in
    let ends = ends_low (parts c.self.inside) c.self.invariant.0 c.args.size short (omega (arith, below, term, value)) in
    let framed = c.framed_length.ensures in let covered = c.from-covered.ensures in let over = c.if-covered-room.false in
    let count = c.from.ensures in
    subst (λ (s : Stream). s.tail + ((c.from.result + 1) * c.from-term.result - c.self.inside.tail) ≤ s.start + term_of s) c.self.view_is (omega (arith, ends, framed, covered, over))

pub turn-requires-2 : goal.turn-requires-2
turn-requires-2 c =
    let rest : (c.from.result + 1) * c.from-term.result - c.self.inside.tail ≡ room (stream_of (parts c.self.inside)) = (λ j. (c.from.ensures j + 1) * (c.from-term.ensures ∙ c.term_length.ensures.value) j - c.self.inside.tail) in
    record {
      end =
          ap (λ (s : Stream). s.tail) c.pad.ensures
          ∙ pad_ends (parts c.self.inside) c.args.self.now c.self.view_is c.self.invariant.0 ((c.from.result + 1) * c.from-term.result - c.self.inside.tail) (rest ∙ ap room c.self.view_is) (some ((c.from.result + 1) * c.from-term.result - c.self.inside.tail) c.if-room-eq0.false)
          ∙ sym (ap (λ (s : Stream). (s.active + 1) * term_of s) c.pad.ensures);
    }
  where
    some : (n : ℕ) → (n ≡ 0 → ⊥) → 0 < n
    some zero h = absurd (h refl)
    some (suc n) h = omega arith
