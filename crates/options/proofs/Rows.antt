-- The first fault, computed at a few rows.
use Rattle.std.proofs.Common.{◌≡◌, ℕ, arith, refl}
use Rattle.theory.specs.Position.{IsMtu, IsTermLength}
use Rattle.options.specs.declared.run.fault.PlanFault.TheVariants.{TermLength, Mtu, Length, Rates}
use Rattle.options.specs.declared.run.options.RunOptions.{RunOptions}
use Rattle.options.specs.Run.Plans.{IsFaultless, IsFirstFault}

-- what the run is told of what a plan judges
record Told (o : RunOptions) (term mtu length loss repeat hold : ℕ) : Type 0 where
  of_term : o.term ≡ term
  of_mtu : o.mtu ≡ mtu
  of_length : o.length ≡ length
  of_loss : o.loss ≡ loss
  of_repeat : o.repeat ≡ repeat
  of_hold : o.hold ≡ hold

usual_term : IsTermLength 65536
usual_term = record { power = (16, refl); least = omega arith; greatest = omega arith }

usual_mtu : IsMtu 65536 1408
usual_mtu = record { unit = refl; least = omega arith; greatest = omega arith; within = omega arith }

fits : (o : RunOptions) → Told o 65536 1408 8192 500 499 1 → IsFaultless o
fits o t = record {
  term = rw (t.of_term) usual_term;
  mtu = rw (t.of_term, t.of_mtu) usual_mtu;
  length = rw (t.of_term, t.of_length) (omega arith);
  rates = rw (t.of_loss, t.of_repeat, t.of_hold) (omega arith);
}

one_byte_too_long : (o : RunOptions) → Told o 65536 1408 8193 500 500 1 → IsFirstFault o Length
one_byte_too_long o t = (rw (t.of_term) usual_term, rw (t.of_term, t.of_mtu) usual_mtu, rw (t.of_term, t.of_length) (omega arith))

one_too_many_lost : (o : RunOptions) → Told o 65536 1408 8192 500 500 1 → IsFirstFault o Rates
one_too_many_lost o t = (rw (t.of_term) usual_term, rw (t.of_term, t.of_mtu) usual_mtu, rw (t.of_term, t.of_length) (omega arith), rw (t.of_loss, t.of_repeat, t.of_hold) (omega arith))

no_unit : (o : RunOptions) → Told o 65536 1400 8193 500 500 1 → IsFirstFault o Mtu
no_unit o t = (rw (t.of_term) usual_term, rw (t.of_term, t.of_mtu) (λ m. let unit = m.unit in omega arith))

short_term : (o : RunOptions) → Told o 1000 1400 8193 500 500 1 → IsFirstFault o TermLength
short_term o t = rw (t.of_term) (λ m. let least = m.least in omega arith)
