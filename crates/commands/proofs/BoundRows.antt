-- What is said of an input at its bound, 1 MiB, and which faults a script never has.
use Rattle.std.proofs.Common.{◌≡◌, ℕ, List, [], ◌++◌, length, length-append, append-nil, Option, Some, sym, ap, ◌∙◌, arith}
use Rattle.frames.specs.declared.fault.FrameError.{FrameError}
use Rattle.options.specs.declared.run.fault.PlanFault.{PlanFault}
use Rattle.script.specs.Language.{IsScript}
use Rattle.script.specs.Meaning.{ScriptContent}
use Rattle.simulation.specs.LineTexts.{text_of_lines}
use Rattle.commands.specs.Scripting.{ExplainsScript, HoldsScript, PlaysInput}
use Rattle.commands.specs.declared.fault.Fault.TheVariants.{Line, Input, Memory, Hex, Frame, Read, Write, Plan, Order, Device}

-- a script of 1 MiB is held, and one byte more isn't
is_held : (bytes : List ℕ) (script : ScriptContent) → length bytes ≡ 1048576 → IsScript bytes script → HoldsScript bytes
is_held bytes script size is = (omega (arith, size), (script, is))

no_more_is_held : (bytes : List ℕ) → length bytes ≡ 1048577 → HoldsScript bytes → ⊥
no_more_is_held bytes size h = absurd (omega (arith, size, h.0))

-- what is played was held, and its lines are what was written
was_held : (bytes : List ℕ) (before after : Option (List ℕ)) → PlaysInput (Some bytes) before after → HoldsScript bytes
was_held bytes before after p = (p.held.0, (p.script, p.held.1))

were_written : (input : Option (List ℕ)) (before after : List ℕ) → (p : PlaysInput input (Some before) (Some after)) → after ≡ before ++ text_of_lines p.lines
were_written input before after p = p.written

-- an input of one byte more is too long, and that is its only fault
is_too_long : (bytes : List ℕ) → length bytes ≡ 1048577 → ExplainsScript (Some bytes) (Some []) Input
is_too_long bytes size = (bytes, sym (append-nil bytes), omega (arith, size))

taken : (bytes front : List ℕ) → bytes ≡ front ++ [] → length bytes ≡ length front
taken bytes front e = ap length (e ∙ append-nil front)

no_other : (bytes : List ℕ) → length bytes ≡ 1048577 → (ExplainsScript (Some bytes) (Some []) Memory → ⊥) × (ExplainsScript (Some bytes) (Some []) Read → ⊥) × (ExplainsScript (Some bytes) (Some []) Write → ⊥) × ((n : ℕ) → ExplainsScript (Some bytes) (Some []) (Line n) → ⊥)
no_other bytes size = (
  λ h. absurd (omega (arith, size, taken bytes h.0 h.1, h.2)),
  λ h. absurd (omega (arith, size, taken bytes h.0 h.1, h.2)),
  λ h. absurd (omega (arith, size, h.0)),
  λ n h. absurd (omega (arith, size, h.0)),
)

-- one of 1 MiB isn't too long, whatever was taken of it; its reading may fail
isnt_too_long : (bytes rest : List ℕ) → length bytes ≡ 1048576 → ExplainsScript (Some bytes) (Some rest) Input → ⊥
isnt_too_long bytes rest size h =
    let whole : length bytes ≡ length (h.0 ++ rest) = ap length h.1 in
    absurd (omega (arith, size, whole, length-append h.0 rest, h.2))

may_fail : (bytes : List ℕ) → length bytes ≡ 1048576 → ExplainsScript (Some bytes) (Some []) Read × ExplainsScript (Some bytes) (Some []) Memory
may_fail bytes size = ((bytes, sym (append-nil bytes), omega (arith, size)), (bytes, sym (append-nil bytes), omega (arith, size)))

-- no script has the fault of a word, a plan or a run
no_word : (old new : Option (List ℕ)) → (ExplainsScript old new Hex → ⊥) × ((e : FrameError) → ExplainsScript old new (Frame e) → ⊥)
no_word old new = (λ h. h, λ e h. h)

no_run : (old new : Option (List ℕ)) → ((f : PlanFault) → ExplainsScript old new (Plan f) → ⊥) × (ExplainsScript old new Order → ⊥) × (ExplainsScript old new Device → ⊥)
no_run old new = (λ f h. h, λ h. h, λ h. h)
