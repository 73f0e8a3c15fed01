-- What an assembler makes of a frame that was handed to it: its head and its payload.
use Rattle.std.specs.Prelude.{◌≡◌, ◌≤◌, ◌↔◌, ℕ, List, Option, None, Result, false, length, option_map, IfErr, IfOk, IfSome}
use Rattle.position.specs.declared.head.FrameHead.{FrameHead}
use Rattle.theory.specs.Placed.{Placed, is_padding, payload_of}
use Rattle.assembler.specs.Assembling.{Assembling}
use Rattle.assembler.specs.Hearing.{AsksMemory, IsTooLong, heard_of}
use Rattle.assembler.specs.declared.assembler.Message.{Message}
use Rattle.assembler.specs.declared.fault.AssemblyError.{AssemblyError}
use Rattle.assembler.specs.declared.fault.AssemblyError.TheVariants.{Memory, TooLong}
use Rattle.image.specs.Kinds.{head_at}

-- these show the frame
abbrev pub Shows : FrameHead → List ℕ → Placed → Type 0
Shows head payload s = (head ≡ head_at s.at s.frame) × (payload ≡ payload_of s.frame)

-- of each frame that they show: what is begun behind it, the message that it completes, and which fault it has; a padding has none
pub record Joins {A : Type 0} (a : Assembling) (head : FrameHead) (payload : List ℕ) (step : Result (Option (Message A)) AssemblyError) (b : Assembling) : Type 0 where
  pub state : IfOk step (λ _. (s : Placed) → Shows head payload s → b ≡ record a { begun = (heard_of a.begun s.frame).begun })
  pub message : IfOk step (λ m. (s : Placed) → Shows head payload s → option_map (λ x. x.bytes.items) m ≡ (heard_of a.begun s.frame).message)
  pub small : IfOk step (λ m. IfSome m (λ m. length m.bytes.items ≤ a.greatest))
  pub short : IfOk step (λ _. (s : Placed) → Shows head payload s → IsTooLong a.greatest a.begun s.frame → ⊥)
  pub refused : IfErr step (λ _. (s : Placed) → Shows head payload s → is_padding s.frame ≡ false)
  pub named : IfErr step (λ fault. (s : Placed) → Shows head payload s → ((fault ≡ TooLong) ↔ IsTooLong a.greatest a.begun s.frame))
  pub asked : IfErr step (λ fault. (s : Placed) → Shows head payload s → fault ≡ Memory → AsksMemory a.begun s.frame)
  pub dropped : IfErr step (λ _. b ≡ record a { begun = None })
  pub greatest : b.greatest ≡ a.greatest
