-- Which lines end the promise on a receiver, and which are messages of it, at worked examples.
use Rattle.std.specs.Prelude.{◌≡◌, true, false, [], ◌∷◌}
use Rattle.std.proofs.Common.{arith, refl}
use Rattle.assembler.specs.declared.fault.AssemblyError.TheVariants.{Memory, TooLong}
use Rattle.script.specs.Meaning as commands
use Rattle.script_meaning.specs.LineContents.{Bad, Message, NoMessage, Positions, Unassembled}
use Rattle.script_meaning.specs.Published.{IsShort, IsWhole, polled_by}

-- that memory was refused to its own assembler does
own_refusal : IsWhole 1 (commands.Poll 1) (Unassembled Memory ∷ []) → ⊥
own_refusal h = let e : true ≡ false = (h refl).0 in cc

-- that a message was too long doesn't: no such line is promised to come
too_long : IsWhole 1 (commands.Poll 1) (Unassembled TooLong ∷ [])
too_long e = (refl, tt)

no_too_long : IsShort 1 (commands.Poll 1) (Unassembled TooLong ∷ []) → ⊥
no_too_long h = let e : true ≡ false = (h refl).0 in cc

others_too_long : IsShort 1 (commands.Poll 2) (Unassembled TooLong ∷ [])
others_too_long e = absurd (omega (arith, e))

-- another receiver's doesn't
other_refusal : IsWhole 1 (commands.Poll 2) (Unassembled Memory ∷ [])
other_refusal e = absurd (omega (arith, e))

-- nor does a poll without a message, without an image, or with a message
no_message : IsWhole 1 (commands.Poll 1) (NoMessage ∷ [])
no_message e = (refl, tt)

no_image : IsWhole 1 (commands.Poll 1) (Bad ∷ [])
no_image e = (refl, tt)

one_message : IsWhole 1 (commands.Poll 1) (Message (97 ∷ []) ∷ [])
one_message e = (refl, tt)

-- nor a line that isn't a poll
told : IsWhole 1 (commands.Image 1) (Positions 64 64 64 ∷ [])
told = tt

-- messages are those of its own polls
its_own : polled_by 1 (commands.Poll 1) (Message (97 ∷ []) ∷ []) ≡ (97 ∷ []) ∷ []
its_own = refl

of_another : polled_by 1 (commands.Poll 2) (Message (97 ∷ []) ∷ []) ≡ []
of_another = refl
