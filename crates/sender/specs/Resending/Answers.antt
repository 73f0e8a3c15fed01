-- The answers of the code: their codes, and what they mean.
use Rattle.std.specs.Prelude.{ℕ, List, codes}
use Rattle.theory.specs.Resend as meant
use Rattle.sender.specs.declared.retransmit.answer.NakResult.{NakResult}
use Rattle.sender.specs.declared.retransmit.answer.NakResult.TheVariants.{Taken, Lingering, Full, OutOfRange, NotAFrameStart}

abbrev pub code_of : NakResult → List ℕ
code_of Taken = codes "N1"
code_of Lingering = codes "N2"
code_of Full = codes "N3"
code_of OutOfRange = codes "N4"
code_of NotAFrameStart = codes "N5"

abbrev pub nak_result : NakResult → meant.NakAnswer
nak_result Taken = meant.Taken
nak_result Lingering = meant.Lingering
nak_result Full = meant.Full
nak_result OutOfRange = meant.OutOfRange
nak_result NotAFrameStart = meant.NotAFrameStart
