-- The numbers that a user sees.
use Rattle.std.specs.Prelude.{ℤ, negsuc}
use Rattle.publication.specs.Refusals.{number_of}
use Rattle.claims.specs.declared.passes.fault.Fault.{Fault}
use Rattle.claims.specs.declared.passes.fault.Fault.TheVariants.{Refused, Long, Outside, NoneLeft, Memory, TermLength, Mtu, Start, Consumers, Full}

abbrev pub code_of : Fault → ℤ
code_of (Refused why) = number_of why
code_of Long = negsuc 5
code_of Outside = negsuc 9
code_of NoneLeft = negsuc 17
code_of Memory = negsuc 18
code_of TermLength = negsuc 19
code_of Mtu = negsuc 20
code_of Start = negsuc 21
code_of Consumers = negsuc 22
code_of Full = negsuc 23
