-- What a user reads of a fault.
use Rattle.std.specs.Prelude.{ℕ, ℤ, List, Option, None, ◌++◌, codes, decimal}
use Rattle.messages.specs.declared.fault.InputFault.{InputFault}
use Rattle.messages.specs.declared.fault.InputFault.TheVariants.{Read, TooLong, Cut, Memory}

abbrev pub text_of : InputFault → List ℕ
text_of (Read number) = codes "read"
text_of (TooLong number greatest) = (codes "message " ++ decimal number ++ codes " is longer than ") ++ (decimal greatest ++ codes " bytes")
text_of (Cut number) = codes "block " ++ decimal number ++ codes " is cut short"
text_of Memory = codes "memory"

-- the system's number of what failed, where it gave one
abbrev pub number_of : InputFault → Option ℤ
number_of (Read number) = number
number_of (TooLong number greatest) = None
number_of (Cut number) = None
number_of Memory = None
