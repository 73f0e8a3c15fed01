-- The codes that a user sees.
use Rattle.std.specs.Prelude.{ℕ, List, codes}
use Rattle.assembler.specs.declared.fault.AssemblyError.{AssemblyError}
use Rattle.assembler.specs.declared.fault.AssemblyError.TheVariants.{Memory, TooLong}

abbrev pub code_of : AssemblyError → List ℕ
code_of Memory = codes "A1"
code_of TooLong = codes "A2"
