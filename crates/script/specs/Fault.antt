-- What a user reads of a text that isn't a script.
use Rattle.std.specs.Prelude.{ℕ, List, ◌++◌, codes}
use Rattle.std.specs.Fmt.{decimal}
use Rattle.script.specs.declared.fault.ScriptFault.{ScriptFault}
use Rattle.script.specs.declared.fault.ScriptFault.TheVariants.{Line, Memory}

abbrev pub text_of : ScriptFault → List ℕ
text_of (Line number) = codes "line " ++ decimal number ++ codes ": script"
text_of Memory = codes "memory"
