-- What a user reads of a refused geometry.
use Rattle.std.specs.Prelude.{ℕ, List, codes}
use Rattle.position.specs.declared.fault.GeometryError.{GeometryError}
use Rattle.position.specs.declared.fault.GeometryError.TheVariants.{TermLength, Mtu}

abbrev pub text_of : GeometryError → List ℕ
text_of TermLength = codes "G1 term length"
text_of Mtu = codes "G2 mtu"

abbrev pub code_of : GeometryError → List ℕ
code_of TermLength = codes "G1"
code_of Mtu = codes "G2"
