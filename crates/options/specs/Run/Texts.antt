-- What a user reads of a fault.
use Rattle.std.specs.Prelude.{ℕ, List, codes}
use Rattle.position.specs.declared.fault.GeometryError.{GeometryError}
use Rattle.position.specs.declared.fault.GeometryError.TheVariants as shape
use Rattle.options.specs.declared.run.fault.PlanFault.{PlanFault}
use Rattle.options.specs.declared.run.fault.PlanFault.TheVariants.{TermLength, Mtu, Length, Rates}

abbrev pub text_of : PlanFault → List ℕ
text_of TermLength = codes "G1 term length"
text_of Mtu = codes "G2 mtu"
text_of Length = codes "length"
text_of Rates = codes "E1 rates"

-- a geometry's fault as a plan's
abbrev pub of_geometry : GeometryError → PlanFault
of_geometry shape.TermLength = TermLength
of_geometry shape.Mtu = Mtu
