-- The codes that a user sees, and what is wrong with a SETUP that is refused.
use Rattle.std.specs.Prelude.{ℕ, List, codes}
use Rattle.theory.specs.Setup.{SetupFault, BadGeometry, BadPosition, BadWindow}
use Rattle.receiver.specs.declared.setup.fault.SetupError.{SetupError}
use Rattle.receiver.specs.declared.setup.fault.SetupError.TheVariants.{Geometry, Position, Window}

abbrev pub code_of : SetupError → List ℕ
code_of Geometry = codes "S1"
code_of Position = codes "S2"
code_of Window = codes "S3"

abbrev pub fault_of : SetupError → SetupFault
fault_of Geometry = BadGeometry
fault_of Position = BadPosition
fault_of Window = BadWindow
