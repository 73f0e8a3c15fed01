-- The gaps of the code as gaps of the definitions.
use Rattle.std.specs.Prelude.{Option, None, Some}
use Rattle.theory.specs.Gap as meant
use Rattle.position.specs.declared.gap.Gap.{Gap}

abbrev pub gap_of : Option Gap → Option meant.Gap
gap_of None = None
gap_of (Some gap) = Some (record { start = gap.start; length = gap.length })
