use Rattle.theory.proofs.Named.{names_place, header_names_place}
use Rattle.theory.proofs.names_place.Goals as goal

pub returns-clause-place : goal.returns-clause-place
returns-clause-place c = names_place

pub returns-clause-header : goal.returns-clause-header
returns-clause-header c = header_names_place
