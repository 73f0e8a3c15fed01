-- The stream that a log is asked to carry, and why it can't.
use Rattle.theory.specs.Bytes.{Identity}
use Rattle.theory.specs.Position.{Geometry, IsMtu, IsTermLength}
use Rattle.shared_log.specs.declared.fault.LogError.{LogError}
use Rattle.shared_log.specs.declared.fault.LogError.TheVariants as errors
use Rattle.claims.specs.declared.passes.fault.Fault.{Fault}
use Rattle.claims.specs.declared.passes.fault.Fault.TheVariants.{Consumers, Full, Memory, Mtu, Start, TermLength}
use Rattle.claims.specs.declared.passes.opening.Config.{Config}

abbrev pub shape_of : Config → Geometry
shape_of c = record { term_length = c.term_length; mtu = c.mtu; initial_term_id = c.initial_term_id }

abbrev pub identity_of : Config → Identity
identity_of c = record { geometry = shape_of c; session = c.session; stream = c.stream }

-- a stream may have this shape
abbrev pub IsShape : Config → Type 0
IsShape c = IsTermLength c.term_length × IsMtu c.term_length c.mtu

-- the term length is out of range, or else the MTU
abbrev pub DeclinesShape : Config → Fault → Type 0
DeclinesShape c TermLength = ¬ IsTermLength c.term_length
DeclinesShape c Mtu = IsTermLength c.term_length × (¬ IsMtu c.term_length c.mtu)
DeclinesShape c other = ⊥

abbrev pub as_fault : LogError → Fault
as_fault errors.Start = Start
as_fault errors.Consumers = Consumers
as_fault errors.Memory = Memory
as_fault errors.Full = Full
as_fault errors.Last = Full
