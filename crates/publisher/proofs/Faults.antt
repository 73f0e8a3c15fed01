-- The fault of a reading that has stopped.
use Rattle.std.proofs.Common.{◌≡◌, IfErr, Result, Err, subst}
use Rattle.std.proofs.Math.Logic.{∥∥₁_map}
use Rattle.theory.specs.Position.{Geometry}
use Rattle.publisher.specs.Inputs.{StopsReading}
use Rattle.publisher.specs.declared.offering.reading.ReadingFault.{ReadingFault}
use Rattle.publisher.specs.declared.offering.reading.ReadingEnd.{ReadingEnd}
use Rattle.publisher.specs.Faults.{publish_fault}
use Rattle.publisher.specs.Judging.{IsStop}
use Rattle.publisher.specs.declared.fault.PublishFault.{PublishFault}

pub stopped : (g : Geometry) (r : Result ReadingEnd ReadingFault) (fault : ReadingFault) (told : PublishFault) → ∥ IfErr r (λ f. StopsReading g f) ∥₁ → r ≡ Err fault → told ≡ publish_fault fault → ∥ IsStop told ∥₁
stopped g r fault told stops is same = ∥∥₁_map stops (λ s. (fault, same, (g, subst (λ (x : Result ReadingEnd ReadingFault). IfErr x (λ f. StopsReading g f)) is s)))
