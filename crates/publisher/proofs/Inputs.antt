-- The fault of a message that is read.
use Rattle.std.proofs.Common.{◌≡◌, ◌∙◌, ℕ, ◌≤◌, List, Option, arith}
use Rattle.theory.specs.Position.{Geometry, max_message}
use Rattle.messages.specs.declared.form.Form.{Form}
use Rattle.messages.specs.Inputs.{Explains}
use Rattle.messages.specs.declared.fault.InputFault.{InputFault}
use Rattle.messages.specs.declared.fault.InputFault.TheVariants as inputs
use Rattle.publisher.specs.Inputs.{IsOfMessage}

pub of_message : (g : Geometry) (form : Form) (number greatest : ℕ) (old new : Option (List ℕ)) (held : List ℕ) (fault : InputFault) → 1 ≤ number → greatest ≡ max_message g → Explains form number greatest old new held fault → IsOfMessage g fault
of_message g form number greatest old new held (inputs.Read code) low size e = tt
of_message g form number greatest old new held (inputs.TooLong n most) low size e = (let is : n ≡ number = e.0 in omega (arith, is, low), e.1 ∙ size)
of_message g form number greatest old new held (inputs.Cut n) low size e = let is : n ≡ number = e.0 in omega (arith, is, low)
of_message g form number greatest old new held inputs.Memory low size e = tt
