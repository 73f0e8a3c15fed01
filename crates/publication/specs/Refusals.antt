-- Why an offer is refused, and what its pass saw.
use Rattle.std.specs.Prelude.{ℕ, ℤ, negsuc, List, [], ◌∷◌}
use Rattle.std.specs.List.{flat_map}
use Rattle.theory.specs.Position.{framed_length}
use Rattle.theory.specs.Refusal as whys
use Rattle.theory.specs.Refusal.{AddedTo, IsJustified, SawCount, SawLimit, SawTail, Sight, Why}
use Rattle.publication.specs.declared.pass.Pass.{Pass}
use Rattle.publication.specs.declared.refusal.Refusal.{Refusal}
use Rattle.publication.specs.declared.refusal.Refusal.TheVariants.{NotConnected, BackPressured, AdminAction, Closed, MaxPositionExceeded}
use Rattle.publication.specs.declared.step.WordStep.{WordStep}
use Rattle.publication.specs.declared.step.WordStep.TheVariants as steps

abbrev pub number_of : Refusal → ℤ
number_of NotConnected = negsuc 0
number_of BackPressured = negsuc 1
number_of AdminAction = negsuc 2
number_of Closed = negsuc 3
number_of MaxPositionExceeded = negsuc 4

abbrev pub why_of : Refusal → Why
why_of NotConnected = whys.NotConnected
why_of BackPressured = whys.BackPressured
why_of AdminAction = whys.AdminAction
why_of Closed = whys.Closed
why_of MaxPositionExceeded = whys.MaxPositionExceeded

-- what a word call saw
abbrev pub sights_in : WordStep → List Sight
sights_in (steps.Limit word) = SawLimit word ∷ []
sights_in (steps.Count count) = SawCount count ∷ []
sights_in (steps.Tail partition word) = SawTail partition word ∷ []
sights_in (steps.Addition partition taken word) = AddedTo partition word ∷ []
sights_in (steps.NextTail partition word) = SawTail partition word ∷ []
sights_in (steps.TailExchange partition from to word) = []
sights_in (steps.CountExchange from count) = []

abbrev pub sights : List WordStep → List Sight
sights call = flat_map sights_in call

-- what the call saw justifies the refusal of a message of this many bytes
abbrev pub SightsJustify : Pass → ℕ → Refusal → Pass → Type 0
SightsJustify p size why q = IsJustified p.identity.geometry (framed_length p.identity.geometry size) (sights q.call) (why_of why)
