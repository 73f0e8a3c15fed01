-- Lines of `run`, computed: a number about its range, a word that is none, and a repeated option are refused.
use Rattle.std.proofs.Common.{◌≡◌, codes, refl, List, [], ◌∷◌}
use Rattle.clap.specs.Walk.{Text}
use Rattle.clap.specs.Faults.{fault_of}
use Rattle.clap.specs.Kinds.{Kinds}
use Rattle.clap.specs.declared.error.kind.ErrorKind.TheVariants.{ArgumentConflict, ValueValidation}
use Rattle.clap.proofs.OnLiterals.{clap_on_literals}
use Rattle.command_line.specs.CommandLines.{driver_app}

-- what the parser holds against a line of `run`
abbrev faults : List Text → Kinds
faults words = fault_of driver_app (codes "mdriver" ∷ codes "run" ∷ words)

most_publishers : faults (codes "--publishers" ∷ codes "8" ∷ codes "--counters" ∷ []) ≡ []
unfolding clap_on_literals
most_publishers = refl

too_many_publishers : faults (codes "--publishers" ∷ codes "9" ∷ []) ≡ ValueValidation ∷ []
unfolding clap_on_literals
too_many_publishers = refl

most_receivers : faults (codes "--receivers" ∷ codes "8" ∷ []) ≡ []
unfolding clap_on_literals
most_receivers = refl

no_receiver : faults (codes "--receivers" ∷ codes "0" ∷ []) ≡ ValueValidation ∷ []
unfolding clap_on_literals
no_receiver = refl

too_much_loss : faults (codes "--loss=1001" ∷ []) ≡ ValueValidation ∷ []
unfolding clap_on_literals
too_much_loss = refl

no_number : faults (codes "--seed" ∷ codes "x" ∷ []) ≡ ValueValidation ∷ []
unfolding clap_on_literals
no_number = refl

given_twice : faults (codes "--mtu=256" ∷ codes "--mtu=256" ∷ []) ≡ ArgumentConflict ∷ []
unfolding clap_on_literals
given_twice = refl
