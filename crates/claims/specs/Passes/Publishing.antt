-- What an offer makes of a publisher's pass.
use Rattle.std.specs.Prelude.{◌≡◌, ℕ, ◌<◌, ◌≤◌, List, length}
use Rattle.std.specs.Arc.{arc_value}
use Rattle.theory.specs.Position.{max_message}
use Rattle.publication.specs.declared.refusal.Refusal.{Refusal}
use Rattle.claims.specs.Claimings.{AcceptsMessage, DeniesMessage}
use Rattle.claims.specs.declared.passes.fault.Fault.{Fault}
use Rattle.claims.specs.declared.passes.fault.Fault.TheVariants.{Refused, Long}
use Rattle.claims.specs.declared.passes.publishing.PublisherPass.{PublisherPass}

-- the message is accepted, and the position is behind it
pub record Accepts (p : PublisherPass) (message : List ℕ) (end : ℕ) (q : PublisherPass) : Type 0 where
  pub log : arc_value q.log ≡ arc_value p.log
  pub short : length message ≤ max_message (arc_value p.log).identity.geometry
  pub accepts : AcceptsMessage (arc_value p.log) p.claimant message end q.claimant

-- a message of so many bytes is refused
pub record Refuses (p : PublisherPass) (size : ℕ) (why : Refusal) (q : PublisherPass) : Type 0 where
  pub log : arc_value q.log ≡ arc_value p.log
  pub short : size ≤ max_message (arc_value p.log).identity.geometry
  pub denies : DeniesMessage (arc_value p.log) p.claimant size why q.claimant

-- it is longer than the log takes, and nothing has changed
pub record TooLong (p : PublisherPass) (size most : ℕ) (q : PublisherPass) : Type 0 where
  pub same : q ≡ p
  pub long : most < size

abbrev pub Declines : PublisherPass → ℕ → Fault → PublisherPass → Type 0
Declines p size (Refused why) q = Refuses p size why q
Declines p size Long q = TooLong p size (max_message (arc_value p.log).identity.geometry) q
Declines p size other q = ⊥
