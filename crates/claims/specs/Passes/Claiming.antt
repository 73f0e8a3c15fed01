-- What becomes of a claim.
use Rattle.std.specs.Prelude.{◌≡◌, ℕ, ◌+◌, ◌<◌, ◌≤◌, List, length}
use Rattle.std.specs.Arc.{arc_value}
use Rattle.theory.specs.Position.{max_payload}
use Rattle.theory.specs.Placed.{Frame}
use Rattle.publication.specs.declared.refusal.Refusal.{Refusal}
use Rattle.claims.specs.Claimings.{DeniesMessage, EndsClaim, OpensClaim}
use Rattle.claims.specs.declared.passes.fault.Fault.{Fault}
use Rattle.claims.specs.declared.passes.fault.Fault.TheVariants.{Refused, Long, Outside}
use Rattle.claims.specs.declared.passes.publishing.PublisherPass.{PublisherPass}
use Rattle.claims.specs.declared.passes.claiming.ClaimPass.{ClaimPass}
use Rattle.claims.specs.Passes.Parts.{with_part}
use Rattle.claims.specs.Passes.Publishing.{TooLong}

-- one claim more, for a message of so many bytes, which is open
pub record Opens (p : PublisherPass) (size : ℕ) (c : ClaimPass) : Type 0 where
  pub log : arc_value c.log ≡ arc_value p.log
  pub short : size ≤ max_payload (arc_value p.log).identity.geometry
  pub opens : OpensClaim (arc_value p.log) p.claimant size c.claim

-- it is refused
pub record RefusesClaim (p : PublisherPass) (size : ℕ) (why : Refusal) (q : PublisherPass) : Type 0 where
  pub log : arc_value q.log ≡ arc_value p.log
  pub short : size ≤ max_payload (arc_value p.log).identity.geometry
  pub denies : DeniesMessage (arc_value p.log) p.claimant size why q.claimant

abbrev pub DeclinesClaim : PublisherPass → ℕ → Fault → PublisherPass → Type 0
DeclinesClaim p size (Refused why) q = RefusesClaim p size why q
DeclinesClaim p size Long q = TooLong p size (max_payload (arc_value p.log).identity.geometry) q
DeclinesClaim p size other q = ⊥

-- a part, inside it, is written into the message
pub record Writes (c : ClaimPass) (offset : ℕ) (part : List ℕ) (d : ClaimPass) : Type 0 where
  pub log : arc_value d.log ≡ arc_value c.log
  pub inside : offset + length part ≤ length c.claim.bytes
  pub written : d.claim ≡ record c.claim { bytes = with_part c.claim.bytes offset part }

-- so many bytes from there on aren't all inside it, and nothing has changed
pub record OutsideClaim (c : ClaimPass) (offset count : ℕ) (d : ClaimPass) : Type 0 where
  pub same : d ≡ c
  pub outside : length c.claim.bytes < offset + count

abbrev pub DeclinesPart : ClaimPass → ℕ → ℕ → Fault → ClaimPass → Type 0
DeclinesPart c offset count Outside d = OutsideClaim c offset count d
DeclinesPart c offset count other d = ⊥

-- the claim is committed as this frame, with so many stores
pub record Ends (c : ClaimPass) (f : Frame) (q : PublisherPass) : Type 0 where
  pub log : arc_value q.log ≡ arc_value c.log
  pub ends : EndsClaim (arc_value c.log) c.claim f q.claimant
