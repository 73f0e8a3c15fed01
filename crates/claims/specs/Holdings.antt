-- What contracts see of a publisher that claims, and what always holds of it.
use Rattle.std.specs.Prelude.{◌≡◌, ℕ, ◌+◌, ◌≤◌, List, [], ◌∷◌, length}
use Rattle.theory.specs.Position.{aligned, max_payload, max_position}
use Rattle.publication.specs.Steps.{blank, geometry_of}
use Rattle.shared_log.specs.Steps.Handles.{PublisherValue}

-- a publisher that has looked, for the term of this count and a message of this many bytes
pub record ArmedValue : Type 0 where
  pub publisher : PublisherValue
  pub count : ℕ
  pub size : ℕ

-- a publisher with an open claim: where that begins, and the bytes of its message
pub record ClaimValue : Type 0 where
  pub publisher : PublisherValue
  pub start : ℕ
  pub bytes : List ℕ

abbrev pub size_of : ClaimValue → ℕ
size_of c = length c.bytes

abbrev pub end_of : ClaimValue → ℕ
end_of c = c.start + aligned (32 + size_of c)

-- nothing of the publisher is open, and it isn't armed
pub record IsResting (p : PublisherValue) : Type 0 where
  pub unarmed : p.pass.right.armed ≡ 0
  pub ended : p.pass.work.drafts ≡ []

-- ---- what the types keep, with a block of so many bytes: at least as many as a datagram has

pub record IsClaimant (p : PublisherValue) (capacity : ℕ) : Type 0 where
  pub resting : IsResting p
  pub room : (geometry_of p.pass).mtu ≤ capacity

pub record MayAdd (p : PublisherValue) (count size capacity : ℕ) : Type 0 where
  pub armed : p.pass.right.armed ≡ 1
  pub term : p.pass.seen.term ≡ count
  pub ended : p.pass.work.drafts ≡ []
  pub short : size ≤ max_payload (geometry_of p.pass)
  pub room : (geometry_of p.pass).mtu ≤ capacity

-- the claim is all that the publisher has open
pub record HasOpen (p : PublisherValue) (start end size capacity : ℕ) : Type 0 where
  pub unarmed : p.pass.right.armed ≡ 0
  pub one : p.pass.work.drafts ≡ blank start (32 + size) ∷ []
  pub short : size ≤ max_payload (geometry_of p.pass)
  pub end_is : end ≡ start + aligned (32 + size)
  pub in_stream : end ≤ max_position (geometry_of p.pass)
  pub room : (geometry_of p.pass).mtu ≤ capacity
