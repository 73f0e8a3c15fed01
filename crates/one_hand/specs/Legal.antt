-- What holds of every log in one hand.
use Rattle.std.specs.Prelude.{◌≡◌, ℕ, ◌+◌, ◌-◌, ◌*◌, ◌%◌, ◌^◌, ◌<◌, ◌≤◌, false, max, length, Some, slice_get, sum}
use Rattle.std.specs.List.{AllByRecursion}
use Rattle.theory.specs.Position.{IsGeometry, max_payload, max_position}
use Rattle.theory.specs.Placed.{Among}
use Rattle.theory.specs.Entry.{IsEntry}
use Rattle.theory.specs.Tiling.{Tiles}
use Rattle.theory.specs.Bytes.{IsIdentity}
use Rattle.one_hand.specs.Entries.{claim_of}
use Rattle.one_hand.specs.Stream.{OpenClaim, Stream, standing, term_of}

-- a publisher's open claim: its entry is there, and nothing of it is committed
pub record IsOpenClaim (l : Stream) (by : ℕ) (c : OpenClaim) : Type 0 where
  pub entry : Among (claim_of l.identity.geometry c.start by false c.size) l.entries
  pub short : c.size ≤ max_payload l.identity.geometry

pub record IsStream (l : Stream) : Type 0 where
  pub geometry : IsGeometry l.identity.geometry
  pub identity : IsIdentity l.identity
  pub unit : l.start % 32 ≡ 0
  pub below : l.start < max_position l.identity.geometry
  -- the tail lies in the active term, or at its end
  pub from : l.active * term_of l ≤ l.tail
  pub to : l.tail ≤ (l.active + 1) * term_of l
  pub last : l.active < 2 ^ 31
  -- the entries that are kept tile the stream up to the tail
  pub first : ℕ
  pub tiles : Tiles (term_of l) first l.tail l.entries
  pub entries : AllByRecursion IsEntry l.entries
  pub eight : length l.shares ≡ 8
  pub shares : l.start + sum l.shares ≡ l.tail
  pub numbers : length l.claims ≡ 8
  pub claims : (by : ℕ) (c : OpenClaim) → slice_get l.claims by ≡ Some (Some c) → IsOpenClaim l by c
  pub word : l.cleaned % 8 ≡ 0
  pub consumer_units : AllByRecursion (λ p. p % 32 ≡ 0) (standing l.consumers)
  -- nothing is cleaned that a consumer may read
  pub readable : AllByRecursion (λ p. l.cleaned ≤ max l.start (p - term_of l)) (standing l.consumers)
