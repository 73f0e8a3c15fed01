-- Frames put into datagrams, one after the other.
use Rattle.std.specs.Prelude.{◌≡◌, ◌⊎◌, ℕ, ◌+◌, ◌*◌, ◌/◌, ◌≤◌, Bool, true, false, not, List, [], ◌∷◌, ◌++◌, length, map, take}
use Rattle.std.specs.List.{list_any}
use Rattle.theory.specs.Position.{Geometry, aligned}
use Rattle.theory.specs.Placed.{Placed, is_padding}
use Rattle.theory.specs.Bytes.{Identity}
use Rattle.theory.specs.Datagrams.{grouped, size_of, wires}
use Rattle.position.specs.declared.head.FrameHead.{FrameHead}
use Rattle.position.specs.declared.head.FrameKind.{FrameKind}
use Rattle.position.specs.declared.head.FrameKind.TheVariants as kinds
use Rattle.position.specs.Heads.{frame_in}
use Rattle.sender.specs.Cycling.{datagrams}
use Rattle.frames.specs.Outgoing.{Outgoing}
use Rattle.sender.specs.declared.packing.Packing.{Packing}

-- ---- the frame that was read

-- its head, and its payload in the block's front
abbrev pub placed_in : FrameHead → List ℕ → Placed
placed_in head block = record { at = head.start; frame = frame_in head.kind head.flags head.frame_length block }

-- the bytes that it takes in a datagram
abbrev pub size_in : FrameKind → ℕ → ℕ
size_in kinds.Data frame_length = aligned frame_length
size_in kinds.Pad frame_length = 32

-- it may go into the last datagram
pub record MayJoin (g : Geometry) (p : Packing) (head : FrameHead) : Type 0 where
  pub more : p.takes_more ≡ true
  pub term : p.term ≡ head.start / g.term_length * g.term_length
  pub size : p.size + size_in head.kind head.frame_length ≤ g.mtu

-- ---- the frames that were put in before

-- of the datagrams, what is known of the last
pub record KnowsLast (g : Geometry) (p : Packing) (groups : List (List Placed)) : Type 0 where
  pub earlier : List (List Placed)
  pub first : Placed
  pub rest : List Placed
  pub parts : groups ≡ earlier ++ (first ∷ rest) ∷ []
  pub term : p.term ≡ first.at / g.term_length * g.term_length
  pub size : p.size ≡ size_of (first ∷ rest)
  pub more : p.takes_more ≡ not (list_any (λ u. is_padding u.frame) (first ∷ rest))

-- these frames stand in their datagrams, behind what the outbox held before, and so many datagrams more may be begun
pub record Packs (i : Identity) (most : ℕ) (before : List (List ℕ)) (p : Packing) (o : Outgoing) (frames : List Placed) : Type 0 where
  pub out : o ≡ record { mtu = i.geometry.mtu; datagrams = before ++ datagrams (map (wires i) (grouped i.geometry frames)) }
  pub left : p.left + length (grouped i.geometry frames) ≡ most
  pub last : ((frames ≡ []) × (p.takes_more ≡ false)) ⊎ KnowsLast i.geometry p (grouped i.geometry frames)
  pub small : p.size ≤ i.geometry.mtu

-- some frames stand so, and all that may be put in have room
pub record HasPacked (i : Identity) (p : Packing) (o : Outgoing) : Type 0 where
  pub most : ℕ
  pub before : List (List ℕ)
  pub frames : List Placed
  pub packs : Packs i most before p o frames
  pub room : length before + most ≤ 32

-- one frame more was put in; or it has no place in so many datagrams, and nothing has changed
abbrev pub Puts : Identity → Packing → Outgoing → Placed → Bool → Packing → Outgoing → Type 0
Puts i p o s true q n = (most : ℕ) → (before : List (List ℕ)) → (frames : List Placed) → Packs i most before p o frames → Packs i most before q n (frames ++ s ∷ [])
Puts i p o s false q n = (q ≡ p) × (n ≡ o) × ((most : ℕ) → (before : List (List ℕ)) → (frames : List Placed) → Packs i most before p o frames → take most (grouped i.geometry (frames ++ s ∷ [])) ≡ grouped i.geometry frames)
