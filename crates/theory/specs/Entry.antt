-- Entries: what one addition took of the stream, and the frames of it that are committed.
use Rattle.std.specs.Prelude.{◌≡◌, ℕ, ◌+◌, ◌-◌, ◌<◌, ⊤, Bool, true, false, List, [], ◌∷◌, length, take, drop, if◌then◌else◌}
use Rattle.std.specs.List.{flat_map, AllByRecursion}
use Rattle.theory.specs.Position.{span}
use Rattle.theory.specs.Placed.{Data, Frame, Pad, Placed, place_all}

-- what one addition took: the frame lengths, in order, and the frames that are committed, the first of them
pub record Entry : Type 0 where
  pub start : ℕ
  pub owner : ℕ
  pub padding : Bool
  pub cuts : List ℕ
  pub frames : List Frame

abbrev pub length_of : Entry → ℕ
length_of e = span e.cuts

abbrev pub entry_end : Entry → ℕ
entry_end e = e.start + length_of e

-- begin at the first frame of a message, end at the last
abbrev pub flags_of : Bool → List ℕ → ℕ
flags_of first [] = if first then 192 else 64
flags_of first (cut ∷ later) = if first then 128 else 0

abbrev pub IsPiece : ℕ → ℕ → Frame → Type 0
IsPiece cut flags (Data f payload) = (f ≡ flags) × (32 + length payload ≡ cut)
IsPiece cut flags (Pad n) = ⊥

-- a message's frames: its bytes, cut by these frame lengths
abbrev pub pieces_of : Bool → List ℕ → List ℕ → List Frame
pieces_of first [] message = []
pieces_of first (cut ∷ cuts) message = Data (flags_of first cuts) (take (cut - 32) message) ∷ pieces_of false cuts (drop (cut - 32) message)

-- these are the first frames of a message with these cuts
abbrev pub ArePieces : Bool → List ℕ → List Frame → Type 0
ArePieces first cuts [] = ⊤
ArePieces first [] (f ∷ fs) = ⊥
ArePieces first (cut ∷ cuts) (f ∷ fs) = IsPiece cut (flags_of first cuts) f × ArePieces false cuts fs

abbrev pub IsPadFrame : ℕ → Frame → Type 0
IsPadFrame cut (Data flags payload) = ⊥
IsPadFrame cut (Pad n) = n ≡ cut

-- one cut, of which the padding is the frame
abbrev pub ArePadding : List ℕ → List Frame → Type 0
ArePadding [] fs = ⊥
ArePadding (cut ∷ []) [] = ⊤
ArePadding (cut ∷ []) (f ∷ []) = IsPadFrame cut f
ArePadding (cut ∷ []) (f ∷ g ∷ fs) = ⊥
ArePadding (cut ∷ more ∷ cuts) fs = ⊥

abbrev pub HaveFrames : Bool → List ℕ → List Frame → Type 0
HaveFrames true cuts fs = ArePadding cuts fs
HaveFrames false cuts fs = ArePieces true cuts fs

pub record IsEntry (e : Entry) : Type 0 where
  pub owner : e.owner < 8
  pub cuts : AllByRecursion (λ cut. 0 < cut) e.cuts
  pub long : 0 < length_of e
  pub frames : HaveFrames e.padding e.cuts e.frames

-- the committed frames, in order
abbrev pub committed : List Entry → List Placed
committed es = flat_map (λ e. place_all e.start e.frames) es
