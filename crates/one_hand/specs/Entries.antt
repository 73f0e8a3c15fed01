-- The entries that calls add, and the shares that count them.
use Rattle.std.specs.Prelude.{ℕ, ◌+◌, Bool, true, false, if◌then◌else◌, List, [], ◌∷◌, length, slice_index, slice_set}
use Rattle.theory.specs.Position.{Geometry, cuts_of}
use Rattle.theory.specs.Placed.{Pad}
use Rattle.theory.specs.Entry.{Entry, pieces_of}

-- the frame lengths of a message of this many bytes, or of a padding of this frame length
abbrev pub cuts_for : Geometry → Bool → ℕ → List ℕ
cuts_for g padding size = if padding then size ∷ [] else cuts_of g size

-- a claim for a message of this many bytes, or a padding of this frame length
abbrev pub claim_of : Geometry → ℕ → ℕ → Bool → ℕ → Entry
claim_of g start owner padding size = record { start = start; owner = owner; padding = padding; cuts = cuts_for g padding size; frames = [] }

-- a message that is committed whole
abbrev pub published : Geometry → ℕ → ℕ → List ℕ → Entry
published g start owner message = record {
  start = start;
  owner = owner;
  padding = false;
  cuts = cuts_of g (length message);
  frames = pieces_of true (cuts_of g (length message)) message;
}

-- a padding that is committed
abbrev pub padded : ℕ → ℕ → ℕ → Entry
padded start owner frame_length = record { start = start; owner = owner; padding = true; cuts = frame_length ∷ []; frames = Pad frame_length ∷ [] }

abbrev pub with_share : List ℕ → ℕ → ℕ → List ℕ
with_share shares owner covered = slice_set shares owner (slice_index shares owner + covered)
