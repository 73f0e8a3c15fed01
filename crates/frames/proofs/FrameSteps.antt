-- A datagram's frames, one after the other.
use Rattle.std.proofs.Common.{◌≡◌, ◌∙◌, ◌<◌, ◌-◌, ℕ, List, [], ◌∷◌, ◌++◌, zero, suc, length, take, drop, refl, sym, ap, ap₂, arith, length-append, length-drop}
use Rattle.std.proofs.Math.Seq.{take-append_seam, drop-append_seam, take-length}
use Rattle.std.specs.List.{AllByRecursion, flat_map}
use Rattle.theory.specs.Wire.{Wire, IsFrame, spelling}
use Rattle.frames.specs.Fronts.{FrontSpells}

-- the frame at this place
pub record FrameAt (frames : List Wire) (i : ℕ) : Type 0 where
  pub frame : Wire
  pub is : IsFrame frame
  pub dropped : drop i frames ≡ frame ∷ drop (suc i) frames
  pub taken : take (suc i) frames ≡ take i frames ++ frame ∷ []

pub frame_at : (frames : List Wire) (i : ℕ) → AllByRecursion IsFrame frames → i < length frames → FrameAt frames i
frame_at [] i all below = absurd (omega arith)
frame_at (w ∷ ws) zero all below = record { frame = w; is = all.0; dropped = refl; taken = refl }
frame_at (w ∷ ws) (suc i) all below =
    let next = frame_at ws i all.1 (omega arith) in
    record { frame = next.frame; is = next.is; dropped = next.dropped; taken = ap (λ (xs : List Wire). w ∷ xs) next.taken }

-- the bytes that are left begin with the frame
pub frame_first : (frames : List Wire) (rest : List ℕ) (i : ℕ) (at : FrameAt frames i) → rest ≡ flat_map spelling (drop i frames) → rest ≡ spelling at.frame ++ flat_map spelling (drop (suc i) frames)
frame_first frames rest i at left = left ∙ ap (flat_map spelling) at.dropped

pub front_spells : (w : Wire) (bytes rest : List ℕ) → IsFrame w → bytes ≡ spelling w ++ rest → FrontSpells bytes w (length (spelling w))
front_spells w bytes rest is parts = record {
  within = omega (arith, simp length-append at (ap length parts));
  spelled = (is, ap (take (length (spelling w))) parts ∙ take-append_seam (spelling w) rest);
}

-- and those behind it begin with the next one
pub next_first : (w : Wire) (bytes rest : List ℕ) (size : ℕ) → bytes ≡ spelling w ++ rest → size ≡ length (spelling w) → drop size bytes ≡ rest
next_first w bytes rest size parts is = ap₂ drop is parts ∙ drop-append_seam (spelling w) rest

-- a slice to the end
pub slice_to_end : (bytes : List ℕ) (size : ℕ) → take (length bytes - size) (drop size bytes) ≡ drop size bytes
slice_to_end bytes size = ap (λ n. take n (drop size bytes)) (sym (length-drop size bytes)) ∙ take-length (drop size bytes)
