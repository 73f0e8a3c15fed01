-- The lines of a datagram's frames, one after the other.
use Rattle.std.proofs.Common.{◌≡◌, ◌∙◌, ◌≤◌, ℕ, List, [], ◌∷◌, ◌++◌, zero, suc, length, take, refl, sym, ap, arith, append-nil}
use Rattle.std.proofs.lemmas.Grind.{flat_map-append}
use Rattle.theory.specs.Wire.{Wire}
use Rattle.frames.proofs.FrameSteps.{FrameAt}
use Rattle.commands.specs.FrameLines.{frame_line, frame_lines}

-- the lines of one frame more
pub lines_more : (frames : List Wire) (i : ℕ) (at : FrameAt frames i) → frame_lines (take i frames) ++ (frame_line at.frame ++ 10 ∷ []) ≡ frame_lines (take (suc i) frames)
lines_more frames i at = sym (ap frame_lines at.taken ∙ flat_map-append (λ frame. frame_line frame ++ 10 ∷ []) (take i frames) (at.frame ∷ []) ∙ ap (λ lines. frame_lines (take i frames) ++ lines) (append-nil (frame_line at.frame ++ 10 ∷ [])))

-- all frames are printed
pub all_lines : (frames : List Wire) (i : ℕ) → length frames ≤ i → frame_lines (take i frames) ≡ frame_lines frames
all_lines [] zero done = refl
all_lines [] (suc i) done = refl
all_lines (w ∷ ws) zero done = absurd (omega arith)
all_lines (w ∷ ws) (suc i) done = ap (λ lines. (frame_line w ++ (10 ∷ [])) ++ lines) (all_lines ws i (omega arith))
