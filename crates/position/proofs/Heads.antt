-- A head and the block's front tell the frame.
use Rattle.std.proofs.Common.{◌≡◌, ◌∙◌, ℕ, ◌+◌, ◌-◌, List, ◌++◌, length, take, drop, ap, refl, arith}
use Rattle.std.proofs.Math.Seq.{take-append_seam}
use Rattle.theory.specs.Placed.{Data, Frame, Pad, frame_length, payload_of}
use Rattle.position.specs.Heads.{frame_in, head_of}

pub length_in : (start : ℕ) (f : Frame) → (head_of start f).frame_length ≡ frame_length f
length_in start (Data flags payload) = refl
length_in start (Pad n) = refl

pub start_in : (start : ℕ) (f : Frame) → (head_of start f).start ≡ start
start_in start (Data flags payload) = refl
start_in start (Pad n) = refl

pub frame_again : (at : ℕ) (f : Frame) (old : List ℕ) → frame_in (head_of at f).kind (head_of at f).flags (head_of at f).frame_length (payload_of f ++ drop (length (payload_of f)) old) ≡ f
frame_again at (Data flags payload) old =
    let size : 32 + length payload - 32 ≡ length payload = omega arith in
    ap (λ (n : ℕ). Data flags (take n (payload ++ drop (length payload) old))) size
    ∙ ap (Data flags) (take-append_seam payload (drop (length payload) old))
frame_again at (Pad n) old = refl
