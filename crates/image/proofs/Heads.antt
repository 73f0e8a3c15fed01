-- What the head of a held frame says of it.
use Rattle.std.proofs.Common.{◌≡◌, ℕ, Bool, refl}
use Rattle.std.specs.Prelude.{nat_eq, ◌&&◌}
use Rattle.theory.specs.Insert.{same_kind}
use Rattle.theory.specs.Placed as placed
use Rattle.theory.specs.Placed.{frame_length, is_padding}
use Rattle.position.specs.declared.head.FrameHead.{FrameHead}
use Rattle.image.specs.Kinds.{head_at, is_pad}

abbrev pub is_like : Bool → ℕ → FrameHead → Bool
is_like padding n head = same_kind padding (is_pad head.kind) && nat_eq n head.frame_length

pub head_like : (p : ℕ) (f : placed.Frame) (padding : Bool) (n : ℕ) → is_like padding n (head_at p f) ≡ (same_kind padding (is_padding f) && nat_eq n (frame_length f))
head_like p (placed.Data flags payload) padding n = refl
head_like p (placed.Pad m) padding n = refl
