-- The length that C is told is the payload's.
use Rattle.std.proofs.Common.{◌≡◌, ℕ, ◌+◌, ◌-◌, length, refl, ap, ◌∙◌, arith}
use Rattle.theory.specs.Placed.{Data, Frame, Pad, payload_of}
use Rattle.position.specs.declared.head.FrameHead.{FrameHead}
use Rattle.position.specs.Heads.{head_of}
use Rattle.pechvang.specs.Reading.{frame_of}

by_kind : (p : ℕ) (x : Frame) → (frame_of (head_of p x)).length ≡ length (payload_of x)
by_kind p (Data flags payload) = (let e : 32 + length payload - 32 ≡ length payload = omega arith in e)
by_kind p (Pad n) = refl

pub told_long : (head : FrameHead) (p : ℕ) (x : Frame) → head ≡ head_of p x → (frame_of head).length ≡ length (payload_of x)
told_long head p x e = ap (λ (h : FrameHead). (frame_of h).length) e ∙ by_kind p x
