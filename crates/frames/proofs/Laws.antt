-- The laws of reading from the front, for what the code returns.
use Rattle.std.proofs.Common.{◌≡◌, ℕ, List, ◌++◌, length, take, drop, Result, Ok, Err, sym, ap, ◌∙◌, arith}
use Rattle.std.specs.Prelude.{IfOk, IsOkAnd}
use Rattle.std.proofs.lemmas.List.{take_at, take-append-drop, length-append, length-take-le}
use Rattle.theory.specs.Wire.{Wire, spelling}
use Rattle.frames.specs.declared.fault.FrameError.{FrameError}
use Rattle.frames.specs.declared.frame.Frame.{Frame}
use Rattle.frames.specs.Frames.{wire}
use Rattle.frames.specs.Fronts.{FrontSpells}
use Rattle.frames.specs.Reading.{ReturnsReading, reading}
use Rattle.frames.proofs.Numbers.{IsBytes}
use Rattle.frames.proofs.Guards.{done, ok_is, no_ok}
use Rattle.frames.proofs.Again.{reading_again}
use Rattle.frames.proofs.Found.{Stands, reading_found}

pub front_from : (bytes : List ℕ) (w : Wire) (n : ℕ) → Stands bytes w n → FrontSpells bytes w n
front_from bytes w n s = record {
  within = omega (arith, s.size, ap length s.parts, length-append (spelling w) (drop n bytes));
  spelled = (s.frame, ap (take n) s.parts ∙ take_at (spelling w) (drop n bytes) n s.size);
}

pub is_found : (bytes : List ℕ) (r : Result (Frame × ℕ) FrameError) → IsBytes bytes → ReturnsReading r (reading bytes) → IfOk r (λ found. FrontSpells bytes (wire found.0) found.1)
is_found bytes (Ok f) fits given = front_from bytes (wire f.0) f.1 (reading_found bytes (wire f.0, f.1) fits given)
is_found bytes (Err e) fits given = tt

-- a front that spells a frame, and what is behind it
pub front_parts : (bytes : List ℕ) (w : Wire) (n : ℕ) → FrontSpells bytes w n → bytes ≡ spelling w ++ drop n bytes
front_parts bytes w n h = sym (take-append-drop n bytes) ∙ ap (λ (r : List ℕ). r ++ drop n bytes) h.spelled.1

pub front_read : (bytes : List ℕ) (w : Wire) (n : ℕ) → FrontSpells bytes w n → reading bytes ≡ Ok (w, n)
front_read bytes w n h =
    let size : length (spelling w) ≡ n = sym (ap length h.spelled.1) ∙ length-take-le n bytes h.within in
    ap reading (front_parts bytes w n h) ∙ reading_again w (drop n bytes) h.spelled.0 ∙ ap (λ (k : ℕ). done (w, k)) size

pub is_only : (bytes : List ℕ) (r : Result (Frame × ℕ) FrameError) (w : Wire) (n : ℕ) → ReturnsReading r (reading bytes) → FrontSpells bytes w n → IsOkAnd r (λ found. (wire found.0 ≡ w) × (found.1 ≡ n))
is_only bytes (Ok f) w n given h =
    let same : (wire f.0, f.1) ≡ (w, n) = ok_is (wire f.0, f.1) (w, n) (sym given ∙ front_read bytes w n h) in
    (ap (λ (p : Wire × ℕ). p.0) same, ap (λ (p : Wire × ℕ). p.1) same)
is_only bytes (Err e) w n given h = absurd (no_ok e (w, n) (sym given ∙ front_read bytes w n h))
