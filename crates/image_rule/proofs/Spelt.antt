-- The bytes of a frame say which frame it is.
use Rattle.std.proofs.Common.{◌≡◌, ℕ, suc, ◌+◌, ◌-◌, ◌*◌, ◌/◌, ◌<◌, ◌≤◌, List, [], ◌∷◌, ◌++◌, length, take, drop, replicate, sym, refl, ap, ◌∙◌, subst, arith}
use Rattle.std.specs.Prelude.{slice_index}
use Rattle.std.specs.Int.{w32, from_le_bytes, to_le_bytes}
use Rattle.std.proofs.lemmas.Nat.{from_le_bytes-to_le_bytes_4}
use Rattle.std.proofs.lemmas.List.{length-append, length-replicate, take-append-le, take_all}
use Rattle.theory.specs.Bytes.{Identity, bytes_of, header_at}
use Rattle.theory.specs.Placed as placed
use Rattle.theory.specs.Placed.{Data, Pad, frame_length, payload_of}
use Rattle.theory.specs.Position.{aligned}
use Rattle.theory.specs.Wire.{Header, front, header_bytes, zeros_after}
use Rattle.position.specs.Heads.{head_of}
use Rattle.position.specs.declared.head.FrameKind.TheVariants as kinds
use Rattle.position.specs.Contents.{frame_by, head_by}
use Rattle.position.proofs.Contents.{flags_low}
use Rattle.image_rule.specs.declared.view.Frame.{Frame}
use Rattle.image_rule.specs.Frames.{IsContent, IsSpelt, Says, frame_said}

-- ---- a header is 32 bytes

front_of : (n flags kind : ℕ) (h : Header) (rest : List ℕ) → take 8 (front n flags kind ++ (header_bytes h ++ rest)) ≡ front n flags kind
front_of n flags kind h rest = refl

behind : (n flags kind : ℕ) (h : Header) (rest : List ℕ) → drop 32 (front n flags kind ++ (header_bytes h ++ rest)) ≡ rest
behind n flags kind h rest = refl

long : (n flags kind : ℕ) (h : Header) (rest : List ℕ) → length (front n flags kind ++ (header_bytes h ++ rest)) ≡ 32 + length rest
long n flags kind h rest = omega arith

-- ---- which frame the bytes say

payload_front : (payload : List ℕ) (k : ℕ) → take (length payload) (payload ++ replicate k 0) ≡ payload
payload_front payload k = take-append-le (length payload) payload (replicate k 0) (omega arith) ∙ take_all (length payload) payload (omega arith)

pub spelt_said : (i : Identity) (p : ℕ) (f : placed.Frame) → IsContent f → frame_said (bytes_of i (record { at = p; frame = f })) ≡ f
spelt_said i p (Data flags payload) is =
    let n : ℕ = 32 + length payload in let few = is.1 in
    ap (λ (k : ℕ). Data flags (take (k - 32) (payload ++ zeros_after n))) (from_le_bytes-to_le_bytes_4 n (omega arith))
    ∙ ap (λ (k : ℕ). Data flags (take k (payload ++ zeros_after n))) (let e : n - 32 ≡ length payload = omega arith in e)
    ∙ ap (Data flags) (payload_front payload (aligned n - n))
spelt_said i p (Pad n) is = let few = is.1 in ap Pad (from_le_bytes-to_le_bytes_4 n (omega arith))

spelt_head : (i : Identity) (p q : ℕ) (f : placed.Frame) → IsContent f → head_by q (take 8 (bytes_of i (record { at = p; frame = f }))) ≡ head_of q f
spelt_head i p q (Data flags payload) is = let few = is.1 in ap (λ (k : ℕ). record { start = q; kind = kinds.Data; flags = flags; frame_length = k }) (from_le_bytes-to_le_bytes_4 (32 + length payload) (omega arith))
spelt_head i p q (Pad n) is = let few = is.1 in ap (λ (k : ℕ). record { start = q; kind = kinds.Pad; flags = 192; frame_length = k }) (from_le_bytes-to_le_bytes_4 n (omega arith))

spelt_payload : (i : Identity) (p : ℕ) (f : placed.Frame) → take (length (payload_of f)) (drop 32 (bytes_of i (record { at = p; frame = f }))) ≡ payload_of f
spelt_payload i p (Data flags payload) = payload_front payload (aligned (32 + length payload) - (32 + length payload))
spelt_payload i p (Pad n) = refl

pub spelt_length : (i : Identity) (p : ℕ) (f : placed.Frame) → IsContent f → (32 + length (payload_of f) ≤ length (bytes_of i (record { at = p; frame = f }))) × (length (bytes_of i (record { at = p; frame = f })) ≤ aligned (frame_length f))
spelt_length i p (Data flags payload) is =
    let n : ℕ = 32 + length payload in
    let a = length-append payload (zeros_after n) in let b : length (zeros_after n) ≡ aligned n - n = length-replicate (aligned n - n) 0 in
    let e = long n flags 1 (header_at i p) (payload ++ zeros_after n) in
    (omega (arith, a, b, e), omega (arith, a, b, e))
spelt_length i p (Pad n) is = let a = is.0 in (omega arith, omega arith)

-- ---- a frame in an image

pub says : (i : Identity) (f : Frame) → IsSpelt i f → Says f
says i f s =
    let c : placed.Frame = frame_said f.bytes in let e : f.bytes ≡ bytes_of i (record { at = 32 * f.unit; frame = c }) = s.bytes in let l = spelt_length i (32 * f.unit) c s.content in record {
      content = s.content;
      covered = s.covered;
      head = λ p. ap (λ (bs : List ℕ). head_by p (take 8 bs)) e ∙ spelt_head i (32 * f.unit) p c s.content;
      payload = ap (λ (bs : List ℕ). take (length (payload_of c)) (drop 32 bs)) e ∙ spelt_payload i (32 * f.unit) c;
      long = subst (λ (bs : List ℕ). 32 + length (payload_of c) ≤ length bs) (sym e) l.0;
    }

-- the frame with this content, where it starts at a unit
abbrev pub frame_at : Identity → ℕ → placed.Frame → Frame
frame_at i unit c = record { unit = unit; units = aligned (frame_length c) / 32; bytes = bytes_of i (record { at = 32 * unit; frame = c }) }

pub spelt_at : (i : Identity) (unit : ℕ) (c : placed.Frame) → IsContent c → IsSpelt i (frame_at i unit c)
spelt_at i unit c is = let e = spelt_said i (32 * unit) c is in record {
  content = subst IsContent (sym e) is;
  covered = whole (frame_length c) ∙ ap (λ (x : placed.Frame). aligned (frame_length x)) (sym e);
  bytes = ap (λ (x : placed.Frame). bytes_of i (record { at = 32 * unit; frame = x })) (sym e);
}
  where
    whole : (n : ℕ) → 32 * (aligned n / 32) ≡ aligned n
    whole n = omega arith

-- it covers a unit at least, and has room for its bytes
pub content_long : (c : placed.Frame) → IsContent c → 32 ≤ frame_length c
content_long (Data flags payload) is = omega arith
content_long (Pad n) is = is.0

pub spelt_full : (i : Identity) (f : Frame) → IsSpelt i f → 0 < f.units
spelt_full i f s = let c = s.covered in let l = content_long (frame_said f.bytes) s.content in omega arith

pub spelt_fits : (i : Identity) (f : Frame) → IsSpelt i f → length f.bytes ≤ 32 * f.units
spelt_fits i f s = let c = s.covered in let l = (spelt_length i (32 * f.unit) (frame_said f.bytes) s.content).1 in let e = ap length s.bytes in omega (arith, c, l, e)
