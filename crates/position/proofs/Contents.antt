-- A frame's words say which frame it is.
use Rattle.std.proofs.Common.{◌≡◌, ℕ, zero, suc, ◌+◌, ◌-◌, ◌*◌, ◌/◌, ◌<◌, ◌≤◌, ⊎_elim, List, [], ◌∷◌, ◌++◌, length, take, drop, get_or, replicate, sym, refl, ap, ◌∙◌, arith}
use Rattle.std.specs.Prelude.{slice_index}
use Rattle.std.specs.Int.{w64, from_le_bytes, to_le_bytes}
use Rattle.std.proofs.lemmas.Nat.{from_le_bytes-to_le_bytes_4, le_bytes_8}
use Rattle.std.proofs.lemmas.List.{take-append-le, take_all}
use Rattle.std.specs.List.{AllByRecursion}
use Rattle.theory.specs.Position.{IsGeometry, aligned}
use Rattle.theory.specs.Placed.{Data, Frame, Pad}
use Rattle.theory.specs.Wire.{IsDataFlags, front}
use Rattle.theory.specs.Bytes.{Identity}
use Rattle.position.specs.Words.{IsLegal, frame_words, payload_words}
use Rattle.position.proofs.Wordings.{data_words, pad_words, words_length, words_rest, words_spell}
use Rattle.position.specs.declared.head.FrameKind.TheVariants as kinds
use Rattle.position.specs.Heads.{head_of}
use Rattle.position.specs.Contents.{bytes_in, frame_by, frame_of, head_by}

front_small : (n flags kind : ℕ) → flags < 256 → kind < 65536 → (i : ℕ) → get_or (front n flags kind) i 0 < 256
front_small n flags kind f k zero = omega arith
front_small n flags kind f k (suc zero) = omega arith
front_small n flags kind f k (suc (suc zero)) = omega arith
front_small n flags kind f k (suc (suc (suc zero))) = omega arith
front_small n flags kind f k (suc (suc (suc (suc zero)))) = omega arith
front_small n flags kind f k (suc (suc (suc (suc (suc zero))))) = omega (arith, f)
front_small n flags kind f k (suc (suc (suc (suc (suc (suc zero)))))) = omega arith
front_small n flags kind f k (suc (suc (suc (suc (suc (suc (suc zero))))))) = omega arith
front_small n flags kind f k (suc (suc (suc (suc (suc (suc (suc (suc i)))))))) = omega arith

pub head_is : (n flags kind : ℕ) → flags < 256 → kind < 65536 → to_le_bytes w64 (from_le_bytes w64 (front n flags kind)) ≡ front n flags kind
head_is n flags kind f k = le_bytes_8 (front n flags kind) (from_le_bytes w64 (front n flags kind)) refl (front_small n flags kind f k) refl

abbrev pub IsSmall : List ℕ → Type 0
IsSmall xs = (i : ℕ) → get_or xs i 0 < 256

pub says_data : (i : Identity) (p flags m : ℕ) (payload : List ℕ) → flags < 256 → IsSmall payload → 32 + length payload < 4294967296 → aligned (32 + length payload) / 8 ≡ suc (suc (suc (suc m))) → (length payload + 7) / 8 ≤ m → frame_of (frame_words i p (Data flags payload)) ≡ Data flags payload
says_data i p flags m payload f small short long fits =
    ap (λ (ws : List ℕ). frame_by (to_le_bytes w64 (slice_index ws 0)) (bytes_in (drop 4 ws))) (data_words i p flags m payload long fits)
    ∙ ap (λ (h : List ℕ). frame_by h (bytes_in (payload_words payload ++ replicate (m - length (payload_words payload)) 0))) (head_is (32 + length payload) flags 1 f (omega arith))
    ∙ ap (λ (k : ℕ). Data flags (take (k - 32) (bytes_in (payload_words payload ++ replicate (m - length (payload_words payload)) 0)))) (from_le_bytes-to_le_bytes_4 (32 + length payload) short)
    ∙ ap (λ (xs : List ℕ). Data flags xs) payload_is
  where
    payload_is : take (32 + length payload - 32) (bytes_in (payload_words payload ++ replicate (m - length (payload_words payload)) 0)) ≡ payload
    payload_is =
        ap (λ (k : ℕ). take (32 + length payload - 32) (bytes_in (payload_words payload ++ replicate {A = ℕ} (m - k) 0))) (words_length ((length payload + 7) / 8) payload)
        ∙ ap (λ (k : ℕ). take k (bytes_in (payload_words payload ++ replicate (m - (length payload + 7) / 8) 0))) (let e : 32 + length payload - 32 ≡ length payload = omega arith in e)
        ∙ ap (λ (ws : List ℕ). take (length payload) (bytes_in ws)) (sym (words_rest ((length payload + 7) / 8) m payload (omega arith) fits))
        ∙ ap (take (length payload)) (words_spell m payload small (omega (arith, fits)))
        ∙ take-append-le (length payload) payload (replicate (8 * m - length payload) 0) (omega arith)
        ∙ take_all (length payload) payload (omega arith)

pub says_pad : (i : Identity) (p n m : ℕ) → n < 4294967296 → aligned n / 8 ≡ suc (suc (suc (suc m))) → frame_of (frame_words i p (Pad n)) ≡ Pad n
says_pad i p n m short long =
    ap (λ (ws : List ℕ). frame_by (to_le_bytes w64 (slice_index ws 0)) (bytes_in (drop 4 ws))) (pad_words i p n m long)
    ∙ ap (λ (h : List ℕ). frame_by h (bytes_in ([] ++ replicate (m - 0) 0))) (head_is n 192 0 (omega arith) (omega arith))
    ∙ ap (λ (k : ℕ). Pad k) (from_le_bytes-to_le_bytes_4 n short)

-- ---- any frame

pub data_said : (i : Identity) (p flags : ℕ) (payload : List ℕ) → flags < 256 → IsSmall payload → length payload < 2147483648 → frame_of (frame_words i p (Data flags payload)) ≡ Data flags payload
data_said i p flags payload f small short = says_data i p flags (aligned (32 + length payload) / 8 - 4) payload f small (omega arith) (omega arith) (omega arith)

pub pad_said : (i : Identity) (p n : ℕ) → 0 < n → n < 2147483648 → frame_of (frame_words i p (Pad n)) ≡ Pad n
pad_said i p n some short = says_pad i p n (aligned n / 8 - 4) (omega arith) (omega arith)

pub bytes_small : (xs : List ℕ) → AllByRecursion (λ b. b < 256) xs → IsSmall xs
bytes_small [] a i = omega arith
bytes_small (x ∷ xs) a zero = a.0
bytes_small (x ∷ xs) a (suc i) = bytes_small xs a.1 i

pub flags_low : (n : ℕ) → IsDataFlags n → n < 256
flags_low n f = ⊎_elim (λ (e : n ≡ 0). omega arith) (λ r. ⊎_elim (λ (e : n ≡ 64). omega arith) (λ r'. ⊎_elim (λ (e : n ≡ 128). omega arith) (λ (e : n ≡ 192). omega arith) r') r) f

-- a frame that may be committed
pub legal_said : (i : Identity) (p : ℕ) (f : Frame) → IsGeometry i.geometry → IsLegal i.geometry f → frame_of (frame_words i p f) ≡ f
legal_said i p (Data flags payload) g l = data_said i p flags payload (flags_low flags l.0) (bytes_small payload l.2) (let m = g.mtu.greatest in let n = l.1 in omega arith)
legal_said i p (Pad n) g l = pad_said i p n (omega arith) (let t = g.term.greatest in let a = l.1 in omega arith)

-- ---- its first word says its head

data_head : (i : Identity) (p flags m : ℕ) (payload : List ℕ) → flags < 256 → 32 + length payload < 4294967296 → aligned (32 + length payload) / 8 ≡ suc (suc (suc (suc m))) → (length payload + 7) / 8 ≤ m → head_by p (to_le_bytes w64 (slice_index (frame_words i p (Data flags payload)) 0)) ≡ head_of p (Data flags payload)
data_head i p flags m payload f short long fits =
    ap (λ (ws : List ℕ). head_by p (to_le_bytes w64 (slice_index ws 0))) (data_words i p flags m payload long fits)
    ∙ ap (head_by p) (head_is (32 + length payload) flags 1 f (omega arith))
    ∙ ap (λ (k : ℕ). record { start = p; kind = kinds.Data; flags = flags; frame_length = k }) (from_le_bytes-to_le_bytes_4 (32 + length payload) short)

pad_head : (i : Identity) (p n m : ℕ) → n < 4294967296 → aligned n / 8 ≡ suc (suc (suc (suc m))) → head_by p (to_le_bytes w64 (slice_index (frame_words i p (Pad n)) 0)) ≡ head_of p (Pad n)
pad_head i p n m short long =
    ap (λ (ws : List ℕ). head_by p (to_le_bytes w64 (slice_index ws 0))) (pad_words i p n m long)
    ∙ ap (head_by p) (head_is n 192 0 (omega arith) (omega arith))
    ∙ ap (λ (k : ℕ). record { start = p; kind = kinds.Pad; flags = 192; frame_length = k }) (from_le_bytes-to_le_bytes_4 n short)

pub head_said : (i : Identity) (p : ℕ) (f : Frame) → IsGeometry i.geometry → IsLegal i.geometry f → head_by p (to_le_bytes w64 (slice_index (frame_words i p f) 0)) ≡ head_of p f
head_said i p (Data flags payload) g l = let m = g.mtu.greatest in let n = l.1 in data_head i p flags (aligned (32 + length payload) / 8 - 4) payload (flags_low flags l.0) (omega arith) (omega arith) (omega arith)
head_said i p (Pad n) g l = let t = g.term.greatest in let a = l.1 in let c = l.0 in pad_head i p n (aligned n / 8 - 4) (omega arith) (omega arith)
