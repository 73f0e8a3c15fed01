-- Bytes as words of eight.
use Rattle.std.proofs.Common.{◌≡◌, ℕ, zero, suc, ◌+◌, ◌-◌, ◌*◌, ◌/◌, ◌<◌, ◌≤◌, ⊎_elim, List, [], ◌∷◌, ◌++◌, length, take, drop, get_or, replicate, length-drop, length-append, sym, refl, ap, ◌∙◌, arith}
use Rattle.std.specs.Prelude.{slice_range}
use Rattle.std.specs.Int.{w64, from_le_bytes, to_le_bytes, sum_through, byte_worth}
use Rattle.std.specs.List.{flat_map}
use Rattle.std.proofs.Common.{inl, inr, ◌⊎◌, append_assoc}
use Rattle.std.proofs.lemmas.Nat.{le_bytes_8}
use Rattle.std.proofs.lemmas.Bool.{cases_lt}
use Rattle.std.proofs.lemmas.List.{drop-drop, get_or-drop, get_or-take, get_or_past, length-take-le, replicate-append-replicate, take-append-drop, take-append-le, take-replicate, take_all, length-replicate}
use Rattle.theory.specs.Position.{aligned}
use Rattle.theory.specs.Placed.{Data, Frame, Pad, frame_length}
use Rattle.theory.specs.Wire.{front, header_bytes, zeros_after}
use Rattle.theory.specs.Bytes.{Identity, bytes_of, header_at}
use Rattle.position.specs.Words.{frame_words, header_words, payload_words, words_in}

pub words_length : (n : ℕ) (xs : List ℕ) → length (words_in n xs) ≡ n
words_length zero xs = refl
words_length (suc n) xs = ap suc (words_length n (drop 8 xs))

sum_same : (f g : ℕ → ℕ) (k : ℕ) → ((i : ℕ) → i ≤ k → f i ≡ g i) → sum_through f k ≡ sum_through g k
sum_same f g zero h = h 0 (omega arith)
sum_same f g (suc k) h = ap (λ (s : ℕ). s + f (suc k)) (sum_same f g k (λ i l. h i (omega (arith, l)))) ∙ ap (λ (t : ℕ). sum_through g k + t) (h (suc k) (omega arith))

-- by their first eight bytes
pub word_same : (xs ys : List ℕ) → ((i : ℕ) → i < 8 → get_or xs i 0 ≡ get_or ys i 0) → from_le_bytes w64 xs ≡ from_le_bytes w64 ys
word_same xs ys h = sum_same (λ i. byte_worth i (get_or xs i 0)) (λ i. byte_worth i (get_or ys i 0)) 7 (λ i l. ap (byte_worth i) (h i (omega (arith, l))))

pub words_same : (n : ℕ) (xs ys : List ℕ) → ((i : ℕ) → get_or xs i 0 ≡ get_or ys i 0) → words_in n xs ≡ words_in n ys
words_same zero xs ys h = refl
words_same (suc n) xs ys h =
    ap (λ (w : ℕ). w ∷ words_in n (drop 8 xs)) (word_same xs ys (λ i l. h i))
    ∙ ap (λ (l : List ℕ). from_le_bytes w64 ys ∷ l) (words_same n (drop 8 xs) (drop 8 ys) (λ i. get_or-drop 8 xs i 0 ∙ h (8 + i) ∙ sym (get_or-drop 8 ys i 0)))

none_behind : (n i : ℕ) → get_or {A = ℕ} (replicate n 0) i 0 ≡ 0
none_behind zero i = refl
none_behind (suc n) zero = refl
none_behind (suc n) (suc i) = none_behind n i

-- zeros behind the bytes tell nothing
pub zeros_behind : (xs : List ℕ) (n i : ℕ) → get_or (xs ++ replicate n 0) i 0 ≡ get_or xs i 0
zeros_behind [] n i = none_behind n i
zeros_behind (x ∷ xs) n zero = refl
zeros_behind (x ∷ xs) n (suc i) = zeros_behind xs n i

-- one word more
pub words_more : (i : ℕ) (xs : List ℕ) → words_in (suc i) xs ≡ words_in i xs ++ from_le_bytes w64 (drop (8 * i) xs) ∷ []
words_more zero xs = refl
words_more (suc i) xs =
    ap (λ (l : List ℕ). from_le_bytes w64 xs ∷ l) (words_more i (drop 8 xs))
    ∙ ap (λ (ys : List ℕ). from_le_bytes w64 xs ∷ (words_in i (drop 8 xs) ++ from_le_bytes w64 ys ∷ [])) (drop-drop (8 * i) 8 xs ∙ ap (λ (n : ℕ). drop n xs) (let g : 8 + 8 * i ≡ 8 * suc i = omega arith in g))

words_blank : (n : ℕ) → words_in n [] ≡ replicate n 0
words_blank zero = refl
words_blank (suc n) = ap (λ (l : List ℕ). 0 ∷ l) (words_blank n)

-- the words behind the last byte are zero
pub words_rest : (k m : ℕ) (xs : List ℕ) → length xs ≤ 8 * k → k ≤ m → words_in m xs ≡ words_in k xs ++ replicate (m - k) 0
words_rest zero m [] h l = words_blank m ∙ ap (λ (n : ℕ). replicate {A = ℕ} n 0) (let g : m ≡ m - 0 = omega arith in g)
words_rest zero m (x ∷ xs) h l = absurd (omega (arith, h))
words_rest (suc k) zero xs h l = absurd (omega (arith, l))
words_rest (suc k) (suc m) xs h l =
    ap (λ (t : List ℕ). from_le_bytes w64 xs ∷ t) (words_rest k m (drop 8 xs) (omega (arith, h, length-drop 8 xs)) (omega (arith, l)))
    ∙ ap (λ (n : ℕ). from_le_bytes w64 xs ∷ (words_in k (drop 8 xs) ++ replicate {A = ℕ} n 0)) (let g : m - k ≡ suc m - suc k = omega arith in g)

-- a part of the bytes, of eight or up to their end
pub chunk_word : (xs : List ℕ) (at end : ℕ) → at ≤ length xs → (at + 8 ≤ length xs → end ≡ at + 8) → (length xs ≤ at + 8 → end ≡ length xs) → from_le_bytes w64 (slice_range xs at end) ≡ from_le_bytes w64 (drop at xs)
chunk_word xs at end low whole last =
    ⊎_elim
    (λ (l : at + 8 < length xs). word_same (slice_range xs at end) (drop at xs) (λ i s. get_or-take (end - at) (drop at xs) i 0 (let e : end ≡ at + 8 = whole (omega (arith, l)) in omega (arith, e, s))))
    (λ (l : length xs ≤ at + 8). ap (from_le_bytes w64) (take_all (end - at) (drop at xs) (let e : end ≡ length xs = last l in omega (arith, e, length-drop at xs))))
    (cases_lt (at + 8) (length xs))

-- ---- frames

-- a data frame that covers so many words behind its header
pub data_words : (i : Identity) (p flags m : ℕ) (payload : List ℕ) → aligned (32 + length payload) / 8 ≡ suc (suc (suc (suc m))) → (length payload + 7) / 8 ≤ m
    → frame_words i p (Data flags payload) ≡ from_le_bytes w64 (front (32 + length payload) flags 1) ∷ (header_words i p ++ (payload_words payload ++ replicate (m - length (payload_words payload)) 0))
unfolding frame_words
data_words i p flags m payload long fit =
    let k : ℕ = (length payload + 7) / 8 in
    let h : List ℕ = (front (32 + length payload) flags 1 ++ header_bytes (header_at i p)) ++ payload ++ zeros_after (32 + length payload) in
    let size : length (payload_words payload) ≡ (length payload + 7) / 8 = words_length ((length payload + 7) / 8) payload in
    ap (λ (n : ℕ). words_in n h) long
    ∙ ap (λ (l : List ℕ). from_le_bytes w64 (front (32 + length payload) flags 1) ∷ (header_words i p ++ l))
    (words_same m (payload ++ zeros_after (32 + length payload)) payload (zeros_behind payload (aligned (32 + length payload) - (32 + length payload)))
    ∙ words_rest k m payload (omega arith) fit
    ∙ ap (λ (n : ℕ). payload_words payload ++ replicate {A = ℕ} n 0) (let g : m - (length payload + 7) / 8 ≡ m - length (payload_words payload) = omega (arith, size) in g))

pub pad_words : (i : Identity) (p n m : ℕ) → aligned n / 8 ≡ suc (suc (suc (suc m))) → frame_words i p (Pad n) ≡ from_le_bytes w64 (front n 192 0) ∷ (header_words i p ++ ([] ++ replicate (m - 0) 0))
unfolding frame_words
pad_words i p n m long =
    ap (λ (k : ℕ). words_in k (front n 192 0 ++ header_bytes (header_at i p))) long
    ∙ ap (λ (l : List ℕ). from_le_bytes w64 (front n 192 0) ∷ (header_words i p ++ l)) (words_blank m ∙ ap (λ (k : ℕ). replicate {A = ℕ} k 0) (let g : m ≡ m - 0 = omega arith in g))

-- ---- the words spell the bytes

first_eight : (xs : List ℕ) → ((i : ℕ) → get_or xs i 0 < 256) → to_le_bytes w64 (from_le_bytes w64 xs) ≡ take 8 (xs ++ replicate 8 0)
first_eight xs small =
    let long : length (take 8 (xs ++ replicate 8 0)) ≡ 8 = length-take-le 8 (xs ++ replicate 8 0) (omega (arith, length-append xs (replicate 8 0), length-replicate {A = ℕ} 8 0)) in
    le_bytes_8 (take 8 (xs ++ replicate 8 0)) (from_le_bytes w64 xs) long
    (λ i. ⊎_elim
    (λ (l : i < 8). let e : get_or (take 8 (xs ++ replicate 8 0)) i 0 ≡ get_or xs i 0 = get_or-take 8 (xs ++ replicate 8 0) i 0 l ∙ zeros_behind xs 8 i in omega (arith, e, small i))
    (λ (l : 8 ≤ i). let e : get_or (take 8 (xs ++ replicate 8 0)) i 0 ≡ 0 = get_or_past (take 8 (xs ++ replicate 8 0)) i 0 (omega (arith, long, l)) in omega (arith, e))
    (cases_lt i 8))
    (word_same xs (take 8 (xs ++ replicate 8 0)) (λ i l. sym (get_or-take 8 (xs ++ replicate 8 0) i 0 l ∙ zeros_behind xs 8 i)))

-- eight bytes and what is behind them
joined : (xs : List ℕ) (n : ℕ) → length xs ≤ 8 + n → take 8 (xs ++ replicate 8 0) ++ (drop 8 xs ++ replicate (n - length (drop 8 xs)) 0) ≡ xs ++ replicate (8 + n - length xs) 0
joined xs n fit =
    ⊎_elim
    (λ (l : 8 ≤ length xs).
    ap (λ (ys : List ℕ). ys ++ (drop 8 xs ++ replicate (n - length (drop 8 xs)) 0)) (take-append-le 8 xs (replicate 8 0) l)
    ∙ sym (append_assoc (take 8 xs) (drop 8 xs) (replicate (n - length (drop 8 xs)) 0))
    ∙ ap (λ (ys : List ℕ). ys ++ replicate (n - length (drop 8 xs)) 0) (take-append-drop 8 xs)
    ∙ ap (λ (k : ℕ). xs ++ replicate {A = ℕ} k 0) (let e : n - length (drop 8 xs) ≡ 8 + n - length xs = omega (arith, length-drop 8 xs, l, fit) in e))
    (λ (l : length xs < 8).
    let none : drop 8 xs ≡ [] = drop_all 8 xs (omega (arith, l)) in
    ap (λ (ys : List ℕ). take 8 (xs ++ replicate 8 0) ++ (ys ++ replicate (n - length ys) 0)) none
    ∙ ap (λ (ys : List ℕ). ys ++ replicate (n - 0) 0) (take_over xs 8 8 (omega (arith, l)) ∙ ap (λ (ys : List ℕ). xs ++ ys) (take-replicate (8 - length xs) 8 0 (omega arith)))
    ∙ append_assoc xs (replicate (8 - length xs) 0) (replicate (n - 0) 0)
    ∙ ap (λ (ys : List ℕ). xs ++ ys) (replicate-append-replicate (8 - length xs) (n - 0) 0)
    ∙ ap (λ (k : ℕ). xs ++ replicate {A = ℕ} k 0) (let e : 8 - length xs + (n - 0) ≡ 8 + n - length xs = omega (arith, l) in e))
    (cases_le 8 (length xs))
  where
    cases_le : (m k : ℕ) → (m ≤ k) ⊎ (k < m)
    cases_le m k = ⊎_elim (λ (l : k < m). inr l) (λ (l : m ≤ k). inl l) (cases_lt k m)

    drop_all : (k : ℕ) (ys : List ℕ) → length ys ≤ k → drop k ys ≡ []
    drop_all zero [] h = refl
    drop_all (suc k) [] h = refl
    drop_all zero (y ∷ ys) h = absurd (omega (arith, h))
    drop_all (suc k) (y ∷ ys) h = drop_all k ys (omega (arith, h))

    take_over : (ys : List ℕ) (k m : ℕ) → length ys ≤ k → take k (ys ++ replicate m 0) ≡ ys ++ take (k - length ys) (replicate m 0)
    take_over [] k m h = ap (λ (j : ℕ). take j (replicate {A = ℕ} m 0)) (let e : k ≡ k - 0 = omega arith in e)
    take_over (y ∷ ys) zero m h = absurd (omega (arith, h))
    take_over (y ∷ ys) (suc k) m h = ap (λ (l : List ℕ). y ∷ l) (take_over ys k m (omega (arith, h)) ∙ ap (λ (j : ℕ). ys ++ take j (replicate {A = ℕ} m 0)) (let e : k - length ys ≡ suc k - suc (length ys) = omega arith in e))

-- bytes, and zeros up to the words' end
pub words_spell : (n : ℕ) (xs : List ℕ) → ((i : ℕ) → get_or xs i 0 < 256) → length xs ≤ 8 * n → flat_map (to_le_bytes w64) (words_in n xs) ≡ xs ++ replicate (8 * n - length xs) 0
words_spell zero [] small fit = refl
words_spell zero (x ∷ xs) small fit = absurd (omega (arith, fit))
words_spell (suc n) xs small fit =
    ap (λ (ys : List ℕ). ys ++ flat_map (to_le_bytes w64) (words_in n (drop 8 xs))) (first_eight xs small)
    ∙ ap (λ (ys : List ℕ). take 8 (xs ++ replicate 8 0) ++ ys) (words_spell n (drop 8 xs) (λ i. let e = get_or-drop 8 xs i 0 in omega (arith, e, small (8 + i))) (omega (arith, fit, length-drop 8 xs)))
    ∙ joined xs (8 * n) (omega (arith, fit))
    ∙ ap (λ (k : ℕ). xs ++ replicate {A = ℕ} (k - length xs) 0) (let e : 8 + 8 * n ≡ 8 * suc n = omega arith in e)

-- those of a frame: its spelling, and the inside of a padding
pub frame_spells : (i : Identity) (p : ℕ) (f : Frame) → ((k : ℕ) → get_or (bytes_of i (record { at = p; frame = f })) k 0 < 256) → length (bytes_of i (record { at = p; frame = f })) ≤ aligned (frame_length f)
    → flat_map (to_le_bytes w64) (frame_words i p f) ≡ bytes_of i (record { at = p; frame = f }) ++ replicate (aligned (frame_length f) - length (bytes_of i (record { at = p; frame = f }))) 0
unfolding frame_words
frame_spells i p f small fit =
    let whole : 8 * (aligned (frame_length f) / 8) ≡ aligned (frame_length f) = omega arith in
    words_spell (aligned (frame_length f) / 8) (bytes_of i (record { at = p; frame = f })) small (omega (arith, fit, whole))
    ∙ ap (λ (k : ℕ). bytes_of i (record { at = p; frame = f }) ++ replicate {A = ℕ} (k - length (bytes_of i (record { at = p; frame = f }))) 0) whole
