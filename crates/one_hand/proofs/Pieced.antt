-- The words of a message's frames say its pieces, and the frames lie in its range.
use Rattle.std.proofs.Common.{◌≡◌, ℕ, ◌+◌, ◌-◌, ◌<◌, ◌≤◌, ⊎_elim, List, [], ◌∷◌, map, length, length-take, length-drop, take, drop, Bool, true, false, refl, sym, ap, subst, arith}
use Rattle.std.specs.List.{AllByRecursion, list_any}
use Rattle.std.proofs.lemmas.Bool.{cases_lt}
use Rattle.std.proofs.lemmas.List.{get_or-drop, get_or-take, get_or_past}
use Rattle.theory.specs.Position.{aligned, span}
use Rattle.theory.specs.Placed.{Data, Frame, frame_length, is_padding}
use Rattle.theory.specs.Entry.{flags_of, pieces_of}
use Rattle.theory.specs.Bytes.{Identity}
use Rattle.theory.proofs.Pieces.{payload_in}
use Rattle.publication.specs.declared.pass.FrameWords.{FrameWords}
use Rattle.publication.specs.Frames.{frames_at}
use Rattle.publication.specs.Contents.{frame_in}
use Rattle.position.proofs.Contents.{IsSmall, data_said}
use Rattle.one_hand.specs.Shown.{Chained}

flags_low : (first : Bool) (cuts : List ℕ) → flags_of first cuts < 256
flags_low true [] = omega arith
flags_low false [] = omega arith
flags_low true (cut ∷ cuts) = omega arith
flags_low false (cut ∷ cuts) = omega arith

small_take : (n : ℕ) (xs : List ℕ) → IsSmall xs → IsSmall (take n xs)
small_take n xs small i = ⊎_elim
    (λ (l : i < n). subst (λ (x : ℕ). x < 256) (sym (get_or-take n xs i 0 l)) (small i))
    (λ (l : n ≤ i). subst (λ (x : ℕ). x < 256) (sym (get_or_past (take n xs) i 0 (let e = length-take n xs in omega (arith, e, l)))) (omega arith))
    (cases_lt i n)

small_drop : (n : ℕ) (xs : List ℕ) → IsSmall xs → IsSmall (drop n xs)
small_drop n xs small i = subst (λ (x : ℕ). x < 256) (sym (get_or-drop n xs i 0)) (small (n + i))

pub pieces_said : (i : Identity) (first : Bool) (p : ℕ) (cuts m : List ℕ) → IsSmall m → length m < 2147483648 → map frame_in (frames_at i p (pieces_of first cuts m)) ≡ pieces_of first cuts m
pieces_said i first p [] m small short = refl
pieces_said i first p (cut ∷ cuts) m small short =
    let part : List ℕ = take (cut - 32) m in
    let a = data_said i p (flags_of first cuts) part (flags_low first cuts) (small_take (cut - 32) m small) (let e = length-take (cut - 32) m in omega (arith, e, short)) in
    let b = pieces_said i false (p + aligned (frame_length (Data (flags_of first cuts) part))) cuts (drop (cut - 32) m) (small_drop (cut - 32) m small) (let e = length-drop (cut - 32) m in omega (arith, e, short)) in
    (λ j. a j ∷ b j)

pub pieces_chained : (i : Identity) (first : Bool) (p : ℕ) (cuts m : List ℕ) → IsSmall m → length m < 2147483648 → Chained p (frames_at i p (pieces_of first cuts m))
pieces_chained i first p [] m small short = tt
pieces_chained i first p (cut ∷ cuts) m small short =
    let part : List ℕ = take (cut - 32) m in let f : Frame = Data (flags_of first cuts) part in
    let a = data_said i p (flags_of first cuts) part (flags_low first cuts) (small_take (cut - 32) m small) (let e = length-take (cut - 32) m in omega (arith, e, short)) in
    let b = pieces_chained i false (p + aligned (frame_length f)) cuts (drop (cut - 32) m) (small_drop (cut - 32) m small) (let e = length-drop (cut - 32) m in omega (arith, e, short)) in
    (refl, subst (λ (x : Frame). Chained (p + aligned (frame_length x)) (frames_at i (p + aligned (frame_length f)) (pieces_of false cuts (drop (cut - 32) m)))) (sym a) b)

pub no_padding : (first : Bool) (cuts m : List ℕ) → list_any is_padding (pieces_of first cuts m) ≡ false
no_padding first [] m = refl
no_padding first (cut ∷ cuts) m = no_padding false cuts (drop (cut - 32) m)

wider : (p q n k : ℕ) (fs : List FrameWords) → p ≤ q → q + k ≤ p + n → AllByRecursion (λ f. (q ≤ f.start) × (f.start < q + k)) fs → AllByRecursion (λ f. (p ≤ f.start) × (f.start < p + n)) fs
wider p q n k [] a b h = tt
wider p q n k (f ∷ fs) a b h = (let l = h.0.0 in let u = h.0.1 in (omega (arith, a, l), omega (arith, b, u)), wider p q n k fs a b h.1)

pub pieces_within : (i : Identity) (first : Bool) (p : ℕ) (cuts m : List ℕ) → AllByRecursion (λ cut. 32 ≤ cut) cuts → payload_in cuts ≡ length m → AllByRecursion (λ f. (p ≤ f.start) × (f.start < p + span cuts)) (frames_at i p (pieces_of first cuts m))
pieces_within i first p [] m large full = tt
pieces_within i first p (cut ∷ cuts) m large full =
    let sum : cut - 32 + payload_in cuts ≡ length m = full in
    let low : 32 ≤ cut = large.0 in
    let part : List ℕ = take (cut - 32) m in
    let size : 32 + length part ≡ cut = (let e = length-take (cut - 32) m in omega (arith, e, low, sum)) in
    let q : ℕ = p + aligned (32 + length part) in
    let next : p + aligned (32 + length part) ≡ p + aligned cut = ap (λ (n : ℕ). p + aligned n) size in
    ((omega arith, omega (arith, low)), wider p q (aligned cut + span cuts) (span cuts) (frames_at i q (pieces_of false cuts (drop (cut - 32) m))) (omega arith) (omega (arith, next)) (pieces_within i false q cuts (drop (cut - 32) m) large.1 (let e = length-drop (cut - 32) m in omega (arith, e, sum))))
