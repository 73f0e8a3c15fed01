-- One committed frame stands at a position.
use Rattle.std.proofs.Common.{◌≡◌, ◌∙◌, ℕ, ◌+◌, ◌<◌, ◌≤◌, List, [], ◌∷◌, sym, ap, inl, inr, arith}
use Rattle.std.specs.List.{AllByRecursion}
use Rattle.theory.specs.Position.{aligned}
use Rattle.theory.specs.Placed.{Among, Frame, Placed, covered, end_of, frame_length, place_all}
use Rattle.theory.specs.Entry.{Entry, IsEntry, committed}
use Rattle.theory.specs.Tiling.{Tiles}
use Rattle.theory.proofs.Lists.{all_append}
use Rattle.theory.proofs.Frames.{AreCut, InOrder, are_cut, committed_in_order, in_order_from}

IsLong : Placed → Type 0
IsLong s = 0 < covered s

long_placed : (p : ℕ) (cuts : List ℕ) (fs : List Frame) → AreCut cuts fs → AllByRecursion (λ cut. 0 < cut) cuts → AllByRecursion IsLong (place_all p fs)
unfolding IsLong
long_placed p cuts [] h k = tt
long_placed p [] (f ∷ fs) h k = absurd h
long_placed p (cut ∷ cuts) (f ∷ fs) h k = let same : frame_length f ≡ cut = h.0 in (omega (arith, k.0), long_placed (p + aligned (frame_length f)) cuts fs h.1 k.1)

long_committed : (es : List Entry) → AllByRecursion IsEntry es → AllByRecursion IsLong (committed es)
long_committed [] h = tt
long_committed (e ∷ es) h =
    all_append IsLong (place_all e.start e.frames) (committed es)
    (long_placed e.start e.cuts e.frames (are_cut e.padding e.cuts e.frames h.0.frames) h.0.cuts)
    (long_committed es h.1)

one_there : (low : ℕ) (ss : List Placed) (s t : Placed) → InOrder low ss → AllByRecursion IsLong ss → Among s ss → Among t ss → s.at ≡ t.at → s ≡ t
unfolding IsLong
one_there low [] s t h k a b e = absurd a
one_there low (u ∷ us) s t h k (inl x) (inl y) e = x ∙ sym y
one_there low (u ∷ us) s t h k (inl x) (inr b) e = let later : end_of u ≤ t.at = in_order_from (end_of u) us t h.1 b in let here : s.at ≡ u.at = ap (λ z. z.at) x in absurd (omega (arith, k.0))
one_there low (u ∷ us) s t h k (inr a) (inl y) e = let later : end_of u ≤ s.at = in_order_from (end_of u) us s h.1 a in let here : t.at ≡ u.at = ap (λ z. z.at) y in absurd (omega (arith, k.0))
one_there low (u ∷ us) s t h k (inr a) (inr b) e = one_there (end_of u) us s t h.1 k.1 a b e

pub one_at : (term p tail : ℕ) (es : List Entry) (s t : Placed) → Tiles term p tail es → AllByRecursion IsEntry es → Among s (committed es) → Among t (committed es) → s.at ≡ t.at → s ≡ t
one_at term p tail es s t tiles entries a b e = one_there p (committed es) s t (committed_in_order term p tail es tiles entries) (long_committed es entries) a b e
