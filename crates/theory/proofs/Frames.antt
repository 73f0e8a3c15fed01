-- The committed frames: in order, apart, below the tail, and never taken back.
use Rattle.std.proofs.Common.{◌≡◌, ℕ, ◌+◌, ◌-◌, ◌<◌, ◌≤◌, inl, inr, ⊎_elim, List, [], ◌∷◌, ◌++◌, map, Bool, true, false, refl, sym, ap, ◌∙◌, subst, arith}
use Rattle.std.specs.List.{AllByRecursion}
use Rattle.std.specs.Prelude.{nat_le, nat_lt, slice_get, ⊤}
use Rattle.std.proofs.lemmas.Bool.{cond-true, cond-false, le-leb, lt-ltb, le-ltb, and_right, and_from}
use Rattle.theory.specs.Position.{aligned, span}
use Rattle.theory.specs.Placed.{Frame, Data, Pad, frame_length, Placed, end_of, Among, place_all}
use Rattle.theory.specs.Entry.{Entry, IsEntry, HaveFrames, ArePieces, ArePadding, IsPiece, IsPadFrame, flags_of, entry_end, committed}
use Rattle.theory.specs.Tiling.{Tiles}
use Rattle.theory.specs.Bytes.{covers, cell_in, cell_of, Identity, bytes_of}
use Rattle.theory.proofs.Lists.{among_left, among_right, among_cases, all_weaker, all_append}

-- the frames have the first of these lengths
abbrev pub AreCut : List ℕ → List Frame → Type 0
AreCut cuts [] = ⊤
AreCut [] (f ∷ fs) = ⊥
AreCut (cut ∷ cuts) (f ∷ fs) = (frame_length f ≡ cut) × AreCut cuts fs

piece_length : (cut flags : ℕ) (f : Frame) → IsPiece cut flags f → frame_length f ≡ cut
piece_length cut flags (Data g payload) h = h.1
piece_length cut flags (Pad n) h = absurd h

pub pieces_cut : (first : Bool) (cuts : List ℕ) (fs : List Frame) → ArePieces first cuts fs → AreCut cuts fs
pieces_cut first cuts [] h = tt
pieces_cut first [] (f ∷ fs) h = absurd h
pieces_cut first (cut ∷ cuts) (f ∷ fs) h = (piece_length cut (flags_of first cuts) f h.0, pieces_cut false cuts fs h.1)

pad_length : (cut : ℕ) (f : Frame) → IsPadFrame cut f → frame_length f ≡ cut
pad_length cut (Data g payload) h = absurd h
pad_length cut (Pad n) h = h

pub padding_cut : (cuts : List ℕ) (fs : List Frame) → ArePadding cuts fs → AreCut cuts fs
padding_cut cuts [] h = tt
padding_cut [] (f ∷ fs) h = absurd h
padding_cut (cut ∷ []) (f ∷ []) h = (pad_length cut f h, tt)
padding_cut (cut ∷ []) (f ∷ g ∷ fs) h = absurd h
padding_cut (cut ∷ more ∷ cuts) (f ∷ fs) h = absurd h

pub are_cut : (padding : Bool) (cuts : List ℕ) (fs : List Frame) → HaveFrames padding cuts fs → AreCut cuts fs
are_cut true cuts fs h = padding_cut cuts fs h
are_cut false cuts fs h = pieces_cut true cuts fs h

-- ---- in order

abbrev pub InOrder : ℕ → List Placed → Type 0
InOrder low [] = ⊤
InOrder low (s ∷ ss) = (low ≤ s.at) × InOrder (end_of s) ss

abbrev pub AllBelow : ℕ → List Placed → Type 0
AllBelow high ss = AllByRecursion (λ s. end_of s ≤ high) ss

pub InOrder-append : (low mid : ℕ) (xs ys : List Placed) → InOrder low xs → AllBelow mid xs → low ≤ mid → InOrder mid ys → InOrder low (xs ++ ys)
InOrder-append low mid [] [] h b l k = tt
InOrder-append low mid [] (y ∷ ys) h b l k = (omega arith, k.1)
InOrder-append low mid (x ∷ xs) ys h b l k = (h.0, InOrder-append (end_of x) mid xs ys h.1 b.1 b.0 k)

pub placed_below : (p : ℕ) (cuts : List ℕ) (fs : List Frame) → AreCut cuts fs → AllBelow (p + span cuts) (place_all p fs)
placed_below p cuts [] h = tt
placed_below p [] (f ∷ fs) h = absurd h
placed_below p (cut ∷ cuts) (f ∷ fs) h =
    let same : aligned (frame_length f) ≡ aligned cut = ap aligned h.0 in
    let rest : AllBelow (p + aligned (frame_length f) + span cuts) (place_all (p + aligned (frame_length f)) fs) = placed_below (p + aligned (frame_length f)) cuts fs h.1 in
    let ends : p + aligned (frame_length f) + span cuts ≡ p + (aligned cut + span cuts) = omega (arith, same) in
    (omega (arith, same), subst (λ x. AllBelow x (place_all (p + aligned (frame_length f)) fs)) ends rest)

pub placed_in_order : (p : ℕ) (fs : List Frame) → InOrder p (place_all p fs)
placed_in_order p [] = tt
placed_in_order p (f ∷ fs) = (omega arith, placed_in_order (p + aligned (frame_length f)) fs)

pub placed_before : (p : ℕ) (cuts : List ℕ) (fs : List Frame) → AreCut cuts fs → AllByRecursion (λ cut. 0 < cut) cuts → AllByRecursion (λ s. s.at < p + span cuts) (place_all p fs)
placed_before p cuts [] h k = tt
placed_before p [] (f ∷ fs) h k = absurd h
placed_before p (cut ∷ cuts) (f ∷ fs) h k =
    let same : aligned (frame_length f) ≡ aligned cut = ap aligned h.0 in
    let long : 0 < cut = k.0 in
    let rest : AllByRecursion (λ s. s.at < p + aligned (frame_length f) + span cuts) (place_all (p + aligned (frame_length f)) fs) = placed_before (p + aligned (frame_length f)) cuts fs h.1 k.1 in
    (omega arith, all_weaker (λ s. s.at < p + aligned (frame_length f) + span cuts) (λ s. s.at < p + (aligned cut + span cuts)) (λ s b. omega arith) (place_all (p + aligned (frame_length f)) fs) rest)

pub tiles_le : (term p tail : ℕ) (es : List Entry) → Tiles term p tail es → p ≤ tail
tiles_le term p tail [] h = omega (arith, h)
tiles_le term p tail (e ∷ es) h = omega (arith, tiles_le term (entry_end e) tail es h.2, h.0)

pub committed_below : (term p tail : ℕ) (es : List Entry) → Tiles term p tail es → AllByRecursion IsEntry es → AllBelow tail (committed es)
committed_below term p tail [] h k = tt
committed_below term p tail (e ∷ es) h k =
    let here : AllBelow (entry_end e) (place_all e.start e.frames) = placed_below e.start e.cuts e.frames (are_cut e.padding e.cuts e.frames k.0.frames) in
    let le : entry_end e ≤ tail = tiles_le term (entry_end e) tail es h.2 in
    all_append (λ s. end_of s ≤ tail) (place_all e.start e.frames) (committed es) (all_weaker (λ s. end_of s ≤ entry_end e) (λ s. end_of s ≤ tail) (λ s b. omega arith) (place_all e.start e.frames) here) (committed_below term (entry_end e) tail es h.2 k.1)

pub committed_in_order : (term p tail : ℕ) (es : List Entry) → Tiles term p tail es → AllByRecursion IsEntry es → InOrder p (committed es)
committed_in_order term p tail [] h k = tt
committed_in_order term p tail (e ∷ es) h k =
    let here : AllBelow (entry_end e) (place_all e.start e.frames) = placed_below e.start e.cuts e.frames (are_cut e.padding e.cuts e.frames k.0.frames) in
    subst (λ x. InOrder x (committed (e ∷ es))) h.0
    (InOrder-append e.start (entry_end e) (place_all e.start e.frames) (committed es) (placed_in_order e.start e.frames) here (omega arith) (committed_in_order term (entry_end e) tail es h.2 k.1))

pub in_order_from : (low : ℕ) (ss : List Placed) (s : Placed) → InOrder low ss → Among s ss → low ≤ s.at
in_order_from low [] s h a = absurd a
in_order_from low (t ∷ ts) s h (inl e) = let same : s.at ≡ t.at = ap (λ x. x.at) e in omega (arith, h.0)
in_order_from low (t ∷ ts) s h (inr a) = let later : end_of t ≤ s.at = in_order_from (end_of t) ts s h.1 a in omega (arith, h.0)

-- ---- never taken back

pub Kept-map : (g : Entry → Entry) (es : List Entry) → ((e : Entry) → Among e es → (s : Placed) → Among s (place_all e.start e.frames) → Among s (place_all (g e).start (g e).frames)) → (s : Placed) → Among s (committed es) → Among s (committed (map g es))
Kept-map g [] keeps s a = a
Kept-map g (e ∷ es) keeps s a =
    ⊎_elim
    (λ (here : Among s (place_all e.start e.frames)). among_left s (place_all (g e).start (g e).frames) (committed (map g es)) (keeps e (inl refl) s here))
    (λ (later : Among s (committed es)). among_right s (place_all (g e).start (g e).frames) (committed (map g es)) (Kept-map g es (λ d b. keeps d (inr b)) s later))
    (among_cases s (place_all e.start e.frames) (committed es) a)

pub Kept-push : (es : List Entry) (d : Entry) (s : Placed) → Among s (committed es) → Among s (committed (es ++ d ∷ []))
Kept-push [] d s a = absurd a
Kept-push (e ∷ es) d s a =
    ⊎_elim
    (λ (here : Among s (place_all e.start e.frames)). among_left s (place_all e.start e.frames) (committed (es ++ d ∷ [])) here)
    (λ (later : Among s (committed es)). among_right s (place_all e.start e.frames) (committed (es ++ d ∷ [])) (Kept-push es d s later))
    (among_cases s (place_all e.start e.frames) (committed es) a)

pub placed_front : (p : ℕ) (fs gs : List Frame) (s : Placed) → Among s (place_all p fs) → Among s (place_all p (fs ++ gs))
placed_front p [] gs s a = absurd a
placed_front p (f ∷ fs) gs s (inl e) = inl e
placed_front p (f ∷ fs) gs s (inr a) = inr (placed_front (p + aligned (frame_length f)) fs gs s a)

-- ---- which frame covers a position

pub cell_found : (i : Identity) (low : ℕ) (ss : List Placed) (s : Placed) (p : ℕ) → InOrder low ss → Among s ss → s.at ≤ p → p < end_of s → cell_in i ss p ≡ cell_of (slice_get (bytes_of i s) (p - s.at))
cell_found i low [] s p h a l u = absurd a
cell_found i low (t ∷ ts) s p h (inl e) l u =
    let same : end_of s ≡ end_of t = ap end_of e in
    let at : s.at ≡ t.at = ap (λ x. x.at) e in
    let yes : covers t p ≡ true = and_from (nat_le t.at p) (nat_lt p (end_of t)) (le-leb t.at p (omega arith)) (lt-ltb p (end_of t) (omega arith)) in
    cond-true (covers t p) (cell_of (slice_get (bytes_of i t) (p - t.at))) (cell_in i ts p) yes ∙ ap (λ x. cell_of (slice_get (bytes_of i x) (p - x.at))) (sym e)
cell_found i low (t ∷ ts) s p h (inr a) l u =
    let later : end_of t ≤ s.at = in_order_from (end_of t) ts s h.1 a in
    let no : covers t p ≡ false = and_right (nat_le t.at p) (nat_lt p (end_of t)) (le-ltb p (end_of t) (omega arith)) in
    cond-false (covers t p) (cell_of (slice_get (bytes_of i t) (p - t.at))) (cell_in i ts p) no ∙ cell_found i (end_of t) ts s p h.1 a l u
