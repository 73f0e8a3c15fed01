-- The frames of an entry that are committed, beside those that its claim has.
use Rattle.std.proofs.Common.{◌≡◌, ◌⊎◌, inl, inr, ⊎_elim, ℕ, ◌+◌, ◌*◌, ◌/◌, ◌≤◌, Bool, false, List, [], ◌∷◌, ◌++◌, map, refl, ap, ◌∙◌, subst, arith}
use Rattle.std.specs.Prelude.{⊤}
use Rattle.theory.specs.Bytes.{Identity}
use Rattle.theory.specs.Entry.{ArePieces, Entry, IsPiece, committed, flags_of}
use Rattle.theory.specs.Placed.{Among, Frame, Pad, Placed, frame_length, place_all}
use Rattle.theory.specs.Position.{aligned, span}
use Rattle.theory.proofs.Frames.{AreCut}
use Rattle.position.specs.Words.{frame_words}
use Rattle.position.proofs.Wordings.{words_length}
use Rattle.publication.specs.declared.pass.FrameWords.{FrameWords}
use Rattle.publication.specs.Steps.{Extent, extent_of, extents}
use Rattle.log_rule.specs.Claims.Sums.{total}
use Rattle.log_rule.proofs.Claimed.Totals.{total_flat, total_map}
use Rattle.threads_meaning.specs.Modelled.{spelled}

-- frames of these lengths, and no others
abbrev pub ExactCut : List ℕ → List Frame → Type 0
ExactCut [] [] = ⊤
ExactCut [] (f ∷ fs) = ⊥
ExactCut (cut ∷ cuts) [] = ⊥
ExactCut (cut ∷ cuts) (f ∷ fs) = (frame_length f ≡ cut) × ExactCut cuts fs

-- ---- where a cut is, beside the frames that are committed

pub record IsBehind (front : List ℕ) (fs : List Frame) : Type 0 where
  pub done : List ℕ
  pub next : ℕ
  pub more : List ℕ
  pub parts : front ≡ done ++ next ∷ more
  pub exact : ExactCut done fs

pub record IsWithin (front : List ℕ) (cut : ℕ) (fs : List Frame) : Type 0 where
  pub done : List Frame
  pub frame : Frame
  pub more : List Frame
  pub parts : fs ≡ done ++ frame ∷ more
  pub exact : ExactCut front done
  pub long : frame_length frame ≡ cut

pub locate : (front : List ℕ) (cut : ℕ) (behind : List ℕ) (fs : List Frame) → AreCut (front ++ cut ∷ behind) fs → ExactCut front fs ⊎ (IsBehind front fs ⊎ IsWithin front cut fs)
locate [] cut behind [] a = inl tt
locate [] cut behind (f ∷ fs) a = inr (inr record { done = []; frame = f; more = fs; parts = refl; exact = tt; long = a.0 })
locate (c ∷ front) cut behind [] a = inr (inl record { done = []; next = c; more = front; parts = refl; exact = tt })
locate (c ∷ front) cut behind (f ∷ fs) a = ⊎_elim
    (λ (e : ExactCut front fs). inl (a.0, e))
    (λ (r : IsBehind front fs ⊎ IsWithin front cut fs). ⊎_elim
    (λ (x : IsBehind front fs). inr (inl record { done = c ∷ x.done; next = x.next; more = x.more; parts = ap (λ (l : List ℕ). c ∷ l) x.parts; exact = (a.0, x.exact) }))
    (λ (x : IsWithin front cut fs). inr (inr record { done = f ∷ x.done; frame = x.frame; more = x.more; parts = ap (λ (l : List Frame). f ∷ l) x.parts; exact = (a.0, x.exact); long = x.long }))
    r)
    (locate front cut behind fs a.1)

-- no padding of each cut stops before one
pub not_whole : (front : List ℕ) (cut : ℕ) (behind : List ℕ) (fs : List Frame) → ExactCut front fs → fs ≡ map Pad (front ++ cut ∷ behind) → ⊥
not_whole [] cut behind [] x e = cc
not_whole [] cut behind (f ∷ fs) x e = absurd x
not_whole (c ∷ front) cut behind [] x e = absurd x
not_whole (c ∷ front) cut behind (f ∷ fs) x e = not_whole front cut behind fs x.1 (rest e)
  where
    rest : f ∷ fs ≡ map Pad (c ∷ (front ++ cut ∷ behind)) → fs ≡ map Pad (front ++ cut ∷ behind)
    rest e = cc

-- ---- a piece more

abbrev pub first_at : Bool → List ℕ → Bool
first_at first [] = first
first_at first (cut ∷ cuts) = false

pub pieces_push : (first : Bool) (front : List ℕ) (cut : ℕ) (behind : List ℕ) (fs : List Frame) (f : Frame) → ArePieces first (front ++ cut ∷ behind) fs → ExactCut front fs → IsPiece cut (flags_of (first_at first front) behind) f → ArePieces first (front ++ cut ∷ behind) (fs ++ f ∷ [])
pieces_push first [] cut behind [] f a x is = (is, tt)
pieces_push first [] cut behind (g ∷ fs) f a x is = absurd x
pieces_push first (c ∷ front) cut behind [] f a x is = absurd x
pieces_push first (c ∷ []) cut behind (g ∷ fs) f a x is = (a.0, pieces_push false [] cut behind fs f a.1 x.1 is)
pieces_push first (c ∷ d ∷ front) cut behind (g ∷ fs) f a x is = (a.0, pieces_push false (d ∷ front) cut behind fs f a.1 x.1 is)

-- ---- where frames stand

pub placed_push : (p : ℕ) (cuts : List ℕ) (fs gs : List Frame) → ExactCut cuts fs → place_all p (fs ++ gs) ≡ place_all p fs ++ place_all (p + span cuts) gs
placed_push p [] [] gs x = ap (λ (n : ℕ). place_all n gs) (let e : p ≡ p + 0 = omega arith in e)
placed_push p [] (f ∷ fs) gs x = absurd x
placed_push p (c ∷ cuts) [] gs x = absurd x
placed_push p (c ∷ cuts) (f ∷ fs) gs x =
    let long : aligned (frame_length f) ≡ aligned c = ap aligned x.0 in
    ap (λ (ss : List Placed). record { at = p; frame = f } ∷ ss) (placed_push (p + aligned (frame_length f)) cuts fs gs x.1 ∙ ap (λ (n : ℕ). place_all (p + aligned (frame_length f)) fs ++ place_all n gs) (let e : p + aligned (frame_length f) + span cuts ≡ p + (aligned c + span cuts) = omega arith in e))

-- the extent of a frame's words
pub extent_spelled : (i : Identity) (p : ℕ) (f : Frame) → extent_of (spelled i (record { at = p; frame = f })) ≡ record { start = p; bytes = aligned (frame_length f); cut = frame_length f }
unfolding frame_words
extent_spelled i p f = ap (λ (n : ℕ). record { start = p; bytes = n; cut = frame_length f }) (ap (λ (n : ℕ). 8 * n) (words_length (aligned (frame_length f) / 8) _) ∙ whole (frame_length f))
  where
    whole : (n : ℕ) → 8 * (aligned n / 8) ≡ aligned n
    whole n = omega arith

-- what committed frames count, the cuts count
pub placed_less : (i : Identity) (h : Extent → ℕ) (p : ℕ) (cuts : List ℕ) (fs : List Frame) → AreCut cuts fs → total (λ s. h (extent_of (spelled i s))) (place_all p fs) ≤ total h (extents p cuts)
placed_less i h p cuts [] a = omega arith
placed_less i h p [] (f ∷ fs) a = absurd a
placed_less i h p (c ∷ cuts) (f ∷ fs) a =
    let one : h (extent_of (spelled i (record { at = p; frame = f }))) ≡ h (record { start = p; bytes = aligned c; cut = c }) = ap h (extent_spelled i p f ∙ ap (λ (n : ℕ). record { start = p; bytes = aligned n; cut = n }) a.0) in
    let r = placed_less i h (p + aligned c) cuts fs a.1 in
    let same : total (λ s. h (extent_of (spelled i s))) (place_all (p + aligned (frame_length f)) fs) ≡ total (λ s. h (extent_of (spelled i s))) (place_all (p + aligned c) fs) = ap (λ (n : ℕ). total (λ s. h (extent_of (spelled i s))) (place_all (p + aligned n) fs)) a.0 in
    omega arith

-- and the first cut behind them beside that
pub placed_next : (i : Identity) (h : Extent → ℕ) (p : ℕ) (done : List ℕ) (next : ℕ) (more : List ℕ) (fs : List Frame) → ExactCut done fs → total (λ s. h (extent_of (spelled i s))) (place_all p fs) + h (record { start = p + span done; bytes = aligned next; cut = next }) ≤ total h (extents p (done ++ next ∷ more))
placed_next i h p [] next more [] x = let e : h (record { start = p + 0; bytes = aligned next; cut = next }) ≡ h (record { start = p; bytes = aligned next; cut = next }) = ap (λ (n : ℕ). h (record { start = n; bytes = aligned next; cut = next })) (let z : p + 0 ≡ p = omega arith in z) in omega arith
placed_next i h p [] next more (f ∷ fs) x = absurd x
placed_next i h p (c ∷ done) next more [] x = absurd x
placed_next i h p (c ∷ done) next more (f ∷ fs) x =
    let one : h (extent_of (spelled i (record { at = p; frame = f }))) ≡ h (record { start = p; bytes = aligned c; cut = c }) = ap h (extent_spelled i p f ∙ ap (λ (n : ℕ). record { start = p; bytes = aligned n; cut = n }) x.0) in
    let r = placed_next i h (p + aligned c) done next more fs x.1 in
    let same : total (λ s. h (extent_of (spelled i s))) (place_all (p + aligned (frame_length f)) fs) ≡ total (λ s. h (extent_of (spelled i s))) (place_all (p + aligned c) fs) = ap (λ (n : ℕ). total (λ s. h (extent_of (spelled i s))) (place_all (p + aligned n) fs)) x.0 in
    let there : h (record { start = p + aligned c + span done; bytes = aligned next; cut = next }) ≡ h (record { start = p + (aligned c + span done); bytes = aligned next; cut = next }) = ap (λ (n : ℕ). h (record { start = n; bytes = aligned next; cut = next })) (let z : p + aligned c + span done ≡ p + (aligned c + span done) = omega arith in z) in
    omega arith

-- a cut is one of its extents
pub extent_counts : (h : Extent → ℕ) (p : ℕ) (done : List ℕ) (next : ℕ) (more : List ℕ) → h (record { start = p + span done; bytes = aligned next; cut = next }) ≤ total h (extents p (done ++ next ∷ more))
extent_counts h p [] next more = let e : h (record { start = p + 0; bytes = aligned next; cut = next }) ≡ h (record { start = p; bytes = aligned next; cut = next }) = ap (λ (n : ℕ). h (record { start = n; bytes = aligned next; cut = next })) (let z : p + 0 ≡ p = omega arith in z) in omega arith
extent_counts h p (c ∷ done) next more =
    let r = extent_counts h (p + aligned c) done next more in
    let there : h (record { start = p + aligned c + span done; bytes = aligned next; cut = next }) ≡ h (record { start = p + (aligned c + span done); bytes = aligned next; cut = next }) = ap (λ (n : ℕ). h (record { start = n; bytes = aligned next; cut = next })) (let z : p + aligned c + span done ≡ p + (aligned c + span done) = omega arith in z) in
    omega arith

-- over all entries
pub committed_total : (i : Identity) (h : FrameWords → ℕ) (es : List Entry) → total h (map (spelled i) (committed es)) ≡ total (λ e. total (λ s. h (spelled i s)) (place_all e.start e.frames)) es
committed_total i h es = total_map h (spelled i) (committed es) ∙ total_flat (λ s. h (spelled i s)) (λ (e : Entry). place_all e.start e.frames) es

-- sums that one of the list raises
pub total_less : {A : Type 0} (f g : A → ℕ) (xs : List A) (x : A) (n : ℕ) → ((y : A) → Among y xs → f y ≤ g y) → Among x xs → f x + n ≤ g x → total f xs + n ≤ total g xs
total_less f g [] x n le a more = absurd a
total_less f g (y ∷ ys) x n le (inl e) more = let one : f y + n ≤ g y = subst (λ z. f z + n ≤ g z) e more in let r = all_less f g ys (λ z a. le z (inr a)) in omega arith
  where
    all_less : {A : Type 0} (f g : A → ℕ) (xs : List A) → ((y : A) → Among y xs → f y ≤ g y) → total f xs ≤ total g xs
    all_less f g [] le = omega arith
    all_less f g (z ∷ zs) le = let a = le z (inl refl) in let r = all_less f g zs (λ y b. le y (inr b)) in omega arith
total_less f g (y ∷ ys) x n le (inr a) more = let one = le y (inl refl) in let r = total_less f g ys x n (λ z b. le z (inr b)) a more in omega arith

pub total_among : {A : Type 0} (f g : A → ℕ) (xs : List A) → ((x : A) → Among x xs → f x ≡ g x) → total f xs ≡ total g xs
total_among f g [] same = refl
total_among f g (x ∷ xs) same = let a = same x (inl refl) in let r = total_among f g xs (λ y b. same y (inr b)) in omega arith
