-- The committed frames of a pass are those of the entries that it shows.
use Rattle.std.proofs.Common.{◌≡◌, ◌∙◌, ℕ, ◌+◌, ◌-◌, ◌*◌, ◌/◌, ◌<◌, ◌≤◌, inl, inr, ⊎_elim, max, Bool, true, false, cond, List, [], ◌∷◌, map, refl, sym, ap, subst, lt_of_not-le, div-mul-le_self, arith}
use mathlib.Core.Logic.{dite}
use native.Mathlib.Decide.{dec_le}
use Rattle.std.specs.Prelude.{◌&&◌, nat_le}
use Rattle.std.specs.List.{AllByRecursion, filter}
use Rattle.std.proofs.lemmas.Bool.{le-leb}
use Rattle.theory.specs.Position.{aligned, span}
use Rattle.theory.specs.Placed.{Among, Placed, frame_length, place_all}
use Rattle.theory.specs.Entry.{Entry, committed, entry_end}
use Rattle.theory.specs.Tiling.{Tiles}
use Rattle.theory.proofs.Lists.{among_cases, among_left, among_right}
use Rattle.publication.specs.declared.pass.ClaimRange.{ClaimRange}
use Rattle.publication.specs.declared.pass.FrameWords.{FrameWords}
use Rattle.publication.specs.Contents.{frame_in}
use Rattle.one_hand.specs.Stream.{kept_from}
use Rattle.one_hand.specs.Shown.{Chained, Follow, end_of, entry_in, lies_in, spans}
use Rattle.one_hand.proofs.Forgetting.{among_kept}

-- ---- lists

abbrev pub placed_of : FrameWords → Placed
placed_of f = record { at = f.start; frame = frame_in f }

place_chained : (p : ℕ) (fs : List FrameWords) → Chained p fs → place_all p (map frame_in fs) ≡ map placed_of fs
place_chained p [] h = refl
place_chained p (f ∷ fs) h = λ j. record { at = sym h.0 j; frame = frame_in f } ∷ place_chained (p + aligned (frame_length (frame_in f))) fs h.1 j

of_filter : {X : Type 0} (test : X → Bool) (xs : List X) (x : X) → Among x (filter test xs) → Among x xs
of_filter test [] x a = a
of_filter test (y ∷ ys) x a = by (of_filter test ys x) (test y) a
  where
    by : (Among x (filter test ys) → Among x ys) → (b : Bool) → Among x (cond b (y ∷ filter test ys) (filter test ys)) → Among x (y ∷ ys)
    by more true (inl same) = inl same
    by more true (inr h) = inr (more h)
    by more false h = inr (more h)

in_filter : {X : Type 0} (test : X → Bool) (xs : List X) (x : X) → Among x xs → test x ≡ true → Among x (filter test xs)
in_filter test [] x a is = a
in_filter test (y ∷ ys) x (inl same) is = subst (λ (b : Bool). Among x (cond b (y ∷ filter test ys) (filter test ys))) (sym is ∙ ap test same) (inl same)
in_filter test (y ∷ ys) x (inr a) is = more (test y) (in_filter test ys x a is)
  where
    more : (b : Bool) → Among x (filter test ys) → Among x (cond b (y ∷ filter test ys) (filter test ys))
    more true h = inr h
    more false h = h

in_map : {X Y : Type 0} (f : X → Y) (xs : List X) (x : X) → Among x xs → Among (f x) (map f xs)
in_map f [] x a = a
in_map f (y ∷ ys) x (inl same) = inl (ap f same)
in_map f (y ∷ ys) x (inr a) = inr (in_map f ys x a)

of_map : {X Y : Type 0} (f : X → Y) (xs : List X) (y : Y) → Among y (map f xs) → (x : X) × Among x xs × (y ≡ f x)
of_map f [] y a = absurd a
of_map f (x ∷ xs) y (inl same) = (x, inl refl, same)
of_map f (x ∷ xs) y (inr a) = let h = of_map f xs y a in (h.0, inr h.1, h.2)

-- ---- from the entries to the frames

in_committed : (es : List Entry) (e : Entry) (s : Placed) → Among e es → Among s (place_all e.start e.frames) → Among s (committed es)
in_committed [] e s a h = absurd a
in_committed (d ∷ es) e s (inl same) h = among_left s (place_all d.start d.frames) (committed es) (subst (λ (x : Entry). Among s (place_all x.start x.frames)) same h)
in_committed (d ∷ es) e s (inr a) h = among_right s (place_all d.start d.frames) (committed es) (in_committed es e s a h)

kept_committed : (z : ℕ) (es : List Entry) (s : Placed) → Among s (committed (kept_from z es)) → Among s (committed es)
kept_committed z [] s a = a
kept_committed z (d ∷ es) s a = by (kept_committed z es s) (nat_le z d.start) a
  where
    by : (Among s (committed (kept_from z es)) → Among s (committed es)) → (b : Bool) → Among s (committed (cond b (d ∷ kept_from z es) (kept_from z es))) → Among s (committed (d ∷ es))
    by more true h = ⊎_elim (λ (x : Among s (place_all d.start d.frames)). among_left s (place_all d.start d.frames) (committed es) x) (λ (x : Among s (committed (kept_from z es))). among_right s (place_all d.start d.frames) (committed es) (more x)) (among_cases s (place_all d.start d.frames) (committed (kept_from z es)) h)
    by more false h = among_right s (place_all d.start d.frames) (committed es) (more h)

all_from_frames : (frames : List FrameWords) (cs : List ClaimRange) → AllByRecursion (λ c. Chained c.start (filter (lies_in c) frames)) cs → (s : Placed) → Among s (committed (map (entry_in frames) cs)) → (f : FrameWords) × Among f frames × (s ≡ placed_of f)
all_from_frames frames [] h s a = absurd a
all_from_frames frames (c ∷ cs) h s a = ⊎_elim
    (λ (x : Among s (place_all c.start (map frame_in (filter (lies_in c) frames)))). let g = of_map placed_of (filter (lies_in c) frames) s (subst (Among s) (place_chained c.start (filter (lies_in c) frames) h.0) x) in (g.0, of_filter (lies_in c) frames g.0 g.1, g.2))
    (λ (x : Among s (committed (map (entry_in frames) cs))). all_from_frames frames cs h.1 s x)
    (among_cases s (place_all c.start (map frame_in (filter (lies_in c) frames))) (committed (map (entry_in frames) cs)) a)

-- each committed frame that the stream has is one of the pass
pub from_frames : (z : ℕ) (frames : List FrameWords) (cs : List ClaimRange) → AllByRecursion (λ c. Chained c.start (filter (lies_in c) frames)) cs → (s : Placed) → Among s (committed (kept_from z (map (entry_in frames) cs))) → (f : FrameWords) × Among f frames × (s ≡ placed_of f)
from_frames z frames cs h s a = all_from_frames frames cs h s (kept_committed z (map (entry_in frames) cs) s a)

-- ---- from the frames to the entries

claim_at : (p : ℕ) (cs : List ClaimRange) → Follow p cs → (x : ℕ) → p ≤ x → x < p + spans cs → (c : ClaimRange) × Among c cs × (c.start ≤ x) × (x < end_of c) × (p ≤ c.start)
claim_at p [] follow x from to = absurd (omega arith)
claim_at p (c ∷ cs) follow x from to = let at : c.start ≡ p = follow.0 in dite (dec_le (p + span c.cuts) x)
    (λ far. let h = claim_at (p + span c.cuts) cs follow.2 x far (omega arith) in (h.0, inr h.1, h.2, h.3, (let up = h.4 in omega arith)))
    (λ near. (c, inl refl, omega arith, (let l = lt_of_not-le near in omega arith), omega arith))

chained_at : (frames : List FrameWords) (cs : List ClaimRange) → AllByRecursion (λ c. Chained c.start (filter (lies_in c) frames)) cs → (c : ClaimRange) → Among c cs → Chained c.start (filter (lies_in c) frames)
chained_at frames [] h c a = absurd a
chained_at frames (d ∷ cs) h c (inl same) = subst (λ (x : ClaimRange). Chained x.start (filter (lies_in x) frames)) (sym same) h.0
chained_at frames (d ∷ cs) h c (inr a) = chained_at frames cs h.1 c a

in_one_term : (t p q : ℕ) (es : List Entry) → Tiles t p q es → (e : Entry) → Among e es → entry_end e ≤ e.start + t
in_one_term t p q [] tiles e a = absurd a
in_one_term t p q (d ∷ es) tiles e (inl same) = let at : d.start ≡ p = tiles.0 in let one : entry_end d ≤ p / t * t + t = tiles.1 in let low : p / t * t ≤ p = div-mul-le_self p t in let is : e.start ≡ d.start = ap (λ (x : Entry). x.start) same in let ends : entry_end e ≡ entry_end d = ap entry_end same in omega arith
in_one_term t p q (d ∷ es) tiles e (inr a) = in_one_term t (entry_end d) q es tiles.2 e a

-- a frame of the pass that begins where a consumer stands, or above it, is one of those that the stream has
pub to_stream : (z t start first tail x : ℕ) (frames : List FrameWords) (cs : List ClaimRange) → Follow start cs → AllByRecursion (λ c. Chained c.start (filter (lies_in c) frames)) cs → Tiles t first tail (map (entry_in frames) cs) → z ≤ max start (x - t) → (f : FrameWords) → Among f frames → x ≤ f.start → start ≤ f.start → f.start < start + spans cs
    → Among (placed_of f) (committed (kept_from z (map (entry_in frames) cs)))
to_stream z t start first tail x frames cs follow chained tiles low f among at from to =
    let c = claim_at start cs follow f.start from to in let e : Entry = entry_in frames c.0 in
    let there : Among e (map (entry_in frames) cs) = in_map (entry_in frames) cs c.0 c.1 in let short : entry_end e ≤ e.start + t = in_one_term t first tail (map (entry_in frames) cs) tiles e there in
    let inside : lies_in c.0 f ≡ true = (λ j. le-leb c.0.start f.start c.2 j && le-leb (f.start + 1) (end_of c.0) (let l = c.3 in omega arith) j) in
    let above : z ≤ e.start = (let l = c.3 in let up = c.4 in omega arith) in
    in_committed (kept_from z (map (entry_in frames) cs)) e (placed_of f) (among_kept z (map (entry_in frames) cs) e there above)
    (subst (Among (placed_of f)) (sym (place_chained c.0.start (filter (lies_in c.0) frames) (chained_at frames cs chained c.0 c.1))) (in_map placed_of (filter (lies_in c.0) frames) f (in_filter (lies_in c.0) frames f among inside)))
