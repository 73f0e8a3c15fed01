-- What becomes of a frame.
use Rattle.std.proofs.Common.{◌≡◌, ℕ, ◌+◌, ◌-◌, ◌/◌, ◌%◌, ◌<◌, ◌≤◌, min, max, ⊎_elim, List, map, Bool, true, false, cond, refl, sym, ap, ◌∙◌, subst, arith}
use Rattle.std.specs.Prelude.{nat_lt, IsTrue, ◌↔◌}
use Rattle.std.specs.List.{list_any}
use Rattle.std.proofs.lemmas.Bool.{and_from, and_left, and_right, both_ways, cases_Bool, cases_lt, le-ltb, lt-ltb}
use Rattle.theory.specs.Insert.{Below, CrossesTerm, Duplicate, Head, Insert, OverWindow, Overlap, Stored, head_end, head_of, insert_answer, is_duplicate, overlaps, window_end}
use Rattle.theory.specs.Placed.{Among, Data, Frame, Pad, Placed, covered, end_of}
use Rattle.theory.specs.Units.{HasUnit}
use Rattle.theory.proofs.Lists.{all_at, any_here}
use Rattle.theory.proofs.Parted.{one_frame}
use Rattle.theory.specs.Position.{Geometry, aligned, max_position}
use Rattle.position.specs.declared.head.FrameHead.{FrameHead}
use Rattle.position.specs.Heads as heads
use Rattle.image.specs.Kinds.{head_at}
use Rattle.image.proofs.Likes.{like_none, like_only}
use Rattle.image.proofs.Heads.{head_like, is_like}
use Rattle.image.proofs.Lists.{none_here}
use Rattle.image_rule.specs.Frames.{HasStart}
use Rattle.image.specs.Rebuilding.{AreLaid}

-- ---- the first that applies

abbrev chain : Bool → Bool → Bool → Bool → Bool → Insert
chain crosses below over dup meets = cond crosses CrossesTerm (cond below Below (cond over OverWindow (cond dup Duplicate (cond meets Overlap Stored))))

is_last : (crosses below over dup meets : Bool) → crosses ≡ false → below ≡ false → over ≡ false → dup ≡ false → cond meets Overlap Stored ≡ chain crosses below over dup meets
is_last true below over dup meets a b c d = absurd (cc)
is_last false true over dup meets a b c d = absurd (cc)
is_last false false true dup meets a b c d = absurd (cc)
is_last false false false true meets a b c d = absurd (cc)
is_last false false false false meets a b c d = refl

is_again : (crosses below over dup meets : Bool) → crosses ≡ false → below ≡ false → over ≡ false → dup ≡ true → Duplicate ≡ chain crosses below over dup meets
is_again true below over dup meets a b c d = absurd (cc)
is_again false true over dup meets a b c d = absurd (cc)
is_again false false true dup meets a b c d = absurd (cc)
is_again false false false false meets a b c d = absurd (cc)
is_again false false false true meets a b c d = refl

-- ---- whether a frame is like another

pub full_at : (ss : List Placed) (s : Placed) → AreLaid ss → Among s ss → 0 < covered s
full_at ss s laid a = all_at (λ (x : Placed). 0 < covered x) s ss laid.full a

pub unit_at : (ss : List Placed) (s : Placed) → AreLaid ss → Among s ss → s.at % 32 ≡ 0
unit_at ss s laid a = all_at (λ (x : Placed). x.at % 32 ≡ 0) s ss laid.units a

-- at one start one frame was stored
pub one_there : (ss : List Placed) (s t : Placed) → AreLaid ss → Among s ss → Among t ss → s.at ≡ t.at → s ≡ t
one_there ss s t laid a b e = let f = full_at ss s laid a in let g = full_at ss t laid b in one_frame ss s t laid.apart a b (omega arith) (omega arith)

pub unlike : (start : ℕ) (padding : Bool) (n : ℕ) (ss : List Placed) → (HasStart ss start → ⊥) → false ≡ list_any (is_duplicate (record { at = start; padding = padding; length = n })) (map head_of ss)
unlike start padding n ss none = like_none start padding n ss (λ s. none record { frame = s.0; among = s.1; here = s.2 })

-- by the head of the frame that starts there
pub like : (start : ℕ) (padding : Bool) (n : ℕ) (ss : List Placed) (head : FrameHead) → AreLaid ss → HasStart ss start → ((s : Placed) → Among s ss → s.at ≡ start → head ≡ head_at start s.frame)
    → is_like padding n head ≡ list_any (is_duplicate (record { at = start; padding = padding; length = n })) (map head_of ss)
like start padding n ss head laid h is =
    ap (is_like padding n) (is h.frame h.among h.here) ∙ head_like start h.frame.frame padding n
    ∙ like_only start padding n ss h.frame (λ t b e. one_there ss h.frame t laid h.among b (h.here ∙ e)) h.among h.here

-- ---- whether a unit of it was stored

abbrev IsFree : List Placed → ℕ → ℕ → Type 0
IsFree ss from to = (p : ℕ) → from ≤ p → p < to → HasUnit ss p → ⊥

pub none_overlaps : (ss : List Placed) (h : Head) → AreLaid ss → h.at % 32 ≡ 0 → h.at < head_end h → IsFree ss h.at (head_end h) → list_any (overlaps h) (map head_of ss) ≡ false
none_overlaps ss h laid unit some free =
    none_here (overlaps h) head_of ss (λ t a.
    ⊎_elim
    (λ (l : h.at < end_of t). ⊎_elim (λ (k : t.at < head_end h). absurd (met t a l k)) (λ (k : head_end h ≤ t.at). and_right (nat_lt h.at (end_of t)) (nat_lt t.at (head_end h)) (le-ltb t.at (head_end h) k)) (cases_lt t.at (head_end h)))
    (λ (l : end_of t ≤ h.at). and_left (nat_lt h.at (end_of t)) (nat_lt t.at (head_end h)) (le-ltb h.at (end_of t) l))
    (cases_lt h.at (end_of t)))
  where
    met : (t : Placed) → Among t ss → h.at < end_of t → t.at < head_end h → ⊥
    met t a l k =
        let q : ℕ = max h.at t.at in let whole = unit_at ss t laid a in let full = full_at ss t laid a in
        free q (omega arith) (omega arith) record { frame = t; among = a; unit = (q - t.at) / 32; inside = omega arith; here = omega arith }

pub overlaps_none : (ss : List Placed) (h : Head) → list_any (overlaps h) (map head_of ss) ≡ false → IsFree ss h.at (head_end h)
overlaps_none ss h none p from to u =
    let here = u.here in let inside = u.inside in
    both_ways (list_any (overlaps h) (map head_of ss)) none (any_here (overlaps h) head_of u.frame ss u.among (and_from (nat_lt h.at (end_of u.frame)) (nat_lt u.frame.at (head_end h)) (lt-ltb h.at (end_of u.frame) (omega arith)) (lt-ltb u.frame.at (head_end h) (omega arith))))

-- what is found free overlaps none, and the rest does
pub free_said : (ss : List Placed) (h : Head) (end : ℕ) (free : Bool) → AreLaid ss → h.at % 32 ≡ 0 → h.at < head_end h → end ≡ head_end h → (IsTrue free ↔ IsFree ss h.at end) → cond free false true ≡ list_any (overlaps h) (map head_of ss)
free_said ss h end true laid unit some e said = sym (none_overlaps ss h laid unit some (subst (IsFree ss h.at) e (said.0 refl)))
free_said ss h end false laid unit some e said = ⊎_elim
    (λ (y : list_any (overlaps h) (map head_of ss) ≡ true). sym y)
    (λ (n : list_any (overlaps h) (map head_of ss) ≡ false). let f : false ≡ true = said.1 (subst (IsFree ss h.at) (sym e) (overlaps_none ss h n)) in absurd (cc))
    (cases_Bool (list_any (overlaps h) (map head_of ss)))

-- ---- what becomes of a frame that is near

pub answered : (g : Geometry) (ss : List Placed) (m window : ℕ) (h : Head) (free : Bool) → nat_lt g.term_length (h.at % g.term_length + aligned h.length) ≡ false → m ≤ h.at → window_end h ≤ min (m + window) (max_position g)
    → false ≡ list_any (is_duplicate h) (map head_of ss) → cond free false true ≡ list_any (overlaps h) (map head_of ss) → cond (cond free false true) Overlap Stored ≡ insert_answer g (map head_of ss) m window h
answered g ss m window h free inside from near dup meets =
    ap (λ (b : Bool). cond b Overlap Stored) meets
    ∙ is_last (nat_lt g.term_length (h.at % g.term_length + aligned h.length)) (nat_lt h.at m) (nat_lt (min (m + window) (max_position g)) (window_end h)) (list_any (is_duplicate h) (map head_of ss)) (list_any (overlaps h) (map head_of ss))
    inside (le-ltb h.at m from) (le-ltb (min (m + window) (max_position g)) (window_end h) near) (sym dup)

pub again : (g : Geometry) (ss : List Placed) (m window : ℕ) (h : Head) → nat_lt g.term_length (h.at % g.term_length + aligned h.length) ≡ false → m ≤ h.at → window_end h ≤ min (m + window) (max_position g)
    → true ≡ list_any (is_duplicate h) (map head_of ss) → Duplicate ≡ insert_answer g (map head_of ss) m window h
again g ss m window h inside from near dup =
    is_again (nat_lt g.term_length (h.at % g.term_length + aligned h.length)) (nat_lt h.at m) (nat_lt (min (m + window) (max_position g)) (window_end h)) (list_any (is_duplicate h) (map head_of ss)) (list_any (overlaps h) (map head_of ss))
    inside (le-ltb h.at m from) (le-ltb (min (m + window) (max_position g)) (window_end h) near) (sym dup)

pub head_shown : (p : ℕ) (f : Frame) → heads.head_of p f ≡ head_at p f
head_shown p (Data flags payload) = refl
head_shown p (Pad n) = refl
