-- An image may forget the frames below its least consumer: what it answers and where it is rebuilt stay the same.
use Rattle.std.proofs.Common.{◌≡◌, ℕ, ◌+◌, ◌-◌, ◌*◌, ◌%◌, ◌<◌, ◌≤◌, ◌⊎◌, inl, inr, ⊎_elim, List, [], ◌∷◌, Bool, true, false, cond, refl, sym, ap, ◌∙◌, subst, min, arith}
use Rattle.std.specs.List.{AllByRecursion, list_any}
use Rattle.std.specs.Prelude.{nat_le, nat_lt, nat_eq, ◌||◌, ◌&&◌, map, ℤ, pos, negsuc}
use Rattle.std.proofs.lemmas.Bool.{cases_Bool, cases_lt, ltb-true, ltb-false, eqb-true, cond-true, cond-false, le-leb, and_parts, false_from_ne_true, both_ways, leb-true}
use Rattle.theory.specs.Position.{Geometry, max_position, aligned}
use Rattle.theory.specs.Placed.{Placed, covered, end_of, Among, is_padding, frame_length}
use Rattle.theory.specs.Units.{HasUnit, IsContiguous}
use Rattle.theory.specs.Insert.{Head, head_of, head_end, Insert, CrossesTerm, Below, OverWindow, Duplicate, Overlap, Stored, insert_answer, is_duplicate, overlaps, same_kind, window_end, AreApart}
use Rattle.theory.specs.Image.{after_heartbeat, is_accepted, Image, after_insert, is_accepted, ImageEvent, Inserted, Heartbeat, Poll, Lose, ImageStep, ImageRun, image_at}
use Rattle.theory.specs.ImageLaws.{ImageAlways, IsApart, held, AreParted, ReachesWithout}
use Rattle.theory.proofs.Lists.{all_at}

-- a test that no frame below m passes has the same answer over the frames held
any_held : (test : Head → Bool) (m : ℕ) (frames : List Placed) → AllByRecursion (λ t. (test (head_of t) ≡ false) ⊎ (m ≤ t.at)) frames → list_any test (map head_of frames) ≡ list_any test (map head_of (held m frames))
any_held test m [] h = refl
any_held test m (t ∷ ts) h =
    ⊎_elim
    (λ (y : nat_le m t.at ≡ true). ap (λ b. test (head_of t) || b) (any_held test m ts h.1) ∙ sym (ap (λ x. list_any test (map head_of x)) (cond-true (nat_le m t.at) (t ∷ held m ts) (held m ts) y)))
    (λ (n : nat_le m t.at ≡ false).
    let fails : test (head_of t) ≡ false = ⊎_elim (λ (f : test (head_of t) ≡ false). f) (λ (l : m ≤ t.at). absurd (both_ways (nat_le m t.at) n (le-leb m t.at l))) h.0 in
    ap (λ b. b || list_any test (map head_of ts)) fails ∙ any_held test m ts h.1 ∙ sym (ap (λ x. list_any test (map head_of x)) (cond-false (nat_le m t.at) (t ∷ held m ts) (held m ts) n)))
    (cases_Bool (nat_le m t.at))

parted_tests : (test : Head → Bool) (m : ℕ) (frames : List Placed) → ((t : Placed) → t.at < m → end_of t ≤ m → test (head_of t) ≡ false) → AreParted m frames → AllByRecursion (λ t. (test (head_of t) ≡ false) ⊎ (m ≤ t.at)) frames
parted_tests test m [] f h = tt
parted_tests test m (t ∷ ts) f h = (⊎_elim (λ (l : t.at < m). inl (f t l (h.0 l))) (λ (l : m ≤ t.at). inr l) (cases_lt t.at m), parted_tests test m ts f h.1)

pub answer_held : (g : Geometry) (frames : List Placed) (m window : ℕ) (s : Head) → AreParted m frames → insert_answer g (map head_of frames) m window s ≡ insert_answer g (map head_of (held m frames)) m window s
answer_held g frames m window s parted =
    ⊎_elim
    (λ (low : nat_lt s.at m ≡ true). below (nat_lt g.term_length (s.at % g.term_length + aligned s.length)) low)
    (λ (high : nat_lt s.at m ≡ false).
    let from : m ≤ s.at = ltb-false s.at m high in
    let dup : list_any (is_duplicate s) (map head_of frames) ≡ list_any (is_duplicate s) (map head_of (held m frames)) = any_held (is_duplicate s) m frames (parted_tests (is_duplicate s) m frames (λ t b l. not_duplicate t b from) parted) in
    let over : list_any (overlaps s) (map head_of frames) ≡ list_any (overlaps s) (map head_of (held m frames)) = any_held (overlaps s) m frames (parted_tests (overlaps s) m frames (λ t b l. no_overlap t l from) parted) in
    ap (λ d. answer d (list_any (overlaps s) (map head_of frames))) dup ∙ ap (answer (list_any (is_duplicate s) (map head_of (held m frames)))) over)
    (cases_Bool (nat_lt s.at m))
  where
    answer : Bool → Bool → Insert
    answer dup over =
        cond (nat_lt g.term_length (s.at % g.term_length + aligned s.length)) CrossesTerm (cond (nat_lt s.at m) Below (cond (nat_lt (min (m + window) (max_position g)) (window_end s)) OverWindow (cond dup Duplicate (cond over Overlap Stored))))

    below : (c : Bool) → nat_lt s.at m ≡ true → cond c CrossesTerm (cond (nat_lt s.at m) Below (cond (nat_lt (min (m + window) (max_position g)) (window_end s)) OverWindow (cond (list_any (is_duplicate s) (map head_of frames)) Duplicate (cond (list_any (overlaps s) (map head_of frames)) Overlap Stored)))) ≡ cond c CrossesTerm (cond (nat_lt s.at m) Below (cond (nat_lt (min (m + window) (max_position g)) (window_end s)) OverWindow (cond (list_any (is_duplicate s) (map head_of (held m frames))) Duplicate (cond (list_any (overlaps s) (map head_of (held m frames))) Overlap Stored))))
    below c low = rw low refl

    not_duplicate : (t : Placed) → t.at < m → m ≤ s.at → is_duplicate s (head_of t) ≡ false
    not_duplicate t l from = false_from_ne_true (is_duplicate s (head_of t)) (λ y. let ends = and_parts (nat_eq s.at t.at && same_kind s.padding (is_padding t.frame)) (nat_eq s.length (frame_length t.frame)) y in let same : s.at ≡ t.at = eqb-true s.at t.at (and_parts (nat_eq s.at t.at) (same_kind s.padding (is_padding t.frame)) ends.0).0 in absurd (omega arith))

    no_overlap : (t : Placed) → end_of t ≤ m → m ≤ s.at → overlaps s (head_of t) ≡ false
    no_overlap t l from = false_from_ne_true (overlaps s (head_of t)) (λ y. let before : s.at < end_of t = ltb-true s.at (end_of t) (and_parts (nat_lt s.at (end_of t)) (nat_lt t.at (head_end s)) y).0 in absurd (omega arith))

-- ---- the contiguous end, counted from m

-- the frames from m on are the frames that begin there
pub held_among : (m : ℕ) (frames : List Placed) (t : Placed) → Among t frames → m ≤ t.at → Among t (held m frames)
held_among m [] t a l = absurd a
held_among m (u ∷ us) t (inl e) l =
    let at : t.at ≡ u.at = ap (λ x. x.at) e in
    subst (Among t) (sym (cond-true (nat_le m u.at) (u ∷ held m us) (held m us) (le-leb m u.at (omega arith)))) (inl e)
held_among m (u ∷ us) t (inr a) l =
    ⊎_elim
    (λ (y : nat_le m u.at ≡ true). subst (Among t) (sym (cond-true (nat_le m u.at) (u ∷ held m us) (held m us) y)) (inr (held_among m us t a l)))
    (λ (n : nat_le m u.at ≡ false). subst (Among t) (sym (cond-false (nat_le m u.at) (u ∷ held m us) (held m us) n)) (held_among m us t a l))
    (cases_Bool (nat_le m u.at))

pub among_held : (m : ℕ) (frames : List Placed) (t : Placed) → Among t (held m frames) → Among t frames × (m ≤ t.at)
among_held m [] t a = absurd a
among_held m (u ∷ us) t a =
    ⊎_elim
    (λ (y : nat_le m u.at ≡ true).
    ⊎_elim
    (λ (e : t ≡ u). (inl e, subst (λ (x : Placed). m ≤ x.at) (sym e) (leb-true m u.at y)))
    (λ (b : Among t (held m us)). let h = among_held m us t b in (inr h.0, h.1))
    (subst (Among t) (cond-true (nat_le m u.at) (u ∷ held m us) (held m us) y) a))
    (λ (n : nat_le m u.at ≡ false). let h = among_held m us t (subst (Among t) (cond-false (nat_le m u.at) (u ∷ held m us) (held m us) n) a) in (inr h.0, h.1))
    (cases_Bool (nat_le m u.at))

unit_held : (m p : ℕ) (frames : List Placed) → AreParted m frames → m ≤ p → HasUnit frames p → HasUnit (held m frames) p
unit_held m p frames parted l u =
    let inside : 32 * u.unit < covered u.frame = u.inside in
    let here : p ≡ u.frame.at + 32 * u.unit = u.here in
    let side : u.frame.at < m → end_of u.frame ≤ m = all_at (λ t. t.at < m → end_of t ≤ m) u.frame frames parted u.among in
    let from : m ≤ u.frame.at = ⊎_elim (λ (b : u.frame.at < m). let end : end_of u.frame ≤ m = side b in absurd (omega arith)) (λ (b : m ≤ u.frame.at). b) (cases_lt u.frame.at m) in
    record { frame = u.frame; among = held_among m frames u.frame u.among from; unit = u.unit; inside = inside; here = here }

-- what is kept from m on has the same contiguous end
pub contiguous_held : (frames : List Placed) (j q passed : ℕ) → (m : ℕ) → m ≡ j + 32 * passed → m ≤ q → AreParted m frames → IsContiguous frames j q → IsContiguous (held m frames) m q
contiguous_held frames j q passed m e le parted c =
    let end : q ≡ j + 32 * c.units = c.end in
    record {
      units = c.units - passed;
      end = omega arith;
      all = λ k l. let same : j + 32 * (passed + k) ≡ m + 32 * k = omega arith in subst (λ x. HasUnit (held m frames) x) same (unit_held m (j + 32 * (passed + k)) frames parted (omega arith) (c.all (passed + k) (omega arith)));
      next = λ u. c.next (record { frame = u.frame; among = (among_held m frames u.frame u.among).0; unit = u.unit; inside = u.inside; here = u.here });
    }

-- ---- whatever frames come, those that are stored lie apart

-- what the answer Stored says of each test
pub stored_only : (g : Geometry) (frames : List Head) (m window : ℕ) (s : Head) → insert_answer g frames m window s ≡ Stored → (nat_lt g.term_length (s.at % g.term_length + aligned s.length) ≡ false) × (nat_lt s.at m ≡ false) × (nat_lt (min (m + window) (max_position g)) (window_end s) ≡ false) × (list_any (is_duplicate s) frames ≡ false) × (list_any (overlaps s) frames ≡ false)
stored_only g frames m window s e =
    none (nat_lt g.term_length (s.at % g.term_length + aligned s.length)) (nat_lt s.at m) (nat_lt (min (m + window) (max_position g)) (window_end s)) (list_any (is_duplicate s) frames) (list_any (overlaps s) frames) e
  where
    none : (crosses below over dup meets : Bool) → cond crosses CrossesTerm (cond below Below (cond over OverWindow (cond dup Duplicate (cond meets Overlap Stored)))) ≡ Stored → (crosses ≡ false) × (below ≡ false) × (over ≡ false) × (dup ≡ false) × (meets ≡ false)
    none true below over dup meets h = absurd (cc)
    none false true over dup meets h = absurd (cc)
    none false false true dup meets h = absurd (cc)
    none false false false true meets h = absurd (cc)
    none false false false false true h = absurd (cc)
    none false false false false false h = (refl, refl, refl, refl, refl)

-- what starts before position 0 is never stored
pub not_stored : (c : Bool) → cond c CrossesTerm Below ≡ Stored → ⊥
not_stored true e = cc
not_stored false e = cc

pub stored_apart : (g : Geometry) (frames : List Head) (m window : ℕ) (s : Head) → insert_answer g frames m window s ≡ Stored → list_any (overlaps s) frames ≡ false
stored_apart g frames m window s e = (stored_only g frames m window s e).4

abbrev pub AreStoredApart : Image → Type 0
AreStoredApart i = AreApart (map head_of i.stored)

keeps_apart : (i : Image) (s : Placed) (a : Insert) → (a ≡ Stored → list_any (overlaps (head_of s)) (map head_of i.stored) ≡ false) → AreStoredApart i → AreStoredApart (after_insert i s a)
keeps_apart i s CrossesTerm f h = h
keeps_apart i s Below f h = h
keeps_apart i s OverWindow f h = h
keeps_apart i s Duplicate f h = h
keeps_apart i s Overlap f h = h
keeps_apart i s Stored f h = (f refl, h)

-- a heartbeat stores nothing
pub beat_stores : (P : List Placed → Type 0) (g : Geometry) (i : Image) (least : ℕ) (p : ℤ) → P i.stored → P (after_heartbeat g i least p).stored
beat_stores P g i least (negsuc n) h = h
beat_stores P g i least (pos p) h =
    ⊎_elim
    (λ (t : is_accepted g i.high least p ≡ true). subst (λ (x : Image). P x.stored) (sym (cond-true (is_accepted g i.high least p) (record i { high = p }) i t)) h)
    (λ (f : is_accepted g i.high least p ≡ false). subst (λ (x : Image). P x.stored) (sym (cond-false (is_accepted g i.high least p) (record i { high = p }) i f)) h)
    (cases_Bool (is_accepted g i.high least p))

pub apart_step : (g : Geometry) (given : List Placed) (old : Image) (e : ImageEvent) (new : Image) → AreStoredApart old → ImageStep g given old e new → AreStoredApart new
apart_step g given old (Inserted least s) new k h = subst AreStoredApart (sym h.2) (keeps_apart old s (insert_answer g (map head_of old.stored) least old.window (head_of s)) (stored_apart g (map head_of old.stored) least old.window (head_of s)) k)
apart_step g given old (Heartbeat least p) new k h = subst AreStoredApart (sym h.1) (beat_stores (λ x. AreApart (map head_of x)) g old least p k)
apart_step g given old (Poll which past) new k h = subst AreStoredApart (sym h.4) k
apart_step g given old (Lose which past) new k h = subst AreStoredApart (sym h.3) k

apart_run : (g : Geometry) (given : List Placed) (events : List ImageEvent) (old new : Image) → AreStoredApart old → ImageRun g given old events new → AreStoredApart new
apart_run g given [] old new k h = subst AreStoredApart (sym h) k
apart_run g given (e ∷ es) old new k h = apart_run g given es h.0 new (apart_step g given old e h.0 k h.1) h.2

pub apart_always : ImageAlways IsApart
apart_always g given join window consumers events i run = apart_run g given events (image_at join window consumers) i tt run

pub reaches_without : ReachesWithout
reaches_without frames j q m passed e le parted c = contiguous_held frames j q passed m e le parted c
