-- A position that a consumer reached lies inside no stored frame.
use Rattle.std.proofs.Common.{◌≡◌, ℕ, ◌<◌, ◌≤◌, inl, inr, ⊎_elim, List, [], ◌∷◌, true, false, refl, sym, ap, ◌∙◌, subst, arith}
use Rattle.std.specs.List.{AllByRecursion, list_any}
use Rattle.std.specs.Prelude.{nat_lt, map, ℤ, pos, negsuc}
use Rattle.std.proofs.lemmas.Bool.{cases_Bool, cond-true, cond-false, cases_lt, ltb-false, lt-ltb, and_from, both_ways}
use Rattle.theory.specs.Position.{Geometry}
use Rattle.theory.specs.Placed.{Placed, end_of, Among, Chain, IsReached}
use Rattle.theory.specs.Insert.{Head, head_of, Insert, CrossesTerm, Below, OverWindow, Duplicate, Overlap, Stored, insert_answer, overlaps, AreApart}
use Rattle.theory.specs.Image.{is_accepted, Image, after_insert, after_heartbeat, ImageEvent, Inserted, Heartbeat, Poll, Lose, ImageStep, ImageRun, image_at}
use Rattle.theory.specs.ImageLaws.{ImageAlways, IsApart, IsParted, AreParted}
use Rattle.theory.proofs.Lists.{all_at, all_from, any_here}
use Rattle.theory.proofs.Held.{apart_always, beat_stores, stored_only}
use Rattle.theory.proofs.Follow.{chain_le}

-- ---- frames are stored from the join on

pub stored_from : (g : Geometry) (frames : List Head) (m window : ℕ) (s : Head) → insert_answer g frames m window s ≡ Stored → m ≤ s.at
stored_from g frames m window s e = ltb-false s.at m (stored_only g frames m window s e).1

abbrev From : ℕ → List Placed → Type 0
From join frames = AllByRecursion (λ t. join ≤ t.at) frames

abbrev IsFrom : Image → Type 0
IsFrom i = From i.join i.stored

stores : (i : Image) (s : Placed) (a : Insert) → (a ≡ Stored → i.join ≤ s.at) → IsFrom i → IsFrom (after_insert i s a)
stores i s CrossesTerm f h = h
stores i s Below f h = h
stores i s OverWindow f h = h
stores i s Duplicate f h = h
stores i s Overlap f h = h
stores i s Stored f h = (f refl, h)

beat_joins : (g : Geometry) (i : Image) (least : ℕ) (p : ℤ) → (after_heartbeat g i least p).join ≡ i.join
beat_joins g i least (negsuc n) = refl
beat_joins g i least (pos p) =
    ⊎_elim
    (λ (t : is_accepted g i.high least p ≡ true). ap (λ (x : Image). x.join) (cond-true (is_accepted g i.high least p) (record i { high = p }) i t))
    (λ (f : is_accepted g i.high least p ≡ false). ap (λ (x : Image). x.join) (cond-false (is_accepted g i.high least p) (record i { high = p }) i f))
    (cases_Bool (is_accepted g i.high least p))

from_step : (g : Geometry) (given : List Placed) (old : Image) (e : ImageEvent) (new : Image) → IsFrom old → ImageStep g given old e new → IsFrom new
from_step g given old (Inserted least s) new k h =
    let low : old.join ≤ least = h.1.low in
    subst IsFrom (sym h.2) (stores old s (insert_answer g (map head_of old.stored) least old.window (head_of s)) (λ e. let from : least ≤ s.at = stored_from g (map head_of old.stored) least old.window (head_of s) e in omega arith) k)
from_step g given old (Heartbeat least p) new k h = subst IsFrom (sym h.1) (subst (λ j. From j (after_heartbeat g old least p).stored) (sym (beat_joins g old least p)) (beat_stores (From old.join) g old least p k))
from_step g given old (Poll which past) new k h = subst IsFrom (sym h.4) k
from_step g given old (Lose which past) new k h = subst IsFrom (sym h.3) k

from_run : (g : Geometry) (given : List Placed) (events : List ImageEvent) (old new : Image) → IsFrom old → ImageRun g given old events new → IsFrom new
from_run g given [] old new k h = subst IsFrom (sym h) k
from_run g given (e ∷ es) old new k h = from_run g given es h.0 new (from_step g given old e h.0 k h.1) h.2

-- ---- frames that meet are one

overlap : (s t : Placed) → s.at < end_of t → t.at < end_of s → overlaps (head_of s) (head_of t) ≡ true
overlap s t l m = and_from (nat_lt s.at (end_of t)) (nat_lt t.at (end_of s)) (lt-ltb s.at (end_of t) l) (lt-ltb t.at (end_of s) m)

pub one_frame : (frames : List Placed) (s t : Placed) → AreApart (map head_of frames) → Among s frames → Among t frames → s.at < end_of t → t.at < end_of s → s ≡ t
one_frame [] s t apart a b l m = absurd a
one_frame (u ∷ us) s t apart (inl e) (inl f) l m = e ∙ sym f
one_frame (u ∷ us) s t apart (inl e) (inr b) l m = absurd (both_ways (list_any (overlaps (head_of u)) (map head_of us)) apart.0 (any_here (overlaps (head_of u)) head_of t us b (subst (λ x. overlaps (head_of x) (head_of t) ≡ true) e (overlap s t l m))))
one_frame (u ∷ us) s t apart (inr a) (inl f) l m = absurd (both_ways (list_any (overlaps (head_of u)) (map head_of us)) apart.0 (any_here (overlaps (head_of u)) head_of s us a (subst (λ x. overlaps (head_of x) (head_of s) ≡ true) f (overlap t s m l))))
one_frame (u ∷ us) s t apart (inr a) (inr b) l m = one_frame us s t apart.1 a b l m

-- ---- what was read covers each position

pub record IsCovered (read : List Placed) (p q : ℕ) : Type 0 where
  pub frame : Placed
  pub among : Among frame read
  pub from : frame.at ≤ p
  pub to : p < end_of frame
  pub end : end_of frame ≤ q

pub is_covered : (j q p : ℕ) (read : List Placed) → Chain j q read → j ≤ p → p < q → IsCovered read p q
is_covered j q p [] c l m = absurd (omega (arith, c))
is_covered j q p (s ∷ ss) c l m =
    let at : s.at ≡ j = c.0 in
    ⊎_elim
    (λ (k : p < end_of s). record { frame = s; among = inl refl; from = omega arith; to = k; end = chain_le (end_of s) q ss c.1 })
    (λ (k : end_of s ≤ p). let r : IsCovered ss p q = is_covered (end_of s) q p ss c.1 k m in record { frame = r.frame; among = inr r.among; from = r.from; to = r.to; end = r.end })
    (cases_lt p (end_of s))

parted : (i : Image) (g : Geometry) → IsApart g i → IsFrom i → (m : ℕ) → IsReached i.stored i.join m → AreParted m i.stored
parted i g apart from m reached = all_from (λ t. t.at < m → end_of t ≤ m) i.stored at
  where
    at : (t : Placed) → Among t i.stored → t.at < m → end_of t ≤ m
    at t a l =
        let low : i.join ≤ t.at = all_at (λ x. i.join ≤ x.at) t i.stored from a in
        let c : IsCovered reached.read t.at m = is_covered i.join m t.at reached.read reached.chain low l in
        let end : end_of c.frame ≤ m = c.end in
        let begins : c.frame.at ≤ t.at = c.from in
        let beyond : t.at < end_of c.frame = c.to in
        ⊎_elim
        (λ (k : t.at < end_of t). let same : c.frame ≡ t = one_frame i.stored c.frame t apart (all_at (λ x. Among x i.stored) c.frame reached.read reached.among c.among) a (omega arith) beyond in subst (λ x. end_of x ≤ m) same end)
        (λ (k : end_of t ≤ t.at). omega arith)
        (cases_lt t.at (end_of t))

pub parted_always : ImageAlways IsParted
parted_always g given join window consumers events i run = λ m reached. parted i g (apart_always g given join window consumers events i run) (from_run g given events (image_at join window consumers) i tt run) m reached
