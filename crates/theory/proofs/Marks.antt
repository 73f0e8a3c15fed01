-- The high-water mark of an image is bounded, whatever it is given.
use Rattle.std.proofs.Common.{◌≡◌, ℕ, ◌+◌, ◌*◌, ◌/◌, ◌^◌, ◌<◌, ◌≤◌, ◌⊎◌, inl, inr, ⊎_elim, List, [], ◌∷◌, ◌++◌, append-nil, ap, true, false, refl, sym, ◌∙◌, subst, arith}
use Rattle.std.specs.List.{AllByRecursion}
use Rattle.std.specs.Prelude.{nat_le, nat_lt, ◌&&◌, max, min, map, slice_get, slice_set, ℤ, pos, negsuc, Some}
use Rattle.std.proofs.lemmas.Bool.{cases_Bool, cases_lt, leb-true, le-leb, ltb-true, ltb-false, both_ways, cond-true, cond-false, and_parts}
use Rattle.std.proofs.lemmas.List.{append_assoc}
use Rattle.theory.specs.Position.{Geometry, max_position}
use Rattle.theory.specs.Placed.{Placed, end_of, Among}
use Rattle.theory.specs.Consumer.{Consumer, moved, passed_by}
use Rattle.theory.specs.Insert.{Insert, CrossesTerm, Below, OverWindow, Duplicate, Overlap, Stored, insert_answer, head_of}
use Rattle.theory.specs.Image.{Image, after_insert, is_accepted, after_heartbeat, IsLeast, ImageEvent, Inserted, Heartbeat, Poll, Lose, ImageStep, ImageRun, image_at}
use Rattle.theory.specs.ImageLaws.{ImageAlways, IsGreatestMark, IsHeard, IsMarked, IsNear, MarkIsGreatest}
use Rattle.theory.proofs.Lists.{all_append, all_weaker, all_get, all_set, among_left, among_right}

abbrev Within : Geometry → ℕ → List Consumer → Type 0
Within g high consumers = AllByRecursion (λ r. high ≤ r.at + 3 * g.term_length / 4) consumers

abbrev Reached : Geometry → ℕ → ℕ → List Placed → List Consumer → Type 0
Reached g high join stored consumers = (high ≡ join) ⊎ (((s : Placed) × Among s stored × (high ≡ end_of s)) ⊎ Within g high consumers)

one_more : (g : Geometry) (high join most : ℕ) (s : Placed) (stored : List Placed) (consumers : List Consumer) → most ≡ high → Reached g high join stored consumers → Reached g most join (s ∷ stored) consumers
one_more g high join most s stored consumers e (inl h) = inl (e ∙ h)
one_more g high join most s stored consumers e (inr (inl h)) = inr (inl (h.0, inr h.1, e ∙ h.2))
one_more g high join most s stored consumers e (inr (inr h)) = inr (inr (subst (λ x. Within g x consumers) (sym e) h))

stores : (g : Geometry) (i : Image) (s : Placed) (a : Insert) → IsMarked g i → IsMarked g (after_insert i s a)
stores g i s CrossesTerm k = k
stores g i s Below k = k
stores g i s OverWindow k = k
stores g i s Duplicate k = k
stores g i s Overlap k = k
stores g i s Stored k = record {
  above = (omega arith, all_weaker (λ x. end_of x ≤ i.high) (λ x. end_of x ≤ max i.high (end_of s)) (λ x h. omega arith) i.stored k.above);
  from = omega (arith, k.from);
  reached = ⊎_elim
      (λ (l : i.high < end_of s). inr (inl (s, inl refl, omega arith)))
      (λ (l : end_of s ≤ i.high). one_more g i.high i.join (max i.high (end_of s)) s i.stored i.consumers (omega arith) k.reached)
      (cases_lt i.high (end_of s));
}

beats : (g : Geometry) (i : Image) (least : ℕ) (p : ℤ) → IsLeast i least → IsMarked g i → IsMarked g (after_heartbeat g i least p)
beats g i least (negsuc n) l k = k
beats g i least (pos p) l k =
    ⊎_elim
    (λ (t : is_accepted g i.high least p ≡ true).
    let parts = and_parts (nat_lt i.high p) (nat_le p (min (least + 3 * g.term_length / 4) (g.term_length * 2 ^ 31))) t in
    let above : i.high < p = ltb-true i.high p parts.0 in
    let most : p ≤ min (least + 3 * g.term_length / 4) (g.term_length * 2 ^ 31) = leb-true p (min (least + 3 * g.term_length / 4) (g.term_length * 2 ^ 31)) parts.1 in
    subst (IsMarked g) (sym (cond-true (is_accepted g i.high least p) (record i { high = p }) i t)) (record {
      above = all_weaker (λ x. end_of x ≤ i.high) (λ x. end_of x ≤ p) (λ x h. omega arith) i.stored k.above;
      from = omega (arith, k.from);
      reached = inr (inr (all_weaker (λ r. least ≤ r.at) (λ r. p ≤ r.at + 3 * g.term_length / 4) (λ r h. omega arith) i.consumers l.all));
    }))
    (λ (f : is_accepted g i.high least p ≡ false). subst (IsMarked g) (sym (cond-false (is_accepted g i.high least p) (record i { high = p }) i f)) k)
    (cases_Bool (is_accepted g i.high least p))

goes_on : (g : Geometry) (high join : ℕ) (stored : List Placed) (consumers : List Consumer) (which : ℕ) (r s : Consumer) → slice_get consumers which ≡ Some r → r.at ≤ s.at → Reached g high join stored consumers → Reached g high join stored (slice_set consumers which s)
goes_on g high join stored consumers which r s e le (inl h) = inl h
goes_on g high join stored consumers which r s e le (inr (inl h)) = inr (inl h)
goes_on g high join stored consumers which r s e le (inr (inr h)) =
    let here : high ≤ r.at + 3 * g.term_length / 4 = all_get (λ c. high ≤ c.at + 3 * g.term_length / 4) consumers which r e h in
    inr (inr (all_set (λ c. high ≤ c.at + 3 * g.term_length / 4) consumers which s (omega arith) h))

moves_mark : (g : Geometry) (i : Image) (which : ℕ) (r s : Consumer) → slice_get i.consumers which ≡ Some r → r.at ≤ s.at → IsMarked g i → IsMarked g (record i { consumers = slice_set i.consumers which s })
moves_mark g i which r s e le k = record { above = k.above; from = k.from; reached = goes_on g i.high i.join i.stored i.consumers which r s e le k.reached }

mark_step : (g : Geometry) (given : List Placed) (old : Image) (e : ImageEvent) (new : Image) → IsMarked g old → ImageStep g given old e new → IsMarked g new
mark_step g given old (Inserted least s) new k h = subst (IsMarked g) (sym h.2) (stores g old s (insert_answer g (map head_of old.stored) least old.window (head_of s)) k)
mark_step g given old (Heartbeat least p) new k h = subst (IsMarked g) (sym h.1) (beats g old least p h.0 k)
mark_step g given old (Poll which past) new k h = let here : past.at ≡ h.0.at = h.2.here in subst (IsMarked g) (sym h.4) (moves_mark g old which h.0 (moved h.0 past) h.1 (omega arith) k)
mark_step g given old (Lose which past) new k h = let here : past.at ≡ h.0.at = h.2.here in subst (IsMarked g) (sym h.3) (moves_mark g old which h.0 (passed_by h.0 past) h.1 (omega arith) k)

mark_run : (g : Geometry) (given : List Placed) (events : List ImageEvent) (old new : Image) → IsMarked g old → ImageRun g given old events new → IsMarked g new
mark_run g given [] old new k h = subst (IsMarked g) (sym h) k
mark_run g given (e ∷ es) old new k h = mark_run g given es h.0 new (mark_step g given old e h.0 k h.1) h.2

pub marked_always : ImageAlways IsMarked
marked_always g given join window consumers events i run = mark_run g given events (image_at join window consumers) i (record { above = tt; from = omega arith; reached = inl refl }) run

-- ---- the mark is the greatest of its sources

heard_higher : (g : Geometry) (low high : ℕ) (e : ImageEvent) → low ≤ high → IsHeard g low e → IsHeard g high e
heard_higher g low high (Heartbeat least (pos p)) l h = λ n. let below : p ≤ low = h n in omega arith
heard_higher g low high (Heartbeat least (negsuc n)) l h = tt
heard_higher g low high (Inserted least s) l h = tt
heard_higher g low high (Poll which past) l h = tt
heard_higher g low high (Lose which past) l h = tt

-- the event is heard, and no source is new
passes : (g : Geometry) (past : List ImageEvent) (e : ImageEvent) (i : Image) → IsHeard g i.high e → IsGreatestMark g past i → IsGreatestMark g (past ++ e ∷ []) i
passes g past e i here k = record { stored = k.stored; join = k.join; heard = all_append (IsHeard g i.high) past (e ∷ []) k.heard (here, tt); reached = from k.reached }
  where
    from : (i.high ≡ i.join) ⊎ (((s : Placed) × Among s i.stored × (i.high ≡ end_of s)) ⊎ ((least : ℕ) × Among (Heartbeat least (pos i.high)) past × IsNear g least i.high)) → (i.high ≡ i.join) ⊎ (((s : Placed) × Among s i.stored × (i.high ≡ end_of s)) ⊎ ((least : ℕ) × Among (Heartbeat least (pos i.high)) (past ++ e ∷ []) × IsNear g least i.high))
    from (inl h) = inl h
    from (inr (inl h)) = inr (inl h)
    from (inr (inr h)) = inr (inr (h.0, among_left (Heartbeat h.0 (pos i.high)) past (e ∷ []) h.1, h.2))

holds_more : (g : Geometry) (past : List ImageEvent) (i : Image) (s : Placed) → IsGreatestMark g past i → IsGreatestMark g past (after_insert i s Stored)
holds_more g past i s k = record {
  stored = (omega arith, all_weaker (λ x. end_of x ≤ i.high) (λ x. end_of x ≤ max i.high (end_of s)) (λ x h. omega arith) i.stored k.stored);
  join = omega (arith, k.join);
  heard = all_weaker (IsHeard g i.high) (IsHeard g (max i.high (end_of s))) (λ e h. heard_higher g i.high (max i.high (end_of s)) e (omega arith) h) past k.heard;
  reached = ⊎_elim
      (λ (l : i.high < end_of s). inr (inl (s, inl refl, omega arith)))
      (λ (l : end_of s ≤ i.high). from (max i.high (end_of s)) (omega arith) k.reached)
      (cases_lt i.high (end_of s));
}
  where
    from : (most : ℕ) → most ≡ i.high → (i.high ≡ i.join) ⊎ (((t : Placed) × Among t i.stored × (i.high ≡ end_of t)) ⊎ ((least : ℕ) × Among (Heartbeat least (pos i.high)) past × IsNear g least i.high)) → (most ≡ i.join) ⊎ (((t : Placed) × Among t (s ∷ i.stored) × (most ≡ end_of t)) ⊎ ((least : ℕ) × Among (Heartbeat least (pos most)) past × IsNear g least most))
    from most e (inl h) = inl (e ∙ h)
    from most e (inr (inl h)) = inr (inl (h.0, inr h.1, e ∙ h.2))
    from most e (inr (inr h)) = inr (inr (h.0, subst (λ x. Among (Heartbeat h.0 (pos x)) past) (sym e) h.1, subst (λ x. IsNear g h.0 x) (sym e) h.2))

answers : (g : Geometry) (past : List ImageEvent) (i : Image) (s : Placed) (a : Insert) → IsGreatestMark g past i → IsGreatestMark g past (after_insert i s a)
answers g past i s CrossesTerm k = k
answers g past i s Below k = k
answers g past i s OverWindow k = k
answers g past i s Duplicate k = k
answers g past i s Overlap k = k
answers g past i s Stored k = holds_more g past i s k

rises : (g : Geometry) (past : List ImageEvent) (i : Image) (least p : ℕ) → i.high < p → IsNear g least p → IsGreatestMark g past i → IsGreatestMark g (past ++ Heartbeat least (pos p) ∷ []) (record i { high = p })
rises g past i least p above near k = record {
  stored = all_weaker (λ x. end_of x ≤ i.high) (λ x. end_of x ≤ p) (λ x h. omega arith) i.stored k.stored;
  join = omega (arith, k.join);
  heard = all_append (IsHeard g p) past (Heartbeat least (pos p) ∷ []) (all_weaker (IsHeard g i.high) (IsHeard g p) (λ e h. heard_higher g i.high p e (omega arith) h) past k.heard) (λ n. omega arith, tt);
  reached = inr (inr (least, among_right (Heartbeat least (pos p)) past (Heartbeat least (pos p) ∷ []) (inl refl), near));
}

hears : (g : Geometry) (past : List ImageEvent) (i : Image) (least : ℕ) (p : ℤ) → IsGreatestMark g past i → IsGreatestMark g (past ++ Heartbeat least p ∷ []) (after_heartbeat g i least p)
hears g past i least (negsuc n) k = passes g past (Heartbeat least (negsuc n)) i tt k
hears g past i least (pos p) k =
    let most = min (least + 3 * g.term_length / 4) (max_position g) in
    ⊎_elim
    (λ (t : is_accepted g i.high least p ≡ true).
    let parts = and_parts (nat_lt i.high p) (nat_le p most) t in
    subst (IsGreatestMark g (past ++ Heartbeat least (pos p) ∷ [])) (sym (cond-true (is_accepted g i.high least p) (record i { high = p }) i t)) (rises g past i least p (ltb-true i.high p parts.0) (leb-true p most parts.1) k))
    (λ (f : is_accepted g i.high least p ≡ false).
    subst (IsGreatestMark g (past ++ Heartbeat least (pos p) ∷ [])) (sym (cond-false (is_accepted g i.high least p) (record i { high = p }) i f)) (passes g past (Heartbeat least (pos p)) i (λ near. low f (le-leb p most near)) k))
    (cases_Bool (is_accepted g i.high least p))
  where
    low : is_accepted g i.high least p ≡ false → nat_le p (min (least + 3 * g.term_length / 4) (max_position g)) ≡ true → p ≤ i.high
    low f near = ⊎_elim
        (λ (t : nat_lt i.high p ≡ true). absurd (both_ways (is_accepted g i.high least p) f (ap (λ b. b && nat_le p (min (least + 3 * g.term_length / 4) (max_position g))) t ∙ near)))
        (λ (u : nat_lt i.high p ≡ false). ltb-false i.high p u)
        (cases_Bool (nat_lt i.high p))

greatest_step : (g : Geometry) (given : List Placed) (past : List ImageEvent) (old : Image) (e : ImageEvent) (new : Image) → IsGreatestMark g past old → ImageStep g given old e new → IsGreatestMark g (past ++ e ∷ []) new
greatest_step g given past old (Inserted least s) new k h = subst (IsGreatestMark g (past ++ Inserted least s ∷ [])) (sym h.2) (answers g (past ++ Inserted least s ∷ []) old s (insert_answer g (map head_of old.stored) least old.window (head_of s)) (passes g past (Inserted least s) old tt k))
greatest_step g given past old (Heartbeat least p) new k h = subst (IsGreatestMark g (past ++ Heartbeat least p ∷ [])) (sym h.1) (hears g past old least p k)
greatest_step g given past old (Poll which s) new k h = let x = passes g past (Poll which s) old tt k in subst (IsGreatestMark g (past ++ Poll which s ∷ [])) (sym h.4) (record { stored = x.stored; join = x.join; heard = x.heard; reached = x.reached })
greatest_step g given past old (Lose which s) new k h = let x = passes g past (Lose which s) old tt k in subst (IsGreatestMark g (past ++ Lose which s ∷ [])) (sym h.3) (record { stored = x.stored; join = x.join; heard = x.heard; reached = x.reached })

greatest_run : (g : Geometry) (given : List Placed) (past events : List ImageEvent) (old new : Image) → IsGreatestMark g past old → ImageRun g given old events new → IsGreatestMark g (past ++ events) new
greatest_run g given past [] old new k h = subst (λ es. IsGreatestMark g es new) (sym (append-nil past)) (subst (IsGreatestMark g past) (sym h) k)
greatest_run g given past (e ∷ es) old new k h = subst (λ x. IsGreatestMark g x new) (append_assoc past (e ∷ []) es) (greatest_run g given (past ++ e ∷ []) es h.0 new (greatest_step g given past old e h.0 k h.1) h.2)

pub mark_greatest : MarkIsGreatest
mark_greatest g given join window consumers events i run = greatest_run g given [] events (image_at join window consumers) i (record { stored = tt; join = omega arith; heard = tt; reached = inl refl }) run
