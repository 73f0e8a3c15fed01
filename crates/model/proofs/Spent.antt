-- A cycle sends all that may go, a resend all that 15 datagrams hold.
use Rattle.std.proofs.Common.{◌≡◌, ℕ, zero, suc, ◌+◌, ◌/◌, inl, inr, ⊎_elim, List, [], ◌∷◌, ◌++◌, take, true, false, not, refl, sym, ap, ◌∙◌, subst, append_assoc, append-nil, length-take, arith}
use Rattle.std.specs.List.{list_any}
use Rattle.std.specs.Prelude.{⊤, Bool, nat_le, nat_eq, ◌&&◌}
use Rattle.std.proofs.lemmas.Bool.{cases_Bool, cond-true, cond-false, eq-eqb, leb-false, le-leb, both_ways, or_cases}
use Rattle.theory.specs.Position.{Geometry}
use Rattle.theory.specs.Placed.{Among, Placed, is_padding}
use Rattle.theory.specs.Datagrams.{MayBeSent, cycle_datagrams, fits_in, frames_of, grouped, grouped_behind, resend_datagrams, sendable, sent_end, size_of, wire_size}
use Rattle.model.specs.CycleLaws.{AreSpent, CycleSendsAll, IsFullFor, IsStopped, ResendsFirst}
use Rattle.theory.proofs.Grouping.{grouped_is}

-- ---- a frame that doesn't fit

some_padding : (d : List Placed) → list_any (λ u. is_padding u.frame) d ≡ true → (u : Placed) × Among u d × (is_padding u.frame ≡ true)
some_padding [] e = absurd (cc)
some_padding (t ∷ ts) e = ⊎_elim (λ (y : is_padding t.frame ≡ true). (t, inl refl, y)) (λ (n : list_any (λ u. is_padding u.frame) ts ≡ true). let r = some_padding ts n in (r.0, inr r.1, r.2)) (or_cases (is_padding t.frame) (list_any (λ u. is_padding u.frame) ts) e)

full : (g : Geometry) (t : Placed) (ts : List Placed) (s : Placed) → fits_in g (t ∷ ts) s ≡ false → IsFullFor g (t ∷ ts) s
full g t ts s e =
    ⊎_elim
    (λ (y : list_any (λ u. is_padding u.frame) (t ∷ ts) ≡ true). inl (some_padding (t ∷ ts) y))
    (λ (n : list_any (λ u. is_padding u.frame) (t ∷ ts) ≡ false).
    ⊎_elim
    (λ (same : nat_eq (t.at / g.term_length) (s.at / g.term_length) ≡ true).
    ⊎_elim
    (λ (y : nat_le (size_of (t ∷ ts) + wire_size s s.frame) g.mtu ≡ true). absurd (fits (list_any (λ u. is_padding u.frame) (t ∷ ts)) (nat_eq (t.at / g.term_length) (s.at / g.term_length)) (nat_le (size_of (t ∷ ts) + wire_size s s.frame) g.mtu) n same y e))
    (λ (f : nat_le (size_of (t ∷ ts) + wire_size s s.frame) g.mtu ≡ false). inr (inr (leb-false (size_of (t ∷ ts) + wire_size s s.frame) g.mtu f)))
    (cases_Bool (nat_le (size_of (t ∷ ts) + wire_size s s.frame) g.mtu)))
    (λ (other : nat_eq (t.at / g.term_length) (s.at / g.term_length) ≡ false). inr (inl (λ all. both_ways (nat_eq (t.at / g.term_length) (s.at / g.term_length)) other (eq-eqb (t.at / g.term_length) (s.at / g.term_length) all.0))))
    (cases_Bool (nat_eq (t.at / g.term_length) (s.at / g.term_length))))
    (cases_Bool (list_any (λ u. is_padding u.frame) (t ∷ ts)))
  where
    fits : (a b c : Bool) → a ≡ false → b ≡ true → c ≡ true → (not a && b) && c ≡ false → ⊥
    fits true b c x y z e = absurd (cc)
    fits false true true x y z e = absurd (cc)
    fits false false c x y z e = absurd (cc)
    fits false true false x y z e = absurd (cc)

-- ---- each datagram is full for what the next one begins with

abbrev FullFor : Geometry → List Placed → List (List Placed) → Type 0
FullFor g d [] = ⊤
FullFor g d ([] ∷ ds) = ⊥
FullFor g d ((s ∷ ss) ∷ ds) = IsFullFor g d s

abbrev AreFilled : Geometry → List (List Placed) → Type 0
AreFilled g [] = ⊤
AreFilled g (d ∷ ds) = FullFor g d ds × AreFilled g ds

begins : (g : Geometry) (d : List Placed) (s : Placed) (f ss : List Placed) → IsFullFor g d s → FullFor g d (grouped_behind g (s ∷ f) ss)
begins g d s f [] h = h
begins g d s f (t ∷ ss) h =
    ⊎_elim
    (λ (y : fits_in g (s ∷ f) t ≡ true). subst (FullFor g d) (sym (cond-true (fits_in g (s ∷ f) t) (grouped_behind g ((s ∷ f) ++ t ∷ []) ss) ((s ∷ f) ∷ grouped_behind g (t ∷ []) ss) y)) (begins g d s (f ++ t ∷ []) ss h))
    (λ (n : fits_in g (s ∷ f) t ≡ false). subst (FullFor g d) (sym (cond-false (fits_in g (s ∷ f) t) (grouped_behind g ((s ∷ f) ++ t ∷ []) ss) ((s ∷ f) ∷ grouped_behind g (t ∷ []) ss) n)) h)
    (cases_Bool (fits_in g (s ∷ f) t))

behind_filled : (g : Geometry) (s : Placed) (f ss : List Placed) → AreFilled g (grouped_behind g (s ∷ f) ss)
behind_filled g s f [] = (tt, tt)
behind_filled g s f (t ∷ ss) =
    ⊎_elim
    (λ (y : fits_in g (s ∷ f) t ≡ true). subst (AreFilled g) (sym (cond-true (fits_in g (s ∷ f) t) (grouped_behind g ((s ∷ f) ++ t ∷ []) ss) ((s ∷ f) ∷ grouped_behind g (t ∷ []) ss) y)) (behind_filled g s (f ++ t ∷ []) ss))
    (λ (n : fits_in g (s ∷ f) t ≡ false). subst (AreFilled g) (sym (cond-false (fits_in g (s ∷ f) t) (grouped_behind g ((s ∷ f) ++ t ∷ []) ss) ((s ∷ f) ∷ grouped_behind g (t ∷ []) ss) n)) (begins g (s ∷ f) t [] ss (full g s f t n), behind_filled g t [] ss))
    (cases_Bool (fits_in g (s ∷ f) t))

filled : (g : Geometry) (ss : List Placed) → AreFilled g (grouped g ss)
filled g [] = tt
filled g (s ∷ ss) = behind_filled g s [] ss

-- ---- what the first of them leave

record Left (g : Geometry) (n : ℕ) (ds : List (List Placed)) : Type 0 where
  rest : List Placed
  parts : frames_of ds ≡ frames_of (take n ds) ++ rest
  spent : AreSpent g n (take n ds) rest

behind_one : (g : Geometry) (d : List Placed) (ds : List (List Placed)) → FullFor g d ds → Left g 1 (d ∷ ds)
behind_one g d [] h = record { rest = []; parts = sym (append-nil (d ++ [])); spent = tt }
behind_one g d ([] ∷ ds) h = absurd h
behind_one g d ((s ∷ ss) ∷ ds) h = record { rest = s ∷ ss ++ frames_of ds; parts = sym (append_assoc d [] (s ∷ ss ++ frames_of ds)); spent = record { many = refl; front = []; last = d; parts = refl; full = h } }

one_more : (g : Geometry) (n : ℕ) (d : List Placed) (ds : List (List Placed)) (rest : List Placed) → AreSpent g n ds rest → AreSpent g (suc n) (d ∷ ds) rest
one_more g n d ds [] h = tt
one_more g n d ds (s ∷ ss) h = record { many = ap (λ k. suc k) h.many; front = d ∷ h.front; last = h.last; parts = ap (λ x. d ∷ x) h.parts; full = h.full }

left : (g : Geometry) (n : ℕ) (ds : List (List Placed)) → AreFilled g ds → Left g (suc n) ds
left g n [] h = record { rest = []; parts = refl; spent = tt }
left g zero (d ∷ ds) h = behind_one g d ds h.0
left g (suc n) (d ∷ ds) h =
    let r = left g n ds h.1 in
    record { rest = r.rest; parts = ap (λ x. d ++ x) r.parts ∙ sym (append_assoc d (frames_of (take (suc n) ds)) r.rest); spent = one_more g (suc n) d (take (suc n) ds) r.rest r.spent }

-- ---- the frames that may be sent, and the first that may not

abbrev IsBarred : ℕ → List Placed → Type 0
IsBarred limit [] = ⊤
IsBarred limit (s ∷ ss) = MayBeSent limit s → ⊥

sendable_parts : (limit : ℕ) (ss : List Placed) → (rest : List Placed) × (ss ≡ sendable limit ss ++ rest) × IsBarred limit rest
sendable_parts limit [] = ([], refl, tt)
sendable_parts limit (s ∷ ss) =
    let r = sendable_parts limit ss in
    ⊎_elim
    (λ (t : nat_le (sent_end s s.frame) limit ≡ true). subst (λ (x : List Placed). (rest : List Placed) × (s ∷ ss ≡ x ++ rest) × IsBarred limit rest) (sym (cond-true (nat_le (sent_end s s.frame) limit) (s ∷ sendable limit ss) [] t)) (r.0, ap (λ x. s ∷ x) r.1, r.2))
    (λ (f : nat_le (sent_end s s.frame) limit ≡ false). subst (λ (x : List Placed). (rest : List Placed) × (s ∷ ss ≡ x ++ rest) × IsBarred limit rest) (sym (cond-false (nat_le (sent_end s s.frame) limit) (s ∷ sendable limit ss) [] f)) (s ∷ ss, refl, λ may. both_ways (nat_le (sent_end s s.frame) limit) f (le-leb (sent_end s s.frame) limit may)))
    (cases_Bool (nat_le (sent_end s s.frame) limit))

stops : (g : Geometry) (limit : ℕ) (ds : List (List Placed)) (left barred : List Placed) → AreSpent g 16 ds left → IsBarred limit barred → IsStopped g limit ds (left ++ barred)
stops g limit ds [] [] h b = tt
stops g limit ds [] (s ∷ ss) h b = inl b
stops g limit ds (s ∷ ss) barred h b = inr h

pub cycle_sends_all : CycleSendsAll
cycle_sends_all g reads limit =
    let s = sendable_parts limit reads in
    let l = left g 15 (grouped g (sendable limit reads)) (filled g (sendable limit reads)) in
    let all : sendable limit reads ≡ frames_of (cycle_datagrams g limit reads) ++ l.rest = sym (grouped_is g (sendable limit reads)) ∙ l.parts in
    (l.rest ++ s.0, s.1 ∙ ap (λ x. x ++ s.0) all ∙ append_assoc (frames_of (cycle_datagrams g limit reads)) l.rest s.0, stops g limit (cycle_datagrams g limit reads) l.rest s.0 l.spent s.2)

resends_rest : (g : Geometry) (frames : List Placed) → (rest : List Placed) × (frames ≡ frames_of (resend_datagrams g frames) ++ rest) × AreSpent g 15 (resend_datagrams g frames) rest
resends_rest g frames =
    let l = left g 14 (grouped g frames) (filled g frames) in
    (l.rest, sym (grouped_is g frames) ∙ l.parts, l.spent)

pub resends_first : ResendsFirst
resends_first g frames = (omega (arith, length-take 15 (grouped g frames)), resends_rest g frames)
