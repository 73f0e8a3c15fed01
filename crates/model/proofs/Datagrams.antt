-- A cycle's datagrams: they stand in the grammar, and what they send is what a sender may send.
use Rattle.std.proofs.Common.{◌≡◌, ℕ, zero, suc, ◌+◌, ◌/◌, ⊎_elim, List, [], ◌∷◌, ◌++◌, take, true, false, not, refl, sym, ap, ◌∙◌, subst, append_assoc, length-take, arith}
use Rattle.std.specs.List.{AllByRecursion, list_any}
use Rattle.std.specs.Prelude.{nat_le, nat_eq, ◌&&◌}
use Rattle.std.proofs.lemmas.Bool.{cases_Bool, leb-true, cond-true, cond-false, and_parts, or_parts, not-true}
use Rattle.theory.specs.Position.{Geometry}
use Rattle.theory.specs.Wire.{Wire, StandTogether, MayFollow}
use Rattle.theory.specs.Placed.{is_padding, Frame, Data, Pad, Placed, end_of, Among, Chain, AllAmong}
use Rattle.theory.specs.Bytes.{Identity, wire_at}
use Rattle.theory.specs.Datagrams.{fits_in, grouped_behind, grouped, sent_end, MayBeSent, sendable, cycle_datagrams, wire_size, size_of, frames_of, wires}
use Rattle.model.specs.CycleLaws.{MaySend, CycleMaySend}
use Rattle.theory.proofs.Grouping.{grouped_is}
use Rattle.theory.proofs.Lists.{all_front}
use Rattle.theory.proofs.Readings.{stands_alone}

-- ---- the first datagrams

-- the first n datagrams have the first frames
pub front_of : (n : ℕ) (ds : List (List Placed)) → (rest : List Placed) × (frames_of ds ≡ frames_of (take n ds) ++ rest)
front_of zero ds = (frames_of ds, refl)
front_of (suc n) [] = ([], refl)
front_of (suc n) (d ∷ ds) = let r = front_of n ds in (r.0, ap (λ x. d ++ x) r.1 ∙ sym (append_assoc d (frames_of (take n ds)) r.0))

sendable_front : (limit : ℕ) (ss : List Placed) → (rest : List Placed) × (ss ≡ sendable limit ss ++ rest) × AllByRecursion (MayBeSent limit) (sendable limit ss)
sendable_front limit [] = ([], refl, tt)
sendable_front limit (s ∷ ss) =
    let r = sendable_front limit ss in
    ⊎_elim
    (λ (t : nat_le (sent_end s s.frame) limit ≡ true). subst (λ (x : List Placed). (rest : List Placed) × (s ∷ ss ≡ x ++ rest) × AllByRecursion (MayBeSent limit) x) (sym (cond-true (nat_le (sent_end s s.frame) limit) (s ∷ sendable limit ss) [] t)) (r.0, ap (λ x. s ∷ x) r.1, (leb-true (sent_end s s.frame) limit t, r.2)))
    (λ (f : nat_le (sent_end s s.frame) limit ≡ false). subst (λ (x : List Placed). (rest : List Placed) × (s ∷ ss ≡ x ++ rest) × AllByRecursion (MayBeSent limit) x) (sym (cond-false (nat_le (sent_end s s.frame) limit) (s ∷ sendable limit ss) [] f)) (s ∷ ss, refl, tt))
    (cases_Bool (nat_le (sent_end s s.frame) limit))

chain_front : (j q : ℕ) (xs ys : List Placed) → Chain j q (xs ++ ys) → (m : ℕ) × Chain j m xs
chain_front j q [] ys h = (j, refl)
chain_front j q (x ∷ xs) ys h = let r = chain_front (end_of x) q xs ys h.1 in (r.0, (h.0, r.1))

-- what a cycle sends of frames that follow each other and are the log's is what a sender may send
pub cycle_sends : (g : Geometry) (frames : List Placed) (at q limit : ℕ) (reads : List Placed) → Chain at q reads → AllAmong frames reads → MaySend frames at limit (frames_of (cycle_datagrams g limit reads))
cycle_sends g frames at q limit reads chain among =
    let s = sendable_front limit reads in
    let f = front_of 16 (grouped g (sendable limit reads)) in
    let sent = frames_of (cycle_datagrams g limit reads) in
    let all : sendable limit reads ≡ sent ++ f.0 = sym (grouped_is g (sendable limit reads)) ∙ f.1 in
    let whole : reads ≡ sent ++ (f.0 ++ s.0) = s.1 ∙ ap (λ x. x ++ s.0) all ∙ append_assoc sent f.0 s.0 in
    let c = chain_front at q sent (f.0 ++ s.0) (subst (Chain at q) whole chain) in
    record {
      to = c.0;
      chain = c.1;
      among = all_front (λ x. Among x frames) sent (f.0 ++ s.0) (subst (AllAmong frames) whole among);
      allowed = all_front (MayBeSent limit) sent f.0 (subst (AllByRecursion (MayBeSent limit)) all s.2);
    }

-- ---- each stands in the grammar

abbrev NoPadding : List Placed → Type 0
NoPadding ss = list_any (λ u. is_padding u.frame) ss ≡ false

last_follows : (i : Identity) (p : ℕ) (f : Frame) → MayFollow (wire_at i p f ∷ [])
last_follows i p (Data flags payload) = tt
last_follows i p (Pad n) = tt

data_follows : (i : Identity) (p : ℕ) (f : Frame) (ws : List Wire) → is_padding f ≡ false → MayFollow ws → MayFollow (wire_at i p f ∷ ws)
data_follows i p (Data flags payload) ws e h = h
data_follows i p (Pad n) ws e h = absurd (cc)

data_stands : (i : Identity) (p : ℕ) (f : Frame) (ws : List Wire) → is_padding f ≡ false → MayFollow ws → StandTogether (wire_at i p f ∷ ws)
data_stands i p (Data flags payload) ws e h = h
data_stands i p (Pad n) ws e h = absurd (cc)

follow_data : (i : Identity) (ts : List Placed) (s : Placed) → NoPadding ts → MayFollow (wires i (ts ++ s ∷ []))
follow_data i [] s h = last_follows i s.at s.frame
follow_data i (t ∷ ts) s h =
    let parts = or_parts (is_padding t.frame) (list_any (λ u. is_padding u.frame) ts) h in
    data_follows i t.at t.frame (wires i (ts ++ s ∷ [])) parts.0 (follow_data i ts s parts.1)

pushed_stands : (i : Identity) (g : Geometry) (t : Placed) (ts : List Placed) (s : Placed) → fits_in g (t ∷ ts) s ≡ true → StandTogether (wires i ((t ∷ ts) ++ s ∷ []))
pushed_stands i g t ts s h =
    let fits = and_parts (not (list_any (λ u. is_padding u.frame) (t ∷ ts)) && nat_eq (t.at / g.term_length) (s.at / g.term_length)) (nat_le (size_of (t ∷ ts) + wire_size s s.frame) g.mtu) h in
    let none : NoPadding (t ∷ ts) = not-true (list_any (λ u. is_padding u.frame) (t ∷ ts)) (and_parts (not (list_any (λ u. is_padding u.frame) (t ∷ ts))) (nat_eq (t.at / g.term_length) (s.at / g.term_length)) fits.0).0 in
    let parts = or_parts (is_padding t.frame) (list_any (λ u. is_padding u.frame) ts) none in
    data_stands i t.at t.frame (wires i (ts ++ s ∷ [])) parts.0 (follow_data i ts s parts.1)

behind_stand : (i : Identity) (g : Geometry) (t : Placed) (ts ss : List Placed) → StandTogether (wires i (t ∷ ts)) → AllByRecursion (λ d. StandTogether (wires i d)) (grouped_behind g (t ∷ ts) ss)
behind_stand i g t ts [] h = (h, tt)
behind_stand i g t ts (s ∷ ss) h =
    ⊎_elim
    (λ (y : fits_in g (t ∷ ts) s ≡ true).
    subst (AllByRecursion (λ d. StandTogether (wires i d))) (sym (cond-true (fits_in g (t ∷ ts) s) (grouped_behind g ((t ∷ ts) ++ s ∷ []) ss) ((t ∷ ts) ∷ grouped_behind g (s ∷ []) ss) y))
    (behind_stand i g t (ts ++ s ∷ []) ss (pushed_stands i g t ts s y)))
    (λ (n : fits_in g (t ∷ ts) s ≡ false).
    subst (AllByRecursion (λ d. StandTogether (wires i d))) (sym (cond-false (fits_in g (t ∷ ts) s) (grouped_behind g ((t ∷ ts) ++ s ∷ []) ss) ((t ∷ ts) ∷ grouped_behind g (s ∷ []) ss) n))
    (h, behind_stand i g s [] ss (stands_alone (wire_at i s.at s.frame))))
    (cases_Bool (fits_in g (t ∷ ts) s))

-- each of these datagrams has data frames and at its end at most one padding
pub grouped_stand : (i : Identity) (g : Geometry) (ss : List Placed) → AllByRecursion (λ d. StandTogether (wires i d)) (grouped g ss)
grouped_stand i g [] = tt
grouped_stand i g (s ∷ ss) = behind_stand i g s [] ss (stands_alone (wire_at i s.at s.frame))

pub cycle_may_send : CycleMaySend
cycle_may_send g frames reads at q limit chain among = (cycle_sends g frames at q limit reads chain among, omega (arith, length-take 16 (grouped g (sendable limit reads))))
