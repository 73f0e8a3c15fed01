-- No datagram passes the MTU.
use Rattle.std.proofs.Common.{◌≡◌, ℕ, zero, suc, Bool, cond, take, ◌+◌, ◌/◌, ◌≤◌, ⊎_elim, List, [], ◌∷◌, ◌++◌, true, false, not, sym, subst, arith}
use Rattle.std.specs.List.{AllByRecursion, list_any}
use Rattle.std.specs.Prelude.{nat_le, nat_eq, ◌&&◌}
use Rattle.std.proofs.lemmas.Bool.{cases_Bool, leb-true, eqb-true, cond-true, cond-false, and_parts}
use Rattle.theory.specs.Position.{Geometry}
use Rattle.theory.specs.Wire.{StandTogether}
use Rattle.theory.specs.Bytes.{Identity}
use Rattle.theory.specs.Placed.{Placed, is_padding}
use Rattle.theory.specs.Datagrams.{fits_in, grouped_behind, grouped, sendable, sent_end, wire_size, wires, size_of}
use Rattle.model.specs.CycleLaws.{AreDatagrams, AreOfOneTerm, GroupsWell}
use Rattle.theory.proofs.Lists.{all_append}
use Rattle.theory.proofs.Grouping.{grouped_is, size_push}
use Rattle.model.proofs.Datagrams.{grouped_stand}

behind_sized : (g : Geometry) (t : Placed) (ts ss : List Placed) → size_of (t ∷ ts) ≤ g.mtu → AllByRecursion (λ s. wire_size s s.frame ≤ g.mtu) ss → AllByRecursion (λ d. size_of d ≤ g.mtu) (grouped_behind g (t ∷ ts) ss)
behind_sized g t ts [] h k = (h, tt)
behind_sized g t ts (s ∷ ss) h k =
    ⊎_elim
    (λ (y : fits_in g (t ∷ ts) s ≡ true).
    let fits = and_parts (not (list_any (λ u. is_padding u.frame) (t ∷ ts)) && nat_eq (t.at / g.term_length) (s.at / g.term_length)) (nat_le (size_of (t ∷ ts) + wire_size s s.frame) g.mtu) y in
    let le : size_of (t ∷ ts) + wire_size s s.frame ≤ g.mtu = leb-true (size_of (t ∷ ts) + wire_size s s.frame) g.mtu fits.1 in
    subst (AllByRecursion (λ d. size_of d ≤ g.mtu)) (sym (cond-true (fits_in g (t ∷ ts) s) (grouped_behind g ((t ∷ ts) ++ s ∷ []) ss) ((t ∷ ts) ∷ grouped_behind g (s ∷ []) ss) y))
    (behind_sized g t (ts ++ s ∷ []) ss (omega (arith, size_push ts s)) k.1))
    (λ (n : fits_in g (t ∷ ts) s ≡ false).
    subst (AllByRecursion (λ d. size_of d ≤ g.mtu)) (sym (cond-false (fits_in g (t ∷ ts) s) (grouped_behind g ((t ∷ ts) ++ s ∷ []) ss) ((t ∷ ts) ∷ grouped_behind g (s ∷ []) ss) n))
    (h, behind_sized g s [] ss (omega (arith, k.0)) k.1))
    (cases_Bool (fits_in g (t ∷ ts) s))

sized : (g : Geometry) (ss : List Placed) → AllByRecursion (λ s. wire_size s s.frame ≤ g.mtu) ss → AllByRecursion (λ d. size_of d ≤ g.mtu) (grouped g ss)
sized g [] h = tt
sized g (s ∷ ss) h = behind_sized g s [] ss (omega (arith, h.0)) h.1

pub all_take : (P : List Placed → Type 0) (n : ℕ) (ds : List (List Placed)) → AllByRecursion P ds → AllByRecursion P (take n ds)
all_take P zero ds h = tt
all_take P (suc n) [] h = tt
all_take P (suc n) (d ∷ ds) h = (h.0, all_take P n ds h.1)

behind_termed : (g : Geometry) (t : Placed) (ts ss : List Placed) → AreOfOneTerm g.term_length (t ∷ ts) → AllByRecursion (AreOfOneTerm g.term_length) (grouped_behind g (t ∷ ts) ss)
behind_termed g t ts [] h = (h, tt)
behind_termed g t ts (s ∷ ss) h =
    ⊎_elim
    (λ (y : fits_in g (t ∷ ts) s ≡ true).
    let fits = and_parts (not (list_any (λ u. is_padding u.frame) (t ∷ ts)) && nat_eq (t.at / g.term_length) (s.at / g.term_length)) (nat_le (size_of (t ∷ ts) + wire_size s s.frame) g.mtu) y in
    let same : t.at / g.term_length ≡ s.at / g.term_length = eqb-true (t.at / g.term_length) (s.at / g.term_length) (and_parts (not (list_any (λ u. is_padding u.frame) (t ∷ ts))) (nat_eq (t.at / g.term_length) (s.at / g.term_length)) fits.0).1 in
    subst (AllByRecursion (AreOfOneTerm g.term_length)) (sym (cond-true (fits_in g (t ∷ ts) s) (grouped_behind g ((t ∷ ts) ++ s ∷ []) ss) ((t ∷ ts) ∷ grouped_behind g (s ∷ []) ss) y))
    (behind_termed g t (ts ++ s ∷ []) ss (all_append (λ x. x.at / g.term_length ≡ t.at / g.term_length) ts (s ∷ []) h (sym same, tt))))
    (λ (n : fits_in g (t ∷ ts) s ≡ false).
    subst (AllByRecursion (AreOfOneTerm g.term_length)) (sym (cond-false (fits_in g (t ∷ ts) s) (grouped_behind g ((t ∷ ts) ++ s ∷ []) ss) ((t ∷ ts) ∷ grouped_behind g (s ∷ []) ss) n))
    (h, behind_termed g s [] ss tt))
    (cases_Bool (fits_in g (t ∷ ts) s))

termed : (g : Geometry) (ss : List Placed) → AllByRecursion (AreOfOneTerm g.term_length) (grouped g ss)
termed g [] = tt
termed g (s ∷ ss) = behind_termed g s [] ss tt

datagrams_are : (i : Identity) (g : Geometry) (ss : List Placed) → AllByRecursion (λ s. wire_size s s.frame ≤ g.mtu) ss → AreDatagrams i g (grouped g ss)
datagrams_are i g ss h = record { stand = grouped_stand i g ss; sized = sized g ss h; termed = termed g ss }

first_are : (i : Identity) (g : Geometry) (n : ℕ) (ds : List (List Placed)) → AreDatagrams i g ds → AreDatagrams i g (take n ds)
first_are i g n ds a = record { stand = all_take (λ d. StandTogether (wires i d)) n ds a.stand; sized = all_take (λ d. size_of d ≤ g.mtu) n ds a.sized; termed = all_take (AreOfOneTerm g.term_length) n ds a.termed }

either : (P : Placed → Type 0) (b : Bool) (ss : List Placed) → AllByRecursion P ss → AllByRecursion P (cond b ss [])
either P true ss h = h
either P false ss h = tt

sendable_all : (P : Placed → Type 0) (limit : ℕ) (ss : List Placed) → AllByRecursion P ss → AllByRecursion P (sendable limit ss)
sendable_all P limit [] h = tt
sendable_all P limit (s ∷ ss) h = either P (nat_le (sent_end s s.frame) limit) (s ∷ sendable limit ss) (h.0, sendable_all P limit ss h.1)

pub groups_well : GroupsWell
groups_well i g frames limit h = (
  grouped_is g frames,
  datagrams_are i g frames h,
  first_are i g 16 (grouped g (sendable limit frames)) (datagrams_are i g (sendable limit frames) (sendable_all (λ s. wire_size s s.frame ≤ g.mtu) limit frames h)),
  first_are i g 15 (grouped g frames) (datagrams_are i g frames h),
)
