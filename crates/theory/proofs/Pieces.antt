-- The frames of a message, one by one.
use Rattle.std.proofs.Common.{◌≡◌, ℕ, suc, ◌+◌, ◌-◌, ◌*◌, ◌/◌, ◌%◌, ◌<◌, ◌≤◌, ⊎_elim, List, [], ◌∷◌, ◌++◌, length, take, drop, Bool, false, refl, sym, ap, ◌∙◌, length-drop, arith}
use Rattle.std.specs.List.{flat_map}
use Rattle.std.specs.Prelude.{nat_eq, replicate}
use Rattle.std.proofs.lemmas.Bool.{cases_lt, cond-true, cond-false, eq-eqb, ne_eqb}
use Rattle.std.proofs.lemmas.List.{take-append-drop}
use Rattle.std.proofs.lemmas.Nat.{same_from_place, div-add-mod'}
use Rattle.theory.specs.Position.{Geometry, max_payload, cuts_of, rest_cut}
use Rattle.theory.specs.Placed.{payload_of}
use Rattle.theory.specs.Entry.{pieces_of}
use Rattle.theory.proofs.Cuts.{short_cuts, long_parts}

no_rest : (rest : ℕ) → rest ≡ 0 → rest_cut rest ≡ []
no_rest rest e = cond-true (nat_eq rest 0) [] ((rest + 32) ∷ []) (eq-eqb rest 0 e)

some_rest : (rest : ℕ) → 0 < rest → rest_cut rest ≡ (rest + 32) ∷ []
some_rest rest more = cond-false (nat_eq rest 0) [] ((rest + 32) ∷ []) (ne_eqb rest 0 (λ (e : rest ≡ 0). omega (arith, e, more)))

-- by quotient and rest
by_parts : (g : Geometry) (n q r : ℕ) → 32 < g.mtu → max_payload g < n → r < max_payload g → n ≡ q * max_payload g + r → cuts_of g n ≡ replicate q g.mtu ++ rest_cut r
by_parts g n q r long high low e =
    let parts : n / max_payload g * max_payload g + n % max_payload g ≡ q * max_payload g + r = div-add-mod' n (max_payload g) ∙ e in
    let same = same_from_place (n / max_payload g) (n % max_payload g) q r (max_payload g) (omega arith) low parts in
    long_parts g n high
    ∙ ap (λ x. replicate x g.mtu ++ rest_cut (n % max_payload g)) same.0
    ∙ ap (λ x. replicate q g.mtu ++ rest_cut x) same.1

-- behind the first frame of a long message come the frames of what is left
pub cuts_behind : (g : Geometry) (n : ℕ) → 32 < g.mtu → max_payload g < n → cuts_of g n ≡ g.mtu ∷ cuts_of g (n - max_payload g)
cuts_behind g n long high =
    ⊎_elim
    (λ (more : max_payload g < n - max_payload g).
    let rest : ℕ = n - max_payload g in
    let parts : (n - max_payload g) / max_payload g * max_payload g + (n - max_payload g) % max_payload g ≡ n - max_payload g = div-add-mod' (n - max_payload g) (max_payload g) in
    by_parts g n ((n - max_payload g) / max_payload g + 1) ((n - max_payload g) % max_payload g) long high (omega arith) (omega (arith, parts, high))
    ∙ ap (λ x. replicate x g.mtu ++ rest_cut ((n - max_payload g) % max_payload g)) (one_more ((n - max_payload g) / max_payload g))
    ∙ ap (λ xs. g.mtu ∷ xs) (sym (long_parts g (n - max_payload g) more)))
    (λ (few : n - max_payload g ≤ max_payload g).
    ⊎_elim
    (λ (less : n - max_payload g < max_payload g).
    by_parts g n 1 (n - max_payload g) long high less (omega (arith, high))
    ∙ ap (λ xs. g.mtu ∷ xs) (some_rest (n - max_payload g) (omega (arith, high)) ∙ sym (short_cuts g (n - max_payload g) few)))
    (λ (full : max_payload g ≤ n - max_payload g).
    let whole : g.mtu ≡ n - max_payload g + 32 = omega (arith, few, full, high, long) in
    by_parts g n 2 0 long high (omega (arith, long)) (omega (arith, few, full, high, long))
    ∙ ap (λ x. g.mtu ∷ x ∷ []) whole
    ∙ ap (λ xs. g.mtu ∷ xs) (sym (short_cuts g (n - max_payload g) few)))
    (cases_lt (n - max_payload g) (max_payload g)))
    (cases_lt (max_payload g) (n - max_payload g))
  where
    one_more : (x : ℕ) → x + 1 ≡ suc x
    one_more x = omega arith

-- ---- the pieces of a message whose bytes these cuts hold

-- a message's bytes fill these cuts
abbrev pub payload_in : List ℕ → ℕ
payload_in [] = 0
payload_in (cut ∷ cuts) = cut - 32 + payload_in cuts

pub pieces_join : (first : Bool) (cuts message : List ℕ) → length message ≤ payload_in cuts → flat_map payload_of (pieces_of first cuts message) ≡ message
pieces_join first [] [] room = refl
pieces_join first [] (x ∷ xs) room = absurd (omega arith)
pieces_join first (cut ∷ cuts) message room =
    ap (λ xs. take (cut - 32) message ++ xs) (pieces_join false cuts (drop (cut - 32) message) (omega (arith, length-drop (cut - 32) message, room)))
    ∙ take-append-drop (cut - 32) message
