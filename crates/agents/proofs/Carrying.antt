-- What devices carry, one part after the other.
use Rattle.std.proofs.Common.{◌≡◌, ◌⊎◌, inl, inr, ℕ, zero, suc, ◌+◌, ◌<◌, ◌≤◌, List, [], ◌∷◌, ◌++◌, take, drop, Some, eq-or-lt_of_le, sym, ap, ◌∙◌, arith, append-nil, append_assoc}
use Rattle.std.specs.Prelude.{slice_get}
use Rattle.std.proofs.lemmas.List.{take-append-drop}
use Rattle.endpoint.specs.Devices.{Device, HasGrown, NeverFall}
use Rattle.agents.specs.Traffic.{Carries, IsPart}

take_one : (xs : List (List ℕ)) (i : ℕ) (b : List ℕ) → slice_get xs i ≡ Some b → take (suc i) xs ≡ take i xs ++ b ∷ []
take_one [] i b h = absurd (cc)
take_one (x ∷ xs) zero b h = let same : x ≡ b = cc in ap (λ y. y ∷ []) same
take_one (x ∷ xs) (suc i) b h = ap (λ ys. x ∷ ys) (take_one xs i b h)

-- one more was sent
pub sent_one : (old mid new all : List (List ℕ)) (i : ℕ) (b : List ℕ) → mid ≡ old ++ take i all → slice_get all i ≡ Some b → new ≡ mid ++ b ∷ [] → new ≡ old ++ take (i + 1) all
sent_one old mid new all i b h found more =
    let next : i + 1 ≡ suc i = omega arith in
    more ∙ ap (λ xs. xs ++ b ∷ []) h ∙ append_assoc old (take i all) (b ∷ []) ∙ ap (λ xs. old ++ xs) (sym (ap (λ k. take k all) next ∙ take_one all i b found))

pub first_part : (all : List (List ℕ)) (i : ℕ) → IsPart all (take i all)
first_part all i = record { unsent = drop i all; parts = sym (take-append-drop i all) }

-- a count that has grown later, and hasn't fallen before
pub grown_later : (a b c : ℕ) → a ≤ b → HasGrown b c → HasGrown a c
grown_later a b c low (inl h) = inl (omega (arith, low, h))
grown_later a b c low (inr h) = either (eq-or-lt_of_le low)
  where
    either : (a ≡ b) ⊎ (a < b) → HasGrown a c
    either (inl e) = inr (e ∙ h.0, h.1)
    either (inr l) = inl (omega (arith, l, h.0, h.1))

pub never_fall_on : (a b c : Device) → NeverFall a b → NeverFall b c → NeverFall a c
never_fall_on a b c h k = record { failures = omega (arith, h.failures, k.failures); nones = omega (arith, h.nones, k.nones) }

pub carried_on : (a b c : Device) (ins outs more_ins more_outs : List (List ℕ)) → Carries a ins outs b → Carries b more_ins more_outs c → Carries a (ins ++ more_ins) (outs ++ more_outs) c
carried_on a b c ins outs more_ins more_outs h k = record {
  received = k.received ∙ ap (λ xs. xs ++ more_ins) h.received ∙ append_assoc a.received ins more_ins;
  sent = k.sent ∙ ap (λ xs. xs ++ more_outs) h.sent ∙ append_assoc a.sent outs more_outs;
}

pub part_behind : (given more sent : List (List ℕ)) → IsPart more sent → IsPart (given ++ more) (given ++ sent)
part_behind given more sent p = record { unsent = p.unsent; parts = ap (λ xs. given ++ xs) p.parts ∙ sym (append_assoc given sent p.unsent) }

pub whole_part : (given : List (List ℕ)) → IsPart given given
whole_part given = record { unsent = []; parts = sym (append-nil given) }
