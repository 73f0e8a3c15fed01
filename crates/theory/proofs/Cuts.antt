-- The frame lengths of a message: all but the last are full, where each frame begins, and what they take together.
use Rattle.std.proofs.Common.{◌≡◌, ℕ, zero, suc, ◌+◌, ◌-◌, ◌*◌, ◌/◌, ◌%◌, ◌<◌, ◌≤◌, ⊎_elim, List, [], ◌∷◌, ◌++◌, length, take, get_or, true, false, cond, refl, sym, ap, ◌∙◌, subst, arith}
use Rattle.std.specs.List.{AllByRecursion, sum_by}
use Rattle.std.specs.Prelude.{nat_le, nat_eq, replicate, ⊤}
use Rattle.std.proofs.lemmas.Bool.{cases_Bool, leb-true, leb-false, le-leb, lt-leb, cond-true, cond-false, cases_lt}
use Rattle.std.proofs.lemmas.List.Sums.{sum_by-cons}
use Rattle.theory.specs.Position.{Geometry, aligned, max_payload, cuts_of, rest_cut, span}
use Rattle.theory.proofs.Lists.{all_append, all_replicate}

-- all but the last have this length
abbrev pub AreFull : ℕ → List ℕ → Type 0
AreFull full [] = ⊤
AreFull full (cut ∷ []) = ⊤
AreFull full (cut ∷ next ∷ cuts) = (cut ≡ full) × AreFull full (next ∷ cuts)

copies_full : (full n : ℕ) (more : List ℕ) → length more ≤ 1 → AreFull full (replicate n full ++ more)
copies_full full zero [] few = tt
copies_full full zero (x ∷ []) few = tt
copies_full full zero (x ∷ y ∷ more) few = absurd (omega arith)
copies_full full (suc zero) [] few = tt
copies_full full (suc zero) (x ∷ more) few = (refl, copies_full full zero (x ∷ more) few)
copies_full full (suc (suc n)) more few = (refl, copies_full full (suc n) more few)

one_rest : (rest : ℕ) → length (rest_cut rest) ≤ 1
one_rest rest =
    ⊎_elim
    (λ (t : nat_eq rest 0 ≡ true). subst (λ b. length (cond b [] ((rest + 32) ∷ [])) ≤ 1) (sym t) (omega arith))
    (λ (f : nat_eq rest 0 ≡ false). subst (λ b. length (cond b [] ((rest + 32) ∷ [])) ≤ 1) (sym f) (omega arith))
    (cases_Bool (nat_eq rest 0))

-- the lengths of a short message and of a long one
pub short_cuts : (g : Geometry) (m : ℕ) → m ≤ max_payload g → cuts_of g m ≡ (m + 32) ∷ []
short_cuts g m low = cond-true (nat_le m (max_payload g)) ((m + 32) ∷ []) (replicate (m / max_payload g) g.mtu ++ rest_cut (m % max_payload g)) (le-leb m (max_payload g) low)

pub long_parts : (g : Geometry) (m : ℕ) → max_payload g < m → cuts_of g m ≡ replicate (m / max_payload g) g.mtu ++ rest_cut (m % max_payload g)
long_parts g m high = cond-false (nat_le m (max_payload g)) ((m + 32) ∷ []) (replicate (m / max_payload g) g.mtu ++ rest_cut (m % max_payload g)) (lt-leb m (max_payload g) high)

pub full_cuts : (g : Geometry) (m : ℕ) → AreFull g.mtu (cuts_of g m)
full_cuts g m =
    ⊎_elim
    (λ (t : nat_le m (max_payload g) ≡ true). subst (AreFull g.mtu) (sym (short_cuts g m (leb-true m (max_payload g) t))) tt)
    (λ (f : nat_le m (max_payload g) ≡ false). subst (AreFull g.mtu) (sym (long_parts g m (leb-false m (max_payload g) f))) (copies_full g.mtu (m / max_payload g) (rest_cut (m % max_payload g)) (one_rest (m % max_payload g))))
    (cases_Bool (nat_le m (max_payload g)))

-- where a frame begins, and how long it is
pub span_before : (full : ℕ) (cuts : List ℕ) (k : ℕ) → aligned full ≡ full → AreFull full cuts → k < length cuts → span (take k cuts) ≡ k * full
span_before full [] k unit all low = absurd (omega arith)
span_before full (cut ∷ cuts) zero unit all low = omega arith
span_before full (cut ∷ []) (suc k) unit all low = absurd (omega arith)
span_before full (cut ∷ next ∷ cuts) (suc k) unit all low =
    let same : aligned cut ≡ full = ap aligned all.0 ∙ unit in
    omega (arith, same, span_before full (next ∷ cuts) k unit all.1 (omega arith))

pub last_cut : (full : ℕ) (cuts : List ℕ) (k : ℕ) → AreFull full cuts → AllByRecursion (λ cut. 32 ≤ cut) cuts → k + 1 ≡ length cuts → get_or cuts k 0 + k * (full - 32) ≡ sum_by (λ cut. cut - 32) cuts + 32
last_cut full [] k all units end = absurd (omega arith)
last_cut full (cut ∷ []) zero all units end = let none : sum_by (λ x. x - 32) [] ≡ 0 = refl in omega (arith, units.0, sum_by-cons (λ x. x - 32) cut [], none)
last_cut full (cut ∷ []) (suc k) all units end = absurd (omega arith)
last_cut full (cut ∷ next ∷ cuts) zero all units end = absurd (omega arith)
last_cut full (cut ∷ next ∷ cuts) (suc k) all units end =
    let same : cut - 32 ≡ full - 32 = ap (λ x. x - 32) all.0 in
    omega (arith, same, sum_by-cons (λ x. x - 32) cut (next ∷ cuts), last_cut full (next ∷ cuts) k all.1 units.1 (omega arith))

-- each frame has its header
rest_units : (rest : ℕ) → AllByRecursion (λ cut. 32 ≤ cut) (rest_cut rest)
rest_units rest =
    ⊎_elim
    (λ (t : nat_eq rest 0 ≡ true). subst (λ b. AllByRecursion (λ cut. 32 ≤ cut) (cond b [] ((rest + 32) ∷ []))) (sym t) tt)
    (λ (f : nat_eq rest 0 ≡ false). subst (λ b. AllByRecursion (λ cut. 32 ≤ cut) (cond b [] ((rest + 32) ∷ []))) (sym f) (omega arith, tt))
    (cases_Bool (nat_eq rest 0))

pub cut_units : (g : Geometry) (m : ℕ) → 32 ≤ g.mtu → AllByRecursion (λ cut. 32 ≤ cut) (cuts_of g m)
cut_units g m l =
    ⊎_elim
    (λ (t : nat_le m (max_payload g) ≡ true). subst (λ b. AllByRecursion (λ cut. 32 ≤ cut) (cond b ((m + 32) ∷ []) (replicate (m / max_payload g) g.mtu ++ rest_cut (m % max_payload g)))) (sym t) (omega arith, tt))
    (λ (f : nat_le m (max_payload g) ≡ false). subst (λ b. AllByRecursion (λ cut. 32 ≤ cut) (cond b ((m + 32) ∷ []) (replicate (m / max_payload g) g.mtu ++ rest_cut (m % max_payload g)))) (sym f) (all_append (λ cut. 32 ≤ cut) (replicate (m / max_payload g) g.mtu) (rest_cut (m % max_payload g)) (all_replicate (λ cut. 32 ≤ cut) (m / max_payload g) g.mtu l) (rest_units (m % max_payload g))))
    (cases_Bool (nat_le m (max_payload g)))

-- ---- what they take together

some_quotient : (m d : ℕ) → 0 < d → d ≤ m → 0 < m / d
some_quotient m d p h =
    ⊎_elim
    (λ (l : 0 < m / d). l)
    (λ (l : m / d ≤ 0). let none : m / d ≡ 0 = omega arith in absurd (omega (arith, ap (λ x. d * x) none)))
    (cases_lt 0 (m / d))

long_copies : (n cut : ℕ) (more : List ℕ) → 0 < n → 0 < cut → 0 < span (replicate n cut ++ more)
long_copies zero cut more h p = absurd (omega arith)
long_copies (suc n) cut more h p = omega arith

pub long_cuts : (g : Geometry) (m : ℕ) → 0 < max_payload g → 0 < span (cuts_of g m)
long_cuts g m p =
    ⊎_elim
    (λ (t : nat_le m (max_payload g) ≡ true). subst (λ b. 0 < span (cond b ((m + 32) ∷ []) (replicate (m / max_payload g) g.mtu ++ rest_cut (m % max_payload g)))) (sym t) (omega arith))
    (λ (f : nat_le m (max_payload g) ≡ false).
    let above : max_payload g < m = leb-false m (max_payload g) f in
    let copies : 0 < span (replicate (m / max_payload g) g.mtu ++ rest_cut (m % max_payload g)) = long_copies (m / max_payload g) g.mtu (rest_cut (m % max_payload g)) (some_quotient m (max_payload g) p (omega arith)) (omega arith) in
    subst (λ b. 0 < span (cond b ((m + 32) ∷ []) (replicate (m / max_payload g) g.mtu ++ rest_cut (m % max_payload g)))) (sym f) copies)
    (cases_Bool (nat_le m (max_payload g)))

pub span_unit : (cuts : List ℕ) → span cuts % 32 ≡ 0
span_unit [] = refl
span_unit (cut ∷ cuts) = omega (arith, span_unit cuts)

-- ---- none is above the MTU

rest_short : (rest mtu : ℕ) → rest + 32 ≤ mtu → AllByRecursion (λ cut. cut ≤ mtu) (rest_cut rest)
rest_short rest mtu l =
    ⊎_elim
    (λ (t : nat_eq rest 0 ≡ true). subst (λ b. AllByRecursion (λ cut. cut ≤ mtu) (cond b [] ((rest + 32) ∷ []))) (sym t) tt)
    (λ (f : nat_eq rest 0 ≡ false). subst (λ b. AllByRecursion (λ cut. cut ≤ mtu) (cond b [] ((rest + 32) ∷ []))) (sym f) (l, tt))
    (cases_Bool (nat_eq rest 0))

pub cut_short : (g : Geometry) (m : ℕ) → 256 ≤ g.mtu → AllByRecursion (λ cut. cut ≤ g.mtu) (cuts_of g m)
cut_short g m l =
    ⊎_elim
    (λ (t : nat_le m (max_payload g) ≡ true). let within : m ≤ max_payload g = leb-true m (max_payload g) t in subst (λ b. AllByRecursion (λ cut. cut ≤ g.mtu) (cond b ((m + 32) ∷ []) (replicate (m / max_payload g) g.mtu ++ rest_cut (m % max_payload g)))) (sym t) (omega arith, tt))
    (λ (f : nat_le m (max_payload g) ≡ false).
    let long : 0 < max_payload g = omega arith in
    let rest : m % max_payload g + 32 ≤ g.mtu = omega arith in
    let whole : g.mtu ≤ g.mtu = omega arith in
    subst (λ b. AllByRecursion (λ cut. cut ≤ g.mtu) (cond b ((m + 32) ∷ []) (replicate (m / max_payload g) g.mtu ++ rest_cut (m % max_payload g)))) (sym f) (all_append (λ cut. cut ≤ g.mtu) (replicate (m / max_payload g) g.mtu) (rest_cut (m % max_payload g)) (all_replicate (λ cut. cut ≤ g.mtu) (m / max_payload g) g.mtu whole) (rest_short (m % max_payload g) g.mtu rest)))
    (cases_Bool (nat_le m (max_payload g)))
