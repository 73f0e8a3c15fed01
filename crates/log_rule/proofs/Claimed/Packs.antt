-- Which count a partition has, and functions of a count that are changed at one.
use Rattle.std.proofs.Common.{◌≡◌, ◌≢◌, ℕ, ◌+◌, ◌-◌, ◌%◌, ◌≤◌, refl, sym, lt_of_not-le, arith}
use native.Mathlib.Decide.{dec_le, ℕ_discrete}
use Rattle.atomic_table.proofs.Lists.{one_turn}
use Rattle.log_rule.specs.Claims.Packs.{tail_place}

-- ---- partitions

-- two counts of the last three that share a partition are one
pub one_count : (n a b : ℕ) → a ≤ n → n ≤ a + 2 → b ≤ n → n ≤ b + 2 → tail_place a ≡ tail_place b → a ≡ b
one_count n a b la lb ma mb e = let e' : a % 3 ≡ b % 3 = omega arith in go (dec_le a b) e'
  where
    go : Dec (a ≤ b) → a % 3 ≡ b % 3 → a ≡ b
    go (yes le) m = one_turn a b 3 le (omega arith) m
    go (no gt) m = let lt = lt_of_not-le gt in sym (one_turn b a 3 (omega arith) (omega arith) (sym m))

-- the count of the last three that a partition has, where it has had one
pub holds : (n p : ℕ) → p ≤ n → (k : ℕ) × (k ≤ n) × (n ≤ k + 2) × (tail_place k ≡ tail_place p) × (p ≤ k)
holds n p le = go (ℕ_discrete (n % 3) (p % 3)) (ℕ_discrete ((n - 1) % 3) (p % 3))
  where
    go : Dec (n % 3 ≡ p % 3) → Dec ((n - 1) % 3 ≡ p % 3) → (k : ℕ) × (k ≤ n) × (n ≤ k + 2) × (tail_place k ≡ tail_place p) × (p ≤ k)
    go (yes e) d = (n, omega arith, omega arith, omega arith, omega arith)
    go (no a) (yes e) = (n - 1, omega arith, omega arith, omega arith, omega arith)
    go (no a) (no b) = (n - 2, omega arith, omega arith, omega arith, omega arith)

-- ---- functions of a count, changed at one

abbrev pick : {P : Type 0} → Dec P → ℕ → ℕ → ℕ
pick (yes _) a b = a
pick (no _) a b = b

pub put : (ℕ → ℕ) → ℕ → ℕ → ℕ → ℕ
put f i c j = pick (ℕ_discrete j i) c (f j)

pub at_put : (f : ℕ → ℕ) (i c : ℕ) (F : ℕ → Type 0) (j : ℕ) → (j ≡ i → F c) → (j ≢ i → F (f j)) → F (put f i c j)
unfolding put
at_put f i c F j here other = go (ℕ_discrete j i)
  where
    go : (d : Dec (j ≡ i)) → F (pick d c (f j))
    go (yes e) = here e
    go (no n) = other n

pub put_here : (f : ℕ → ℕ) (i c : ℕ) → put f i c i ≡ c
put_here f i c = at_put f i c (λ x. x ≡ c) i (λ _. refl) (λ n. absurd (n refl))

pub put_else : (f : ℕ → ℕ) (i c j : ℕ) → j ≢ i → put f i c j ≡ f j
put_else f i c j ne = at_put f i c (λ x. x ≡ f j) j (λ e. absurd (ne e)) (λ _. refl)
