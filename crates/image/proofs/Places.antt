-- Where positions stand in a cycle of bytes.
use Rattle.std.proofs.Common.{◌≡◌, ℕ, ◌+◌, ◌-◌, ◌*◌, ◌/◌, ◌%◌, ◌<◌, ◌≤◌, ◌⊎◌, ⊎_elim, inl, inr, ap, ◌∙◌, arith}
use Rattle.std.proofs.lemmas.Bool.{cases_lt}
use Rattle.std.proofs.Math.Nat.{mod-mod_of_dvd}
use Rattle.std.proofs.lemmas.Nat.Gcd.{dvd_of_mod-eq-zero}
use Rattle.std.proofs.lemmas.Nat.{div-add-mod', mod-mul-add}

-- a position further on, at most once round
shifted : (m x d : ℕ) → 0 < m → d ≤ m → ((x + d) % m ≡ x % m + d) ⊎ ((x + d) % m + m ≡ x % m + d)
shifted m x d some few =
    ⊎_elim
    (λ (low : x % m + d < m). inl (ap (λ z. z % m) (near) ∙ mod-mul-add (x / m) m (x % m + d) low))
    (λ (high : m ≤ x % m + d).
    let left : x % m + d - m < m = omega arith in
    let at : (x + d) % m ≡ x % m + d - m = ap (λ z. z % m) (far high) ∙ mod-mul-add (x / m + 1) m (x % m + d - m) left in
    inr (omega (arith, at)))
    (cases_lt (x % m + d) m)
  where
    near : x + d ≡ x / m * m + (x % m + d)
    near = omega (arith, div-add-mod' x m)

    far : m ≤ x % m + d → x + d ≡ (x / m + 1) * m + (x % m + d - m)
    far high = omega (arith, div-add-mod' x m)

-- a position inside a piece
pub inside_place : (m x n d : ℕ) → 0 < m → x % m + n ≤ m → d < n → (x + d) % m ≡ x % m + d
inside_place m x n d some fits l =
    ⊎_elim (λ (near : (x + d) % m ≡ x % m + d). near) (λ (far : (x + d) % m + m ≡ x % m + d). absurd (omega arith)) (shifted m x d some (omega arith))

-- a word's worth of units
pub word_place : (t p : ℕ) → t % 65536 ≡ 0 → 0 < t → p % (3 * t) % 2048 ≡ p % 2048
word_place t p whole some = mod-mod_of_dvd 2048 p (dvd_of_mod-eq-zero 2048 {n = 3 * t} (omega arith))
