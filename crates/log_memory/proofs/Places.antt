-- Units and their slots: apart in one window, in a row in one range.
use Rattle.std.proofs.Common.{◌≡◌, ℕ, ◌+◌, ◌-◌, ◌*◌, ◌/◌, ◌%◌, ◌<◌, ◌≤◌, ◌⊎◌, inl, inr, ⊎_elim, sym, ap, ◌∙◌, lt_of_not-le, mod-eq_of_lt, mod-lt, mul-le-mul_right, arith}
use Rattle.std.proofs.Math.Arith.{mod-mul}
use Rattle.std.proofs.Math.Nat.{add-mul-mod_self_left, div-add-mod}
use mathlib.Core.Logic.{dite}
use native.Mathlib.Decide.{dec_le}
use Rattle.atomic_table.proofs.Lists.{one_turn}
use Rattle.theory.specs.Position.{Geometry}
use Rattle.log_memory.specs.Places.{slot_of, units}
use Rattle.log_memory.proofs.Rows.{Outside}

-- three terms in units
pub units_are : (g : Geometry) → g.term_length % 32 ≡ 0 → units g * 32 ≡ 3 * g.term_length
unfolding units
units_are g whole = let t : ℕ = g.term_length in omega arith

pub some_units : (g : Geometry) → 65536 ≤ g.term_length → 0 < units g
unfolding units
some_units g least = let t : ℕ = g.term_length in omega arith

-- ---- one window

-- two units of one window that share their place are one
pub one_unit : (n c p q : ℕ) → p % 32 ≡ 0 → q % 32 ≡ 0 → c ≤ p → p < c + n * 32 → c ≤ q → q < c + n * 32 → p / 32 % n ≡ q / 32 % n → p ≡ q
one_unit n c p q up uq lp hp lq hq same = dite (dec_le (p / 32) (q / 32))
    (λ le. let e : p / 32 ≡ q / 32 = one_turn (p / 32) (q / 32) n le (omega arith) same in omega arith)
    (λ gt. let e : q / 32 ≡ p / 32 = one_turn (q / 32) (p / 32) n (omega arith) (omega arith) (sym same) in omega arith)

pub slots_apart : (n p q j k : ℕ) → j < 8 → k < 8 → slot_of n p j ≡ slot_of n q k → (p / 32 % n ≡ q / 32 % n) × (j ≡ k)
slots_apart n p q j k a b e = let x : ℕ = p / 32 % n in let y : ℕ = q / 32 % n in (omega arith, omega arith)

pub slot_low : (n p j : ℕ) → 0 < n → j < 8 → slot_of n p j < 8 * n
slot_low n p j some lt = let q : ℕ = p / 32 % n in let m : q < n = mod-lt (p / 32) some in omega arith

pub head_apart : (n p q : ℕ) → 208 + p / 32 % n ≡ 208 + q / 32 % n → p / 32 % n ≡ q / 32 % n
head_apart n p q e = let x : ℕ = p / 32 % n in let y : ℕ = q / 32 % n in omega arith

-- ---- one range

-- a range within a term doesn't pass the ring's end
pub in_ring : (t p m : ℕ) → 0 < t → p % t + m ≤ t → p % (3 * t) + m ≤ 3 * t
in_ring t p m some low =
    let e : p % (3 * t) ≡ (p / t % 3) * t + p % t = mod-mul p (omega arith) some in let q : ℕ = p / t % 3 in let lt : q < 3 = mod-lt (p / t) (omega arith) in
    let up : q * t ≤ 2 * t = mul-le-mul_right t (omega arith) in let x : ℕ = q * t in let e' : p % (3 * t) ≡ x + p % t = e in omega arith

pub place_is : (n p : ℕ) → 0 < n → p % 32 ≡ 0 → (p / 32 % n) * 32 ≡ p % (n * 32)
place_is n p some unit = let e : p % (n * 32) ≡ (p / 32 % n) * 32 + p % 32 = mod-mul p some (omega arith) in let x : ℕ = p / 32 % n in omega arith

pub add_small : (n a x : ℕ) → a % n + x < n → (a + x) % n ≡ a % n + x
add_small n a x low =
    let parts : n * (a / n) + a % n ≡ a = div-add-mod a n in let y : ℕ = n * (a / n) in let r : ℕ = a % n in let parts' : y + r ≡ a = parts in
    let sum : a + x ≡ (r + x) + y = omega arith in
    ap (λ (z : ℕ). z % n) sum ∙ add-mul-mod_self_left (a % n + x) n (a / n) ∙ mod-eq_of_lt low

-- the place of a unit of a range
pub in_row : (n p d : ℕ) → 0 < n → p % 32 ≡ 0 → d % 32 ≡ 0 → p % (n * 32) + d < n * 32 → (p + d) / 32 % n ≡ p / 32 % n + d / 32
in_row n p d some unit units' low =
    let e = place_is n p some unit in let q : ℕ = p / 32 % n in let at : q * 32 ≡ p % (n * 32) = e in let s : (p + d) / 32 ≡ p / 32 + d / 32 = omega arith in
    ap (λ (z : ℕ). z % n) s ∙ add_small n (p / 32) (d / 32) (let z : q + d / 32 < n = omega arith in z)

-- a slot of a range's row, by its unit
pub record RowUnit (n p m i : ℕ) : Type 0 where
  pub at : ℕ
  pub number : ℕ
  pub unit : at % 32 ≡ 0
  pub from : p ≤ at
  pub to : at < p + m
  pub low : number < 8
  pub is : slot_of n at number ≡ i
  -- it is a first one where its number says so
  pub first : i % 8 ≡ 0 → number ≡ 0

pub row_unit : (n p m i : ℕ) → 0 < n → p % 32 ≡ 0 → m % 32 ≡ 0 → p % (n * 32) + m ≤ n * 32 → slot_of n p 0 ≤ i → i < slot_of n p 0 + m / 4 → RowUnit n p m i
row_unit n p m i some unit whole low lo hi =
    let q : ℕ = p / 32 % n in let x : ℕ = i - 8 * q in let d : ℕ = 32 * (x / 8) in let lo' : 8 * q + 0 ≤ i = lo in let hi' : i < 8 * q + 0 + m / 4 = hi in
    let du : d % 32 ≡ 0 = omega arith in let dm : d < m = omega arith in
    let row : (p + d) / 32 % n ≡ q + d / 32 = in_row n p d some unit du (let a = low in let z : p % (n * 32) + d < n * 32 = omega arith in z) in record {
      at = p + d;
      number = x % 8;
      unit = omega arith;
      from = omega arith;
      to = omega arith;
      low = omega arith;
      is = (let z : ℕ = (p + d) / 32 % n in let row' : z ≡ q + d / 32 = row in let s : 8 * z + x % 8 ≡ i = omega arith in s);
      first = λ e. omega arith;
    }

-- the slots of a unit of the range are in its row
pub in_range : (n p m at j : ℕ) → 0 < n → p % 32 ≡ 0 → m % 32 ≡ 0 → p % (n * 32) + m ≤ n * 32 → at % 32 ≡ 0 → p ≤ at → at < p + m → j < 8 → (slot_of n p 0 ≤ slot_of n at j) × (slot_of n at j < slot_of n p 0 + m / 4)
in_range n p m at j some unit whole low u from to lt =
    let d : ℕ = at - p in let row : (p + d) / 32 % n ≡ p / 32 % n + d / 32 = in_row n p d some unit (omega arith) (let a = low in let z : p % (n * 32) + d < n * 32 = omega arith in z) in
    let same : at / 32 % n ≡ p / 32 % n + d / 32 = ap (λ (z : ℕ). z / 32 % n) (let z : at ≡ p + d = omega arith in z) ∙ row in
    let x : ℕ = at / 32 % n in let q : ℕ = p / 32 % n in let same' : x ≡ q + d / 32 = same in (omega arith, omega arith)

-- those of a unit of the window that isn't in the range aren't in its row
pub row_apart : (n c p m q j : ℕ) → 0 < n → p % 32 ≡ 0 → m % 32 ≡ 0 → p % (n * 32) + m ≤ n * 32 → c ≤ p → p + m ≤ c + n * 32 → q % 32 ≡ 0 → c ≤ q → q < c + n * 32 → (q < p) ⊎ (p + m ≤ q) → j < 8 → Outside (slot_of n p 0) (m / 4) (slot_of n q j)
row_apart n c p m q j some unit whole low cp pc uq cq qc out lt = dite (dec_le (slot_of n p 0) (slot_of n q j))
    (λ lo. dite (dec_le (slot_of n p 0 + m / 4) (slot_of n q j)) (λ hi. inr hi)
    (λ no. let r = row_unit n p m (slot_of n q j) some unit whole low lo (lt_of_not-le no) in
    let one : q ≡ r.at = one_unit n c q r.at uq r.unit cq qc (let f = r.from in omega arith) (let f = r.to in omega arith) (sym (slots_apart n r.at q r.number j r.low lt r.is).0) in
    absurd (⊎_elim (λ lq. let f = r.from in omega arith) (λ hq. let f = r.to in omega arith) out)))
    (λ no. inl (lt_of_not-le no))
