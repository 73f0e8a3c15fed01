-- How much a claim covers: the frames' lengths add up to it, it grows with the message, and it is bounded.
use Rattle.std.proofs.Common.{◌≡◌, ℕ, zero, suc, ◌+◌, ◌*◌, ◌/◌, ◌%◌, ◌<◌, ◌≤◌, ◌⊎◌, inl, inr, ⊎_elim, List, [], ◌∷◌, ◌++◌, true, false, cond, refl, sym, ap, ◌∙◌, arith}
use Rattle.std.specs.Prelude.{nat_le, nat_eq, replicate}
use Rattle.std.proofs.lemmas.Bool.{cases_Bool, cases_lt, leb-true, eqb-true, eqb-false, cond-true, cond-false, ne_eqb, le-leb}
use Rattle.std.proofs.lemmas.Nat.{same_from_place, div-add-mod'}
use Rattle.std.proofs.Math.Nat.{div-eq_of_lt, mod-eq_of_lt, mul-le-mul_left, mul-le-mul_right}
use Rattle.theory.specs.Laws.{CoversFramed, IsClaimBounded}
use Rattle.theory.specs.Position.{Geometry, aligned, max_payload, max_message, cuts_of, rest_cut, span, rest_length, framed_length, greatest_claim}

span_copies : (n cut : ℕ) (more : List ℕ) → span (replicate n cut ++ more) ≡ n * aligned cut + span more
span_copies zero cut more = omega arith
span_copies (suc n) cut more = omega (arith, span_copies n cut more)

rest_span : (rest : ℕ) → span (rest_cut rest) ≡ rest_length rest
rest_span rest =
    ⊎_elim
    (λ (t : nat_eq rest 0 ≡ true). ap (λ b. span (cond b [] ((rest + 32) ∷ []))) t ∙ sym (cond-true (nat_eq rest 0) 0 (aligned (rest + 32)) t))
    (λ (f : nat_eq rest 0 ≡ false). let one : span ((rest + 32) ∷ []) ≡ aligned (rest + 32) = omega arith in ap (λ b. span (cond b [] ((rest + 32) ∷ []))) f ∙ one ∙ sym (cond-false (nat_eq rest 0) 0 (aligned (rest + 32)) f))
    (cases_Bool (nat_eq rest 0))

rest_is : (rest : ℕ) → ((rest ≡ 0) × (rest_length rest ≡ 0)) ⊎ ((0 < rest) × (rest_length rest ≡ aligned (rest + 32)))
rest_is rest =
    ⊎_elim
    (λ (t : nat_eq rest 0 ≡ true). inl (eqb-true rest 0 t, cond-true (nat_eq rest 0) 0 (aligned (rest + 32)) t))
    (λ (f : nat_eq rest 0 ≡ false). let apart = eqb-false rest 0 f in inr (⊎_elim (λ (l : 0 < rest). l) (λ (l : rest ≤ 0). let zero_rest : rest ≡ 0 = omega arith in absurd (apart zero_rest)) (cases_lt 0 rest), cond-false (nat_eq rest 0) 0 (aligned (rest + 32)) f))
    (cases_Bool (nat_eq rest 0))

rest_le : (r s : ℕ) → r ≤ s → rest_length r ≤ rest_length s
rest_le r s l =
    ⊎_elim
    (λ (a : (r ≡ 0) × (rest_length r ≡ 0)). omega (arith, a.1))
    (λ (a : (0 < r) × (rest_length r ≡ aligned (r + 32))).
    ⊎_elim
    (λ (b : (s ≡ 0) × (rest_length s ≡ 0)). absurd (omega (arith, a.0, b.0)))
    (λ (b : (0 < s) × (rest_length s ≡ aligned (s + 32))). omega (arith, a.1, b.1))
    (rest_is s))
    (rest_is r)

module _ (g : Geometry) (unit : g.mtu % 32 ≡ 0) (least : 256 ≤ g.mtu) where
  rest_below : (r : ℕ) → r < max_payload g → rest_length r ≤ g.mtu
  rest_below r l = ⊎_elim (λ (a : (r ≡ 0) × (rest_length r ≡ 0)). omega (arith, a.1)) (λ (a : (0 < r) × (rest_length r ≡ aligned (r + 32))). omega (arith, a.1)) (rest_is r)

  pub span_is : (m : ℕ) → span (cuts_of g m) ≡ framed_length g m
  span_is m =
      ⊎_elim
      (λ (t : nat_le m (max_payload g) ≡ true).
      let one : span ((m + 32) ∷ []) ≡ aligned (m + 32) = omega arith in
      ap (λ b. span (cond b ((m + 32) ∷ []) (replicate (m / max_payload g) g.mtu ++ rest_cut (m % max_payload g)))) t ∙ one ∙ sym (cond-true (nat_le m (max_payload g)) (aligned (m + 32)) (m / max_payload g * g.mtu + rest_length (m % max_payload g)) t))
      (λ (f : nat_le m (max_payload g) ≡ false).
      let whole : aligned g.mtu ≡ g.mtu = omega arith in
      let many : span (replicate (m / max_payload g) g.mtu ++ rest_cut (m % max_payload g)) ≡ m / max_payload g * g.mtu + rest_length (m % max_payload g) = span_copies (m / max_payload g) g.mtu (rest_cut (m % max_payload g)) ∙ ap (λ x. m / max_payload g * x + span (rest_cut (m % max_payload g))) whole ∙ ap (λ x. m / max_payload g * g.mtu + x) (rest_span (m % max_payload g)) in
      ap (λ b. span (cond b ((m + 32) ∷ []) (replicate (m / max_payload g) g.mtu ++ rest_cut (m % max_payload g)))) f ∙ many ∙ sym (cond-false (nat_le m (max_payload g)) (aligned (m + 32)) (m / max_payload g * g.mtu + rest_length (m % max_payload g)) f))
      (cases_Bool (nat_le m (max_payload g)))

  -- by quotient and rest, for any message but the empty one
  framed_at : (m : ℕ) → 0 < m → framed_length g m ≡ m / max_payload g * g.mtu + rest_length (m % max_payload g)
  framed_at m p =
      ⊎_elim
      (λ (t : nat_le m (max_payload g) ≡ true).
      let within : m ≤ max_payload g = leb-true m (max_payload g) t in
      let short : framed_length g m ≡ aligned (m + 32) = cond-true (nat_le m (max_payload g)) (aligned (m + 32)) (m / max_payload g * g.mtu + rest_length (m % max_payload g)) t in
      ⊎_elim
      (λ (l : m < max_payload g).
      let q : m / max_payload g ≡ 0 = div-eq_of_lt l in
      let r : m % max_payload g ≡ m = mod-eq_of_lt l in
      let rest : rest_length m ≡ aligned (m + 32) = cond-false (nat_eq m 0) 0 (aligned (m + 32)) (ne_eqb m 0 (λ e. omega arith)) in
      short ∙ sym rest ∙ ap rest_length (sym r) ∙ sym (ap (λ x. x * g.mtu + rest_length (m % max_payload g)) q ∙ zero_first (rest_length (m % max_payload g))))
      (λ (l : max_payload g ≤ m).
      let parts : m / max_payload g * max_payload g + m % max_payload g ≡ 1 * max_payload g + 0 = div-add-mod' m (max_payload g) ∙ full l within in
      let place = same_from_place (m / max_payload g) (m % max_payload g) 1 0 (max_payload g) (omega arith) (omega arith) parts in
      let whole : aligned (m + 32) ≡ 1 * g.mtu + rest_length 0 = aligned_full l within in
      short ∙ whole ∙ ap (λ x. x * g.mtu + rest_length 0) (sym place.0) ∙ ap (λ x. m / max_payload g * g.mtu + rest_length x) (sym place.1))
      (cases_lt m (max_payload g)))
      (λ (f : nat_le m (max_payload g) ≡ false). cond-false (nat_le m (max_payload g)) (aligned (m + 32)) (m / max_payload g * g.mtu + rest_length (m % max_payload g)) f)
      (cases_Bool (nat_le m (max_payload g)))
    where
      zero_first : (x : ℕ) → 0 * g.mtu + x ≡ x
      zero_first x = omega arith

      full : max_payload g ≤ m → m ≤ max_payload g → m ≡ 1 * max_payload g + 0
      full l k = omega arith

      aligned_full : max_payload g ≤ m → m ≤ max_payload g → aligned (m + 32) ≡ 1 * g.mtu + rest_length 0
      aligned_full l k = let none : rest_length 0 ≡ 0 = refl in omega (arith, none)

  pub framed_le : (m n : ℕ) → m ≤ n → framed_length g m ≤ framed_length g n
  framed_le m n l =
      ⊎_elim
      (λ (p : 0 < m).
      let a : framed_length g m ≡ m / max_payload g * g.mtu + rest_length (m % max_payload g) = framed_at m p in
      let b : framed_length g n ≡ n / max_payload g * g.mtu + rest_length (n % max_payload g) = framed_at n (omega arith) in
      let long : 0 < max_payload g = omega arith in
      let m_is : m / max_payload g * max_payload g + m % max_payload g ≡ m = div-add-mod' m (max_payload g) in
      let n_is : n / max_payload g * max_payload g + n % max_payload g ≡ n = div-add-mod' n (max_payload g) in
      ⊎_elim
      (λ (less : m / max_payload g < n / max_payload g).
      let more : (m / max_payload g + 1) * g.mtu ≤ n / max_payload g * g.mtu = mul-le-mul_right g.mtu (omega arith) in
      let rest : rest_length (m % max_payload g) ≤ g.mtu = rest_below (m % max_payload g) (omega arith) in
      omega arith)
      (λ (same : n / max_payload g ≤ m / max_payload g).
      ⊎_elim
      (λ (less : n / max_payload g < m / max_payload g).
      let more : (n / max_payload g + 1) * max_payload g ≤ m / max_payload g * max_payload g = mul-le-mul_right (max_payload g) (omega arith) in
      let rest : n % max_payload g < max_payload g = omega arith in
      absurd (omega arith))
      (λ (le : m / max_payload g ≤ n / max_payload g).
      let q : m / max_payload g ≡ n / max_payload g = omega arith in
      let q' : m / max_payload g * max_payload g ≡ n / max_payload g * max_payload g = ap (λ x. x * max_payload g) q in
      let w : m / max_payload g * g.mtu ≡ n / max_payload g * g.mtu = ap (λ x. x * g.mtu) q in
      let rest : rest_length (m % max_payload g) ≤ rest_length (n % max_payload g) = rest_le (m % max_payload g) (n % max_payload g) (omega arith) in
      omega arith)
      (cases_lt (n / max_payload g) (m / max_payload g)))
      (cases_lt (m / max_payload g) (n / max_payload g)))
      (λ (z : m ≤ 0).
      let zero_m : m ≡ 0 = omega arith in
      let short : framed_length g m ≡ 32 = ap (framed_length g) zero_m ∙ cond-true (nat_le 0 (max_payload g)) 32 (0 / max_payload g * g.mtu + rest_length (0 % max_payload g)) (le-leb 0 (max_payload g) (omega arith)) in
      let long : 32 ≤ framed_length g n =
      ⊎_elim
      (λ (p : 0 < n). let b : framed_length g n ≡ n / max_payload g * g.mtu + rest_length (n % max_payload g) = framed_at n p in positive n p b)
      (λ (y : n ≤ 0).
      let zero_n : n ≡ 0 = omega arith in
      let small : framed_length g n ≡ 32 = ap (framed_length g) zero_n ∙ cond-true (nat_le 0 (max_payload g)) 32 (0 / max_payload g * g.mtu + rest_length (0 % max_payload g)) (le-leb 0 (max_payload g) (omega arith)) in
      omega arith)
      (cases_lt 0 n) in
      omega arith)
      (cases_lt 0 m)
    where
      positive : (n : ℕ) → 0 < n → framed_length g n ≡ n / max_payload g * g.mtu + rest_length (n % max_payload g) → 32 ≤ framed_length g n
      positive n p b =
          ⊎_elim
          (λ (q : 0 < n / max_payload g). let one : 1 * g.mtu ≤ n / max_payload g * g.mtu = mul-le-mul_right g.mtu (omega arith) in omega arith)
          (λ (q : n / max_payload g ≤ 0).
          let none : n / max_payload g ≡ 0 = omega arith in
          let product : n / max_payload g * max_payload g ≡ 0 * max_payload g = ap (λ x. x * max_payload g) none in
          let n_is : n / max_payload g * max_payload g + n % max_payload g ≡ n = div-add-mod' n (max_payload g) in
          ⊎_elim
          (λ (a : (n % max_payload g ≡ 0) × (rest_length (n % max_payload g) ≡ 0)). absurd (omega (arith, a.0)))
          (λ (a : (0 < n % max_payload g) × (rest_length (n % max_payload g) ≡ aligned (n % max_payload g + 32))). omega (arith, a.1))
          (rest_is (n % max_payload g)))
          (cases_lt 0 (n / max_payload g))

  pub framed_bound : (m : ℕ) → framed_length g m ≤ m + m / 7 + 63
  framed_bound m =
      ⊎_elim
      (λ (p : 0 < m).
      let b : framed_length g m ≡ m / max_payload g * g.mtu + rest_length (m % max_payload g) = framed_at m p in
      let m_is : m / max_payload g * max_payload g + m % max_payload g ≡ m = div-add-mod' m (max_payload g) in
      let many : m / max_payload g * 224 ≤ m / max_payload g * max_payload g = mul-le-mul_left (m / max_payload g) (omega arith) in
      let parts : m / max_payload g * g.mtu ≡ m / max_payload g * max_payload g + m / max_payload g * 32 = widths (m / max_payload g) in
      let rest : rest_length (m % max_payload g) ≤ m % max_payload g + 63 = ⊎_elim (λ (a : (m % max_payload g ≡ 0) × (rest_length (m % max_payload g) ≡ 0)). omega (arith, a.1)) (λ (a : (0 < m % max_payload g) × (rest_length (m % max_payload g) ≡ aligned (m % max_payload g + 32))). omega (arith, a.1)) (rest_is (m % max_payload g)) in
      omega arith)
      (λ (z : m ≤ 0).
      let zero_m : m ≡ 0 = omega arith in
      let short : framed_length g m ≡ 32 = ap (framed_length g) zero_m ∙ cond-true (nat_le 0 (max_payload g)) 32 (0 / max_payload g * g.mtu + rest_length (0 % max_payload g)) (le-leb 0 (max_payload g) (omega arith)) in
      omega arith)
      (cases_lt 0 m)
    where
      widths : (q : ℕ) → q * g.mtu ≡ q * max_payload g + q * 32
      widths q = let whole : g.mtu ≡ max_payload g + 32 = omega arith in ap (λ x. q * x) whole ∙ omega arith

pub claim_bound : (g : Geometry) → g.mtu % 32 ≡ 0 → 256 ≤ g.mtu → greatest_claim g ≤ g.term_length / 7 + 63
claim_bound g unit least = omega (arith, framed_bound g unit least (max_message g))

pub covers_framed : CoversFramed
covers_framed = λ g bytes is. span_is g is.mtu.unit is.mtu.least bytes

pub claim_bounded : IsClaimBounded
claim_bounded = λ g bytes is le. (framed_le g is.mtu.unit is.mtu.least bytes (max_message g) le, claim_bound g is.mtu.unit is.mtu.least)
