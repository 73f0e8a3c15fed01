-- Where a range that is due begins.
use Rattle.std.proofs.Common.{◌≡◌, ℕ, ◌+◌, ◌-◌, ◌*◌, ◌/◌, ◌<◌, ◌≤◌, List, [], ◌∷◌, Bool, true, false, cond, max, min, nat_eq, nat_le, nat_lt, Option, Some, None, find, filter, MatchOption, refl, sym, ap, ◌∙◌, subst, ⊎_elim, arith}
use Rattle.std.specs.Option.{option_map}
use Rattle.std.proofs.lemmas.Bool.{cases_Bool, and_from, and_parts, both_ways, cond-true, cond-false, eqb-true, eq-eqb, leb-true, le-leb, ltb-true, lt-ltb, or_cases, or_left, or_right}
use Rattle.theory.specs.Position.{Geometry}
use Rattle.theory.specs.Resend.{Action, first_resent, is_in_range, range_end}
use Rattle.sender.specs.Resending.Handler.{is_near, starts_at}
use Rattle.sender.specs.Resending.Laws.{IsWanted, IsFirstAsked, NearGiveRange, RangeBeginsFirst}
use Rattle.sender.specs.Resending.Spaced.{AreSpaced}

asked_if : (g : Geometry) (s : ℕ) (a : Action) (p : ℕ) → is_in_range g s a p ≡ true → IsWanted g s a p
asked_if g s a p t =
    let both = and_parts (nat_le (first_resent g s a.at) p) (nat_lt p (range_end g s a)) t in
    let low : max a.at (s - 3 * g.term_length / 4) ≤ p = leb-true (first_resent g s a.at) p both.0 in
    let high : p < min (min (a.at + a.length) s) (a.at / g.term_length * g.term_length + g.term_length) = ltb-true p (range_end g s a) both.1 in
    record { from = omega arith; near = omega arith; within = omega arith; behind = omega arith; one_term = omega arith }

in_range_if : (g : Geometry) (s : ℕ) (a : Action) (p : ℕ) → IsWanted g s a p → is_in_range g s a p ≡ true
in_range_if g s a p is =
    and_from (nat_le (first_resent g s a.at) p) (nat_lt p (range_end g s a))
    (le-leb (first_resent g s a.at) p (omega (arith, is.from, is.near)))
    (lt-ltb p (range_end g s a) (omega (arith, is.within, is.behind, is.one_term)))

-- the first that passes a test
record IsFirst (test : ℕ → Bool) (xs : List ℕ) (q : ℕ) : Type 0 where
  there : starts_at xs q ≡ true
  passes : test q ≡ true
  first : (p : ℕ) → starts_at xs p ≡ true → test p ≡ true → q ≤ p

at_or_later : (x p : ℕ) (xs : List ℕ) (P : Type 0) → starts_at (x ∷ xs) p ≡ true → (x ≡ p → P) → (starts_at xs p ≡ true → P) → P
at_or_later x p xs P h here later = ⊎_elim (λ (t : nat_eq x p ≡ true). here (eqb-true x p t)) later (or_cases (nat_eq x p) (starts_at xs p) h)

above : (lower upper p : ℕ) (xs : List ℕ) → AreSpaced lower upper xs → starts_at xs p ≡ true → lower ≤ p
above lower upper p [] h t = absurd (cc)
above lower upper p (x ∷ xs) h t = at_or_later x p xs (lower ≤ p) t (λ e. omega (arith, h.0, e)) (λ r. omega (arith, h.0, above (x + 32) upper p xs h.1 r))

found : (test : ℕ → Bool) (lower upper : ℕ) (xs : List ℕ) → AreSpaced lower upper xs → MatchOption (find test xs) ((p : ℕ) → starts_at xs p ≡ true → test p ≡ true → ⊥) (IsFirst test xs)
found test lower upper [] h = λ p t passes. absurd (cc)
found test lower upper (x ∷ xs) h =
    ⊎_elim
    (λ (t : test x ≡ true). subst M (sym (cond-true (test x) (Some x) (find test xs) t)) (record {
      there = or_left (nat_eq x x) (starts_at xs x) (eq-eqb x x refl);
      passes = t;
      first = λ p there passes. at_or_later x p xs (x ≤ p) there (λ e. omega (arith, e)) (λ r. omega (arith, above (x + 32) upper p xs h.1 r));
    }))
    (λ (f : test x ≡ false). subst M (sym (cond-false (test x) (Some x) (find test xs) f)) (later f (find test xs) (found test (x + 32) upper xs h.1)))
    (cases_Bool (test x))
  where
    M : Option ℕ → Type 0
    M o = MatchOption o ((p : ℕ) → starts_at (x ∷ xs) p ≡ true → test p ≡ true → ⊥) (IsFirst test (x ∷ xs))

    later : test x ≡ false → (o : Option ℕ) → MatchOption o ((p : ℕ) → starts_at xs p ≡ true → test p ≡ true → ⊥) (IsFirst test xs) → M o
    later f None none = λ p there passes. at_or_later x p xs ⊥ there (λ e. both_ways (test x) f (ap test e ∙ passes)) (λ r. none p r passes)
    later f (Some q) is = record {
      there = or_right (nat_eq x q) (starts_at xs q) is.there;
      passes = is.passes;
      first = λ p there passes. at_or_later x p xs (q ≤ p) there (λ e. absurd (both_ways (test x) f (ap test e ∙ passes))) (λ r. is.first p r passes);
    }

pub range_begins_first : RangeBeginsFirst
range_begins_first g s lower upper starts a h = of (find (is_in_range g s a) starts) (found (is_in_range g s a) lower upper starts h)
  where
    of : (o : Option ℕ) → MatchOption o ((p : ℕ) → starts_at starts p ≡ true → is_in_range g s a p ≡ true → ⊥) (IsFirst (is_in_range g s a) starts)
        → MatchOption (option_map (λ p. record { start = p; length = range_end g s a - p }) o) ((p : ℕ) → starts_at starts p ≡ true → IsWanted g s a p → ⊥) (IsFirstAsked g s starts a)
    of None none = λ p there asked. none p there (in_range_if g s a p asked)
    of (Some q) is =
        let asked = asked_if g s a q is.passes in
        let below : q < min (min (a.at + a.length) s) (a.at / g.term_length * g.term_length + g.term_length) = omega (arith, asked.within, asked.behind, asked.one_term) in
        record {
          start = is.there;
          asked = asked;
          first = λ p there also. is.first p there (in_range_if g s a p also);
          all = λ p le. (
            (λ lt. record { from = omega (arith, asked.from, le); near = omega (arith, asked.near, le); within = omega arith; behind = omega arith; one_term = omega arith }),
            (λ also. omega (arith, below, le, also.within, also.behind, also.one_term)),
          );
        }

-- ---- the near starts give the range

near_if : (g : Geometry) (s : ℕ) (a : Action) (p : ℕ) → is_in_range g s a p ≡ true → is_near g s p ≡ true
near_if g s a p t = le-leb s (p + 3 * g.term_length / 4) (asked_if g s a p t).near

found_near : (test near : ℕ → Bool) (xs : List ℕ) → ((p : ℕ) → test p ≡ true → near p ≡ true) → find test (filter near xs) ≡ find test xs
found_near test near [] weaker = refl
found_near test near (x ∷ xs) weaker =
    ⊎_elim
    (λ (t : near x ≡ true). rw t (ap (λ o. cond (test x) (Some x) o) (found_near test near xs weaker)))
    (λ (f : near x ≡ false).
    ⊎_elim
    (λ (t : test x ≡ true). absurd (both_ways (near x) f (weaker x t)))
    (λ (e : test x ≡ false). rw (f, e) (found_near test near xs weaker))
    (cases_Bool (test x)))
    (cases_Bool (near x))

pub near_give_range : NearGiveRange
near_give_range g s starts a = ap (option_map (λ p. record { start = p; length = range_end g s a - p })) (found_near (is_in_range g s a) (is_near g s) starts (near_if g s a))
