-- How an addition goes.
use Rattle.std.proofs.Common.{◌≡◌, ◌∙◌, ℕ, ◌+◌, ◌-◌, ◌*◌, ◌<◌, ◌≤◌, Bool, true, false, cond, ⊎_elim, refl, arith}
use Rattle.std.specs.Prelude.{nat_eq, nat_le}
use Rattle.std.proofs.lemmas.Bool.{cases_lt, cond-false, cond-true, eq-eqb, eqb-false, le-leb, leb-false, leb-true, lt-leb, ne_eqb}
use Rattle.one_hand.specs.Stream.{IsClosed, IsUsedUp, IsLimited, Fits, Trips, Stream, case_of, covered, room, term_of}

module _ (s : Stream) (n : ℕ) where
  pub case_closed : s.closed ≡ true → case_of s n ≡ IsClosed
  case_closed e = cond-true s.closed IsClosed (cond (nat_eq (room s) 0) IsUsedUp (cond (nat_le s.limit s.tail) IsLimited (cond (nat_le (covered s n) (room s)) Fits Trips))) e

  module _ (unclosed : s.closed ≡ false) where
    opened_case : case_of s n ≡ cond (nat_eq (room s) 0) IsUsedUp (cond (nat_le s.limit s.tail) IsLimited (cond (nat_le (covered s n) (room s)) Fits Trips))
    opened_case = cond-false s.closed IsClosed (cond (nat_eq (room s) 0) IsUsedUp (cond (nat_le s.limit s.tail) IsLimited (cond (nat_le (covered s n) (room s)) Fits Trips))) unclosed

    pub case_used_up : s.tail ≡ (s.active + 1) * term_of s → case_of s n ≡ IsUsedUp
    case_used_up end = opened_case ∙ cond-true (nat_eq (room s) 0) IsUsedUp (cond (nat_le s.limit s.tail) IsLimited (cond (nat_le (covered s n) (room s)) Fits Trips)) (eq-eqb (room s) 0 (omega (arith, end)))

    module _ (some : s.tail < (s.active + 1) * term_of s) where
      roomy : case_of s n ≡ cond (nat_le s.limit s.tail) IsLimited (cond (nat_le (covered s n) (room s)) Fits Trips)
      roomy = opened_case ∙ cond-false (nat_eq (room s) 0) IsUsedUp (cond (nat_le s.limit s.tail) IsLimited (cond (nat_le (covered s n) (room s)) Fits Trips)) (ne_eqb (room s) 0 (λ none. omega (arith, none, some)))

      pub case_limited : s.limit ≤ s.tail → case_of s n ≡ IsLimited
      case_limited le = roomy ∙ cond-true (nat_le s.limit s.tail) IsLimited (cond (nat_le (covered s n) (room s)) Fits Trips) (le-leb s.limit s.tail le)

      module _ (below : s.tail < s.limit) where
        unlimited : case_of s n ≡ cond (nat_le (covered s n) (room s)) Fits Trips
        unlimited = roomy ∙ cond-false (nat_le s.limit s.tail) IsLimited (cond (nat_le (covered s n) (room s)) Fits Trips) (lt-leb s.limit s.tail below)

        pub case_fits : s.tail + covered s n ≤ (s.active + 1) * term_of s → case_of s n ≡ Fits
        case_fits inside = unlimited ∙ cond-true (nat_le (covered s n) (room s)) Fits Trips (le-leb (covered s n) (room s) (omega (arith, inside)))

        pub case_trips : (s.active + 1) * term_of s < s.tail + covered s n → case_of s n ≡ Trips
        case_trips over = unlimited ∙ cond-false (nat_le (covered s n) (room s)) Fits Trips (lt-leb (covered s n) (room s) (omega (arith, over, some)))

-- what is so of a message that fits
pub record HasRoom (s : Stream) (n : ℕ) : Type 0 where
  pub some : s.tail < (s.active + 1) * term_of s
  pub below : s.tail < s.limit
  pub inside : s.tail + covered s n ≤ (s.active + 1) * term_of s

fits_by : (closed none full fit : Bool) → cond closed IsClosed (cond none IsUsedUp (cond full IsLimited (cond fit Fits Trips))) ≡ Fits → (none ≡ false) × (full ≡ false) × (fit ≡ true)
fits_by true none full fit e = absurd (cc)
fits_by false true full fit e = absurd (cc)
fits_by false false true fit e = absurd (cc)
fits_by false false false true e = (refl, refl, refl)
fits_by false false false false e = absurd (cc)

pub has_room : (s : Stream) (n : ℕ) → case_of s n ≡ Fits → HasRoom s n
has_room s n e =
    let by = fits_by s.closed (nat_eq (room s) 0) (nat_le s.limit s.tail) (nat_le (covered s n) (room s)) e in
    let some : room s ≡ 0 → ⊥ = eqb-false (room s) 0 by.0 in
    let inside : covered s n ≤ room s = leb-true (covered s n) (room s) by.2 in
    let less : s.tail < (s.active + 1) * term_of s = more ((s.active + 1) * term_of s) s.tail some in
    record { some = less; below = leb-false s.limit s.tail by.1; inside = omega (arith, less, inside) }
  where
    more : (a b : ℕ) → (a - b ≡ 0 → ⊥) → b < a
    more a b h = ⊎_elim (λ (l : b < a). l) (λ (l : a ≤ b). absurd (h (omega (arith, l)))) (cases_lt b a)
