-- A negative acknowledgement is taken exactly where it names a frame in range that isn't kept, and there is room.
use Rattle.std.proofs.Common.{◌≡◌, ℕ, zero, suc, ◌-◌, ◌*◌, ◌/◌, ◌<◌, ◌≤◌, inl, inr, ⊎_elim, List, [], ◌∷◌, length, Bool, true, false, cond, not, refl, sym, ap, ◌∙◌, arith}
use Rattle.std.specs.List.{AllByRecursion, list_any}
use Rattle.std.specs.Prelude.{nat_le, nat_lt, nat_eq, ◌||◌, ℤ, pos, negsuc}
use Rattle.std.proofs.lemmas.Bool.{ltb-false, leb-false, lt-leb, le-ltb, eqb-true, eqb-false, eq-eqb, ne_eqb, or_parts, or_cases, or_left, or_right}
use Rattle.theory.specs.Position.{Geometry}
use Rattle.theory.specs.Placed.{Placed, Among}
use Rattle.theory.specs.Resend.{Action, NakAnswer, OutOfRange, NotAFrameStart, Lingering, Full, Taken, nak_answer, SomeStart, IsTaken}
use Rattle.theory.specs.SenderLaws.{TakesExactly}

abbrev answer : Bool → Bool → Bool → Bool → Bool → NakAnswer
answer nothing outside starts kept full = cond nothing OutOfRange (cond outside OutOfRange (cond (not starts) NotAFrameStart (cond kept Lingering (cond full Full Taken))))

taken_only : (nothing outside starts kept full : Bool) → answer nothing outside starts kept full ≡ Taken → (nothing ≡ false) × (outside ≡ false) × (starts ≡ true) × (kept ≡ false) × (full ≡ false)
taken_only true outside starts kept full e = absurd (cc)
taken_only false true starts kept full e = absurd (cc)
taken_only false false false kept full e = absurd (cc)
taken_only false false true true full e = absurd (cc)
taken_only false false true false true e = absurd (cc)
taken_only false false true false false e = (refl, refl, refl, refl, refl)

taken_where : (nothing outside starts kept full : Bool) → nothing ≡ false → outside ≡ false → starts ≡ true → kept ≡ false → full ≡ false → answer nothing outside starts kept full ≡ Taken
taken_where nothing outside starts kept full a b c d e = rw (a, b, c, d, e) refl

some_start : (p : ℕ) (frames : List Placed) → list_any (λ f. nat_eq f.at p) frames ≡ true → SomeStart p frames
some_start p [] h = absurd (cc)
some_start p (f ∷ fs) h =
    ⊎_elim
    (λ (t : nat_eq f.at p ≡ true). (f, inl refl, eqb-true f.at p t))
    (λ (r : list_any (λ x. nat_eq x.at p) fs ≡ true). let s = some_start p fs r in (s.0, inr s.1, s.2))
    (or_cases (nat_eq f.at p) (list_any (λ x. nat_eq x.at p) fs) h)

start_tested : (p : ℕ) (frames : List Placed) (f : Placed) → Among f frames → f.at ≡ p → list_any (λ x. nat_eq x.at p) frames ≡ true
start_tested p [] f a e = absurd a
start_tested p (g ∷ gs) f (inl s) e = let at : f.at ≡ g.at = ap (λ x. x.at) s in or_left (nat_eq g.at p) (list_any (λ x. nat_eq x.at p) gs) (eq-eqb g.at p (sym at ∙ e))
start_tested p (g ∷ gs) f (inr a) e = or_right (nat_eq g.at p) (list_any (λ x. nat_eq x.at p) gs) (start_tested p gs f a e)

fresh : (p : ℕ) (actions : List Action) → list_any (λ a. nat_eq a.at p) actions ≡ false → AllByRecursion (λ a. a.at ≡ p → ⊥) actions
fresh p [] h = tt
fresh p (a ∷ rest) h = let parts = or_parts (nat_eq a.at p) (list_any (λ x. nat_eq x.at p) rest) h in (eqb-false a.at p parts.0, fresh p rest parts.1)

fresh_tested : (p : ℕ) (actions : List Action) → AllByRecursion (λ a. a.at ≡ p → ⊥) actions → list_any (λ a. nat_eq a.at p) actions ≡ false
fresh_tested p [] h = refl
fresh_tested p (a ∷ rest) h = let no : nat_eq a.at p ≡ false = ne_eqb a.at p h.0 in ap (λ b. b || list_any (λ x. nat_eq x.at p) rest) no ∙ fresh_tested p rest h.1

none_of : (a b c : Bool) → a ≡ false → b ≡ false → c ≡ false → (a || b || c) ≡ false
none_of a b c x y z = rw (x, y, z) refl

then_taken : (g : Geometry) (start s : ℕ) (sent : List Placed) (actions : List Action) (position span : ℤ) → nak_answer g start s sent actions position span ≡ Taken → IsTaken g start s sent actions position span
then_taken g start s sent actions (pos p) (pos n) e =
    let parts = taken_only (nat_eq n 0) (nat_lt p start || nat_lt p (s - 3 * g.term_length / 4) || nat_le s p) (list_any (λ f. nat_eq f.at p) sent) (list_any (λ a. nat_eq a.at p) actions) (nat_le 16 (length actions)) e in
    let inside = or_parts (nat_lt p start || nat_lt p (s - 3 * g.term_length / 4)) (nat_le s p) parts.1 in
    let lows = or_parts (nat_lt p start) (nat_lt p (s - 3 * g.term_length / 4)) inside.0 in
    let near : s - 3 * g.term_length / 4 ≤ p = ltb-false p (s - 3 * g.term_length / 4) lows.1 in
    let some = eqb-false n 0 parts.0 in
    record {
      at = p;
      bytes = n;
      placed = refl;
      long = refl;
      some = positive n some;
      from = ltb-false p start lows.0;
      near = omega arith;
      below = leb-false s p inside.1;
      starts = some_start p sent parts.2;
      fresh = fresh p actions parts.3;
      space = leb-false 16 (length actions) parts.4;
    }
  where
    positive : (n : ℕ) → (n ≡ 0 → ⊥) → 0 < n
    positive zero h = absurd (h refl)
    positive (suc n) h = omega arith
then_taken g start s sent actions (pos p) (negsuc n) e = absurd (cc)
then_taken g start s sent actions (negsuc p) n e = absurd (cc)

taken_then : (g : Geometry) (start s : ℕ) (sent : List Placed) (actions : List Action) (position span : ℤ) → IsTaken g start s sent actions position span → nak_answer g start s sent actions position span ≡ Taken
taken_then g start s sent actions position span t =
    ap (λ x. nak_answer g start s sent actions x span) t.placed
    ∙ ap (λ x. nak_answer g start s sent actions (pos t.at) x) t.long
    ∙ taken_where (nat_eq t.bytes 0) (nat_lt t.at start || nat_lt t.at (s - 3 * g.term_length / 4) || nat_le s t.at) (list_any (λ f. nat_eq f.at t.at) sent) (list_any (λ a. nat_eq a.at t.at) actions) (nat_le 16 (length actions))
    (ne_eqb t.bytes 0 (λ e. none t.bytes t.some e))
    (none_of (nat_lt t.at start) (nat_lt t.at (s - 3 * g.term_length / 4)) (nat_le s t.at) (le-ltb t.at start t.from) (le-ltb t.at (s - 3 * g.term_length / 4) (omega (arith, t.near))) (lt-leb s t.at t.below))
    (start_tested t.at sent t.starts.0 t.starts.1 t.starts.2)
    (fresh_tested t.at actions t.fresh)
    (lt-leb 16 (length actions) t.space)
  where
    none : (n : ℕ) → 0 < n → n ≡ 0 → ⊥
    none n l e = absurd (omega arith)

pub takes_exactly : TakesExactly
takes_exactly = λ g start s sent actions position span. (then_taken g start s sent actions position span, taken_then g start s sent actions position span)
