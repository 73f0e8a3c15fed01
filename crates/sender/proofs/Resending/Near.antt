-- Starts that are too far behind the sender change no answer.
use Rattle.std.proofs.Common.{◌≡◌, ◌≢◌, ℕ, ◌+◌, ◌-◌, ◌*◌, ◌/◌, ◌<◌, ◌≤◌, List, [], ◌∷◌, map, Bool, true, false, cond, ◌||◌, nat_eq, nat_le, nat_lt, filter, refl, sym, ap, ◌∙◌, ⊎_elim, arith, ℤ, pos, negsuc, ne_eqb}
use Rattle.std.specs.List.{list_any}
use Rattle.std.proofs.lemmas.Bool.{cases_Bool, leb-false, le-leb, lt-leb, ltb-false, or_parts}
use Rattle.theory.specs.Position.{Geometry}
use Rattle.theory.specs.Placed.{Placed}
use Rattle.theory.specs.Resend.{Action, OutOfRange, nak_answer, nak_answer_at, nak_answer_by}
use Rattle.sender.specs.Resending.Handler.{is_near, starts_at}
use Rattle.sender.specs.Resending.Laws.{NearAreEnough, NearStayNear}

-- of those that pass a test, one that passes it is found as of all
found_among : (test : ℕ → Bool) (p : ℕ) (sent : List Placed) → test p ≡ true → list_any (λ q. nat_eq q p) (filter test (map (λ (f : Placed). f.at) sent)) ≡ list_any (λ (f : Placed). nat_eq f.at p) sent
found_among test p [] t = refl
found_among test p (f ∷ fs) t =
    ⊎_elim
    (λ (yes' : test f.at ≡ true). rw yes' (ap (λ b. nat_eq f.at p || b) (found_among test p fs t)))
    (λ (not' : test f.at ≡ false).
    let ne : f.at ≢ p = λ e. let same : true ≡ false = sym t ∙ ap test (sym e) ∙ not' in absurd (cc) in
    rw (not', ne_eqb f.at p ne) (found_among test p fs t))
    (cases_Bool (test f.at))

near_where : (g : Geometry) (start s p : ℕ) → (nat_lt p start || nat_lt p (s - 3 * g.term_length / 4) || nat_le s p) ≡ false → is_near g s p ≡ true
near_where g start s p inside =
    let parts = or_parts (nat_lt p start || nat_lt p (s - 3 * g.term_length / 4)) (nat_le s p) inside in
    let more = or_parts (nat_lt p start) (nat_lt p (s - 3 * g.term_length / 4)) parts.0 in
    let far : s - 3 * g.term_length / 4 ≤ p = ltb-false p (s - 3 * g.term_length / 4) more.1 in
    let reach : ℕ = 3 * g.term_length / 4 in
    let far' : s - reach ≤ p = far in
    le-leb s (p + reach) (omega (arith, far'))

same_answer : (g : Geometry) (start s : ℕ) (sent : List Placed) (actions : List Action) (p : ℕ)
    → nak_answer_at g start s (starts_at (filter (is_near g s) (map (λ (f : Placed). f.at) sent))) actions p ≡ nak_answer_at g start s (λ q. list_any (λ (f : Placed). nat_eq f.at q) sent) actions p
same_answer g start s sent actions p =
    ⊎_elim
    (λ (out : (nat_lt p start || nat_lt p (s - 3 * g.term_length / 4) || nat_le s p) ≡ true). rw out refl)
    (λ (inside : (nat_lt p start || nat_lt p (s - 3 * g.term_length / 4) || nat_le s p) ≡ false). rw (found_among (is_near g s) p sent (near_where g start s p inside)) refl)
    (cases_Bool (nat_lt p start || nat_lt p (s - 3 * g.term_length / 4) || nat_le s p))

pub near_are_enough : NearAreEnough
near_are_enough = λ g start s sent actions position length. by_parts g start s sent actions position length
  where
    by_parts : (g : Geometry) (start s : ℕ) (sent : List Placed) (actions : List Action) (position length : ℤ)
        → nak_answer_by g start s (starts_at (filter (is_near g s) (map (λ (f : Placed). f.at) sent))) actions position length ≡ nak_answer g start s sent actions position length
    by_parts g start s sent actions (pos p) (pos n) = ap (λ a. cond (nat_eq n 0) OutOfRange a) (same_answer g start s sent actions p)
    by_parts g start s sent actions (pos p) (negsuc n) = refl
    by_parts g start s sent actions (negsuc p) length = refl

near_twice : (g : Geometry) (s t : ℕ) (starts : List ℕ) → s ≤ t → filter (is_near g t) (filter (is_near g s) starts) ≡ filter (is_near g t) starts
near_twice g s t [] le = refl
near_twice g s t (p ∷ ps) le =
    ⊎_elim
    (λ (near : is_near g s p ≡ true). rw near (ap (λ l. cond (is_near g t p) (p ∷ l) l) (near_twice g s t ps le)))
    (λ (far : is_near g s p ≡ false).
    let reach : ℕ = 3 * g.term_length / 4 in
    let past : p + reach < s = leb-false s (p + reach) far in
    let later : is_near g t p ≡ false = lt-leb t (p + reach) (omega (arith, past, le)) in
    rw (far, later) (near_twice g s t ps le))
    (cases_Bool (is_near g s p))

pub near_stay_near : NearStayNear
near_stay_near = near_twice
