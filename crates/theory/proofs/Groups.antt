-- A group's limit never falls, and is never above the limit without a group.
use Rattle.std.proofs.Common.{◌≡◌, ℕ, zero, suc, ◌≤◌, ⊎_elim, List, [], ◌∷◌, Bool, true, false, cond, Option, None, Some, refl, sym, ap, subst, arith}
use Rattle.std.specs.Prelude.{max, ⊤, ◌&&◌}
use Rattle.std.proofs.lemmas.Bool.{cases_Bool, cond-true, cond-false}
use Rattle.theory.specs.FlowLimit.{flow_limit}
use Rattle.theory.specs.GroupLimit.{GroupEvent, StatusCame, Ticked, moment_of, is_of, reach_of, best, is_live, all_heard, least_or, candidate, at_least, is_inside, limit_in_time, clock_of, at_clock, in_time, said_of}
use Rattle.theory.specs.SenderLaws.{GroupWithin}

-- one message more doesn't lower the limit, and allows at least what it says
limit_grows : (start : ℕ) (t : GroupEvent) (ts : List GroupEvent) → flow_limit start (said_of ts) ≤ flow_limit start (said_of (t ∷ ts))
limit_grows start (StatusCame r p w now) ts = omega arith
limit_grows start (Ticked now) ts = omega arith

reach_within : (start : ℕ) (t : GroupEvent) (ts : List GroupEvent) → reach_of t ≤ flow_limit start (said_of (t ∷ ts))
reach_within start (StatusCame r p w now) ts = omega arith
reach_within start (Ticked now) ts = omega arith

best_within : (start r : ℕ) (ts : List GroupEvent) → best r ts ≤ flow_limit start (said_of ts)
best_within start r [] = omega arith
best_within start r (t ∷ ts) =
    ⊎_elim
    (λ (y : is_of r t ≡ true). subst (λ x. x ≤ flow_limit start (said_of (t ∷ ts))) (sym (cond-true (is_of r t) (max (reach_of t) (best r ts)) (best r ts) y)) (omega (arith, reach_within start t ts, limit_grows start t ts, best_within start r ts)))
    (λ (n : is_of r t ≡ false). subst (λ x. x ≤ flow_limit start (said_of (t ∷ ts))) (sym (cond-false (is_of r t) (max (reach_of t) (best r ts)) (best r ts) n)) (omega (arith, limit_grows start t ts, best_within start r ts)))
    (cases_Bool (is_of r t))

abbrev IsWithin : ℕ → Option ℕ → Type 0
IsWithin limit None = ⊤
IsWithin limit (Some p) = p ≤ limit

least_within : (limit p : ℕ) (o : Option ℕ) → p ≤ limit → IsWithin limit o → IsWithin limit (least_or p o)
least_within limit p None l h = l
least_within limit p (Some q) l h = omega arith

candidate_within : (start n now : ℕ) (ts : List GroupEvent) → IsWithin (flow_limit start (said_of ts)) (candidate n now ts)
candidate_within start zero now ts = tt
candidate_within start (suc n) now ts =
    ⊎_elim
    (λ (y : is_live now n ts ≡ true). subst (IsWithin (flow_limit start (said_of ts))) (sym (cond-true (is_live now n ts) (least_or (best n ts) (candidate n now ts)) (candidate n now ts) y)) (least_within (flow_limit start (said_of ts)) (best n ts) (candidate n now ts) (best_within start n ts) (candidate_within start n now ts)))
    (λ (f : is_live now n ts ≡ false). subst (IsWithin (flow_limit start (said_of ts))) (sym (cond-false (is_live now n ts) (least_or (best n ts) (candidate n now ts)) (candidate n now ts) f)) (candidate_within start n now ts))
    (cases_Bool (is_live now n ts))

at_least_within : (limit x : ℕ) (o : Option ℕ) → IsWithin limit o → x ≤ limit → at_least o x ≤ limit
at_least_within limit x None h l = l
at_least_within limit x (Some p) h l = omega arith

at_least_grows : (x : ℕ) (o : Option ℕ) → x ≤ at_least o x
at_least_grows x None = omega arith
at_least_grows x (Some p) = omega arith

more_within : (group start limit : ℕ) (t : GroupEvent) (ts : List GroupEvent) (b : Bool) → IsWithin limit (candidate group (moment_of t) (t ∷ ts)) → limit_in_time group start ts ≤ limit → cond b (at_least (candidate group (moment_of t) (t ∷ ts)) (limit_in_time group start ts)) (limit_in_time group start ts) ≤ limit
more_within group start limit t ts true h l = at_least_within limit (limit_in_time group start ts) (candidate group (moment_of t) (t ∷ ts)) h l
more_within group start limit t ts false h l = l

within : (group start : ℕ) (ts : List GroupEvent) → limit_in_time group start ts ≤ flow_limit start (said_of ts)
within group start [] = omega arith
within group start (t ∷ ts) =
    more_within group start (flow_limit start (said_of (t ∷ ts))) t ts (is_inside group t && all_heard group (t ∷ ts)) (candidate_within start group (moment_of t) (t ∷ ts)) (omega (arith, within group start ts, limit_grows start t ts))

grows : (group start : ℕ) (t : GroupEvent) (ts : List GroupEvent) → limit_in_time group start ts ≤ limit_in_time group start (t ∷ ts)
grows group start t ts = at (is_inside group t && all_heard group (t ∷ ts))
  where
    at : (b : Bool) → limit_in_time group start ts ≤ cond b (at_least (candidate group (moment_of t) (t ∷ ts)) (limit_in_time group start ts)) (limit_in_time group start ts)
    at true = at_least_grows (limit_in_time group start ts) (candidate group (moment_of t) (t ∷ ts))
    at false = omega arith

said_then : (clock : ℕ) (t : GroupEvent) (ts us : List GroupEvent) → said_of ts ≡ said_of us → said_of (at_clock clock t ∷ ts) ≡ said_of (t ∷ us)
said_then clock (StatusCame r p w now) ts us e = ap (λ ss. record { position = p; window = w } ∷ ss) e
said_then clock (Ticked now) ts us e = e

-- the moments don't count in what was said
said_in_time : (ts : List GroupEvent) → said_of (in_time ts) ≡ said_of ts
said_in_time [] = refl
said_in_time (t ∷ ts) = said_then (clock_of (t ∷ ts)) t (in_time ts) ts (said_in_time ts)

pub group_within : GroupWithin
group_within group start t ts =
    (grows group start (at_clock (clock_of (t ∷ ts)) t) (in_time ts), subst (λ ss. limit_in_time group start (in_time ts) ≤ flow_limit start ss) (said_in_time ts) (within group start (in_time ts)))
