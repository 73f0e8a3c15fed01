-- A group's limit never falls, and stays within what status messages allowed.
use Rattle.std.proofs.Common.{◌≡◌, ℕ, zero, suc, ◌<◌, ◌≤◌, List, [], ◌∷◌, Bool, true, false, cond, Option, None, Some, length, refl, sym, ap, ◌∙◌, subst, arith}
use Rattle.std.specs.Prelude.{ℤ, ◌+ℤ◌, max, ⊤, slice_index_or, slice_set, replicate}
use Rattle.theory.specs.FlowLimit.{clipped}
use Rattle.theory.specs.GroupLimit.{at_least, least_or}
use Rattle.flow_control.specs.Group.{Group, after_status, after_tick, allowed, are_heard, at_moment, best_of, greatest, inside, is_live, least_live, member_at, raised, told, with_member, with_status}
use Rattle.flow_control.specs.declared.least.Member.{Member}

abbrev pub IsWithin : ℕ → Option ℕ → Type 0
IsWithin limit None = ⊤
IsWithin limit (Some p) = p ≤ limit

pub best_within : (ms : List (Option Member)) (r : ℕ) → best_of (member_at ms r) ≤ greatest ms
best_within [] r = omega arith
best_within (m ∷ ms) zero = omega arith
best_within (m ∷ ms) (suc r) = omega (arith, best_within ms r)

pub greatest_set : (ms : List (Option Member)) (r : ℕ) (m : Member) → greatest (slice_set ms r (Some m)) ≤ max m.best (greatest ms)
greatest_set [] r m = omega arith
greatest_set (x ∷ ms) zero m = omega arith
greatest_set (x ∷ ms) (suc r) m = omega (arith, greatest_set ms r m)

least_within : (most p : ℕ) (o : Option ℕ) → p ≤ most → IsWithin most o → IsWithin most (least_or p o)
least_within most p None l h = l
least_within most p (Some q) l h = omega arith

with_within : (most now : ℕ) (m : Option Member) (o : Option ℕ) (b : Bool) → best_of m ≤ most → IsWithin most o → IsWithin most (cond b (least_or (best_of m) o) o)
with_within most now m o true l h = least_within most (best_of m) o l h
with_within most now m o false l h = h

pub live_within : (n now : ℕ) (ms : List (Option Member)) → IsWithin (greatest ms) (least_live n now ms)
live_within zero now ms = tt
live_within (suc n) now ms = with_within (greatest ms) now (member_at ms n) (least_live n now ms) (is_live now (member_at ms n)) (best_within ms n) (live_within n now ms)

at_least_within : (limit most : ℕ) (o : Option ℕ) → IsWithin most o → (limit ≤ at_least o limit) × (at_least o limit ≤ max limit most)
at_least_within limit most None h = (omega arith, omega arith)
at_least_within limit most (Some p) h = (omega arith, omega arith)

raised_by : (limit most : ℕ) (o : Option ℕ) (b : Bool) → IsWithin most o → (limit ≤ cond b (at_least o limit) limit) × (cond b (at_least o limit) limit ≤ max limit most)
raised_by limit most o true h = at_least_within limit most o h
raised_by limit most o false h = (omega arith, omega arith)

pub raise_within : (f : Group) → (f.limit ≤ (raised f).limit) × (allowed (raised f) ≤ allowed f)
raise_within f =
    let r = raised_by f.limit (greatest f.members) (least_live f.size f.clock f.members) (are_heard f.size f.members) (live_within f.size f.clock f.members) in
    (r.0, omega (arith, r.1))

pub told_within : (f : Group) (reach : ℕ) (o : Option ℕ) → (f.limit ≤ (told f reach o).limit) × (allowed (told f reach o) ≤ max reach (allowed f))
told_within f reach None = (omega arith, omega arith)
told_within f reach (Some r) =
    let g = with_status f r reach in
    let s = greatest_set f.members r (record { best = max reach (best_of (member_at f.members r)); last = f.clock }) in
    let w = raise_within g in
    (w.0, omega (arith, w.1, s, best_within f.members r))

pub status_within : (f : Group) (position window receiver : ℤ) (now : ℕ) → (f.limit ≤ (after_status f position window receiver now).limit) × (allowed (after_status f position window receiver now) ≤ max (clipped (position +ℤ window)) (allowed f))
status_within f position window receiver now = told_within (at_moment f now) (clipped (position +ℤ window)) (inside f.size receiver)

pub tick_within : (f : Group) (now : ℕ) → (f.limit ≤ (after_tick f now).limit) × (allowed (after_tick f now) ≤ allowed f)
tick_within f now = raise_within (at_moment f now)
