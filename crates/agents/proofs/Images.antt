-- An image that has come as far as some readings stays so.
use Rattle.std.proofs.Common.{◌≡◌, ℕ, ◌+◌, ◌*◌, ◌/◌, ◌<◌, ◌≤◌, min, inr, ⊎_elim, List, true, false, Option, None, Some, sym, subst, arith, le_refl, zero-le}
use Rattle.std.specs.Prelude.{ℤ, pos, negsuc, nat_le, nat_lt}
use Rattle.std.proofs.lemmas.Bool.{and_parts, cases_Bool, cases_lt, cond-false, cond-true, ltb-true}
use Rattle.std.proofs.lemmas.Option.{same_Some}
use Rattle.atomic_table.specs.Seated.{TableId}
use Rattle.theory.specs.Position.{Geometry, max_position}
use Rattle.theory.specs.Placed.{Frame, Placed}
use Rattle.theory.specs.Units.{HasUnit, IsContiguous}
use Rattle.theory.specs.Insert.{Below, CrossesTerm, Duplicate, Insert, OverWindow, Overlap, Stored}
use Rattle.theory.specs.Image.{Image, after_heartbeat, after_insert, image_at, is_accepted}
use Rattle.counters.specs.Order.{IsAtMost, zeros}
use Rattle.counters.specs.Parties.{WriterSeen}
use Rattle.counters.specs.declared.readings.Readings.{Readings}
use Rattle.image.specs.Rebuilding.{Inserting, join_of}
use Rattle.receiver.specs.Polling.{TellsImage}
use Rattle.receiver.specs.Receiving.{Opened, answer_at, given_at}
use Rattle.receiver.specs.Representing.{Core}
use Rattle.receiver.specs.declared.positions.Positions.{Positions}
use Rattle.agents.specs.Publishing.{HasReached, IsPublishing, IsReachedBy, IsUpTo, having_published, shown}

-- ---- a frame, a heartbeat

-- what of the readings doesn't rest on consumers
pub record HasCome (k : Readings) (i : Image) : Type 0 where
  pub rebuilt : (n : ℕ) → i.join + 32 * n < k.rebuilt → HasUnit i.stored (i.join + 32 * n)
  pub high : k.high_water ≤ i.high

inserted : (k : Readings) (i : Image) (s : Placed) (a : Insert) → HasCome k i → HasCome k (after_insert i s a)
inserted k i s Stored h = record { rebuilt = λ n low. (let u = h.rebuilt n low in record { frame = u.frame; among = inr u.among; unit = u.unit; inside = u.inside; here = u.here }); high = omega (arith, h.high) }
inserted k i s CrossesTerm h = h
inserted k i s Below h = h
inserted k i s OverWindow h = h
inserted k i s Duplicate h = h
inserted k i s Overlap h = h

pub given : (k : Readings) (o : Opened) (z : ℤ) (f : Frame) → HasCome k o.image → HasCome k (given_at o z f).image
given k o (pos p) f h = inserted k o.image (record { at = p; frame = f }) (answer_at o (pos p) f) h
given k o (negsuc n) f h = h

pub beaten : (k : Readings) (g : Geometry) (i : Image) (least : ℕ) (z : ℤ) → HasCome k i → HasCome k (after_heartbeat g i least z)
beaten k g i least (negsuc n) h = h
beaten k g i least (pos p) h =
    ⊎_elim
    (λ (t : is_accepted g i.high least p ≡ true).
    let above : i.high < p = ltb-true i.high p (and_parts (nat_lt i.high p) (nat_le p (min (least + 3 * g.term_length / 4) (max_position g))) t).0 in
    subst (HasCome k) (sym (cond-true (is_accepted g i.high least p) (record i { high = p }) i t)) (record { rebuilt = h.rebuilt; high = omega (arith, h.high) }))
    (λ (f : is_accepted g i.high least p ≡ false). subst (HasCome k) (sym (cond-false (is_accepted g i.high least p) (record i { high = p }) i f)) h)
    (cases_Bool (is_accepted g i.high least p))

-- an image that was opened has come as far as the zeros
pub opened_come : (k : Readings) (join window consumers : ℕ) → k ≡ zeros → HasCome k (image_at join window consumers)
opened_come k join window consumers none = subst (λ x. HasCome x (image_at join window consumers)) (sym none) (record { rebuilt = λ n low. absurd (omega (arith, low)); high = zero-le })

-- ---- what an inserter tells

-- it has come as far as the zeros
pub none_reached : (k : Readings) (i : Inserting) → k ≡ zeros → IsReachedBy k i
none_reached k i none = subst (λ x. IsReachedBy x i) (sym none) (record { least = zero-le; rebuilt = λ n low. absurd (omega (arith, low)); high = zero-le })

rebuilt_within : (frames : List Placed) (join q rebuilt : ℕ) → IsContiguous frames join q → ((n : ℕ) → join + 32 * n < rebuilt → HasUnit frames (join + 32 * n)) → rebuilt ≤ q
rebuilt_within frames join q rebuilt c all =
    ⊎_elim (λ (l : q < rebuilt). absurd (c.next (subst (λ x. HasUnit frames x) (sym c.end) (all c.units (subst (λ x. x < rebuilt) c.end l))))) (λ (l : rebuilt ≤ q). l) (cases_lt q rebuilt)

-- no less than the readings
pub up_to : (o : Option Inserting) (k : Readings) (told : Option Positions) → TellsImage o told → HasReached o k → IsUpTo k told
up_to None k None tells h = h
up_to None k (Some p) tells h = absurd (cc)
up_to (Some i) k None tells h = absurd (let e = tells.2 in cc)
up_to (Some i) k (Some p) tells h =
    subst (λ (x : Positions). IsAtMost k (shown x)) (sym (same_Some _ _ tells.2)) (h.least, rebuilt_within i.stored (join_of i) tells.0 k.rebuilt tells.1 h.rebuilt, h.high)

-- and it has come as far as that
told_reached : (o : Option Inserting) (p : Positions) → TellsImage o (Some p) → HasReached o (shown p)
told_reached None p tells = absurd (cc)
told_reached (Some i) p tells =
    let end : tells.0 ≡ join_of i + 32 * tells.1.units = tells.1.end in
    let is = same_Some _ _ tells.2 in
    subst (λ (x : Positions). IsReachedBy (shown x) i) (sym is) (record { least = le_refl _; rebuilt = λ n low. tells.1.all n (omega (arith, end, low)); high = le_refl _ })

-- what it tells was published
pub published_on : (counters : TableId) (v : Core) (old new : WriterSeen) (told : Option Positions) → TellsImage v.image told → old.counters ≡ counters → HasReached v.image old.last → new ≡ having_published old told → IsPublishing counters v new
published_on counters v old new None tells named h is = subst (IsPublishing counters v) (sym is) (record { named = named; reached = h })
published_on counters v old new (Some p) tells named h is = subst (IsPublishing counters v) (sym is) (record { named = named; reached = told_reached v.image p tells })
