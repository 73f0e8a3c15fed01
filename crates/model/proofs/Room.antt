-- The room ahead of the tail is kept.
use Rattle.std.proofs.Common.{◌≡◌, ℕ, ◌+◌, ◌-◌, ◌*◌, ◌/◌, ◌<◌, ◌≤◌, ⊎_elim, List, [], ◌∷◌, length, get_or, Bool, true, false, cond, Some, sym, ap, ◌∙◌, subst, arith}
use Rattle.std.specs.List.{count_by}
use Rattle.std.specs.Prelude.{nat_le, slice_get, slice_set}
use Rattle.std.proofs.lemmas.Bool.{cases_Bool, leb-false}
use Rattle.std.proofs.lemmas.Option.{slice_get_within, get_or_from_slice_get}
use Rattle.std.proofs.lemmas.List.Sums.{sum_by-set, count_by-le-length}
use Rattle.std.proofs.Math.ListN.{length-set}
use Rattle.theory.specs.Position.{Geometry, IsGeometry, aligned, span, cuts_of, max_message, greatest_claim}
use Rattle.model.specs.Log.{Log, LogStep, LogEvent, Look, Arm, Add, Miss, Store, Commit, Abort, Rotate, Clean, Raise, Connect, Close, Join, Leave, Move, Pass, Retire, room, taken_cuts, term_of, HasRoom}
use Rattle.model.specs.World.{World, Event, AtLog, AtSender, AtImage, Open, Step, Run, IsOpened}
use Rattle.std.proofs.Math.Nat.{mul-le-mul_left}
use Rattle.model.proofs.LogSteps.{room_unit}
use Rattle.model.proofs.WorldSteps.{KeptWorld, step, opened}
use Rattle.theory.proofs.Claims.{span_is, framed_le, claim_bound}

-- the parts of a log that the room is about
pub record KeptRoom (g : Geometry) (tail : ℕ) (armed : List Bool) (limit cleaned : ℕ) : Type 0 where
  pub geometry : IsGeometry g
  pub eight : length armed ≡ 8
  pub within : tail + greatest_claim g * count_by (λ a. a) armed ≤ limit + 8 * greatest_claim g
  pub ahead : limit + 8 * greatest_claim g ≤ cleaned + 3 * g.term_length

abbrev pub IsKeptRoom : Log → Type 0
IsKeptRoom l = KeptRoom l.identity.geometry l.tail l.armed l.limit l.cleaned

abbrev as_count : Bool → ℕ
as_count a = cond a 1 0

armed_more : (armed : List Bool) (by : ℕ) → slice_get armed by ≡ Some false → count_by (λ a. a) (slice_set armed by true) ≡ count_by (λ a. a) armed + 1
armed_more armed by e =
    let was : get_or armed by false ≡ false = get_or_from_slice_get armed by false false e in
    let sums : count_by (λ a. a) (slice_set armed by true) + cond (get_or armed by false) 1 0 ≡ count_by (λ a. a) armed + 1 = sum_by-set (λ a. cond a 1 0) armed by true false (slice_get_within armed by false e) in
    let counts : as_count (get_or armed by false) ≡ as_count false = ap as_count was in
    omega arith

armed_less : (armed : List Bool) (by : ℕ) → slice_get armed by ≡ Some true → count_by (λ a. a) (slice_set armed by false) + 1 ≡ count_by (λ a. a) armed
armed_less armed by e =
    let was : get_or armed by false ≡ true = get_or_from_slice_get armed by true false e in
    let sums : count_by (λ a. a) (slice_set armed by false) + cond (get_or armed by false) 1 0 ≡ count_by (λ a. a) armed + 0 = sum_by-set (λ a. cond a 1 0) armed by false false (slice_get_within armed by true e) in
    let counts : as_count (get_or armed by false) ≡ as_count true = ap as_count was in
    omega arith

-- what an addition takes is at most the greatest claim
pub taken_le : (l : Log) (by bytes : ℕ) → IsGeometry l.identity.geometry → 0 < term_of l → aligned (room l) ≡ room l → bytes ≤ max_message l.identity.geometry → span (taken_cuts l bytes) ≤ greatest_claim l.identity.geometry
taken_le l by bytes g p unit le =
    let cuts = cuts_of l.identity.geometry bytes in
    let claim : span cuts ≤ greatest_claim l.identity.geometry = omega (arith, span_is l.identity.geometry g.mtu.unit g.mtu.least bytes, framed_le l.identity.geometry g.mtu.unit g.mtu.least bytes (max_message l.identity.geometry) le) in
    ⊎_elim
    (λ (t : nat_le (span cuts) (room l) ≡ true). subst (λ b. span (cond b cuts (room l ∷ [])) ≤ greatest_claim l.identity.geometry) (sym t) claim)
    (λ (f : nat_le (span cuts) (room l) ≡ false). let less : room l < span cuts = leb-false (span cuts) (room l) f in let whole : span (room l ∷ []) ≤ greatest_claim l.identity.geometry = omega arith in subst (λ b. span (cond b cuts (room l ∷ [])) ≤ greatest_claim l.identity.geometry) (sym f) whole)
    (cases_Bool (nat_le (span cuts) (room l)))

-- the room after an event, where additions are at most the greatest claim
pub room_step : (n : List ℕ) (old : Log) (e : LogEvent) (new : Log) → aligned (room old) ≡ room old → IsKeptRoom old → LogStep n old e new → IsKeptRoom new
room_step n old Look new u k h = subst IsKeptRoom (sym h) k
room_step n old (Arm by seen) new u k h =
    let most : count_by (λ a. a) (slice_set old.armed by true) ≤ length (slice_set old.armed by true) = count_by-le-length (λ a. a) (slice_set old.armed by true) in
    let eight : length (slice_set old.armed by true) ≡ 8 = length-set old.armed by true ∙ k.eight in
    let c = greatest_claim old.identity.geometry in
    let below : c * count_by (λ a. a) (slice_set old.armed by true) ≤ c * 8 = mul-le-mul_left c (omega arith) in
    subst IsKeptRoom (sym h.3) (record { geometry = k.geometry; eight = eight; within = omega (arith, h.1, h.2); ahead = k.ahead })
room_step n old (Add by bytes) new u k h =
    let less : count_by (λ a. a) (slice_set old.armed by false) + 1 ≡ count_by (λ a. a) old.armed = armed_less old.armed by h.1 in
    let c = greatest_claim old.identity.geometry in
    let product : c * (count_by (λ a. a) (slice_set old.armed by false) + 1) ≡ c * count_by (λ a. a) old.armed = ap (λ x. c * x) less in
    let taken : span (taken_cuts old bytes) ≤ c = taken_le old by bytes k.geometry (omega (arith, k.geometry.term.least)) u h.2 in
    subst IsKeptRoom (sym h.4) (record { geometry = k.geometry; eight = length-set old.armed by false ∙ k.eight; within = omega (arith, k.within); ahead = k.ahead })
room_step n old (Miss by) new u k h =
    let less : count_by (λ a. a) (slice_set old.armed by false) + 1 ≡ count_by (λ a. a) old.armed = armed_less old.armed by h.0 in
    let c = greatest_claim old.identity.geometry in
    let product : c * (count_by (λ a. a) (slice_set old.armed by false) + 1) ≡ c * count_by (λ a. a) old.armed = ap (λ x. c * x) less in
    subst IsKeptRoom (sym h.1) (record { geometry = k.geometry; eight = length-set old.armed by false ∙ k.eight; within = omega (arith, k.within); ahead = k.ahead })
room_step n old Store new u k h = subst IsKeptRoom (sym h) k
room_step n old (Commit start f) new u k h = subst IsKeptRoom (sym h.1) k
room_step n old (Abort start) new u k h = subst IsKeptRoom (sym h.1) k
room_step n old Rotate new u k h = subst IsKeptRoom (sym h) k
room_step n old (Clean least) new u k h = subst IsKeptRoom (sym h.2) (record { geometry = k.geometry; eight = k.eight; within = k.within; ahead = omega (arith, k.ahead) })
room_step n old (Raise least) new u k h =
    let g = old.identity.geometry in
    let claim : greatest_claim g ≤ g.term_length / 7 + 63 = claim_bound g k.geometry.mtu.unit k.geometry.mtu.least in
    let long : 65536 ≤ g.term_length = k.geometry.term.least in
    let reach : least - g.term_length ≤ old.cleaned = omega (arith, h.2) in
    let one : least + g.term_length / 2 + 8 * greatest_claim g ≤ old.cleaned + 3 * g.term_length = omega arith in
    subst IsKeptRoom (sym h.5) (record { geometry = k.geometry; eight = k.eight; within = omega (arith, k.within); ahead = omega (arith, k.ahead) })
room_step n old (Connect on) new u k h = subst IsKeptRoom (sym h) k
room_step n old Close new u k h = subst IsKeptRoom (sym h) k
room_step n old (Join which at) new u k h = subst IsKeptRoom (sym h.4) k
room_step n old (Leave which) new u k h = subst IsKeptRoom (sym h.3) k
room_step n old (Move which past) new u k h = subst IsKeptRoom (sym h.4) k
room_step n old (Pass which past) new u k h = subst IsKeptRoom (sym h.3) k
room_step n old (Retire a b) new u k h = subst IsKeptRoom (sym h.4) k

room_after : (old : World) (e : Event) (new : World) → KeptWorld old → IsKeptRoom old.log → Step old e new → IsKeptRoom new.log
room_after old (AtLog e) new k r h = subst (λ (w : World). IsKeptRoom w.log) (sym h.2) (room_step (old.sender.at ∷ []) old.log e h.0 (room_unit old.log k.log) r h.1)
room_after old (AtSender e) new k r h = subst (λ (w : World). IsKeptRoom w.log) (sym h.2) r
room_after old (AtImage which e) new k r h = subst (λ (w : World). IsKeptRoom w.log) (sym h.4) r
room_after old (Open which join window consumers) new k r h = subst (λ (w : World). IsKeptRoom w.log) (sym h.5) r

every_room : (events : List Event) (old new : World) → KeptWorld old → IsKeptRoom old.log → Run old events new → IsKeptRoom new.log
every_room [] old new k r h = subst (λ (w : World). IsKeptRoom w.log) (sym h) r
every_room (e ∷ es) old new k r h = every_room es h.0 new (step old e h.0 k h.1) (room_after old e h.0 k r h.1) h.2

opened_room : (w : World) → IsOpened w → IsKeptRoom w.log
opened_room w o =
    let g = w.log.identity.geometry in
    let claim : greatest_claim g ≤ g.term_length / 7 + 63 = claim_bound g o.geometry.mtu.unit o.geometry.mtu.least in
    let long : 65536 ≤ g.term_length = o.geometry.term.least in
    let none : greatest_claim g * count_by (λ a. a) w.log.armed ≡ greatest_claim g * 0 = ap (λ x. greatest_claim g * count_by (λ a. a) x) o.armed in
    record { geometry = o.geometry; eight = ap length o.armed; within = omega (arith, o.tail, o.limit); ahead = omega (arith, o.limit, o.cleaned) }

pub has_room : (w v : World) (events : List Event) → IsOpened w → Run w events v → HasRoom v.log
has_room w v events o run =
    let k = every_room events w v (opened w o) (opened_room w o) run in
    record { tail = k.within; limit = k.ahead }
