-- A sender that goes on by another flow control sends its log still.
use Rattle.atomic_table.specs.Seated.{TableId}
use Rattle.publisher.specs.Openings.{ArePasses}
use Rattle.publisher.specs.declared.sender_thread.SenderPasses.{SenderPasses}
use Rattle.agents.specs.Duties.{Agent}
use Rattle.agents.specs.LogSenders.{SendsLog}
use Rattle.shared_log.specs.Steps.Handles.{LogValue}
use Rattle.shared_log.specs.declared.reader.source.LogFrames.{LogFrames}
use Rattle.std.proofs.Common.{◌≡◌, ◌∙◌, ℕ, ◌<◌, ◌≤◌, ◌^◌, ◌&&◌, ◌||◌, Bool, true, false, not, nat_le, nat_lt, if◌then◌else◌, [], length, Some, ap, arith, refl, subst, sym}
use Rattle.std.specs.Prelude.{⊤}
use Rattle.std.proofs.lemmas.Bool.{leb-true, ltb-true}
use Rattle.flow_control.specs.Stream.{flow_after}
use Rattle.flow_control.specs.declared.stream.StreamFlow.{StreamFlow}
use Rattle.sender_meaning.specs.Moments.{StreamCore}
use Rattle.sender_meaning.specs.StreamLives.{StreamLived}
use Rattle.sender_meaning.proofs.StreamLiving.{lived_any, lived_by, lived_on, lived_same}
use Rattle.publisher.specs.Destinations.{begins_now, heard_count, numbered_from, with_flow}
use Rattle.publisher.specs.Turns.{Begins}
use Rattle.publisher.specs.declared.sender_thread.ChannelSender.{ChannelSender}

pub sends_still : {F : Type 0} (l : LogValue) (a b : Agent LogFrames F) (flow : F) → SendsLog l a → b ≡ with_flow a flow → SendsLog l b
sends_still {F} l a b flow sends same = subst (SendsLog l) (sym same) (record {
  stands = sends.stands;
  from = record { identity = sends.from.identity; position = sends.from.position; near = sends.from.near };
  size = sends.size;
})

-- and so where it is told nothing more
pub sends_on : {F : Type 0} (l : LogValue) (a b c : Agent LogFrames F) (flow : F) → SendsLog l a → b ≡ with_flow a flow → c ≡ b → SendsLog l c
sends_on {F} l a b c flow sends same still = subst (SendsLog l) (sym still) (sends_still l a b flow sends same)

passes_still : {D : Type 0} (l : LogValue) (queue : TableId) (p r : SenderPasses D) (device : D) → ArePasses l queue p → r ≡ record p { duty = record (p.duty) { device = device } } → ArePasses l queue r
passes_still {D} l queue p r device are same = subst (ArePasses l queue) (sym same) (record { size = are.size; client = are.client; taker = are.taker; keeper = are.keeper })

-- its passes, where the device is told something twice
pub passes_on : {D : Type 0} (l : LogValue) (queue : TableId) (p r s : SenderPasses D) (first second : D) → ArePasses l queue p → r ≡ record p { duty = record (p.duty) { device = first } } → s ≡ record r { duty = record (r.duty) { device = second } } → ArePasses l queue s
passes_on {D} l queue p r s first second are once twice = passes_still l queue r s second (passes_still l queue p r first are once) twice

-- ---- with whom it begins

abbrev NotTrue : Bool → Type 0
NotTrue true = ⊥
NotTrue false = ⊤

not_true : false ≡ true → ⊥
not_true h = subst NotTrue h tt

or_true : (b : Bool) → (b || true) ≡ true
or_true true = refl
or_true false = refl

-- nobody is left out, or it doesn't begin now
none_out : (begins : Bool) (heard all : ℕ) → (not begins || nat_le all heard) ≡ true → (begins && nat_lt heard all) ≡ false
none_out true heard all h = grind (arith, h)
none_out false heard all h = refl

-- it begins without some
some_out : (begins : Bool) (heard all : ℕ) → (not begins || nat_le all heard) ≡ false → (begins ≡ true) × ((begins && nat_lt heard all) ≡ true)
some_out true heard all h = (refl, grind (arith, h))
some_out false heard all h = absurd (not_true (sym h))

pub stands : {D : Type 0} (wait now : ℕ) (begun begins result : Bool) (sender : ChannelSender D) (heard all at : ℕ) → result ≡ (begun || begins) → begins ≡ begins_now begun wait now heard at → heard ≡ heard_count sender.passes.duty.device.ways → all ≡ length sender.passes.duty.device.ways → at ≡ sender.agent.core.handler.at
    → (not begins || nat_le all heard) ≡ true → Begins wait now begun sender result sender
stands {D} wait now begun begins result sender heard all at so is count many here test =
    let destinations = sender.passes.duty.device.ways in
    let none : (begins && nat_lt (heard_count destinations) (length destinations)) ≡ false = (λ i. begins && nat_lt (sym count i) (sym many i)) ∙ none_out begins heard all test in
    record {
      begins = begins;
      is = is ∙ (λ i. begins_now begun wait now (count i) (here i));
      begun_is = so;
      flow = ap (λ (b : Bool). if b then flow_after (Some (heard_count destinations)) sender.agent.core.handler.at [] else sender.agent.core.flow) (sym none);
      destinations = ap (λ (b : Bool). if b then numbered_from 0 destinations else destinations) (sym none);
    }

pub begins_without : {D : Type 0} (wait now : ℕ) (begun begins : Bool) (old new : ChannelSender D) (heard all at : ℕ) → begins ≡ begins_now begun wait now heard at → heard ≡ heard_count old.passes.duty.device.ways → all ≡ length old.passes.duty.device.ways → at ≡ old.agent.core.handler.at
    → (not begins || nat_le all heard) ≡ false → new.agent.core.flow ≡ flow_after (Some heard) at [] → new.passes.duty.device.ways ≡ numbered_from 0 old.passes.duty.device.ways → Begins wait now begun old true new
begins_without {D} wait now begun begins old new heard all at is count many here test flow numbered =
    let destinations = old.passes.duty.device.ways in
    let out = some_out begins heard all test in
    let some : (begins && nat_lt (heard_count destinations) (length destinations)) ≡ true = (λ i. begins && nat_lt (sym count i) (sym many i)) ∙ out.1 in
    record {
      begins = begins;
      is = is ∙ (λ i. begins_now begun wait now (count i) (here i));
      begun_is = sym (ap (λ (b : Bool). begun || b) out.0 ∙ or_true begun);
      flow = flow ∙ (λ i. flow_after (Some (count i)) (here i) []) ∙ ap (λ (b : Bool). if b then flow_after (Some (heard_count destinations)) old.agent.core.handler.at [] else old.agent.core.flow) (sym some);
      destinations = numbered ∙ ap (λ (b : Bool). if b then numbered_from 0 destinations else destinations) (sym some);
    }

-- then its limit can begin there, with some
can_begin : (begun a b c d : Bool) → (not begun && (a && (b && (c && d)))) ≡ true → (b ≡ true) × (c ≡ true) × (d ≡ true)
can_begin false true true true true h = (refl, refl, refl)
can_begin true a b c d h = absurd (not_true h)
can_begin false false b c d h = absurd (not_true h)
can_begin false true false c d h = absurd (not_true h)
can_begin false true true false d h = absurd (not_true h)
can_begin false true true true false h = absurd (not_true h)

pub may_begin : (begun begins : Bool) (wait now heard all at : ℕ) → begins ≡ begins_now begun wait now heard at → (not begins || nat_le all heard) ≡ false → (heard ≤ 8) × (at < 2 ^ 63)
may_begin begun begins wait now heard all at is test =
    let both = can_begin begun (nat_le wait now) (nat_lt 0 heard) (nat_le heard 8) (nat_lt at (2 ^ 63)) (sym is ∙ (some_out begins heard all test).0) in
    (leb-true heard 8 both.1, ltb-true at (2 ^ 63) both.2)

-- ---- its life goes on

by_flow : (n : ℕ) (s t : StreamCore) (out : Bool) (size : ℕ) (flow : StreamFlow) → (out ≡ true → (0 < size) × (size < n)) → t ≡ record s { flow = flow } → flow ≡ (if out then flow_after (Some size) s.handler.at [] else s.flow) → StreamLived n s t
by_flow n s t true size flow may same is = lived_by n size s t (record { some = (may refl).0; fewer = (may refl).1; is = same ∙ ap (λ (f : StreamFlow). record s { flow = f }) is })
by_flow n s t false size flow may same is = lived_same n s t (same ∙ ap (λ (f : StreamFlow). record s { flow = f }) is)

-- some, but not all, were heard
fewer_than : (begun begins : Bool) (wait now heard all at n : ℕ) → begins ≡ begins_now begun wait now heard at → all ≡ n → (begins && nat_lt heard all) ≡ true → (0 < heard) × (heard < n)
fewer_than begun true wait now heard all at n is many out = (
  ltb-true 0 heard (can_begin begun (nat_le wait now) (nat_lt 0 heard) (nat_le heard 8) (nat_lt at (2 ^ 63)) (sym is)).0,
  subst (λ (k : ℕ). heard < k) many (ltb-true heard all out),
)
fewer_than begun false wait now heard all at n is many out = absurd (not_true out)

-- with the group that it had, or by another
lived_with : {D : Type 0} (n wait now : ℕ) (begun result : Bool) (old new : ChannelSender D) → length old.passes.duty.device.ways ≡ n → Begins wait now begun old result new → new.agent ≡ with_flow old.agent new.agent.core.flow → StreamLived n old.agent.core new.agent.core
lived_with {D} n wait now begun result old new many begins same =
    let destinations = old.passes.duty.device.ways in
    by_flow n old.agent.core new.agent.core (begins.begins && nat_lt (heard_count destinations) (length destinations)) (heard_count destinations) new.agent.core.flow
    (fewer_than begun begins.begins wait now (heard_count destinations) (length destinations) old.agent.core.handler.at n begins.is many) (ap (λ (a : Agent LogFrames StreamFlow). a.core) same) begins.flow

-- a cycle, what it begins with then, and an end that is told
pub turn_lived : {D : Type 0} (n wait now : ℕ) (begun result : Bool) (first old cycled beginning new : ChannelSender D) → length cycled.passes.duty.device.ways ≡ n → StreamLived n first.agent.core old.agent.core → StreamLived 0 old.agent.core cycled.agent.core
    → Begins wait now begun cycled result beginning → beginning.agent ≡ with_flow cycled.agent beginning.agent.core.flow → new.agent ≡ beginning.agent → StreamLived n first.agent.core new.agent.core
turn_lived {D} n wait now begun result first old cycled beginning new many before cycle begins same still =
    subst (λ (a : Agent LogFrames StreamFlow). StreamLived n first.agent.core a.core) (sym still)
    (lived_on n first.agent.core old.agent.core beginning.agent.core before (lived_on n old.agent.core cycled.agent.core beginning.agent.core (lived_any n old.agent.core cycled.agent.core cycle) (lived_with n wait now begun result cycled beginning many begins same)))
