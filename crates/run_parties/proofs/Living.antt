-- What a receiver and its subscriber live through goes on.
use Rattle.std.proofs.Common.{◌≡◌, ℕ, Bool, List, [], ◌∷◌, ◌++◌, Option, None, Some, Result, Ok, Err, inl, inr, ◌≤◌, refl, sym, ap, ◌∙◌, subst, append_assoc, append-nil}
use Rattle.std.specs.Prelude.{IfNone, IfOk}
use Rattle.theory.specs.Position.{Geometry}
use Rattle.endpoint.specs.declared.device_error.DeviceError.{DeviceError}
use Rattle.endpoint.specs.Devices.{Device}
use Rattle.agents.specs.Cycles.{Cycle, HearsAll}
use Rattle.agents.specs.Parties.{CoreHears, CoreTicks}
use Rattle.std.specs.Arc.{arc_value}
use Rattle.image.specs.Rebuilding.{Inserting}
use Rattle.receiver.specs.Dealt.{ImageTakes}
use Rattle.receiver.specs.Reading.{IsImage}
use Rattle.receiver.specs.declared.readers.Readers.{Readers}
use Rattle.run_parties.specs.Tallies.{Counted, IsTally, IsTallyOf}
use Rattle.image.specs.Handles.{ImageWords}
use Rattle.receiver.specs.CoreLives.{CoreAct, CoreActsSo, CoreLives, Deals, HasDealt, Hears, KeepsImage, Ticks, heard_in}
use Rattle.receiver.specs.Receiving.{Receiver}
use Rattle.receiver.specs.Representing.{Core, Represents, words_of}
use Rattle.run_parties.specs.Groups.{id_of}
use Rattle.run_parties.specs.Receivers.{HasReceived, IsWaitingReceiver, new_receiver}
use Rattle.run_parties.specs.Receptions.{EndsLife, HasDealtOf, HasLived, HasReceivedOn, PolledOf, ReceptionState, given_by}
use Rattle.run_parties.specs.declared.receiver_threads.Waiting.{Waiting}
use Rattle.run_parties.specs.declared.reception.Received.{Received}

-- ---- acts, one behind the other

acts_on : (v m w : Core) (xs ys : List CoreAct) → CoreLives v xs m → CoreLives m ys w → CoreLives v (xs ++ ys) w
acts_on v m w [] ys first then = subst (λ z. CoreLives z ys w) first then
acts_on v m w (x ∷ xs) ys first then = (first.0, first.1, acts_on first.0 m w xs ys first.2 then)

heard_on : (xs ys : List CoreAct) → heard_in (xs ++ ys) ≡ heard_in xs ++ heard_in ys
heard_on [] ys = refl
heard_on (Hears now bytes ∷ xs) ys = ap (λ ds. bytes ∷ ds) (heard_on xs ys)
heard_on (Ticks now ∷ xs) ys = heard_on xs ys
heard_on (Deals ∷ xs) ys = heard_on xs ys

-- more acts: these datagrams were handed over meanwhile
lived_more : (begin : Receiver) (tells : Type 0) (before d e : Device) (v w : Core) (more : List CoreAct) → HasLived begin tells before d v → CoreLives v more w → (tells → e.received ≡ d.received ++ heard_in more) → HasLived begin tells before e w
lived_more begin tells before d e v w more h does heard = record {
  first = h.first;
  new = h.new;
  acts = h.acts ++ more;
  lived = acts_on h.first v w h.acts more h.lived does;
  heard = λ x. heard x ∙ ap (λ ds. ds ++ heard_in more) (h.heard x) ∙ append_assoc before.received (heard_in h.acts) (heard_in more) ∙ ap (λ ds. before.received ++ ds) (sym (heard_on h.acts more));
}

-- ---- a cycle

abbrev cycle_acts : ℕ → List (List ℕ) → List CoreAct
cycle_acts now [] = Ticks now ∷ []
cycle_acts now (d ∷ ds) = Hears now d ∷ cycle_acts now ds

cycle_heard : (now : ℕ) (ds : List (List ℕ)) → heard_in (cycle_acts now ds) ≡ ds
cycle_heard now [] = refl
cycle_heard now (d ∷ ds) = ap (λ xs. d ∷ xs) (cycle_heard now ds)

cycle_does : (now : ℕ) (v m w : Core) (ds answers given : List (List ℕ)) → HearsAll CoreHears now v ds m answers → CoreTicks m now w given → CoreLives v (cycle_acts now ds) w
cycle_does now v m w [] answers given all tick = (w, subst (λ x. CoreActsSo x (Ticks now) w) all.0 (record { sees = tick.sees; looks = tick.looks; becomes = tick.becomes }), refl)
cycle_does now v m w (d ∷ ds) answers given all tick = (all.0, (all.3.outcomes, all.3.hears), cycle_does now all.0 m w ds all.2 given all.4 tick)

pub lived_cycle : (begin : Receiver) (told still : Type 0) (before d e : Device) (v w : Core) (now : ℕ) (busy : Bool) → (told → still) → Cycle CoreHears CoreTicks now still v d busy w e → HasLived begin told before d v → HasLived begin told before e w
lived_cycle begin told still before d e v w now busy on y h =
    lived_more begin told before d e v w (cycle_acts now y.heard) h (cycle_does now v y.middle w y.heard y.answers y.given y.all_heard y.ticked)
    (λ x. (y.carries (on x)).received ∙ ap (λ ds. d.received ++ ds) (sym (cycle_heard now y.heard)))

-- the readers are given away, or one is met
pub lived_deal : (begin : Receiver) (told : Type 0) (before d : Device) (v w : Core) → w ≡ record v { image = w.image } → HasDealt v.image w.image → HasLived begin told before d v → HasLived begin told before d w
lived_deal begin told before d v w stays dealt h = lived_more begin told before d d v w (Deals ∷ []) h (w, (stays, dealt), refl) (λ x. sym (append-nil d.received))

-- ---- which image it is, and for how many

still_dealt : KeepsImage → (v w : Core) (acts : List CoreAct) (o : Option ImageWords) → CoreLives v acts w → HasDealtOf v.image o → HasDealtOf w.image o
still_dealt law v w acts None lives h = tt
still_dealt law v w acts (Some words) lives h = law v w acts lives words h

hears_count : (now : ℕ) (v m : Core) (ds answers : List (List ℕ)) → HearsAll CoreHears now v ds m answers → m.consumers ≡ v.consumers
hears_count now v m [] answers all = ap (λ (x : Core). x.consumers) all.0
hears_count now v m (d ∷ ds) answers all = hears_count now all.0 m ds all.2 all.4 ∙ all.3.consumers

pub received_cycle : {D : Type 0} → KeepsImage → (device : D → Device) (begin : Receiver) (before : Device) (told still : Type 0) (r q : ReceptionState D) (now : ℕ) (busy : Bool) → (told → still) → q.image ≡ r.image
    → Cycle CoreHears CoreTicks now still r.core (device r.duty.device) busy q.core (device q.duty.device) → HasReceivedOn device begin before told r → HasReceivedOn device begin before told q
received_cycle law device begin before told still r q now busy on image y h = record {
  one = y.ticked.consumers ∙ hears_count now r.core y.middle y.heard y.answers y.all_heard ∙ h.one;
  dealt = subst (HasDealtOf q.core.image) (sym image) (still_dealt law r.core q.core (cycle_acts now y.heard) r.image (cycle_does now r.core y.middle q.core y.heard y.answers y.given y.all_heard y.ticked) h.dealt);
  lived = lived_cycle begin told still before (device r.duty.device) (device q.duty.device) r.core q.core now busy on y h.lived;
}

-- ---- what holds without a fault still does

pub none_still : {X : Type 0} (o : Option X) (P Q : Type 0) → (P → Q) → IfNone o P → IfNone o Q
none_still None P Q f h = f h
none_still (Some x) P Q f h = tt

-- ---- at the end

-- what was named so is what there was
pub life_of : (begin was : Receiver) (told tells : Type 0) (d before after : Device) (w : Core) → begin ≡ was → d ≡ before → (tells → told) → HasLived begin told d after w → HasLived was tells before after w
life_of begin was told tells d before after w e f on h = record {
  first = h.first;
  new = subst (Represents h.first) e h.new;
  acts = h.acts;
  lived = h.lived;
  heard = λ x. h.heard (on x) ∙ ap (λ (b : Device). b.received ++ heard_in h.acts) f;
}

-- what both threads of a receiver that waits have left
pub has_received : {D : Type 0} (device : D → Device) (tells : D → Type 0) (g : Geometry) (count wanted : ℕ) (w : Waiting D) (result : Result (Received D) DeviceError) → IsWaitingReceiver g count w.number w
    → IfOk result (λ r. EndsLife (new_receiver g w.id) (tells w.device) (device w.device) (device r.device) r.tally r.refused) → IfOk result (λ r. r.tally.polled ≤ wanted) → IfOk result (HasReceived device tells g count wanted w.number w.device)
has_received device tells g count wanted w (Err e) is lived most = tt
has_received device tells g count wanted w (Ok r) is lived most = record {
  most = most;
  lived = record {
    core = lived.core;
    lived = life_of (new_receiver g w.id) (new_receiver g (id_of count w.number)) (tells w.device) (tells w.device) (device w.device) (device w.device) (device r.device) lived.core (ap (new_receiver g) is.id) refl (λ x. x) lived.lived;
    polled = lived.polled;
  };
}

-- ---- readers are given away, and one is met

takes_deals : (v w : Option Inserting) (r : Readers) → ImageTakes v r w → HasDealt v w
takes_deals None w r taken = absurd taken
takes_deals (Some i) w r taken = subst (HasDealt (Some i)) (sym taken.1) (taken.2.left ∙ (λ k. record i { seen = (ap (λ (x : Inserting). x.seen) (sym taken.2.left)) k; undealt = (ap (λ (x : Inserting). x.undealt) (sym taken.2.left)) k }))

dealt_still : (v w : Option Inserting) (o : Option ImageWords) → HasDealt v w → HasDealtOf v o → HasDealtOf w o
dealt_still v w None dealt h = tt
dealt_still None w (Some x) dealt h = absurd h
dealt_still (Some i) None (Some x) dealt h = absurd dealt
dealt_still (Some i) (Some j) (Some x) dealt h = ap words_of dealt ∙ h

taken_of : (v w : Option Inserting) (r : Readers) (x : ImageWords) → ImageTakes v r w → x ≡ arc_value r.image → HasDealtOf w (Some x)
taken_of None w r x taken same = absurd taken
taken_of (Some i) w r x taken same = subst (λ (y : Option Inserting). HasDealtOf y (Some x)) (sym taken.1) (ap words_of taken.2.left ∙ sym taken.2.image ∙ sym same)

dealt_so : {D : Type 0} (device : D → Device) (begin : Receiver) (before : Device) (told : Type 0) (r q : ReceptionState D) → q.duty ≡ r.duty → q.core ≡ record r.core { image = q.core.image } → HasDealt r.core.image q.core.image → HasDealtOf q.core.image q.image
    → HasReceivedOn device begin before told r → HasReceivedOn device begin before told q
dealt_so device begin before told r q duty stays dealt of h = record {
  one = ap (λ (c : Core). c.consumers) stays ∙ h.one;
  dealt = of;
  lived = subst (λ d. HasLived begin told before (device d.device) q.core) (sym duty) (lived_deal begin told before (device r.duty.device) r.core q.core stays dealt h.lived);
}

-- its readers are taken, and its own image isn't kept, or is
pub received_taken : {D : Type 0} (device : D → Device) (begin : Receiver) (before : Device) (told : Type 0) (r : ReceptionState D) (core : Core) (taken : Readers) → ImageTakes r.core.image taken core.image → core ≡ record r.core { image = core.image }
    → HasReceivedOn device begin before told r → HasReceivedOn device begin before told (record r { core = core })
received_taken device begin before told r core taken takes stays h =
    let dealt = takes_deals r.core.image core.image taken takes in
    dealt_so device begin before told r (record r { core = core }) refl stays dealt (dealt_still r.core.image core.image r.image dealt h.dealt) h

pub received_kept : {D : Type 0} (device : D → Device) (begin : Receiver) (before : Device) (told : Type 0) (r : ReceptionState D) (core : Core) (taken : Readers) (x : ImageWords) → ImageTakes r.core.image taken core.image → core ≡ record r.core { image = core.image } → x ≡ arc_value taken.image
    → HasReceivedOn device begin before told r → HasReceivedOn device begin before told (record r { core = core; image = Some x })
received_kept device begin before told r core taken x takes stays same h =
    dealt_so device begin before told r (record r { core = core; image = Some x }) refl stays (takes_deals r.core.image core.image taken takes) (taken_of r.core.image core.image taken x takes same) h

-- ---- what is left

when_none : {X : Type 0} (o : Option X) (P : Type 0) → ((x : X) → o ≡ Some x → ⊥) → IfNone o P → P
when_none None P none h = h
when_none (Some x) P none h = absurd (none x refl)

polled_nowhere : (v : Option Inserting) (t : Counted) → IsTallyOf [] t → PolledOf v t 0
polled_nowhere None t tally = (tally, refl)
polled_nowhere (Some i) t tally = inl (tally, refl)

pub ends_none : {D : Type 0} (device : D → Device) (begin : Receiver) (before : Device) (told : Type 0) (r : ReceptionState D) (t : Counted) → ((x : DeviceError) → r.fault ≡ Some x → ⊥) → IfNone r.fault (HasReceivedOn device begin before told r) → IsTallyOf [] t
    → EndsLife begin told before (device r.duty.device) t 0
ends_none device begin before told r t none received tally = record { core = r.core; lived = (when_none r.fault (HasReceivedOn device begin before told r) none received).lived; polled = polled_nowhere r.core.image t tally }

pub ends_polled : {D : Type 0} (device : D → Device) (begin : Receiver) (before : Device) (told : Type 0) (r : ReceptionState D) (w : Core) (t : Counted) (refused : ℕ) → ((x : DeviceError) → r.fault ≡ Some x → ⊥) → IfNone r.fault (HasReceivedOn device begin before told r)
    → w ≡ record r.core { image = w.image } → HasDealt r.core.image w.image → PolledOf w.image t refused → EndsLife begin told before (device r.duty.device) t refused
ends_polled device begin before told r w t refused none received stays dealt polled = record {
  core = w;
  lived = lived_deal begin told before (device r.duty.device) r.core w stays dealt (when_none r.fault (HasReceivedOn device begin before told r) none received).lived;
  polled = polled;
}

-- the image of who polls is the one that was given away
pub may_meet : {D : Type 0} (device : D → Device) (begin : Receiver) (before : Device) (told : Type 0) (r : ReceptionState D) (x : ImageWords) → ((e : DeviceError) → r.fault ≡ Some e → ⊥) → IfNone r.fault (HasReceivedOn device begin before told r) → r.image ≡ Some x → IsImage r.core.image x
may_meet device begin before told r x none received image = subst (HasDealtOf r.core.image) image (when_none r.fault (HasReceivedOn device begin before told r) none received).dealt

-- the tally is one of some messages
pub life_tallies : (v : Option Inserting) (t : Counted) (refused : ℕ) → PolledOf v t refused → IsTally t
life_tallies None t refused h = record { messages = []; tally = h.0 }
life_tallies (Some i) t refused (inl h) = record { messages = []; tally = h.0 }
life_tallies (Some i) t refused (inr h) = record { messages = given_by h.answers; tally = h.tally }
