-- A publisher's cycles and its farewell leave as many destinations, and the farewell whom they have heard.
use Rattle.std.proofs.Common.{◌≡◌, ◌∙◌, ℕ, ◌+◌, zero, suc, add-one, Bool, true, false, if◌then◌else◌, List, [], ◌∷◌, length, map, Option, None, Some, refl, sym, ap}
use Rattle.std.proofs.lemmas.List.{length-map}
use Rattle.endpoint.specs.Fans.{AllLive}
use Rattle.options.specs.declared.ends.plans.PublishPlan.{PublishPlan}
use Rattle.peer.specs.Watching.{Watched}
use Rattle.peer.specs.declared.attendance.Attendance.{Attendance}
use Rattle.peer.specs.declared.farewell.StreamEnd.{StreamEnd}
use Rattle.publisher.specs.Destinations.{next_number, numbered_from}
use Rattle.publisher.specs.Endings.{heard_along}
use Rattle.publisher.specs.Farewells.{AreTold, TellsFarewell, TellsWhereDue, noted, told_times}
use Rattle.publisher.specs.Seeing.{ChannelDestination, begun, seen_along}
use Rattle.publisher.specs.Judging.{end_in}
use Rattle.publisher.specs.Turns.{Begins, Cycles, EndsBehind, Going, Turns, TurnsMany}
use Rattle.publisher.specs.declared.destination.Destination.{Destination}
use Rattle.publisher.specs.declared.judging.Judged.{Judged}
use Rattle.publisher.specs.declared.sender_thread.ChannelSender.{ChannelSender}

pub as_many : {X Y Z : Type 0} (f : X → Z) (g : Y → Z) (xs : List X) (ys : List Y) → map f xs ≡ map g ys → length xs ≡ length ys
as_many f g xs ys same = sym (length-map xs f) ∙ ap length same ∙ length-map ys g

all_many : {D : Type 0} (lives : D → D → Type 0) (old new : List D) → AllLive lives old new → length new ≡ length old
all_many lives [] [] all = refl
all_many lives [] (n ∷ ns) all = absurd all
all_many lives (o ∷ os) [] all = absurd all
all_many lives (o ∷ os) (n ∷ ns) all = ap suc (all_many lives os ns all.1)

pub cycled_many : {D : Type 0} (end : Option ℕ) (linger now : ℕ) (old new : ChannelSender D) → Cycles end linger now old new → length new.passes.duty.device.ways ≡ length old.passes.duty.device.ways
cycled_many {D} end linger now old new c =
    ap length c.seen ∙ length-map c.between (seen_along end linger now) ∙ all_many _ (map (begun old.agent.core.handler.at) old.passes.duty.device.ways) c.between c.lived ∙ length-map old.passes.duty.device.ways (begun old.agent.core.handler.at)

numbered_many : {D : Type 0} (next : ℕ) (ws : List (ChannelDestination D)) → length (numbered_from next ws) ≡ length ws
numbered_many next [] = refl
numbered_many next (w ∷ ws) = ap suc (numbered_many (next_number next w) ws)

either_many : {D : Type 0} (b : Bool) (ws : List (ChannelDestination D)) → length (if b then numbered_from 0 ws else ws) ≡ length ws
either_many true ws = numbered_many 0 ws
either_many false ws = refl

pub begun_many : {D : Type 0} (wait now : ℕ) (begun result : Bool) (old new : ChannelSender D) → Begins wait now begun old result new → length new.passes.duty.device.ways ≡ length old.passes.duty.device.ways
begun_many {D} wait now begun result old new b = ap length b.destinations ∙ either_many _ old.passes.duty.device.ways

pub told_many : {D : Type 0} (count : ℕ) (end : StreamEnd) (old new : List (ChannelDestination D)) → AreTold count end old new → length new ≡ length old
told_many count end old new told = as_many noted (λ w. told_times count end (noted w)) new old told

due_many : {D : Type 0} (end : Option StreamEnd) (old new : List (ChannelDestination D)) → TellsWhereDue end old new → length new ≡ length old
due_many None old new same = ap length same
due_many (Some end) old new told = told_many 1 end old new told

turned_many : {D : Type 0} (p : PublishPlan) (before after : Going) (old new : ChannelSender D) → Turns p before old after new → length new.passes.duty.device.ways ≡ length old.passes.duty.device.ways
turned_many {D} p before after old new t =
    due_many t.end t.beginning.passes.duty.device.ways new.passes.duty.device.ways t.told ∙ begun_many p.wait t.now before.begun after.begun t.cycled t.beginning t.begins ∙ cycled_many (end_in after.reading) p.linger t.now old t.cycled t.cycles

pub turns_many : {D : Type 0} (p : PublishPlan) (count : ℕ) (going : Going) (first last : ChannelSender D) → TurnsMany p count first going last → length last.passes.duty.device.ways ≡ length first.passes.duty.device.ways
turns_many {D} p zero going first last turns = ap (λ (s : ChannelSender D). length s.passes.duty.device.ways) turns.0
turns_many {D} p (suc n) going first last turns = turned_many p turns.0 going turns.1 last turns.3 ∙ turns_many p n turns.0 first turns.1 turns.2

pub behind_many : {D : Type 0} (p : PublishPlan) (first last : ChannelSender D) (judged : Judged) → EndsBehind p first last judged → length last.passes.duty.device.ways ≡ length first.passes.duty.device.ways
behind_many {D} p first last judged e = cycled_many (end_in judged.reading) p.linger e.now e.before last e.cycles ∙ turns_many p e.count e.going first e.before e.turns

-- ---- the farewell

pub farewell_many : {D : Type 0} (end : Option StreamEnd) (old new : List (ChannelDestination D)) → TellsFarewell end old new → length new ≡ length old
farewell_many None old new same = ap length same
farewell_many (Some end) old new told = told_many 5 end old new told

abbrev heard_noted : Destination Watched → Attendance
heard_noted w = w.device.attendance

told_heard : (count : ℕ) (end : StreamEnd) (w : Destination Watched) → heard_noted (told_times count end w) ≡ heard_noted w
told_heard zero end w = refl
told_heard (suc n) end w = told_heard n end w

as_noted : {D : Type 0} (ws : List (ChannelDestination D)) → map heard_noted (map noted ws) ≡ map heard_along ws
as_noted [] = refl
as_noted (w ∷ ws) = λ i. heard_along w ∷ as_noted ws i

as_told : {D : Type 0} (count : ℕ) (end : StreamEnd) (ws : List (ChannelDestination D)) → map heard_noted (map (λ w. told_times count end (noted w)) ws) ≡ map heard_along ws
as_told count end [] = refl
as_told count end (w ∷ ws) = λ i. told_heard count end (noted w) i ∷ as_told count end ws i

pub farewell_heard : {D : Type 0} (end : Option StreamEnd) (old new : List (ChannelDestination D)) → TellsFarewell end old new → map heard_along new ≡ map heard_along old
farewell_heard None old new same = ap (map heard_along) same
farewell_heard (Some end) old new told = sym (as_noted new) ∙ ap (map heard_noted) told ∙ as_told 5 end old

-- ---- an end that is told once more

told_again : {D : Type 0} (count : ℕ) (end : StreamEnd) (old middle : List (ChannelDestination D)) → map noted middle ≡ map (λ w. told_times count end (noted w)) old → map (λ w. told_times 1 end (noted w)) middle ≡ map (λ w. told_times (suc count) end (noted w)) old
told_again count end old middle same = as_one middle ∙ ap (map (told_times 1 end)) same ∙ as_more old
  where
    as_one : {D : Type 0} (ws : List (ChannelDestination D)) → map (λ w. told_times 1 end (noted w)) ws ≡ map (told_times 1 end) (map noted ws)
    as_one [] = refl
    as_one (w ∷ ws) = λ i. told_times 1 end (noted w) ∷ as_one ws i

    as_more : {D : Type 0} (ws : List (ChannelDestination D)) → map (told_times 1 end) (map (λ w. told_times count end (noted w)) ws) ≡ map (λ w. told_times (suc count) end (noted w)) ws
    as_more [] = refl
    as_more (w ∷ ws) = λ i. told_times (suc count) end (noted w) ∷ as_more ws i

pub again : {D : Type 0} (count : ℕ) (end : StreamEnd) (first before after : List (ChannelDestination D)) → AreTold count end first before → AreTold 1 end before after → AreTold (count + 1) end first after
again {D} count end first before after so next = next ∙ told_again count end first before so ∙ ap (λ (n : ℕ). map (λ w. told_times n end (noted w)) first) (sym (add-one count))
