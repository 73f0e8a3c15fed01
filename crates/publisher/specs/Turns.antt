-- What the cycles of a publisher's sender have shown, with whom it began, and how it ends by that.
use Rattle.std.specs.Prelude.{◌≡◌, ◌⊎◌, ◌||◌, ℕ, zero, suc, Bool, false, List, length, map, Option, None}
use Rattle.sender_meaning.specs.Moments.{CyclesAt}
use Rattle.sender_meaning.specs.StreamLives.{StreamLivedTo, StreamLivedToLast}
use Rattle.options.specs.declared.ends.plans.PublishPlan.{PublishPlan}
use Rattle.peer.specs.declared.attendance.Ending.TheVariants.{Short}
use Rattle.peer.specs.declared.farewell.StreamEnd.{StreamEnd}
use Rattle.publisher.specs.declared.judging.Judged.{Judged}
use Rattle.publisher.specs.declared.telling.Shortfall.TheVariants.{Elsewhere}
use Rattle.publisher.specs.declared.telling.ToldShortfall.{ToldShortfall}
use Rattle.publisher.specs.Destinations.{begins_now, flow_with, heard_count, destinations_with}
use Rattle.publisher.specs.Farewells.{TellsWhereDue}
use Rattle.publisher.specs.Judges.{Ends, HasToldWhy}
use Rattle.publisher.specs.Judging.{StaysEnded, end_in, stream_end_in}
use Rattle.publisher.specs.Progress.{end_due, ended_after}
use Rattle.publisher.specs.declared.offering.reading.Reading.{Reading}
use Rattle.publisher.specs.Whys.{IsTold}
use Rattle.publisher.specs.Seeing.{ChannelDestination, LivesAlong, begun, seen_along}
use Rattle.publisher.specs.declared.sender_thread.ChannelSender.{ChannelSender}

-- its core lived on up to this moment, which it was told last, by the flow control that it had
abbrev pub LivedAt : {D : Type 0} → ℕ → ChannelSender D → ChannelSender D → Type 0
LivedAt now old new = StreamLivedTo 0 now old.agent.core new.agent.core

-- up to some moment that it was told last
abbrev pub LivedToLast : {D : Type 0} → ChannelSender D → ChannelSender D → Type 0
LivedToLast old new = StreamLivedToLast (length old.passes.duty.device.ways) old.agent.core new.agent.core

-- a cycle, whose moment its core was told last: each destination's device was told how far the stream was sent, and lived on; what it
-- has shown was seen at that moment, of a stream that ends here, if that is known
pub record Cycles {D : Type 0} (end : Option ℕ) (linger now : ℕ) (old new : ChannelSender D) : Type 0 where
  pub moment : CyclesAt now old.agent.core new.agent.core
  pub between : List (ChannelDestination D)
  pub lived : LivesAlong (map (begun old.agent.core.handler.at) old.passes.duty.device.ways) between
  pub seen : new.passes.duty.device.ways ≡ map (seen_along end linger now) between

-- behind the wait it begins with those that were heard, if it does now, and whether it has by then
pub record Begins {D : Type 0} (wait now : ℕ) (begun : Bool) (old : ChannelSender D) (result : Bool) (new : ChannelSender D) : Type 0 where
  pub begins : Bool
  pub is : begins ≡ begins_now begun wait now (heard_count old.passes.duty.device.ways) old.agent.core.handler.at
  pub begun_is : result ≡ (begun || begins)
  pub flow : new.agent.core.flow ≡ flow_with begins old.agent.core.handler.at old.passes.duty.device.ways old.agent.core.flow
  pub destinations : new.passes.duty.device.ways ≡ destinations_with begins old.passes.duty.device.ways

-- what a turn leaves to the next one: whether it has begun with those that were heard, how the reading had ended then, if it had, and the
-- moment at which the stream's end was told last, if it was
pub record Going : Type 0 where
  pub begun : Bool
  pub reading : Option Reading
  pub ended : Option ℕ

-- before the first one
abbrev pub not_yet : Going
not_yet = record { begun = false; reading = None; ended = None }

-- a cycle, with which it began then, and the end of the reading that was told where it was due: no other is
pub record Turns {D : Type 0} (p : PublishPlan) (before : Going) (old : ChannelSender D) (after : Going) (new : ChannelSender D) : Type 0 where
  pub now : ℕ
  pub stays : StaysEnded before.reading after.reading
  pub cycled : ChannelSender D
  pub cycles : Cycles (end_in after.reading) p.linger now old cycled
  pub beginning : ChannelSender D
  pub begins : Begins p.wait now before.begun cycled after.begun beginning
  pub end : Option StreamEnd
  pub due : end ≡ end_due before.ended (stream_end_in after.reading) beginning.agent.core.handler.at now
  pub told : TellsWhereDue end beginning.passes.duty.device.ways new.passes.duty.device.ways
  pub ended : after.ended ≡ ended_after before.ended end now
  pub agent : new.agent ≡ beginning.agent

-- so many of them
abbrev pub TurnsMany : {D : Type 0} → PublishPlan → ℕ → ChannelSender D → Going → ChannelSender D → Type 0
TurnsMany p zero first going last = (last ≡ first) × (going ≡ not_yet)
TurnsMany {D} p (suc n) first going last = (before : Going) × (middle : ChannelSender D) × TurnsMany p n first before middle × Turns p before middle going last

-- behind so many it ends this way by one more cycle: by whom its destinations have heard, the silences that were seen in that, and how the
-- reading had ended then, as it had before, if it had; and where that is short a line has said why
pub record EndsBehind {D : Type 0} (p : PublishPlan) (first last : ChannelSender D) (judged : Judged) : Type 0 where
  pub count : ℕ
  pub going : Going
  pub before : ChannelSender D
  pub turns : TurnsMany p count first going before
  pub now : ℕ
  pub stays : StaysEnded going.reading judged.reading
  pub cycles : Cycles (end_in judged.reading) p.linger now before last
  pub is : Ends last.passes.duty.device.ways p.linger p.wait judged
  pub why : HasToldWhy last.passes.duty.device.ways judged

-- it was judged to end short by its cycles, and the line of that was given
pub record GaveUp {D : Type 0} (p : PublishPlan) (first : ChannelSender D) (told : Option ToldShortfall) : Type 0 where
  pub last : ChannelSender D
  pub judged : Judged
  pub ends : EndsBehind p first last judged
  pub short : judged.ending ≡ Short
  pub line : told ≡ judged.told

-- or the line was given that its input ended elsewhere
abbrev pub SaysWhy : {D : Type 0} → PublishPlan → ChannelSender D → Option ToldShortfall → Type 0
SaysWhy p first told = GaveUp p first told ⊎ IsTold first.peer Elsewhere told
