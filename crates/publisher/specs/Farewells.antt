-- What a publisher tells of its stream's end.
use Rattle.std.specs.Prelude.{◌≡◌, ℕ, zero, suc, Bool, true, false, ◌&&◌, min, nat_eq, List, map, Option, None, Some, Result, Ok, Err, if◌then◌else◌}
use Rattle.std.specs.Bool.{beq}
use Rattle.std.specs.List.{list_all}
use Rattle.theory.specs.Position.{Geometry, max_position}
use Rattle.endpoint.specs.declared.device_error.DeviceError.TheVariants.{Device}
use Rattle.peer.specs.Watching.{Watched, with_end}
use Rattle.peer.specs.declared.attendance.Ending.{Ending}
use Rattle.peer.specs.declared.attendance.Ending.TheVariants.{Short}
use Rattle.peer.specs.declared.attended.ToldEnds.{ToldEnds}
use Rattle.peer.specs.declared.farewell.StreamEnd.{StreamEnd}
use Rattle.publisher.specs.declared.offering.reading.Reading.{Reading}
use Rattle.publisher.specs.Judging.{stream_end_in}
use Rattle.publisher.specs.Seeing.{ChannelDestination}
use Rattle.publisher.specs.declared.destination.Destination.{Destination}
use Rattle.publisher.specs.declared.fault.PublishFault.{PublishFault}
use Rattle.publisher.specs.declared.fault.PublishFault.TheVariants.{Input, Full, NoSocket, NoThread, Failed}

-- the stream's end that is told at the publisher's end, if one is: the reading's, unless the system or memory failed
abbrev pub farewell_of_fault : PublishFault → Option StreamEnd → Option StreamEnd
farewell_of_fault (Input fault) end = end
farewell_of_fault Full end = end
farewell_of_fault (NoSocket route number) end = None
farewell_of_fault NoThread end = None
farewell_of_fault (Failed error) end = None

abbrev pub farewell_by : Result Ending PublishFault → Option StreamEnd → Option StreamEnd
farewell_by (Ok ending) end = end
farewell_by (Err fault) end = farewell_of_fault fault end

abbrev pub farewell_in : Option Reading → Result Ending PublishFault → Option StreamEnd
farewell_in reading ending = farewell_by ending (stream_end_in reading)

-- of the ends that were told each is here, and the stream is broken off at one exactly where this says so
abbrev pub are_all : ToldEnds → ℕ → Bool → Bool
are_all ends end broken = nat_eq ends.least end && (nat_eq ends.greatest end && beq ends.broken broken)

-- each is this one, as far as the stream can go
abbrev pub has_told_alone : Option ToldEnds → Geometry → Option StreamEnd → Bool
has_told_alone None g end = false
has_told_alone (Some ends) g None = false
has_told_alone (Some ends) g (Some end) = are_all ends (min end.position (max_position g)) end.broken

-- no end was told but this one, if any
abbrev pub has_told_no_other : Option ToldEnds → Geometry → Option StreamEnd → Bool
has_told_no_other None g end = true
has_told_no_other (Some ends) g end = has_told_alone (Some ends) g end

-- another end that was told is a fault
abbrev pub ending_unless_another : Result Ending PublishFault → Bool → Result Ending PublishFault
ending_unless_another (Ok ending) true = Ok ending
ending_unless_another (Ok ending) false = Err (Failed Device)
ending_unless_another (Err fault) no_other = Err fault

-- whole only where they are
abbrev pub ending_told : Result Ending PublishFault → Bool → Result Ending PublishFault
ending_told (Ok ending) told_alone = Ok (if told_alone then ending else Short)
ending_told (Err fault) told_alone = Err fault

-- each device told this end alone
abbrev pub are_told_alone : Geometry → Option StreamEnd → List (Option ToldEnds) → Bool
are_told_alone g end ends = list_all (λ told. has_told_alone told g end) ends

-- no device told another, if it told any
abbrev pub are_told_no_other : Geometry → Option StreamEnd → List (Option ToldEnds) → Bool
are_told_no_other g end ends = list_all (λ told. has_told_no_other told g end) ends

-- ---- where it is told

-- a destination, with what its device has noted
abbrev pub noted : {D : Type 0} → ChannelDestination D → Destination Watched
noted w = record { device = w.device.watch; id = w.id; peer = w.peer; before = w.before; progress = w.progress; silence = w.silence; unheard = w.unheard; quiet = w.quiet; behind = w.behind; broken = w.broken }

-- its device was given this end to tell, so often
abbrev pub told_times : ℕ → StreamEnd → Destination Watched → Destination Watched
told_times zero end w = w
told_times (suc n) end w = record (told_times n end w) { device = with_end (told_times n end w).device end }

abbrev pub AreTold : {D : Type 0} → ℕ → StreamEnd → List (ChannelDestination D) → List (ChannelDestination D) → Type 0
AreTold count end old new = map noted new ≡ map (λ w. told_times count end (noted w)) old

-- each was told this end once, if it is due
abbrev pub TellsWhereDue : {D : Type 0} → Option StreamEnd → List (ChannelDestination D) → List (ChannelDestination D) → Type 0
TellsWhereDue None old new = new ≡ old
TellsWhereDue (Some end) old new = AreTold 1 end old new

-- each is told the stream's end five times, if it has one
abbrev pub TellsFarewell : {D : Type 0} → Option StreamEnd → List (ChannelDestination D) → List (ChannelDestination D) → Type 0
TellsFarewell None old new = new ≡ old
TellsFarewell (Some end) old new = AreTold 5 end old new

-- the ends that its device was given to tell
abbrev pub ends_along : {D : Type 0} → ChannelDestination D → Option ToldEnds
ends_along w = w.device.watch.ends
