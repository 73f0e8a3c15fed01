-- What stops a publisher, and where its stream ends.
use Rattle.std.specs.Prelude.{◌≡◌, ◌⊎◌, ⊤, ℕ, Bool, true, false, ◌&&◌, nat_eq, if◌then◌else◌, Option, None, Some, Result, Ok, Err}
use Rattle.endpoint.specs.declared.device_error.DeviceError.TheVariants.{Device}
use Rattle.peer.specs.declared.attendance.Ending.{Ending}
use Rattle.peer.specs.declared.attendance.Ending.TheVariants.{Short}
use Rattle.peer.specs.declared.farewell.StreamEnd.{StreamEnd}
use Rattle.publisher.specs.Inputs as inputs
use Rattle.publisher.specs.declared.offering.reading.ReadingFault.{ReadingFault}
use Rattle.publisher.specs.declared.offering.reading.Offered.{Offered}
use Rattle.publisher.specs.declared.offering.reading.Reading.{Reading}
use Rattle.publisher.specs.declared.offering.reading.ReadingEnd.{ReadingEnd}
use Rattle.publisher.specs.declared.offering.reading.ReadingEnd.TheVariants.{All, Stopped}
use Rattle.publisher.specs.Faults.{publish_fault}
use Rattle.publisher.specs.declared.fault.PublishFault.{PublishFault}
use Rattle.publisher.specs.declared.fault.PublishFault.TheVariants.{Failed}
use Rattle.publisher.specs.declared.judging.Judged.{Judged}

abbrev pub fault_by : Result ReadingEnd ReadingFault → Option PublishFault
fault_by (Ok end) = None
fault_by (Err fault) = Some (publish_fault fault)

abbrev pub fault_in : Option Reading → Option PublishFault
fault_in None = None
fault_in (Some reading) = fault_by reading.ended

-- one of the reading, for some shape of a stream
abbrev pub IsStop : PublishFault → Type 0
IsStop fault = (f : ReadingFault) × (fault ≡ publish_fault f) × inputs.IsStop f

-- the stream ends where the accepted messages do, once none comes any more, and is broken off there where that is by a fault; where the
-- reading was stopped, more may come of the input
abbrev pub stream_end_by : Result ReadingEnd ReadingFault → ℕ → Option StreamEnd
stream_end_by (Ok All) tail = Some (record { position = tail; broken = false })
stream_end_by (Ok Stopped) tail = None
stream_end_by (Err fault) tail = Some (record { position = tail; broken = true })

-- the end that is announced
abbrev pub stream_end_in : Option Reading → Option StreamEnd
stream_end_in None = None
stream_end_in (Some reading) = stream_end_by reading.ended reading.offered.tail

abbrev pub position_in : Option StreamEnd → Option ℕ
position_in None = None
position_in (Some end) = Some end.position

-- its position
abbrev pub end_in : Option Reading → Option ℕ
end_in reading = position_in (stream_end_in reading)

-- how the reading ended, if it had, it has still
abbrev pub StaysEnded : Option Reading → Option Reading → Type 0
StaysEnded None after = ⊤
StaysEnded (Some reading) after = after ≡ Some reading

-- how many messages were accepted, and where they end: as the reading says, once it has ended
abbrev pub messages_in : Option Reading → ℕ → ℕ
messages_in None messages = messages
messages_in (Some reading) messages = reading.offered.messages

abbrev pub tail_in : Option Reading → ℕ → ℕ
tail_in None tail = tail
tail_in (Some reading) tail = reading.offered.tail

-- before any message was accepted
abbrev pub input_fault : PublishFault → ℕ → Result (Unit {0}) PublishFault
input_fault fault messages = if nat_eq messages 0 then Err fault else Ok tt

-- where the reading has stopped for that
abbrev pub reading_fault : Option PublishFault → ℕ → Result (Unit {0}) PublishFault
reading_fault None messages = Ok tt
reading_fault (Some fault) messages = input_fault fault messages

-- why it goes on no more: each call of the device has failed for too long, or the reading has stopped for that
abbrev pub FailsBy : Bool → Option Reading → PublishFault → Type 0
FailsBy broken reading fault = ((broken ≡ true) × (fault ≡ Failed Device)) ⊎ (fault_in reading ≡ Some fault)

-- ---- how it ended in all

abbrev pub is_all : Result ReadingEnd ReadingFault → Bool
is_all (Ok All) = true
is_all (Ok Stopped) = false
is_all (Err fault) = false

abbrev pub are_same : Offered → Offered → Bool
are_same a b = nat_eq a.messages b.messages && nat_eq a.tail b.tail

-- all of the input was read, and what was accepted of it is what the end was judged by
abbrev pub is_read : Option Reading → Option Reading → Bool
is_read None judged = false
is_read (Some reading) None = false
is_read (Some reading) (Some judged) = is_all reading.ended && are_same reading.offered judged.offered

-- whole only then
abbrev pub ending_by : Bool → Ending → Ending
ending_by true ending = ending
ending_by false ending = Short

abbrev pub ending_of : Option Reading → Result Judged PublishFault → Result Ending PublishFault
ending_of reading (Ok judged) = Ok (ending_by (is_read reading judged.reading) judged.ending)
ending_of reading (Err fault) = Err fault

abbrev pub faulted_or : Option PublishFault → Result Ending PublishFault → Result Ending PublishFault
faulted_or None sent = sent
faulted_or (Some fault) sent = Err fault

-- what stopped the reading goes before how the sending ended
abbrev pub ended_by : Option Reading → Result Judged PublishFault → Result Ending PublishFault
ended_by reading sent = faulted_or (fault_in reading) (ending_of reading sent)
