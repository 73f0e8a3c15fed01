-- The numbers that a user sees or gives, and a poll's fault.
use Rattle.std.specs.Prelude.{ℕ, ℤ, pos, negsuc, Option, None, Some, nat_eq, if◌then◌else◌}
use Rattle.assembler.specs.declared.fault.AssemblyError.{AssemblyError}
use Rattle.assembler.specs.declared.fault.AssemblyError.TheVariants as assembly
use Rattle.frames.specs.declared.fault.FrameError.{FrameError}
use Rattle.frames.specs.declared.fault.FrameError.TheVariants as frame
use Rattle.image.specs.declared.answer.Insert.{Insert}
use Rattle.image.specs.declared.answer.Insert.TheVariants as insert
use Rattle.receiver.specs.declared.setup.fault.SetupError.{SetupError}
use Rattle.receiver.specs.declared.setup.fault.SetupError.TheVariants as setup
use Rattle.sender.specs.declared.retransmit.answer.NakResult.{NakResult}
use Rattle.sender.specs.declared.retransmit.answer.NakResult.TheVariants as nak
use Rattle.receiver.specs.declared.poll_error.PollError.{PollError}
use Rattle.receiver.specs.declared.poll_error.PollError.TheVariants as polls
use Rattle.receiver.specs.declared.receiver_core.Outcome.{Outcome}
use Rattle.receiver.specs.declared.receiver_core.Outcome.TheVariants as outcome
use Rattle.sender.specs.declared.sender_core.SenderAnswer.{SenderAnswer}
use Rattle.sender.specs.declared.sender_core.SenderAnswer.TheVariants as answer
use Rattle.cores.specs.declared.fault.Fault.{Fault}
use Rattle.cores.specs.declared.fault.Fault.TheVariants.{Group, HasRead, Memory, NoImage, Room, Start, TooLong, Unsent}

abbrev pub code_of : Fault → ℤ
code_of Room = negsuc 6
code_of Unsent = negsuc 10
code_of NoImage = negsuc 11
code_of TooLong = negsuc 12
code_of Memory = negsuc 18
code_of Start = negsuc 21
code_of Group = negsuc 24
code_of HasRead = negsuc 25

-- I1 to I6
abbrev pub of_insert : Insert → ℤ
of_insert insert.Stored = pos 1
of_insert insert.Duplicate = pos 2
of_insert insert.Below = pos 3
of_insert insert.OverWindow = pos 4
of_insert insert.Overlap = pos 5
of_insert insert.CrossesTerm = pos 6

-- S1 to S3
abbrev pub of_setup : SetupError → ℤ
of_setup setup.Geometry = negsuc 0
of_setup setup.Position = negsuc 1
of_setup setup.Window = negsuc 2

-- F1 to F8
abbrev pub of_frame : FrameError → ℤ
of_frame frame.Short = negsuc 10
of_frame frame.Version = negsuc 11
of_frame frame.Kind = negsuc 12
of_frame frame.Length = negsuc 13
of_frame frame.Flags = negsuc 14
of_frame frame.Alignment = negsuc 15
of_frame frame.Range = negsuc 16
of_frame frame.Datagram = negsuc 17

-- N1 to N5
abbrev pub of_nak : NakResult → ℤ
of_nak nak.Taken = pos 21
of_nak nak.Lingering = pos 22
of_nak nak.Full = pos 23
of_nak nak.OutOfRange = pos 24
of_nak nak.NotAFrameStart = pos 25

abbrev pub of_outcome : Outcome → ℤ
of_outcome (outcome.Inserted a) = of_insert a
of_outcome outcome.Heartbeat = pos 10
of_outcome (outcome.Opened position) = pos 11
of_outcome outcome.Kept = pos 12
of_outcome outcome.Asked = pos 13
of_outcome outcome.Other = pos 14
of_outcome (outcome.SetupRefused fault) = of_setup fault
of_outcome (outcome.Refused fault) = of_frame fault

abbrev pub of_answer : SenderAnswer → ℤ
of_answer answer.Ticked = pos 0
of_answer answer.Asked = pos 13
of_answer answer.Other = pos 14
of_answer (answer.Status limit) = pos 15
of_answer (answer.Missed a) = of_nak a
of_answer (answer.Refused fault) = of_frame fault

abbrev pub poll_fault : PollError → Fault
poll_fault polls.NoImage = NoImage
poll_fault (polls.Unassembled assembly.Memory) = Memory
poll_fault (polls.Unassembled assembly.TooLong) = TooLong

abbrev pub assembly_fault : AssemblyError → Fault
assembly_fault assembly.Memory = Memory
assembly_fault assembly.TooLong = TooLong

-- of so many receivers; 0 is one receiver, whatever its id
abbrev pub group_of : ℕ → Option ℕ
group_of n = if nat_eq n 0 then None else Some n
