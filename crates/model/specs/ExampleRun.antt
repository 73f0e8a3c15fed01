-- A run that there is: a message in two frames, a claim that is aborted, a trip of the term's end, a message in the next term; two images, one of which loses a frame and gets the others out of order, and one with two consumers, of which one lags, and whose assembler loses a frame; a sender to a group of two, which begins once both were heard; readers of the log that pass a frame by, and that join in the middle of a message.
use Rattle.std.specs.Prelude.{◌≡◌, ℕ, pos, true, false, List, [], ◌∷◌, ◌++◌, replicate, None, Some, slice_get, ◌<◌, ◌%◌}
use Rattle.theory.specs.Position.{IsGeometry, max_position}
use Rattle.theory.specs.Placed.{Data, Pad, Placed}
use Rattle.theory.specs.Tiling.{share_of}
use Rattle.theory.specs.Bytes.{Identity, IsIdentity}
use Rattle.theory.specs.Consumer.{Consumer, consumer_at}
use Rattle.theory.specs.Image.{Image, Inserted, Lose, Poll}
use Rattle.model.specs.Log.{Abort, Add, Arm, Commit, Connect, Join, Leave, Log, Move, Pass, Raise}
use Rattle.model.specs.Sender.{HearNak, HearStatus, Resend, Send, SendSetup}
use Rattle.model.specs.World.{AtImage, AtLog, AtSender, Event, IsOpened, Open, Run, World, opened_sender}

-- 448 bytes before the end of the first term, in frames of at most 256 bytes
abbrev pub start : ℕ
start = 65088

abbrev pub log_at_start : Log
log_at_start = record {
  identity = record { geometry = record { term_length = 65536; mtu = 256; initial_term_id = pos 7 }; session = pos 1; stream = pos 1001 };
  start = start;
  tail = start;
  entries = [];
  armed = replicate 8 false;
  retired = replicate 8 false;
  limit = start;
  connected = false;
  closed = false;
  cleaned = start;
  readers = Some (consumer_at start) ∷ None ∷ [];
}

abbrev pub world_at_start : World
world_at_start = record { log = log_at_start; sender = opened_sender start (Some 2); images = replicate 8 None }

-- a message of 230 bytes
abbrev pub begin : Placed
begin = record { at = 65088; frame = Data 128 (replicate 224 1) }

abbrev pub end : Placed
end = record { at = 65344; frame = Data 64 (replicate 6 2) }

-- a claim of 10 bytes that was aborted
abbrev pub aborted : Placed
aborted = record { at = 65408; frame = Pad 42 }

-- what was left of the term when 100 bytes were offered
abbrev pub tripped : Placed
tripped = record { at = 65472; frame = Pad 64 }

-- abc, in the next term
abbrev pub abc : Placed
abc = record { at = 65536; frame = Data 192 (97 ∷ 98 ∷ 99 ∷ []) }

abbrev pub events : List Event
events =
    AtLog (Connect true) ∷ AtLog (Raise 65088) ∷ AtLog (Arm 0 97856) ∷ AtLog (Add 0 230) ∷ AtLog (Arm 1 97856) ∷ AtLog (Add 1 10)
    ∷ AtLog (Commit 65088 begin.frame) ∷ AtLog (Abort 65408) ∷ AtLog (Commit 65088 end.frame) ∷ AtLog (Arm 0 97856) ∷ AtLog (Add 0 100)
    ∷ AtLog (Commit 65472 tripped.frame) ∷ AtLog (Arm 0 97856) ∷ AtLog (Add 0 3) ∷ AtLog (Commit 65536 abc.frame)
    ∷ AtLog (Join 1 65088) ∷ AtLog (Leave 1)
    ∷ AtSender SendSetup ∷ Open 0 65088 32768 1 ∷ Open 3 65088 16384 2 ∷ AtSender (HearStatus 3 (pos 0) (record { position = pos 65088; window = pos 32768 })) ∷ AtSender (HearStatus 4 (pos 1) (record { position = pos 65088; window = pos 16384 }))
    ∷ AtSender (Send 5 (begin ∷ end ∷ aborted ∷ tripped ∷ abc ∷ []) 65600)
    ∷ AtLog (Move 0 begin) ∷ AtLog (Join 1 65344) ∷ AtLog (Move 1 end) ∷ AtLog (Move 1 aborted) ∷ AtLog (Move 1 tripped) ∷ AtLog (Move 1 abc) ∷ AtLog (Pass 0 end)
    ∷ AtImage 0 (Inserted 65088 abc) ∷ AtImage 0 (Inserted 65088 begin) ∷ AtImage 0 (Inserted 65088 tripped) ∷ AtImage 0 (Inserted 65088 aborted)
    ∷ AtImage 0 (Poll 0 begin)
    ∷ AtImage 3 (Inserted 65088 begin) ∷ AtImage 3 (Inserted 65088 end) ∷ AtImage 3 (Inserted 65088 aborted) ∷ AtImage 3 (Inserted 65088 tripped) ∷ AtImage 3 (Inserted 65088 abc)
    ∷ AtSender (HearNak 5 (pos 65344) (pos 64)) ∷ AtSender (Resend 5 (record { at = 65344; length = 64; lingers = false; until = 0 }) (end ∷ []))
    ∷ AtImage 0 (Inserted 65344 end)
    ∷ AtImage 0 (Poll 0 end) ∷ AtImage 0 (Poll 0 aborted) ∷ AtImage 0 (Poll 0 tripped) ∷ AtImage 0 (Poll 0 abc)
    ∷ AtImage 3 (Poll 0 begin) ∷ AtImage 3 (Poll 0 end) ∷ AtImage 3 (Poll 0 aborted) ∷ AtImage 3 (Poll 0 tripped) ∷ AtImage 3 (Poll 0 abc) ∷ AtImage 3 (Poll 1 begin) ∷ AtImage 3 (Lose 1 end) ∷ []

-- a consumer that polled both messages
abbrev pub has_polled : Consumer
has_polled = record {
  join = start;
  at = 65600;
  lost = false;
  heard_to = 65600;
  assembly = record { begun = None; given = (replicate 224 1 ++ replicate 6 2) ∷ (97 ∷ 98 ∷ 99 ∷ []) ∷ [] };
}

-- one that polled the begin of the first
abbrev pub has_begun : Consumer
has_begun = record { join = start; at = 65344; lost = false; heard_to = 65344; assembly = record { begun = Some (replicate 224 1); given = [] } }

-- one that passed the message's end by: a reader of the log, and the image's consumer that lags
abbrev pub has_passed : Consumer
has_passed = record has_begun { at = 65408; lost = true }

-- one that joined behind the begin: it has no more than abc
abbrev pub has_joined : Consumer
has_joined = record { join = 65344; at = 65600; lost = false; heard_to = 65600; assembly = record { begun = None; given = (97 ∷ 98 ∷ 99 ∷ []) ∷ [] } }

-- what the world is at the end
pub record HasRun (w : World) : Type 0 where
  pub one : Image
  pub one_there : slice_get w.images 0 ≡ Some (Some one)
  pub one_polled : one.consumers ≡ has_polled ∷ []
  pub other : Image
  pub other_there : slice_get w.images 3 ≡ Some (Some other)
  pub other_window : other.window ≡ 16384
  pub other_polled : other.consumers ≡ has_polled ∷ has_passed ∷ []
  pub readers : w.log.readers ≡ Some has_passed ∷ Some has_joined ∷ []
  pub tail : w.log.tail ≡ 65600
  pub shares : (share_of 0 w.log.entries ≡ 448) × (share_of 1 w.log.entries ≡ 64)

-- the events can happen, one after the other, and at their end both images have polled both messages
abbrev pub ItRuns : Type 0
ItRuns = IsOpened world_at_start × ((v : World) × Run world_at_start events v × HasRun v)

-- every legal geometry, identity and start opens a world
abbrev pub AlwaysOpens : Type 0
AlwaysOpens = (i : Identity) (begins : ℕ) → IsGeometry i.geometry → IsIdentity i → begins % 32 ≡ 0 → begins < max_position i.geometry → (w : World) × IsOpened w × (w.log.identity ≡ i) × (w.log.start ≡ begins)
