-- The state of a script.
-- A state remembers all that was ever added, sent and stored; the code keeps less, since an image forgets what every
-- consumer has passed, and a log its cleaned entries. What the code does is promised of each state that it
-- represents.
use Rattle.std.specs.Prelude.{ℕ, zero, suc, ◌-◌, ◌/◌, pos, false, List, [], ◌∷◌, ◌++◌, map, replicate, Option, None, Some}
use Rattle.std.specs.Option.{option_map}
use Rattle.theory.specs.Bytes.{Identity}
use Rattle.theory.specs.Position.{max_message}
use Rattle.theory.specs.Entry.{Entry}
use Rattle.theory.specs.Consumer.{Consumer, consumer_at}
use Rattle.theory.specs.Image.{Image}
use Rattle.model.specs.Log as model
use Rattle.model.specs.Sender.{Sender}
use Rattle.model.specs.World.{World, opened_sender}
use Rattle.one_hand.specs.Stream.{Stream, opened}
use Rattle.sender.specs.Naming.{Naming}
use Rattle.receiver.specs.Receiving.{Receiver, listening}

-- a log and its sender, eight receivers by their numbers, and the bytes of each packet that these gave out, in order
pub record ScriptState : Type 0 where
  pub log : Stream
  -- the entries that the log has forgotten
  pub past : List Entry
  -- the readers beside the sender, from number 1 on; none where nobody has a number; an assembler hears each frame that one passes
  pub readers : List (Option Consumer)
  pub sender : Sender
  -- when the sender last sent a SETUP, and whether each receiver was heard for which these go out
  pub naming : Naming
  -- the moment of the last datagram of its frames and of its last heartbeat
  pub last : Option ℕ
  pub receivers : List Receiver
  pub packets : List (List ℕ)

-- all entries ever added
abbrev pub entries_of : ScriptState → List Entry
entries_of s = s.past ++ s.log.entries

-- the model's log, with all entries ever added; these were forgotten, and these are its readers beside the sender
abbrev pub model_log : List Entry → List (Option Consumer) → Stream → model.Log
model_log past readers l = record {
  identity = l.identity;
  start = l.start;
  tail = l.tail;
  entries = past ++ l.entries;
  armed = replicate 8 false;
  retired = replicate 8 false;
  limit = l.limit;
  connected = l.connected;
  closed = l.closed;
  cleaned = l.cleaned;
  readers = readers;
}

-- where a reader stands
abbrev pub seat_of : Option Consumer → Option ℕ
seat_of None = None
seat_of (Some c) = Some c.at

abbrev pub image_of : Receiver → Option Image
image_of r = option_map (λ o. o.image) r.image

-- the state without its packets and moments
abbrev pub world_of : ScriptState → World
world_of s = record { log = model_log s.past s.readers s.log; sender = s.sender; images = map image_of s.receivers }

-- ---- the images of one receiver alone

abbrev pub hush : Receiver → Receiver
hush r = record r { image = None }

abbrev pub lone_at : ℕ → List Receiver → List Receiver
lone_at k [] = []
lone_at zero (r ∷ rs) = r ∷ map hush rs
lone_at (suc k) (r ∷ rs) = hush r ∷ lone_at k rs

-- the state as if no other receiver had an image
abbrev pub lone : ℕ → ScriptState → ScriptState
lone k s = record s { receivers = lone_at k s.receivers }

-- ---- where it begins

-- a receiver of the log's session and stream, with half a term as its window, one consumer, and the log's greatest message
abbrev pub listening_at : Identity → ℕ → Receiver
listening_at i number = listening i.session i.stream (i.geometry.term_length / 2) (pos number) 1 (max_message i.geometry)

-- the numbers of the eight receivers
abbrev pub numbers : List ℕ
numbers = 0 ∷ 1 ∷ 2 ∷ 3 ∷ 4 ∷ 5 ∷ 6 ∷ 7 ∷ []

-- so many readers, with the first of seven numbers, which stand there
abbrev pub first_readers : ℕ → ℕ → List (Option Consumer)
first_readers count at = replicate count (Some (consumer_at at)) ++ replicate (7 - count) None

-- a log that was just opened at this start, with so many readers beside the sender, which serves a group of a size, or one receiver
abbrev pub opened_state : Identity → Option ℕ → ℕ → ℕ → ScriptState
opened_state i group start readers = record {
  log = opened i start (suc readers);
  past = [];
  readers = first_readers readers start;
  sender = opened_sender start group;
  naming = record { clock = 0; last = None; heard = false };
  last = None;
  receivers = map (listening_at i) numbers;
  packets = [];
}
