-- What a device notes of what it hears of a session, and of what it is given to send.
use Rattle.std.specs.Prelude.{◌≡◌, ◌+◌, ◌%◌, ◌^◌, ◌++◌, ℕ, ℤ, Bool, false, ◌&&◌, nat_eq, min, List, [], ◌∷◌, length, take, Option, None, Some, option_map, if◌then◌else◌}
use Rattle.std.specs.Ordering.{int_eq}
use Rattle.theory.specs.Wire.{Header}
use Rattle.frames.specs.Frames.{header_of}
use Rattle.frames.specs.declared.frame.Header.{Header as Heard}
use Rattle.frames.specs.declared.frame.Setup.{Setup}
use Rattle.endpoint.specs.Devices.{Device, counted, fresh}
use Rattle.subscriber.specs.FirstFrames.{header_first, setup_first}
use Rattle.subscriber.specs.declared.images.session_device.PendingStatus.{PendingStatus}
use Rattle.subscriber.specs.declared.images.session_device.PendingStatus.TheVariants.{Nothing, Given, Cleared}
use Rattle.subscriber.specs.declared.images.session_device.Notes.{Notes}
use Rattle.subscriber.specs.declared.listening.first_frame.FirstFrame.{FirstFrame}

-- a datagram, and what stands first in it
pub record Routed : Type 0 where
  pub first : FirstFrame
  pub bytes : List ℕ

pub record Following (D : Type 0) : Type 0 where
  -- what it sends by
  pub inner : D
  -- what was routed to it and isn't taken yet, the oldest first
  pub inbox : List Routed
  -- whose frames it notes
  pub session : ℤ
  pub stream : ℤ
  pub notes : Notes
  -- how many negative acknowledgements it was given to send
  pub naks : ℕ
  -- what it noted of the status messages that it was given to send
  pub noted : PendingStatus
  -- how many receives found nothing
  pub nones : ℕ

-- nothing was heard yet
abbrev pub unheard : Notes
unheard = record { frames = 0; last = None; setup = None }

-- nothing was heard of this session yet, nor sent
abbrev pub following : {D : Type 0} → D → ℤ → ℤ → Following D
following inner session stream = record { inner = inner; inbox = []; session = session; stream = stream; notes = unheard; naks = 0; noted = Nothing; nones = 0 }

-- it turns to another session, of which it has heard nothing, and for which it was given nothing
abbrev pub turned_to : {D : Type 0} → Following D → ℤ → Following D
turned_to f session = record f { inbox = []; session = session; notes = record (f.notes) { last = None; setup = None }; noted = Cleared }

-- as a device: the failures are those of what it sends by, and it doesn't tell what it carried
abbrev pub device_of : Device → ℕ → Device
device_of inner nones = record fresh { failures = inner.failures; nones = nones }

-- ---- what is noted of what it takes

-- a header of the session's stream
abbrev pub is_own : ℤ → ℤ → Option Header → Bool
is_own session stream None = false
is_own session stream (Some h) = int_eq h.session session && int_eq h.stream stream

-- how many frames were heard, with one more or not; modulo 2 ^ 64
abbrev pub frames_after : Bool → ℕ → ℕ
frames_after own frames = if own then (frames + 1) % 2 ^ 64 else frames

-- the last of them
abbrev pub last_after : Bool → Option Heard → Option Heard → Option Heard
last_after own header last = if own then header else last

-- the later one
abbrev pub latest : Option Setup → Option Setup → Option Setup
latest before None = before
latest before (Some f) = Some f

-- a frame of the session's stream in front counts, and a SETUP is kept
abbrev pub notes_after : ℤ → ℤ → FirstFrame → Notes → Notes
notes_after session stream first notes = record {
  frames = frames_after (is_own session stream (option_map header_of (header_first first))) notes.frames;
  last = last_after (is_own session stream (option_map header_of (header_first first))) (header_first first) notes.last;
  setup = latest notes.setup (setup_first first);
}

-- ---- what was routed to it

-- that stands last
abbrev pub with_routed : {D : Type 0} → Following D → Routed → Following D
with_routed f r = record f { inbox = f.inbox ++ r ∷ [] }

-- the oldest is taken: it stands at the buffer's front, as far as there is room, and what stands first in it is noted
pub record TakesOne {D : Type 0} (f : Following D) (r : Routed) (rest : List Routed) (found : Option ℕ) (buffer : List ℕ) (g : Following D) : Type 0 where
  pub size : found ≡ Some (min (length r.bytes) (length buffer))
  pub front : take (min (length r.bytes) (length buffer)) buffer ≡ take (min (length r.bytes) (length buffer)) r.bytes
  pub is : g ≡ record f { inbox = rest; notes = notes_after f.session f.stream r.first f.notes }

abbrev pub TakesFrom : {D : Type 0} → Following D → List Routed → Option ℕ → List ℕ → Following D → Type 0
TakesFrom f [] found buffer g = (found ≡ None) × (g ≡ record f { nones = counted f.nones })
TakesFrom f (r ∷ rest) found buffer g = TakesOne f r rest found buffer g

abbrev pub Takes : {D : Type 0} → Following D → Option ℕ → List ℕ → Following D → Type 0
Takes f found buffer g = TakesFrom f f.inbox found buffer g

-- ---- what it is given to send

-- of what a receiver sends only a status message has 36 bytes; the last one is noted
abbrev pub noted_after : PendingStatus → List ℕ → PendingStatus
noted_after before bytes = if nat_eq (length bytes) 36 then Given bytes else before

-- of what a receiver sends only a negative acknowledgement has 28 bytes
abbrev pub after_sending : {D : Type 0} → Following D → List ℕ → D → Following D
after_sending f bytes inner = record f { inner = inner; naks = if nat_eq (length bytes) 28 then counted f.naks else f.naks; noted = noted_after f.noted bytes }
