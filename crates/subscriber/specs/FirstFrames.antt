-- What stands first in a datagram.
use Rattle.std.specs.Prelude.{◌≡◌, ⊤, ℕ, ℤ, List, Option, None, Some, option_map}
use Rattle.frames.specs.Frames.{header_of, setup_of}
use Rattle.frames.specs.declared.frame.Header.{Header}
use Rattle.frames.specs.declared.frame.Setup.{Setup}
use Rattle.peer.specs.Setups.{TellsSetup}
use Rattle.subscriber.specs.Meetings.{TellsHeader}
use Rattle.subscriber.specs.declared.listening.first_frame.FirstFrame.{FirstFrame}
use Rattle.subscriber.specs.declared.listening.first_frame.FirstFrame.TheVariants.{Heard, Setup as Whole, Other}

-- the header of a DATA frame, a padding or a heartbeat
abbrev pub header_first : FirstFrame → Option Header
header_first (Heard h) = Some h
header_first (Whole f) = None
header_first Other = None

-- the SETUP
abbrev pub setup_first : FirstFrame → Option Setup
setup_first (Heard h) = None
setup_first (Whole f) = Some f
setup_first Other = None

-- it is what the bytes tell
pub record TellsFirst (bytes : List ℕ) (first : FirstFrame) : Type 0 where
  pub header : TellsHeader bytes (option_map header_of (header_first first))
  pub setup : TellsSetup bytes (option_map setup_of (setup_first first))

-- the session that the frame in front names
abbrev pub named_first : FirstFrame → Option ℤ
named_first (Heard h) = Some h.session
named_first (Whole f) = Some f.session
named_first Other = None

-- it names this one, or none
abbrev pub NamesNoOther : Option ℤ → ℤ → Type 0
NamesNoOther None session = ⊤
NamesNoOther (Some named) session = named ≡ session
