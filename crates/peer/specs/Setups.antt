-- The SETUP in a datagram.
use Rattle.std.specs.Prelude.{◌≡◌, List, length, ℕ, Option, None, Some}
use Rattle.theory.specs.Wire.{Wire, DATA, PAD, HEARTBEAT, NAK, SM, SETUP, Setup}
use Rattle.frames.specs.Fronts.{FrontSpells}

-- the SETUP that a frame is
abbrev pub setup_told : Wire → Option Setup
setup_told (DATA h flags payload) = None
setup_told (PAD h n) = None
setup_told (HEARTBEAT h) = None
setup_told (NAK f) = None
setup_told (SM asks f) = None
setup_told (SETUP f) = Some f

-- the SETUP that a datagram of one frame is; other bytes are none
pub record TellsSetup (bytes : List ℕ) (found : Option Setup) : Type 0 where
  pub frame : (w : Wire) → FrontSpells bytes w (length bytes) → found ≡ setup_told w
  pub others : ((w : Wire) → FrontSpells bytes w (length bytes) → ⊥) → found ≡ None
