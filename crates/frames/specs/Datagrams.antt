-- Where a datagram has its fault.
use Rattle.std.specs.Prelude.{◌≡◌, ◌≢◌, ◌⊎◌, ℕ, ◌<◌, List, [], ◌++◌, length, Bool, true, ◌&&◌, Some, ⊤}
use Rattle.std.specs.List.{flat_map, AllByRecursion}
use Rattle.theory.specs.Wire.{Wire, DATA, PAD, HEARTBEAT, NAK, SM, SETUP, IsFrame, spelling}
use Rattle.frames.specs.declared.fault.FrameError.{FrameError}
use Rattle.frames.specs.declared.fault.FrameError.TheVariants.{Datagram}
use Rattle.frames.specs.Fronts.{FrontSpells}
use Rattle.frames.specs.Order.{first_fault}

abbrev pub IsData : Wire → Type 0
IsData (DATA h flags payload) = ⊤
IsData (PAD h n) = ⊥
IsData (HEARTBEAT h) = ⊥
IsData (NAK f) = ⊥
IsData (SM asks f) = ⊥
IsData (SETUP f) = ⊥

abbrev pub IsPad : Wire → Type 0
IsPad (DATA h flags payload) = ⊥
IsPad (PAD h n) = ⊤
IsPad (HEARTBEAT h) = ⊥
IsPad (NAK f) = ⊥
IsPad (SM asks f) = ⊥
IsPad (SETUP f) = ⊥

-- whether a frame may stand, by whether no data frame is before it and no byte behind it
abbrev pub may_stand : Wire → Bool → Bool → Bool
may_stand (DATA h flags payload) is_first is_last = true
may_stand (PAD h n) is_first is_last = is_last
may_stand (HEARTBEAT h) is_first is_last = is_first && is_last
may_stand (NAK f) is_first is_last = is_first && is_last
may_stand (SM asks f) is_first is_last = is_first && is_last
may_stand (SETUP f) is_first is_last = is_first && is_last

-- data frames, none too, and what is behind them
pub record DataThen (bytes : List ℕ) (before : List Wire) (rest : List ℕ) : Type 0 where
  pub frames : AllByRecursion IsFrame before
  pub kinds : AllByRecursion IsData before
  pub parts : bytes ≡ flat_map spelling before ++ rest

-- no frame can be read behind them, and this is why
pub record IsUnreadable (before : List Wire) (rest : List ℕ) (fault : FrameError) : Type 0 where
  pub begun : (before ≡ []) ⊎ (rest ≢ [])
  pub reason : first_fault rest ≡ Some fault

-- a frame behind them is no data frame, and stands with data frames that it can't follow or has bytes behind it
pub record IsMisplaced (before : List Wire) (rest : List ℕ) : Type 0 where
  pub frame : Wire
  pub size : ℕ
  pub read : FrontSpells rest frame size
  pub other : IsData frame → ⊥
  pub wrong : ((before ≢ []) × (IsPad frame → ⊥)) ⊎ (size < length rest)

-- the first fault of a datagram
abbrev pub IsDatagramFault : List ℕ → FrameError → Type 0
IsDatagramFault bytes fault = (before : List Wire) × (rest : List ℕ) × DataThen bytes before rest × (IsUnreadable before rest fault ⊎ ((fault ≡ Datagram) × IsMisplaced before rest))
