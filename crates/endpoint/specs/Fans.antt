-- What a contract sees of a device that sends along several others, and what its calls do.
use Rattle.std.specs.Prelude.{◌≡◌, ⊤, ℕ, List, [], ◌∷◌, ◌++◌, ◌<◌, ◌≤◌, length, take, drop, Option, None, Some, Result, Ok, Err, slice_index_or, slice_set}
use Rattle.endpoint.specs.Calls.{Receives, Sends}
use Rattle.endpoint.specs.Devices.{Device, counted}
use Rattle.endpoint.specs.declared.datagrams.DeviceFailed.{DeviceFailed}

pub record Fanned (D : Type 0) : Type 0 where
  pub ways : List D
  -- along which of them comes what is received
  pub turn : ℕ
  -- how many calls failed
  pub failures : ℕ
  -- how many receives found nothing
  pub nones : ℕ

-- it has carried nothing yet
abbrev pub fanned : {D : Type 0} → List D → Fanned D
fanned ways = record { ways = ways; turn = 0; failures = 0; nones = 0 }

-- these stand for its first ways
abbrev pub with_ways : {D : Type 0} → Fanned D → List D → Fanned D
with_ways f ways = record f { ways = take (length f.ways) (ways ++ drop (length ways) f.ways) }

-- its counts; what was carried is told by its ways
abbrev pub fan_device : {D : Type 0} → Fanned D → Device
fan_device f = record { sent = []; received = []; failures = f.failures; nones = f.nones }

-- a receive that failed, found nothing, or found a datagram
abbrev pub with_outcome : {D : Type 0} → Result (Option ℕ) DeviceFailed → Fanned D → Fanned D
with_outcome (Ok None) f = record f { nones = counted f.nones }
with_outcome (Ok (Some n)) f = f
with_outcome (Err e) f = record f { failures = counted f.failures }

-- each way has lived on
abbrev pub AllLive : {D : Type 0} → (D → D → Type 0) → List D → List D → Type 0
AllLive lives [] [] = ⊤
AllLive lives [] (v ∷ vs) = ⊥
AllLive lives (w ∷ ws) [] = ⊥
AllLive lives (w ∷ ws) (v ∷ vs) = lives w v × AllLive lives ws vs

pub all_still : {D : Type 0} (lives : D → D → Type 0) → ((d : D) → lives d d) → (ws : List D) → AllLive lives ws ws
all_still lives still [] = tt
all_still lives still (w ∷ ws) = (still w, all_still lives still ws)

pub all_live_on : {D : Type 0} (lives : D → D → Type 0) → ((d e f : D) → lives d e → lives e f → lives d f) → (us vs ws : List D) → AllLive lives us vs → AllLive lives vs ws → AllLive lives us ws
all_live_on lives on [] [] ws a b = b
all_live_on lives on [] (v ∷ vs) ws a b = absurd a
all_live_on lives on (u ∷ us) [] ws a b = absurd a
all_live_on lives on (u ∷ us) (v ∷ vs) [] a b = absurd b
all_live_on lives on (u ∷ us) (v ∷ vs) (w ∷ ws) a b = (on u v w a.0 b.0, all_live_on lives on us vs ws a.1 b.1)

module _ {D : Type 0} (device : D → Device) (tells : D → Type 0) where
  -- a way is given a datagram, and tells still what it told
  pub record SendsOne (old : D) (datagram : List ℕ) (result : Result (Unit {0}) DeviceFailed) (new : D) : Type 0 where
    pub sends : Sends (tells old) (device old) datagram result (device new)
    pub still_tells : tells old → tells new

  -- each way has carried a datagram away
  abbrev pub AllSend : List D → List ℕ → List D → Type 0
  AllSend [] datagram [] = ⊤
  AllSend [] datagram (v ∷ vs) = ⊥
  AllSend (w ∷ ws) datagram [] = ⊥
  AllSend (w ∷ ws) datagram (v ∷ vs) = SendsOne w datagram (Ok tt) v × AllSend ws datagram vs

  -- the ways in front have carried it away, then one failed; those behind it weren't given it
  pub record StopsAlong (old : List D) (datagram : List ℕ) (fault : DeviceFailed) (new : List D) : Type 0 where
    pub front : List D
    pub carried : List D
    pub before : D
    pub after : D
    pub behind : List D
    pub were : old ≡ front ++ before ∷ behind
    pub are : new ≡ carried ++ after ∷ behind
    pub all_sent : AllSend front datagram carried
    pub failed : SendsOne before datagram (Err fault) after

  -- a datagram goes along all ways, in order, up to a fault
  abbrev pub SendsAlong : List D → List ℕ → Result (Unit {0}) DeviceFailed → List D → Type 0
  SendsAlong old datagram (Ok u) new = AllSend old datagram new
  SendsAlong old datagram (Err fault) new = StopsAlong old datagram fault new

  -- a receive from the way that stands there; the others are as they were
  pub record ReceivesOne (old : List D) (turn : ℕ) (before : List ℕ) (result : Result (Option ℕ) DeviceFailed) (after : List ℕ) (new : List D) : Type 0 where
    pub way : D
    pub stands : way ≡ slice_index_or old turn way
    pub one : D
    pub receives : Receives (tells way) (device way) before result after (device one)
    pub still_tells : tells way → tells one
    pub are : new ≡ slice_set old turn one

  -- or there is no such way, and nothing has come
  pub record ReceivesNone (old : List D) (before : List ℕ) (result : Result (Option ℕ) DeviceFailed) (after : List ℕ) (new : List D) : Type 0 where
    pub none : result ≡ Ok None
    pub same : after ≡ before
    pub are : new ≡ old

  -- by whether there is one of this number
  abbrev pub ReceivesAlong : List D → ℕ → List ℕ → Result (Option ℕ) DeviceFailed → List ℕ → List D → Type 0
  ReceivesAlong old turn before result after new = (turn < length old → ReceivesOne old turn before result after new) × (length old ≤ turn → ReceivesNone old before result after new)
