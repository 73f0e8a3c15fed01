-- New frames given out one after the other, and the frames of a range given out again.
use Rattle.std.specs.Prelude.{◌≡◌, ℕ, ◌+◌, ◌%◌, ◌≤◌, ◌<◌, List, ◌++◌, length, map, Option}
use Rattle.theory.specs.Placed.{Among, Placed}
use Rattle.theory.specs.Wire.{Wire}
use Rattle.theory.specs.Bytes.{Identity}
use Rattle.theory.specs.Gap.{Gap}
use Rattle.theory.specs.Datagrams.{frames_of, wires}
use Rattle.frame_source.specs.Sources.{Source}
use Rattle.sender.specs.Resending.Handler.{Handler}
use Rattle.sender.specs.Cycling.{GivesAgain, GivesNew, datagrams}
use Rattle.frames.specs.Outgoing.{Outgoing}
use Rattle.sender.specs.Sending.{AreThere, LeadsOn, ReadsTo, all_noted}

-- these datagrams stand behind those that it held
abbrev pub with_all : Outgoing → List (List Wire) → Outgoing
with_all o sent = record o { datagrams = o.datagrams ++ datagrams sent }

-- one more datagram of the stream's frames has room
pub record HasSpace (i : Identity) (o : Outgoing) : Type 0 where
  pub size : o.mtu ≡ i.geometry.mtu
  pub space : length o.datagrams < 32

-- ---- new frames

-- the frames from the sender's position on went out, as many as may in a cycle, and were noted
pub record SendsNew (Looked : Type 0) (grown : List Placed → List Placed → Type 0) (i : Identity) (limit : ℕ) (old : Source) (h : Handler) (o : Outgoing) (new : Source) (k : Handler) (n : Outgoing) : Type 0 where
  pub fresh : List (List Placed)
  pub gives : GivesNew i.geometry new.frames h.at limit fresh
  -- where reading didn't end at a frame that may not go, it ended at a look that found none
  pub looked : gives.reads ≡ frames_of fresh → Looked
  pub handler : k ≡ all_noted h (frames_of fresh)
  pub reads : ReadsTo grown old k.at new
  pub out : n ≡ with_all o (map (wires i) fresh)
  pub few : length fresh ≤ 16
  pub there : AreThere new.frames k
  pub unit : k.at % 32 ≡ 0

-- ---- frames again

-- a frame begins where the range does, each leads to the next, and the reader has passed them
pub record CanBeReread (s : Source) (range : Gap) : Type 0 where
  pub starts : List ℕ
  pub first : Among range.start starts
  pub there : (p : ℕ) → Among p starts → LeadsOn s.identity.geometry.term_length s.frames starts s.position p
  pub passed : range.start + range.length ≤ s.position

-- the block holds any payload, and frames can be put into datagrams
pub record CanSendAgain (i : Identity) (s : Source) (range : Gap) (block : List ℕ) (o : Outgoing) : Type 0 where
  pub same : s.identity ≡ i
  pub known : CanBeReread s range
  pub payload : i.geometry.mtu ≤ length block
  pub size : o.mtu ≡ i.geometry.mtu
  pub room : length o.datagrams + 15 ≤ 32

-- the frames that start in the range, if there is one, went out, as many as may go again in a cycle
pub record SendsAgain (i : Identity) (frames : List Placed) (range : Option Gap) (o n : Outgoing) : Type 0 where
  pub again : List (List Placed)
  pub gives : GivesAgain i.geometry frames range again
  pub out : n ≡ with_all o (map (wires i) again)
