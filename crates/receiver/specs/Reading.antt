-- What contracts see of who reads an image's messages, and what it reads.
use Rattle.std.specs.Prelude.{◌≡◌, ◌↔◌, ◌+◌, ◌≤◌, ℕ, true, false, Bool, List, [], ◌∷◌, ◌++◌, Option, None, Some, Result, Ok, Err}
use Rattle.theory.specs.Placed.{AllAmong, Among, Chain, Placed, end_of, frame_length, is_padding}
use Rattle.assembler.specs.Assembling.{Assembling}
use Rattle.assembler.specs.Hearing as hearing
use Rattle.assembler.specs.Hearing.{AsksMemory, IsTooLong, TakesFrame, assembled}
use Rattle.assembler.specs.declared.fault.AssemblyError.{AssemblyError}
use Rattle.assembler.specs.declared.fault.AssemblyError.TheVariants.{Memory, TooLong}
use Rattle.assembler.specs.declared.assembler.Message.{Message}
use Rattle.image.specs.Handles.{ImageWords, ReaderSeat, known_by, misses_of, position_of}
use Rattle.image.specs.Reading.{MayAdvance}
use Rattle.image.specs.Finding.{read_end}
use Rattle.image.specs.Rebuilding.{Inserting}
use Rattle.receiver.specs.Representing.{words_of}

pub record Reading : Type 0 where
  pub image : ImageWords
  -- what its reader knows, and where that stands
  pub seat : ReaderSeat
  pub assembler : Assembling
  -- the position to which its assembler has heard
  pub heard_to : ℕ

-- the reader stands there, or before the last frame that was heard
abbrev pub heard_to_of : Bool → ReaderSeat → ℕ
heard_to_of true r = read_end r
heard_to_of false r = position_of r

-- a frame that was heard, and not passed yet, was read where the reader stands
abbrev pub WaitsSo : Bool → ReaderSeat → Type 0
WaitsSo waits r = waits ≡ true → MayAdvance r

-- it is this image
abbrev pub IsImage : Option Inserting → ImageWords → Type 0
IsImage None w = ⊥
IsImage (Some i) w = words_of i ≡ w

-- ---- frames that are read

-- it has read these frames, each from where the one before ends, and knows them
pub record ReadsOn (m : Reading) (frames : List Placed) (n : Reading) : Type 0 where
  pub image : n.image ≡ m.image
  pub chain : Chain m.heard_to n.heard_to frames
  pub known : AllAmong (known_by n.seat) frames
  pub keeps : (s : Placed) → Among s (known_by m.seat) → Among s (known_by n.seat)
  pub greatest : n.assembler.greatest ≡ m.assembler.greatest

-- and its assembler has heard each of them, and gave these messages
pub record Hears (m : Reading) (frames : List Placed) (given : List (List ℕ)) (n : Reading) : Type 0 where
  pub reads : ReadsOn m frames n
  pub heard : assembled m.assembler.begun frames ≡ record { begun = n.assembler.begun; given = given }

-- ---- a poll

-- the frames up to the first that completes a message; the reader stands at that one, and each of its looks found a frame
pub record GivesMessage (m : Reading) (message : List ℕ) (n : Reading) : Type 0 where
  pub earlier : List Placed
  pub last : Placed
  pub nothing : (assembled m.assembler.begun earlier).given ≡ []
  pub hears : Hears m (earlier ++ last ∷ []) (message ∷ []) n
  pub stands : position_of n.seat ≡ last.at
  pub misses : misses_of n.seat ≡ misses_of m.seat

-- none of the frames that it found completes a message, and where they end it looked once more, and knows of none
pub record GivesNothing (m n : Reading) : Type 0 where
  pub frames : List Placed
  pub hears : Hears m frames [] n
  pub none : (s : Placed) → Among s (known_by n.seat) → s.at ≡ n.heard_to → ⊥
  pub stands : position_of n.seat ≡ n.heard_to
  pub misses : misses_of n.seat ≡ misses_of m.seat + 1

-- the frames up to a DATA frame that the assembler refuses: as too long exactly where the message is longer than the greatest with
-- it, else for want of memory. Nothing is begun then
pub record RefusesFrame (m : Reading) (fault : AssemblyError) (n : Reading) : Type 0 where
  pub earlier : List Placed
  pub last : Placed
  pub reads : ReadsOn m (earlier ++ last ∷ []) n
  pub nothing : (assembled m.assembler.begun earlier).given ≡ []
  pub not_padding : is_padding last.frame ≡ false
  pub named : (fault ≡ TooLong) ↔ IsTooLong m.assembler.greatest (assembled m.assembler.begun earlier).begun last.frame
  pub asked : fault ≡ Memory → AsksMemory (assembled m.assembler.begun earlier).begun last.frame
  pub dropped : n.assembler.begun ≡ None
  pub stands : position_of n.seat ≡ n.heard_to
  pub misses : misses_of n.seat ≡ misses_of m.seat

abbrev pub Answers : {A : Type 0} → Reading → Result (Option (Message A)) AssemblyError → Reading → Type 0
Answers m (Ok (Some message)) n = GivesMessage m message.bytes.items n
Answers m (Ok None) n = GivesNothing m n
Answers m (Err fault) n = RefusesFrame m fault n

-- the reader stands behind all that was heard; what it knows is the same
pub record Passes (m n : Reading) : Type 0 where
  pub same : n ≡ record m { seat = n.seat }
  pub stands : position_of n.seat ≡ m.heard_to
  pub keeps : (s : Placed) → Among s (known_by m.seat) → Among s (known_by n.seat)
  pub misses : misses_of n.seat ≡ misses_of m.seat

-- ---- one frame

-- this frame begins where it has heard to; its reader, which stands there, knows it
pub record FindsFrame (m : Reading) (s : Placed) (n : Reading) : Type 0 where
  pub image : n.image ≡ m.image
  pub here : s.at ≡ m.heard_to
  pub known : Among s (known_by n.seat)
  pub keeps : (t : Placed) → Among t (known_by m.seat) → Among t (known_by n.seat)
  pub long : 32 ≤ frame_length s.frame
  pub ends : n.heard_to ≡ end_of s
  pub stands : position_of n.seat ≡ s.at
  pub misses : misses_of n.seat ≡ misses_of m.seat

-- its reader looked there once more, and knows of none
pub record FindsNone (m n : Reading) : Type 0 where
  pub none : (s : Placed) → Among s (known_by n.seat) → s.at ≡ m.heard_to → ⊥
  pub keeps : (s : Placed) → Among s (known_by m.seat) → Among s (known_by n.seat)
  pub same : n ≡ record m { seat = n.seat }
  pub stands : position_of n.seat ≡ m.heard_to
  pub misses : misses_of n.seat ≡ misses_of m.seat + 1

pub record HearsOne (m : Reading) (message : Option (List ℕ)) (n : Reading) : Type 0 where
  pub frame : Placed
  pub finds : FindsFrame m frame n
  pub takes : TakesFrame m.assembler frame.frame message n.assembler

pub record RefusesOne (m : Reading) (fault : AssemblyError) (n : Reading) : Type 0 where
  pub frame : Placed
  pub finds : FindsFrame m frame n
  pub refuses : hearing.RefusesFrame m.assembler frame.frame fault n.assembler

-- ---- one after the other

-- frames that are read behind others
abbrev pub ReadsFurther : Type 0
ReadsFurther = (m n o : Reading) (frames more : List Placed) → ReadsOn m frames n → ReadsOn n more o → ReadsOn m (frames ++ more) o

-- and the messages that they give
abbrev pub HearsFurther : Type 0
HearsFurther = (m n o : Reading) (frames more : List Placed) (given others : List (List ℕ)) → Hears m frames given n → Hears n more others o → Hears m (frames ++ more) (given ++ others) o

-- its reader passes what was heard
abbrev pub PassesRead : Type 0
PassesRead = (m n o : Reading) (frames : List Placed) (given : List (List ℕ)) → Hears m frames given n → Passes n o → Hears m frames given o
