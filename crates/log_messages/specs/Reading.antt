-- What contracts see of who reads a log's messages, and what it reads.
use Rattle.std.specs.Prelude.{◌≡◌, ◌+◌, ◌*◌, ◌^◌, ◌<◌, ℕ, suc, false, Bool, List, [], ◌∷◌, ◌++◌, length, map, Option, None, Some, Result, Ok, Err}
use Rattle.std.specs.List.{AllByRecursion}
use Rattle.std.specs.Option.{option_to_list}
use Rattle.theory.specs.Position.{IsGeometry}
use Rattle.theory.specs.Placed.{Chain, Placed, end_of}
use Rattle.assembler.specs.Assembling.{Assembling}
use Rattle.assembler.specs.Hearing.{RefusesFrame, TakesFrame, assembled}
use Rattle.assembler.specs.declared.fault.AssemblyError.{AssemblyError}
use Rattle.assembler.specs.declared.assembler.Message.{Message}
use Rattle.publication.specs.declared.pass.FrameWords.{FrameWords}
use Rattle.shared_log.specs.Readers.{HasNone, ReaderValue, known_of, misses_of}
use Rattle.shared_log.specs.Sourced.{placed}

pub record Reading : Type 0 where
  pub reader : ReaderValue
  pub assembler : Assembling
  -- where the reader began
  pub begun_at : ℕ
  -- whether a frame was refused
  pub has_refused : Bool

-- the frames that a reader has read, in order
abbrev pub read_by : ReaderValue → List Placed
read_by r = map placed (known_of r)

-- the messages that the frames complete which it has read, in order
abbrev pub given_of : Reading → List (List ℕ)
given_of m = (assembled None (read_by m.reader)).given

-- as many words as its frame covers
abbrev pub IsWhole : FrameWords → Type 0
IsWhole f = end_of (placed f) ≡ f.start + 8 * length f.words

-- it has read frames that lie next to one another, from where it began to where it stands; what is begun is what an assembler
-- makes of them, unless it refused one
pub record HasRead (begun_at : ℕ) (r : ReaderValue) (a : Assembling) (has_refused : Bool) : Type 0 where
  pub legal : IsGeometry r.held.pass.identity.geometry
  pub chain : Chain begun_at r.position (read_by r)
  pub whole : AllByRecursion IsWhole (known_of r)
  pub begun : has_refused ≡ false → (assembled None (read_by r)).begun ≡ a.begun

-- ---- frames that are read

-- it has read these frames more, the first of them where it stood, each of the others where the one before ends
pub record ReadsOn (m : Reading) (frames : List Placed) (n : Reading) : Type 0 where
  pub read : read_by n.reader ≡ read_by m.reader ++ frames
  pub chain : Chain m.reader.position n.reader.position frames
  pub number : n.reader.number ≡ m.reader.number
  pub begun_at : n.begun_at ≡ m.begun_at
  pub greatest : n.assembler.greatest ≡ m.assembler.greatest

-- and its assembler took each of them, and gave these messages
pub record Hears (m : Reading) (frames : List Placed) (given : List (List ℕ)) (n : Reading) : Type 0 where
  pub reads : ReadsOn m frames n
  pub heard : assembled m.assembler.begun frames ≡ record { begun = n.assembler.begun; given = given }
  pub refused : n.has_refused ≡ m.has_refused

-- the messages that it gave are those of all that it has read, where nothing was refused
abbrev pub GivesMore : Reading → List (List ℕ) → Reading → Type 0
GivesMore m given n = m.has_refused ≡ false → given_of n ≡ given_of m ++ given

-- ---- a call

-- the frames up to the first that completes a message; each of its looks found a frame
pub record GivesMessage (m : Reading) (message : List ℕ) (n : Reading) : Type 0 where
  pub earlier : List Placed
  pub last : Placed
  pub nothing : (assembled m.assembler.begun earlier).given ≡ []
  pub hears : Hears m (earlier ++ last ∷ []) (message ∷ []) n
  pub more : GivesMore m (message ∷ []) n
  pub looked : misses_of n.reader ≡ misses_of m.reader

-- none of the frames that it found completes a message, and where they end it looked once more, and none is committed there that
-- it knows
pub record GivesNothing (m n : Reading) : Type 0 where
  pub frames : List Placed
  pub hears : Hears m frames [] n
  pub more : GivesMore m [] n
  pub none : HasNone n.reader n.reader.position
  pub looked : misses_of n.reader ≡ suc (misses_of m.reader)

-- the frames up to one that the assembler refuses, with its cause; nothing is begun then
pub record Refuses (m : Reading) (fault : AssemblyError) (n : Reading) : Type 0 where
  pub earlier : List Placed
  pub last : Placed
  pub nothing : (assembled m.assembler.begun earlier).given ≡ []
  pub reads : ReadsOn m (earlier ++ last ∷ []) n
  pub refuses : RefusesFrame (record m.assembler { begun = (assembled m.assembler.begun earlier).begun }) last.frame fault n.assembler
  pub looked : misses_of n.reader ≡ misses_of m.reader

abbrev pub Answers : {A : Type 0} → Reading → Result (Option (Message A)) AssemblyError → Reading → Type 0
Answers m (Ok (Some message)) n = GivesMessage m message.bytes.items n
Answers m (Ok None) n = GivesNothing m n
Answers m (Err fault) n = Refuses m fault n

-- ---- one frame

-- the frame that is committed where it stood was read, and passed
pub record ReadsOne (m : Reading) (f : Placed) (n : Reading) : Type 0 where
  pub reads : ReadsOn m (f ∷ []) n
  pub forward : m.reader.position < n.reader.position
  pub low : n.reader.position < 2 ^ 64
  pub looked : misses_of n.reader ≡ misses_of m.reader

pub record HearsOne (m : Reading) (message : Option (List ℕ)) (n : Reading) : Type 0 where
  pub frame : Placed
  pub one : ReadsOne m frame n
  pub takes : TakesFrame m.assembler frame.frame message n.assembler
  pub refused : n.has_refused ≡ m.has_refused
  pub more : GivesMore m (option_to_list message) n

pub record RefusesOne (m : Reading) (fault : AssemblyError) (n : Reading) : Type 0 where
  pub frame : Placed
  pub one : ReadsOne m frame n
  pub refuses : RefusesFrame m.assembler frame.frame fault n.assembler

-- its reader looked there, and knows of none
pub record FindsNone (m n : Reading) : Type 0 where
  pub none : HasNone n.reader n.reader.position
  pub same : n ≡ record m { reader = n.reader }
  pub reads : ReadsOn m [] n
  pub looked : misses_of n.reader ≡ suc (misses_of m.reader)
