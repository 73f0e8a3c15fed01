-- What is made of an input: which messages were read, and that these, in this order, are what a pass published.
use Rattle.std.specs.Prelude.{◌≡◌, ◌⊎◌, ℕ, suc, ◌+◌, ◌-◌, ◌^◌, true, false, List, [], ◌∷◌, ◌++◌, Option, None, Some, Result, Ok, Err, length, map}
use Rattle.std.specs.List.{flat_map}
use Rattle.std.specs.Io.KnownBytes.{Consumes, IsAtEnd}
use Rattle.theory.specs.Bytes.{Identity}
use Rattle.theory.specs.Placed.{Pad}
use Rattle.theory.specs.Position.{Geometry, cuts_of, framed_length}
use Rattle.publication.specs.declared.pass.ClaimRange.{ClaimRange}
use Rattle.publication.specs.declared.pass.FrameWords.{FrameWords}
use Rattle.publication.specs.declared.pass.Pass.{Pass}
use Rattle.publication.specs.Frames.{frame_at, message_frames}
use Rattle.publication.specs.Orders.{AreInOrder}
use Rattle.messages.specs.Inputs.{Explains, Gives}
use Rattle.messages.specs.declared.form.Form.{Form}
use Rattle.publisher.specs.declared.offering.reading.ReadingFault.{ReadingFault}
use Rattle.publisher.specs.declared.offering.reading.ReadingFault.TheVariants.{Input, Full}
use Rattle.publisher.specs.declared.offering.reading.Offered.{Offered}
use Rattle.publisher.specs.declared.offering.reading.ReadingEnd.{ReadingEnd}
use Rattle.publisher.specs.declared.offering.reading.ReadingEnd.TheVariants.{All, Stopped}
use Rattle.publisher.specs.Refusals.{IsRefusedForGood}

-- ---- what a pass published

-- what one addition took of the stream: a message, or a padding
pub data Taken : Type 0 where
  Message : (start : ℕ) (message : List ℕ) → Taken
  Padding : (start : ℕ) (bytes : ℕ) → Taken

-- the claim of the publisher with this number
abbrev pub claim_of : Identity → ℕ → Taken → ClaimRange
claim_of i number (Message start message) = record { start = start; owner = number; cuts = cuts_of i.geometry (length message); padding = false }
claim_of i number (Padding start bytes) = record { start = start; owner = number; cuts = bytes ∷ []; padding = true }

-- its frames, as they are spelled
abbrev pub frames_in : Identity → Taken → List FrameWords
frames_in i (Message start message) = message_frames i true start message
frames_in i (Padding start bytes) = frame_at i start (Pad bytes) ∷ []

abbrev pub messages_in : Taken → List (List ℕ)
messages_in (Message start message) = message ∷ []
messages_in (Padding start bytes) = []

-- where the messages end: the last of these, or where those before do
abbrev pub end_behind : Geometry → ℕ → List Taken → ℕ
end_behind g tail [] = tail
end_behind g tail (Message start message ∷ taken) = end_behind g (start + framed_length g (length message)) taken
end_behind g tail (Padding start bytes ∷ taken) = end_behind g tail taken

-- what a pass has claimed since, all of it committed, is these messages in this order, each whole, and paddings; the messages
-- before ended at a position, and these end at another
pub record Publishes (p : Pass) (tail : ℕ) (messages : List (List ℕ)) (q : Pass) (to : ℕ) : Type 0 where
  pub taken : List Taken
  pub identity : q.identity ≡ p.identity
  pub number : q.number ≡ p.number
  pub parts : q.right.parts ≡ p.right.parts
  pub claims : q.right.claims ≡ p.right.claims ++ map (claim_of p.identity p.number) taken
  pub frames : q.work.frames ≡ p.work.frames ++ flat_map (frames_in p.identity) taken
  pub drafts : q.work.drafts ≡ p.work.drafts
  -- in the order of the stream, where what it had claimed before is
  pub ordered : AreInOrder p.right.claims → AreInOrder q.right.claims
  pub are : flat_map messages_in taken ≡ messages
  pub ends : to ≡ end_behind p.identity.geometry tail taken

-- no message, wherever those before ended
abbrev pub PublishesNone : Pass → Pass → Type 0
PublishesNone p q = (tail : ℕ) → Publishes p tail [] q tail

-- this one, which ends here
abbrev pub PublishesOne : Pass → List ℕ → Pass → ℕ → Type 0
PublishesOne p message q end = (tail : ℕ) → Publishes p tail (message ∷ []) q end

-- it was accepted, and ends there; or it wasn't, and no message was
abbrev pub OffersOne : Pass → List ℕ → Option ℕ → Pass → Type 0
OffersOne p message None q = PublishesNone p q
OffersOne p message (Some end) q = PublishesOne p message q end

-- the last offer of a message of this many bytes was refused for good; no message was published before
pub record GivesUp (p : Pass) (size : ℕ) (q : Pass) : Type 0 where
  pub last : Pass
  pub none : PublishesNone p last
  pub refused : IsRefusedForGood last size q

-- ---- what was read

-- messages of at most so many bytes are taken, one behind the other
abbrev pub Reads : Form → ℕ → Option (List ℕ) → List (List ℕ) → Option (List ℕ) → Type 0
Reads form greatest old [] new = new ≡ old
Reads form greatest old (message ∷ messages) new = (between : Option (List ℕ)) × Gives form greatest old between true message × Reads form greatest between messages new

-- one message more is taken
abbrev pub ReadsOne : Form → ℕ → Option (List ℕ) → Option (List ℕ) → Type 0
ReadsOne form greatest old new = (message : List ℕ) × Gives form greatest old new true message

-- how it ends behind so many messages, and behind the pass that published them: at the input's end; with one more that was read
-- when all was to stop, or behind as many as can be counted; by a message that can't be read; or with one for which the stream has
-- no place: the last offer of that very message, up to the pass that is left, was refused for good
abbrev pub Stops : Form → ℕ → ℕ → Option (List ℕ) → Option (List ℕ) → Pass → Pass → Result ReadingEnd ReadingFault → Type 0
Stops form greatest count old new p q (Ok All) = Consumes old new [] × IsAtEnd new
Stops form greatest count old new p q (Ok Stopped) = ReadsOne form greatest old new ⊎ ((count ≡ 2 ^ 64 - 2) × (new ≡ old))
Stops form greatest count old new p q (Err (Input fault)) = (held : List ℕ) × Explains form (suc count) greatest old new held fault
Stops form greatest count old new p q (Err Full) = (message : List ℕ) × Gives form greatest old new true message × GivesUp p (length message) q

-- ---- both

-- messages were read from what the input had, and those were published by the pass, behind a position, so many and up to a
-- position; then it ended so
pub record PublishesInput (form : Form) (greatest tail : ℕ) (old new : Option (List ℕ)) (p q : Pass) (offered : Offered) (ended : Result ReadingEnd ReadingFault) : Type 0 where
  pub messages : List (List ℕ)
  pub between : Option (List ℕ)
  pub reads : Reads form greatest old messages between
  pub publishes : Publishes p tail messages q offered.tail
  pub counted : offered.messages ≡ length messages
  -- the pass right behind the last of them
  pub behind : Pass
  pub published : Publishes p tail messages behind offered.tail
  pub stops : Stops form greatest (length messages) between new behind q ended
