-- The life of a receiver's core whose image others read: what it meets, one thing after the other, and what they read of its
-- stream. Its consumers may go forward at any time.
use Rattle.std.specs.Prelude.{◌≡◌, ℕ, ⊤, List, [], ◌∷◌, map, Option, None, Some}
use Rattle.std.specs.List.{AllByRecursion}
use Rattle.theory.specs.Placed.{AllAmong, Chain, Placed}
use Rattle.theory.specs.Assembly.{after_all, nothing_heard}
use Rattle.theory.specs.Messages.{messages}
use Rattle.image.specs.Handles.{ImageWords}
use Rattle.image.specs.Rebuilding.{Inserting, join_of}
use Rattle.receiver.specs.Lives.{IsHonest, IsStream, Stream}
use Rattle.receiver.specs.Reading.{IsImage}
use Rattle.receiver.specs.Receiving.{Receiver, ticked}
use Rattle.receiver.specs.Representing.{Core, HearsDatagram, ImageLooks, ImageSeesOn, Represents, core_seen_as}
use Rattle.receiver.specs.declared.receiver_core.Outcome.{Outcome}

-- a datagram or a moment that it is handed; or its readers are given away, or met where they stand
pub data CoreAct : Type 0 where
  Hears : (now : ℕ) (bytes : List ℕ) → CoreAct
  Ticks : (now : ℕ) → CoreAct
  Deals : CoreAct

-- whatever receiver it shows, with its consumers where this tick saw them, has ticked
pub record HasTicked (v : Core) (now : ℕ) (w : Core) : Type 0 where
  pub sees : ImageSeesOn v.image w.image
  pub looks : ImageLooks v.image w.image
  pub becomes : (r : Receiver) → Represents (core_seen_as v w) r → Represents w (ticked r now)

-- the same image, of which some readers may be given away, or seen where they stand
abbrev pub HasDealt : Option Inserting → Option Inserting → Type 0
HasDealt None None = ⊤
HasDealt None (Some j) = ⊥
HasDealt (Some i) None = ⊥
HasDealt (Some i) (Some j) = j ≡ record i { seen = j.seen; undealt = j.undealt }

abbrev pub CoreActsSo : Core → CoreAct → Core → Type 0
CoreActsSo v (Hears now bytes) w = (outcomes : List Outcome) × HearsDatagram v now bytes outcomes w
CoreActsSo v (Ticks now) w = HasTicked v now w
CoreActsSo v Deals w = (w ≡ record v { image = w.image }) × HasDealt v.image w.image

abbrev pub CoreLives : Core → List CoreAct → Core → Type 0
CoreLives v [] w = w ≡ v
CoreLives v (act ∷ acts) w = (u : Core) × CoreActsSo v act u × CoreLives u acts w

-- the datagrams that it was handed
abbrev pub heard_in : List CoreAct → List (List ℕ)
heard_in [] = []
heard_in (Hears now bytes ∷ acts) = bytes ∷ heard_in acts
heard_in (Ticks now ∷ acts) = heard_in acts
heard_in (Deals ∷ acts) = heard_in acts

-- ---- laws

-- it keeps the image that it has
abbrev pub KeepsImage : Type 0
KeepsImage = (v w : Core) (acts : List CoreAct) → CoreLives v acts w → (words : ImageWords) → IsImage v.image words → IsImage w.image words

-- what an assembler gives of frames
abbrev pub messages_of : List Placed → List (List ℕ)
messages_of frames = (after_all nothing_heard (map (λ s. s.frame) frames)).given

-- where it had no image, and all that it heard since is honest for a stream of its ids, frames that it stored, read one after the
-- other from the join on, give the messages of the stream from there to where they end
abbrev pub ReadsARun : Type 0
ReadsARun =
    (x : Stream) → IsStream x → (v w : Core) (acts : List CoreAct) → v.session ≡ x.identity.session → v.stream ≡ x.identity.stream → v.image ≡ None
    → CoreLives v acts w → AllByRecursion (IsHonest x) (heard_in acts)
    → (i : Inserting) → w.image ≡ Some i → (frames : List Placed) (at : ℕ) → Chain (join_of i) at frames → AllAmong i.stored frames
    → messages_of frames ≡ messages (join_of i) at x.entries
