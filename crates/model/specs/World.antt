-- One log, one sender and up to eight images, and what may happen to them.
-- A run is any list of events from an opened world. What may be lost, repeated, delayed or reordered needs no event:
-- an image may be given any frame that was ever sent, at any time, any number of times, and opens at a SETUP that was
-- ever sent.
use Rattle.std.specs.Prelude.{◌≡◌, ℕ, ◌%◌, ◌<◌, ◌≤◌, false, List, [], ◌∷◌, replicate, Option, None, Some, slice_get, slice_set}
use Rattle.theory.specs.Position.{IsGeometry, max_position}
use Rattle.theory.specs.Placed.{Among}
use Rattle.theory.specs.Entry.{committed}
use Rattle.theory.specs.Bytes.{IsIdentity}
use Rattle.theory.specs.Numbered.{Each}
use Rattle.theory.specs.Consumer.{consumer_at}
use Rattle.theory.specs.Image.{Image, ImageEvent, ImageStep, IsWindow, image_at}
use Rattle.model.specs.Log.{Log, LogEvent, LogStep}
use Rattle.model.specs.Sender.{Sender, SenderEvent, SenderStep}

-- images by the number of their receiver, each open or not
pub record World : Type 0 where
  pub log : Log
  pub sender : Sender
  pub images : List (Option Image)

pub data Event : Type 0 where
  AtLog : (event : LogEvent) → Event
  AtSender : (event : SenderEvent) → Event
  AtImage : (which : ℕ) (event : ImageEvent) → Event
  Open : (which : ℕ) (join : ℕ) (window : ℕ) (consumers : ℕ) → Event

abbrev pub Step : World → Event → World → Type 0
Step old (AtLog e) new = (l : Log) × LogStep (old.sender.at ∷ []) old.log e l × (new ≡ record old { log = l })
Step old (AtSender e) new = (s : Sender) × SenderStep old.log.identity.geometry old.log.start (committed old.log.entries) old.sender e s × (new ≡ record old { sender = s })
Step old (AtImage which e) new =
    (i : Image) × (j : Image) × (slice_get old.images which ≡ Some (Some i)) × ImageStep old.log.identity.geometry old.sender.sent i e j
    × (new ≡ record old { images = slice_set old.images which (Some j) })
Step old (Open which join window consumers) new =
    (slice_get old.images which ≡ Some None) × Among join old.sender.setups × (0 < consumers) × (consumers ≤ 8) × IsWindow old.log.identity.geometry.term_length old.log.identity.geometry.mtu window
    × (new ≡ record old { images = slice_set old.images which (Some (image_at join window consumers)) })

abbrev pub Run : World → List Event → World → Type 0
Run old [] new = new ≡ old
Run old (e ∷ es) new = (mid : World) × Step old e mid × Run mid es new

-- to a group of so many receivers, or to one
abbrev pub opened_sender : ℕ → Option ℕ → Sender
opened_sender start group = record { at = start; clock = 0; passed = []; sent = []; setups = []; group = group; heard = []; actions = [] }

-- nothing is added, sent or opened yet; the readers that are there stand at the start
pub record IsOpened (w : World) : Type 0 where
  pub geometry : IsGeometry w.log.identity.geometry
  pub identity : IsIdentity w.log.identity
  pub unit : w.log.start % 32 ≡ 0
  pub below : w.log.start < max_position w.log.identity.geometry
  pub tail : w.log.tail ≡ w.log.start
  pub entries : w.log.entries ≡ []
  pub armed : w.log.armed ≡ replicate 8 false
  pub retired : w.log.retired ≡ replicate 8 false
  pub limit : w.log.limit ≡ w.log.start
  pub connected : w.log.connected ≡ false
  pub closed : w.log.closed ≡ false
  pub cleaned : w.log.cleaned ≡ w.log.start
  pub readers : Each (λ r. r ≡ consumer_at w.log.start) w.log.readers
  pub sender : w.sender ≡ opened_sender w.log.start w.sender.group
  pub images : w.images ≡ replicate 8 None
