-- What holds after every list of events.
-- What is assumed stands in `IsOpened` and in the steps, which say what each event needs.
use Rattle.std.specs.Prelude.{◌≡◌, ℕ, ◌+◌, ◌-◌, ◌%◌, max, ◌<◌, ◌≤◌, ⊤, true, false, Bool, List, [], ◌∷◌, map, Option, None, Some, slice_get}
use Rattle.std.specs.List.{AllByRecursion}
use Rattle.theory.specs.Position.{Geometry, cuts_of, max_message, max_position}
use Rattle.theory.specs.Wire.{IsFrame}
use Rattle.theory.specs.Placed.{Placed}
use Rattle.theory.specs.Entry.{Entry, IsEntry, committed}
use Rattle.theory.specs.Tiling.{Tiles, all_shares}
use Rattle.theory.specs.Bytes.{byte_at, cell_of, wire_at}
use Rattle.theory.specs.Messages.{messages}
use Rattle.theory.specs.Units.{Got, IsContiguous}
use Rattle.theory.specs.Gap.{IsFirstGap}
use Rattle.theory.specs.Numbered.{Each}
use Rattle.theory.specs.Consumer.{Consumer}
use Rattle.theory.specs.Image.{Image}
use Rattle.model.specs.Log.{HasRoom, Log, term_of}
use Rattle.model.specs.World.{Event, IsOpened, Run, World}

-- it holds after every list of events from every opened world
abbrev pub Always : (World → Type 0) → Type 0
Always Holds = (w v : World) (events : List Event) → IsOpened w → Run w events v → Holds v

-- ---- the four claims

-- committed frames, paddings and open claims tile the stream, and the shares add to exactly that
abbrev pub IsTiled : World → Type 0
IsTiled w = Tiles (term_of w.log) w.log.start w.log.tail w.log.entries × (w.log.start + all_shares w.log.entries ≡ w.log.tail)

-- each byte of each unit that the image has is the publisher's at that position
abbrev pub HasLogBytes : Log → Image → Type 0
HasLogBytes l i = (p : ℕ) (content : List ℕ) (k : ℕ) → k < 32 → Got l.identity i.stored p content → byte_at l.identity l.entries (p + k) ≡ cell_of (slice_get content k)

abbrev pub IsRebuiltRight : World → Type 0
IsRebuiltRight w = Each (HasLogBytes w.log) w.images

abbrev pub positions : List (Option Consumer) → List ℕ
positions [] = []
positions (None ∷ seats) = positions seats
positions (Some r ∷ seats) = r.at ∷ positions seats

-- no position passes the end of what stands without a gap from j, nor that end the mark
abbrev pub StayWithin : List Placed → ℕ → ℕ → List ℕ → Type 0
StayWithin frames j mark at = (q : ℕ) × IsContiguous frames j q × (q ≤ mark) × AllByRecursion (λ p. p ≤ q) at

abbrev pub IsBounded : World → Type 0
IsBounded w =
    StayWithin (committed w.log.entries) w.log.start w.log.tail (w.sender.at ∷ positions w.log.readers)
    × Each (λ i. StayWithin i.stored i.join i.high (map (λ r. r.at) i.consumers)) w.images

-- what was polled is the messages from the join to where each frame was heard: while no frame is lost, where the consumer stands
pub record HasPolled (entries : List Entry) (r : Consumer) : Type 0 where
  pub given : r.assembly.given ≡ messages r.join r.heard_to entries
  pub behind : r.heard_to ≤ r.at
  pub whole : r.lost ≡ false → r.heard_to ≡ r.at

-- a consumer of an image joined where the image did
abbrev pub IsPrefixPolled : World → Type 0
IsPrefixPolled w =
    Each (HasPolled w.log.entries) w.log.readers
    × Each (λ i. AllByRecursion (λ r. HasPolled w.log.entries r × (r.join ≡ i.join)) i.consumers) w.images

-- ---- the laws beside them

-- what a consumer may still read, or a resend within three quarters of a term, isn't cleaned; the limit is a whole number of units
pub record IsReadable (w : World) : Type 0 where
  pub sender : w.log.cleaned ≤ max w.log.start (w.sender.at - term_of w.log)
  pub readers : Each (λ r. w.log.cleaned ≤ max w.log.start (r.at - term_of w.log)) w.log.readers
  pub unit : w.log.limit % 32 ≡ 0

-- the cuts of an entry of data are those of a message
abbrev pub AreMessageCuts : Bool → Geometry → List ℕ → Type 0
AreMessageCuts true g cuts = ⊤
AreMessageCuts false g cuts = (bytes : ℕ) × (bytes ≤ max_message g) × (cuts ≡ cuts_of g bytes)

-- an entry is one of eight publishers', its frames are the first of its cuts, and it is a message or a padding
pub record IsPublished (g : Geometry) (e : Entry) : Type 0 where
  pub entry : IsEntry e
  pub below : e.start < max_position g
  pub large : AllByRecursion (λ cut. 32 ≤ cut) e.cuts
  pub message : AreMessageCuts e.padding g e.cuts

abbrev pub ArePublished : World → Type 0
ArePublished w = AllByRecursion (IsPublished w.log.identity.geometry) w.log.entries

-- each frame that was ever sent has a spelling
abbrev pub AreSpelled : World → Type 0
AreSpelled w = AllByRecursion (λ s. IsFrame (wire_at w.log.identity s.at s.frame)) w.sender.sent

-- the gap that is computed at the contiguous end is the first one
abbrev pub HasItsGap : ℕ → Image → Type 0
HasItsGap term i = (q : ℕ) → IsContiguous i.stored i.join q → IsFirstGap term i.stored i.high q

abbrev pub AreGapsTold : World → Type 0
AreGapsTold w = Each (HasItsGap (term_of w.log)) w.images

abbrev pub HasItsRoom : World → Type 0
HasItsRoom w = HasRoom w.log
