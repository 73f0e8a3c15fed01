-- What the calls of a reader do, by what its handle holds.
use Rattle.std.specs.Prelude.{◌≡◌, ℕ, ◌-◌, ◌⊎◌, ℤ, pos, negsuc, Bool, true, false, List, length}
use Rattle.std.specs.declared.option.Option.TheVariants.{Some}
use Rattle.theory.specs.Placed.{payload_of}
use Rattle.position.specs.declared.head.FrameHead.{FrameHead}
use Rattle.position.specs.declared.head.FrameKind.{FrameKind}
use Rattle.position.specs.declared.head.FrameKind.TheVariants as kinds
use Rattle.publication.specs.Contents.{frame_in}
use Rattle.shared_log.specs.declared.reader.whole.Unread.TheVariants as unread
use Rattle.claims.specs.Passes.Reading.{GoesBehind, HasNotRead, Reads, Unreads}
use Rattle.pechvang.specs.declared.held.Pass.TheVariants.{Reader}
use Rattle.claims.specs.declared.passes.reading.ReaderPass.{ReaderPass}
use Rattle.pechvang.specs.declared.reading.Frame.{Frame}
use Rattle.pechvang.specs.Answers.{Does, Unserved}
use Rattle.pechvang.specs.Owned.{Held}

abbrev pub is_data : FrameKind → Bool
is_data kinds.Data = true
is_data kinds.Pad = false

abbrev pub payload_length : FrameKind → ℕ → ℕ
payload_length kinds.Data n = n - 32
payload_length kinds.Pad n = 0

-- what C is told of a frame
abbrev pub frame_of : FrameHead → Frame
frame_of head = record { position = head.start; length = payload_length head.kind head.frame_length; flags = head.flags; is_data = is_data head.kind }

-- the frame was read, its payload stands in the room's front, and it is told with that one's length
pub record ReadsOut (p : ReaderPass) (before : List ℕ) (told : Frame) (q : ReaderPass) (after : List ℕ) : Type 0 where
  pub head : FrameHead
  pub reads : Reads p head before q after
  pub told_is : told ≡ frame_of head
  pub long : told.length ≡ length (payload_of (frame_in reads.reads.finds.frame))

-- it is longer than the room, and told; nothing was read
pub record TellsLonger (p : ReaderPass) (before : List ℕ) (told : Frame) (q : ReaderPass) (after : List ℕ) : Type 0 where
  pub head : FrameHead
  pub unreads : Unreads p (unread.Longer head) before q after
  pub told_is : told ≡ frame_of head

-- a frame is read; or there is none yet; or it is longer than the room
abbrev pub ReadsNext : Held → List ℕ → Frame → ℤ → List ℕ → Frame → Held → Type 0
ReadsNext (Some (Reader p)) before old code after told k =
    Does Reader (pos 1) (λ q. ReadsOut p before told q after) code k ⊎ ((Does Reader (pos 0) (λ q. Unreads p unread.None before q after) code k × (told ≡ old)) ⊎ Does Reader (negsuc 6) (λ q. TellsLonger p before told q after) code k)
ReadsNext h before old code after told k = Unserved h code k × (after ≡ before) × (told ≡ old)

-- the reader goes behind the frame that it read, or had read none
abbrev pub Advances : Held → ℤ → Held → Type 0
Advances (Some (Reader p)) code k = Does Reader (pos 1) (λ q. GoesBehind p q) code k ⊎ Does Reader (pos 0) (λ q. HasNotRead p q) code k
Advances h code k = Unserved h code k
