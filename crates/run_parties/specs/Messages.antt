-- A run's messages, and what a publisher of them has claimed.
use Rattle.std.specs.Prelude.{◌≡◌, ℕ, ◌+◌, ◌-◌, true, false, cond, List, [], ◌∷◌, ◌++◌, map, replicate}
use Rattle.std.specs.List.{AllByRecursion}
use Rattle.byteorder.specs.Endian.{little_bytes}
use Rattle.theory.specs.Bytes.{Identity}
use Rattle.theory.specs.Placed.{Pad}
use Rattle.theory.specs.Position.{Geometry, cuts_of}
use Rattle.publication.specs.declared.pass.ClaimRange.{ClaimRange}
use Rattle.publication.specs.declared.pass.FrameWords.{FrameWords}
use Rattle.publication.specs.Frames.{frames_at, message_frames}
use Rattle.publication.specs.Orders.{AreInOrder}
use Rattle.shared_log.specs.Steps.Handles.{LogValue, PublisherValue}
use Rattle.log_rule.specs.Claims.Sums.{total}
use Rattle.run_parties.specs.Passes.{Ends}

-- a message of a run: its publisher's number and its own count, from 0, of four bytes each, the lowest first; and zeros up to its length
abbrev pub message_of : ℕ → ℕ → ℕ → List ℕ
message_of length number count = (little_bytes 4 number ++ little_bytes 4 count) ++ replicate (length - 8) 0

-- 1 for a message, and 0 for a padding
abbrev pub message_in : ClaimRange → ℕ
message_in c = cond c.padding 0 1

-- the frames of a message's claim, whole, or of a padding
abbrev pub frames_in : Identity → List ℕ → ClaimRange → List FrameWords
frames_in i message c = cond c.padding (frames_at i c.start (map Pad c.cuts)) (message_frames i true c.start message)

-- those of claims in order, of which the messages are a publisher's from this count on
abbrev pub frames_from : Identity → ℕ → ℕ → ℕ → List ClaimRange → List FrameWords
frames_from i length number count [] = []
frames_from i length number count (c ∷ cs) = frames_in i (message_of length number count) c ++ frames_from i length number (count + message_in c) cs

-- a claim of the publisher with this number, cut for a message of this length, or a padding
pub record IsRunClaim (g : Geometry) (length number : ℕ) (c : ClaimRange) : Type 0 where
  pub owner : c.owner ≡ number
  pub message : c.padding ≡ false → c.cuts ≡ cuts_of g length

-- behind what it had, a publisher has claimed its messages 0, 1, 2 and so on, so many, each committed whole, and paddings
pub record HasPublished (l : LogValue) (length accepted : ℕ) (p q : PublisherValue) : Type 0 where
  pub ends : Ends l p q
  pub more : List ClaimRange
  pub claims : q.pass.right.claims ≡ p.pass.right.claims ++ more
  pub each : AllByRecursion (IsRunClaim l.identity.geometry length p.pass.number) more
  pub messages : total message_in more ≡ accepted
  pub frames : q.pass.work.frames ≡ p.pass.work.frames ++ frames_from l.identity length p.pass.number 0 more
  -- in the order of the stream, where what it had claimed before is
  pub ordered : AreInOrder p.pass.right.claims → AreInOrder q.pass.right.claims
