-- What a round's threads claim and read, and what its book shows of it.
use Rattle.std.specs.Prelude.{◌≡◌, ℕ, ◌+◌, ◌*◌, ◌/◌, ◌<◌, ◌≤◌, ◌==◌, false, true, cond, List, [], ◌∷◌, length, slice_index, sum, Option}
use Rattle.std.specs.List.{AllByRecursion}
use Rattle.theory.specs.Position.{Geometry, span}
use Rattle.theory.specs.Entry.{Entry, entry_end, length_of}
use Rattle.theory.specs.Placed.{Data, Frame, Pad}
use Rattle.theory.specs.Refusal.{is_connected, limit_in}
use Rattle.theory.specs.Tiling.{Tiles}
use Rattle.publication.specs.declared.pass.ClaimRange.{ClaimRange}
use Rattle.publication.specs.declared.pass.FrameWords.{FrameWords}
use Rattle.publication.specs.declared.pass.Pass.{Pass}
use Rattle.publication.specs.Contents.{frame_in}
use Rattle.shared_log.specs.Steps.Handles.{LogValue, PublisherValue}
use Rattle.log_rule.specs.Claims.Rule.{weight}
use Rattle.log_rule.specs.Claims.Sums.{total}
use Rattle.shared_log.specs.declared.book.Book.{Book}
use Rattle.shared_log.specs.Readers.{IsReaderOf, ReaderValue, known_of}
use Rattle.shared_log.specs.Keepers.{KeeperValue}
use Rattle.shared_log.specs.Books.{IsDone}
use Rattle.speed.specs.Laps.{Span, span_of}
use Rattle.speed.specs.declared.rounds.claiming.Job.{Job}
use Rattle.speed.specs.declared.rounds.lane.Lane.{Lane}
use Rattle.speed.specs.declared.rounds.opening.Ready.{Ready}
use Rattle.speed.specs.declared.rounds.streaming.Follower.{Follower}

-- ---- entries

-- 1 for a message, and 0 for a padding
abbrev pub message_in : Entry → ℕ
message_in e = cond e.padding 0 1

-- what a padding covers
abbrev pub padding_in : Entry → ℕ
padding_in e = cond e.padding (length_of e) 0

-- what an entry of the publisher with this number covers
abbrev pub bytes_by : ℕ → Entry → ℕ
bytes_by number e = cond (e.owner == number) (length_of e) 0

-- how many messages a pass has claimed
abbrev pub messages_of : Pass → ℕ
messages_of v = weight message_in v

-- ---- publishers

-- a claim of the publisher with this number: one frame with 200 bytes behind its header, or a padding up to the end of its term
pub record IsSent (term_length number : ℕ) (c : ClaimRange) : Type 0 where
  pub owner : c.owner ≡ number
  pub message : c.padding ≡ false → c.cuts ≡ 232 ∷ []
  pub padding : c.padding ≡ true → c.start / term_length * term_length + term_length ≤ c.start + span c.cuts

-- a publisher of this log that has nothing open, and has claimed such messages and paddings alone
pub record IsSender (l : LogValue) (p : PublisherValue) : Type 0 where
  pub done : IsDone l p
  pub sent : AllByRecursion (IsSent l.identity.geometry.term_length p.pass.number) p.pass.right.claims

-- and so many messages more than before
pub record Claims (l : LogValue) (p : PublisherValue) (more : ℕ) (q : PublisherValue) : Type 0 where
  pub sender : IsSender l q
  pub parts : q.pass.right.parts ≡ p.pass.right.parts
  pub messages : messages_of q.pass ≡ messages_of p.pass + more

-- ---- lanes

abbrev pub publisher_in : Lane → PublisherValue
publisher_in lane = lane.publisher

abbrev pub accepted_in : Lane → ℕ
accepted_in lane = lane.accepted

abbrev pub lane_span : Lane → Option Span
lane_span lane = span_of lane.lap

abbrev pub parts_of : Lane → ℕ
parts_of lane = lane.publisher.pass.right.parts

-- its publisher is one of this log, and the accepted offers are the messages that it has claimed
pub record IsLane (l : LogValue) (lane : Lane) : Type 0 where
  pub sender : IsSender l lane.publisher
  pub counted : messages_of lane.publisher.pass ≡ lane.accepted

-- ---- lanes that claim

abbrev pub claimant_in : Job → PublisherValue
claimant_in job = job.claimant

abbrev pub job_parts : Job → ℕ
job_parts job = job.claimant.pass.right.parts

-- its publisher is one of this log, and has claimed no message yet
pub record IsJob (l : LogValue) (job : Job) : Type 0 where
  pub sender : IsSender l job.claimant
  pub none : messages_of job.claimant.pass ≡ 0

-- ---- the reader and the keeper

abbrev pub one_for : Frame → ℕ
one_for (Data flags payload) = 1
one_for (Pad n) = 0

abbrev pub one_in : FrameWords → ℕ
one_in f = one_for (frame_in f)

-- how many frames of messages a reader knows
abbrev pub read_by : ReaderValue → ℕ
read_by r = total one_in (known_of r)

-- the keeper of this log, which has claimed nothing
pub record IsKept (l : LogValue) (k : KeeperValue) : Type 0 where
  pub done : IsDone l k.held
  pub unclaimed : k.held.pass.right.claims ≡ []
  pub parts : k.held.pass.right.parts ≡ 8

pub record IsFollower (l : LogValue) (f : Follower) : Type 0 where
  pub reader : IsReaderOf l f.reader
  pub keeper : IsKept l f.keeper
  pub room : l.identity.geometry.mtu ≤ length f.block

-- ---- rounds

-- a log of this shape that begins at 0, connected, with its limit half a term above or further; and all that it has
pub record IsReady (g : Geometry) (r : Ready) : Type 0 where
  pub shape : r.log.identity.geometry ≡ g
  pub start : r.log.start ≡ 0
  pub lanes : AllByRecursion (IsLane r.log) r.lanes
  pub none : AllByRecursion (λ lane. lane.accepted ≡ 0) r.lanes
  pub whole : total parts_of r.lanes ≡ 1016
  pub keeper : IsKept r.log r.keeper
  pub connected : is_connected r.keeper.limit ≡ true
  pub limit : g.term_length / 2 ≤ limit_in r.keeper.limit
  pub readers : AllByRecursion (IsReaderOf r.log) r.readers.items
  pub one : length r.readers.items ≡ 1

-- what the log was filled with: a message of 256 bytes, or a padding up to the end of its term
pub record IsPiece (term_length : ℕ) (e : Entry) : Type 0 where
  pub message : e.padding ≡ false → length_of e ≡ 256
  pub padding : e.padding ≡ true → entry_end e ≡ e.start / term_length * term_length + term_length

-- such entries tile the stream from 0 to the book's tail; so many of them are messages; and the shares are what each publisher's cover
pub record IsFilled (g : Geometry) (book : Book) (accepted : ℕ) : Type 0 where
  pub start : book.start ≡ 0
  pub whole : book.start + sum book.shares ≡ book.tail
  pub log : List Entry
  pub tiles : Tiles g.term_length 0 book.tail log
  pub pieces : AllByRecursion (IsPiece g.term_length) log
  pub shares : (n : ℕ) → n < 8 → slice_index book.shares n ≡ total (bytes_by n) log
  pub messages : total message_in log ≡ accepted
  pub bytes : book.tail ≡ accepted * 256 + total padding_in log
