-- What becomes of passes that end, and what the book of a log says.
use Rattle.std.specs.Prelude.{◌≡◌, ℕ, ◌+◌, ◌<◌, ◌≤◌, ◌==◌, cond, List, [], ◌∷◌, All, slice_index, sum}
use Rattle.std.specs.List.{AllByRecursion, flat_map}
use Rattle.theory.specs.Entry.{Entry}
use Rattle.theory.specs.Placed.{Among}
use Rattle.theory.specs.Position.{IsGeometry, max_position}
use Rattle.theory.specs.Tiling.{share_of}
use Rattle.publication.specs.declared.pass.FrameWords.{FrameWords}
use Rattle.publication.specs.declared.pass.Pass.{Pass}
use Rattle.log_rule.specs.Claims.Sums.{total}
use Rattle.log_rule.specs.Claims.Rule.{IsClaimEntry, entries_of, weight}
use Rattle.log_rule.specs.Claims.Events.{committed_weight}
use Rattle.log_rule.specs.Edges.{in_entry}
use Rattle.log_rule.specs.Numbers.{numbers_as}
use Rattle.publication.specs.Steps.{Extent, extent_of}
use Rattle.shared_log.specs.Steps.Handles.{IsOf, LogValue, PublisherValue, parts_in}
use Rattle.log_rule.specs.Claims.Closing.{both, handed_over}
use Rattle.log_rule.specs.Shares.{IsTiled, Weighs, claimed_bytes}
use Rattle.log_rule.specs.Table.{knowledge_of}
use Rattle.shared_log.specs.Handles.{OwnsClaims}
use Rattle.shared_log.specs.Keepers.{KeeperValue}
use Rattle.shared_log.specs.declared.book.Book.{Book}

-- the pass is one of this log, and isn't armed
pub record IsIdle (l : LogValue) (p : PublisherValue) : Type 0 where
  pub of : IsOf l p
  pub unarmed : p.pass.right.armed ≡ 0

-- the first has what both had, and it is the first's
pub record Retires (p other q : PublisherValue) : Type 0 where
  pub of : q.of ≡ p.of
  pub seat : q.seat ≡ p.seat
  pub pass : q.pass ≡ handed_over p.pass other.pass
  pub sure : q.sure ≡ 0
  pub freed : q.freed ≡ p.freed

-- ---- closing

-- a publisher of this log that has nothing open
pub record IsDone (l : LogValue) (p : PublisherValue) : Type 0 where
  pub idle : IsIdle l p
  pub ended : p.pass.work.drafts ≡ []

-- all publishers and the keeper, which has claimed nothing
pub record AreAll (l : LogValue) (publishers : List PublisherValue) (keeper : KeeperValue) : Type 0 where
  pub publishers_are : All (IsDone l) publishers
  pub keeper_is : IsDone l keeper.held
  pub unclaimed : keeper.held.pass.right.claims ≡ []
  pub whole : total parts_in publishers + keeper.held.pass.right.parts ≡ 1024

-- what all of them claimed
abbrev pub weight_in : (Entry → ℕ) → PublisherValue → ℕ
weight_in h p = weight h p.pass

-- what frames all of them committed
abbrev pub committed_in : (Extent → ℕ) → PublisherValue → ℕ
committed_in h p = committed_weight (λ f. h (extent_of f)) p.pass

-- the frames that it has committed; and one of them is this
abbrev pub committed_of : PublisherValue → List FrameWords
committed_of p = p.pass.work.frames

abbrev pub IsCommittedBy : List PublisherValue → FrameWords → Type 0
IsCommittedBy publishers f = Among f (flat_map committed_of publishers)

-- each of its claims is an entry of a stream
abbrev pub HasEntries : PublisherValue → Type 0
HasEntries p = AllByRecursion IsClaimEntry (entries_of p.pass)

-- how often all of them have a number
abbrev pub numbers_in : ℕ → PublisherValue → ℕ
numbers_in n p = numbers_as n p.pass

-- each frame of its claims is committed
abbrev pub IsCommitted : PublisherValue → Type 0
IsCommitted p = (h : Extent → ℕ) → weight_in (in_entry h) p ≡ committed_in h p

-- the share of the pass with a number
abbrev pub share_as : ℕ → PublisherValue → ℕ
share_as number p = cond (p.pass.number == number) (claimed_bytes p.pass) 0

-- what each publisher has claimed; and together that tiles the stream from the start to the tail
pub record ShowsBook (l : LogValue) (publishers : List PublisherValue) (book : Book) : Type 0 where
  pub geometry : IsGeometry l.identity.geometry
  pub start : book.start ≡ l.start
  pub low : book.tail ≤ max_position l.identity.geometry
  pub shares : (n : ℕ) → n < 8 → slice_index book.shares n ≡ total (share_as n) publishers
  pub whole : book.start + sum book.shares ≡ book.tail
  pub entries : AllByRecursion HasEntries publishers
  pub tiled : IsTiled l.identity l.start book.tail (λ h. total (weight_in h) publishers)
  -- and the shares are those of the entries' owners
  pub owned : (n : ℕ) → n < 8 → slice_index book.shares n ≡ share_of n tiled.log
  -- and no number is one of two publishers
  pub numbers : (n : ℕ) → total (numbers_in n) publishers ≤ 1
  -- each frame of each entry is committed
  pub committed : (h : Extent → ℕ) → total (in_entry h) tiled.log ≡ total (committed_in h) publishers

-- a publisher's claims go to another pass, which is told how much it has then
pub record Gathers (v : Pass) (p : PublisherValue) (w : Pass) (answer : ℕ × ℕ) : Type 0 where
  pub some : 0 < v.right.parts
  pub owns : OwnsClaims p.pass
  pub number : (answer.0 ≡ p.pass.number) × (p.pass.number < 8)
  pub share : answer.1 ≡ claimed_bytes p.pass
  pub pass : w ≡ both v p.pass
  pub weighs : Weighs w w

-- its consumers know too what the other's do
abbrev pub Remembers : Pass → Pass → Pass → Type 0
Remembers v r w = w ≡ record v { reading = knowledge_of r ∷ v.reading }
