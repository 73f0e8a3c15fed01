-- What contracts see of consumers that join and leave.
use Rattle.std.specs.Prelude.{◌≡◌, ℕ, ◌+◌, ◌<◌, List, ◌∷◌, ◌++◌, drop, length, slice_index, slice_set, take}
use Rattle.theory.specs.Placed.{Among}
use Rattle.publication.specs.declared.pass.Keeping.{Keeping}
use Rattle.publication.specs.declared.pass.Pass.{Pass}
use Rattle.publication.specs.declared.pass.Reading.{Reading}
use Rattle.log_rule.specs.Kept.{IsThere}
use Rattle.log_rule.specs.Keepings.{least_there, left, newly, with_keeping}
use Rattle.log_rule.specs.Readings.{IsConsumer}
use Rattle.log_rule.specs.Table.{reader_alone}
use Rattle.shared_log.specs.Steps.Handles.{LogValue}
use Rattle.shared_log.specs.Keepers.{KeeperValue, KeepsAs, ReadsConsumer, SameFreed, TookSteps, keeping_of, reads_of, seen_positions, there_of, those_there}
use Rattle.shared_log.specs.Parts.{IsFresh}
use Rattle.shared_log.specs.Readers.{ReaderValue}

-- ---- who is there

-- the least number that nobody has
pub record IsFirstFree (there : List ℕ) (number : ℕ) : Type 0 where
  pub low : number < 8
  pub free : slice_index there number ≡ 0
  pub first : (j : ℕ) → j < number → IsThere there j

abbrev pub AreEight : List ℕ → Type 0
AreEight there = (j : ℕ) → j < 8 → IsThere there j

-- nobody is there but who has this number
abbrev pub IsLast : List ℕ → ℕ → Type 0
IsLast there number = (j : ℕ) → IsThere there j → j ≡ number

-- some other is there
pub record HasOther (there : List ℕ) (number : ℕ) : Type 0 where
  pub other : ℕ
  pub another : other ≡ number → ⊥
  pub is : IsThere there other

-- ---- in the keeper's own pass

-- the keeper's pass is this one then; the rest is as it was
pub record Becomes (k : KeeperValue) (pass : Pass) (q : KeeperValue) : Type 0 where
  pub of : q.held.of ≡ k.held.of
  pub seat : q.held.seat ≡ k.held.seat
  pub pass_is : q.held.pass ≡ pass
  pub sure : q.held.sure ≡ k.held.sure
  pub freed : SameFreed k q
  pub limit : q.limit ≡ k.limit
  pub cleaned : q.cleaned ≡ k.cleaned

-- one with this number is there
abbrev pub with_newcomer : ℕ → List ℕ → List ℕ → KeeperValue → Keeping
with_newcomer number positions reads k = record (keeping_of k) { there = slice_set (there_of k) number 1; positions = positions; reads = reads }

-- and it is one of the keeper's own pass
abbrev pub begun : KeeperValue → ℕ → ℕ → ℕ → List ℕ → List ℕ → Pass
begun k number place position positions reads = record k.held.pass {
  reading = take place k.held.pass.reading ++ newly number position ∷ drop place k.held.pass.reading;
  keeping = with_newcomer number positions reads k;
}

-- and its seat knows of the control words what it knew
abbrev pub KnowsControls : KeeperValue → KeeperValue → Type 0
KnowsControls k q = k.held.sure ≡ 1 → q.held.controls ≡ k.held.controls

-- each consumer that is there was read once in this call, and where the least of them stood one begins with a number, at this
-- place among those of the keeper's own pass
pub record Begins (l : LogValue) (k : KeeperValue) (number place position : ℕ) (q : KeeperValue) : Type 0 where
  pub once : reads_of q ≡ reads_of k ++ those_there k
  pub all : length (seen_positions q) ≡ 8
  pub reads : (j : ℕ) → Among j (those_there k) → ReadsConsumer k j (slice_index (seen_positions q) j)
  pub least : position ≡ least_there (there_of k) (seen_positions q)
  pub here : slice_index (seen_positions q) number ≡ position
  pub becomes : Becomes k (begun k number place position (seen_positions q) (reads_of q)) q
  pub controls : k.held.sure ≡ 1 → q.held.controls ≡ record k.held.controls { limit = k.limit }
  pub steps : TookSteps k (length (those_there k) + 1) q

-- the consumer at this place of the keeper's own pass has this number
pub record HasConsumer (v : Pass) (place number : ℕ) : Type 0 where
  pub consumer : Reading
  pub is : IsConsumer v place consumer
  pub number_is : consumer.number ≡ number
  pub low : number < 8

-- and it is none any more, with one store
pub record Ends (k : KeeperValue) (place number : ℕ) (q : KeeperValue) : Type 0 where
  pub becomes : Becomes k (left k.held.pass place number) q
  pub controls : KnowsControls k q
  pub steps : TookSteps k 1 q

-- ---- by a pass of its own

-- a reader of this log that has read nothing, and has made no step
pub record IsJoined (l : LogValue) (number position : ℕ) (r : ReaderValue) : Type 0 where
  pub held : IsFresh l (reader_alone l.identity l.start (newly number position)) r.held
  pub place : r.place ≡ 0
  pub number_is : r.number ≡ number
  pub position_is : r.position ≡ position
  pub read_to : r.read_to ≡ position

-- each consumer that is there was read once in this call, and where the least of them stood a reader begins with the least number that
-- nobody had
pub record Joins (l : LogValue) (k : KeeperValue) (r : ReaderValue) (q : KeeperValue) : Type 0 where
  pub once : reads_of q ≡ reads_of k ++ those_there k
  pub all : length (seen_positions q) ≡ 8
  pub reads : (j : ℕ) → Among j (those_there k) → ReadsConsumer k j (slice_index (seen_positions q) j)
  pub least : r.position ≡ least_there (there_of k) (seen_positions q)
  pub here : slice_index (seen_positions q) r.number ≡ r.position
  pub number : IsFirstFree (there_of k) r.number
  pub reader : IsJoined l r.number r.position r
  pub keeps : KeepsAs k (with_newcomer r.number (seen_positions q) (reads_of q) k) q
  pub freed : SameFreed k q
  -- one load for each consumer that was there, and one store
  pub steps : TookSteps k (length (those_there k) + 1) q

-- the reader's number is nobody's, with one store
pub record Leaves (k : KeeperValue) (number : ℕ) (q : KeeperValue) : Type 0 where
  pub becomes : Becomes k (with_keeping k.held.pass (record (keeping_of k) { there = slice_set (there_of k) number 0 })) q
  pub controls : KnowsControls k q
  pub steps : TookSteps k 1 q
