-- The rule's part on consumers and the keeper: which consumers are there and where they stand, which frames they know, and
-- what the keeper knows.
-- Each of eight numbers is one consumer's at the most, and the keeper knows whose is one (`there`). A consumer that is there
-- stands in whole units, at a frame's edge with all below committed (`IsPlaced`); the word of a number that nobody has is
-- zero. A frame that a consumer knows is a committed one. One pass at the most is the keeper. What eight publishers may
-- still add ends below three terms from what is cleaned (`ahead`).
use Rattle.std.specs.Prelude.{◌≡◌, ℕ, ◌+◌, ◌*◌, ◌%◌, ◌<◌, ◌≤◌, ◌==◌, cond, List, length, slice_index}
use Rattle.std.specs.List.{AllByRecursion}
use mathlib.Core.Option.{some}
use lib.ListN.{get_elem?}
use Rattle.publication.specs.declared.pass.Pass.{Pass}
use Rattle.publication.specs.declared.pass.Reading.{Reading}
use Rattle.publication.specs.declared.pass.Keeping.{Keeping}
use Rattle.log_rule.specs.Claims.Packs.{consumer_place}
use Rattle.log_rule.specs.Claims.Sums.{total}
use Rattle.log_rule.specs.Claims.Rule.{Bounds, size_of}
use Rattle.log_rule.specs.Edges.{AreCommitted, IsAmong, IsEdge, IsPlaced}

-- how often a pass is the consumer of a number
abbrev pub reads_as : ℕ → Reading → ℕ
reads_as number r = cond (r.number == number) 1 0

abbrev pub readers_of : ℕ → Pass → ℕ
readers_of number v = total (reads_as number) v.reading

abbrev pub keepers_of : Pass → ℕ
keepers_of v = v.keeping.right

-- who is there, by the numbers: 1 where a consumer has it, else 0
abbrev pub IsThere : List ℕ → ℕ → Type 0
IsThere there number = slice_index there number ≡ 1

-- what is known of a consumer is right; a number that no consumer has stands for frames that are known alone
pub record IsReader (words : List ℕ) (passes : List Pass) (r : Reading) : Type 0 where
  pub position : r.number < 8 → slice_index words (consumer_place r.number) ≡ r.position
  pub known : AllByRecursion (IsAmong passes) r.known

-- a consumer stood there once: in whole units, at a frame's edge, with all below committed
pub record IsSeen (b : Bounds) (passes : List Pass) (p : ℕ) : Type 0 where
  pub unit : p % 32 ≡ 0
  pub from : b.start ≤ p
  pub edge : IsEdge b passes p
  pub passed : AreCommitted passes p

-- who is the keeper knows the limit word, how far is cleaned, and who is there, where each of those was seen last; and each
-- stands there, or further on
pub record IsKeeper (b : Bounds) (who words : List ℕ) (passes : List Pass) (k : Keeping) : Type 0 where
  pub limit : k.right ≡ 1 → k.limit ≡ b.word
  pub cleaned : k.right ≡ 1 → k.cleaned ≡ b.cleaned
  pub there : k.right ≡ 1 → k.there ≡ who
  pub all : k.right ≡ 1 → length k.positions ≡ 8
  pub swept : k.right ≡ 1 → (j : ℕ) → IsThere who j → slice_index k.positions j ≤ slice_index words (consumer_place j)
  pub seen : k.right ≡ 1 → (j : ℕ) → IsThere who j → IsSeen b passes (slice_index k.positions j)

pub record Attends (b : Bounds) (there words : List ℕ) (passes : List Pass) (v : Pass) : Type 0 where
  pub readings : AllByRecursion (IsReader words passes) v.reading
  pub keeping : IsKeeper b there words passes v.keeping

pub record Kept (b : Bounds) (there words : List ℕ) (passes : List Pass) : Type 0 where
  pub eight : length there ≡ 8
  pub flags : (j : ℕ) → slice_index there j ≤ 1
  -- somebody is there
  pub one : ℕ
  pub any : IsThere there one
  pub unit : b.cleaned % 8 ≡ 0
  -- what may be claimed lies below the end of three terms from what is cleaned
  pub ahead : b.limit + b.greatest * 8 < b.cleaned + 3 * size_of b
  pub placed : (j : ℕ) → IsThere there j → IsPlaced b passes (slice_index words (consumer_place j))
  pub free : (j : ℕ) → j < 8 → slice_index there j ≡ 0 → slice_index words (consumer_place j) ≡ 0
  pub single : (j : ℕ) → j < 8 → total (readers_of j) passes ≤ slice_index there j
  pub keepers : total keepers_of passes ≤ 1
  pub each : (i : ℕ) (v : Pass) → get_elem? passes i ≡ some v → Attends b there words passes v
