-- The rule that a log's words and passes obey between any two steps: what is claimed, and by whom.
-- It is said over all words and all passes, in whatever threads they are. What passes claimed is, however
-- entries are weighed (`fair`), what stands in one list that tiles the stream; who has a position and where the tail
-- is are sums over the passes.
use Rattle.std.specs.Prelude.{◌≡◌, ℕ, suc, ◌+◌, ◌*◌, ◌/◌, ◌%◌, ◌<◌, ◌≤◌, ◌==◌, cond, List, [], length, map, slice_index}
use Rattle.std.specs.List.{AllByRecursion}
use mathlib.Core.Option.{some}
use lib.ListN.{get_elem?}
use Rattle.theory.specs.Position.{Geometry, IsGeometry, greatest_claim, max_position}
use Rattle.theory.specs.Entry.{Entry, IsEntry}
use Rattle.theory.specs.Tiling.{Tiles}
use Rattle.theory.specs.Bytes.{Identity}
use Rattle.theory.specs.Refusal.{limit_in}
use Rattle.publication.specs.declared.pass.ClaimRange.{ClaimRange}
use Rattle.publication.specs.declared.pass.Pass.{Pass}
use Rattle.publication.specs.declared.pass.Right.{Right}
use Rattle.publication.specs.declared.pass.Seen.{Seen}
use Rattle.log_rule.specs.Claims.Packs.{limit_place, table_length}
use Rattle.log_rule.specs.Claims.Sums.{total}
use Rattle.log_rule.specs.Claims.Terms.{Full, Tailed, Terms, claimed_to}

-- what stays of a log, and what others move, only forwards: the limit, a position that the tail has reached, and the position from which on nothing is cleaned
pub record Bounds : Type 0 where
  pub identity : Identity
  pub start : ℕ
  -- what the longest message covers
  pub greatest : ℕ
  pub limit : ℕ
  -- the limit's word, which has the flags too
  pub word : ℕ
  pub floor : ℕ
  pub cleaned : ℕ

abbrev pub shape_of : Bounds → Geometry
shape_of b = b.identity.geometry

abbrev pub size_of : Bounds → ℕ
size_of b = b.identity.geometry.term_length

-- the count of the term in which the log begins
abbrev pub first_of : Bounds → ℕ
first_of b = b.start / b.identity.geometry.term_length

pub record Sound (b : Bounds) : Type 0 where
  pub geometry : IsGeometry (shape_of b)
  pub unit : b.start % 32 ≡ 0
  pub below : b.start < max_position (shape_of b)
  pub greatest : b.greatest ≡ greatest_claim (shape_of b)
  pub limit : limit_in b.word ≡ b.limit

-- ---- what passes have

-- a claim, as an entry of which no frame is told
abbrev pub entry_of : ClaimRange → Entry
entry_of c = record { start = c.start; owner = c.owner; padding = c.padding; cuts = c.cuts; frames = [] }

abbrev pub entries_of : Pass → List Entry
entries_of v = map entry_of v.right.claims

abbrev pub weight : (Entry → ℕ) → Pass → ℕ
weight h v = total h (entries_of v)

-- all passes together have 1024 parts, and one that may claim has 120: so no more than eight of them are armed
abbrev pub parts_of : Pass → ℕ
parts_of v = v.right.parts

abbrev pub armed_of : Pass → ℕ
armed_of v = v.right.armed

-- armed for the tail of this partition
abbrev pub armed_on : ℕ → Pass → ℕ
armed_on partition v = cond (v.seen.term % 3 == partition) v.right.armed 0

pub record IsClaimEntry (e : Entry) : Type 0 where
  pub entry : IsEntry e
  pub unit : e.start % 32 ≡ 0

pub record Entitled (b : Bounds) (r : Right) : Type 0 where
  pub capped : limit_in r.limit ≤ b.limit
  pub able : 120 * r.armed ≤ r.parts
  pub once : r.armed ≤ 1
  pub idle : r.parts ≡ 0 → r.claims ≡ []

pub record HasSeen (g : Geometry) (first : ℕ) (t : Terms) (s : Seen) : Type 0 where
  pub count : (first ≤ s.count) × (s.count ≤ t.newest)
  pub term : (first ≤ s.term) × (s.term ≤ t.newest)
  pub full : (k : ℕ) → s.full ≡ suc k → Full g first t k
  pub begun : s.begun ≤ t.newest
  pub shown : s.shown ≤ claimed_to g t

-- what a pass knows is true
pub record Knows (b : Bounds) (t : Terms) (v : Pass) : Type 0 where
  pub identity : v.identity ≡ b.identity
  pub start : v.start ≡ b.start
  pub number : v.number < 8
  pub right : Entitled b v.right
  pub entries : AllByRecursion IsClaimEntry (entries_of v)
  pub seen : HasSeen (shape_of b) (first_of b) t v.seen

-- ---- the rule

-- the log exists in the proofs alone: the entries of all passes, in the order of the stream
pub record ClaimsHold (b : Bounds) (words : List ℕ) (passes : List Pass) : Type 0 where
  pub sound : Sound b
  pub wide : length words ≡ table_length (shape_of b)
  pub limit : slice_index words limit_place ≡ b.word
  pub terms : Terms
  pub tailed : Tailed (shape_of b) (first_of b) terms words
  pub log : List Entry
  pub tiles : Tiles (size_of b) b.start (claimed_to (shape_of b) terms) log
  pub fair : (h : Entry → ℕ) → total (weight h) passes ≡ total h log
  pub reached : b.floor ≤ claimed_to (shape_of b) terms
  pub parted : total parts_of passes ≡ 1024
  -- who is armed may pass the end of a term once, so no offset passes it by eight claims
  pub over : (k : ℕ) → k ≤ terms.newest → terms.newest ≤ k + 2 → terms.offset k + b.greatest * total (armed_on (k % 3)) passes < size_of b + b.greatest * 8
  pub room : claimed_to (shape_of b) terms + b.greatest * total armed_of passes ≤ b.limit + b.greatest * 8
  pub each : (j : ℕ) (v : Pass) → get_elem? passes j ≡ some v → Knows b terms v
