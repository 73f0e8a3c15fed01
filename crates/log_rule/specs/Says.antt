-- What the rule says of a log, whatever its words and passes are, in the words of the stream.
use Rattle.std.specs.Prelude.{◌≡◌, ℕ, ◌+◌, ◌-◌, ◌*◌, ◌%◌, ◌<◌, ◌≤◌, ◌⊎◌, List, length, map, max, slice_index}
use Rattle.std.specs.List.{AllByRecursion}
use mathlib.Core.Option.{some}
use lib.ListN.{get_elem?}
use Rattle.atomic_table.specs.Table.{State}
use Rattle.theory.specs.Bytes.{Identity}
use Rattle.theory.specs.Entry.{Entry}
use Rattle.theory.specs.Position.{Geometry, greatest_claim}
use Rattle.theory.specs.Refusal.{limit_in}
use Rattle.theory.specs.Tiling.{Tiles, all_shares, share_of}
use Rattle.theory.specs.Placed.{Among}
use Rattle.publication.specs.declared.pass.FrameWords.{FrameWords}
use Rattle.publication.specs.declared.pass.Pass.{Pass}
use Rattle.publication.specs.declared.pass.Reading.{Reading}
use Rattle.publication.specs.Steps.{Extent, shown_position}
use Rattle.log_rule.specs.declared.claims.view.View.{View}
use Rattle.log_rule.specs.declared.rule.Key.{Key}
use Rattle.log_rule.specs.Claims.Memory.{IsCommittedFrame}
use Rattle.log_rule.specs.Claims.Packs.{consumer_place, limit_place, slot, tail_place}
use Rattle.log_rule.specs.Claims.Plays.{pass_in}
use Rattle.log_rule.specs.Claims.Rule.{armed_of, weight}
use Rattle.log_rule.specs.Claims.Sums.{total}
use Rattle.log_rule.specs.Edges.{AreCommitted, CommittedBy, begins_at, claimed_sum, committed_sum, in_entry, open_sum}
use Rattle.log_rule.specs.Kept.{readers_of}
use Rattle.log_rule.specs.Numbers.{ClaimsAs}
use Rattle.log_rule.specs.Shares.{owner_bytes}
use Rattle.log_rule.specs.Table.{LogRuled}

-- the greatest position that the three raw tails show
abbrev pub tail_shown : Geometry → List ℕ → ℕ
tail_shown g words = max (max (shown_position g (slice_index words (tail_place 0))) (shown_position g (slice_index words (tail_place 1)))) (shown_position g (slice_index words (tail_place 2)))

-- a committed frame's words stand at their places, as far as they aren't cleaned: it is spelt there as a frame of the stream
pub record IsSpelt (i : Identity) (cleaned : ℕ) (words : List ℕ) (f : FrameWords) : Type 0 where
  pub done : IsCommittedFrame i f
  pub stands : (k : ℕ) → k < length f.words → cleaned ≤ f.start + 8 * k → slice_index words (slot i.geometry (f.start + 8 * k)) ≡ slice_index f.words k

-- the first word of an open frame isn't cleaned, and is zero
pub record IsBegun (i : Identity) (cleaned : ℕ) (words : List ℕ) (f : FrameWords) : Type 0 where
  pub kept : cleaned ≤ f.start
  pub first : 0 < length f.words → slice_index words (slot i.geometry f.start) ≡ 0

-- a consumer's word is its position, which is a frame's edge in whole units of the stream, with all committed that begins below
-- it; what lies a term below is readable; and nobody else has its number
pub record IsStanding (key : Key) (cleaned : ℕ) (words : List ℕ) (passes : List Pass) (r : Reading) : Type 0 where
  pub word : slice_index words (consumer_place r.number) ≡ r.position
  pub unit : r.position % 32 ≡ 0
  pub from : key.start ≤ r.position
  pub below : r.position ≤ tail_shown key.identity.geometry words
  pub edge : (r.position ≡ tail_shown key.identity.geometry words) ⊎ (0 < claimed_sum (begins_at r.position) passes)
  pub passed : AreCommitted passes r.position
  pub readable : cleaned ≤ max key.start (r.position - key.identity.geometry.term_length)
  pub single : total (readers_of r.number) passes ≡ 1

-- who has a number is there, and the word of one that isn't there is zero
pub record KnowsConsumer (there words : List ℕ) (passes : List Pass) (number : ℕ) : Type 0 where
  pub most : total (readers_of number) passes ≤ slice_index there number
  pub free : slice_index there number ≡ 0 → slice_index words (consumer_place number) ≡ 0

pub record Says (key : Key) (words : List ℕ) (passes : List Pass) : Type 0 where
  -- the entries in the order of the stream, of which no frame is told, and the position below which all may be cleaned
  pub log : List Entry
  pub cleaned : ℕ
  pub tiles : Tiles key.identity.geometry.term_length key.start (tail_shown key.identity.geometry words) log
  -- they are what the passes claimed
  pub claimed : (h : Entry → ℕ) → total (weight h) passes ≡ total h log
  -- each frame, committed or open, is one of an entry, where that has it and as long as that has it, and those are all
  pub framed : (h : Extent → ℕ) → total (in_entry h) log ≡ committed_sum h passes + open_sum h passes
  -- each owner's share is what was claimed under its number, and all shares are all that was claimed
  pub shares : (owner : ℕ) → share_of owner log ≡ total (weight (owner_bytes owner)) passes
  pub whole : key.start + all_shares log ≡ tail_shown key.identity.geometry words
  -- who has claimed under a number, or may add under it, is one pass
  pub numbers : (n i j : ℕ) (v w : Pass) → get_elem? passes i ≡ some v → get_elem? passes j ≡ some w → ClaimsAs n v → ClaimsAs n w → i ≡ j
  -- there is room for what those who are armed may add, and for what eight may add up to the limit
  pub room : tail_shown key.identity.geometry words + greatest_claim key.identity.geometry * total armed_of passes ≤ limit_in (slice_index words limit_place) + greatest_claim key.identity.geometry * 8
  pub ahead : limit_in (slice_index words limit_place) + greatest_claim key.identity.geometry * 8 ≤ cleaned + 3 * key.identity.geometry.term_length
  pub zeros : (x : ℕ) → x % 8 ≡ 0 → tail_shown key.identity.geometry words ≤ x → x < cleaned + 3 * key.identity.geometry.term_length → slice_index words (slot key.identity.geometry x) ≡ 0
  pub frames : (i : ℕ) (v : Pass) → get_elem? passes i ≡ some v → AllByRecursion (IsSpelt key.identity cleaned words) v.work.frames
  pub drafts : (i : ℕ) (v : Pass) → get_elem? passes i ≡ some v → AllByRecursion (IsBegun key.identity cleaned words) v.work.drafts
  -- each consumer that is there has a number that no other has, and stands where it may; and the keeper knows who is there
  pub consumers : (i : ℕ) (v : Pass) (r : Reading) → get_elem? passes i ≡ some v → Among r v.reading → r.number < 8 → IsStanding key cleaned words passes r
  -- each frame that a pass knows as a reader is committed, by one of the passes
  pub known : (i : ℕ) (v : Pass) (r : Reading) → get_elem? passes i ≡ some v → Among r v.reading → AllByRecursion (CommittedBy passes) r.known
  pub keeper : (i : ℕ) (v : Pass) → get_elem? passes i ≡ some v → v.keeping.right ≡ 1 → (j : ℕ) → j < 8 → KnowsConsumer v.keeping.there words passes j

-- whatever state the rule holds of
abbrev pub RuleSays : Type 0
RuleSays = (key : Key) (s : State (Unit {0}) View) → LogRuled key s → Says key s.words (map pass_in s.views)

-- in whatever state the rule holds of, with this pass among the passes, one of them has committed the frame
abbrev pub IsCommittedFor : Pass → FrameWords → Type 0
IsCommittedFor v f = (key : Key) (s : State (Unit {0}) View) (i : ℕ) → LogRuled key s → get_elem? (map pass_in s.views) i ≡ some v → CommittedBy (map pass_in s.views) f
