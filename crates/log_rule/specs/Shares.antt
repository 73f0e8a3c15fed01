-- What a pass has claimed.
use Rattle.std.specs.Prelude.{◌≡◌, ℕ, ◌+◌, ◌<◌, ◌≤◌, ◌==◌, if◌then◌else◌, List}
use Rattle.std.specs.List.{AllByRecursion}
use Rattle.theory.specs.Position.{max_position, span}
use Rattle.theory.specs.Bytes.{Identity}
use Rattle.theory.specs.Placed.{Among}
use Rattle.theory.specs.Entry.{Entry, length_of}
use Rattle.theory.specs.Tiling.{Tiles}
use Rattle.publication.specs.declared.pass.ClaimRange.{ClaimRange}
use Rattle.publication.specs.declared.pass.Pass.{Pass}
use Rattle.publication.specs.Steps.{Extent, extent_of, geometry_of}
use Rattle.log_rule.specs.Claims.Sums.{total}
use Rattle.log_rule.specs.Claims.Rule.{IsClaimEntry, entries_of, weight}
use Rattle.log_rule.specs.Claims.Events.{committed_weight}
use Rattle.log_rule.specs.Edges.{in_entry}
use Rattle.log_rule.specs.Numbers.{numbers_as}
use Rattle.log_rule.specs.Table.{all_known}

abbrev pub range_bytes : ClaimRange → ℕ
range_bytes c = span c.cuts

-- how many bytes its claims cover
abbrev pub claimed_bytes : Pass → ℕ
claimed_bytes v = total range_bytes v.right.claims

-- how many bytes of an entry are an owner's
abbrev pub owner_bytes : ℕ → Entry → ℕ
owner_bytes owner e = if e.owner == owner then length_of e else 0

-- entries that weigh so much tile the stream, from its start to there
pub record IsTiled (i : Identity) (start tail : ℕ) (weighs : (Entry → ℕ) → ℕ) : Type 0 where
  -- the entries in the order of the stream
  pub log : List Entry
  pub tiles : Tiles i.geometry.term_length start tail log
  pub fair : (h : Entry → ℕ) → weighs h ≡ total h log

-- what a pass claimed lies in the stream; where it has all parts, that is all
pub record Weighs (v w : Pass) : Type 0 where
  pub number : v.number < 8
  pub low : v.start + claimed_bytes v ≤ max_position (geometry_of v)
  -- each of its claims is an entry of a stream
  pub entries : AllByRecursion IsClaimEntry (entries_of v)
  pub whole : v.right.parts ≡ 1024 → IsTiled v.identity v.start (v.start + claimed_bytes v) (λ h. weight h v)
  -- each frame of its claims is committed, or open
  pub parted : (h : Extent → ℕ) → weight (in_entry h) v ≡ committed_weight (λ f. h (extent_of f)) v + total (λ f. h (extent_of f)) v.work.drafts
  -- none of its numbers is there twice
  pub single : (n : ℕ) → numbers_as n v ≤ 1
  -- where it has all parts, its consumers know no frame but such as it has committed
  pub known : v.right.parts ≡ 1024 → AllByRecursion (λ f. Among f v.work.frames) (all_known v.reading)
  pub same : w ≡ v
