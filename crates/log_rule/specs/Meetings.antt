-- Two passes that meet: what each is told before, what both are together, and what the raw tails show them.
use Rattle.std.specs.Prelude.{◌≡◌, ℕ, suc, ◌-◌, ◌*◌, ◌/◌, ◌%◌, ◌^◌, ◌<◌, ◌≤◌, ◌⊎◌, List, [], ◌∷◌, ◌++◌, map, max}
use Rattle.std.specs.List.{flat_map}
use Rattle.theory.specs.Placed.{Among}
use Rattle.publication.specs.declared.pass.ClaimRange.{ClaimRange}
use Rattle.publication.specs.declared.pass.Controls.{Controls}
use Rattle.publication.specs.declared.pass.Pass.{Pass}
use Rattle.publication.specs.Controls.{with_tail}
use Rattle.publication.specs.Orders.{claim_end}
use Rattle.publication.specs.Steps.{Extent, extent_of, frames_of, geometry_of, ranges_of, shown_position, term_of}
use Rattle.log_rule.specs.declared.claims.view.View.{View}
use Rattle.log_rule.specs.Claims.Sums.{total}
use Rattle.log_rule.specs.Claims.Plays.{Mine}
use Rattle.log_rule.specs.Claims.Closing.{both}
use Rattle.log_rule.specs.Numbers.{Owns, numbers_as}
use Rattle.log_rule.specs.Readings.{reading}
use Rattle.log_rule.specs.Table.{dealing, new_seat}

-- what is true of a pass for good
pub record Steady (v : Pass) : Type 0 where
  pub number : v.number < 8
  pub count : v.start / term_of v ≤ v.seen.count
  pub term : v.start / term_of v ≤ v.seen.term
  pub full : (k : ℕ) → v.seen.full ≡ suc k → v.start / term_of v ≤ k
  pub placed : (h : Extent → ℕ) → total h (flat_map ranges_of v.right.claims) ≡ total h (map extent_of (frames_of v))
  pub owns : Owns v

pub record Steadies (v w : Pass) : Type 0 where
  pub steady : Steady v
  pub same : w ≡ v

-- ---- together

-- one has what both have, and what both have seen of the terms
abbrev pub meeting : Pass → Pass → Pass
meeting v w = record (both v w) {
  right = record (both v w).right { limit = max v.right.limit w.right.limit };
  seen = record v.seen { full = max v.seen.full w.seen.full; begun = max v.seen.begun (max w.seen.begun (max w.seen.count w.seen.term)); shown = max v.seen.shown w.seen.shown };
  reading = v.reading ++ w.reading;
}

-- of a seat that has noted no raw tail yet: no word is so great
abbrev pub unnoted : Controls
unnoted = record { limit = 0; count = 0; tails = 2 ^ 64 ∷ 2 ^ 64 ∷ 2 ^ 64 ∷ [] }

abbrev pub meeting_seats : View → View → View
meeting_seats v w = record { pass = meeting v.pass w.pass; steps = v.steps; controls = unnoted; sure = 0 }

-- a position more was shown to it
abbrev pub was_shown : ℕ → Pass → Pass
was_shown n v = record v { seen = record v.seen { shown = max v.seen.shown n } }

-- and each what it had, and was shown what both were
abbrev pub back_left : Pass → View → View
back_left one v = dealing (was_shown v.pass.seen.shown one) v

abbrev pub back_right : Pass → View → View
back_right other v = new_seat (was_shown v.pass.seen.shown other)

-- ---- what the raw tails show

-- the one ends where the other begins, or below
abbrev pub AreApart : ClaimRange → ClaimRange → Type 0
AreApart c d = (claim_end c ≤ d.start) ⊎ (claim_end d ≤ c.start)

-- the raw tail of a partition: what lies in a term of it doesn't pass the position that it shows, which the pass was shown then
pub record ShowsTail (v : Pass) (partition n : ℕ) (w : Pass) : Type 0 where
  pub claims : (c : ClaimRange) → Among c v.right.claims → c.start / term_of v % 3 ≡ partition → claim_end c ≤ shown_position (geometry_of v) n
  pub terms : (k : ℕ) → v.start / term_of v ≤ k → k ≤ max v.seen.count v.seen.begun → k % 3 ≡ partition → k * term_of v ≤ shown_position (geometry_of v) n
  -- nor does a position that the pass was shown before, nor the stream's start
  pub shown : (p : ℕ) → p ≤ v.seen.shown → v.start < p → (p - 1) / term_of v % 3 ≡ partition → p ≤ shown_position (geometry_of v) n
  pub from : v.start / term_of v % 3 ≡ partition → v.start ≤ shown_position (geometry_of v) n
  pub apart : (front behind : List ClaimRange) → v.right.claims ≡ front ++ behind → (c d : ClaimRange) → Among c front → Among d behind → AreApart c d
  -- none of its numbers is there twice
  pub single : (n : ℕ) → numbers_as n v ≤ 1
  pub after : w ≡ was_shown (shown_position (geometry_of v) n) v

-- and the seat notes the word
abbrev pub showing : ℕ → Mine → ℕ → Mine → Type 0
showing partition m n m' = reading (λ v k w. ShowsTail v partition k w) m n m' × (m'.0.controls ≡ with_tail m.0.controls partition n) × (n < 2 ^ 64)
