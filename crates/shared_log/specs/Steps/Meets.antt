-- What two publishers that meet are told.
use Rattle.std.specs.Prelude.{◌≡◌, ℕ, ◌+◌, ◌*◌, ◌/◌, ◌^◌, ◌<◌, ◌≤◌, ◌⊎◌, List, ◌++◌, max}
use Rattle.atomic_table.specs.Seated.{TableId}
use Rattle.theory.specs.Placed.{Among}
use Rattle.publication.specs.declared.pass.ClaimRange.{ClaimRange}
use Rattle.publication.specs.declared.pass.Controls.{Controls}
use Rattle.publication.specs.declared.pass.Pass.{Pass}
use Rattle.publication.specs.Controls.{with_tail}
use Rattle.publication.specs.Steps.{geometry_of, shown_position, term_of}
use Rattle.shared_log.specs.Steps.Handles.{PublisherValue}
use Rattle.log_memory.specs.Steps.{Mine}
use Rattle.publication.specs.Orders.{claim_end}
use Rattle.log_rule.specs.Claims.Plays.{no_keeping}
use Rattle.log_rule.specs.Meetings.{AreApart, ShowsTail, unnoted, was_shown}
use Rattle.log_rule.specs.Numbers.{numbers_as}

-- the same seat but for its steps, whose pass was shown a position
pub record SeatStays (table : TableId) (id : ℕ) (me : Mine) (table' : TableId) (id' : ℕ) (me' : Mine) (position : ℕ) : Type 0 where
  pub of : table' ≡ table
  pub seat : id' ≡ id
  pub carried : me'.1 ≡ me.1
  pub pass : me'.0.view.pass ≡ was_shown position me.0.view.pass
  pub sure : me'.0.view.sure ≡ me.0.view.sure
  pub part : me'.0.part ≡ me.0.part
  pub room : me'.0.room ≡ me.0.room
  pub parked : me'.0.parked ≡ me.0.parked

-- the raw tail of a partition was loaded, which the seat has noted, and shows this position
pub record Shows (v : Pass) (partition : ℕ) (before after : Controls) (position : ℕ) : Type 0 where
  pub word : ℕ
  pub loaded : word < 2 ^ 64
  pub noted : after ≡ with_tail before partition word
  pub told : ShowsTail v partition word (was_shown position v)
  pub is : position ≡ shown_position (geometry_of v) word

-- the greatest position that the three raw tails show, each of which was loaded and noted
pub record IsGreatestShown (v : Pass) (before after : Controls) (position : ℕ) : Type 0 where
  pub zeroth : ℕ
  pub first : ℕ
  pub second : ℕ
  pub loaded : (zeroth < 2 ^ 64) × (first < 2 ^ 64) × (second < 2 ^ 64)
  pub noted : after ≡ with_tail (with_tail (with_tail before 0 zeroth) 1 first) 2 second
  pub is : position ≡ max (max (shown_position (geometry_of v) zeroth) (shown_position (geometry_of v) first)) (shown_position (geometry_of v) second)

-- neither is armed, both have parts, and the second isn't the keeper
pub record MayMeet (v w : Pass) : Type 0 where
  pub unarmed : (v.right.armed ≡ 0) × (w.right.armed ≡ 0)
  pub parts : (0 < v.right.parts) × (0 < w.right.parts)
  pub plain : w.keeping ≡ no_keeping

-- and what it tells of a pass
pub record SeesTails (v : Pass) (before after : Controls) (position : ℕ) : Type 0 where
  pub greatest : IsGreatestShown v before after position
  pub claims : (c : ClaimRange) → Among c v.right.claims → claim_end c ≤ position
  pub terms : (k : ℕ) → v.start / term_of v ≤ k → k ≤ max v.seen.count v.seen.begun → k * term_of v ≤ position
  pub shown : v.seen.shown ≤ position
  pub single : (n : ℕ) → numbers_as n v ≤ 1
  pub apart : (front behind : List ClaimRange) → v.right.claims ≡ front ++ behind → (c d : ClaimRange) → Among c front → Among d behind → AreApart c d

-- a publisher that comes back is as it was, but for its steps, and remembers the answer
pub record IsBack (p q : PublisherValue) (position : ℕ) : Type 0 where
  pub of : q.of ≡ p.of
  pub pass : q.pass ≡ was_shown position p.pass
  pub sure : q.sure ≡ 0
  pub freed : q.freed ≡ p.freed

-- the terms that a pass has seen begin there or below, and no word has shown it a position above
abbrev pub SawBelow : Pass → ℕ → Type 0
SawBelow v position = (v.seen.count * term_of v ≤ position) × (v.seen.begun * term_of v ≤ position) × (v.seen.shown ≤ position)

pub record Meets (one other one' other' : PublisherValue) (position : ℕ) : Type 0 where
  pub one_is : IsBack one one' position
  pub other_is : IsBack other other' position
  pub seat : one'.seat ≡ one.seat
  -- one load of its own, and one of each raw tail; the other comes back on a new seat
  pub steps : (one'.steps ≡ one.steps + 4) × (other'.steps ≡ 0)
  -- what they have claimed is apart
  pub apart : (c d : ClaimRange) → Among c one.pass.right.claims → Among d other.pass.right.claims → AreApart c d
  -- no number is one of both
  pub numbers : (n : ℕ) → numbers_as n one.pass + numbers_as n other.pass ≤ 1
  -- the seat comes back with the three raw tails noted, none of which was noted when they met
  pub greatest : IsGreatestShown one.pass unnoted one'.controls position
  -- nothing that either has claimed passes it
  pub claims : (c : ClaimRange) → Among c one.pass.right.claims ⊎ Among c other.pass.right.claims → claim_end c ≤ position
  pub seen : SawBelow one.pass position × SawBelow other.pass position

-- a publisher that was shown as much as another, or more
abbrev pub SawAsMuch : PublisherValue → PublisherValue → Type 0
SawAsMuch p q = q.pass.seen.shown ≤ p.pass.seen.shown

-- where one that came back from a meet meets again, with whomever and whatever it did between, the answer is no smaller
abbrev pub NeverFalls : Type 0
NeverFalls = (one other one' other' : PublisherValue) (position : ℕ) → Meets one other one' other' position
    → (again third again' third' : PublisherValue) (later : ℕ) → Meets again third again' third' later
    → (SawAsMuch again one' ⊎ SawAsMuch third one') ⊎ (SawAsMuch again other' ⊎ SawAsMuch third other') → position ≤ later
