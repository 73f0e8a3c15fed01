-- The starts that a handler keeps are enough, and a range that is due begins at the first of them that was asked for.
use Rattle.std.specs.Prelude.{◌≡◌, ◌≤◌, ◌<◌, ◌+◌, ◌*◌, ◌/◌, ◌↔◌, ℕ, true, List, map, MatchOption, ℤ}
use Rattle.std.specs.List.{filter}
use Rattle.theory.specs.Position.{Geometry}
use Rattle.theory.specs.Placed.{Placed}
use Rattle.theory.specs.Gap.{Gap}
use Rattle.theory.specs.Resend.{Action, nak_answer, nak_answer_by, resend_range}
use Rattle.sender.specs.Resending.Handler.{is_near, starts_at}
use Rattle.sender.specs.Resending.Spaced.{AreSpaced}

-- what is answered by the starts that are near the sender is what is answered by all frames that were sent
abbrev pub NearAreEnough : Type 0
NearAreEnough = (g : Geometry) (start s : ℕ) (sent : List Placed) (actions : List Action) (position length : ℤ) →
    nak_answer_by g start s (starts_at (filter (is_near g s) (map (λ f. f.at) sent))) actions position length ≡ nak_answer g start s sent actions position length

-- starts that were left out before are left out later
abbrev pub NearStayNear : Type 0
NearStayNear = (g : Geometry) (s t : ℕ) (starts : List ℕ) → s ≤ t → filter (is_near g t) (filter (is_near g s) starts) ≡ filter (is_near g t) starts

-- and the range that is due is the one that all starts give
abbrev pub NearGiveRange : Type 0
NearGiveRange = (g : Geometry) (s : ℕ) (starts : List ℕ) (a : Action) → resend_range g s (filter (is_near g s) starts) a ≡ resend_range g s starts a

-- what starts there is asked for: near enough behind the sender, and in the term in which the asking begins
pub record IsWanted (g : Geometry) (s : ℕ) (a : Action) (p : ℕ) : Type 0 where
  pub from : a.at ≤ p
  pub near : s ≤ p + 3 * g.term_length / 4
  pub within : p < a.at + a.length
  pub behind : p < s
  pub one_term : p < a.at / g.term_length * g.term_length + g.term_length

-- it begins at the first start that is asked for, and from there on has each position that is
pub record IsFirstAsked (g : Geometry) (s : ℕ) (starts : List ℕ) (a : Action) (range : Gap) : Type 0 where
  pub start : starts_at starts range.start ≡ true
  pub asked : IsWanted g s a range.start
  pub first : (p : ℕ) → starts_at starts p ≡ true → IsWanted g s a p → range.start ≤ p
  pub all : (p : ℕ) → range.start ≤ p → (p < range.start + range.length) ↔ IsWanted g s a p

-- there is no range only where no start is asked for
abbrev pub RangeBeginsFirst : Type 0
RangeBeginsFirst = (g : Geometry) (s lower upper : ℕ) (starts : List ℕ) (a : Action) → AreSpaced lower upper starts
    → MatchOption (resend_range g s starts a) ((p : ℕ) → starts_at starts p ≡ true → IsWanted g s a p → ⊥) (IsFirstAsked g s starts a)
