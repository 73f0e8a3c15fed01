-- What a hand holds beside its log, and what it shows.
use Rattle.std.specs.Prelude.{◌≡◌, ℕ, ◌≤◌, Bool, List, Option, None, Some, length, slice_index, slice_index_or}
use Rattle.shared_log.specs.Steps.Handles.{LogValue, PublisherValue}
use Rattle.log_rule.specs.Claims.Closing.{no_identity}
use Rattle.log_rule.specs.Claims.Plays.{newcomer}
use Rattle.log_rule.specs.Claims.Sure.{no_controls}
use Rattle.shared_log.specs.Keepers.{KnowsWho}
use Rattle.one_hand.specs.Stream.{Stream}
use Rattle.one_hand.specs.declared.log_hand.held.Held.{Held}
use Rattle.one_hand.specs.Shown.{consumers_of, kept, shares_of, stream_of}
use Rattle.one_hand.specs.Hands.{IsInHand, stream_in}

-- the shares, the readers' positions, the limit word, how far is cleaned, which consumers are there, and the length of the block
pub record Numbers : Type 0 where
  pub shares : List ℕ
  pub positions : List ℕ
  pub limit : ℕ
  pub cleaned : ℕ
  pub there : List Bool
  pub block : ℕ

-- they are those of the pass that has all
pub record AreNumbers (l : LogValue) (p : PublisherValue) (n : Numbers) : Type 0 where
  pub shares : n.shares ≡ shares_of p.pass.right.claims
  pub places : length n.positions ≡ 8
  pub positions : (k at : ℕ) → slice_index_or (consumers_of p.pass) k None ≡ Some at → slice_index n.positions k ≡ at
  pub limit : n.limit ≡ p.pass.keeping.limit
  pub cleaned : n.cleaned ≡ p.pass.keeping.cleaned
  pub knows : KnowsWho p.pass n.there
  pub block : l.identity.geometry.mtu ≤ n.block

pub record Stands (l : LogValue) (p : PublisherValue) (held : List (Option Held)) (n : Numbers) : Type 0 where
  pub hand : IsInHand l p held
  pub numbers : AreNumbers l p n

-- between two calls the pass is there
abbrev pub IsHand : LogValue → Option PublisherValue → List (Option Held) → Numbers → Type 0
IsHand l None held n = ⊥
IsHand l (Some p) held n = Stands l p held n

abbrev pub stream_at : Option PublisherValue → List (Option Held) → Stream
stream_at None held = kept (stream_of (newcomer no_identity 0 0 0) no_controls held)
stream_at (Some p) held = stream_in p held
