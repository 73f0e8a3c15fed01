-- What the keeper's calls of the pass that has all come to.
use Rattle.std.specs.Prelude.{◌≡◌, ℕ, Bool, List}
use Rattle.theory.specs.Refusal.{limit_in}
use Rattle.shared_log.specs.Steps.Handles.{IsOf, LogValue, PublisherValue}
use Rattle.log_rule.specs.Keepings.{with_keeping}
use Rattle.shared_log.specs.Joining.{Begins, Ends}
use Rattle.shared_log.specs.Keepers.{CleansAndLimits, IsKeeping, KeeperValue, KnowsWho}

-- the pass is the keeper, which knows the limit word, how far is cleaned, and which consumers are there
pub record MayKeep (l : LogValue) (p : PublisherValue) (limit cleaned : ℕ) (there : List Bool) : Type 0 where
  pub of : IsOf l p
  pub is : IsKeeping p.pass limit cleaned
  pub knows : KnowsWho p.pass there

-- the limit word is this one then
pub record SetsLimit (p : PublisherValue) (word cleaned : ℕ) (q : PublisherValue) (answer : ℕ) : Type 0 where
  pub of : q.of ≡ p.of
  pub pass : q.pass ≡ with_keeping p.pass (record p.pass.keeping { limit = word })
  pub sure : q.sure ≡ p.sure
  pub controls : p.sure ≡ 1 → q.controls ≡ record p.controls { limit = word }
  pub answer_is : answer ≡ word

abbrev pub keeper_of : PublisherValue → ℕ → ℕ → KeeperValue
keeper_of p limit cleaned = record { held = p; limit = limit; cleaned = cleaned }

-- all was cleaned that may be, and the limit raised
pub record Cleans (l : LogValue) (p : PublisherValue) (limit cleaned : ℕ) (q : PublisherValue) (word low answer : ℕ) : Type 0 where
  pub keeper : KeeperValue
  pub cleans : CleansAndLimits l (keeper_of p limit cleaned) keeper
  pub seat : keeper.held ≡ q
  pub word_is : word ≡ keeper.limit
  pub low_is : low ≡ keeper.cleaned
  pub answer_is : answer ≡ limit_in keeper.limit

-- a consumer with this number began, at this place among those of the pass
pub record BeginsAt (l : LogValue) (p : PublisherValue) (limit cleaned number place : ℕ) (q : PublisherValue) (position : ℕ) : Type 0 where
  pub keeper : KeeperValue
  pub begins : Begins l (keeper_of p limit cleaned) number place position keeper
  pub seat : keeper.held ≡ q

-- the one at this place is none any more
pub record EndsAt (p : PublisherValue) (limit cleaned number place : ℕ) (q : PublisherValue) : Type 0 where
  pub keeper : KeeperValue
  pub ends : Ends (keeper_of p limit cleaned) place number keeper
  pub seat : keeper.held ≡ q
