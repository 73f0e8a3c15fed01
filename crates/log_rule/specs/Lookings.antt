-- Each kind of step of a consumer or of the keeper is a look: it changes neither what is claimed nor what is committed.
use Rattle.std.specs.Prelude.{◌≡◌, ℕ, ◌+◌, ◌*◌, ◌^◌, ◌<◌, map, slice_index, slice_set}
use mathlib.Core.Option.{some}
use lib.ListN.{get_elem?}
use Rattle.atomic_table.specs.Table.{State}
use Rattle.publication.specs.declared.pass.Pass.{Pass}
use Rattle.publication.specs.declared.pass.Reading.{Reading}
use Rattle.log_rule.specs.declared.claims.view.View.{View}
use Rattle.log_rule.specs.declared.rule.Key.{Key}
use Rattle.log_rule.specs.Claims.Events.{IsLook}
use Rattle.log_rule.specs.Claims.Packs.{consumer_place, limit_place, slot}
use Rattle.log_rule.specs.Claims.Plays.{pass_in}
use Rattle.log_rule.specs.Kept.{IsThere}
use Rattle.log_rule.specs.Keepings.{CleansWord, Joins, Leaves, MayClean, MayJoin, MayLeave, MayRaise, Raises, SeesConsumer}
use Rattle.log_rule.specs.Readings.{Consumes, IsConsumer, Looks, MayPass, Rereads}
use Rattle.log_rule.specs.Table.{LogRuled}

-- a step on the word i, whatever stands, keeps the rule, tells this of its pass, and is a look
abbrev pub Looking : Key → ℕ → View → ℕ → (ℕ → ℕ) → (ℕ → Pass → Type 0) → Type 0
Looking key id v i f told = (s : State (Unit {0}) View) → LogRuled key s → get_elem? s.views id ≡ some v → slice_index s.words i < 2 ^ 64
    → (w : View) × LogRuled key (record { words = slice_set s.words i (f (slice_index s.words i)); homes = s.homes; views = slice_set s.views id w }) × told (slice_index s.words i) w.pass × IsLook (map pass_in s.views) (map pass_in (slice_set s.views id w))

-- the five kinds, of which the first is a word where a consumer stands, or one of a frame that it knows; and a consumer's position is stored by itself, or by the keeper when it joins and when it leaves
pub record OthersAreLooks : Type 0 where
  pub load_here : (key : Key) (id : ℕ) (v : View) (place : ℕ) (r : Reading) → IsConsumer v.pass place r → r.number < 8 → Looking key id v (slot key.identity.geometry r.position) (λ n. n) (λ n w. Looks v.pass place n w)
  pub load_word : (key : Key) (id : ℕ) (v : View) (place : ℕ) (r : Reading) (p i : ℕ) → IsConsumer v.pass place r → r.number < 8 → Looking key id v (slot key.identity.geometry (p + 8 * i)) (λ n. n) (λ n w. Rereads v.pass place p i n w)
  -- the consumer goes past one committed frame
  pub move : (key : Key) (id : ℕ) (v : View) (place : ℕ) (r : Reading) (end : ℕ) → IsConsumer v.pass place r → r.number < 8 → MayPass v.pass place end → Looking key id v (consumer_place r.number) (λ _. end) (λ _ w. Consumes v.pass place end w)
  pub load_consumer : (key : Key) (id : ℕ) (v : View) (j : ℕ) → v.pass.keeping.right ≡ 1 → IsThere v.pass.keeping.there j → Looking key id v (consumer_place j) (λ n. n) (λ n w. SeesConsumer v.pass j n w)
  -- a number that nobody has is a consumer's from then on, at a position where the keeper saw one that is there
  pub join : (key : Key) (id : ℕ) (v : View) (number place n : ℕ) → MayJoin v.pass number n → Looking key id v (consumer_place number) (λ _. n) (λ _ w. Joins v.pass number place n w)
  -- a consumer of the keeper's own pass leaves, where another one is there
  pub leave : (key : Key) (id : ℕ) (v : View) (place number : ℕ) → MayLeave v.pass place number → Looking key id v (consumer_place number) (λ _. 0) (λ _ w. Leaves v.pass place number w)
  -- the next word is cleaned, a term or more below the least consumer that was read
  pub clean : (key : Key) (id : ℕ) (v : View) → MayClean v.pass → Looking key id v (slot key.identity.geometry v.pass.keeping.cleaned) (λ _. 0) (λ _ w. CleansWord v.pass w)
  -- the limit doesn't fall, and where it rises, what may be claimed then is clean
  pub limit : (key : Key) (id : ℕ) (v : View) (word : ℕ) → MayRaise v.pass word → 0 < v.pass.right.parts → Looking key id v limit_place (λ _. word) (λ _ w. Raises v.pass word w)
