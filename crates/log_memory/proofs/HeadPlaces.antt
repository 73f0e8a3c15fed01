-- A frame's word is one of the table's; and what steps tell, by the forms that calls have.
use Rattle.std.proofs.Common.{◌≡◌, ℕ, ◌+◌, ◌/◌, ◌%◌, ◌<◌, arith}
use Rattle.atomic_table.specs.Table.{Allows}
use Rattle.publication.specs.declared.pass.Reading.{Reading}
use Rattle.log_rule.specs.Readings.{IsConsumer}
use Rattle.log_memory.specs.declared.view.Site.{Site}
use Rattle.log_memory.specs.Kinds.{LooksHere}
use Rattle.log_memory.specs.Places.{head_place}
use Rattle.log_memory.specs.Rule.{LogMemoryRuled, ring}
use Rattle.log_rule.specs.Claims.Plays as words
use Rattle.log_memory.specs.Steps.{IsIdle, Mine, Rests}
use Rattle.log_memory.proofs.Kept.{steps_keep}

pub head_low : (n p place words : ℕ) → place ≡ head_place n p → words ≡ 208 + n → 0 < n → place < words
head_low n p place words e w some = low (p / 32) n place words e w some
  where
    low : (u n place words : ℕ) → place ≡ 208 + u % n → words ≡ 208 + n → 0 < n → place < words
    low u n place words e w some = omega arith

-- what a consumer that looks is told, with which one it is
pub looks_here : (t : Site) (id place : ℕ) (r : Reading) (m : Mine) → IsConsumer m.0.view.pass place r → r.number < 8 → IsIdle m.0 → (slots : ℕ) → Allows (LogMemoryRuled t) slots id m (head_place (ring t) r.position) (λ n. n) (LooksHere t place r m)
looks_here t id place r m is low idle slots s rule long at small = let g = steps_keep.look t id place r m is low idle slots s rule long at small in (g.0, g.1, g.2, g.3, (is, g.4))

-- what a store tells, whatever word was there
pub at_any : (t : Site) (slots id : ℕ) (m : Mine) (i k : ℕ) (f : ℕ → ℕ) (then : words.Mine → words.Mine → Type 0) → Allows (LogMemoryRuled t) slots id m i f (λ n w. Rests (λ a _ c. then a c) m n w) → Allows (LogMemoryRuled t) slots id m i f (λ _ w. Rests (λ a _ c. then a c) m k w)
at_any t slots id m i k f then go s rule long at small = let g = go s rule long at small in (g.0, g.1, g.2, g.3, record { carried = g.4.carried; part = g.4.part; room = g.4.room; parked = g.4.parked; told = g.4.told })
