-- A publisher that claims under another number keeps the rule.
use Rattle.std.proofs.Common.{zero-le, ◌≡◌, ℕ, ◌+◌, ◌<◌, List, [], ◌∷◌, ◌++◌, set, sym, refl, suc-ne-zero, arith}
use mathlib.Core.Option.{some}
use lib.ListN.{get_elem?}
use Rattle.publication.specs.declared.pass.Pass.{Pass}
use Rattle.log_rule.specs.Claims.Rule.{Bounds, armed_on, weight}
use Rattle.log_rule.specs.Claims.Memory.{Ruled}
use Rattle.log_rule.specs.Claims.Plays.{newcomer}
use Rattle.log_rule.proofs.Claimed.Accounts.{none_armed}
use Rattle.log_rule.proofs.Claimed.Begun.{plus_none, split_ruled}

pub numbered : (b : Bounds) (ws : List ℕ) (ps : List Pass) → Ruled b ws ps → (id : ℕ) (p : Pass) → get_elem? ps id ≡ some p → (n : ℕ) → n < 8 → Ruled b ws (set ps id (record p { number = n }) ++ newcomer b.identity b.start 0 0 ∷ [])
numbered b ws ps r id p at n low =
    let l : Pass = record p { number = n } in let q : Pass = newcomer b.identity b.start 0 0 in let k = r.claims.each id p at in let m = r.memory.each id p at in let from = r.claims.tailed.turns.from in
    split_ruled b ws ps r id p l q at (λ h. plus_none (weight h p)) (plus_none p.right.parts) (plus_none p.right.armed)
    (λ j. let c = none_armed j q refl in none (armed_on j p) (armed_on j q) c)
    record { identity = k.identity; start = k.start; number = low; right = k.right; entries = k.entries; seen = k.seen }
    record { identity = refl; start = refl; number = omega arith; right = record { capped = omega arith; able = omega arith; once = omega arith; idle = λ z. refl }; entries = tt; seen = record { count = (omega arith, from); term = (omega arith, from); full = λ i e. absurd (suc-ne-zero i (sym e)); begun = from; shown = zero-le } }
    record { stands = m.stands; placed = m.placed; aligned = m.aligned; done = m.done; undone = m.undone; kept = m.kept }
    record { stands = tt; placed = λ h. refl; aligned = tt; done = tt; undone = tt; kept = tt }
  where
    none : (a c : ℕ) → c ≡ 0 → a + c ≡ a
    none a c e = omega arith
