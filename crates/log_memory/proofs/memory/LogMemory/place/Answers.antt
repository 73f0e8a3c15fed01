use Rattle.std.proofs.Common.{rules, ◌≡◌, ◌/◌, ◌%◌, ◌*◌, ◌-◌, ◌^◌, ◌<◌, ◌≤◌, ℕ, refl, ap, sym, ◌∙◌, subst, mod-lt, arith}
use Rattle.std.proofs.lemmas.Nat.{pow_pos}
use Rattle.log_memory.specs.Rule.{ring}
use Rattle.log_memory.specs.declared.memory.LogMemory.{LogMemory}
use Rattle.log_memory.proofs.UnitPlaces.{ring_rest}
use Rattle.log_memory.proofs.memory.LogMemory.place.Goals as goal

rest : (i : LogMemory) (u : ℕ) → (u / 2 ^ i.shift / 3 * i.units ≤ u) × (u - u / 2 ^ i.shift / 3 * i.units ≡ u % i.units)
rest i u = ring_rest u i.units (2 ^ i.shift) (u / 2 ^ i.shift) i.terms refl

some : (i : LogMemory) → 0 < i.units
some i = let p = pow_pos i.shift in let e = i.terms in let n : ℕ = 2 ^ i.shift in omega arith

pub overflow_sub-result : goal.overflow_sub-result
overflow_sub-result c = (rest c.args.self.now (c.args.position / 32)).0

pub overflow_mul-result : goal.overflow_mul-result
overflow_mul-result c = let less = (rest c.args.self.now (c.args.position / 32)).0 in search (rules, less)

pub returns-clause-is : goal.returns-clause-is
returns-clause-is c = let i = c.args.self.now in (rest i (c.args.position / 32)).1 ∙ ap (λ (n : ℕ). c.args.position / 32 % n) i.units_is

pub returns-clause-low : goal.returns-clause-low
returns-clause-low c = let i = c.args.self.now in subst (λ (x : ℕ). x < ring i.table.shared.key) (sym (returns-clause-is c)) (mod-lt (c.args.position / 32) (subst (λ (n : ℕ). 0 < n) i.units_is (some i)))
