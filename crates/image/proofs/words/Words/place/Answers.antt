use Rattle.std.proofs.Common.{rules, ◌≡◌, ◌/◌, ◌%◌, ◌*◌, ◌-◌, ◌^◌, ◌<◌, ◌≤◌, ℕ, refl, ap, sym, ◌∙◌, subst, mod-lt}
use Rattle.image_rule.specs.Frames.{ring}
use Rattle.image.specs.declared.words.Words.{Words}
use Rattle.image.proofs.RingPlaces.{ring_rest}
use Rattle.image.proofs.words.Words.place.Goals as goal

rest : (i : Words) (u : ℕ) → (u / 2 ^ i.shift / 3 * i.units ≤ u) × (u - u / 2 ^ i.shift / 3 * i.units ≡ u % i.units)
rest i u = ring_rest u i.units (2 ^ i.shift) (u / 2 ^ i.shift) i.terms refl

pub overflow_sub-result : goal.overflow_sub-result
overflow_sub-result c = (rest c.args.self.now c.args.unit).0

pub overflow_mul-result : goal.overflow_mul-result
overflow_mul-result c = let less = (rest c.args.self.now c.args.unit).0 in search (rules, less)

pub returns-clause-is : goal.returns-clause-is
returns-clause-is c = let i = c.args.self.now in (rest i c.args.unit).1 ∙ ap (λ (n : ℕ). c.args.unit % n) i.units_is

pub returns-clause-low : goal.returns-clause-low
returns-clause-low c = subst (λ (x : ℕ). x < ring c.args.self.now.key) (sym (returns-clause-is c)) (mod-lt c.args.unit c.args.self.now.is_key.some)
