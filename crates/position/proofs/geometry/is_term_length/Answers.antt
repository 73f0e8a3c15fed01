use Rattle.std.proofs.Common.{◌≡◌, ◌≤◌, arith, subst, rules}
use Rattle.std.specs.Int.{IsPowerOfTwo}
use Rattle.position.proofs.Numbers.{same_power}
use Rattle.position.proofs.geometry.is_term_length.Goals as goal

pub returns-then-contains : goal.returns-then-contains
returns-then-contains c =
    let least : 65536 ≤ c.args.length = search rules in
    let greatest : c.args.length ≤ 16777216 = search rules in (
      λ h. let same : c.next_power_of_two.result ≡ c.args.length = grind (arith, h) in record { power = subst IsPowerOfTwo same c.next_power_of_two.ensures.power; least = least; greatest = greatest },
      λ h. let same : c.next_power_of_two.result ≡ c.args.length = same_power c.next_power_of_two.result c.args.length c.next_power_of_two.ensures.power h.power c.next_power_of_two.ensures.lower_bound (omega arith) in search (rules, same),
    )
