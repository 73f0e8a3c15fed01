use Rattle.std.proofs.Common.{◌≡◌, ℕ, ◌+◌, ◌*◌, [], sym, subst, arith}
use Rattle.atomic_table.specs.Table.{Allows}
use Rattle.log_rule.specs.Claims.Sure.{LearnsControls}
use Rattle.log_rule.specs.Keepings.{Joins, keeping}
use Rattle.log_rule.specs.Claims.Packs.{consumer_place}
use Rattle.log_memory.specs.declared.view.Site.{Site}
use Rattle.log_memory.specs.Kinds.{Begins}
use Rattle.log_memory.specs.Steps.{Mine}
use Rattle.log_memory.specs.Rule.{LogMemoryRuled}
use Rattle.log_memory.proofs.HeadPlaces.{at_any}
use Rattle.log_memory.proofs.Kept.{steps_keep}
use Rattle.log_memory.proofs.keeper.begin.Goals as goal

pub store-requires : goal.store-requires
store-requires g c =
    let t : Site = c.args.table.now.key in let id = c.args.seat.now.id in let m : Mine = c.args.seat.now.me in let slots = c.args.table.now.table_id.slots in let number : ℕ = c.args.number in let low = c.requires.may.inside in let p : ℕ = c.args.position in let k : ℕ = g.N.Seated.place in (
      c.requires.seat.of,
      (let w = c.requires.seat.words in omega arith),
      subst (λ (x : ℕ × ℕ). Allows (LogMemoryRuled t) slots id m x.0 (λ _. p) (λ _ w. Begins x.1 k m p w)) (λ j. ((let e : consumer_place number ≡ 80 + 16 * number = omega arith in e) j, sym c.requires.chosen j))
          (at_any t slots id m (consumer_place number) p (λ _. p) (λ a b. keeping (λ v w. LearnsControls [] v w) (λ v w. Joins v number k p w) a b) (steps_keep.join t id number k p m c.requires.may c.requires.idle slots)),
    )

pub returns-clause-told : goal.returns-clause-told
returns-clause-told g c = subst (λ (n : ℕ). Begins n g.N.Seated.place c.args.seat.now.me c.args.position c.store.new.seat.me) c.requires.chosen c.store.ensures.2
