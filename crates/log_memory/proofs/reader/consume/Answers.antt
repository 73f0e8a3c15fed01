use Rattle.std.proofs.Common.{◌≡◌, ℕ, ◌+◌, ◌*◌, ◌<◌, subst, arith}
use Rattle.atomic_table.specs.Table.{Allows}
use Rattle.log_rule.specs.Readings.{Consumes, reading}
use Rattle.log_rule.specs.Claims.Packs.{consumer_place}
use Rattle.log_memory.specs.declared.view.Site.{Site}
use Rattle.log_memory.specs.Kinds.{StoresPosition}
use Rattle.log_memory.specs.Steps.{Mine}
use Rattle.log_memory.specs.Rule.{LogMemoryRuled}
use Rattle.log_memory.proofs.HeadPlaces.{at_any}
use Rattle.log_memory.proofs.Kept.{steps_keep}
use Rattle.log_memory.proofs.reader.consume.Goals as goal

pub store-requires : goal.store-requires
store-requires g c =
    let t : Site = c.args.memory.now.table.shared.key in let id = c.args.seat.now.id in let m : Mine = c.args.seat.now.me in let slots = c.args.memory.now.table.shared.table_id.slots in let k : ℕ = g.N.Chosen.number in let who = c.requires.consumer in let end : ℕ = c.args.end in let number : ℕ = c.args.consumer.now.number in let low = c.requires.low in let is = who.number_is in (
      c.requires.seat.of,
      (let w = c.requires.seat.words in omega arith),
      subst (λ (i : ℕ). Allows (LogMemoryRuled t) slots id m i (λ _. end) (λ _ w. StoresPosition k m end w)) (let e : consumer_place who.consumer.number ≡ 80 + 16 * number = omega arith in e)
          (at_any t slots id m (consumer_place who.consumer.number) end (λ _. end) (λ a b. reading (λ v k' w. Consumes v k end w) a 0 b) (steps_keep.move t id k who.consumer end m who.is c.requires.may (let q : who.consumer.number < 8 = omega arith in q) c.requires.idle slots)),
    )
