use Rattle.std.proofs.Common.{rules, ◌≡◌, ℕ, ◌+◌, ◌*◌, ◌%◌, ◌<◌, List, [], ◌∷◌, ◌++◌, length, length-append, ap, sym, ◌∙◌, subst, arith}
use mathlib.Core.Option.{some}
use lib.ListN.{get_elem?}
use Rattle.region.specs.declared.access.Access.{Access}
use Rattle.log_memory.specs.Opening.{IsUnitOf}
use Rattle.log_memory.proofs.Openings.{one_slot_more}
use Rattle.log_memory.proofs.opening.rooms.Goals as goal

pub loop-slot-preserved : goal.loop-slot-preserved
loop-slot-preserved c =
    let i = c.loop-slot.invariant in let n = c.next_slot-access.ensures in let slot : ℕ = c.loop-slot.slot in let slots : List Access = c.loop-slot.slots.items in let access : Access = c.next_slot-access.result.0 in
    let is : c.push.new.self.items ≡ slots ++ access ∷ [] = search rules in (
      ap length is ∙ length-append slots (access ∷ []) ∙ (let l = i.0 in let e : length slots + 1 ≡ slot + 1 = omega arith in e),
      n.left.0 ∙ i.1,
      n.left.1,
      subst (λ (l : List Access). (k : ℕ) → k % 8 ≡ 0 → k < slot + 1 → (g : Access) × (get_elem? l k ≡ some g) × IsUnitOf c.args.memory.identity k g) (sym is)
          (one_slot_more c.args.memory.identity slot slots access i.0 (λ first. subst (λ r. IsUnitOf r slot access) i.1 (n.unit first)) i.3),
    )

pub returns : goal.returns
returns c = let i = c.loop-slot.invariant in let all : c.loop-slot.slot ≡ 8 * c.args.units = search rules in record { long = i.0 ∙ all; room = λ k whole lt. i.3 k whole (subst (λ (n : ℕ). k < n) (sym all) lt) }
