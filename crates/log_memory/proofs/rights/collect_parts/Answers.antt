use Rattle.std.proofs.Common.{◌≡◌, ℕ, ◌+◌, ◌*◌, ◌-◌, List, [], ◌∷◌, ◌++◌, sym, ap, ◌∙◌, subst, arith}
use Rattle.atomic_table.specs.Table.{rest}
use Rattle.region.specs.declared.access.Access.{Access}
use Rattle.log_memory.specs.Rights.{IsAnything, IsHalfway}
use Rattle.log_memory.specs.Steps.{IsPartAt}
use Rattle.log_memory.proofs.Parts.{here, one_more, one_part, part, row}
use Rattle.log_memory.proofs.Rounds.{all_done, none_yet, turn_rest}
use Rattle.log_memory.proofs.rights.collect_parts.Goals as goal

pub take_slot-whole-requires-clause-here : goal.take_slot-whole-requires-clause-here
take_slot-whole-requires-clause-here c =
    let q = c.requires.row in let p = c.requires.place in let k = c.args.first in let n : ℕ = 8 * c.args.units in let t = c.args.table.now.key in let m = c.args.seat.now.me.1 in
    let f = here t k n q.words q.life q.book 0 m (none_yet (IsPartAt t k q.words q.life q.book) IsAnything k n [] m q.row) (omega arith) in
    (f.0, f.1 ∙ ap (λ (i : ℕ). (i, f.0) ∷ rest m) (let z : k + 0 ≡ k = omega arith in z))

pub loop-taken-init : goal.loop-taken-init
loop-taken-init c =
    let e = c.take_slot-whole.ensures in let t = c.args.table.now.key in let k = c.args.first in let n : ℕ = 8 * c.args.units in let p = c.requires.place in let z : k ≡ k + 0 = omega arith in let m = c.args.seat.now.me.1 in (
      omega arith,
      omega arith,
      e.seat.0,
      e.seat.1,
      e.seat.2,
      λ ws life book r. let h = none_yet (IsPartAt t k ws life book) IsAnything k n [] m r in (
        row t k n ws life book 0 m h (omega arith) c.take_slot-whole.new.seat.me.1 (e.turned.0, e.turned.1 ∙ ap (λ (i : ℕ). rest m ++ (i, e.turned.0) ∷ []) z),
        one_part t k ws life book c.take_slot-whole.result (part t k n ws life book 0 m h (omega arith) c.take_slot-whole.result (e.had ∙ ap (λ (i : ℕ). (i, c.take_slot-whole.result) ∷ rest m) z) (omega arith)),
      ),
    )

pub take_slot-requires-clause-here : goal.take_slot-requires-clause-here
take_slot-requires-clause-here c =
    let q = c.requires.row in let p = c.requires.place in let test = c.loop-taken-test.true in let i = c.loop-taken.invariant in
    here c.args.table.now.key c.args.first (8 * c.args.units) q.words q.life q.book c.loop-taken.taken c.loop-taken.seat.me.1 (i.5 q.words q.life q.book q.row).0 (omega arith)

pub join-whole-requires-clause-round : goal.join-whole-requires-clause-round
join-whole-requires-clause-round c =
    let q = c.requires.row in let p = c.requires.place in let test = c.loop-taken-test.true in let i = c.loop-taken.invariant in let w = i.5 q.words q.life q.book q.row in
    let g = part c.args.table.now.key c.args.first (8 * c.args.units) q.words q.life q.book c.loop-taken.taken c.loop-taken.seat.me.1 w.0 (omega arith) c.take_slot.result c.take_slot.ensures.had test in
    let e = g.round ∙ sym w.1.round in (ap (λ r. r.life) e, ap (λ r. r.book) e)

pub join-whole-requires-clause-parts : goal.join-whole-requires-clause-parts
join-whole-requires-clause-parts c =
    let q = c.requires.row in let p = c.requires.place in let test = c.loop-taken-test.true in let i = c.loop-taken.invariant in let w = i.5 q.words q.life q.book q.row in
    let g = part c.args.table.now.key c.args.first (8 * c.args.units) q.words q.life q.book c.loop-taken.taken c.loop-taken.seat.me.1 w.0 (omega arith) c.take_slot.result c.take_slot.ensures.had test in
    let a = w.1.count in let b = g.count in let some = i.0 in (omega arith, omega arith)

pub loop-taken-preserved : goal.loop-taken-preserved
loop-taken-preserved c =
    let i = c.loop-taken.invariant in let test = c.loop-taken-test.true in let p = c.requires.place in let e = c.take_slot.ensures in let t = c.args.table.now.key in let k = c.args.first in let n : ℕ = 8 * c.args.units in let d : ℕ = c.loop-taken.taken in let m = c.loop-taken.seat.me.1 in (
      omega arith,
      omega arith,
      e.seat.0 ∙ i.2,
      e.seat.1 ∙ i.3,
      e.seat.2 ∙ i.4,
      λ ws life book r. let h = i.5 ws life book r in (
        row t k n ws life book d m h.0 (omega arith) c.take_slot.new.seat.me.1 e.turned,
        one_more t k ws life book d c.loop-taken.whole c.join-whole.result c.take_slot.result h.1 (part t k n ws life book d m h.0 (omega arith) c.take_slot.result e.had test) c.join-whole.ensures,
      ),
    )

pub returns-clause-row : goal.returns-clause-row
returns-clause-row c =
    let i = c.loop-taken.invariant in let f = c.loop-taken-test.false in let p = c.requires.place in let q = c.requires.row in let k = c.args.first in let n : ℕ = 8 * c.args.units in let is = IsPartAt c.args.table.now.key k q.words q.life q.book in
    let eight : c.loop-taken.taken ≡ 8 = (let a = i.1 in omega arith) in
    let h : IsHalfway is IsAnything k n 8 [] c.loop-taken.seat.me.1 = subst (λ (d : ℕ). IsHalfway is IsAnything k n d [] c.loop-taken.seat.me.1) eight (i.5 q.words q.life q.book q.row).0 in
    let after = turn_rest is IsAnything k n 8 (n - 8) [] c.loop-taken.seat.me.1 h (omega arith) (λ j g le a. tt) in
    all_done is IsAnything k n c.pass_slots.new.seat.me.1 (subst (λ (x : ℕ × List (ℕ × Access)). IsHalfway is IsAnything k n x.0 [] x.1) (λ j. ((let z : 8 + (n - 8) ≡ n = omega arith in z) j, sym (ap (λ m. m.1) c.pass_slots.ensures.turned) j)) after)
