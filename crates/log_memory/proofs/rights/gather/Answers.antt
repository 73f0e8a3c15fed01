use Rattle.std.proofs.Common.{◌≡◌, ℕ, ◌+◌, ◌*◌, length, sym, ap, ◌∙◌, subst, arith}
use Rattle.std.proofs.lemmas.List.{length-replicate}
use Rattle.log_memory.specs.Rights.{IsAnything, IsHalfway, IsRun}
use Rattle.log_memory.specs.Steps.{Carries, IsRoomAt}
use Rattle.log_memory.proofs.Rounds.{in_front, longer_run, none_yet}
use Rattle.log_memory.proofs.rights.gather.Goals as goal

pub take_unit-run-requires-clause-row : goal.take_unit-run-requires-clause-row
take_unit-run-requires-clause-row g c = none_yet (IsRoomAt c.args.table.now.key) IsAnything c.args.first (8 * c.args.units) g.N.Rowed.behind c.args.seat.now.me.1 c.requires.row

pub loop-taken-init : goal.loop-taken-init
loop-taken-init g c = let e = c.take_unit-run.ensures in let p = c.requires.place in (omega arith, omega arith, e.seat.0, e.seat.1, e.seat.2, e.row, subst (λ (k : ℕ). IsRun c.args.table.now.key k 32 c.take_unit-run.result) (let z : c.args.first + 0 ≡ c.args.first = omega arith in z) e.run)

pub take_unit-requires-clause-seat : goal.take_unit-requires-clause-seat
take_unit-requires-clause-seat g c = c.loop-taken.invariant.2 ∙ c.requires.seat

pub take_unit-requires-clause-row : goal.take_unit-requires-clause-row
take_unit-requires-clause-row g c = c.loop-taken.invariant.5

pub append-run-requires : goal.append-run-requires
append-run-requires g c = let i = c.loop-taken.invariant in let e = c.take_unit.ensures in let l : length c.loop-taken.run.items ≡ 32 * c.loop-taken.taken = ap length i.6.zeros ∙ length-replicate (32 * c.loop-taken.taken) 0 in let a = i.6.at in let b = e.run.at in (e.run.identity ∙ sym i.6.identity, omega arith)

pub loop-taken-preserved : goal.loop-taken-preserved
loop-taken-preserved g c =
    let i = c.loop-taken.invariant in let e = c.take_unit.ensures in let t = c.args.table.now.key in let n : ℕ = c.loop-taken.taken in (
      omega arith,
      (let z = c.loop-taken-test.true in omega arith),
      e.seat.0 ∙ i.2,
      e.seat.1 ∙ i.3,
      e.seat.2 ∙ i.4,
      subst (λ (m : ℕ). IsHalfway (IsRoomAt t) IsAnything c.args.first (8 * c.args.units) m g.N.Rowed.behind c.take_unit.new.seat.me.1) (let z : 8 * n + 8 ≡ 8 * (n + 1) = omega arith in z) e.row,
      subst (IsRun t c.args.first (32 * (n + 1))) (sym c.append-run.ensures) (longer_run t c.args.first n c.loop-taken.run c.take_unit.result i.6 e.run),
    )

pub returns-clause-seat : goal.returns-clause-seat
returns-clause-seat g c = let i = c.loop-taken.invariant in let e = c.pass_chosen.ensures in (e.0 ∙ i.2, e.1 ∙ i.3, ap (λ m. m.0) e.2 ∙ i.4)

pub returns-clause-row : goal.returns-clause-row
returns-clause-row g c =
    let i = c.loop-taken.invariant in let is = IsRoomAt c.args.table.now.key in let n : ℕ = 8 * c.args.units in
    let all : IsHalfway is IsAnything c.args.first n n g.N.Rowed.behind c.loop-taken.seat.me.1 = subst (λ (m : ℕ). IsHalfway is IsAnything c.args.first n (8 * m) g.N.Rowed.behind c.loop-taken.seat.me.1) (let f = c.loop-taken-test.false in let a = i.1 in let z : c.loop-taken.taken ≡ c.args.units = omega arith in z) i.5 in
    subst (Carries IsAnything c.args.first n g.N.Rowed.behind) (sym (ap (λ m. m.1) c.pass_chosen.ensures.2)) (in_front is IsAnything c.args.first n g.N.Rowed.behind c.loop-taken.seat.me.1 all)

pub returns-clause-run : goal.returns-clause-run
returns-clause-run g c = let i = c.loop-taken.invariant in subst (λ (n : ℕ). IsRun c.args.table.now.key c.args.first (32 * n) c.loop-taken.run) (let f = c.loop-taken-test.false in let a = i.1 in let z : c.loop-taken.taken ≡ c.args.units = omega arith in z) i.6
