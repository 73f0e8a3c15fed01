use Rattle.std.proofs.Common.{◌≡◌, ℕ, ◌+◌, ◌*◌, ◌-◌, [], sym, refl, ap, ◌∙◌, subst, arith}
use Rattle.atomic_table.specs.Table.{turned}
use Rattle.log_memory.specs.Rights.{IsAnything, IsHalfway, IsRun}
use Rattle.log_memory.specs.Steps.{IsRoomAt}
use Rattle.log_memory.proofs.Rounds.{all_done, first_unit, front, next_unit, none_yet, other_units}
use Rattle.log_memory.proofs.rights.deal_room.Goals as goal

pub loop-dealt-init : goal.loop-dealt-init
loop-dealt-init c = let k = c.args.first in let n = c.args.units in (
  omega arith,
  refl,
  refl,
  refl,
  none_yet IsAnything (IsRoomAt c.args.table.now.key) k (8 * n) [] c.args.seat.now.me.1 c.requires.row,
  subst (λ (x : ℕ × ℕ). IsRun c.args.table.now.key x.0 x.1 c.args.run) (λ i. ((let e : k ≡ k + 8 * 0 = omega arith in e) i, (let e : 32 * n ≡ 32 * (n - 0) = omega arith in e) i)) c.requires.run,
)

pub exchange-old-requires : goal.exchange-old-requires
exchange-old-requires c =
    let i = c.loop-dealt.invariant in let t = c.loop-dealt-test.true in
    let f = front IsAnything (IsRoomAt c.args.table.now.key) c.args.first (8 * c.args.units) (8 * c.loop-dealt.dealt) [] c.loop-dealt.seat.me.1 i.4 (omega arith) in (i.1 ∙ c.requires.seat, (f.0, f.1))

pub loop-dealt-preserved : goal.loop-dealt-preserved
loop-dealt-preserved c =
    let i = c.loop-dealt.invariant in let test = c.loop-dealt-test.true in let t = c.args.table.now.key in let k = c.args.first in let n = c.args.units in let d : ℕ = c.loop-dealt.dealt in
    let x = c.exchange-old.ensures in let u = c.turn.ensures in let v = c.pass_seven.ensures in let cut = c.split_at-unit.ensures in let p = c.requires.place in
    let unit : IsRun t (k + 8 * d) 32 c.of_write.result.write = subst (IsRun t (k + 8 * d) 32) (sym (c.of_write.ensures.0 ∙ cut.front)) (first_unit t (k + 8 * d) (n - d) c.loop-dealt.rest i.5 (omega arith)) in
    let others : IsRun t (k + 8 * d + 8) (32 * (n - d - 1)) c.split_at-unit.result.1 = subst (IsRun t (k + 8 * d + 8) (32 * (n - d - 1))) (sym cut.back) (other_units t (k + 8 * d) (n - d) c.loop-dealt.rest i.5 (omega arith)) in
    let room : IsRoomAt t (k + 8 * d) c.of_write.result = λ _. record { identity = unit.identity; at = unit.at; zeros = unit.zeros } in
    let row = next_unit IsAnything (IsRoomAt t) k (8 * n) (8 * d) [] c.loop-dealt.seat.me.1 c.of_write.result i.4 (omega arith) room (λ j a lo hi _ whole. absurd (omega arith)) in (
      omega arith,
      v.same.0 ∙ u.0 ∙ x.0 ∙ i.1,
      v.same.1 ∙ u.1 ∙ x.1 ∙ i.2,
      ap (λ m. m.0) v.turned ∙ ap (λ m. m.0) u.2 ∙ ap (λ m. m.0) x.3 ∙ i.3,
      subst (λ (m : ℕ). IsHalfway IsAnything (IsRoomAt t) k (8 * n) m [] c.pass_seven.new.seat.me.1) (let e : 8 * d + 8 ≡ 8 * (d + 1) = omega arith in e)
          (subst (IsHalfway IsAnything (IsRoomAt t) k (8 * n) (8 * d + 8) []) (sym (ap (λ m. m.1) v.turned ∙ ap (λ m. turned (turned (turned (turned (turned (turned (turned m.1))))))) u.2 ∙ ap (λ m. turned (turned (turned (turned (turned (turned (turned (turned m.1)))))))) x.3)) row),
      subst (λ (z : ℕ × ℕ). IsRun t z.0 z.1 c.split_at-unit.result.1) (λ j. ((let e : k + 8 * d + 8 ≡ k + 8 * (d + 1) = omega arith in e) j, (let e : 32 * (n - d - 1) ≡ 32 * (n - (d + 1)) = omega arith in e) j)) others,
    )

pub returns-clause-row : goal.returns-clause-row
returns-clause-row c = let i = c.loop-dealt.invariant in let f = c.loop-dealt-test.false in let t = c.args.table.now.key in
    all_done IsAnything (IsRoomAt t) c.args.first (8 * c.args.units) c.loop-dealt.seat.me.1 (subst (λ (m : ℕ). IsHalfway IsAnything (IsRoomAt t) c.args.first (8 * c.args.units) (8 * m) [] c.loop-dealt.seat.me.1) (let a = i.0 in let e : c.loop-dealt.dealt ≡ c.args.units = omega arith in e) i.4)
