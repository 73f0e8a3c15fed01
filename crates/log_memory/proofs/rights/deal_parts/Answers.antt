use Rattle.std.proofs.Common.{◌≡◌, ℕ, ◌+◌, ◌*◌, ◌-◌, ◌^◌, List, sym, refl, ap, ◌∙◌, subst, arith}
use Rattle.atomic_table.specs.Table.{turned}
use Rattle.region.specs.declared.access.Access.{Access}
use Rattle.region.specs.declared.access.ReadAccess.{ReadAccess}
use Rattle.log_memory.specs.Rights.{IsAnything, IsEighthAt, IsHalfway}
use Rattle.log_memory.specs.Steps.{Carries}
use Rattle.log_memory.proofs.Rounds.{front, in_front, none_yet, turn_rest, turn_with}
use Rattle.log_memory.proofs.rights.deal_parts.Goals as goal

pub loop-dealt-init : goal.loop-dealt-init
loop-dealt-init g c = (omega arith, (λ i. record c.args.whole { count = c.requires.whole i }), refl, refl, refl, none_yet IsAnything (IsEighthAt c.args.first c.args.whole) c.args.first (8 * c.args.units) g.N.Rowed.behind c.args.seat.now.me.1 c.requires.row)

pub exchange-old-requires : goal.exchange-old-requires
exchange-old-requires g c =
    let i = c.loop-dealt.invariant in let t = c.loop-dealt-test.true in let p = c.requires.place in
    let f = front IsAnything (IsEighthAt c.args.first c.args.whole) c.args.first (8 * c.args.units) c.loop-dealt.dealt g.N.Rowed.behind c.loop-dealt.seat.me.1 i.5 (omega arith) in (i.2 ∙ c.requires.seat, (f.0, f.1))

pub loop-dealt-preserved : goal.loop-dealt-preserved
loop-dealt-preserved g c =
    let i = c.loop-dealt.invariant in let t = c.loop-dealt-test.true in let p = c.requires.place in let d : ℕ = c.loop-dealt.dealt in let whole = c.args.whole in let s = c.split-part.ensures in let x = c.exchange-old.ensures in let u = c.turn.ensures in let is = IsEighthAt c.args.first whole in
    let count : c.loop-dealt.rest.count ≡ (8 - d) * 2 ^ 60 = ap (λ (r : ReadAccess). r.count) i.1 in
    let less : c.loop-dealt.rest.count - 2 ^ 60 ≡ (8 - (d + 1)) * 2 ^ 60 = omega arith in
    let part : c.of_read.result.read ≡ record whole { count = 2 ^ 60 } = c.of_read.ensures.0 ∙ s.one ∙ ap (λ (r : ReadAccess). record r { count = 2 ^ 60 }) i.1 in
    let row = turn_with IsAnything is c.args.first (8 * c.args.units) d g.N.Rowed.behind c.loop-dealt.seat.me.1 i.5 (omega arith) c.of_read.result (λ _. part) in (
      omega arith,
      s.rest ∙ (λ j. record (i.1 j) { count = less j }),
      u.0 ∙ x.0 ∙ i.2,
      u.1 ∙ x.1 ∙ i.3,
      ap (λ m. m.0) u.2 ∙ ap (λ m. m.0) x.3 ∙ i.4,
      subst (IsHalfway IsAnything is c.args.first (8 * c.args.units) (d + 1) g.N.Rowed.behind) (sym (ap (λ m. m.1) u.2 ∙ ap (λ m. turned m.1) x.3)) row,
    )

pub returns-clause-row : goal.returns-clause-row
returns-clause-row g c =
    let i = c.loop-dealt.invariant in let t = c.loop-dealt-test.false in let p = c.requires.place in let is = IsEighthAt c.args.first c.args.whole in let n : ℕ = 8 * c.args.units in let before = g.N.Rowed.behind in
    let eight : c.loop-dealt.dealt ≡ 8 = (let a = i.0 in omega arith) in
    let row : IsHalfway IsAnything is c.args.first n 8 before c.loop-dealt.seat.me.1 = subst (λ (d : ℕ). IsHalfway IsAnything is c.args.first n d before c.loop-dealt.seat.me.1) eight i.5 in
    let after = turn_rest IsAnything is c.args.first n 8 (n - 8) before c.loop-dealt.seat.me.1 row (omega arith) (λ j h le a lt. absurd (omega arith)) in
    let all : IsHalfway IsAnything is c.args.first n n before c.pass_slots.new.seat.me.1 = subst (λ (x : ℕ × List (ℕ × Access)). IsHalfway IsAnything is c.args.first n x.0 before x.1) (λ j. ((let e : 8 + (n - 8) ≡ n = omega arith in e) j, sym (ap (λ m. m.1) c.pass_slots.ensures.turned) j)) after in
    subst (Carries is c.args.first n before) (sym (ap (λ m. m.1) c.pass_chosen.ensures.2)) (in_front IsAnything is c.args.first n before c.pass_slots.new.seat.me.1 all)
