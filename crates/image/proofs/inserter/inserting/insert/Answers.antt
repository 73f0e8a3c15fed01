use lib.IntN.{nat_abs}
use mir.Syntax.{w64}
use mir.Val.{to_z, of_z}
use Rattle.std.proofs.Common.{◌≡◌, ◌+◌, ℕ, max, map, sym, ap, ◌∙◌, subst, arith, rules}
use Rattle.std.proofs.lemmas.Int.{to_z-of_z}
use Rattle.theory.specs.Insert.{head_of, insert_answer_at}
use Rattle.theory.specs.Placed.{Placed, covered}
use Rattle.theory.specs.Position.{aligned}
use Rattle.image.specs.declared.answer.Insert.TheVariants as answers
use Rattle.image.specs.Handles.{InserterSeat, floor_of, stored_by}
use Rattle.image.specs.Kinds.{is_pad}
use Rattle.image.specs.Runs.{AreBelow}
use Rattle.image.specs.Stored.{meant, stream_frame}
use Rattle.image.specs.Rebuilding.{FitsIn, Inserting, IsRebuilding, geometry_of, inserting}
use Rattle.image.proofs.Kept.{below_now, kept_now, laid_now, may_store, run_now}
use Rattle.image.proofs.inserter.inserting.insert.Goals as goal
use Rattle.image.proofs.inserter.inserting.insert.Goals.{After-from, After-store_frame}

mark : (high start size part top covered : ℕ) → top ≡ max high (start + part) → part ≡ size → size ≡ covered → top ≡ max high (start + covered)
mark high start size part top covered a b c = a ∙ ap (λ x. max high (start + x)) (b ∙ c)

-- the frame, where it comes
abbrev coming : (c : After-from) → Placed
coming c = record { at = nat_abs (to_z w64 (of_z w64 c.args.position)); frame = stream_frame c.args.frame.now }

may : (c : After-from) → let n = c.inserter.inside in FitsIn n.words.key.identity.geometry (floor_of n.words) (stored_by n.words) (coming c)
may c =
    let stored : c.judge-answer.result ≡ answers.Stored = search rules in
    let n = c.inserter.inside in let i : Inserting = inserting n.words n.window n.high_water in
    let same : i ≡ c.least.new.inserter = c.inserter.view_is ∙ c.judge-answer.ensures.same in
    let said = ap (λ (v : Inserting). insert_answer_at (geometry_of v) (map head_of v.stored) v.floor v.window (to_z w64 (of_z w64 c.args.position)) (is_pad c.measure-kind.result.0) c.measure-kind.result.1) same ∙ sym c.judge-answer.ensures.answer ∙ ap meant stored in
    let k = c.inserter.invariant in
    may_store (geometry_of i) i.stored i.floor i.window c.args.position _ _ _ (stream_frame c.args.frame.now) k.geometry k.window (to_z-of_z _ c.args.position c.ranges.position) c.requires.unit c.measure-kind.ensures.kind c.measure-kind.ensures.length c.measure-kind.ensures.least said

pub store_frame-requires-clause-may : goal.store_frame-requires-clause-may
store_frame-requires-clause-may c = may c.before

-- the mark that it raises
raised : (c : After-store_frame) (top : ℕ) → top ≡ max c.inserter.inside.high_water (nat_abs (to_z w64 (of_z w64 c.args.position)) + c.from.result) → top ≡ max c.inserter.inside.high_water (nat_abs (to_z w64 (of_z w64 c.args.position)) + covered (coming c.before.before))
raised c top is = mark c.inserter.inside.high_water (nat_abs (to_z w64 (of_z w64 c.args.position))) c.align32.result c.from.result top (covered (coming c.before.before)) is c.from.ensures (c.align32.ensures ∙ ap aligned c.measure-kind.ensures.length)

pub run_end-inserter-inside-requires-clause-laid : goal.run_end-inserter-inside-requires-clause-laid
run_end-inserter-inside-requires-clause-laid c = let n = c.inserter.inside in let d : After-store_frame = c.before.before.before in laid_now n.words d.store_frame.new.inserter n.window n.high_water n.rebuilt (coming d.before.before) c.inserter.invariant (may d.before.before) d.store_frame.ensures.stored

pub run_end-inserter-inside-requires-clause-below : goal.run_end-inserter-inside-requires-clause-below
run_end-inserter-inside-requires-clause-below c =
    let n = c.inserter.inside in let d : After-store_frame = c.before.before.before in
    subst (AreBelow (stored_by d.store_frame.new.inserter)) (sym (raised d c.max-inserter-inside.result c.max-inserter-inside.ensures)) (below_now n.words d.store_frame.new.inserter n.window n.high_water n.rebuilt (coming d.before.before) c.inserter.invariant (may d.before.before) d.store_frame.ensures.stored)

pub run_end-inserter-inside-requires-clause-run : goal.run_end-inserter-inside-requires-clause-run
run_end-inserter-inside-requires-clause-run c = let n = c.inserter.inside in let d : After-store_frame = c.before.before.before in run_now n.words d.store_frame.new.inserter n.window n.high_water n.rebuilt (coming d.before.before) c.inserter.invariant (may d.before.before) d.store_frame.ensures.stored

pub run_end-inserter-inside-requires-clause-near : goal.run_end-inserter-inside-requires-clause-near
run_end-inserter-inside-requires-clause-near c = let d : After-store_frame = c.before.before.before in let m = raised d c.max-inserter-inside.result c.max-inserter-inside.ensures in let fits = may d.before.before in let k = c.inserter.invariant in let same = ap (λ (x : InserterSeat). x.key.identity.geometry.term_length) d.store_frame.ensures.stored.same in let floor = d.store_frame.ensures.stored.floor in omega (arith, m, fits, k, same, floor)

pub run_end-inserter-inside-requires-clause-low : goal.run_end-inserter-inside-requires-clause-low
run_end-inserter-inside-requires-clause-low c = let d : After-store_frame = c.before.before.before in let m = raised d c.max-inserter-inside.result c.max-inserter-inside.ensures in let fits = may d.before.before in let k = c.inserter.invariant in let same = ap (λ (x : InserterSeat). x.key.identity.geometry.term_length) d.store_frame.ensures.stored.same in let floor = d.store_frame.ensures.stored.floor in omega (arith, m, fits, k, same, floor)

pub invariant_of-inserter : goal.invariant_of-inserter
invariant_of-inserter c =
    let n = c.inserter.inside in let d : After-store_frame = c.before.before.before.before.before in let e = c.run_end-inserter-inside in let m = raised d c.max-inserter-inside.result c.max-inserter-inside.ensures in let within = e.ensures.within in
    let k = kept_now n.words d.store_frame.new.inserter n.window n.high_water n.rebuilt (coming d.before.before) c.inserter.invariant (may d.before.before) d.store_frame.ensures.stored e.result e.ensures.end e.ensures.further (omega (arith, m, within)) in
    subst (λ (x : InserterSeat × ℕ). IsRebuilding (inserting x.0 n.window x.1) e.result) (λ j. (sym e.ensures.same j, sym m j)) k
