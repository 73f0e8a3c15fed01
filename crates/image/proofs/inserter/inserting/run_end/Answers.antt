use Rattle.std.proofs.Common.{◌≡◌, ◌+◌, ◌*◌, ◌≤◌, ap, ◌∙◌, subst, arith}
use Rattle.theory.specs.Placed.{Placed, covered, end_of}
use Rattle.theory.specs.Position.{aligned}
use Rattle.theory.proofs.Lists.{all_at}
use Rattle.image.specs.Handles.{stored_by}
use Rattle.image.specs.Runs.{IsRun}
use Rattle.image.proofs.Judged.{full_at}
use Rattle.image.proofs.Runs.{IsFound, found, run_past, run_tops}
use Rattle.image.proofs.inserter.inserting.run_end.Goals as goal
use Rattle.image.proofs.inserter.inserting.run_end.Goals.{In-Some}

there : (c : In-Some) → IsFound (stored_by c.args.words.now) c.loop-end.end c.in-Some.head
there c = let at = c.in-Some.ensures.head in found c.loop-end.words c.args.words.now c.loop-end.end c.in-Some.head c.loop-end.invariant.same at.0 at.1

short : (c : In-Some) → covered (there c).frame ≤ 16777216
short c = let f = there c in all_at (λ (x : Placed). covered x ≤ 16777216) f.frame (stored_by c.args.words.now) c.requires.below.short f.among

pub align32-requires : goal.align32-requires
align32-requires c = let f = there c in let e = f.size in let s = short c in omega arith

pub loop-end-smaller : goal.loop-end-smaller
loop-end-smaller c =
    let f = there c.before.before in let size : c.from-end.result ≡ covered f.frame = c.from-end.ensures ∙ c.align32.ensures ∙ ap aligned f.size in
    let full = full_at (stored_by c.args.words.now) f.frame c.requires.laid f.among in
    omega (arith, c.loop-end-test.true)

pub loop-end-preserved : goal.loop-end-preserved
loop-end-preserved c =
    let f = there c.before.before in let size : c.from-end.result ≡ covered f.frame = c.from-end.ensures ∙ c.align32.ensures ∙ ap aligned f.size in
    let here = f.here in let end : end_of f.frame ≡ c.loop-end.end + c.from-end.result = omega arith in
    let low = all_at (λ (x : Placed). end_of x ≤ c.args.high_water) f.frame (stored_by c.args.words.now) c.requires.below.ends f.among in
    let from = c.loop-end.invariant.from in
    record {
      same = c.head_at.ensures.same ∙ c.loop-end.invariant.same;
      run = subst (IsRun (stored_by c.args.words.now) (32 * c.args.words.now.key.join)) end (run_past (stored_by c.args.words.now) (32 * c.args.words.now.key.join) c.loop-end.end f.frame c.requires.laid c.loop-end.invariant.run f.among f.here);
      from = omega arith;
      within = omega arith;
    }

pub returns-clause-end : goal.returns-clause-end
returns-clause-end c = run_tops (stored_by c.args.words.now) (32 * c.args.words.now.key.join) c.loop-end.end c.args.high_water c.requires.laid c.requires.below c.loop-end-test.false c.loop-end.invariant.run
