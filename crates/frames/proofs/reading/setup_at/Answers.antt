use Rattle.std.proofs.Common.{rules, refl, SFits}
use Rattle.std.specs.Int.{w32}
use Rattle.std.proofs.lemmas.Int.{to_z-of_z}
use Rattle.frames.specs.Reading.{setup_fields}
use Rattle.frames.proofs.reading.setup_at.Goals as goal

pub returns : goal.returns
unfolding setup_fields
returns c =
    let a : SFits w32 c.i32_at.result = search rules in
    let b : SFits w32 c.i32_at-2.result = search rules in
    let d : SFits w32 c.i32_at-3.result = search rules in
    let e : SFits w32 c.i32_at-4.result = search rules in
    let f : SFits w32 c.i32_at-5.result = search rules in
    let g : SFits w32 c.i32_at-6.result = search rules in
    let h : SFits w32 c.i32_at-7.result = search rules in
    let k : SFits w32 c.i32_at-8.result = search rules in
    rw (
      to_z-of_z w32 c.i32_at.result a,
      to_z-of_z w32 c.i32_at-2.result b,
      to_z-of_z w32 c.i32_at-3.result d,
      to_z-of_z w32 c.i32_at-4.result e,
      to_z-of_z w32 c.i32_at-5.result f,
      to_z-of_z w32 c.i32_at-6.result g,
      to_z-of_z w32 c.i32_at-7.result h,
      to_z-of_z w32 c.i32_at-8.result k,
      c.i32_at.ensures,
      c.i32_at-2.ensures,
      c.i32_at-3.ensures,
      c.i32_at-4.ensures,
      c.i32_at-5.ensures,
      c.i32_at-6.ensures,
      c.i32_at-7.ensures,
      c.i32_at-8.ensures,
    ) refl
