use Rattle.std.proofs.Common.{◌-◌, ◌++◌, ap, ◌∙◌, of_z, drop, take, length}
use Rattle.std.specs.Int.{w64, to_le_bytes}
use Rattle.std.proofs.lemmas.Int.{to_z-of_z}
use Rattle.theory.specs.Wire.{le64}
use Rattle.frames.proofs.Puts.{put_rest}
use Rattle.frames.proofs.fields.put_i64.Goals as goal

pub returns : goal.returns
returns c =
    let rest = drop 8 (take (length c.args.bytes.now - c.args.place) (drop c.args.place c.args.bytes.now)) in
    put_rest c.args.bytes.now (le64 c.args.value) c.write_i64.new.buf c.args.place c.requires (c.write_i64.ensures ∙ ap (λ z. to_le_bytes w64 (of_z w64 z) ++ rest) (to_z-of_z w64 c.args.value c.ranges.value))
