use Rattle.std.proofs.Common.{◌-◌, ◌++◌, ap, ◌∙◌, of_z, drop, take, length}
use Rattle.std.specs.Int.{w32, to_le_bytes}
use Rattle.std.proofs.lemmas.Int.{to_z-of_z}
use Rattle.theory.specs.Wire.{le32}
use Rattle.frames.proofs.Puts.{put_rest}
use Rattle.frames.proofs.fields.put_i32.Goals as goal

pub returns : goal.returns
returns c =
    let rest = drop 4 (take (length c.args.bytes.now - c.args.place) (drop c.args.place c.args.bytes.now)) in
    put_rest c.args.bytes.now (le32 c.args.value) c.write_i32.new.buf c.args.place c.requires (c.write_i32.ensures ∙ ap (λ z. to_le_bytes w32 (of_z w32 z) ++ rest) (to_z-of_z w32 c.args.value c.ranges.value))
