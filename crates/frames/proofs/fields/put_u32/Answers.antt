use Rattle.std.specs.Int.{w32, to_le_bytes}
use Rattle.frames.proofs.Puts.{put_rest}
use Rattle.frames.proofs.fields.put_u32.Goals as goal

pub returns : goal.returns
returns c = put_rest c.args.bytes.now (to_le_bytes w32 c.args.value) c.write_u32.new.buf c.args.place c.requires c.write_u32.ensures
