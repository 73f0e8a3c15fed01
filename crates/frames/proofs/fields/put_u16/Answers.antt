use Rattle.std.specs.Int.{w16, to_le_bytes}
use Rattle.frames.proofs.Puts.{put_rest}
use Rattle.frames.proofs.fields.put_u16.Goals as goal

pub returns : goal.returns
returns c = put_rest c.args.bytes.now (to_le_bytes w16 c.args.value) c.write_u16.new.buf c.args.place c.requires c.write_u16.ensures
