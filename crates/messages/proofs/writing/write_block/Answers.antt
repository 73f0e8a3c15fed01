use Rattle.std.proofs.Common.{rules}
use Rattle.messages.proofs.Parts.{part_of_first, part_then}
use Rattle.messages.proofs.writing.write_block.Goals as goal

pub returns-in_err-write_bytes-clause-part : goal.returns-in_err-write_bytes-clause-part
returns-in_err-write_bytes-clause-part g c =
    let part = part_of_first _ _ c.to_le_bytes-length.result c.args.message.now c.in_err-write_bytes.ensures.part in
    search rules

pub returns-clause-part : goal.returns-clause-part
returns-clause-part g c =
    let part = part_then c.write_bytes-2.result _ _ _ c.to_le_bytes-length.result c.args.message.now c.in_ok-write_bytes.ensures.done c.write_bytes-2.ensures.part in
    search rules
