use Rattle.std.proofs.Common.{[], ◌∷◌}
use Rattle.messages.proofs.Parts.{part_then}
use Rattle.messages.proofs.writing.write_message.Goals as goal

pub returns-in_ok-write_bytes-in-Lines-clause-part : goal.returns-in_ok-write_bytes-in-Lines-clause-part
returns-in_ok-write_bytes-in-Lines-clause-part g c =
    rw c.in-Lines.is (part_then c.write_bytes-in-Lines.result _ _ _ c.args.message.now (10 ∷ []) c.in_ok-write_bytes-in-Lines.ensures.done c.write_bytes-in-Lines.ensures.part)
