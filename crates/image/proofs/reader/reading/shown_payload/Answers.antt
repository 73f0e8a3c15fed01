use Rattle.std.proofs.Common.{◌∙◌, ap, drop}
use Rattle.std.proofs.lemmas.List.{take_rest}
use Rattle.image.proofs.Finds.{payload_here}
use Rattle.image.proofs.reader.reading.shown_payload.Goals as goal

pub returns : goal.returns
returns g c =
    let whole = c.bytes.result.now in
    take_rest whole 32 ∙ payload_here g.N.Picked.frame c.args.count c.args.part.now.items (drop 32 whole) c.requires.says c.requires.part.spells c.requires.count (ap (drop 32) c.bytes.ensures)
