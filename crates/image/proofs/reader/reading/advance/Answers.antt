use Rattle.std.proofs.Common.{◌≡◌, sym, ap, ◌∙◌, subst, arith}
use Rattle.image.specs.Handles.{ImageId, ImageWords, ReaderSeat}
use Rattle.image.specs.Reading.{MayAdvance}
use Rattle.image.proofs.SeatSteps.{may_move}
use Rattle.image.proofs.reader.reading.advance.Goals as goal

pub move_as-requires-clause-may : goal.move_as-requires-clause-may
move_as-requires-clause-may c =
    let i = c.image.inside.words in let s = c.reader.inside.standing in
    let id : ImageId = record { table = i.table.shared.table_id; region = i.table.shared.key.region; units = i.units } in
    let of : record { table = s.seat.table_id; region = s.region; units = s.units } ≡ id = ap (λ (x : ReaderSeat). x.of) c.reader.view_is ∙ c.requires.fits.of ∙ sym (ap (λ (x : ImageWords). x.of) c.image.view_is) in
    may_move i.table.shared.key i.key s.units s.region s.seat.me s.read_to i.is_of (ap (λ (x : ImageId). x.units) of ∙ i.units_is) (ap (λ (x : ImageId). x.region) of) s.reads s.carries (s.read (let read = subst MayAdvance (sym c.reader.view_is) c.requires.read in omega (arith, read, s.unit_is)))
