use Rattle.std.proofs.Common.{◌≡◌, ℕ, List, [], refl, sym, ◌∙◌, subst}
use Rattle.image_rule.specs.declared.view.Site.{Site}
use Rattle.image_rule.specs.declared.view.View.{View}
use Rattle.image_rule.specs.Frames.{frame_said}
use Rattle.image_rule.specs.Reads.{first_of}
use Rattle.image_rule.specs.Steps.{FindsPart}
use Rattle.theory.specs.Placed.{payload_of}
use Rattle.image.specs.Handles.{ImageId, ReaderSeat}
use Rattle.image.specs.Reading.{ReadsNone, ShowsFrame}
use Rattle.image.proofs.Finds.{looked_none, looked_some, shows_frame}
use Rattle.image.proofs.Here.{finds_frame, finds_nothing}
use Rattle.image.proofs.reader.reading.read_with.Goals as goal

pub returns-then-word-reader-eq0-clause-none : goal.returns-then-word-reader-eq0-clause-none
returns-then-word-reader-eq0-clause-none g c =
    let i = c.image.inside.words in let s = c.reader.inside.standing in let w = c.look_as-word.new.reader in let t : Site = i.table.shared.key in
    let told = c.look_as-word.ensures.told in
    let none = looked_none t s.seat.me w.seat.me w.unit c.look_as-word.result told (c.look_as-word.ensures.same.0 ∙ s.unit_is) c.if-word-reader-eq0.true in
    let r : ReaderSeat = record { of = record { table = s.seat.table_id; region = s.region; units = s.units }; view = s.seat.me.0; read_to = s.read_to } in
    let q : ReaderSeat = record { of = record { table = w.seat.table_id; region = w.region; units = w.units }; view = w.seat.me.0; read_to = w.read_to } in
    let rests : q.read_to ≡ r.view.reading.unit = c.look_as-word.ensures.same.2 ∙ s.unit_is in
    let reads : ReadsNone r [] q [] = record {
      finds = record { none = none.2; after = none.0 };
      same = (λ j. record { of = record { table = c.look_as-word.ensures.fits j; region = c.look_as-word.ensures.ring.1 j; units = c.look_as-word.ensures.ring.0 j }; view = q.view; read_to = rests j });
      untouched = refl;
    } in
    (finds_nothing c.args.reader.now q [] [] (subst (λ (x : ReaderSeat). ReadsNone x [] q []) c.reader.view_is reads), refl)

pub returns-clause-found : goal.returns-clause-found
returns-clause-found g c =
    let i = c.image.inside.words in let s = c.reader.inside.standing in let w = c.look_as-word.new.reader in let z = c.read_held.new.reader in let t : Site = i.table.shared.key in
    let told = c.look_as-word.ensures.told in let at : w.unit ≡ s.seat.me.0.reading.unit = c.look_as-word.ensures.same.0 ∙ s.unit_is in
    let found : FindsPart t s.seat.me w.seat.me = looked_some t s.seat.me w.seat.me w.unit c.look_as-word.result told at c.if-word-reader-eq0.false in
    let of : ImageId = record { table = s.seat.table_id; region = s.region; units = s.units } in
    let of' : ImageId = record { table = z.seat.table_id; region = z.region; units = z.units } in
    let e = c.read_held.ensures in let l = c.look_as-word.ensures in
    let same : of' ≡ of = (λ j. record { table = (e.fits ∙ l.fits) j; region = (e.same.2 ∙ l.ring.1) j; units = (e.same.1 ∙ l.ring.0) j }) in
    let r : ReaderSeat = record { of = of; view = s.seat.me.0; read_to = s.read_to } in
    let q : ReaderSeat = record { of = of'; view = z.seat.me.0; read_to = z.read_to } in
    let payload : List ℕ = payload_of (frame_said (first_of w.seat.me.0.reading.known).bytes) in
    let shows : ShowsFrame r c.read_held.result payload (record { of = of'; view = w.seat.me.0; read_to = z.read_to }) =
    shows_frame t s.seat.me w.seat.me found of of' s.read_to z.read_to w.unit c.read_held.result same at e.ends e.head in (
      payload,
      finds_frame c.args.reader.now q c.read_held.result payload
          (subst (λ (x : ReaderSeat × View). ShowsFrame x.0 c.read_held.result payload (record { of = of'; view = x.1; read_to = z.read_to })) (λ j. (c.reader.view_is j, sym e.same.0 j)) shows),
      e.handed,
    )
