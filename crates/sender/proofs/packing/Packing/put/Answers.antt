use Rattle.std.proofs.Common.{◌∙◌, ℕ, ◌+◌, ◌*◌, ◌/◌, ap, refl, arith}
use Rattle.std.proofs.lemmas.Bool.{false≢true}
use Rattle.theory.specs.Position.{Geometry}
use Rattle.theory.specs.Wire.{spelling}
use Rattle.sender.proofs.PackingLemmas.{another_has_room, has_no_place, last_has_room, puts_behind, puts_joined, size_shown, some_term}
use Rattle.sender.proofs.packing.Packing.put.Goals as goal

pub extend-requires-clause-fits : goal.extend-requires-clause-fits
extend-requires-clause-fits c =
    let g = c.args.identity.now.geometry in
    let size = size_shown g c.args.head.now c.args.block.now c.requires.head.long c.requires.head.short c.requires.room in
    last_has_room c.args.identity.now c.args.self.now c.args.outbox.now c.args.head.now c.args.block.now _ c.requires.packs (c.if-fits.ensures.0 refl) size (ap spelling c.frame_of-frame.ensures.frame)

pub push-requires-clause-room : goal.push-requires-clause-room
push-requires-clause-room c = another_has_room c.args.identity.now c.args.self.now c.args.outbox.now c.requires.packs (omega arith)

pub overflow_add-self : goal.overflow_add-self
overflow_add-self c =
    let most = c.geometry-geometry.ensures.legal.mtu.greatest in
    let may = c.if-fits.ensures.0 refl in
    omega (arith, most, ap (λ (x : Geometry). x.mtu) c.geometry-geometry.ensures.value, may.size, c.wire_size.ensures)

pub returns-then-fits : goal.returns-then-fits
returns-then-fits c =
    let head = c.args.head.now in
    let g = c.args.identity.now.geometry in
    let size = size_shown g head c.args.block.now c.requires.head.long c.requires.head.short c.requires.room in
    puts_joined c.args.identity.now c.args.self.now _ c.args.outbox.now c.extend.new.self head c.args.block.now _ (some_term g head c.requires.head) size (c.if-fits.ensures.0 refl)
    (ap spelling c.frame_of-frame.ensures.frame) c.extend.ensures refl refl (ap (λ (n : ℕ). c.args.self.now.size + n) c.wire_size.ensures) (c.is_data-self.ensures c.args.block.now)

pub returns-then-self-eq0 : goal.returns-then-self-eq0
returns-then-self-eq0 c =
    let size = size_shown c.args.identity.now.geometry c.args.head.now c.args.block.now c.requires.head.long c.requires.head.short c.requires.room in
    has_no_place c.args.identity.now c.args.self.now c.args.outbox.now c.args.head.now c.args.block.now size (λ may. false≢true (c.if-fits.ensures.1 may)) (omega arith)

pub returns : goal.returns
returns c =
    let head = c.args.head.now in
    let size = size_shown c.args.identity.now.geometry head c.args.block.now c.requires.head.long c.requires.head.short c.requires.room in
    puts_behind c.args.identity.now c.args.self.now _ c.args.outbox.now c.push.new.self head c.args.block.now _ size (λ may. false≢true (c.if-fits.ensures.1 may)) (omega arith) c.frame_of-frame.ensures.short
    (ap spelling c.frame_of-frame.ensures.frame) c.push.ensures refl (c.term_start.ensures.value ∙ ap (λ (x : Geometry). head.start / x.term_length * x.term_length) c.geometry-geometry.ensures.value) c.wire_size-2.ensures (c.is_data.ensures c.args.block.now)
