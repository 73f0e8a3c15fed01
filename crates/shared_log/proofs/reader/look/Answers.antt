use Rattle.std.proofs.Common.{◌≡◌, length, ◌+◌, ◌^◌, ◌<◌, ℕ, ap, refl, sym, ◌∙◌, subst, arith}
use Rattle.theory.specs.Position.{IsGeometry}
use Rattle.position.specs.declared.head.FrameHead.{FrameHead}
use Rattle.std.specs.Int.{w64, to_le_bytes}
use Rattle.position.specs.Contents.{head_by}
use Rattle.log_memory.specs.declared.reader.Consumer.{Consumer}
use Rattle.log_rule.specs.Readings.{Looks}
use Rattle.shared_log.specs.Steps.Readers.{CopiesKnown, part_bytes}
use Rattle.shared_log.specs.Readers.{Finds, FindsPart, IsReading, ReaderValue, ReadsNone}
use Rattle.shared_log.proofs.Finding.{finds_none, finds_part, finds_seen, found_reading, looked_by, low_end, short_head}
use Rattle.shared_log.proofs.Holding.{looked_rest, reader_kept}
use Rattle.shared_log.proofs.Looking.{looked_still}
use Rattle.shared_log.proofs.reader.look.Goals as goal

pub returns-then-word-eq0-clause-none : goal.returns-then-word-eq0-clause-none
returns-then-word-eq0-clause-none c =
    let r : ReaderValue = c.args.reader.now in let k = looked_by _ r c.look-word.new.pass c.consumer-consumer.result c.look-word.result c.reader.view_is c.consumer-consumer.ensures c.look-word.ensures.seat c.look-word.ensures.told in
    let is : IsReading r.held.pass r.place r.number r.position r.read_to = subst (λ (x : ReaderValue). IsReading x.held.pass x.place x.number x.position x.read_to) c.reader.view_is c.reader.invariant.reading in
    subst (λ (x : ReaderValue). ReadsNone r c.args.bytes.now (record x { held = c.look-word.new.pass }) c.look-word.new.bytes) (sym c.reader.view_is) record {
      finds = finds_none r (record r { held = c.look-word.new.pass }) c.look-word.result is k.0 k.1 refl c.if-word-eq0.true;
      untouched = c.look-word.ensures.none c.if-word-eq0.true;
    }

pub invariant_of-reader : goal.invariant_of-reader
invariant_of-reader c =
    let is = c.reader.invariant.reading in
    let told : Looks c.reader.inside.handle.pass.pass c.reader.inside.place c.look-word.result c.look-word.new.pass.pass = subst (λ (x : ℕ). Looks c.reader.inside.handle.pass.pass x c.look-word.result c.look-word.new.pass.pass) (ap (λ (x : Consumer). x.place) c.consumer-consumer.ensures ∙ sym (ap (λ (r : ReaderValue). r.place) c.reader.view_is)) c.look-word.ensures.told in
    reader_kept c.reader.invariant c.look-word.ensures.seat (looked_rest _ _ _ _ _ _ c.look-word.result is told) (looked_still _ _ _ _ _ _ c.look-word.result is told)

pub align32-requires : goal.align32-requires
align32-requires c =
    let g : IsGeometry c.args.log.now.identity.geometry = c.identity.ensures.legal in
    let k = looked_by _ c.args.reader.now c.look-word.new.pass c.consumer-consumer.result c.look-word.result c.reader.view_is c.consumer-consumer.ensures c.look-word.ensures.seat c.look-word.ensures.told in
    short_head c.args.log.now.identity.geometry c.head_in-head.result g
    (finds_seen c.args.log.now _ c.args.reader.now c.look-word.new.pass c.look-word.result _ c.head_in-head.result c.reader.view_is g c.requires.fits c.reader.invariant.reading k.0 k.1 c.if-word-eq0.false c.head_in-head.ensures refl).legal

pub overflow_add-reader : goal.overflow_add-reader
overflow_add-reader c =
    let g : IsGeometry c.args.log.now.identity.geometry = c.identity.ensures.legal in
    let k = looked_by _ c.args.reader.now c.look-word.new.pass c.consumer-consumer.result c.look-word.result c.reader.view_is c.consumer-consumer.ensures c.look-word.ensures.seat c.look-word.ensures.told in
    let low : c.reader.inside.position + c.from.result < 2 ^ 56 = low_end c.args.log.now.identity.geometry c.head_in-head.result c.reader.inside.position c.from.result g
    (finds_seen c.args.log.now _ c.args.reader.now c.look-word.new.pass c.look-word.result _ c.head_in-head.result c.reader.view_is g c.requires.fits c.reader.invariant.reading k.0 k.1 c.if-word-eq0.false c.head_in-head.ensures refl).legal
    (sym (ap (λ (h : FrameHead). h.start) c.head_in-head.ensures)) (c.from.ensures ∙ c.align32.ensures) in omega arith

pub returns-clause-found : goal.returns-clause-found
returns-clause-found c =
    let l = c.args.log.now in let r : ReaderValue = c.args.reader.now in let w = c.look-word.new.pass in let n : ℕ = c.look-word.result in let head : FrameHead = c.head_in-head.result in let end : ℕ = c.reader.inside.position + c.from.result in let room : ℕ = length c.args.bytes.now in
    let k = looked_by _ r w c.consumer-consumer.result n c.reader.view_is c.consumer-consumer.ensures c.look-word.ensures.seat c.look-word.ensures.told in
    let is : IsReading r.held.pass r.place r.number r.position r.read_to = subst (λ (x : ReaderValue). IsReading x.held.pass x.place x.number x.position x.read_to) c.reader.view_is c.reader.invariant.reading in
    let found : Finds l r head (record r { held = w; read_to = end }) =
    finds_seen l _ r w n end head c.reader.view_is c.identity.ensures.legal c.requires.fits c.reader.invariant.reading k.0 k.1 c.if-word-eq0.false c.head_in-head.ensures (ap (λ (m : ℕ). c.reader.inside.position + m) (c.from.ensures ∙ c.align32.ensures)) in
    let same : part_bytes (head_by r.position (to_le_bytes w64 n)) room ≡ part_bytes head room = ap (λ (h : FrameHead). part_bytes h room) (ap (λ (x : ReaderValue). head_by x.position (to_le_bytes w64 n)) (sym c.reader.view_is) ∙ sym c.head_in-head.ensures) in
    let copied = subst (λ (x : Consumer). CopiesKnown w.pass x (part_bytes (head_by x.position (to_le_bytes w64 n)) room) c.args.bytes.now c.look-word.new.bytes) c.consumer-consumer.ensures (c.look-word.ensures.copied (more n c.if-word-eq0.false)) in
    subst (λ (x : ReaderValue). FindsPart l r head c.args.bytes.now (record x { held = w; read_to = end }) c.look-word.new.bytes) (sym c.reader.view_is)
    (finds_part l r (record r { held = w }) head (part_bytes (head_by r.position (to_le_bytes w64 n)) room) end c.args.bytes.now c.look-word.new.bytes found (looked_still r.held.pass w.pass r.place r.number r.position r.read_to n is k.1) same refl copied)
  where
    more : (n : ℕ) → (n ≡ 0 → ⊥) → 0 < n
    more n non = omega (arith, non)

pub invariant_of-reader-2 : goal.invariant_of-reader-2
invariant_of-reader-2 c =
    let is = c.reader.invariant.reading in let l = c.args.log.now in let r : ReaderValue = c.args.reader.now in let w = c.look-word.new.pass in let n : ℕ = c.look-word.result in let head : FrameHead = c.head_in-head.result in let end : ℕ = c.reader.inside.position + c.from.result in
    let told : Looks c.reader.inside.handle.pass.pass c.reader.inside.place n w.pass = subst (λ (x : ℕ). Looks c.reader.inside.handle.pass.pass x n w.pass) (ap (λ (x : Consumer). x.place) c.consumer-consumer.ensures ∙ sym (ap (λ (x : ReaderValue). x.place) c.reader.view_is)) c.look-word.ensures.told in
    let k = looked_by _ r w c.consumer-consumer.result n c.reader.view_is c.consumer-consumer.ensures c.look-word.ensures.seat c.look-word.ensures.told in
    let found : Finds l r head (record r { held = w; read_to = end }) =
    finds_seen l _ r w n end head c.reader.view_is c.identity.ensures.legal c.requires.fits is k.0 k.1 c.if-word-eq0.false c.head_in-head.ensures (ap (λ (m : ℕ). c.reader.inside.position + m) (c.from.ensures ∙ c.align32.ensures)) in
    let still : IsReading w.pass c.reader.inside.place c.reader.inside.number c.reader.inside.position c.reader.inside.read_to = looked_still _ _ _ _ _ _ n is told in
    let reading : IsReading w.pass c.reader.inside.place c.reader.inside.number c.reader.inside.position end = found_reading l r head (record { held = w; place = c.reader.inside.place; number = c.reader.inside.number; position = c.reader.inside.position; read_to = end }) c.reader.inside.read_to c.from.result still c.requires.fits (subst (λ (x : ReaderValue). Finds l r head (record x { held = w; read_to = end })) (sym c.reader.view_is) found) (ap (λ (x : ReaderValue). x.position + c.from.result) c.reader.view_is) (c.from.ensures ∙ c.align32.ensures) in
    reader_kept c.reader.invariant c.look-word.ensures.seat (looked_rest _ _ _ _ _ _ n is told) reading
