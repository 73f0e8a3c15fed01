use Rattle.std.proofs.Common.{◌≡◌, ℕ, ◌+◌, ◌-◌, ◌*◌, ◌≤◌, List, ◌∷◌, drop, length, length-drop, take, sym, ap, ◌∙◌, arith}
use Rattle.atomic_table.specs.Table.{rest}
use Rattle.std.proofs.lemmas.List.{drop-take, length-take-le}
use Rattle.region.specs.Identity.{start_address}
use Rattle.region.specs.declared.access.Access.{Access}
use Rattle.region.specs.declared.region.Region.{Region}
use Rattle.log_memory.specs.Frames.{HasPartAt}
use Rattle.log_memory.specs.Places.{slot_of}
use Rattle.log_memory.specs.Rule.{IsPart, ring}
use Rattle.log_memory.specs.Steps.{Mine}
use Rattle.log_memory.specs.declared.view.Site.{Site}
use Rattle.log_memory.proofs.Frees.{bytes_long, part_is, slot_is, take_all}
use Rattle.log_memory.proofs.frames.copy_part.Goals as goal

pub exchange-write-requires : goal.exchange-write-requires
exchange-write-requires c =
    let q = c.requires.part in let p = q.part in let key = c.args.memory.now.table.shared.key in
    (c.requires.seat, (p.access, p.there ∙ ap (λ (k : ℕ). (k, p.access) ∷ rest c.args.seat.now.me.1) (sym (slot_is (ring key) c.args.start q.frame.start c.args.number c.slot.result c.slot.ensures.is (sym q.here)))))

pub exchange-none-requires : goal.exchange-none-requires
exchange-none-requires c =
    let x = c.exchange-write.ensures in
    (x.0 ∙ c.requires.seat, (c.none.result, ap (λ (m : Mine). m.1) x.3 ∙ ap (λ (l : List (ℕ × Access)). (c.slot.result + c.args.number, c.none.result) ∷ l) (sym (ap (λ (m : Mine). rest m.1) x.3))))

-- the slot has the part
its_part : (t : Site) (start number room first : ℕ) (mine : List (ℕ × Access)) (a : Access) → first ≡ slot_of (ring t) start 0 → (q : HasPartAt t start number room mine) → mine ≡ (first + number, a) ∷ rest mine
    → IsPart t (slot_of (ring t) q.frame.start 0) q.frame.words q.part.round q.part.book a
its_part t start number room first mine a e q had = part_is t q.frame number (first + number) mine a (slot_is (ring t) start q.frame.start number first e (sym q.here)) had q.part

-- and shows as much as is copied
shows : (t : Site) (start number room first : ℕ) (mine : List (ℕ × Access)) (a : Access) → first ≡ slot_of (ring t) start 0 → (q : HasPartAt t start number room mine) → mine ≡ (first + number, a) ∷ rest mine → 32 + room ≤ length a.read.items
shows t start number room first mine a e q had =
    let long : length a.read.items ≡ 8 * length q.frame.words = ap length (its_part t start number room first mine a e q had).items ∙ bytes_long q.frame.words in let inside = q.inside in omega arith

pub bytes-bytes-requires-clause-some : goal.bytes-bytes-requires-clause-some
bytes-bytes-requires-clause-some c = let n = (its_part c.args.memory.now.table.shared.key c.args.start c.args.number (length c.args.into.now) c.slot.result c.args.seat.now.me.1 c.exchange-write.result c.slot.ensures.is c.requires.part c.exchange-write.ensures.2).count in omega arith

pub bytes-bytes-requires-clause-region : goal.bytes-bytes-requires-clause-region
bytes-bytes-requires-clause-region c = (its_part c.args.memory.now.table.shared.key c.args.start c.args.number (length c.args.into.now) c.slot.result c.args.seat.now.me.1 c.exchange-write.result c.slot.ensures.is c.requires.part c.exchange-write.ensures.2).identity ∙ c.args.memory.now.lies ∙ ap (λ (r : Region). r.identity) (sym c.deref.ensures)

pub bytes-bytes-requires-clause-place : goal.bytes-bytes-requires-clause-place
bytes-bytes-requires-clause-place c =
    let i = c.args.memory.now in let is = its_part c.args.memory.now.table.shared.key c.args.start c.args.number (length c.args.into.now) c.slot.result c.args.seat.now.me.1 c.exchange-write.result c.slot.ensures.is c.requires.part c.exchange-write.ensures.2 in
    (i.starts ∙ ap start_address (sym (is.identity ∙ i.lies)), sym (is.at ∙ (ap (λ (p : ℕ). 4 * slot_of (ring i.table.shared.key) p 0) c.requires.part.here ∙ sym c.requires.place)), shows c.args.memory.now.table.shared.key c.args.start c.args.number (length c.args.into.now) c.slot.result c.args.seat.now.me.1 c.exchange-write.result c.slot.ensures.is c.requires.part c.exchange-write.ensures.2)

-- so many bytes were shown
shown : (room : ℕ) (items bytes : List ℕ) → 32 + room ≤ length items → bytes ≡ take (32 + room) items → length bytes ≡ 32 + room
shown room items bytes fits is = ap length is ∙ length-take-le (32 + room) items fits

pub slice_bounds-copy_from_slice-count : goal.slice_bounds-copy_from_slice-count
slice_bounds-copy_from_slice-count c = let e = shown (length c.args.into.now) c.exchange-write.result.read.items c.bytes-bytes.result.now (shows c.args.memory.now.table.shared.key c.args.start c.args.number (length c.args.into.now) c.slot.result c.args.seat.now.me.1 c.exchange-write.result c.slot.ensures.is c.requires.part c.exchange-write.ensures.2) c.bytes-bytes.ensures in omega arith

pub slice_bounds-copy_from_slice-start : goal.slice_bounds-copy_from_slice-start
slice_bounds-copy_from_slice-start c = let e = shown (length c.args.into.now) c.exchange-write.result.read.items c.bytes-bytes.result.now (shows c.args.memory.now.table.shared.key c.args.start c.args.number (length c.args.into.now) c.slot.result c.args.seat.now.me.1 c.exchange-write.result c.slot.ensures.is c.requires.part c.exchange-write.ensures.2) c.bytes-bytes.ensures in omega arith

pub copy_from_slice-requires : goal.copy_from_slice-requires
copy_from_slice-requires c =
    let e = shown (length c.args.into.now) c.exchange-write.result.read.items c.bytes-bytes.result.now (shows c.args.memory.now.table.shared.key c.args.start c.args.number (length c.args.into.now) c.slot.result c.args.seat.now.me.1 c.exchange-write.result c.slot.ensures.is c.requires.part c.exchange-write.ensures.2) c.bytes-bytes.ensures in let behind = length-drop 32 c.bytes-bytes.result.now in omega arith

pub returns-clause-copied : goal.returns-clause-copied
returns-clause-copied c f here has =
    let key = c.args.memory.now.table.shared.key in let slot : ℕ = c.slot.result + c.args.number in
    let is = part_is key f c.args.number slot c.args.seat.now.me.1 c.exchange-write.result (slot_is (ring key) c.args.start f.start c.args.number c.slot.result c.slot.ensures.is (sym here)) c.exchange-write.ensures.2 has in
    c.copy_from_slice.ensures.after ∙ take_all (length c.bytes-bytes.result.now - 32) (drop 32 c.bytes-bytes.result.now) (let rest = length-drop 32 c.bytes-bytes.result.now in let n : ℕ = length (drop 32 c.bytes-bytes.result.now) in omega arith) ∙ ap (drop 32) c.bytes-bytes.ensures ∙ drop-take 32 (length c.args.into.now) c.exchange-write.result.read.items ∙ ap (λ (l : List ℕ). take (length c.args.into.now) (drop 32 l)) is.items
