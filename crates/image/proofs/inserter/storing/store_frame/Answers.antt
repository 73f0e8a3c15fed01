use Rattle.std.proofs.Common.{◌≡◌, ◌*◌, ◌/◌, ◌%◌, ℕ, List, sym, refl, ap, ◌∙◌, subst}
use Rattle.std.specs.Prelude.{false, true, ◌<◌, ◌≤◌, length, slice_set, take}
use Rattle.theory.specs.Bytes.{wire_at}
use Rattle.theory.specs.Position.{aligned}
use Rattle.theory.specs.Placed.{Placed, frame_length}
use Rattle.region.specs.Pooled.{AreAll, stands}
use Rattle.image_rule.specs.declared.view.Frame.{Frame}
use Rattle.image_rule.specs.declared.view.Key.{Key}
use Rattle.image_rule.specs.declared.view.View.{View}
use Rattle.image_rule.specs.Frames.{IsContent, byte_place, ring}
use Rattle.image_rule.specs.Bits.{MayInsert, Stored}
use Rattle.image_rule.proofs.Spelt.{frame_at}
use Rattle.image.specs.declared.inserter.room.Draft.{Draft}
use Rattle.image.specs.Drafted.{drafted}
use Rattle.image.specs.Handles.{InserterSeat, floor_of, stored_by}
use Rattle.image.specs.Inserting.{IsComing, Stores}
use Rattle.image.specs.Memory.{RoomRests}
use Rattle.image.specs.Rebuilding.{FitsIn}
use Rattle.image.specs.Stored.{stream_frame}
use Rattle.image.proofs.Memories.{free_run}
use Rattle.image.proofs.Resting.{room_is, same_key, seat_of, stored_inserting, stored_room}
use Rattle.image.proofs.Stores.{comes, content_is, frame_here, in_ring, may_insert, stores}
use Rattle.image.proofs.inserter.storing.store_frame.Goals as goal

pub spell-requires-clause-come : goal.spell-requires-clause-come
spell-requires-clause-come c =
    let n = c.inserter.inside in let i = c.image.inside.words in let v : View = n.hand.seat.me.0 in let is = c.inserter.invariant in let s : Placed = record { at = c.args.start; frame = stream_frame c.args.frame.now } in
    let key : n.key ≡ i.key = same_key i n c.args.image.now c.args.inserter.now c.image.view_is c.inserter.view_is c.requires.fits in
    let may : FitsIn n.key.identity.geometry (floor_of (seat_of n)) (stored_by (seat_of n)) s = subst (λ (x : InserterSeat). FitsIn x.key.identity.geometry (floor_of x) (stored_by x) s) (sym c.inserter.view_is) c.requires.may in
    subst (λ (x : Key). IsComing x.identity.geometry c.args.start (frame_length s.frame)) key (comes (seat_of n) s is.inserting may)

pub write_draft-room-requires-clause-some : goal.write_draft-room-requires-clause-some
write_draft-room-requires-clause-some c =
    let n = c.inserter.inside in let i = c.image.inside.words in let v : View = n.hand.seat.me.0 in let is = c.inserter.invariant in let s : Placed = record { at = c.args.start; frame = stream_frame c.args.frame.now } in
    let key : n.key ≡ i.key = same_key i n c.args.image.now c.args.inserter.now c.image.view_is c.inserter.view_is c.requires.fits in
    let may : FitsIn n.key.identity.geometry (floor_of (seat_of n)) (stored_by (seat_of n)) s = subst (λ (x : InserterSeat). FitsIn x.key.identity.geometry (floor_of x) (stored_by x) s) (sym c.inserter.view_is) c.requires.may in
    let ok : IsContent s.frame = content_is c.args.frame.now c.requires.frame c.requires.of_stream in
    let d : Draft = record { unit = c.args.start / 32; units = c.from.result / 32; frame = c.spell.result } in
    let f : Frame = frame_at n.key.identity (c.args.start / 32) s.frame in
    let same : drafted d ≡ f = frame_here n.key.identity c.args.start c.from.result s.frame d c.requires.may.unit refl refl (c.from.ensures ∙ c.align32.ensures ∙ ap aligned c.requires.length) (c.spell.ensures.wire ∙ ap (λ (k : Key). wire_at k.identity c.args.start s.frame) (sym key)) in
    let insert : MayInsert n.key v.held f = may_insert (seat_of n) s is.inserting may ok in
    subst (λ (y : Frame). 0 < y.units) (sym same) insert.full

pub write_draft-room-requires-clause-fits : goal.write_draft-room-requires-clause-fits
write_draft-room-requires-clause-fits c =
    let n = c.inserter.inside in let i = c.image.inside.words in let v : View = n.hand.seat.me.0 in let is = c.inserter.invariant in let s : Placed = record { at = c.args.start; frame = stream_frame c.args.frame.now } in
    let key : n.key ≡ i.key = same_key i n c.args.image.now c.args.inserter.now c.image.view_is c.inserter.view_is c.requires.fits in
    let may : FitsIn n.key.identity.geometry (floor_of (seat_of n)) (stored_by (seat_of n)) s = subst (λ (x : InserterSeat). FitsIn x.key.identity.geometry (floor_of x) (stored_by x) s) (sym c.inserter.view_is) c.requires.may in
    let ok : IsContent s.frame = content_is c.args.frame.now c.requires.frame c.requires.of_stream in
    let d : Draft = record { unit = c.args.start / 32; units = c.from.result / 32; frame = c.spell.result } in
    let f : Frame = frame_at n.key.identity (c.args.start / 32) s.frame in
    let same : drafted d ≡ f = frame_here n.key.identity c.args.start c.from.result s.frame d c.requires.may.unit refl refl (c.from.ensures ∙ c.align32.ensures ∙ ap aligned c.requires.length) (c.spell.ensures.wire ∙ ap (λ (k : Key). wire_at k.identity c.args.start s.frame) (sym key)) in
    let insert : MayInsert n.key v.held f = may_insert (seat_of n) s is.inserting may ok in
    subst (λ (y : Frame). length y.bytes ≤ 32 * y.units) (sym same) insert.fits

pub write_draft-room-requires-clause-free : goal.write_draft-room-requires-clause-free
write_draft-room-requires-clause-free c =
    let n = c.inserter.inside in let i = c.image.inside.words in let v : View = n.hand.seat.me.0 in let is = c.inserter.invariant in let s : Placed = record { at = c.args.start; frame = stream_frame c.args.frame.now } in
    let key : n.key ≡ i.key = same_key i n c.args.image.now c.args.inserter.now c.image.view_is c.inserter.view_is c.requires.fits in
    let may : FitsIn n.key.identity.geometry (floor_of (seat_of n)) (stored_by (seat_of n)) s = subst (λ (x : InserterSeat). FitsIn x.key.identity.geometry (floor_of x) (stored_by x) s) (sym c.inserter.view_is) c.requires.may in
    let ok : IsContent s.frame = content_is c.args.frame.now c.requires.frame c.requires.of_stream in
    let d : Draft = record { unit = c.args.start / 32; units = c.from.result / 32; frame = c.spell.result } in
    let f : Frame = frame_at n.key.identity (c.args.start / 32) s.frame in
    let same : drafted d ≡ f = frame_here n.key.identity c.args.start c.from.result s.frame d c.requires.may.unit refl refl (c.from.ensures ∙ c.align32.ensures ∙ ap aligned c.requires.length) (c.spell.ensures.wire ∙ ap (λ (k : Key). wire_at k.identity c.args.start s.frame) (sym key)) in
    let insert : MayInsert n.key v.held f = may_insert (seat_of n) s is.inserting may ok in
    let rests : RoomRests (ring n.key) n.region v.held c.in-Some.room n.heads.items = room_is (ring n.key) n.region v.held n.room n.heads.items c.in-Some.room is.has (sym c.take.ensures.value ∙ c.in-Some.is) in
    subst (λ (x : Key × Frame). AreAll true (byte_place (ring x.0) x.1.unit) (32 * x.1.units) c.in-Some.room.pool.free) (λ j. (key j, sym same j))
    (free_run n.key is.inserting.is_key v.held c.in-Some.room.pool.free n.heads.items rests.memory f insert (in_ring (seat_of n) s is.inserting may))

pub store-requires-clause-may : goal.store-requires-clause-may
store-requires-clause-may c =
    let n = c.inserter.inside in let i = c.image.inside.words in let v : View = n.hand.seat.me.0 in let is = c.inserter.invariant in let s : Placed = record { at = c.args.start; frame = stream_frame c.args.frame.now } in
    let key : n.key ≡ i.key = same_key i n c.args.image.now c.args.inserter.now c.image.view_is c.inserter.view_is c.requires.fits in
    let may : FitsIn n.key.identity.geometry (floor_of (seat_of n)) (stored_by (seat_of n)) s = subst (λ (x : InserterSeat). FitsIn x.key.identity.geometry (floor_of x) (stored_by x) s) (sym c.inserter.view_is) c.requires.may in
    let ok : IsContent s.frame = content_is c.args.frame.now c.requires.frame c.requires.of_stream in
    let d : Draft = record { unit = c.args.start / 32; units = c.from.result / 32; frame = c.spell.result } in
    let f : Frame = frame_at n.key.identity (c.args.start / 32) s.frame in
    let same : drafted d ≡ f = frame_here n.key.identity c.args.start c.from.result s.frame d c.requires.may.unit refl refl (c.from.ensures ∙ c.align32.ensures ∙ ap aligned c.requires.length) (c.spell.ensures.wire ∙ ap (λ (k : Key). wire_at k.identity c.args.start s.frame) (sym key)) in
    let insert : MayInsert n.key v.held f = may_insert (seat_of n) s is.inserting may ok in
    subst (λ (x : Key × Frame). MayInsert x.0 v.held x.1) (λ j. (key j, sym same j)) insert

pub invariant_of-inserter : goal.invariant_of-inserter
invariant_of-inserter c =
    let n = c.inserter.inside in let i = c.image.inside.words in let v : View = n.hand.seat.me.0 in let is = c.inserter.invariant in let s : Placed = record { at = c.args.start; frame = stream_frame c.args.frame.now } in
    let key : n.key ≡ i.key = same_key i n c.args.image.now c.args.inserter.now c.image.view_is c.inserter.view_is c.requires.fits in
    let may : FitsIn n.key.identity.geometry (floor_of (seat_of n)) (stored_by (seat_of n)) s = subst (λ (x : InserterSeat). FitsIn x.key.identity.geometry (floor_of x) (stored_by x) s) (sym c.inserter.view_is) c.requires.may in
    let ok : IsContent s.frame = content_is c.args.frame.now c.requires.frame c.requires.of_stream in
    let d : Draft = record { unit = c.args.start / 32; units = c.from.result / 32; frame = c.spell.result } in
    let f : Frame = frame_at n.key.identity (c.args.start / 32) s.frame in
    let same : drafted d ≡ f = frame_here n.key.identity c.args.start c.from.result s.frame d c.requires.may.unit refl refl (c.from.ensures ∙ c.align32.ensures ∙ ap aligned c.requires.length) (c.spell.ensures.wire ∙ ap (λ (k : Key). wire_at k.identity c.args.start s.frame) (sym key)) in
    let insert : MayInsert n.key v.held f = may_insert (seat_of n) s is.inserting may ok in
    let rests : RoomRests (ring n.key) n.region v.held c.in-Some.room n.heads.items = room_is (ring n.key) n.region v.held n.room n.heads.items c.in-Some.room is.has (sym c.take.ensures.value ∙ c.in-Some.is) in
    let x : View = c.store.new.hand.seat.me.0 in let e = c.store.ensures in
    let stored : Stored n.key v f x = subst (λ (y : Key × Frame). Stored y.0 v y.1 x) (λ j. (sym key j, same j)) e.stored in
    let heads : slice_set n.heads.items (f.unit % ring n.key) c.first_of-first.result ≡ slice_set n.heads.items c.place-place.result c.first_of-first.result = ap (λ (k : ℕ). slice_set n.heads.items k c.first_of-first.result) (sym (c.place-place.ensures.is ∙ ap (λ (k : Key). c.args.start / 32 % ring k) (sym key))) in
    let w = c.write_draft-room.ensures in
    record {
      inserting = stored_inserting n.key n.region v x f is.inserting stored;
      slots = e.slots;
      has = subst (λ (hs : List ℕ). RoomRests (ring n.key) n.region x.held c.write_draft-room.result.0 hs) heads
          (stored_room n.key n.region v x f is.inserting stored c.in-Some.room c.write_draft-room.result.0 n.heads.items c.first_of-first.result rests insert (in_ring (seat_of n) s is.inserting may)
          (c.first_of-first.ensures ∙ ap (λ (y : Frame). take 8 y.bytes) same) w.lies
          (w.rest ∙ (λ j. stands false (byte_place (ring (sym key j)) (same j).unit) (32 * (same j).units) c.in-Some.room.pool.free)));
    }

pub returns-clause-stored : goal.returns-clause-stored
returns-clause-stored c =
    let n = c.inserter.inside in let i = c.image.inside.words in let v : View = n.hand.seat.me.0 in let is = c.inserter.invariant in let s : Placed = record { at = c.args.start; frame = stream_frame c.args.frame.now } in
    let key : n.key ≡ i.key = same_key i n c.args.image.now c.args.inserter.now c.image.view_is c.inserter.view_is c.requires.fits in
    let may : FitsIn n.key.identity.geometry (floor_of (seat_of n)) (stored_by (seat_of n)) s = subst (λ (x : InserterSeat). FitsIn x.key.identity.geometry (floor_of x) (stored_by x) s) (sym c.inserter.view_is) c.requires.may in
    let ok : IsContent s.frame = content_is c.args.frame.now c.requires.frame c.requires.of_stream in
    let d : Draft = record { unit = c.args.start / 32; units = c.from.result / 32; frame = c.spell.result } in
    let f : Frame = frame_at n.key.identity (c.args.start / 32) s.frame in
    let same : drafted d ≡ f = frame_here n.key.identity c.args.start c.from.result s.frame d c.requires.may.unit refl refl (c.from.ensures ∙ c.align32.ensures ∙ ap aligned c.requires.length) (c.spell.ensures.wire ∙ ap (λ (k : Key). wire_at k.identity c.args.start s.frame) (sym key)) in
    let x : View = c.store.new.hand.seat.me.0 in let e = c.store.ensures in
    let stored : Stored n.key v f x = subst (λ (y : Key × Frame). Stored y.0 v y.1 x) (λ j. (sym key j, same j)) e.stored in
    let done = stores (seat_of n) s is.inserting may x ok stored in
    subst (λ (y : InserterSeat). Stores y s (record { of = record { table = c.store.new.hand.seat.table_id; region = n.region; units = ring n.key }; key = n.key; view = x })) c.inserter.view_is
    (subst (Stores (seat_of n) s) (λ j. record { of = record { table = sym e.fits j; region = n.region; units = ring n.key }; key = n.key; view = x }) done)
