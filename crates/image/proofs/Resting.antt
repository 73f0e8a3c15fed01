-- An inserter between two calls, and what a call leaves.
use Rattle.std.proofs.Common.{◌≡◌, ℕ, ◌+◌, ◌*◌, ◌%◌, ◌≤◌, List, Bool, false, Option, None, Some, length, sym, ap, ◌∙◌, subst, arith}
use Rattle.std.specs.Prelude.{slice_set, take}
use Rattle.std.specs.Int.{to_le_bytes, w64}
use Rattle.region.specs.declared.access.RegionKey.{RegionKey}
use Rattle.region.specs.Pooled.{stands}
use Rattle.image_rule.specs.declared.view.Frame.{Frame}
use Rattle.image_rule.specs.declared.view.Held.{Held}
use Rattle.image_rule.specs.declared.view.Key.{Key}
use Rattle.image_rule.specs.declared.view.View.{View}
use Rattle.image_rule.specs.Frames.{byte_place, ring}
use Rattle.image_rule.specs.Bits.{Cleared, MayInsert, MayRise, Stored}
use Rattle.image_rule.specs.Steps.{Mine}
use Rattle.image.specs.declared.inserter.frame_store.FrameStore.TheInside.{Inside}
use Rattle.image.specs.declared.inserter.room.Room.{Room}
use Rattle.image.specs.declared.words.Words.{Words}
use Rattle.image.specs.Handles.{ImageId, ImageWords, InserterSeat, IsInserting, IsStoreOf}
use Rattle.image.specs.Inserting.{Lowered}
use Rattle.image.specs.Memory.{HasMemory, HasRoom, RoomRests}
use Rattle.image.specs.Rests.{Rests}
use Rattle.image.proofs.Freeing.{freed_to}
use Rattle.image.proofs.Memories.{memory_lowered, memory_stored}

abbrev pub seat_of : Inside → InserterSeat
seat_of n = record { of = record { table = n.hand.seat.table_id; region = n.region; units = ring n.key }; key = n.key; view = n.hand.seat.me.0 }

abbrev pub words_of : Words → ImageWords
words_of i = record { of = record { table = i.table.shared.table_id; region = i.table.shared.key.region; units = i.units }; key = i.key }

-- ---- of this image

module _ (i : Words) (n : Inside) (image : ImageWords) (store : InserterSeat) (of_image : words_of i ≡ image) (of_store : seat_of n ≡ store) (fits : IsStoreOf image store) where
  pub same_key : n.key ≡ i.key
  same_key = ap (λ (x : InserterSeat). x.key) of_store ∙ fits.key ∙ sym (ap (λ (x : ImageWords). x.key) of_image)

  same_of : (seat_of n).of ≡ (words_of i).of
  same_of = ap (λ (x : InserterSeat). x.of) of_store ∙ fits.of ∙ sym (ap (λ (x : ImageWords). x.of) of_image)

  pub same_region : n.region ≡ i.table.shared.key.region
  same_region = ap (λ (x : ImageId). x.region) same_of

-- ---- its room

pub room_is : (n : ℕ) (region : RegionKey) (h : Held) (o : Option Room) (heads : List ℕ) (room : Room) → HasRoom n region h o heads → o ≡ Some room → RoomRests n region h room heads
room_is n region h o heads room has e = subst (λ (x : Option Room). HasRoom n region h x heads) e has

-- its memory, wherever it is
pub record HasSome (n : ℕ) (h : Held) (heads : List ℕ) : Type 0 where
  pub free : List Bool
  pub memory : HasMemory n h free heads
  pub freed : h.freed ≡ h.floor

pub memory_of : (n : ℕ) (region : RegionKey) (h : Held) (o : Option Room) (heads : List ℕ) → HasRoom n region h o heads → HasSome n h heads
memory_of n region h None heads has = absurd has
memory_of n region h (Some room) heads has = record { free = room.pool.free; memory = has.memory; freed = has.freed }

-- what the inserter holds stays
pub rests_on : (key : Key) (region : RegionKey) (m now : Mine) (room : Option Room) (heads : List ℕ) → IsInserting key now.0 → now.1 ≡ m.1 → now.0.held ≡ m.0.held → Rests key region m room heads → Rests key region now room heads
rests_on key region m now room heads is slots held r = record { inserting = is; slots = slots ∙ r.slots; has = subst (λ (h : Held). HasRoom (ring key) region h room heads) (sym held) r.has }

-- ---- the floor rises

module _ (key : Key) (region : RegionKey) (v : View) (to : ℕ) (is : IsInserting key v) (w x : View) (freed : w ≡ freed_to v to) (cleared : Cleared key w to x) where
  pub lowered : Lowered v to x
  lowered = record {
    after = cleared.after ∙ (λ j. record (freed j) { held = x.held });
    floor_is = cleared.floor_is;
    got = cleared.got ∙ ap (λ (y : View). y.held.got) freed;
  }

  pub lowered_inserting : IsInserting key x
  lowered_inserting = let a = lowered.after in record {
    is_key = is.is_key;
    some = is.some;
    inserts = ap (λ (y : View). y.inserting) a ∙ is.inserts;
    seen = ap (λ (y : View). length y.seen) a ∙ is.seen;
    looks = ap (λ (y : View). length y.looks) a ∙ is.looks;
    exact = cleared.exact;
    idle = cleared.out ∙ ap (λ (y : View). y.held.out) freed;
  }

  pub lowered_room : (room : Room) (heads : List ℕ) → MayRise key v to → room.pool.identity ≡ region.identity → HasMemory (ring key) w.held room.pool.free heads → RoomRests (ring key) region x.held room heads
  lowered_room room heads rise lies mem =
      let f = cleared.floor_is in let g : w.held.floor ≡ v.held.floor = ap (λ (y : View). y.held.floor) freed in let d : w.held.freed ≡ to = ap (λ (y : View). y.held.freed) freed in
      let from = rise.from in let near = rise.near in
      record {
        lies = lies;
        memory = memory_lowered key is.is_key w.held room.pool.free heads mem x.held (omega (arith, f, g)) (omega (arith, f, d)) cleared.got cleared.freed (omega (arith, f, g));
        freed = cleared.freed ∙ d ∙ sym f;
      }

-- ---- a frame was stored

module _ (key : Key) (region : RegionKey) (v x : View) (f : Frame) (is : IsInserting key v) (stored : Stored key v f x) where
  pub stored_inserting : IsInserting key x
  stored_inserting = let a = stored.after in record {
    is_key = is.is_key;
    some = is.some;
    inserts = ap (λ (y : View). y.inserting) a ∙ is.inserts;
    seen = ap (λ (y : View). length y.seen) a ∙ is.seen;
    looks = ap (λ (y : View). length y.looks) a ∙ is.looks;
    exact = stored.exact;
    idle = stored.out;
  }

  pub stored_room : (old room : Room) (heads : List ℕ) (first : ℕ) → RoomRests (ring key) region v.held old heads → MayInsert key v.held f → f.unit % ring key + f.units ≤ ring key → to_le_bytes w64 first ≡ take 8 f.bytes
      → room.pool.identity ≡ old.pool.identity → room.pool.free ≡ stands false (byte_place (ring key) f.unit) (32 * f.units) old.pool.free → RoomRests (ring key) region x.held room (slice_set heads (f.unit % ring key) first)
  stored_room old room heads first rests may whole bytes lies free =
      let from = may.from in let d = rests.freed in
      record {
        lies = lies ∙ rests.lies;
        memory = subst (λ (y : List Bool). HasMemory (ring key) x.held y (slice_set heads (f.unit % ring key) first)) (sym free)
            (memory_stored key is.is_key v.held old.pool.free heads rests.memory f may whole x.held first is.exact.sound stored.floor stored.got stored.freed (omega (arith, d)) bytes);
        freed = stored.freed ∙ rests.freed ∙ sym stored.floor;
      }
