-- A frame of a stream that is stored.
use Rattle.std.proofs.Common.{◌≡◌, ℕ, ◌+◌, ◌*◌, ◌/◌, ◌%◌, ◌≤◌, sym, ap, ◌∙◌, arith, mod-lt}
use Rattle.theory.specs.Bytes.{Identity, wire_at}
use Rattle.theory.specs.Placed as placed
use Rattle.theory.specs.Placed.{Placed, covered, frame_length}
use Rattle.theory.specs.Position.{aligned}
use Rattle.theory.specs.Wire.{IsFrame, spelling}
use Rattle.frames.specs.declared.frame.Frame as frames
use Rattle.frames.specs.declared.frame.Frame.TheVariants.{Data, Pad, Heartbeat, Nak, Status, Setup}
use Rattle.frames.specs.Frames.{wire}
use Rattle.image_rule.specs.declared.view.Frame.{Frame}
use Rattle.image_rule.specs.declared.view.View.{View}
use Rattle.image_rule.specs.Frames.{IsContent, ring}
use Rattle.image_rule.specs.Bits.{MayInsert, Stored}
use Rattle.image_rule.proofs.Spelt.{frame_at, spelt_at, spelt_fits, spelt_full, spelt_said}
use Rattle.image_rule.proofs.Units.{AreCovered, has_unit, sound_covered}
use Rattle.image.specs.declared.inserter.room.Draft.{Draft}
use Rattle.image.specs.Drafted.{drafted}
use Rattle.image.specs.Handles.{InserterSeat, IsInserting, floor_of, stored_by}
use Rattle.image.specs.Inserting.{IsComing, Stores}
use Rattle.image.specs.Rebuilding.{FitsIn}
use Rattle.image.specs.Stored.{IsOfStream, stream_frame}
use Rattle.image.proofs.RingPlaces.{three_fit, times_place}

-- ---- which frame the bytes are

-- it is a frame as an image takes it
pub content_is : (f : frames.Frame) → IsFrame (wire f) → IsOfStream f → IsContent (stream_frame f)
content_is (Data header flags payload) is of = (is.1, is.2, is.4)
content_is (Pad header n) is of = (is.1, (let low = is.2 in omega arith))
content_is (Heartbeat header) is of = absurd of
content_is (Nak f) is of = absurd of
content_is (Status asks f) is of = absurd of
content_is (Setup f) is of = absurd of

-- it stands where it belongs, with the bytes on the wire
pub frame_here : (i : Identity) (start size : ℕ) (c : placed.Frame) (d : Draft) → start % 32 ≡ 0 → d.unit ≡ start / 32 → d.units ≡ size / 32 → size ≡ aligned (frame_length c) → wire d.frame ≡ wire_at i start c → drafted d ≡ frame_at i (start / 32) c
frame_here i start size c d whole unit units s w =
    let at : start ≡ 32 * (start / 32) = omega arith in
    (λ j. record { unit = unit j; units = (units ∙ ap (λ (x : ℕ). x / 32) s) j; bytes = (ap spelling w ∙ ap (λ (p : ℕ). spelling (wire_at i p c)) at) j })

-- ---- it may be inserted

module _ (n : InserterSeat) (s : Placed) (is : IsInserting n.key n.view) (fits : FitsIn n.key.identity.geometry (floor_of n) (stored_by n) s) where
  abbrev f : Frame
  f = frame_at n.key.identity (s.at / 32) s.frame

  pub comes : IsComing n.key.identity.geometry s.at (frame_length s.frame)
  comes = record { unit = fits.unit; long = fits.long; in_term = fits.in_term; in_stream = fits.low }

  pub may_insert : IsContent s.frame → MayInsert n.key n.view.held f
  may_insert ok =
      let spelt = spelt_at n.key.identity (s.at / 32) s.frame ok in
      let unit = fits.unit in let from = fits.from in let near = fits.near in let long = fits.long in let bytes = is.is_key.bytes in let some = is.is_key.some in let short = is.is_key.short in let high = fits.low in
      let are : AreCovered n.view.held.got = sound_covered n.key n.view.held is.exact.sound in record {
        from = omega arith;
        near = omega arith;
        full = spelt_full n.key.identity f spelt;
        fits = spelt_fits n.key.identity f spelt;
        low = omega arith;
        spelt = spelt;
        free = λ u covers has. fits.free (32 * u) (let lo = covers.0 in omega arith) (let hi = covers.1 in omega arith) (has_unit n.view.held.got u are has);
      }

  -- the ring has three whole terms, so it doesn't end within a frame
  pub in_ring : f.unit % ring n.key + f.units ≤ ring n.key
  in_ring =
      let t : ℕ = n.key.identity.geometry.term_length in let u : ℕ = s.at / 32 in
      let unit = fits.unit in let term = fits.in_term in let long = fits.long in let bytes = is.is_key.bytes in let pos = is.is_key.some in
      let turn : 32 * (u % ring n.key) ≡ s.at % (3 * t) = sym (times_place 32 u (ring n.key) pos (let l = mod-lt u pos in omega arith)) ∙ (λ j. ((let e : 32 * u ≡ s.at = omega arith in e) j) % (bytes j)) in
      let within : s.at % (3 * t) + covered s ≤ 3 * t = three_fit t s.at (covered s) (omega arith) term in
      omega arith

  -- ---- it was stored

  pub stores : (w : View) → IsContent s.frame → Stored n.key n.view f w → Stores n s record { of = n.of; key = n.key; view = w }
  stores w ok stored =
      let said = spelt_said n.key.identity (32 * (s.at / 32)) s.frame ok in let unit = fits.unit in let at : 32 * (s.at / 32) ≡ s.at = omega arith in record {
        frame = f;
        is = (λ j. record { at = at j; frame = said j });
        same = (λ j. record { of = n.of; key = n.key; view = stored.after j });
        floor = stored.floor;
        got = stored.got;
      }
