-- A farewell tells its stream's end.
use Rattle.std.proofs.Common.{◌≡◌, ◌∙◌, ◌≤◌, ℕ, ℤ, pos, negsuc, Bool, true, false, List, length, Option, None, Some, refl, sym, ap, subst, arith}
use Rattle.std.proofs.Math.Seq.{take-length}
use Rattle.std.specs.Prelude.{◌+ℤ◌, ◌*ℤ◌, IfSome, IfNone}
use Rattle.std.specs.Int.{w32, int_wrapping_sub}
use Rattle.theory.specs.Bytes.{Identity}
use Rattle.theory.specs.Position.{Geometry, IsGeometry, max_position, position_of}
use Rattle.theory.specs.Wire.{Setup, SETUP}
use Rattle.frames.specs.Fronts.{FrontSpells}
use Rattle.peer.specs.Watching.{Gives, Watched, given, with_end}
use Rattle.peer.specs.declared.attended.ToldEnds.{ToldEnds}
use Rattle.theory.proofs.Named.{names_place}
use Rattle.theory.specs.Setup.{NamesGeometry}
use Rattle.peer.specs.Farewells.{EndsAt, FarewellsTellEnds, IsFarewell, SpellsFarewell, end_of, farewell_fields, ttl_of}
use Rattle.peer.specs.declared.farewell.StreamEnd.{StreamEnd}

same_pos : (a b : ℕ) → pos a ≡ pos b → a ≡ b
same_pos a b e = grind (arith, e)

-- two shapes that one SETUP names give a place one position
one_place : (f : Setup) (g h : Geometry) → NamesGeometry f g → NamesGeometry f h → position_of g f.active_term_id f.term_offset ≡ position_of h f.active_term_id f.term_offset
one_place f g h a b =
    ap (λ (i : ℤ). (int_wrapping_sub w32 f.active_term_id i *ℤ pos g.term_length) +ℤ f.term_offset) (sym a.initial ∙ b.initial)
    ∙ ap (λ (n : ℕ). (int_wrapping_sub w32 f.active_term_id h.initial_term_id *ℤ pos n) +ℤ f.term_offset) (same_pos _ _ (sym a.term_length ∙ b.term_length))

-- and one time to live tells whether the stream is broken off
one_kind : (a b : Bool) → ttl_of a ≡ ttl_of b → a ≡ b
one_kind false false e = refl
one_kind true true e = refl
one_kind false true e = absurd (grind (arith, e))
one_kind true false e = absurd (grind (arith, e))

pub ends_there : (session stream : ℤ) (f : Setup) (shape : Geometry) (broken : Bool) (end : ℕ) → IsFarewell session stream broken f → NamesGeometry f shape → position_of shape f.active_term_id f.term_offset ≡ pos end → EndsAt session stream f (record { position = end; broken = broken })
ends_there session stream f shape broken end is named here = record { farewell = is; shape = shape; named = named; here = here }

pub ends_nowhere : (session stream : ℤ) (f : Setup) (shape : Geometry) → NamesGeometry f shape → ((end : ℕ) → position_of shape f.active_term_id f.term_offset ≡ pos end → ⊥) → (end : StreamEnd) → EndsAt session stream f end → ⊥
ends_nowhere session stream f shape named not end e = not end.position (one_place f shape e.shape named e.named ∙ e.here)

only : (s : Identity) (end other : StreamEnd) → IsGeometry s.geometry → end.position ≤ max_position s.geometry → EndsAt s.session s.stream (farewell_fields s end) other → other ≡ end
only s end other is low e =
    let f = farewell_fields s end in
    let same : position_of e.shape f.active_term_id f.term_offset ≡ position_of s.geometry f.active_term_id f.term_offset = one_place f e.shape s.geometry e.named (record { term_length = refl; mtu = refl; initial = refl; legal = is }) in
    same_end (same_pos other.position end.position (sym e.here ∙ same ∙ names_place s.geometry end.position is low)) (one_kind other.broken end.broken (sym e.farewell.told))
  where
    same_end : other.position ≡ end.position → other.broken ≡ end.broken → other ≡ end
    same_end a b = ap (λ (n : ℕ). record { position = n; broken = other.broken }) a ∙ ap (λ (b : Bool). record { position = end.position; broken = b }) b

pub ends_told : FarewellsTellEnds
ends_told s end is low = record {
  told = record {
    farewell = record { own_session = refl; own_stream = refl; told = refl };
    shape = s.geometry;
    named = record { term_length = refl; mtu = refl; initial = refl; legal = is };
    here = names_place s.geometry end.position is low;
  };
  only = λ other e. only s end other is low e;
}

whole : (s : Identity) (end : StreamEnd) (bytes : List ℕ) → SpellsFarewell s end bytes → FrontSpells bytes (SETUP (farewell_fields s end)) (length bytes)
whole s end bytes is = record { within = omega arith; spelled = (is.spells.0, take-length bytes ∙ is.spells.1) }

-- a device that is given a farewell counts it, and notes its end
pub gives_end : (w v : Watched) (end : StreamEnd) (bytes : List ℕ) → SpellsFarewell w.sent (end_of w.sent end) bytes → Gives w bytes v → v ≡ with_end w end
gives_end w v end bytes is gives =
    let last = end_of w.sent end in
    let frame = gives.frame (SETUP (farewell_fields w.sent last)) (length bytes) (whole w.sent last bytes is) in
    frame.counted ∙ ap (λ (told : Option ToldEnds). record (given w false) { ends = told }) (frame.noted.told last (ends_told w.sent last is.shape is.within).told)
