-- What is known of a DATA frame that is known to be read.
use Rattle.std.proofs.Common.{◌≡◌, ℕ, ◌+◌, ◌<◌, ◌≤◌, ◌%◌, ◌||◌, ◌∙◌, not, eqb, ltb, List, length, Ok, subst, sym, inl, inr, arith}
use Rattle.std.specs.Prelude.{slice_index, slice_range}
use Rattle.std.proofs.lemmas.Bool.{ltb-false, or_parts, eqb-true}
use Rattle.theory.specs.Position.{aligned}
use Rattle.theory.specs.Wire.{Wire, DATA}
use Rattle.frames.specs.declared.fault.FrameError.TheVariants.{Short, Version, Length, Flags, Alignment, Range}
use Rattle.frames.specs.Fields.{u16_at, u32_at}
use Rattle.frames.specs.Fronts.{FrontSpells}
use Rattle.frames.specs.Order.{is_data_flags, is_padded}
use Rattle.frames.specs.Reading.{data_at, data_or_heartbeat_at, header_at, heartbeat_at, kind_at, reading}
use Rattle.frames.proofs.Guards.{chosen, guard, ok_is}
use Rattle.frames.proofs.Laws.{front_read}

pub record HasDataAt (bytes : List ℕ) (n : ℕ) (x : Wire × ℕ) : Type 0 where
  pub room : aligned n ≤ length bytes
  pub same : (DATA (header_at bytes) (slice_index bytes 5) (slice_range bytes 32 n), aligned n) ≡ x

data_is : (bytes : List ℕ) (n : ℕ) (x : Wire × ℕ) → data_at bytes n ≡ Ok x → HasDataAt bytes n x
unfolding data_at
data_is bytes n x e =
    let a = guard (not (is_data_flags (slice_index bytes 5))) Flags _ x e in
    let b = guard (ltb (length bytes) (aligned n)) Short _ x a.1 in
    let u = guard (not (eqb (u32_at bytes 8 % 32) 0)) Alignment _ x b.1 in
    let d = guard (not (is_padded bytes n)) Alignment _ x u.1 in
    let v = guard (ltb 16777216 (u32_at bytes 8 + aligned n)) Range _ x d.1 in
    record { room = ltb-false _ _ b.0; same = ok_is (DATA (header_at bytes) (slice_index bytes 5) (slice_range bytes 32 n), aligned n) x v.1 }

-- its length is one of a DATA frame
pub record HasDataLength (bytes : List ℕ) (n : ℕ) (x : Wire × ℕ) : Type 0 where
  pub least : 32 ≤ n
  pub greatest : n ≤ 65504
  pub inner : HasDataAt bytes n x

some_data : (bytes : List ℕ) (x : Wire × ℕ) → data_or_heartbeat_at bytes ≡ Ok x → (u32_at bytes 0 ≡ 0 → ⊥) → HasDataLength bytes (u32_at bytes 0) x
unfolding data_or_heartbeat_at
some_data bytes x e some =
    let n : ℕ = u32_at bytes 0 in
    let a = guard (ltb (length bytes) 32) Short _ x e in
    elim (chosen (eqb n 0) (heartbeat_at bytes) _ (Ok x) a.1) [
      | inl h ↦ absurd (some (eqb-true _ _ h.0))
      | inr h ↦
          let b = guard (ltb n 32 || ltb 65504 n) Length _ x h.1 in
          let p = or_parts _ _ b.0 in
          record { least = ltb-false _ _ p.0; greatest = ltb-false _ _ p.1; inner = data_is bytes n x b.1 }
    ]

of_kind : (bytes : List ℕ) (x : Wire × ℕ) → kind_at bytes 1 ≡ Ok x → data_or_heartbeat_at bytes ≡ Ok x
unfolding kind_at
of_kind bytes x e = e

known_data : (bytes : List ℕ) (x : Wire × ℕ) → reading bytes ≡ Ok x → u16_at bytes 6 ≡ 1 → (u32_at bytes 0 ≡ 0 → ⊥) → HasDataLength bytes (u32_at bytes 0) x
unfolding reading
known_data bytes x e kind some =
    let a = guard (ltb (length bytes) 8) Short _ x e in
    let b = guard (not (eqb (slice_index bytes 4) 0)) Version _ x a.1 in
    some_data bytes x (of_kind bytes x (subst (λ (k : ℕ). kind_at bytes k ≡ Ok x) kind b.1)) some

-- a frame of kind 1 whose length isn't 0 is DATA
pub spelled_data : (bytes : List ℕ) (w : Wire) (n kind size : ℕ) → FrontSpells bytes w n → kind ≡ u16_at bytes 6 → kind ≡ 1 → size ≡ u32_at bytes 0 → 0 < size → HasDataLength bytes (u32_at bytes 0) (w, n)
spelled_data bytes w n kind size is at one length some = known_data bytes (w, n) (front_read bytes w n is) (sym at ∙ one) (λ e. omega (arith, e, length, some))
