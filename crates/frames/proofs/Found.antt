-- What is read is spelled by the bytes that were taken.
use Rattle.std.proofs.Common.{◌≡◌, ℕ, ◌+◌, ◌-◌, ◌≤◌, ◌%◌, ◌⊎◌, ◌||◌, true, false, not, eqb, ltb, List, ◌∷◌, ◌++◌, length, take, drop, replicate, Ok, refl, sym, ap, subst, ◌∙◌, append_assoc, inl, inr, arith}
use Rattle.std.specs.Prelude.{slice_index, slice_range}
use Rattle.std.specs.Int.{w16, w32, w64, to_le_bytes}
use Rattle.std.proofs.lemmas.Bool.{ltb-false, or_parts, or_cases, not-false, eqb-true}
use Rattle.std.proofs.lemmas.List.{drop_more, length-take, length-drop, drop-drop, take-append-drop}
use Rattle.theory.specs.Position.{aligned}
use Rattle.theory.specs.Wire.{Wire, DATA, PAD, HEARTBEAT, NAK, SM, SETUP, front, le32, le64, header_bytes, zeros_after, spelling, IsHeader, IsFrame}
use Rattle.frames.specs.declared.fault.FrameError.TheVariants.{Short, Version, Kind, Length, Flags, Alignment, Range}
use Rattle.frames.specs.Fields.{u16_at, u32_at, i32_at, i64_at}
use Rattle.frames.specs.Reading.{nak_at, status_at, setup_at, pad_at, heartbeat_at, data_at, data_or_heartbeat_at, kind_at, reading, header_at, nak_fields, status_fields, setup_fields}
use Rattle.frames.specs.Order.{is_padded, is_data_flags}
use Rattle.frames.proofs.Numbers.{IsBytes, IsBytes-drop, IsBytes-take, fills16, fills32, fills64, unsigned_found, signed_found, signed_fits}
use Rattle.frames.proofs.Guards.{guard, chosen, ok_is, no_ok, equal_from, zeros_found, bytes_all, flags_found}
use Rattle.theory.proofs.Lengths.{data_size}
use mir.Val.{SFits}

-- the frame stands at the front of the bytes, and takes n of them
pub record Stands (bytes : List ℕ) (w : Wire) (n : ℕ) : Type 0 where
  pub frame : IsFrame w
  pub size : length (spelling w) ≡ n
  pub parts : bytes ≡ spelling w ++ drop n bytes

-- what the tests on the front of 8 bytes found
pub record HasFront (bytes : List ℕ) (kind : ℕ) : Type 0 where
  pub bytes_fit : IsBytes bytes
  pub version : slice_index bytes 4 ≡ 0
  pub kind_is : u16_at bytes 6 ≡ kind

i32_found : (bytes : List ℕ) (place next : ℕ) → IsBytes bytes → next ≤ length bytes → place + 4 ≡ next → drop place bytes ≡ le32 (i32_at bytes place) ++ drop next bytes
i32_found bytes place next fits long e = signed_found w32 4 fills32 bytes place next fits (omega arith) e

i64_found : (bytes : List ℕ) (place next : ℕ) → IsBytes bytes → next ≤ length bytes → place + 8 ≡ next → drop place bytes ≡ le64 (i64_at bytes place) ++ drop next bytes
i64_found bytes place next fits long e = signed_found w64 8 fills64 bytes place next fits (omega arith) e

i32_fits : (bytes : List ℕ) (place : ℕ) → IsBytes bytes → SFits w32 (i32_at bytes place)
i32_fits bytes place fits = signed_fits w32 4 fills32 bytes place fits

i64_fits : (bytes : List ℕ) (place : ℕ) → IsBytes bytes → SFits w64 (i64_at bytes place)
i64_fits bytes place fits = signed_fits w64 8 fills64 bytes place fits

-- one part behind another
behind : (a b c x y : List ℕ) → a ≡ x ++ b → b ≡ y ++ c → a ≡ x ++ (y ++ c)
behind a b c x y p q = p ∙ ap (λ (r : List ℕ). x ++ r) q

front_found : (bytes : List ℕ) (n flags kind : ℕ) → HasFront bytes kind → 8 ≤ length bytes → u32_at bytes 0 ≡ n → slice_index bytes 5 ≡ flags → bytes ≡ front n flags kind ++ drop 8 bytes
front_found bytes n flags kind has long size flag =
    let a : bytes ≡ to_le_bytes w32 (u32_at bytes 0) ++ drop 4 bytes = unsigned_found w32 4 fills32 bytes 0 4 has.bytes_fit (omega arith) refl in
    let b : drop 4 bytes ≡ slice_index bytes 4 ∷ drop 5 bytes = drop_more bytes 4 0 (omega arith) in
    let d : drop 5 bytes ≡ slice_index bytes 5 ∷ drop 6 bytes = drop_more bytes 5 0 (omega arith) in
    let e : drop 6 bytes ≡ to_le_bytes w16 (u16_at bytes 6) ++ drop 8 bytes = unsigned_found w16 2 fills16 bytes 6 8 has.bytes_fit (omega arith) refl in
    let all : bytes ≡ to_le_bytes w32 (u32_at bytes 0) ++ (slice_index bytes 4 ∷ (slice_index bytes 5 ∷ (to_le_bytes w16 (u16_at bytes 6) ++ drop 8 bytes))) =
    a ∙ ap (λ (r : List ℕ). to_le_bytes w32 (u32_at bytes 0) ++ r) (b ∙ ap (λ (r : List ℕ). slice_index bytes 4 ∷ r) (d ∙ ap (λ (r : List ℕ). slice_index bytes 5 ∷ r) e)) in
    all ∙ ap (λ (m : ℕ). to_le_bytes w32 m ++ (slice_index bytes 4 ∷ (slice_index bytes 5 ∷ (to_le_bytes w16 (u16_at bytes 6) ++ drop 8 bytes)))) size
    ∙ ap (λ (m : ℕ). to_le_bytes w32 n ++ (m ∷ (slice_index bytes 5 ∷ (to_le_bytes w16 (u16_at bytes 6) ++ drop 8 bytes)))) has.version
    ∙ ap (λ (m : ℕ). to_le_bytes w32 n ++ (0 ∷ (m ∷ (to_le_bytes w16 (u16_at bytes 6) ++ drop 8 bytes)))) flag
    ∙ ap (λ (m : ℕ). to_le_bytes w32 n ++ (0 ∷ (flags ∷ (to_le_bytes w16 m ++ drop 8 bytes)))) has.kind_is

of_kind : (bytes : List ℕ) (kind k : ℕ) → HasFront bytes kind → eqb kind k ≡ true → HasFront bytes k
of_kind bytes kind k has e = record { bytes_fit = has.bytes_fit; version = has.version; kind_is = has.kind_is ∙ eqb-true kind k e }

nak_found : (bytes : List ℕ) (x : Wire × ℕ) → HasFront bytes 2 → nak_at bytes ≡ Ok x → Stands bytes x.0 x.1
unfolding nak_at nak_fields
nak_found bytes x has e =
    let a = guard (ltb (length bytes) 28) Short _ x e in
    let b = guard (not (eqb (u32_at bytes 0) 28)) Length _ x a.1 in
    let d = guard (not (eqb (slice_index bytes 5) 0)) Flags _ x b.1 in
    let long : 28 ≤ length bytes = ltb-false _ _ a.0 in
    let begin = front_found bytes 28 0 2 has (omega arith) (equal_from _ _ b.0) (equal_from _ _ d.0) in
    let fits = has.bytes_fit in
    let f = nak_fields bytes in
    let parts : bytes ≡ front 28 0 2 ++ (le32 f.session ++ (le32 f.stream ++ (le32 f.term_id ++ (le32 f.term_offset ++ (le32 f.length ++ drop 28 bytes))))) =
    begin ∙ ap (λ (r : List ℕ). front 28 0 2 ++ r) (i32_found bytes 8 12 fits (omega arith) refl ∙ ap (λ (r : List ℕ). le32 f.session ++ r) (i32_found bytes 12 16 fits (omega arith) refl
    ∙ ap (λ (r : List ℕ). le32 f.stream ++ r) (i32_found bytes 16 20 fits (omega arith) refl ∙ ap (λ (r : List ℕ). le32 f.term_id ++ r) (i32_found bytes 20 24 fits (omega arith) refl
    ∙ ap (λ (r : List ℕ). le32 f.term_offset ++ r) (i32_found bytes 24 28 fits (omega arith) refl))))) in
    subst (λ (y : Wire × ℕ). Stands bytes y.0 y.1) (ok_is (NAK f, 28) x d.1)
    (record { frame = (i32_fits bytes 8 fits, i32_fits bytes 12 fits, i32_fits bytes 16 fits, i32_fits bytes 20 fits, i32_fits bytes 24 fits); size = refl; parts = parts })

setup_found : (bytes : List ℕ) (x : Wire × ℕ) → HasFront bytes 5 → setup_at bytes ≡ Ok x → Stands bytes x.0 x.1
unfolding setup_at setup_fields
setup_found bytes x has e =
    let a = guard (ltb (length bytes) 40) Short _ x e in
    let b = guard (not (eqb (u32_at bytes 0) 40)) Length _ x a.1 in
    let d = guard (not (eqb (slice_index bytes 5) 0)) Flags _ x b.1 in
    let long : 40 ≤ length bytes = ltb-false _ _ a.0 in
    let begin = front_found bytes 40 0 5 has (omega arith) (equal_from _ _ b.0) (equal_from _ _ d.0) in
    let fits = has.bytes_fit in
    let f = setup_fields bytes in
    let parts : bytes ≡ front 40 0 5 ++ (le32 f.term_offset ++ (le32 f.session ++ (le32 f.stream ++ (le32 f.initial_term_id ++ (le32 f.active_term_id ++ (le32 f.term_length ++ (le32 f.mtu ++ (le32 f.ttl ++ drop 40 bytes)))))))) =
    begin ∙ ap (λ (r : List ℕ). front 40 0 5 ++ r) (i32_found bytes 8 12 fits (omega arith) refl
    ∙ ap (λ (r : List ℕ). le32 f.term_offset ++ r) (i32_found bytes 12 16 fits (omega arith) refl
    ∙ ap (λ (r : List ℕ). le32 f.session ++ r) (i32_found bytes 16 20 fits (omega arith) refl
    ∙ ap (λ (r : List ℕ). le32 f.stream ++ r) (i32_found bytes 20 24 fits (omega arith) refl
    ∙ ap (λ (r : List ℕ). le32 f.initial_term_id ++ r) (i32_found bytes 24 28 fits (omega arith) refl
    ∙ ap (λ (r : List ℕ). le32 f.active_term_id ++ r) (i32_found bytes 28 32 fits (omega arith) refl
    ∙ ap (λ (r : List ℕ). le32 f.term_length ++ r) (i32_found bytes 32 36 fits (omega arith) refl
    ∙ ap (λ (r : List ℕ). le32 f.mtu ++ r) (i32_found bytes 36 40 fits (omega arith) refl)))))))) in
    subst (λ (y : Wire × ℕ). Stands bytes y.0 y.1) (ok_is (SETUP f, 40) x d.1)
    (record { frame = (i32_fits bytes 8 fits, i32_fits bytes 12 fits, i32_fits bytes 16 fits, i32_fits bytes 20 fits, i32_fits bytes 24 fits, i32_fits bytes 28 fits, i32_fits bytes 32 fits, i32_fits bytes 36 fits); size = refl; parts = parts })

asks_found : (flags : ℕ) → not (eqb flags 0 || eqb flags 128) ≡ false → (flags ≡ 0) ⊎ (flags ≡ 128)
asks_found flags e =
    elim (or_cases _ _ (not-false _ e)) [
      | inl h ↦ inl (eqb-true flags 0 h)
      | inr h ↦ inr (eqb-true flags 128 h)
    ]

status_found : (bytes : List ℕ) (x : Wire × ℕ) → HasFront bytes 3 → status_at bytes ≡ Ok x → Stands bytes x.0 x.1
unfolding status_at status_fields
status_found bytes x has e =
    let flags : ℕ = slice_index bytes 5 in
    let a = guard (ltb (length bytes) 36) Short _ x e in
    let b = guard (not (eqb (u32_at bytes 0) 36)) Length _ x a.1 in
    let d = guard (not (eqb flags 0 || eqb flags 128)) Flags _ x b.1 in
    let long : 36 ≤ length bytes = ltb-false _ _ a.0 in
    let begin = front_found bytes 36 flags 3 has (omega arith) (equal_from _ _ b.0) refl in
    let fits = has.bytes_fit in
    let f = status_fields bytes in
    let parts : bytes ≡ front 36 flags 3 ++ (le32 f.session ++ (le32 f.stream ++ (le32 f.term_id ++ (le32 f.term_offset ++ (le32 f.window ++ (le64 f.receiver ++ drop 36 bytes)))))) =
    begin ∙ ap (λ (r : List ℕ). front 36 flags 3 ++ r) (i32_found bytes 8 12 fits (omega arith) refl
    ∙ ap (λ (r : List ℕ). le32 f.session ++ r) (i32_found bytes 12 16 fits (omega arith) refl
    ∙ ap (λ (r : List ℕ). le32 f.stream ++ r) (i32_found bytes 16 20 fits (omega arith) refl
    ∙ ap (λ (r : List ℕ). le32 f.term_id ++ r) (i32_found bytes 20 24 fits (omega arith) refl
    ∙ ap (λ (r : List ℕ). le32 f.term_offset ++ r) (i32_found bytes 24 28 fits (omega arith) refl
    ∙ ap (λ (r : List ℕ). le32 f.window ++ r) (i64_found bytes 28 36 fits (omega arith) refl)))))) in
    subst (λ (y : Wire × ℕ). Stands bytes y.0 y.1) (ok_is (SM flags f, 36) x d.1)
    (record { frame = (asks_found flags d.0, (i32_fits bytes 8 fits, i32_fits bytes 12 fits, i32_fits bytes 16 fits, i32_fits bytes 20 fits, i32_fits bytes 24 fits, i64_fits bytes 28 fits)); size = refl; parts = parts })

-- ---- frames with the long header

header_found : (bytes : List ℕ) → IsBytes bytes → 32 ≤ length bytes → drop 8 bytes ≡ header_bytes (header_at bytes) ++ drop 32 bytes
unfolding header_at
header_found bytes fits long =
    unsigned_found w32 4 fills32 bytes 8 12 fits (omega arith) refl
    ∙ ap (λ (r : List ℕ). to_le_bytes w32 (u32_at bytes 8) ++ r) (i32_found bytes 12 16 fits (omega arith) refl
    ∙ ap (λ (r : List ℕ). le32 (i32_at bytes 12) ++ r) (i32_found bytes 16 20 fits (omega arith) refl
    ∙ ap (λ (r : List ℕ). le32 (i32_at bytes 16) ++ r) (i32_found bytes 20 24 fits (omega arith) refl
    ∙ ap (λ (r : List ℕ). le32 (i32_at bytes 20) ++ r) (i64_found bytes 24 32 fits (omega arith) refl))))

header_fits : (bytes : List ℕ) → IsBytes bytes → u32_at bytes 8 % 32 ≡ 0 → u32_at bytes 8 ≤ 16777216 → IsHeader (header_at bytes)
unfolding header_at
header_fits bytes fits unit low = record { unit = unit; low = low; session = i32_fits bytes 12 fits; stream = i32_fits bytes 16 fits; term_id = i32_fits bytes 20 fits; reserved = i64_fits bytes 24 fits }

header_offset : (bytes : List ℕ) → (header_at bytes).term_offset ≡ u32_at bytes 8
unfolding header_at
header_offset bytes = refl

pad_found : (bytes : List ℕ) (x : Wire × ℕ) → HasFront bytes 0 → pad_at bytes ≡ Ok x → Stands bytes x.0 x.1
unfolding pad_at
pad_found bytes x has e =
    let n : ℕ = u32_at bytes 0 in
    let offset : ℕ = u32_at bytes 8 in
    let a = guard (ltb (length bytes) 32) Short _ x e in
    let b = guard (ltb n 32 || ltb 16777216 n) Length _ x a.1 in
    let d = guard (not (eqb (slice_index bytes 5) 192)) Flags _ x b.1 in
    let u = guard (not (eqb (offset % 32) 0)) Alignment _ x d.1 in
    let v = guard (ltb 16777216 (offset + aligned n)) Range _ x u.1 in
    let long : 32 ≤ length bytes = ltb-false _ _ a.0 in
    let least : 32 ≤ n = ltb-false _ _ (or_parts _ _ b.0).0 in
    let end : offset + aligned n ≤ 16777216 = ltb-false _ _ v.0 in
    let fits = has.bytes_fit in
    let h = header_at bytes in
    let begin = front_found bytes n 192 0 has (omega arith) refl (equal_from _ _ d.0) in
    let parts : bytes ≡ front n 192 0 ++ (header_bytes h ++ drop 32 bytes) = begin ∙ ap (λ (r : List ℕ). front n 192 0 ++ r) (header_found bytes fits long) in
    let at = header_offset bytes in
    let frame : IsFrame (PAD h n) = (header_fits bytes fits (equal_from _ _ u.0) (omega arith), least, omega (arith, at)) in
    subst (λ (y : Wire × ℕ). Stands bytes y.0 y.1) (ok_is (PAD h n, 32) x v.1) (record { frame = frame; size = refl; parts = parts ∙ sym (append_assoc (front n 192 0) (header_bytes h) (drop 32 bytes)) })

heartbeat_found : (bytes : List ℕ) (x : Wire × ℕ) → HasFront bytes 1 → 32 ≤ length bytes → u32_at bytes 0 ≡ 0 → heartbeat_at bytes ≡ Ok x → Stands bytes x.0 x.1
unfolding heartbeat_at
heartbeat_found bytes x has long none e =
    let offset : ℕ = u32_at bytes 8 in
    let d = guard (not (eqb (slice_index bytes 5) 192)) Flags _ x e in
    let u = guard (not (eqb (offset % 32) 0)) Alignment _ x d.1 in
    let v = guard (ltb 16777216 offset) Range _ x u.1 in
    let fits = has.bytes_fit in
    let h = header_at bytes in
    let begin = front_found bytes 0 192 1 has (omega arith) none (equal_from _ _ d.0) in
    let parts : bytes ≡ front 0 192 1 ++ (header_bytes h ++ drop 32 bytes) = begin ∙ ap (λ (r : List ℕ). front 0 192 1 ++ r) (header_found bytes fits long) in
    subst (λ (y : Wire × ℕ). Stands bytes y.0 y.1) (ok_is (HEARTBEAT h, 32) x v.1)
    (record { frame = header_fits bytes fits (equal_from _ _ u.0) (ltb-false _ _ v.0); size = refl; parts = parts ∙ sym (append_assoc (front 0 192 1) (header_bytes h) (drop 32 bytes)) })

-- what follows the header: the payload, zeros, and the rest
payload_found : (bytes : List ℕ) (n : ℕ) → 32 ≤ n → aligned n ≤ length bytes → is_padded bytes n ≡ true → drop 32 bytes ≡ slice_range bytes 32 n ++ (zeros_after n ++ drop (aligned n) bytes)
payload_found bytes n least room clean =
    let zeros : slice_range bytes n (aligned n) ≡ zeros_after n =
    zeros_found (slice_range bytes n (aligned n)) clean
    ∙ ap (λ (k : ℕ). replicate k 0) (omega (arith, length-take (aligned n - n) (drop n bytes), length-drop n bytes)) in
    let rest : drop (aligned n - n) (drop n bytes) ≡ drop (aligned n) bytes = drop-drop (aligned n - n) n bytes ∙ ap (λ (k : ℕ). drop k bytes) (omega arith) in
    let end : drop n bytes ≡ zeros_after n ++ drop (aligned n) bytes =
    sym (take-append-drop (aligned n - n) (drop n bytes)) ∙ ap (λ (r : List ℕ). take (aligned n - n) (drop n bytes) ++ r) rest ∙ ap (λ (z : List ℕ). z ++ drop (aligned n) bytes) zeros in
    let text : drop (n - 32) (drop 32 bytes) ≡ drop n bytes = drop-drop (n - 32) 32 bytes ∙ ap (λ (k : ℕ). drop k bytes) (omega arith) in
    sym (take-append-drop (n - 32) (drop 32 bytes)) ∙ ap (λ (r : List ℕ). take (n - 32) (drop 32 bytes) ++ r) (text ∙ end)

data_found : (bytes : List ℕ) (n : ℕ) (x : Wire × ℕ) → HasFront bytes 1 → u32_at bytes 0 ≡ n → 32 ≤ n → n ≤ 65504 → data_at bytes n ≡ Ok x → Stands bytes x.0 x.1
unfolding data_at
data_found bytes n x has size least greatest e =
    let flags : ℕ = slice_index bytes 5 in
    let offset : ℕ = u32_at bytes 8 in
    let payload : List ℕ = slice_range bytes 32 n in
    let a = guard (not (is_data_flags flags)) Flags _ x e in
    let b = guard (ltb (length bytes) (aligned n)) Short _ x a.1 in
    let u = guard (not (eqb (offset % 32) 0)) Alignment _ x b.1 in
    let d = guard (not (is_padded bytes n)) Alignment _ x u.1 in
    let v = guard (ltb 16777216 (offset + aligned n)) Range _ x d.1 in
    let room : aligned n ≤ length bytes = ltb-false _ _ b.0 in
    let end : offset + aligned n ≤ 16777216 = ltb-false _ _ v.0 in
    let fits = has.bytes_fit in
    let h = header_at bytes in
    let begin = front_found bytes n flags 1 has (omega arith) size refl in
    let many : 32 + length payload ≡ n = omega (arith, length-take (n - 32) (drop 32 bytes), length-drop 32 bytes) in
    let apart : bytes ≡ front n flags 1 ++ (header_bytes h ++ (payload ++ (zeros_after n ++ drop (aligned n) bytes))) =
    begin ∙ ap (λ (r : List ℕ). front n flags 1 ++ r) (header_found bytes fits (omega arith) ∙ ap (λ (r : List ℕ). header_bytes h ++ r) (payload_found bytes n least room (not-false _ d.0))) in
    let joined : front n flags 1 ++ (header_bytes h ++ (payload ++ (zeros_after n ++ drop (aligned n) bytes))) ≡ (front n flags 1 ++ header_bytes h ++ payload ++ zeros_after n) ++ drop (aligned n) bytes = simp append_assoc in
    let named : bytes ≡ spelling (DATA h flags payload) ++ drop (aligned n) bytes =
    apart ∙ joined ∙ ap (λ (k : ℕ). (front k flags 1 ++ header_bytes h ++ payload ++ zeros_after k) ++ drop (aligned n) bytes) (sym many) in
    let at = header_offset bytes in
    let frame : IsFrame (DATA h flags payload) = (header_fits bytes fits (equal_from _ _ u.0) (omega arith), flags_found flags a.0, omega arith, omega (arith, at), bytes_all payload (IsBytes-take (n - 32) (drop 32 bytes) (IsBytes-drop 32 bytes fits))) in
    let sized : length (spelling (DATA h flags payload)) ≡ aligned n = data_size h flags payload ∙ ap aligned many in
    subst (λ (y : Wire × ℕ). Stands bytes y.0 y.1) (ok_is (DATA h flags payload, aligned n) x v.1) (record { frame = frame; size = sized; parts = named })

data_or_heartbeat_found : (bytes : List ℕ) (x : Wire × ℕ) → HasFront bytes 1 → data_or_heartbeat_at bytes ≡ Ok x → Stands bytes x.0 x.1
unfolding data_or_heartbeat_at
data_or_heartbeat_found bytes x has e =
    let n : ℕ = u32_at bytes 0 in
    let a = guard (ltb (length bytes) 32) Short _ x e in
    let long : 32 ≤ length bytes = ltb-false _ _ a.0 in
    elim (chosen (eqb n 0) (heartbeat_at bytes) _ (Ok x) a.1) [
      | inl h ↦ heartbeat_found bytes x has long (eqb-true _ _ h.0) h.1
      | inr h ↦
          let b = guard (ltb n 32 || ltb 65504 n) Length _ x h.1 in
          let p = or_parts _ _ b.0 in
          data_found bytes n x has refl (ltb-false _ _ p.0) (ltb-false _ _ p.1) b.1
    ]

kind_found : (bytes : List ℕ) (kind : ℕ) (x : Wire × ℕ) → HasFront bytes kind → kind_at bytes kind ≡ Ok x → Stands bytes x.0 x.1
unfolding kind_at
kind_found bytes kind x has e =
    elim (chosen (eqb kind 0) (pad_at bytes) _ (Ok x) e) [
      | inl h ↦ pad_found bytes x (of_kind bytes kind 0 has h.0) h.1
      | inr h ↦ elim (chosen (eqb kind 1) (data_or_heartbeat_at bytes) _ (Ok x) h.1) [
        | inl h ↦ data_or_heartbeat_found bytes x (of_kind bytes kind 1 has h.0) h.1
        | inr h ↦ elim (chosen (eqb kind 2) (nak_at bytes) _ (Ok x) h.1) [
          | inl h ↦ nak_found bytes x (of_kind bytes kind 2 has h.0) h.1
          | inr h ↦ elim (chosen (eqb kind 3) (status_at bytes) _ (Ok x) h.1) [
            | inl h ↦ status_found bytes x (of_kind bytes kind 3 has h.0) h.1
            | inr h ↦ elim (chosen (eqb kind 5) (setup_at bytes) _ (Ok x) h.1) [
              | inl h ↦ setup_found bytes x (of_kind bytes kind 5 has h.0) h.1
              | inr h ↦ absurd (no_ok Kind x h.1)
            ]
          ]
        ]
      ]
    ]

pub reading_found : (bytes : List ℕ) (x : Wire × ℕ) → IsBytes bytes → reading bytes ≡ Ok x → Stands bytes x.0 x.1
unfolding reading
reading_found bytes x fits e =
    let a = guard (ltb (length bytes) 8) Short _ x e in
    let b = guard (not (eqb (slice_index bytes 4) 0)) Version _ x a.1 in
    kind_found bytes (u16_at bytes 6) x (record { bytes_fit = fits; version = equal_from _ _ b.0; kind_is = refl }) b.1
