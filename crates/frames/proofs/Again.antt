-- What is spelled so is read so, whatever follows.
use Rattle.std.proofs.Common.{◌≡◌, ℕ, ◌+◌, ◌-◌, ◌%◌, ◌⊎◌, ◌||◌, true, false, not, eqb, ltb, List, [], ◌++◌, length, take, drop, Result, Ok, refl, sym, ap, ◌∙◌, append_assoc, inl, inr, arith}
use Rattle.std.specs.Prelude.{slice_index, slice_range, ◌==◌}
use Rattle.std.specs.List.{list_all}
use Rattle.std.specs.Int.{w32, w64}
use Rattle.std.proofs.lemmas.Bool.{le-ltb, ne_eqb}
use Rattle.std.proofs.lemmas.List.{take_at, drop_at, length-append, length-replicate}
use Rattle.theory.specs.Position.{aligned}
use Rattle.theory.specs.Wire.{Wire, DATA, PAD, HEARTBEAT, NAK, SM, SETUP, Header, Nak, Status, Setup, front, header_bytes, zeros_after, spelling, IsHeader, IsNak, IsStatus, IsSetup, IsFrame}
use Rattle.theory.proofs.Lengths.{data_size, payload_length}
use Rattle.frames.specs.declared.fault.FrameError.{FrameError}
use Rattle.frames.specs.Fields.{u16_at, u32_at, i32_at, i64_at}
use Rattle.frames.specs.Reading.{nak_at, status_at, setup_at, pad_at, heartbeat_at, data_at, data_or_heartbeat_at, kind_at, reading, header_at, nak_fields, status_fields, setup_fields}
use Rattle.frames.specs.Order.{is_padded, is_data_flags}
use Rattle.frames.proofs.Numbers.{fills32, fills64, signed_again}
use Rattle.frames.proofs.Guards.{zeros_again, flags_again}

asks_known : (asks : ℕ) → (asks ≡ 0) ⊎ (asks ≡ 128) → not (eqb asks 0 || eqb asks 128) ≡ false
asks_known asks (inl e) = rw e refl
asks_known asks (inr e) = rw e refl

nak_again : (f : Nak) (bytes rest : List ℕ) → IsNak f → bytes ≡ spelling (NAK f) ++ rest → nak_at bytes ≡ Ok (NAK f, 28)
unfolding nak_at nak_fields
nak_again f bytes rest fits e =
    let long : ltb (length bytes) 28 ≡ false = le-ltb _ _ (omega (arith, ap length e)) in
    let n : u32_at bytes 0 ≡ 28 = ap (λ b. u32_at b 0) e in
    let flags : slice_index bytes 5 ≡ 0 = ap (λ b. slice_index b 5) e in
    let f0 : i32_at bytes 8 ≡ f.session = ap (λ b. i32_at b 8) e ∙ signed_again w32 4 fills32 f.session [] fits.0 in
    let f1 : i32_at bytes 12 ≡ f.stream = ap (λ b. i32_at b 12) e ∙ signed_again w32 4 fills32 f.stream [] fits.1 in
    let f2 : i32_at bytes 16 ≡ f.term_id = ap (λ b. i32_at b 16) e ∙ signed_again w32 4 fills32 f.term_id [] fits.2 in
    let f3 : i32_at bytes 20 ≡ f.term_offset = ap (λ b. i32_at b 20) e ∙ signed_again w32 4 fills32 f.term_offset [] fits.3 in
    let f4 : i32_at bytes 24 ≡ f.length = ap (λ b. i32_at b 24) e ∙ signed_again w32 4 fills32 f.length [] fits.4 in
    rw (long, n, flags, f0, f1, f2, f3, f4) refl

status_again : (asks : ℕ) (f : Status) (bytes rest : List ℕ) → (asks ≡ 0) ⊎ (asks ≡ 128) → IsStatus f → bytes ≡ spelling (SM asks f) ++ rest → status_at bytes ≡ Ok (SM asks f, 36)
unfolding status_at status_fields
status_again asks f bytes rest flag fits e =
    let long : ltb (length bytes) 36 ≡ false = le-ltb _ _ (omega (arith, ap length e)) in
    let n : u32_at bytes 0 ≡ 36 = ap (λ b. u32_at b 0) e in
    let flags : slice_index bytes 5 ≡ asks = ap (λ b. slice_index b 5) e in
    let known : not (eqb asks 0 || eqb asks 128) ≡ false = asks_known asks flag in
    let f0 : i32_at bytes 8 ≡ f.session = ap (λ b. i32_at b 8) e ∙ signed_again w32 4 fills32 f.session [] fits.0 in
    let f1 : i32_at bytes 12 ≡ f.stream = ap (λ b. i32_at b 12) e ∙ signed_again w32 4 fills32 f.stream [] fits.1 in
    let f2 : i32_at bytes 16 ≡ f.term_id = ap (λ b. i32_at b 16) e ∙ signed_again w32 4 fills32 f.term_id [] fits.2 in
    let f3 : i32_at bytes 20 ≡ f.term_offset = ap (λ b. i32_at b 20) e ∙ signed_again w32 4 fills32 f.term_offset [] fits.3 in
    let f4 : i32_at bytes 24 ≡ f.window = ap (λ b. i32_at b 24) e ∙ signed_again w32 4 fills32 f.window [] fits.4 in
    let f5 : i64_at bytes 28 ≡ f.receiver = ap (λ b. i64_at b 28) e ∙ signed_again w64 8 fills64 f.receiver [] fits.5 in
    rw (long, n, flags, known, f0, f1, f2, f3, f4, f5) refl

setup_again : (f : Setup) (bytes rest : List ℕ) → IsSetup f → bytes ≡ spelling (SETUP f) ++ rest → setup_at bytes ≡ Ok (SETUP f, 40)
unfolding setup_at setup_fields
setup_again f bytes rest fits e =
    let long : ltb (length bytes) 40 ≡ false = le-ltb _ _ (omega (arith, ap length e)) in
    let n : u32_at bytes 0 ≡ 40 = ap (λ b. u32_at b 0) e in
    let flags : slice_index bytes 5 ≡ 0 = ap (λ b. slice_index b 5) e in
    let f0 : i32_at bytes 8 ≡ f.term_offset = ap (λ b. i32_at b 8) e ∙ signed_again w32 4 fills32 f.term_offset [] fits.0 in
    let f1 : i32_at bytes 12 ≡ f.session = ap (λ b. i32_at b 12) e ∙ signed_again w32 4 fills32 f.session [] fits.1 in
    let f2 : i32_at bytes 16 ≡ f.stream = ap (λ b. i32_at b 16) e ∙ signed_again w32 4 fills32 f.stream [] fits.2 in
    let f3 : i32_at bytes 20 ≡ f.initial_term_id = ap (λ b. i32_at b 20) e ∙ signed_again w32 4 fills32 f.initial_term_id [] fits.3 in
    let f4 : i32_at bytes 24 ≡ f.active_term_id = ap (λ b. i32_at b 24) e ∙ signed_again w32 4 fills32 f.active_term_id [] fits.4 in
    let f5 : i32_at bytes 28 ≡ f.term_length = ap (λ b. i32_at b 28) e ∙ signed_again w32 4 fills32 f.term_length [] fits.5 in
    let f6 : i32_at bytes 32 ≡ f.mtu = ap (λ b. i32_at b 32) e ∙ signed_again w32 4 fills32 f.mtu [] fits.6 in
    let f7 : i32_at bytes 36 ≡ f.ttl = ap (λ b. i32_at b 36) e ∙ signed_again w32 4 fills32 f.ttl [] fits.7 in
    rw (long, n, flags, f0, f1, f2, f3, f4, f5, f6, f7) refl

-- the offset and the whole header, behind any front of 8 bytes
offset_again : (n flags kind : ℕ) (h : Header) (bytes rest : List ℕ) → IsHeader h → bytes ≡ front n flags kind ++ header_bytes h ++ rest → u32_at bytes 8 ≡ h.term_offset
offset_again n flags kind h bytes rest fits e = ap (λ b. u32_at b 8) e ∙ fills32.again h.term_offset [] (omega (arith, fits.low))

header_again : (n flags kind : ℕ) (h : Header) (bytes rest : List ℕ) → IsHeader h → bytes ≡ front n flags kind ++ header_bytes h ++ rest → header_at bytes ≡ h
unfolding header_at
header_again n flags kind h bytes rest fits e =
    let f0 : u32_at bytes 8 ≡ h.term_offset = offset_again n flags kind h bytes rest fits e in
    let f1 : i32_at bytes 12 ≡ h.session = ap (λ b. i32_at b 12) e ∙ signed_again w32 4 fills32 h.session [] fits.session in
    let f2 : i32_at bytes 16 ≡ h.stream = ap (λ b. i32_at b 16) e ∙ signed_again w32 4 fills32 h.stream [] fits.stream in
    let f3 : i32_at bytes 20 ≡ h.term_id = ap (λ b. i32_at b 20) e ∙ signed_again w32 4 fills32 h.term_id [] fits.term_id in
    let f4 : i64_at bytes 24 ≡ h.reserved = ap (λ b. i64_at b 24) e ∙ signed_again w64 8 fills64 h.reserved [] fits.reserved in
    rw (f0, f1, f2, f3, f4) refl

on_unit : (o : ℕ) → o % 32 ≡ 0 → not (eqb (o % 32) 0) ≡ false
on_unit o e = rw e refl

pad_again : (h : Header) (n : ℕ) (bytes rest : List ℕ) → IsFrame (PAD h n) → bytes ≡ spelling (PAD h n) ++ rest → pad_at bytes ≡ Ok (PAD h n, 32)
unfolding pad_at
pad_again h n bytes rest fits e =
    let long : ltb (length bytes) 32 ≡ false = le-ltb _ _ (omega (arith, ap length e)) in
    let size : u32_at bytes 0 ≡ n = ap (λ b. u32_at b 0) e ∙ fills32.again n [] (omega (arith, fits.2)) in
    let least : ltb n 32 ≡ false = le-ltb _ _ fits.1 in
    let greatest : ltb 16777216 n ≡ false = le-ltb _ _ (omega (arith, fits.2)) in
    let flags : slice_index bytes 5 ≡ 192 = ap (λ b. slice_index b 5) e in
    let offset : u32_at bytes 8 ≡ h.term_offset = offset_again n 192 0 h bytes rest fits.0 e in
    let unit : not (eqb (h.term_offset % 32) 0) ≡ false = on_unit h.term_offset fits.0.unit in
    let end : ltb 16777216 (h.term_offset + aligned n) ≡ false = le-ltb _ _ fits.2 in
    let all : header_at bytes ≡ h = header_again n 192 0 h bytes rest fits.0 e in
    rw (long, size, least, greatest, flags, offset, unit, end, all) refl

heartbeat_again : (h : Header) (bytes rest : List ℕ) → IsHeader h → bytes ≡ spelling (HEARTBEAT h) ++ rest → data_or_heartbeat_at bytes ≡ Ok (HEARTBEAT h, 32)
unfolding data_or_heartbeat_at heartbeat_at
heartbeat_again h bytes rest fits e =
    let long : ltb (length bytes) 32 ≡ false = le-ltb _ _ (omega (arith, ap length e)) in
    let size : u32_at bytes 0 ≡ 0 = ap (λ b. u32_at b 0) e in
    let flags : slice_index bytes 5 ≡ 192 = ap (λ b. slice_index b 5) e in
    let offset : u32_at bytes 8 ≡ h.term_offset = offset_again 0 192 1 h bytes rest fits e in
    let unit : not (eqb (h.term_offset % 32) 0) ≡ false = on_unit h.term_offset fits.unit in
    let end : ltb 16777216 h.term_offset ≡ false = le-ltb _ _ fits.low in
    let all : header_at bytes ≡ h = header_again 0 192 1 h bytes rest fits e in
    rw (long, size, flags, offset, unit, end, all) refl

-- ---- a data frame

-- how its bytes group
data_parts : (h : Header) (flags : ℕ) (payload rest : List ℕ) → spelling (DATA h flags payload) ++ rest ≡ ((front (32 + length payload) flags 1 ++ header_bytes h) ++ payload) ++ (zeros_after (32 + length payload) ++ rest)
data_parts h flags payload rest = append_assoc ((front (32 + length payload) flags 1 ++ header_bytes h) ++ payload) (zeros_after (32 + length payload)) rest

data_length : (h : Header) (flags : ℕ) (payload rest : List ℕ) → length (spelling (DATA h flags payload) ++ rest) ≡ aligned (32 + length payload) + length rest
data_length h flags payload rest = omega (arith, length-append (spelling (DATA h flags payload)) rest, data_size h flags payload)

pub data_payload : (h : Header) (flags : ℕ) (payload rest : List ℕ) → slice_range (spelling (DATA h flags payload) ++ rest) 32 (32 + length payload) ≡ payload
data_payload h flags payload rest =
    let few : 32 + length payload - 32 ≡ length payload = omega arith in
    let behind : drop 32 (spelling (DATA h flags payload) ++ rest) ≡ payload ++ (zeros_after (32 + length payload) ++ rest) = ap (drop 32) (data_parts h flags payload rest) in
    ap (λ (k : ℕ). take k (drop 32 (spelling (DATA h flags payload) ++ rest))) few ∙ ap (take (length payload)) behind ∙ take_at payload (zeros_after (32 + length payload) ++ rest) (length payload) refl

data_padded : (h : Header) (flags : ℕ) (payload rest : List ℕ) → is_padded (spelling (DATA h flags payload) ++ rest) (32 + length payload) ≡ true
data_padded h flags payload rest =
    let n : ℕ = 32 + length payload in
    let behind : drop n (spelling (DATA h flags payload) ++ rest) ≡ zeros_after n ++ rest = ap (drop n) (data_parts h flags payload rest) ∙ drop_at ((front n flags 1 ++ header_bytes h) ++ payload) (zeros_after n ++ rest) n (payload_length h n flags payload) in
    let zeros : slice_range (spelling (DATA h flags payload) ++ rest) n (aligned n) ≡ zeros_after n = ap (take (aligned n - n)) behind ∙ take_at (zeros_after n) rest (aligned n - n) (length-replicate {A = ℕ} (aligned n - n) 0) in
    ap (list_all (λ b. b == 0)) zeros ∙ zeros_again (aligned n - n)

data_again : (h : Header) (flags : ℕ) (payload bytes rest : List ℕ) → IsFrame (DATA h flags payload) → bytes ≡ spelling (DATA h flags payload) ++ rest → data_or_heartbeat_at bytes ≡ Ok (DATA h flags payload, aligned (32 + length payload))
unfolding data_or_heartbeat_at data_at
data_again h flags payload bytes rest fits e =
    let n : ℕ = 32 + length payload in
    let whole : length bytes ≡ aligned n + length rest = ap length e ∙ data_length h flags payload rest in
    let long : ltb (length bytes) 32 ≡ false = le-ltb _ _ (omega arith) in
    let size : u32_at bytes 0 ≡ n = ap (λ b. u32_at b 0) e ∙ fills32.again n [] (omega (arith, fits.2)) in
    let some : eqb n 0 ≡ false = ne_eqb n 0 (λ h. omega arith) in
    let least : ltb n 32 ≡ false = le-ltb _ _ (omega arith) in
    let greatest : ltb 65504 n ≡ false = le-ltb _ _ fits.2 in
    let begin : bytes ≡ front n flags 1 ++ header_bytes h ++ (payload ++ zeros_after n ++ rest) = e ∙ data_parts h flags payload rest ∙ ap (λ (r : List ℕ). (front n flags 1 ++ header_bytes h) ++ r) (sym (append_assoc payload (zeros_after n) rest)) in
    let flag : slice_index bytes 5 ≡ flags = ap (λ b. slice_index b 5) e in
    let known : not (is_data_flags flags) ≡ false = ap not (flags_again flags fits.1) in
    let room : ltb (length bytes) (aligned n) ≡ false = le-ltb _ _ (omega arith) in
    let offset : u32_at bytes 8 ≡ h.term_offset = offset_again n flags 1 h bytes (payload ++ zeros_after n ++ rest) fits.0 begin in
    let unit : not (eqb (h.term_offset % 32) 0) ≡ false = on_unit h.term_offset fits.0.unit in
    let clean : not (is_padded bytes n) ≡ false = ap (λ b. not (is_padded b n)) e ∙ ap not (data_padded h flags payload rest) in
    let end : ltb 16777216 (h.term_offset + aligned n) ≡ false = le-ltb _ _ fits.3 in
    let all : header_at bytes ≡ h = header_again n flags 1 h bytes (payload ++ zeros_after n ++ rest) fits.0 begin in
    let text : slice_range bytes 32 n ≡ payload = ap (λ b. slice_range b 32 n) e ∙ data_payload h flags payload rest in
    rw (long, size, some, least, greatest, flag, known, room, offset, unit, clean, end, all, text) refl

-- ---- any frame

-- the front of 8 bytes says the type
kind_again : (n flags kind : ℕ) (bytes rest : List ℕ) (out : Result (Wire × ℕ) FrameError) → u16_at (front n flags kind) 6 ≡ kind → bytes ≡ front n flags kind ++ rest → kind_at bytes kind ≡ out → reading bytes ≡ out
unfolding reading
kind_again n flags kind bytes rest out code e h =
    let long : ltb (length bytes) 8 ≡ false = le-ltb _ _ (omega (arith, ap length e)) in
    let version : slice_index bytes 4 ≡ 0 = ap (λ b. slice_index b 4) e in
    let type : u16_at bytes 6 ≡ kind = ap (λ b. u16_at b 6) e ∙ code in
    rw (long, version, type) h

-- the frame, and the bytes that it takes
pub reading_again : (w : Wire) (rest : List ℕ) → IsFrame w → reading (spelling w ++ rest) ≡ Ok (w, length (spelling w))
unfolding kind_at
reading_again (DATA h flags payload) rest fits =
    let n : ℕ = 32 + length payload in
    let size : length (spelling (DATA h flags payload)) ≡ aligned n = data_size h flags payload in
    kind_again n flags 1 (spelling (DATA h flags payload) ++ rest) (header_bytes h ++ (payload ++ (zeros_after n ++ rest))) _ refl (data_parts h flags payload rest ∙ append_assoc (front n flags 1 ++ header_bytes h) payload (zeros_after n ++ rest)) (rw size (data_again h flags payload (spelling (DATA h flags payload) ++ rest) rest fits refl))
reading_again (PAD h n) rest fits = kind_again n 192 0 (spelling (PAD h n) ++ rest) (header_bytes h ++ rest) _ refl refl (pad_again h n (spelling (PAD h n) ++ rest) rest fits refl)
reading_again (HEARTBEAT h) rest fits = kind_again 0 192 1 (spelling (HEARTBEAT h) ++ rest) (header_bytes h ++ rest) _ refl refl (heartbeat_again h (spelling (HEARTBEAT h) ++ rest) rest fits refl)
reading_again (NAK f) rest fits = kind_again 28 0 2 (spelling (NAK f) ++ rest) (drop 8 (spelling (NAK f) ++ rest)) _ refl refl (nak_again f (spelling (NAK f) ++ rest) rest fits refl)
reading_again (SM asks f) rest fits = kind_again 36 asks 3 (spelling (SM asks f) ++ rest) (drop 8 (spelling (SM asks f) ++ rest)) _ refl refl (status_again asks f (spelling (SM asks f) ++ rest) rest fits.0 fits.1 refl)
reading_again (SETUP f) rest fits = kind_again 40 0 5 (spelling (SETUP f) ++ rest) (drop 8 (spelling (SETUP f) ++ rest)) _ refl refl (setup_again f (spelling (SETUP f) ++ rest) rest fits refl)
