-- A frame that a reader finds, and what its part shows.
use Rattle.std.proofs.Common.{◌≡◌, ℕ, zero, suc, ◌+◌, ◌-◌, ◌*◌, ◌/◌, ◌%◌, ◌^◌, ◌<◌, ◌≤◌, List, [], ◌∷◌, length, take, drop, refl, sym, ap, ◌∙◌, subst, arith}
use Rattle.std.specs.Prelude.{bit_and}
use Rattle.std.specs.Int.{bit_at}
use Rattle.std.proofs.lemmas.List.{drop-take}
use Rattle.std.proofs.lemmas.Nat.Bits.{bit_at-lt, shr_and_one}
use mathlib.Core.Logic.{dite}
use native.Mathlib.Decide.{ℕ_discrete}
use Rattle.theory.specs.Placed as placed
use Rattle.theory.specs.Placed.{Data, Pad, covered, frame_length, payload_of}
use Rattle.theory.specs.Position.{aligned}
use Rattle.position.specs.declared.head.FrameHead.{FrameHead}
use Rattle.position.specs.declared.head.FrameKind.{FrameKind}
use Rattle.position.specs.declared.head.FrameKind.TheVariants as kinds
use Rattle.position.specs.Heads.{head_of}
use Rattle.position.specs.Contents.{head_by}
use Rattle.image_rule.specs.declared.view.Frame.{Frame}
use Rattle.image_rule.specs.declared.view.Site.{Site}
use Rattle.image_rule.specs.declared.view.View.{View}
use Rattle.image_rule.specs.Frames.{Among, IsContent, Says, Spells, end_of, frame_said}
use Rattle.image_rule.specs.Reads.{IsFound, first_of}
use Rattle.image_rule.specs.Steps.{FindsPart, Looks, Mine, with_miss}
use Rattle.image_rule.proofs.Found.{found_now}
use Rattle.image.specs.Handles.{ImageId}
use Rattle.image.specs.Reading.{ShowsFrame}

pub head_length : (p : ℕ) (c : placed.Frame) → (head_of p c).frame_length ≡ frame_length c
head_length p (Data flags payload) = refl
head_length p (Pad n) = refl

pub content_short : (c : placed.Frame) → IsContent c → frame_length c ≤ 16777216
content_short (Data flags payload) is = let a = is.1 in omega arith
content_short (Pad n) is = is.1

pub content_long : (c : placed.Frame) → IsContent c → 32 ≤ frame_length c
content_long (Data flags payload) is = omega arith
content_long (Pad n) is = is.0

-- ---- what a part shows

pub take_less : (n m : ℕ) (xs : List ℕ) → n ≤ m → take n (take m xs) ≡ take n xs
take_less zero m xs le = refl
take_less (suc n) zero xs le = absurd (omega arith)
take_less (suc n) (suc m) [] le = refl
take_less (suc n) (suc m) (x ∷ xs) le = ap (λ (ys : List ℕ). x ∷ ys) (take_less n m xs (omega arith))

-- so many bytes that begin with a frame's are as many of the frame's
pub first_bytes : (f : Frame) (n : ℕ) (items : List ℕ) → n ≤ length f.bytes → Spells f items → take n items ≡ take n f.bytes
first_bytes f n items le spells = sym (take_less n (length f.bytes) items le) ∙ ap (take n) spells

pub head_here : (f : Frame) (p : ℕ) (items bytes : List ℕ) → Says f → Spells f items → bytes ≡ take 8 items → head_by p bytes ≡ head_of p (frame_said f.bytes)
head_here f p items bytes s spells is = let l = s.long in ap (head_by p) (is ∙ first_bytes f 8 items (omega arith) spells) ∙ s.head p

pub payload_here : (f : Frame) (count : ℕ) (items bytes : List ℕ) → Says f → Spells f items → count ≡ length (payload_of (frame_said f.bytes)) → bytes ≡ drop 32 (take (32 + count) items) → bytes ≡ payload_of (frame_said f.bytes)
payload_here f count items bytes s spells n is =
    let l = s.long in
    is ∙ ap (drop 32) (first_bytes f (32 + count) items (omega arith) spells) ∙ drop-take 32 count f.bytes ∙ ap (λ (k : ℕ). take k (drop 32 f.bytes)) n ∙ s.payload

-- ---- its head

abbrev pub head_said : ℕ → Frame → FrameHead
head_said unit f = head_of (32 * unit) (frame_said f.bytes)

pub length_here : (f : Frame) (p : ℕ) (head : FrameHead) → head ≡ head_of p (frame_said f.bytes) → head.frame_length ≡ frame_length (frame_said f.bytes)
length_here f p head is = ap (λ (h : FrameHead). h.frame_length) is ∙ head_length p (frame_said f.bytes)

pub short_here : (f : Frame) (p : ℕ) (head : FrameHead) → Says f → head ≡ head_of p (frame_said f.bytes) → head.frame_length ≤ 2147483648
short_here f p head s is = let e = length_here f p head is in let l = content_short (frame_said f.bytes) s.content in omega arith

pub ends_here : (f : Frame) (p u size : ℕ) (head : FrameHead) → Says f → head ≡ head_of p (frame_said f.bytes) → f.unit ≡ u → size ≡ aligned head.frame_length → u + size / 32 ≡ end_of f
ends_here f p u size head s is at e = let n : size ≡ 32 * f.units = e ∙ ap aligned (length_here f p head is) ∙ sym s.covered in omega arith

pub some_units : (f : Frame) → Says f → 0 < f.units
some_units f s = let c = s.covered in let l = content_long (frame_said f.bytes) s.content in omega arith

abbrev is_data : FrameKind → Type 0
is_data kinds.Data = Unit
is_data kinds.Pad = ⊥

kinds_apart : kinds.Data ≡ kinds.Pad → ⊥
kinds_apart e = subst is_data e tt

data_length : (p : ℕ) (c : placed.Frame) → (head_of p c).kind ≡ kinds.Data → IsContent c → (length (payload_of c) ≡ frame_length c - 32) × (32 ≤ frame_length c) × (frame_length c ≤ 65504)
data_length p (Data flags payload) e is = let l = is.1 in (omega arith, omega arith, omega arith)
data_length p (Pad n) e is = absurd (kinds_apart (sym e))

pad_none : (p : ℕ) (c : placed.Frame) → (head_of p c).kind ≡ kinds.Pad → payload_of c ≡ []
pad_none p (Data flags payload) e = absurd (kinds_apart e)
pad_none p (Pad n) e = refl

module _ (f : Frame) (p : ℕ) (head : FrameHead) (s : Says f) (is : head ≡ head_of p (frame_said f.bytes)) where
  -- of a DATA frame
  pub data_count : head.kind ≡ kinds.Data → (head.frame_length - 32 ≡ length (payload_of (frame_said f.bytes))) × (32 ≤ head.frame_length) × (head.frame_length ≤ 65504)
  data_count of_data = let d = data_length p (frame_said f.bytes) (sym (ap (λ (h : FrameHead). h.kind) is) ∙ of_data) s.content in let l = length_here f p head is in let a = d.0 in let b = d.1 in let c = d.2 in (omega arith, omega arith, omega arith)

  -- a padding has no payload
  pub pad_count : head.kind ≡ kinds.Pad → 0 ≡ length (payload_of (frame_said f.bytes))
  pad_count of_pad = sym (ap length (pad_none p (frame_said f.bytes) (sym (ap (λ (h : FrameHead). h.kind) is) ∙ of_pad)))

-- ---- what a reader reads

bit_is : (n k : ℕ) → (bit_at n k ≡ 0 → ⊥) → bit_at n k ≡ 1
bit_is n k ne = let l = bit_at-lt n k in dite (ℕ_discrete (bit_at n k) 0) (λ z. absurd (ne z)) (λ no'. omega arith)

-- by the bit that a look found
abbrev pub bit_there : ℕ → ℕ → ℕ
bit_there n unit = bit_and (n / 2 ^ (unit % 64)) 1

pub looked_some : (t : Site) (m m' : Mine) (unit n : ℕ) → Looks t m n m' → unit ≡ m.0.reading.unit → (bit_there n unit ≡ 0 → ⊥) → FindsPart t m m'
looked_some t m m' unit n told at bit = told.found (ap (λ (x : ℕ). bit_at n (x % 64)) (sym at) ∙ bit_is n (unit % 64) (λ z. bit (shr_and_one n (unit % 64) ∙ z)))

pub looked_none : (t : Site) (m m' : Mine) (unit n : ℕ) → Looks t m n m' → unit ≡ m.0.reading.unit → bit_there n unit ≡ 0 → (m'.0 ≡ with_miss m.0) × (m'.1 ≡ m.1) × ((g : Frame) → Among g m.0.reading.known → g.unit ≡ m.0.reading.unit → ⊥)
looked_none t m m' unit n told at bit = told.none (ap (λ (x : ℕ). bit_at n (x % 64)) (sym at) ∙ sym (shr_and_one n (unit % 64)) ∙ bit)

module _ (t : Site) (m m' : Mine) (found : FindsPart t m m') where
  first_is : first_of m'.0.reading.known ≡ found.found.frame
  first_is = ap (λ (x : View). first_of x.reading.known) found.found.after

  pub shows_frame : (of of' : ImageId) (read_to read_to' unit : ℕ) (head : FrameHead) → of' ≡ of → unit ≡ m.0.reading.unit → read_to' ≡ end_of (first_of m'.0.reading.known) → head ≡ head_of (32 * unit) (frame_said (first_of m'.0.reading.known).bytes)
      → ShowsFrame (record { of = of; view = m.0; read_to = read_to }) head (payload_of (frame_said (first_of m'.0.reading.known).bytes)) (record { of = of'; view = m'.0; read_to = read_to' })
  shows_frame of of' read_to read_to' unit head same at ends is = record {
    finds = record {
      frame = found.found.frame;
      here = found.found.here;
      content = found.found.says.content;
      shown = is ∙ (λ j. head_of (32 * at j) (frame_said (first_is j).bytes));
      only = found.found.only;
      after = found.found.after;
    };
    payload_is = ap (λ (f : Frame). payload_of (frame_said f.bytes)) first_is;
    read_to = ends ∙ ap end_of first_is;
    covers = found.found.says.covered;
    same = (λ j. record { of = same j; view = m'.0; read_to = read_to' });
  }

  -- it reads a unit at the least
  pub reads_on : (read_to : ℕ) → read_to ≡ end_of (first_of m'.0.reading.known) → m.0.reading.unit < read_to
  reads_on read_to ends = let e = ends ∙ ap end_of first_is in let n = some_units found.found.frame found.found.says in let h = found.found.here in omega arith

  pub found_there : m.0.reading.reads ≡ 1 → IsFound m'.0 × (m'.0.reading.holds ≡ 1)
  found_there reads = (found_now m.0 m'.0 reads found.found, ap (λ (x : View). x.reading.holds) found.found.after)
