-- A frame's memory, from its parts to room.
use Rattle.std.proofs.Common.{◌≡◌, ℕ, zero, suc, ◌+◌, ◌*◌, ◌/◌, ◌%◌, ◌^◌, ◌≤◌, List, [], ◌∷◌, drop, length, take, sym, refl, ap, ◌∙◌, subst, arith}
use Rattle.std.specs.Int.{w64, to_le_bytes}
use Rattle.std.specs.Prelude.{slice_index}
use Rattle.theory.specs.Placed.{Data, Frame, Pad, frame_length}
use Rattle.theory.specs.Position.{Geometry, IsGeometry, aligned}
use Rattle.position.specs.declared.head.FrameHead.{FrameHead}
use Rattle.position.specs.Contents.{bytes_in, head_by}
use Rattle.position.specs.Words.{IsLegal}
use Rattle.position.proofs.Contents.{head_said}
use Rattle.publication.specs.declared.pass.FrameWords.{FrameWords}
use Rattle.atomic_table.specs.Table.{rest}
use Rattle.region.specs.declared.access.Access.{Access}
use Rattle.log_rule.specs.Claims.Memory.{IsCommittedFrame}
use Rattle.log_rule.proofs.InTerm.{words_cover}
use Rattle.log_memory.specs.declared.view.Site.{Site}
use Rattle.log_memory.specs.Places.{slot_of}
use Rattle.log_memory.specs.Rights.{HaveParts}
use Rattle.log_memory.specs.Frames.{HasPart}
use Rattle.log_memory.specs.Rule.{IsPart, ring}
use Rattle.log_memory.specs.Steps.{Carries, CarriesRange, IsPartAt, IsRoomAt, Mine, TakesBack}
use Rattle.log_memory.proofs.Facts.{head_length}

-- eight bytes a word
pub bytes_long : (ws : List ℕ) → length (bytes_in ws) ≡ 8 * length ws
bytes_long [] = refl
bytes_long (w ∷ ws) = ap (λ (n : ℕ). suc (suc (suc (suc (suc (suc (suc (suc n)))))))) (bytes_long ws) ∙ (let e : suc (suc (suc (suc (suc (suc (suc (suc (8 * length ws)))))))) ≡ 8 * suc (length ws) = omega arith in e)

-- of a list all
pub take_all : (n : ℕ) (xs : List ℕ) → length xs ≤ n → take n xs ≡ xs
take_all zero [] le = refl
take_all (suc n) [] le = refl
take_all zero (x ∷ xs) le = absurd (omega arith)
take_all (suc n) (x ∷ xs) le = ap (λ (l : List ℕ). x ∷ l) (take_all n xs (omega arith))

-- what lies behind a row that is carried
pub carries_drop : (is : ℕ → Access → Type 0) (k count : ℕ) (before mine : List (ℕ × Access)) → Carries is k count before mine → drop count mine ≡ before
carries_drop is k zero before mine c = c
carries_drop is k (suc count) before mine c = ap (drop (suc count)) c.2 ∙ carries_drop is (suc k) count before c.1 c.4

legal_length : (g : Geometry) → IsGeometry g → (f : Frame) → IsLegal g f → (32 ≤ frame_length f) × (frame_length f ≤ 2 ^ 31)
legal_length g is (Data flags payload) l = (omega arith, (let m = is.mtu.greatest in let n = l.1 in omega arith))
legal_length g is (Pad n) l = (l.0, (let m = is.term.greatest in let a = l.1 in omega arith))

-- a committed frame's first word says how long it is
module _ (t : Site) (legal : IsGeometry t.key.identity.geometry) (f : FrameWords) (done : IsCommittedFrame t.key.identity f) (n : ℕ) (word : n ≡ slice_index f.words 0) (p : ℕ) (at : p ≡ f.start) (head : FrameHead) (said : head ≡ head_by p (to_le_bytes w64 n)) where
  pub length_said : head.frame_length ≡ frame_length done.content
  length_said =
      ap (λ (h : FrameHead). h.frame_length) (said ∙ (λ j. head_by (at j) (to_le_bytes w64 (word j))) ∙ ap (λ (ws : List ℕ). head_by f.start (to_le_bytes w64 (slice_index ws 0))) done.spelt ∙ head_said t.key.identity f.start done.content legal done.legal)
      ∙ head_length f.start done.content

  pub short : head.frame_length ≤ 2147483648
  short = let e = length_said in let l = (legal_length t.key.identity.geometry legal done.content done.legal).1 in omega arith

  pub covers_words : (bytes : ℕ) → bytes ≡ aligned head.frame_length → (bytes ≡ 8 * length f.words) × (bytes % 32 ≡ 0) × (32 ≤ bytes) × (bytes ≤ 2 ^ 32)
  covers_words bytes is =
      let l = legal_length t.key.identity.geometry legal done.content done.legal in let e = length_said in
      (is ∙ ap aligned length_said ∙ sym (words_cover t.key.identity f done), whole bytes head.frame_length is, most bytes head.frame_length (frame_length done.content) is e l.0, low bytes head.frame_length (frame_length done.content) is e l.1)
    where
      whole : (b n : ℕ) → b ≡ aligned n → b % 32 ≡ 0
      whole b n e = omega arith

      most : (b n m : ℕ) → b ≡ aligned n → n ≡ m → 32 ≤ m → 32 ≤ b
      most b n m e f le = omega arith

      low : (b n m : ℕ) → b ≡ aligned n → n ≡ m → m ≤ 2 ^ 31 → b ≤ 2 ^ 32
      low b n m e f le = omega arith

-- the slots that were taken, by how many bytes that are
module _ (t : Site) (m m' : Mine) (n : ℕ) (told : TakesBack t m n m') (empty : m.1 ≡ []) (first bytes : ℕ) (at : first ≡ slot_of (ring t) m.0.room.freed 0) (long : bytes ≡ 8 * length told.frame.words) (whole : bytes % 32 ≡ 0) where
  pub taken_row : Carries (IsPartAt t first told.frame.words told.round told.book) first (8 * (bytes / 32)) [] m'.1
  taken_row =
      let k : slot_of (ring t) told.frame.start 0 ≡ first = ap (λ (p : ℕ). slot_of (ring t) p 0) told.here ∙ sym at in
      subst (λ (x : ℕ × ℕ × List (ℕ × Access)). Carries (IsPartAt t x.0 told.frame.words told.round told.book) x.0 x.1 x.2 m'.1) (λ j. (k j, count bytes (length told.frame.words) long whole j, empty j)) told.carries
    where
      count : (b l : ℕ) → b ≡ 8 * l → b % 32 ≡ 0 → 8 * l / 4 ≡ 8 * (b / 32)
      count b l e w = omega arith

  pub taken_parts : HaveParts t first (8 * (bytes / 32)) m'.1
  taken_parts = record { words = told.frame.words; life = told.round; book = told.book; row = taken_row }

  -- and as room
  pub room_row : (mine : List (ℕ × Access)) → Carries (IsRoomAt t) first (8 * (bytes / 32)) [] mine → CarriesRange t (IsRoomAt t) m.0.room.freed (8 * length told.frame.words) [] mine
  room_row mine c = subst (λ (x : ℕ × ℕ). Carries (IsRoomAt t) x.0 x.1 [] mine) (λ j. (at j, count bytes (length told.frame.words) long whole j)) c
    where
      count : (b l : ℕ) → b ≡ 8 * l → b % 32 ≡ 0 → 8 * (b / 32) ≡ 8 * l / 4
      count b l e w = omega arith

-- the slot of a consumer, by the first of its unit
pub slot_is : (n p q j first : ℕ) → first ≡ slot_of n p 0 → p ≡ q → first + j ≡ slot_of n q j
slot_is n p q j first e at = go (p / 32 % n) first j e ∙ ap (λ (x : ℕ). slot_of n x j) at
  where
    go : (u first j : ℕ) → first ≡ 8 * u + 0 → first + j ≡ 8 * u + j
    go u first j e = omega arith

-- what stands in front of two rows that are one is one
pub first_value : {A : Type 0} (k : ℕ) (a b : A) (xs ys : List (ℕ × A)) → (k, a) ∷ xs ≡ (k, b) ∷ ys → a ≡ b
first_value k a b xs ys e = ap (front a) e
  where
    front : {A : Type 0} → A → List (ℕ × A) → A
    front d [] = d
    front d (x ∷ xs) = x.1

-- what was found in the slot is the part
pub part_is : (t : Site) (f : FrameWords) (number slot : ℕ) (mine : List (ℕ × Access)) (g : Access) → slot ≡ slot_of (ring t) f.start number → mine ≡ (slot, g) ∷ rest mine → (h : HasPart t f number mine) → IsPart t (slot_of (ring t) f.start 0) f.words h.round h.book g
part_is t f number slot mine g k had h =
    subst (IsPart t (slot_of (ring t) f.start 0) f.words h.round h.book) (first_value (slot_of (ring t) f.start number) h.access g (rest mine) (rest mine) (sym h.there ∙ had ∙ ap (λ (n : ℕ). (n, g) ∷ rest mine) k)) h.is
