-- What a committed frame's first word says of it, and where its payload lies.
use Rattle.std.proofs.lemmas.Bool.Decides.{leb_tells}
use Rattle.std.proofs.Common.{Bool, cond, ⊎_elim, ◌≡◌, ℕ, ◌+◌, ◌-◌, ◌*◌, ◌≤◌, List, [], ◌∷◌, drop, length, sym, refl, ap, ◌∙◌, arith}
use Rattle.std.specs.Prelude.{slice_index}
use Rattle.std.specs.Int.{w64, to_le_bytes}
use Rattle.theory.specs.Bytes.{Identity}
use Rattle.theory.specs.Position.{Geometry, IsGeometry, aligned}
use Rattle.theory.specs.Placed.{Data, Frame, Pad, frame_length}
use Rattle.position.specs.declared.head.FrameHead.{FrameHead}
use Rattle.position.specs.declared.head.FrameKind.{FrameKind}
use Rattle.position.specs.declared.head.FrameKind.TheVariants as kinds
use Rattle.position.specs.Heads.{head_of}
use Rattle.position.specs.Contents.{bytes_in, head_by}
use Rattle.position.specs.Words.{IsLegal}
use Rattle.position.proofs.Contents.{head_said}
use Rattle.publication.specs.declared.pass.FrameWords.{FrameWords}
use Rattle.log_rule.specs.Claims.Memory.{IsCommittedFrame}
use Rattle.log_rule.proofs.InTerm.{words_cover}
use Rattle.shared_log.specs.Steps.Readers.{fitting, part_bytes, part_of}

none_dropped : (l : List ℕ) → drop 0 l ≡ l
none_dropped [] = refl
none_dropped (x ∷ xs) = refl

front_dropped : {A : Type 0} (x : A) (xs : List A) → drop 1 (x ∷ xs) ≡ xs
front_dropped x [] = refl
front_dropped x (y ∷ ys) = refl

pub behind_first : {A : Type 0} (l : List A) (x : A) (xs : List A) → l ≡ x ∷ xs → drop 1 l ≡ xs
behind_first l x xs e = ap (drop 1) e ∙ front_dropped x xs

-- the bytes behind a header are those of the words behind it
pub behind_header : (ws : List ℕ) → drop 32 (bytes_in ws) ≡ bytes_in (drop 4 ws)
behind_header [] = refl
behind_header (a ∷ []) = refl
behind_header (a ∷ b ∷ []) = refl
behind_header (a ∷ b ∷ c ∷ []) = refl
behind_header (a ∷ b ∷ c ∷ d ∷ ws) = none_dropped (bytes_in ws) ∙ ap bytes_in (sym (none_dropped ws))

long_of : (p : ℕ) (f : Frame) → (head_of p f).frame_length ≡ frame_length f
long_of p (Data flags payload) = refl
long_of p (Pad n) = refl

fitting_low : (count room : ℕ) → (fitting count room ≤ count) × (fitting count room ≤ room)
fitting_low count room = ⊎_elim
    (λ yes. let e : fitting count room ≡ count = ap (λ (b : Bool). cond b count 0) yes.0 in let le = yes.1 in (omega arith, omega arith))
    (λ not. let e : fitting count room ≡ 0 = ap (λ (b : Bool). cond b count 0) not.0 in (omega arith, omega arith))
    (leb_tells count room)

legal_long : (g : Geometry) (f : Frame) → IsLegal g f → 32 ≤ frame_length f
legal_long g (Data flags payload) l = omega arith
legal_long g (Pad n) l = l.0

pub part_low : (head : FrameHead) (room : ℕ) → (part_bytes head room ≤ head.frame_length - 32) × (part_bytes head room ≤ room)
part_low head room = go head.kind (head.frame_length - 32) room
  where
    go : (kind : FrameKind) (count room : ℕ) → (part_of kind count room ≤ count) × (part_of kind count room ≤ room)
    go kinds.Data count room = fitting_low count room
    go kinds.Pad count room = (omega arith, omega arith)

-- so much of its payload lies in the frame
pub part_inside : (i : Identity) (f : FrameWords) → IsGeometry i.geometry → IsCommittedFrame i f → (n p room : ℕ) → n ≡ slice_index f.words 0 → p ≡ f.start → 32 + part_bytes (head_by p (to_le_bytes w64 n)) room ≤ 8 * length f.words
part_inside i f g d n p room word at =
    let head : FrameHead = head_by p (to_le_bytes w64 n) in
    let said : head.frame_length ≡ frame_length d.content = ap (λ (h : FrameHead). h.frame_length) ((λ j. head_by (at j) (to_le_bytes w64 (word j))) ∙ ap (λ (ws : List ℕ). head_by f.start (to_le_bytes w64 (slice_index ws 0))) d.spelt ∙ head_said i f.start d.content g d.legal) ∙ long_of f.start d.content in
    let low = (part_low head room).0 in let long = legal_long i.geometry d.content d.legal in let all = words_cover i f d in
    go (part_bytes head room) head.frame_length (frame_length d.content) (length f.words) low said long all
  where
    go : (b h l w : ℕ) → b ≤ h - 32 → h ≡ l → 32 ≤ l → 8 * w ≡ aligned l → 32 + b ≤ 8 * w
    go b h l w low e long all = omega arith
