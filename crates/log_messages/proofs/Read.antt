-- Frames that a reader reads and passes.
use Rattle.std.proofs.Common.{◌≡◌, ℕ, ◌+◌, ◌-◌, ◌≤◌, ◌<◌, ◌^◌, inl, inr, List, [], ◌∷◌, ◌++◌, map, length, take, false, true, Bool, Option, None, Ok, Err, refl, sym, ap, ◌∙◌, subst, arith, append-nil, ◌||◌, ◌/◌, ◌*◌}
use Rattle.std.specs.Prelude.{⊤, IfErr, IfOk, Result, option_map}
use Rattle.std.specs.Result.{is_err}
use Rattle.std.specs.Option.{option_to_list}
use Rattle.std.proofs.lemmas.List.{map-append}
use Rattle.std.proofs.Math.Seq.{take-append_seam}
use Rattle.theory.specs.Bytes.{Identity}
use Rattle.theory.specs.Position.{IsGeometry}
use Rattle.theory.specs.Placed.{Among, Chain, Data, Frame, Pad, Placed, end_of, frame_length, payload_of}
use Rattle.theory.specs.Assembly.{Assembly}
use Rattle.theory.proofs.Follow.{Chain-push}
use Rattle.std.specs.List.{AllByRecursion}
use Rattle.theory.proofs.Lists.{all_pushed, among_right}
use Rattle.assembler.specs.Assembling.{Assembling}
use Rattle.assembler.specs.Hearing.{RefusesFrame, TakesFrame, assembled, heard_of}
use Rattle.assembler.proofs.Hearing.{after_begun, after_given, assembled_behind, assembled_more}
use Rattle.assembler.specs.declared.assembler.Message.{Message}
use Rattle.assembler.specs.declared.fault.AssemblyError.{AssemblyError}
use Rattle.position.specs.declared.head.FrameHead.{FrameHead}
use Rattle.position.specs.Heads as heads
use Rattle.position.specs.Heads.{head_of}
use Rattle.publication.specs.declared.pass.FrameWords.{FrameWords}
use Rattle.publication.specs.declared.pass.Pass.{Pass}
use Rattle.publication.specs.Contents.{frame_in}
use Rattle.shared_log.specs.Steps.Handles.{LogValue}
use Rattle.shared_log.specs.Readers.{Advances, Has, IsReaderOf, ReaderValue, ReadsFrame, ReadsNone, known_of, misses_of}
use Rattle.shared_log.specs.Sourced.{placed}
use Rattle.shared_log.proofs.Sourced.{passes}
use Rattle.log_messages.specs.Reading.{FindsNone, HasRead, HearsOne, IsWhole, Reading, ReadsOne, RefusesOne, read_by}

-- the frame where it stood was read and passed
pub record IsPassed (r s : ReaderValue) (f : Placed) : Type 0 where
  pub read : read_by s ≡ read_by r ++ f ∷ []
  pub at : f.at ≡ r.position
  pub ends : s.position ≡ end_of f
  pub number : s.number ≡ r.number
  pub looked : misses_of s ≡ misses_of r
  pub identity : s.held.pass.identity ≡ r.held.pass.identity
  pub long : 32 ≤ frame_length f.frame
  pub words : FrameWords
  pub known : known_of s ≡ known_of r ++ words ∷ []
  pub whole : IsWhole words

head_length : (p : ℕ) (f : Frame) → (head_of p f).frame_length ≡ frame_length f
head_length p (Data flags payload) = refl
head_length p (Pad n) = refl

pub passed : (l : LogValue) (r q s : ReaderValue) (head : FrameHead) (before after : List ℕ) → IsGeometry l.identity.geometry → IsReaderOf l q → (h : ReadsFrame l r head before q after) → Advances q s → IsPassed r s (placed h.finds.frame)
passed l r q s head before after g of h a =
    let f = h.finds in let x : FrameWords = f.frame in let stands : q.position ≡ r.position = ap (λ (z : ReaderValue). z.position) f.stays.same in
    let known : map placed (known_of q) ≡ map placed (known_of r) ++ placed x ∷ [] = ap (map placed) f.known ∙ map-append placed (known_of r) (x ∷ []) in
    let among : Among (placed x) (map placed (known_of q)) = subst (Among (placed x)) (sym known) (among_right (placed x) (map placed (known_of r)) (placed x ∷ []) (inl refl)) in
    record {
      read = ap (map placed) a.known ∙ known;
      at = f.here.at;
      ends = (passes l q s s.position g of a refl).behind (placed x) among (f.here.at ∙ sym stands);
      number = ap (λ (z : ReaderValue). z.number) a.same ∙ ap (λ (z : ReaderValue). z.number) f.stays.same;
      looked = a.looked ∙ f.looked;
      identity = ap (λ (v : Pass). v.identity) a.pass.rest ∙ ap (λ (v : Pass). v.identity) f.stays.pass.rest;
      long = subst (λ n. 32 ≤ n) (ap (λ (z : FrameHead). z.frame_length) f.shown ∙ head_length r.position (frame_in x)) f.legal.long;
      words = x;
      known = a.known ∙ f.known;
      whole = sym ((passes l q s s.position g of a refl).behind (placed x) among (f.here.at ∙ sym stands)) ∙ ap (λ (z : ReaderValue). z.position) a.same ∙ f.read;
    }

-- the frame that a head and a block show
pub shown : (p : ℕ) (f : Frame) (head : FrameHead) (block rest : List ℕ) → head ≡ head_of p f → block ≡ payload_of f ++ rest → heads.frame_in head.kind head.flags head.frame_length block ≡ f
shown p (Data flags payload) head block rest e b =
    ap (λ (h : FrameHead). heads.frame_in h.kind h.flags h.frame_length block) e
    ∙ ap (λ (n : ℕ). Data flags (take n block)) (less (length payload))
    ∙ ap (λ (xs : List ℕ). Data flags (take (length payload) xs)) b
    ∙ ap (Data flags) (take-append_seam payload rest)
  where
    less : (n : ℕ) → 32 + n - 32 ≡ n
    less n = omega arith
shown p (Pad n) head block rest e b = ap (λ (h : FrameHead). heads.frame_in h.kind h.flags h.frame_length block) e

-- ---- what the reader has read

reads_more : (b : ℕ) (r s : ReaderValue) (a c : Assembling) (before now : Bool) (f : Placed) → HasRead b r a before → IsPassed r s f → (now ≡ false → (before ≡ false) × (c.begun ≡ (heard_of a.begun f.frame).begun)) → HasRead b s c now
reads_more b r s a c before now f h p step = record {
  legal = subst (λ (i : Identity). IsGeometry i.geometry) (sym p.identity) h.legal;
  chain = subst (λ (x : ℕ × List Placed). Chain b x.0 x.1) (λ j. (sym p.ends j, sym p.read j)) (Chain-push b r.position (read_by r) f h.chain p.at);
  whole = subst (AllByRecursion IsWhole) (sym p.known) (all_pushed IsWhole (known_of r) p.words h.whole p.whole);
  begun = λ e. (let both = step e in
      ap (λ (fs : List Placed). (assembled None fs).begun) p.read
      ∙ ap (λ (x : Assembly). x.begun) (assembled_more None (read_by r) f)
      ∙ after_begun (assembled None (read_by r)) f.frame
      ∙ ap (λ (o : Option (List ℕ)). (heard_of o f.frame).begun) (h.begun both.0)
      ∙ sym both.1);
}

or_none : (x y : Bool) → y ≡ false → x || y ≡ x
or_none false y e = e
or_none true y e = refl

or_some : (x y : Bool) → y ≡ true → (x || y) ≡ true
or_some false y e = e
or_some true y e = refl

pub keeps_read : {A : Type 0} (b : ℕ) (r s : ReaderValue) (a c : Assembling) (before e : Bool) (f : Placed) (g : Frame) (step : Result (Option (Message A)) AssemblyError) → HasRead b r a before → IsPassed r s f → g ≡ f.frame → e ≡ is_err step
    → IfOk step (λ m. TakesFrame a g (option_map (λ x. x.bytes.items) m) c) → HasRead b s c (before || e)
keeps_read b r s a c before e f g (Ok m) h p same err taken = reads_more b r s a c before (before || e) f h p (λ now. (sym (or_none before e err) ∙ now, ap (λ (x : Assembling). x.begun) taken.begun ∙ ap (λ (x : Frame). (heard_of a.begun x).begun) same))
keeps_read b r s a c before e f g (Err x) h p same err taken = reads_more b r s a c before (before || e) f h p (λ now. absurd (differ (sym (or_some before e err) ∙ now)))
  where
    kind : Bool → Type 0
    kind true = ⊤
    kind false = ⊥

    differ : true ≡ false → ⊥
    differ same = subst kind same tt

-- ---- one frame

aligned_on : (p n e : ℕ) → 32 ≤ n → e ≡ p + (n + 31) / 32 * 32 → p < e
aligned_on p n e long is = omega arith

one : (m n : Reading) (f : Placed) → IsPassed m.reader n.reader f → n.begun_at ≡ m.begun_at → n.assembler.greatest ≡ m.assembler.greatest → n.reader.position < 2 ^ 64 → ReadsOne m f n
one m n f p begun greatest low = record {
  reads = record { read = p.read; chain = (p.at, p.ends); number = p.number; begun_at = begun; greatest = greatest };
  forward = let at = p.at in let ends = p.ends in let long = p.long in omega arith;
  low = low;
  looked = p.looked;
}

abbrev pub after_of : Reading → ReaderValue → Assembling → Bool → Reading
after_of m s a e = record { reader = s; assembler = a; begun_at = m.begun_at; has_refused = m.has_refused || e }

more_given : (m : Reading) (s : ReaderValue) (f : Placed) (message : Option (List ℕ)) → HasRead m.begun_at m.reader m.assembler m.has_refused → IsPassed m.reader s f → message ≡ (heard_of m.assembler.begun f.frame).message
    → m.has_refused ≡ false → (assembled None (read_by s)).given ≡ (assembled None (read_by m.reader)).given ++ option_to_list message
more_given m s f message h p is none =
    ap (λ (fs : List Placed). (assembled None fs).given) p.read
    ∙ ap (λ (a : Assembly). a.given) (assembled_behind None (read_by m.reader) (f ∷ []))
    ∙ ap (λ (o : Option (List ℕ)). (assembled None (read_by m.reader)).given ++ (assembled o (f ∷ [])).given) (h.begun none)
    ∙ ap (λ (xs : List (List ℕ)). (assembled None (read_by m.reader)).given ++ xs) (after_given (record { begun = m.assembler.begun; given = [] }) f.frame ∙ ap option_to_list (sym is))

pub hears_if : {A : Type 0} (m : Reading) (s : ReaderValue) (a : Assembling) (e : Bool) (f : Placed) (g : Frame) (step : Result (Option (Message A)) AssemblyError) → HasRead m.begun_at m.reader m.assembler m.has_refused → IsPassed m.reader s f → g ≡ f.frame → e ≡ is_err step → s.position < 2 ^ 64
    → IfOk step (λ y. TakesFrame m.assembler g (option_map (λ x. x.bytes.items) y) a) → IfOk step (λ y. HearsOne m (option_map (λ x. x.bytes.items) y) (after_of m s a e))
hears_if m s a e f g (Ok y) h p same err low taken = record {
  frame = f;
  one = one m (after_of m s a e) f p refl (ap (λ (x : Assembling). x.greatest) taken.begun) low;
  takes = subst (λ (x : Frame). TakesFrame m.assembler x (option_map (λ x. x.bytes.items) y) a) same taken;
  refused = or_none m.has_refused e err;
  more = more_given m s f (option_map (λ x. x.bytes.items) y) h p (taken.message_is ∙ ap (λ (x : Frame). (heard_of m.assembler.begun x).message) same);
}
hears_if m s a e f g (Err x) h p same err low taken = taken

pub refuses_if : {A : Type 0} (m : Reading) (s : ReaderValue) (a : Assembling) (e : Bool) (f : Placed) (g : Frame) (step : Result (Option (Message A)) AssemblyError) → IsPassed m.reader s f → g ≡ f.frame → s.position < 2 ^ 64
    → IfErr step (λ x. RefusesFrame m.assembler g x a) → IfErr step (λ x. RefusesOne m x (after_of m s a e))
refuses_if m s a e f g (Ok y) p same low refused = refused
refuses_if m s a e f g (Err x) p same low refused = record {
  frame = f;
  one = one m (after_of m s a e) f p refl (ap (λ (z : Assembling). z.greatest) refused.dropped) low;
  refuses = subst (λ (z : Frame). RefusesFrame m.assembler z x a) same refused;
}

-- ---- none

pub none : (m : Reading) (q : ReaderValue) (before after : List ℕ) → ReadsNone m.reader before q after → FindsNone m (record m { reader = q })
none m q before after h =
    let f = h.finds in let stands : q.position ≡ m.reader.position = ap (λ (z : ReaderValue). z.position) f.rests.same in record {
      none = λ x has at. f.none x (kept x has) (at ∙ stands);
      same = refl;
      reads = record { read = ap (map placed) f.known ∙ sym (append-nil (read_by m.reader)); chain = stands; number = ap (λ (z : ReaderValue). z.number) f.rests.same; begun_at = refl; greatest = refl };
      looked = f.looked;
    }
  where
    kept : (x : FrameWords) → Has q x → Has m.reader x
    kept x (inl a) = inl (subst (Among x) h.finds.known a)
    kept x (inr a) = inr (subst (λ (v : Pass). Among x v.work.frames) h.finds.rests.pass a)

pub none_reads : (b : ℕ) (r q : ReaderValue) (a : Assembling) (refused : Bool) (before after : List ℕ) → ReadsNone r before q after → HasRead b r a refused → HasRead b q a refused
none_reads b r q a refused before after h read =
    let f = h.finds in record {
      legal = subst (λ (v : Pass). IsGeometry v.identity.geometry) (sym f.rests.pass) read.legal;
      chain = subst (λ (x : ℕ × List Placed). Chain b x.0 x.1) (λ j. (sym (ap (λ (z : ReaderValue). z.position) f.rests.same) j, map placed (sym f.known j))) read.chain;
      whole = subst (AllByRecursion IsWhole) (sym f.known) read.whole;
      begun = λ e. ap (λ (fs : List FrameWords). (assembled None (map placed fs)).begun) f.known ∙ read.begun e;
    }
