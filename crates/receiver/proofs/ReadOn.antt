-- What an image's one reader reads, told of the images of the definitions that it shows.
use Rattle.std.proofs.Common.{◌≡◌, ℕ, ◌≤◌, ◌+◌, ◌^◌, List, [], ◌∷◌, map, length, refl, sym, ap, ◌∙◌, subst, arith}
use Rattle.std.specs.Prelude.{slice_get, slice_index, slice_set}
use Rattle.std.specs.List.{AllByRecursion}
use Rattle.theory.specs.Position.{IsGeometry, max_position}
use Rattle.theory.specs.Placed.{Among, Placed, end_of, frame_length}
use Rattle.theory.specs.Units.{IsContiguous}
use Rattle.theory.specs.Consumer.{Consumer}
use Rattle.theory.proofs.Lists.{all_at}
use Rattle.position.specs.declared.head.FrameHead.{FrameHead}
use Rattle.image.specs.Seen.{IsFit}
use Rattle.image.specs.Handles.{ImageWords, ReaderSeat, position_of}
use Rattle.image.specs.Meeting as hand
use Rattle.image.specs.Meeting.{AreAlone}
use Rattle.image.specs.Rebuilding.{Inserting, IsInserterOf, geometry_of, join_of}
use Rattle.receiver.specs.Receiving.{Opened}
use Rattle.receiver.specs.Representing.{IsAtEnd, ReadsPast, RepresentsImage, with_reader, words_of}

-- ---- which image it is

pub same_words : (image : ImageWords) (i : Inserting) → IsInserterOf image i → words_of i ≡ image
same_words image i h = (λ j. record { of = h.of j; key = h.key j })

pub alone_to : (image : ImageWords) (j : Inserting) (q : ReaderSeat) → AreAlone image j q → AreAlone (words_of j) j q
alone_to image j q a = subst (λ (x : ImageWords). AreAlone x j q) (sym (same_words image j a.inserter)) a

-- ---- the one consumer

record IsOnly (cs : List Consumer) (p : ℕ) : Type 0 where
  consumer : Consumer
  one : cs ≡ consumer ∷ []
  here : consumer.at ≡ p

only : (cs : List Consumer) (p : ℕ) → p ∷ [] ≡ map (λ (c : Consumer). c.at) cs → IsOnly cs p
only [] p e = absurd (cc)
only (c ∷ []) p e = record { consumer = c; one = refl; here = cc }
only (c ∷ d ∷ ds) p e = absurd (cc)

only_shown : (v : Inserting) (o : Opened) (p : ℕ) → v.seen ≡ p ∷ [] → RepresentsImage v o → IsOnly o.image.consumers p
only_shown v o p at h = only o.image.consumers p (sym at ∙ h.consumers)

-- ---- it stands at the contiguous end

pub at_end : (v : Inserting) (p : ℕ) → v.seen ≡ p ∷ [] → IsContiguous v.stored (join_of v) p → (o : Opened) → RepresentsImage v o → IsAtEnd o 0
at_end v p at end o h =
    let c = only_shown v o p at h in
    record {
      consumer = c.consumer;
      which = ap (λ (cs : List Consumer). slice_get cs 0) c.one;
      end = subst (IsContiguous o.image.stored o.image.join) (sym c.here) (subst (λ (x : List Placed × ℕ). IsContiguous x.0 x.1 p) (λ j. (h.stored j, h.join j)) end);
    }

-- ---- or it reads the frame there

-- what the call promises of the frame that it passes
abbrev pub Passes : Inserting → ℕ → ℕ → Type 0
Passes v p end = (s : Placed) × Among s v.stored × (s.at ≡ p) × (end ≡ end_of s)

-- the reader has moved, and nothing else
pub moved_only : (v w : Inserting) (end : ℕ) → w ≡ record v { seen = end ∷ [] } → w ≡ record v { seen = w.seen }
moved_only v w end e = e ∙ ap (λ (xs : List ℕ). record v { seen = xs }) (sym (ap (λ (x : Inserting). x.seen) e))

abbrev pub AreFit : Inserting → Type 0
AreFit v = AllByRecursion (IsFit (geometry_of v).term_length v.high) v.stored

pub forward : (v w : Inserting) (p end : ℕ) → v.seen ≡ p ∷ [] → w.seen ≡ end ∷ [] → Passes v p end → AreFit v → v.high ≤ max_position (geometry_of v) → IsGeometry (geometry_of v) → (slice_index v.seen 0 + 32 ≤ slice_index w.seen 0) × (slice_index w.seen 0 ≤ 2 ^ 55)
forward v w p end at to (s, a, here, e) fit low legal =
    let is : IsFit (geometry_of v).term_length v.high s = all_at (IsFit (geometry_of v).term_length v.high) s v.stored fit a in
    let long : 32 ≤ frame_length s.frame = is.long in
    let marked : end_of s ≤ v.high = is.marked in
    let short : (geometry_of v).term_length ≤ 16777216 = legal.term.greatest in
    let from : slice_index v.seen 0 ≡ p = ap (λ (xs : List ℕ). slice_index xs 0) at in
    let stands : slice_index w.seen 0 ≡ end = ap (λ (xs : List ℕ). slice_index xs 0) to in
    (omega (arith, here, e), omega (arith, e))

passed_shown : (v w : Inserting) (o : Opened) (end : ℕ) (d : Consumer) → (cs : List Consumer) → o.image.consumers ≡ cs → length cs ≡ 1 → w ≡ record v { seen = end ∷ [] } → d.at ≡ end → RepresentsImage v o → RepresentsImage w (with_reader o 0 d)
passed_shown v w o end d [] is one moved to h = absurd (omega arith)
passed_shown v w o end d (c ∷ []) is one moved to h = record {
  geometry = ap geometry_of moved ∙ h.geometry;
  join = ap join_of moved ∙ h.join;
  window = ap (λ (x : Inserting). x.window) moved ∙ h.window;
  high = ap (λ (x : Inserting). x.high) moved ∙ h.high;
  stored = ap (λ (x : Inserting). x.stored) moved ∙ h.stored;
  consumers = ap (λ (x : Inserting). x.seen) moved ∙ ap (λ (p : ℕ). p ∷ []) (sym to) ∙ ap (λ (xs : List Consumer). map (λ (x : Consumer). x.at) (slice_set xs 0 d)) (sym is);
}
passed_shown v w o end d (c ∷ e ∷ es) is one moved to h = absurd (omega arith)

pub reads_past : (v w : Inserting) (r q : ReaderSeat) (head : FrameHead) (payload : List ℕ) → v.seen ≡ position_of r ∷ [] → hand.PassesFrame v r head payload w q → (o : Opened) → RepresentsImage v o → ReadsPast o 0 head payload (RepresentsImage w)
reads_past v w r q head payload at f o h =
    let c = only_shown v o (position_of r) at h in
    record {
      consumer = c.consumer;
      which = ap (λ (cs : List Consumer). slice_get cs 0) c.one;
      frame = f.frame;
      among = subst (Among f.frame) h.stored f.among;
      here = f.here ∙ sym c.here;
      head_is = f.head_is;
      payload_is = f.payload_is;
      shown = λ d e. passed_shown v w o (position_of q) d (c.consumer ∷ []) c.one refl f.inserter (e ∙ sym f.ends) h;
    }
