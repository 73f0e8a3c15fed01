-- An inserter and the one reader, in one hand.
use Rattle.std.proofs.Common.{◌≡◌, ℕ, ◌+◌, ◌-◌, ◌*◌, ◌/◌, ◌<◌, ◌≤◌, ⊎_elim, List, [], ◌∷◌, ◌++◌, length, length-append, length-drop, drop, sym, ap, ◌∙◌, subst, arith}
use Rattle.std.specs.Prelude.{slice_set}
use Rattle.std.specs.List.{AllByRecursion}
use Rattle.std.proofs.lemmas.Bool.{cases_lt}
use Rattle.std.proofs.lemmas.List.{take_all}
use Rattle.block.specs.Bytes.{with_front}
use Rattle.theory.specs.Placed as placed
use Rattle.theory.specs.Placed.{Among, Data, Pad, Placed, covered, end_of, payload_of}
use Rattle.theory.specs.Units.{HasUnit, IsContiguous}
use Rattle.position.specs.declared.head.FrameHead.{FrameHead}
use Rattle.position.specs.declared.head.FrameKind.TheVariants as kinds
use Rattle.position.specs.Heads.{head_of}
use Rattle.image_rule.specs.declared.view.Frame.{Frame}
use Rattle.image_rule.specs.declared.view.View.{View}
use Rattle.image_rule.specs.Frames.{IsContent}
use Rattle.image_rule.proofs.Units.{placed_among}
use Rattle.image.specs.Handles.{ImageWords, IsReaderOf, ReaderSeat, position_of}
use Rattle.image.specs.Reading.{FindsNone, ShowsFrame}
use Rattle.image.specs.Finding.{FindsFrame, FindsNothing, PassesOn}
use Rattle.image.specs.Meeting.{AreAlone, IsShort, Meets, PassesFrame, StandsAtEnd, number_of}
use Rattle.image.specs.Rebuilding.{Inserting, join_of}

module _ (image : ImageWords) (i : Inserting) (r : ReaderSeat) (alone : AreAlone image i r) where
  abbrev p : ℕ
  p = position_of r

  set_there : (xs : List ℕ) → xs ≡ p ∷ [] → slice_set xs (number_of r) p ≡ p ∷ []
  set_there xs e = (λ t. slice_set (e t) (alone.number t) p)

  -- ---- a meeting alone

  pub met_same : (j : Inserting) (q : ReaderSeat) → Meets i r j q → j ≡ i
  met_same j q met = met.inserter ∙ ap (λ (xs : List ℕ). record i { seen = xs }) (set_there i.seen alone.met ∙ sym alone.met)

  -- the reader has moved, if at all, and the inserter saw that
  pub alone_on : (k : Inserting) (y : ReaderSeat) → k ≡ record i { seen = position_of y ∷ [] } → IsReaderOf image y → number_of y ≡ number_of r → AreAlone image k y
  alone_on k y after of number = record {
    inserter = record { of = ap (λ (x : Inserting). x.of) after ∙ alone.inserter.of; key = ap (λ (x : Inserting). x.key) after ∙ alone.inserter.key };
    reader = of;
    one = ap (λ (x : Inserting). x.key.consumers) after ∙ alone.one;
    number = number ∙ alone.number;
    met = ap (λ (x : Inserting). x.seen) after;
  }

  -- a reader that has met the inserter and finds none stands at the contiguous end
  pub at_end : (j : Inserting) (q : ReaderSeat) (w : View) (rebuilt : ℕ) → Meets i r j q → FindsNone q.view w → IsContiguous i.stored (join_of i) rebuilt → AllByRecursion (λ x. (join_of i ≤ x) × (x ≤ rebuilt)) i.seen → IsContiguous i.stored (join_of i) (position_of r)
  at_end j q w rebuilt met none end behind =
      let one : (join_of i ≤ p) × (p ≤ rebuilt) = (subst (AllByRecursion (λ x. (join_of i ≤ x) × (x ≤ rebuilt))) alone.met behind).0 in
      let from = one.0 in let le = one.1 in let e : rebuilt ≡ join_of i + 32 * end.units = end.end in
      ⊎_elim
      (λ (l : p < rebuilt).
      let k : ℕ = (p - join_of i) / 32 in let here : join_of i + 32 * k ≡ p = omega arith in
      absurd (nothing (subst (HasUnit i.stored) here (end.all k (omega arith)))))
      (λ (l : rebuilt ≤ p). let same : rebuilt ≡ p = omega arith in subst (IsContiguous i.stored (join_of i)) same end)
      (cases_lt p rebuilt)
    where
      nothing : HasUnit i.stored p → ⊥
      nothing u =
          let t : Placed = u.frame in let here = u.here in let inside = u.inside in
          ⊎_elim
          (λ (l : t.at < p). let b = met.edge t u.among l in absurd (omega arith))
          (λ (l : p ≤ t.at).
          let known = placed_among t q.view.reading.known ((met.knows t).1 u.among) in let f : Frame = known.frame in
          let at : t.at ≡ 32 * f.unit = ap (λ (x : Placed). x.at) known.is in let unit = met.stands in
          none.none f known.among (omega arith))
          (cases_lt t.at p)

  -- ---- it looks, and finds none

  pub stands_at_end : (j : Inserting) (q x : ReaderSeat) (rebuilt : ℕ) (before after : List ℕ) → Meets i r j q → FindsNothing q before x after → IsContiguous i.stored (join_of i) rebuilt → AllByRecursion (λ y. (join_of i ≤ y) × (y ≤ rebuilt)) i.seen → StandsAtEnd i r before j x after
  stands_at_end j q x rebuilt before after met none end behind = record {
    ends = at_end j q x.view rebuilt met none.reads.finds end behind;
    inserter = met_same j q met;
    stands = none.stays.stands ∙ ap (λ (u : ℕ). 32 * u) met.stands;
    misses = none.misses ∙ ap (λ (k : ℕ). k + 1) met.misses;
    untouched = none.untouched;
  }

  pub alone_at_end : (j : Inserting) (q x : ReaderSeat) (before after : List ℕ) → Meets i r j q → FindsNothing q before x after → IsReaderOf image x → AreAlone image j x
  alone_at_end j q x before after met none of =
      let stands : position_of x ≡ p = none.stays.stands ∙ ap (λ (u : ℕ). 32 * u) met.stands in
      alone_on j x (met_same j q met ∙ (λ t. record i { seen = (alone.met ∙ ap (λ (u : ℕ). u ∷ []) (sym stands)) t })) of (none.stays.number ∙ met.number)

  -- ---- or it reads a frame, moves past it, and meets the inserter again

  module _ (j k : Inserting) (q x z y : ReaderSeat) (head : FrameHead) (payload : List ℕ) (met : Meets i r j q) (found : FindsFrame q head payload x) (past : PassesOn x z) (again : Meets j z k y) where
    to : position_of y ≡ position_of z
    to = ap (λ (u : ℕ). 32 * u) again.stands

    same_number : number_of z ≡ number_of r
    same_number = past.number ∙ found.stays.number ∙ met.number

    stored : Among found.frame i.stored
    stored = subst (λ (m : Inserting). Among found.frame m.stored) (met_same j q met) ((again.knows found.frame).0 (again.keeps found.frame (past.keeps found.frame found.known)))

    here : found.frame.at ≡ p
    here = found.here ∙ ap (λ (u : ℕ). 32 * u) met.stands

    seen_now : slice_set j.seen (number_of z) (position_of z) ≡ position_of y ∷ []
    seen_now = (λ t. slice_set ((ap (λ (m : Inserting). m.seen) (met_same j q met) ∙ alone.met) t) ((same_number ∙ alone.number) t) (position_of z)) ∙ ap (λ (u : ℕ). u ∷ []) (sym to)

    moved : k ≡ record i { seen = position_of y ∷ [] }
    moved = again.inserter ∙ (λ t. record (met_same j q met t) { seen = seen_now t })

    pub passes_frame : PassesFrame i r head payload k y
    passes_frame = record {
      frame = found.frame;
      among = stored;
      here = here;
      head_is = found.head_is;
      payload_is = found.payload_is;
      small = found.small;
      short = found.short;
      ends = to ∙ past.stands ∙ found.ends;
      inserter = moved;
      misses = again.misses ∙ past.misses ∙ found.misses ∙ met.misses;
    }

    pub alone_past : IsReaderOf image y → AreAlone image k y
    alone_past of = alone_on k y moved of (again.number ∙ same_number)

pub payload_short : (c : placed.Frame) → IsContent c → length (payload_of c) ≤ 65472
payload_short (Data flags payload) is = let a = is.1 in omega arith
payload_short (Pad n) is = omega arith

-- a DATA frame that was stored is short
short : (p : ℕ) (c : placed.Frame) (head : FrameHead) → head ≡ head_of p c → IsContent c → IsShort head
short p (Data flags payload) head e is kind = let n : head.frame_length ≡ 32 + length payload = ap (λ (h : FrameHead). h.frame_length) e in let b = is.1 in (omega arith, omega arith)
short p (Pad n) head e is kind = let k : kinds.Pad ≡ kinds.Data = sym (ap (λ (h : FrameHead). h.kind) e) ∙ kind in absurd (cc)

pub read_short : (q : ReaderSeat) (head : FrameHead) (payload : List ℕ) (x : ReaderSeat) → ShowsFrame q head payload x → IsShort head
read_short q head payload x reads = short _ _ head reads.finds.shown reads.finds.content

-- bytes in front of others, as many in all
pub in_front : (before front after : List ℕ) → length front ≤ length before → after ≡ front ++ drop (length front) before → after ≡ with_front before front
in_front before front after le e =
    let a = length-append front (drop (length front) before) in let d = length-drop (length front) before in
    e ∙ sym (take_all (length before) (front ++ drop (length front) before) (omega arith))
