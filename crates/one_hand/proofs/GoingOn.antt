-- What a reader's step past a frame comes to in one hand.
use Rattle.std.proofs.Common.{◌≡◌, ◌∙◌, ℕ, zero, suc, ◌+◌, ◌%◌, ◌<◌, ◌≤◌, inl, inr, ⊎_elim, List, [], ◌∷◌, map, length-set, None, Some, refl, sym, ap, subst, arith}
use Rattle.std.specs.Prelude.{false, Option, slice_get, slice_index, slice_index_or, slice_set}
use Rattle.std.specs.List.{AllByRecursion}
use Rattle.std.proofs.lemmas.Bool.{cases_lt}
use Rattle.theory.specs.Position.{IsGeometry, aligned}
use Rattle.theory.specs.Placed.{Among, Frame, Placed, frame_length, place_all}
use Rattle.theory.specs.Placed as frames
use Rattle.theory.specs.Entry.{Entry, IsEntry, committed, entry_end}
use Rattle.theory.proofs.Frames.{are_cut, committed_below, in_order_from, placed_below, placed_in_order}
use Rattle.theory.specs.Tiling.{Tiles}
use Rattle.theory.proofs.Lists.{all_at, among_cases}
use Rattle.theory.proofs.Single.{one_at}
use Rattle.position.specs.declared.head.FrameHead.{FrameHead}
use Rattle.theory.specs.Bytes.{Identity}
use Rattle.frame_source.specs.Sources.{HasFrame}
use Rattle.publication.specs.declared.pass.FrameWords.{FrameWords}
use Rattle.publication.specs.declared.pass.Pass.{Pass}
use Rattle.shared_log.specs.Steps.Handles.{LogValue, PublisherValue}
use Rattle.log_rule.specs.Readings.{IsFrameAt}
use Rattle.log_rule.proofs.InTerm.{words_cover}
use Rattle.shared_log.specs.Readers as reading
use Rattle.shared_log.specs.Readers.{OnlyReads, ReaderValue, positions_of}
use Rattle.shared_log.specs.Steps.Readers.{SameSeat}
use Rattle.shared_log.proofs.Finding.{content_is}
use Rattle.one_hand.specs.Entries.{claim_of}
use Rattle.one_hand.specs.Reads.{Advances, source_of}
use Rattle.one_hand.specs.Stream.{HasConsumer, Stream, consumer_at, kept_from, position_in, position_of, with_consumer}
use Rattle.one_hand.proofs.Keeps.{one_entry}
use Rattle.one_hand.specs.declared.log_hand.held.Held.{Held}
use Rattle.one_hand.specs.Hands.{IsInHand, stream_in}
use Rattle.one_hand.specs.Shown.{claim_in, consumers_of, entry_in, open_claim, seated, shares_of, spans}
use Rattle.one_hand.specs.Parts.{Numbers, Stands}
use Rattle.one_hand.specs.Passings.{HasHere, Passed}
use Rattle.one_hand.specs.Readers.{below, reader_of}
use Rattle.one_hand.specs.declared.log_hand.consumer.Consumer.{Consumer}
use Rattle.shared_log.specs.Keepers.{flag_of}
use Rattle.one_hand.proofs.Forgetting.{kept_among}
use Rattle.one_hand.proofs.Found.{placed_of}
use Rattle.one_hand.proofs.Standing.{one_of}
use Rattle.one_hand.proofs.Moved as moved
use Rattle.one_hand.proofs.Moved.{Reseats, reading_only, stand_at, stands_with}
use Rattle.one_hand.proofs.Seats.{seat_low, seat_moved, seat_places, seat_set, seats_many}
use Rattle.one_hand.proofs.InHand.{is_stream, knows_on}

-- ---- lists

held_claim : (held : List (Option Held)) (by : ℕ) (h : Held) → slice_get held by ≡ Some (Some h) → slice_get (map claim_in held) by ≡ Some (Some (open_claim h))
held_claim [] by h e = absurd (cc)
held_claim (x ∷ xs) zero h e = let same : x ≡ Some h = cc in ap (λ y. Some (claim_in y)) same
held_claim (x ∷ xs) (suc by) h e = held_claim xs by h e

-- ---- entries

-- the entry in which a frame stands
record IsOfEntry (es : List Entry) (s : Placed) : Type 0 where
  entry : Entry
  among : Among entry es
  placed_there : Among s (place_all entry.start entry.frames)

of_entry : (es : List Entry) (s : Placed) → Among s (committed es) → IsOfEntry es s
of_entry [] s a = absurd a
of_entry (e ∷ es) s a = ⊎_elim
    (λ (here : Among s (place_all e.start e.frames)). record { entry = e; among = inl refl; placed_there = here })
    (λ (later : Among s (committed es)). let r = of_entry es s later in record { entry = r.entry; among = inr r.among; placed_there = r.placed_there })
    (among_cases s (place_all e.start e.frames) (committed es) a)

-- ---- entries that tile

entry_from : (t p tail : ℕ) (es : List Entry) (a : Entry) → Tiles t p tail es → Among a es → p ≤ a.start
entry_from t p tail [] a h k = absurd k
entry_from t p tail (e ∷ es) a h (inl same) = let at : a.start ≡ e.start = ap (λ (y : Entry). y.start) same in let first = h.0 in omega (arith, at, first)
entry_from t p tail (e ∷ es) a h (inr k) = let r = entry_from t (entry_end e) tail es a h.2 k in let first = h.0 in omega (arith, r, first)

behind_entry : (t p tail : ℕ) (es : List Entry) (d e : Entry) → Tiles t p tail es → AllByRecursion IsEntry es → Among d es → Among e es → d.start < e.start → entry_end d ≤ e.start
behind_entry t p tail [] d e h k a b lt = absurd a
behind_entry t p tail (x ∷ es) d e h k (inl same) (inl there) lt = absurd (let s = ap (λ (y : Entry). y.start) same in let r = ap (λ (y : Entry). y.start) there in omega (arith, lt, s, r))
behind_entry t p tail (x ∷ es) d e h k (inl same) (inr b) lt = let from = entry_from t (entry_end x) tail es e h.2 b in let end : entry_end d ≡ entry_end x = ap entry_end same in omega (arith, from, end)
behind_entry t p tail (x ∷ es) d e h k (inr a) (inl there) lt = absurd (let from = entry_from t (entry_end x) tail es d h.2 a in let at : e.start ≡ x.start = ap (λ (y : Entry). y.start) there in omega (arith, lt, from, at))
behind_entry t p tail (x ∷ es) d e h k (inr a) (inr b) lt = behind_entry t (entry_end x) tail es d e h.2 k.1 a b lt

-- ---- the pass is back

module _ (l : LogValue) (p : PublisherValue) (held : List (Option Held)) (hand : IsInHand l p held) where
  abbrev t : ℕ
  t = p.pass.identity.geometry.term_length

  abbrev tail : ℕ
  tail = p.pass.start + spans p.pass.right.claims

  abbrev all : List Entry
  all = map (entry_in p.pass.work.frames) p.pass.right.claims

  abbrev shown : List Placed
  shown = committed (kept_from p.pass.keeping.cleaned all)

  one_shown : (s x : Placed) → Among s shown → Among x shown → s.at ≡ x.at → s ≡ x
  one_shown s x a b e = let is = is_stream l p held hand in one_at t is.first tail (kept_from p.pass.keeping.cleaned all) s x is.tiles is.entries a b e

  shape : l.identity ≡ p.pass.identity
  shape = sym hand.free.of.identity

  module _ (k : ℕ) (there : HasConsumer (stream_in p held) k) (c : Consumer) (place_is : c.place ≡ below p.pass.keeping.there k) (position_is : c.position ≡ position_of (stream_in p held) k) where
    abbrev r : ReaderValue
    r = reader_of p c

    -- past the frame that was read
    module _ (r1 r2 : ReaderValue) (head : FrameHead) (before after : List ℕ) (has : HasFrame (source_of (stream_in p held) k) (position_of (stream_in p held) k)) (h : reading.ReadsFrame l (reader_of p c) head before r1 after) (a : reading.Advances r1 r2) where
      abbrev stays : reading.Stays r r1
      stays = h.finds.stays

      abbrev stood : Placed
      stood = record { at = position_of (stream_in p held) k; frame = has.frame }

      abbrev one : (f : FrameWords) × Among f p.pass.work.frames × (stood ≡ placed_of f)
      one = one_of l p held hand stood has.among

      begins : one.0.start ≡ r.position
      begins = sym (ap (λ (x : Placed). x.at) one.2) ∙ sym position_is

      at1 : r1.position ≡ r.position
      at1 = ap (λ (z : ReaderValue). z.position) stays.same

      mine : reading.Has r1 one.0
      mine = inr (subst (λ (x : Pass). Among one.0 x.work.frames) (sym stays.pass.rest) one.1)

      here : IsFrameAt l.identity r1.position one.0
      here = subst (λ (i : Identity). IsFrameAt i r1.position one.0) (ap (λ (x : Pass). x.identity) stays.pass.rest ∙ sym shape) (a.here one.0 mine (begins ∙ sym at1))

      legal : IsGeometry l.identity.geometry
      legal = subst (λ (i : Identity). IsGeometry i.geometry) (sym shape) hand.whole.stream.geometry

      end_is : r2.position ≡ frames.end_of stood
      end_is =
          ap (λ (z : ReaderValue). z.position) a.same ∙ a.ends one.0 mine (begins ∙ sym at1)
          ∙ ap (λ (n : ℕ). one.0.start + n) (words_cover l.identity one.0 here.done ∙ ap (λ (x : Frame). aligned (frame_length x)) (sym (content_is l.identity one.0 legal here.done)))
          ∙ ap frames.end_of (sym one.2)

      below_tail : r2.position ≤ tail
      below_tail = let is = is_stream l p held hand in let b = all_at (λ (s : Placed). frames.end_of s ≤ tail) stood shown (committed_below t is.first tail (kept_from p.pass.keeping.cleaned all) is.tiles is.entries) has.among in omega (arith, end_is, b)

      below_open : (by : ℕ) (x : Held) → slice_get held by ≡ Some (Some x) → r2.position ≤ x.start
      below_open by x holds =
          let w = hand.whole in let c = w.stream.claims by (open_claim x) (held_claim held by x holds) in let e : Entry = claim_of p.pass.identity.geometry x.start by false x.size in
          let d = of_entry (kept_from p.pass.keeping.cleaned all) stood has.among in
          let d_among : Among d.entry all = kept_among p.pass.keeping.cleaned all d.entry d.among in
          let from : d.entry.start ≤ position_of (stream_in p held) k = in_order_from d.entry.start (place_all d.entry.start d.entry.frames) stood (placed_in_order d.entry.start d.entry.frames) d.placed_there in
          let entry = all_at IsEntry d.entry all w.stream.entries d_among in
          let inside : frames.end_of stood ≤ entry_end d.entry = all_at (λ (s : Placed). frames.end_of s ≤ entry_end d.entry) stood (place_all d.entry.start d.entry.frames) (placed_below d.entry.start d.entry.cuts d.entry.frames (are_cut d.entry.padding d.entry.cuts d.entry.frames entry.frames)) d.placed_there in
          let le : position_of (stream_in p held) k ≤ x.start = (stand_at l p held hand k (position_of (stream_in p held) k) there).claims by x holds in
          ⊎_elim
          (λ (lt : d.entry.start < e.start). let b = behind_entry t w.stream.first tail all d.entry e w.stream.tiles w.stream.entries d_among c.entry lt in omega (arith, end_is, inside, b))
          (λ (ge : e.start ≤ d.entry.start). absurd (subst (λ (y : Entry). Among stood (place_all y.start y.frames)) (one_entry t w.stream.first tail all d.entry e w.stream.tiles w.stream.entries d_among c.entry (omega (arith, from, le, ge))) d.placed_there))
          (cases_lt d.entry.start e.start)

      further : moved.IsStand l p held hand r2.position
      further =
          let s = stand_at l p held hand k (position_of (stream_in p held) k) there in let s0 = s.unit in let s1 = s.readable in let s2 = s.from in let e : r2.position ≡ position_of (stream_in p held) k + aligned (frame_length has.frame) = end_is in
          record { unit = unit r2.position (position_of (stream_in p held) k) (frame_length has.frame) e s0; readable = omega (arith, e, s1); from = omega (arith, e, s2); to = below_tail; claims = below_open }
        where
          unit : (e x n : ℕ) → e ≡ x + aligned n → x % 32 ≡ 0 → e % 32 ≡ 0
          unit e x n same even = omega (arith, same, even)

      goes : SameSeat p r2.held × OnlyReads p.pass r2.held.pass × (positions_of r2.held.pass ≡ slice_set (positions_of p.pass) c.place r2.position)
      goes =
          let s = stays.seat in let b = a.seat in let sure1 : r1.held.sure ≡ 1 = s.sure ∙ hand.free.sure in (
            record { of = b.of ∙ s.of; seat = b.seat ∙ s.seat; sure = b.sure ∙ s.sure; freed = b.freed ∙ s.freed; controls = λ sure. b.controls sure1 ∙ s.controls sure },
            record { rest = a.pass.rest ∙ ap (λ (x : Pass). record x { reading = r2.held.pass.reading }) stays.pass.rest; numbers = a.pass.numbers ∙ stays.pass.numbers },
            a.positions ∙ (λ j. slice_set (stays.positions j) ((stays.same j).place) ((sym (ap (λ (z : ReaderValue). z.position) a.same)) j)),
          )

      abbrev cs : List (Option ℕ)
      cs = slice_set (consumers_of p.pass) k (Some r2.position)

      seats : seated p.pass.keeping.there (positions_of r2.held.pass) ≡ cs
      seats =
          ap (seated p.pass.keeping.there) (goes.2 ∙ ap (λ (i : ℕ). slice_set (positions_of p.pass) i r2.position) place_is)
          ∙ seat_moved p.pass.keeping.there p.pass.reading 0 k (position_of (stream_in p held) k) r2.position hand.all.numbers there

      others : Reseats p r2.held cs
      others = reading_only p r2.held goes.0 goes.1 hand.free.sure hand.all cs seats

      goes_on : Advances (stream_in p held) k r2.position (stream_in r2.held held) × IsInHand l r2.held held
      goes_on =
          let s = stands_with l p held hand k r2.position further in
          let after : stream_in r2.held held ≡ with_consumer (stream_in p held) k r2.position = moved.shows l p held hand r2.held cs others s in
          let here : consumer_at (with_consumer (stream_in p held) k r2.position) k ≡ Some r2.position = seat_set (consumers_of p.pass) k (Some r2.position) (let e = seats_many p.pass.keeping.there (positions_of p.pass) in let low = seat_low p.pass.keeping.there (positions_of p.pass) k (position_of (stream_in p held) k) there in omega (arith, e, low)) in (
            record {
              passes = record {
                behind = λ s among at. end_is ∙ ap frames.end_of (one_shown stood s has.among among (sym at));
                moved = ap (λ (x : Stream). source_of x k) after ∙ ap (λ (x : Option ℕ). record (source_of (stream_in p held) k) { position = position_in x }) here;
              };
              after = after;
            },
            moved.back l p held hand r2.held cs others s,
          )

-- ---- what a hand has

module _ (l : LogValue) (p : PublisherValue) (held : List (Option Held)) (n : Numbers) (st : Stands l p held n) (c : Consumer) (now : Stream) (e : stream_in p held ≡ now) (number : ℕ) (there : HasConsumer now number) (place_is : c.place ≡ below (map flag_of n.there) number) (position_is : c.position ≡ slice_index n.positions number) where
  has : HasConsumer (stream_in p held) number
  has = subst (λ (x : Stream). HasConsumer x number) (sym e) there

  stands_here : c.position ≡ position_of (stream_in p held) number
  stands_here = position_is ∙ st.numbers.positions number (position_of (stream_in p held) number) has

  place : c.place ≡ below p.pass.keeping.there number
  place = place_is ∙ ap (λ (flags : List ℕ). below flags number) (sym st.numbers.knows.flags)

  has_frame : HasFrame (source_of now number) (position_of now number) → HasFrame (source_of (stream_in p held) number) (position_of (stream_in p held) number)
  has_frame f = subst (λ (x : Stream). HasFrame (source_of x number) (position_of x number)) (sym e) f

  -- a frame of the pass begins where the reader stands
  pub has_here : HasFrame (source_of now number) (position_of now number) → HasHere p c.position
  has_here f =
      let h = has_frame f in let g = one_of l p held st.hand (record { at = position_of (stream_in p held) number; frame = h.frame }) h.among in
      record { frame = g.0; among = g.1; here = sym (ap (λ (x : Placed). x.at) g.2) ∙ sym stands_here }

  pub passes : (before : List ℕ) (q : PublisherValue) (end : ℕ) → HasFrame (source_of now number) (position_of now number) → Passed l p c before q end → Advances now number end (stream_in q held) × Stands l q held (record n { positions = slice_set n.positions number end })
  passes before q end f h =
      let g = goes_on l p held st.hand number has c place stands_here h.between h.reader h.head before h.after (has_frame f) h.reads h.advances in
      let moves = goes l p held st.hand number has c place stands_here h.between h.reader h.head before h.after (has_frame f) h.reads h.advances in
      let seats_are = seats l p held st.hand number has c place stands_here h.between h.reader h.head before h.after (has_frame f) h.reads h.advances in
      let was = st.numbers in let rest = moves.1.rest in
      let all' : Advances now number h.reader.position (stream_in h.reader.held held) × Stands l h.reader.held held (record n { positions = slice_set n.positions number h.reader.position }) = (
        subst (λ (x : Stream). Advances x number h.reader.position (stream_in h.reader.held held)) e g.0,
        record {
          hand = g.1;
          numbers = record {
            shares = was.shares ∙ ap (λ (x : Pass). shares_of x.right.claims) (sym rest);
            places = length-set n.positions number h.reader.position ∙ was.places;
            positions = λ j at x. seat_places (consumers_of p.pass) n.positions number h.reader.position (let a = seats_many p.pass.keeping.there (positions_of p.pass) in let b = st.hand.all.eight in let d = was.places in omega (arith, a, b, d)) was.positions j at (subst (λ (cs : List (Option ℕ)). slice_index_or cs j None ≡ Some at) ((λ i. seated ((ap (λ (v : Pass). v.keeping.there) rest) i) (positions_of h.reader.held.pass)) ∙ seats_are) x);
            limit = was.limit ∙ ap (λ (x : Pass). x.keeping.limit) (sym rest);
            cleaned = was.cleaned ∙ ap (λ (x : Pass). x.keeping.cleaned) (sym rest);
            knows = knows_on p.pass h.reader.held.pass n.there (ap (λ (x : Pass). x.keeping) rest) was.knows;
            block = was.block;
          };
        },
      ) in
      subst (λ (z : ℕ × PublisherValue). Advances now number z.0 (stream_in z.1 held) × Stands l z.1 held (record n { positions = slice_set n.positions number z.0 })) (λ j. (sym h.end_is j, h.seat j)) all'
