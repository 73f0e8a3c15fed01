-- What a reader's steps come to in one hand.
use Rattle.std.proofs.Common.{◌≡◌, ◌∙◌, ℕ, ◌+◌, ◌-◌, ◌*◌, ◌<◌, ◌≤◌, inl, inr, max, List, [], ◌∷◌, ◌++◌, length, drop, mul-le-mul_right, sym, ap, subst, arith}
use mathlib.Core.Option.{some}
use lib.ListN.{get_elem?}
use Rattle.std.specs.Prelude.{Option}
use Rattle.std.specs.List.{AllByRecursion}
use Rattle.theory.specs.Placed.{Among, Placed, payload_of}
use Rattle.theory.specs.Entry.{committed}
use Rattle.theory.specs.Bytes.{Identity}
use Rattle.position.specs.declared.head.FrameHead.{FrameHead}
use Rattle.position.specs.Heads.{IsStreamFrame, head_of}
use Rattle.publication.specs.declared.pass.FrameWords.{FrameWords}
use Rattle.publication.specs.Contents.{frame_in}
use Rattle.shared_log.specs.Steps.Handles.{LogValue, PublisherValue}
use Rattle.shared_log.specs.Readers.{FindsNone, OnlyReads, ReadsFrame, ReaderValue, Rereads, positions_of}
use Rattle.shared_log.specs.Steps.Readers.{SameSeat}
use Rattle.one_hand.specs.Reads.{ShowsFrame, source_of}
use Rattle.one_hand.specs.Stream.{HasConsumer, Stream, position_of}
use Rattle.frame_source.specs.Sources.{HasNone}
use Rattle.one_hand.specs.declared.log_hand.held.Held.{Held}
use Rattle.one_hand.specs.Shown.{consumers_of, seated, spans}
use Rattle.one_hand.specs.Hands.{IsInHand, stream_in}
use Rattle.one_hand.specs.Readers.{Reads, below}
use Rattle.one_hand.specs.declared.log_hand.consumer.Consumer.{Consumer}
use Rattle.one_hand.proofs.Found.{from_frames, placed_of, to_stream}
use Rattle.one_hand.proofs.Moved.{Reseats, reading_only, stand_at, stands_now}
use Rattle.one_hand.proofs.Moved as moved
use Rattle.one_hand.proofs.Seats.{one_standing, seat_at, seat_low}

module _ (l : LogValue) (p : PublisherValue) (held : List (Option Held)) (hand : IsInHand l p held) where
  abbrev frames : List FrameWords
  frames = p.pass.work.frames

  abbrev s : Stream
  s = stream_in p held

  -- each committed frame that the stream has is one of the pass
  pub one_of : (f : Placed) → Among f (committed s.entries) → (w : FrameWords) × Among w frames × (f ≡ placed_of w)
  one_of = from_frames p.pass.keeping.cleaned frames p.pass.right.claims hand.whole.chained

  bounds : (w : FrameWords) (xs : List FrameWords) → AllByRecursion (λ f. (p.pass.start ≤ f.start) × (f.start < p.pass.start + spans p.pass.right.claims)) xs → Among w xs → (p.pass.start ≤ w.start) × (w.start < p.pass.start + spans p.pass.right.claims)
  bounds w [] h a = absurd a
  bounds w (x ∷ xs) h (inl same) = subst (λ (f : FrameWords). (p.pass.start ≤ f.start) × (f.start < p.pass.start + spans p.pass.right.claims)) (sym same) h.0
  bounds w (x ∷ xs) h (inr a) = bounds w xs h.1 a

  shows : (at : ℕ) (w : FrameWords) (head : FrameHead) (before after : List ℕ) → Among (placed_of w) (committed s.entries) → w.start ≡ at → ((g : FrameWords) → Among g frames → g.start ≡ at → g ≡ w) → head ≡ head_of at (frame_in w) → IsStreamFrame l.identity.geometry head → after ≡ payload_of (frame_in w) ++ drop (length (payload_of (frame_in w))) before → ShowsFrame s at head before after
  shows at w head before after among here only shown legal copied = record {
    legal = subst (λ (i : Identity). IsStreamFrame i.geometry head) (sym hand.free.of.identity) legal;
    frame = frame_in w;
    among = subst (λ (n : ℕ). Among (record { at = n; frame = frame_in w }) (committed s.entries)) here among;
    only = λ f a e. (let g = one_of f a in let same = only g.0 g.1 (sym (ap (λ (x : Placed). x.at) g.2) ∙ e) in g.2 ∙ ap placed_of same ∙ ap (λ (n : ℕ). record { at = n; frame = frame_in w }) here);
    shown = shown;
    copied = copied;
  }

  -- the frame where the reader stands was found
  pub reads : (n : ℕ) → HasConsumer s n → (r q : ReaderValue) (head : FrameHead) (before after : List ℕ) → r.held ≡ p → r.position ≡ position_of s n → ReadsFrame l r head before q after → ShowsFrame s (position_of s n) head before after
  reads n there r q head before after mine stands found =
      let f = found.finds in let own : Among f.frame frames = subst (λ (v : PublisherValue). v.pass.right.parts ≡ 1024 → Among f.frame v.pass.work.frames) mine f.own hand.all.parts in let b = bounds f.frame frames hand.whole.past own in
      let here : f.frame.start ≡ position_of s n = f.here.at ∙ stands in
      shows (position_of s n) f.frame head before after
      (to_stream p.pass.keeping.cleaned p.pass.identity.geometry.term_length p.pass.start hand.whole.stream.first s.tail (position_of s n) frames p.pass.right.claims hand.whole.follow hand.whole.chained hand.whole.stream.tiles (one_standing (λ x. p.pass.keeping.cleaned ≤ max p.pass.start (x - p.pass.identity.geometry.term_length)) (consumers_of p.pass) n (position_of s n) hand.whole.stream.readable there) f.frame own (omega arith) b.0 b.1)
      here (λ g a e. f.only g (inr (subst (λ (v : PublisherValue). Among g v.pass.work.frames) (sym mine) a)) (e ∙ sym stands)) (f.shown ∙ ap (λ (k : ℕ). head_of k (frame_in f.frame)) stands) f.legal found.copied

  -- none is committed there
  pub reads_none : (n : ℕ) (r q : ReaderValue) → r.held ≡ p → r.position ≡ position_of s n → FindsNone r q → HasNone (source_of s n) (position_of s n)
  reads_none n r q mine stands none f a e = let g = one_of f a in none.none g.0 (inr (subst (λ (v : PublisherValue). Among g.0 v.pass.work.frames) (sym mine) g.1)) (sym (ap (λ (x : Placed). x.at) g.2) ∙ e ∙ sym stands)

  -- one was read again
  pub reads_again : (at : ℕ) (f : Placed) → Among f (committed s.entries) → f.at ≡ at → (r q : ReaderValue) (head : FrameHead) (before after : List ℕ) → r.held ≡ p → Rereads l r at head before q after → ShowsFrame s at head before after
  reads_again at f a e r q head before after mine again =
      let g = one_of f a in let same = again.only g.0 (inr (subst (λ (v : PublisherValue). Among g.0 v.pass.work.frames) (sym mine) g.1)) (sym (ap (λ (x : Placed). x.at) g.2) ∙ e) in
      shows at again.frame head before after (subst (λ (x : Placed). Among x (committed s.entries)) (g.2 ∙ ap placed_of same) a) again.at
      (λ h b c. again.only h (inr (subst (λ (v : PublisherValue). Among h v.pass.work.frames) (sym mine) b)) c) again.shown again.legal again.copied

  -- a seat that read is in hand as it was
  pub reads_on : (q : PublisherValue) → SameSeat p q → OnlyReads p.pass q.pass → positions_of q.pass ≡ positions_of p.pass → IsInHand l q held × (stream_in q held ≡ stream_in p held)
  reads_on q seat only stood =
      let r : Reseats p q (consumers_of p.pass) = reading_only p q seat only hand.free.sure hand.all (consumers_of p.pass) (ap (seated p.pass.keeping.there) stood) in
      (moved.back l p held hand q (consumers_of p.pass) r (stands_now l p held hand), moved.shows l p held hand q (consumers_of p.pass) r (stands_now l p held hand))

  -- the pass has the consumer of a number, which stands where the stream says
  pub may_read : (n : ℕ) → HasConsumer s n → (c : Consumer) → c.number ≡ n → c.place ≡ below p.pass.keeping.there n → c.position ≡ position_of s n → Reads l p c
  may_read n there c number place at =
      let r = seat_at p.pass.keeping.there p.pass.reading 0 n (position_of s n) hand.all.numbers there in let low = seat_low p.pass.keeping.there (positions_of p.pass) n (position_of s n) there in
      let top = (stand_at l p held hand n (position_of s n) there).to in
      let t : ℕ = p.pass.identity.geometry.term_length in let last = hand.whole.stream.last in let to = hand.whole.stream.to in
      let most : (p.controls.count + 1) * t ≤ 2147483648 * t = mul-le-mul_right t (omega arith) in let turned : 2147483648 * t ≡ t * 2147483648 = omega arith in
      let low_at : c.position ≤ t * 2147483648 = omega arith in record {
        of = hand.free.of;
        known = (let e = hand.all.eight in omega (arith, e, low, number));
        is = record { consumer = r.reader; is = subst (λ (k : ℕ). get_elem? p.pass.reading k ≡ some r.reader) (sym place) r.is; number_is = (let i = r.number_is in omega (arith, i, number)); position_is = r.position_is ∙ sym at; read = λ far. absurd (omega arith); low = low_at; low_end = low_at };
      }
