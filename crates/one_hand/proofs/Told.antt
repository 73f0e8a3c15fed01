-- What the calls of the pass that has all tell of the stream, where a reader of it acted.
use Rattle.std.proofs.Common.{◌≡◌, ◌∙◌, ℕ, ◌+◌, ◌*◌, ◌/◌, ◌<◌, ◌≤◌, inr, List, map, Some, None, refl, sym, ap, subst, arith}
use Rattle.std.specs.Prelude.{IfNone, IfSome, Option, slice_index, slice_index_or}
use Rattle.theory.specs.Placed.{Among, Placed}
use Rattle.theory.specs.Bytes.{Identity}
use Rattle.position.specs.declared.head.FrameHead.{FrameHead}
use Rattle.frame_source.specs.Sources as sources
use Rattle.publication.specs.declared.pass.Pass.{Pass}
use Rattle.publication.specs.declared.pass.Reading.{Reading}
use Rattle.shared_log.specs.Steps.Handles.{LogValue, PublisherValue}
use Rattle.shared_log.specs.Readers.{MayReread, OnlyReads, numbers_of, positions_of}
use Rattle.shared_log.specs.Steps.Readers.{SameSeat}
use Rattle.one_hand.specs.Reads.{ShowsFrame, ShowsNone, source_of}
use Rattle.one_hand.specs.Stream.{HasConsumer, Stream, consumer_at, position_of}
use Rattle.one_hand.specs.declared.log_hand.held.Held.{Held}
use Rattle.one_hand.specs.Shown.{seated, shares_of}
use Rattle.one_hand.specs.Hands.{stream_in}
use Rattle.one_hand.specs.Parts.{Numbers, Stands}
use Rattle.one_hand.specs.Readers.{Found, FoundNone, Reads, Reread, below, reader_of}
use Rattle.one_hand.specs.declared.log_hand.consumer.Consumer.{Consumer}
use Rattle.shared_log.specs.Keepers.{flag_of}
use Rattle.shared_log.proofs.Looking.{misses_stand, only_misses}
use Rattle.one_hand.proofs.Standing.{may_read, one_of, reads, reads_again, reads_none, reads_on}
use Rattle.one_hand.proofs.InHand.{knows_on}
use Rattle.one_hand.proofs.Seats.{seat_low}

same_pass : (v w : Pass) → w ≡ v → OnlyReads v w
same_pass v w e = record { rest = e ∙ ap (λ (rs : List Reading). record v { reading = rs }) (sym (ap (λ (x : Pass). x.reading) e)); numbers = ap numbers_of e }

module _ (l : LogValue) (p : PublisherValue) (held : List (Option Held)) (n : Numbers) (st : Stands l p held n) where
  abbrev Same : PublisherValue → Type 0
  Same q = Stands l q held n × (stream_in q held ≡ stream_in p held)

  stays : (q : PublisherValue) → SameSeat p q → OnlyReads p.pass q.pass → positions_of q.pass ≡ positions_of p.pass → Same q
  stays q seat only stood = let h = reads_on l p held st.hand q seat only stood in let was = st.numbers in (
    record {
      hand = h.0;
      numbers = record {
        shares = was.shares ∙ ap (λ (v : Pass). shares_of v.right.claims) (sym only.rest);
        places = was.places;
        positions = λ k at e. was.positions k at (subst (λ (cs : List (Option ℕ)). slice_index_or cs k None ≡ Some at) (λ j. seated ((ap (λ (v : Pass). v.keeping.there) only.rest) j) (stood j)) e);
        limit = was.limit ∙ ap (λ (v : Pass). v.keeping.limit) (sym only.rest);
        cleaned = was.cleaned ∙ ap (λ (v : Pass). v.keeping.cleaned) (sym only.rest);
        knows = knows_on p.pass q.pass n.there (ap (λ (v : Pass). v.keeping) only.rest) was.knows;
        block = was.block;
      };
    },
    h.1,
  )

  -- who has a number has one below eight
  pub known : (now : Stream) → stream_in p held ≡ now → (number : ℕ) → HasConsumer now number → number < 8
  known now e number has =
      let low = seat_low p.pass.keeping.there (positions_of p.pass) number (position_of now number) (subst (λ (x : Stream). consumer_at x number ≡ Some (position_of now number)) (sym e) has) in let eight = st.hand.all.eight in omega (arith, low, eight)

  module _ (c : Consumer) (before after : List ℕ) where
    pub next_stays : (q : PublisherValue) (answer : Option FrameHead) → IfSome answer (λ head. Found l p c head before q after) → IfNone answer (FoundNone p c before q after) → Same q
    next_stays q (Some head) f none = let k = f.reads.finds.stays in subst Same f.seat (stays f.reader.held k.seat k.pass k.positions)
    next_stays q None found f = let r = reader_of p c in let k = f.reads.finds.rests in subst Same f.seat (stays f.reader.held k.seat (only_misses r f.reader k) (misses_stand r f.reader k))

    pub reread_stays : (q : PublisherValue) (at : ℕ) (head : FrameHead) → Reread l p c at head before q after → Same q
    reread_stays q at head f = let k = f.reads.rests in subst Same f.seat (stays f.reader.held k.seat (same_pass p.pass f.reader.held.pass k.pass) (ap positions_of k.pass))

    module _ (now : Stream) (e : stream_in p held ≡ now) (number : ℕ) (lt : HasConsumer now number) (number_is : c.number ≡ number) (place_is : c.place ≡ below (map flag_of n.there) number) (position_is : c.position ≡ slice_index n.positions number) where
      has : HasConsumer (stream_in p held) number
      has = subst (λ (x : Stream). HasConsumer x number) (sym e) lt

      here : c.position ≡ position_of (stream_in p held) number
      here = position_is ∙ st.numbers.positions number (position_of (stream_in p held) number) has

      pub may : Reads l p c
      may = may_read l p held st.hand number has c number_is (place_is ∙ ap (λ (flags : List ℕ). below flags number) (sym st.numbers.knows.flags)) here

      pub found : (q : PublisherValue) (answer : Option FrameHead) → IfSome answer (λ head. Found l p c head before q after) → IfSome answer (λ head. ShowsFrame now (position_of now number) head before after)
      found q (Some head) f = subst (λ (x : Stream). ShowsFrame x (position_of x number) head before after) e (reads l p held st.hand number has (reader_of p c) f.reader head before after refl here f.reads)
      found q None f = tt

      pub none : (q : PublisherValue) (answer : Option FrameHead) → IfNone answer (FoundNone p c before q after) → IfNone answer (ShowsNone now number before after)
      none q (Some head) f = tt
      none q None f = subst (λ (x : Stream). ShowsNone x number before after) e record { none = reads_none l p held st.hand number (reader_of p c) f.reader refl here f.reads.finds; same = refl; untouched = f.reads.untouched }

      pub may_again : (at : ℕ) → sources.MayReread (source_of now number) at → MayReread l (reader_of p c) at
      may_again at m =
          let g = one_of l p held st.hand (record { at = at; frame = m.frame }) (subst (λ (x : Stream). Among (record { at = at; frame = m.frame }) (source_of x number).frames) (sym e) m.among) in
          let is : c.position ≡ position_of now number = here ∙ ap (λ (x : Stream). position_of x number) e in let passed = m.passed in record {
            frame = g.0;
            has = inr g.1;
            here = sym (ap (λ (x : Placed). x.at) g.2);
            below = omega arith;
            near = subst (λ (x : ℕ × Identity). x.0 ≤ at + 3 * x.1.geometry.term_length / 4) (λ j. (sym is j, (sym (ap (λ (x : Stream). x.identity) e) ∙ st.hand.free.of.identity) j)) m.near;
          }

      pub again : (q : PublisherValue) (at : ℕ) (head : FrameHead) → sources.MayReread (source_of now number) at → Reread l p c at head before q after → ShowsFrame now at head before after
      again q at head m f = subst (λ (x : Stream). ShowsFrame x at head before after) e (reads_again l p held st.hand at (record { at = at; frame = m.frame }) (subst (λ (x : Stream). Among (record { at = at; frame = m.frame }) (source_of x number).frames) (sym e) m.among) refl (reader_of p c) f.reader head before after refl f.reads)
