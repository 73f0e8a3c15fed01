-- What a cleaning by the pass that has all makes of the stream in one hand.
use Rattle.std.proofs.Common.{◌≡◌, ◌∙◌, ℕ, ◌-◌, ◌%◌, ◌<◌, max, List, length, map, None, Some, sym, ap, subst}
use Rattle.std.specs.Prelude.{Option, slice_index, slice_index_or}
use Rattle.theory.specs.Refusal.{limit_in}
use Rattle.theory.proofs.Places.{power_half}
use Rattle.publication.specs.declared.pass.Controls.{Controls}
use Rattle.publication.specs.declared.pass.Pass.{Pass}
use Rattle.shared_log.specs.Steps.Handles.{LogValue, PublisherValue}
use Rattle.log_rule.specs.Keepings.{least_there, numbered, with_keeping}
use Rattle.shared_log.specs.Keepers.{raised}
use Rattle.shared_log.specs.Readers.{numbers_of}
use Rattle.one_hand.specs.Stream as one_hand
use Rattle.one_hand.specs.Stream.{Stream, clean_end, cleaned_and_limited, least, standing}
use Rattle.one_hand.specs.declared.log_hand.held.Held.{Held}
use Rattle.one_hand.specs.Shown.{IsWhole, consumers_of, kept, shares_of, stream_of}
use Rattle.one_hand.specs.Hands.{stream_in}
use Rattle.one_hand.specs.Parts.{Numbers, Stands}
use Rattle.one_hand.specs.Keepings.{Cleans}
use Rattle.one_hand.proofs.InHand.{knows_by, somebody}
use Rattle.one_hand.proofs.Cleaned.{cleaned_is, kept_cleaned, least_has}
use Rattle.one_hand.proofs.Swept.{raised_is, seen_stand}

module _ (l : LogValue) (p : PublisherValue) (held : List (Option Held)) (n : Numbers) (st : Stands l p held n) (q : PublisherValue) (word low answer : ℕ) (k : Cleans l p n.limit n.cleaned q word low answer) where
  abbrev f : Stream
  f = stream_of p.pass p.controls held

  abbrev seen : List ℕ
  seen = k.keeper.held.pass.keeping.positions

  -- those who are there are the pass's own consumers
  seen_is : map (slice_index seen) (numbered 0 p.pass.keeping.there) ≡ standing (consumers_of p.pass)
  seen_is = seen_stand p n.limit n.cleaned seen st.hand.all k.cleans.reads

  some : 0 < length (standing (consumers_of p.pass))
  some = somebody p.pass p.controls st.hand.all

  abbrev w : ℕ
  w = raised p.controls.limit (least (standing (consumers_of p.pass))) p.pass.identity.geometry.term_length

  abbrev v : Pass
  v = with_keeping p.pass (record p.pass.keeping { limit = raised p.controls.limit (least (standing (consumers_of p.pass))) p.pass.identity.geometry.term_length; cleaned = clean_end (stream_of p.pass p.controls held); positions = k.keeper.held.pass.keeping.positions; reads = k.keeper.held.pass.keeping.reads })

  word_then : raised n.limit (least_there p.pass.keeping.there seen) l.identity.geometry.term_length ≡ w
  word_then = λ j. raised ((st.numbers.limit ∙ st.hand.all.limit) j) (least (seen_is j)) ((sym st.hand.free.of.identity j).geometry.term_length)

  low_then : max l.start (least_there p.pass.keeping.there seen - l.identity.geometry.term_length) ≡ clean_end f
  low_then = λ j. max (sym st.hand.free.of.start j) (least (seen_is j) - (sym st.hand.free.of.identity j).geometry.term_length)

  pass_is : q.pass ≡ v
  pass_is = ap (λ (x : PublisherValue). x.pass) (sym k.seat) ∙ k.cleans.keeps.pass ∙ (λ j. with_keeping p.pass (record p.pass.keeping { limit = word_then j; cleaned = low_then j; positions = seen; reads = k.keeper.held.pass.keeping.reads }))

  controls_are : q.controls ≡ record p.controls { limit = w }
  controls_are = ap (λ (x : PublisherValue). x.controls) (sym k.seat) ∙ k.cleans.keeps.controls st.hand.free.sure ∙ ap (λ (x : ℕ). record p.controls { limit = x }) word_then

  pub cleans : stream_in q held ≡ cleaned_and_limited (stream_in p held)
  cleans =
      let i = st.hand.whole.stream in let unit = least_has (λ x. x % 32 ≡ 0) (standing (consumers_of p.pass)) some i.consumer_units in
      let word' = raised_is p.controls.limit (least (standing (consumers_of p.pass))) p.pass.identity.geometry.term_length unit (power_half p.pass.identity.geometry.term_length i.geometry.term.power i.geometry.term.least) in
      let entries = ap (λ (x : Stream). x.entries) (kept_cleaned f i some) in
      (λ j. kept (stream_of (pass_is j) (controls_are j) held)) ∙ (λ j. record (kept f) { cleaned = clean_end f; entries = entries j; limit = word'.limit j; connected = word'.connected j; closed = word'.closed j })

  pub whole : IsWhole q.pass q.controls held
  whole = subst (λ (x : Pass × Controls). IsWhole x.0 x.1 held) (λ j. (sym pass_is j, sym controls_are j)) base
    where
      base : IsWhole v (record p.controls { limit = w }) held
      base = let h = st.hand.whole in let i = cleaned_is f h.stream some in let t = h.settled in record {
        settled = record { three = t.three; count = t.count; small = t.small; offset = t.offset; narrow = t.narrow; here = t.here; tail_is = t.tail_is; next = t.next; behind = t.behind };
        eight = h.eight;
        follow = h.follow;
        past = h.past;
        chained = h.chained;
        begun = h.begun;
        above = h.above;
        reached = h.reached;
        stream = record {
          geometry = i.geometry;
          identity = i.identity;
          unit = i.unit;
          below = i.below;
          from = i.from;
          to = i.to;
          last = i.last;
          first = i.first;
          tiles = i.tiles;
          entries = i.entries;
          eight = i.eight;
          shares = i.shares;
          numbers = i.numbers;
          claims = λ by o e. (let x = i.claims by o e in record { entry = x.entry; short = x.short });
          word = i.word;
          consumer_units = i.consumer_units;
          readable = i.readable;
        };
      }

  pub limit_is : answer ≡ one_hand.raised (stream_in p held)
  limit_is =
      let i = st.hand.whole.stream in let unit = least_has (λ x. x % 32 ≡ 0) (standing (consumers_of p.pass)) some i.consumer_units in
      k.answer_is ∙ ap limit_in (k.cleans.keeps.limit ∙ word_then) ∙ (raised_is p.controls.limit (least (standing (consumers_of p.pass))) p.pass.identity.geometry.term_length unit (power_half p.pass.identity.geometry.term_length i.geometry.term.power i.geometry.term.least)).limit

  pub stands : Stands l q held (record n { limit = word; cleaned = low })
  stands = record {
    hand = record {
      free = record {
        of = record { table = ap (λ (x : PublisherValue). x.of) (sym k.seat) ∙ k.cleans.keeps.of ∙ st.hand.free.of.table; identity = ap (λ (x : Pass). x.identity) pass_is ∙ st.hand.free.of.identity; start = ap (λ (x : Pass). x.start) pass_is ∙ st.hand.free.of.start };
        sure = ap (λ (x : PublisherValue). x.sure) (sym k.seat) ∙ k.cleans.keeps.sure ∙ st.hand.free.sure;
        parts = ap (λ (x : Pass). x.right.parts) pass_is ∙ st.hand.all.parts;
        idle = ap (λ (x : Pass). x.right.armed) pass_is ∙ st.hand.free.idle;
      };
      whole = whole;
      all = record {
        parts = ap (λ (x : Pass). x.right.parts) pass_is ∙ st.hand.all.parts;
        numbers = subst (λ (x : Pass). numbers_of x ≡ numbered 0 x.keeping.there) (sym pass_is) st.hand.all.numbers;
        eight = ap (λ (x : Pass). length x.keeping.there) pass_is ∙ st.hand.all.eight;
        some = subst (λ (x : Pass). 0 < length x.reading) (sym pass_is) st.hand.all.some;
        keeper = ap (λ (x : Pass). x.keeping.right) pass_is ∙ st.hand.all.keeper;
        limit = ap (λ (x : Pass). x.keeping.limit) pass_is ∙ ap (λ (x : Controls). x.limit) (sym controls_are);
      };
    };
    numbers = record {
      shares = st.numbers.shares ∙ ap (λ (x : Pass). shares_of x.right.claims) (sym pass_is);
      places = st.numbers.places;
      positions = λ k at e. st.numbers.positions k at (subst (λ (x : Pass). slice_index_or (consumers_of x) k None ≡ Some at) pass_is e);
      limit = k.word_is ∙ k.cleans.keeps.limit ∙ word_then ∙ ap (λ (x : Pass). x.keeping.limit) (sym pass_is);
      cleaned = k.low_is ∙ k.cleans.keeps.cleaned ∙ low_then ∙ ap (λ (x : Pass). x.keeping.cleaned) (sym pass_is);
      knows = knows_by p.pass q.pass n.there (ap (λ (x : Pass). x.keeping.there) pass_is) (ap (λ (x : Pass). length x.keeping.positions) pass_is ∙ k.cleans.all) st.numbers.knows;
      block = st.numbers.block;
    };
  }
