-- What another limit word makes of the stream in one hand.
use Rattle.std.proofs.Common.{◌≡◌, ◌∙◌, ℕ, ◌+◌, ◌*◌, ◌/◌, ◌%◌, ◌<◌, Bool, true, false, List, length, None, Some, sym, ap, subst, arith}
use Rattle.std.specs.Prelude.{Option, nat_eq, slice_index_or}
use Rattle.std.proofs.lemmas.Bool.{eq-eqb, ne_eqb}
use Rattle.theory.specs.Refusal.{is_closed, is_connected, limit_in}
use Rattle.publication.specs.declared.pass.Controls.{Controls}
use Rattle.publication.specs.declared.pass.Pass.{Pass}
use Rattle.shared_log.specs.Steps.Handles.{LogValue, PublisherValue}
use Rattle.log_rule.specs.Keepings.{numbered, with_keeping}
use Rattle.one_hand.proofs.InHand.{knows_by}
use Rattle.shared_log.specs.Keepers.{closed_word, connected_word}
use Rattle.shared_log.specs.Readers.{numbers_of}
use Rattle.one_hand.specs.Stream.{Stream}
use Rattle.one_hand.specs.declared.log_hand.held.Held.{Held}
use Rattle.one_hand.specs.Shown.{IsWhole, consumers_of, kept, shares_of, stream_of}
use Rattle.one_hand.specs.Hands.{stream_in}
use Rattle.one_hand.specs.Parts.{Numbers, Stands}
use Rattle.one_hand.specs.Keepings.{MayKeep, SetsLimit}

abbrev with_word : Stream → ℕ → Stream
with_word l word = record l { limit = limit_in word; connected = is_connected word; closed = is_closed word }

module _ (l : LogValue) (p : PublisherValue) (held : List (Option Held)) (n : Numbers) (st : Stands l p held n) where
  pub may_keep : MayKeep l p n.limit n.cleaned n.there
  may_keep = let parts = st.hand.all.parts in record { of = st.hand.free.of; is = record { some = omega arith; keeper = st.hand.all.keeper; limit_is = sym st.numbers.limit; cleaned_is = sym st.numbers.cleaned }; knows = st.numbers.knows }

  module _ (q : PublisherValue) (word answer : ℕ) (k : SetsLimit p word n.cleaned q answer) where
    abbrev v : Pass
    v = with_keeping p.pass (record p.pass.keeping { limit = word })

    abbrev c : Controls
    c = record p.controls { limit = word }

    same : q.controls ≡ record p.controls { limit = word }
    same = k.controls st.hand.free.sure

    whole : IsWhole (with_keeping p.pass (record p.pass.keeping { limit = word })) (record p.controls { limit = word }) held
    whole = let w = st.hand.whole in let i = w.stream in let t = w.settled in record {
      settled = record { three = t.three; count = t.count; small = t.small; offset = t.offset; narrow = t.narrow; here = t.here; tail_is = t.tail_is; next = t.next; behind = t.behind };
      eight = w.eight;
      follow = w.follow;
      past = w.past;
      chained = w.chained;
      begun = w.begun;
      above = w.above;
      reached = w.reached;
      stream = record {
        geometry = i.geometry;
        identity = i.identity;
        unit = i.unit;
        below = i.below;
        from = i.from;
        to = i.to;
        last = i.last;
        first = i.first;
        tiles = i.tiles;
        entries = i.entries;
        eight = i.eight;
        shares = i.shares;
        numbers = i.numbers;
        claims = λ by o e. (let x = i.claims by o e in record { entry = x.entry; short = x.short });
        word = i.word;
        consumer_units = i.consumer_units;
        readable = i.readable;
      };
    }

    pub flagged : Stands l q held (record n { limit = answer }) × (stream_in q held ≡ with_word (stream_in p held) word)
    flagged = let is = k.pass in (
      record {
        hand = record {
          free = record {
            of = record { table = k.of ∙ st.hand.free.of.table; identity = ap (λ (x : Pass). x.identity) is ∙ st.hand.free.of.identity; start = ap (λ (x : Pass). x.start) is ∙ st.hand.free.of.start };
            sure = k.sure ∙ st.hand.free.sure;
            parts = ap (λ (x : Pass). x.right.parts) is ∙ st.hand.all.parts;
            idle = ap (λ (x : Pass). x.right.armed) is ∙ st.hand.free.idle;
          };
          whole = subst (λ (x : Pass × Controls). IsWhole x.0 x.1 held) (λ j. (sym is j, sym same j)) whole;
          all = record {
            parts = ap (λ (x : Pass). x.right.parts) is ∙ st.hand.all.parts;
            numbers = subst (λ (x : Pass). numbers_of x ≡ numbered 0 x.keeping.there) (sym is) st.hand.all.numbers;
            eight = ap (λ (x : Pass). length x.keeping.there) is ∙ st.hand.all.eight;
            some = subst (λ (x : Pass). 0 < length x.reading) (sym is) st.hand.all.some;
            keeper = ap (λ (x : Pass). x.keeping.right) is ∙ st.hand.all.keeper;
            limit = ap (λ (x : Pass). x.keeping.limit) is ∙ ap (λ (x : Controls). x.limit) (sym same);
          };
        };
        numbers = record {
          shares = st.numbers.shares ∙ ap (λ (x : Pass). shares_of x.right.claims) (sym is);
          places = st.numbers.places;
          positions = λ k at e. st.numbers.positions k at (subst (λ (x : Pass). slice_index_or (consumers_of x) k None ≡ Some at) is e);
          limit = k.answer_is ∙ ap (λ (x : Pass). x.keeping.limit) (sym is);
          cleaned = st.numbers.cleaned ∙ ap (λ (x : Pass). x.keeping.cleaned) (sym is);
          knows = knows_by p.pass q.pass n.there (ap (λ (x : Pass). x.keeping.there) is) (ap (λ (x : Pass). length x.keeping.positions) is ∙ st.numbers.knows.eight) st.numbers.knows;
          block = st.numbers.block;
        };
      },
      (λ j. kept (stream_of (is j) (same j) held)),
    )

-- ---- the two flags

connected_is : (b : Bool) (w : ℕ) → (limit_in (connected_word b w) ≡ limit_in w) × (is_connected (connected_word b w) ≡ b) × (is_closed (connected_word b w) ≡ is_closed w)
connected_is true w = (omega arith, eq-eqb ((w / 2 * 2 + 1) % 2) 1 (omega arith), ap (λ (k : ℕ). nat_eq k 1) (let e : (w / 2 * 2 + 1) / 2 % 2 ≡ w / 2 % 2 = omega arith in e))
connected_is false w = (omega arith, ne_eqb ((w / 2 * 2 + 0) % 2) 1 (λ e. omega arith), ap (λ (k : ℕ). nat_eq k 1) (let e : (w / 2 * 2 + 0) / 2 % 2 ≡ w / 2 % 2 = omega arith in e))

closed_is : (w : ℕ) → (limit_in (closed_word w) ≡ limit_in w) × (is_connected (closed_word w) ≡ is_connected w) × (is_closed (closed_word w) ≡ true)
closed_is w = (omega arith, ap (λ (k : ℕ). nat_eq k 1) (let e : (w / 4 * 4 + 2 + w % 2) % 2 ≡ w % 2 = omega arith in e), eq-eqb ((w / 4 * 4 + 2 + w % 2) / 2 % 2) 1 (omega arith))

module _ (l : LogValue) (p : PublisherValue) (held : List (Option Held)) (n : Numbers) (st : Stands l p held n) (q : PublisherValue) (answer : ℕ) where
  word_is : n.limit ≡ p.controls.limit
  word_is = st.numbers.limit ∙ st.hand.all.limit

  pub connected : (b : Bool) → SetsLimit p (connected_word b n.limit) n.cleaned q answer → stream_in q held ≡ record (stream_in p held) { connected = b }
  connected b k = let f = connected_is b p.controls.limit in (flagged l p held n st q (connected_word b n.limit) answer k).1 ∙ ap (λ (w : ℕ). with_word (stream_in p held) (connected_word b w)) word_is
      ∙ (λ j. record (stream_in p held) { limit = f.0 j; connected = f.1 j; closed = f.2 j })

  pub closed : SetsLimit p (closed_word n.limit) n.cleaned q answer → stream_in q held ≡ record (stream_in p held) { closed = true }
  closed k = let f = closed_is p.controls.limit in (flagged l p held n st q (closed_word n.limit) answer k).1 ∙ ap (λ (w : ℕ). with_word (stream_in p held) (closed_word w)) word_is
      ∙ (λ j. record (stream_in p held) { limit = f.0 j; connected = f.1 j; closed = f.2 j })
