-- The pass's consumers stand elsewhere, or others are there.
use Rattle.std.proofs.Common.{◌≡◌, ◌∙◌, ℕ, ◌+◌, ◌-◌, ◌%◌, ◌<◌, ◌≤◌, max, List, map, length, None, Some, refl, sym, ap, subst, arith}
use Rattle.std.specs.Prelude.{Option, slice_get, slice_index_or, slice_set}
use Rattle.std.specs.List.{AllByRecursion}
use Rattle.publication.specs.declared.pass.Controls.{Controls}
use Rattle.publication.specs.declared.pass.Keeping.{Keeping}
use Rattle.publication.specs.declared.pass.Pass.{Pass}
use Rattle.publication.specs.declared.pass.Reading.{Reading}
use Rattle.shared_log.specs.Steps.Handles.{LogValue, PublisherValue}
use Rattle.log_rule.specs.Keepings.{numbered}
use Rattle.shared_log.specs.Readers.{OnlyReads, positions_of}
use Rattle.shared_log.specs.Steps.Readers.{SameSeat}
use Rattle.one_hand.specs.Legal.{IsStream}
use Rattle.one_hand.specs.Stream.{Stream, standing}
use Rattle.one_hand.specs.declared.log_hand.held.Held.{Held}
use Rattle.one_hand.specs.Hands.{HasAll, IsInHand, stream_in}
use Rattle.one_hand.specs.Shown.{IsWhole, WholeBy, consumers_of, kept, seated, spans, stream_of}
use Rattle.one_hand.proofs.InHand.{mapped}
use Rattle.one_hand.proofs.Seats.{all_seats, one_standing}

-- nothing else of the pass, and of who has it, has changed
pub record Reseats (p q : PublisherValue) (cs : List (Option ℕ)) : Type 0 where
  pub reading : List Reading
  pub keeping : Keeping
  pub of : q.of ≡ p.of
  pub sure : q.sure ≡ p.sure
  pub pass : q.pass ≡ record p.pass { reading = reading; keeping = keeping }
  pub controls : q.controls ≡ p.controls
  pub rest : keeping ≡ record p.pass.keeping { there = keeping.there; positions = keeping.positions; reads = keeping.reads }
  pub numbers : map (λ (r : Reading). r.number) reading ≡ numbered 0 keeping.there
  pub eight : length keeping.there ≡ 8
  pub some : 0 < length reading
  pub seats : seated keeping.there (map (λ (r : Reading). r.position) reading) ≡ cs

-- a seat that only read, whose consumers stand there
pub reading_only : (p q : PublisherValue) → SameSeat p q → OnlyReads p.pass q.pass → p.sure ≡ 1 → HasAll p.pass p.controls → (cs : List (Option ℕ)) → seated p.pass.keeping.there (positions_of q.pass) ≡ cs → Reseats p q cs
reading_only p q seat only sure all cs seats = record {
  reading = q.pass.reading;
  keeping = p.pass.keeping;
  of = seat.of;
  sure = seat.sure;
  pass = only.rest;
  controls = seat.controls sure;
  rest = refl;
  numbers = only.numbers ∙ all.numbers;
  eight = all.eight;
  some = (let a = all.some in let e = sym (mapped (λ (r : Reading). r.number) q.pass.reading) ∙ ap length only.numbers ∙ mapped (λ (r : Reading). r.number) p.pass.reading in omega (arith, a, e));
  seats = seats;
}

module _ (l : LogValue) (p : PublisherValue) (held : List (Option Held)) (hand : IsInHand l p held) where
  abbrev pub t : ℕ
  t = p.pass.identity.geometry.term_length

  abbrev pub tail : ℕ
  tail = p.pass.start + spans p.pass.right.claims

  -- where a consumer may stand
  pub record IsStand (x : ℕ) : Type 0 where
    pub unit : x % 32 ≡ 0
    pub readable : p.pass.keeping.cleaned ≤ max p.pass.start (x - t)
    pub from : p.pass.start ≤ x
    pub to : x ≤ tail
    pub claims : (by : ℕ) (h : Held) → slice_get held by ≡ Some (Some h) → x ≤ h.start

  pub record AreStands (cs : List (Option ℕ)) : Type 0 where
    pub units : AllByRecursion (λ x. x % 32 ≡ 0) (standing cs)
    pub readable : AllByRecursion (λ x. p.pass.keeping.cleaned ≤ max p.pass.start (x - t)) (standing cs)
    pub reached : AllByRecursion (λ x. (p.pass.start ≤ x) × (x ≤ tail)) (standing cs)
    pub above : (by : ℕ) (h : Held) → slice_get held by ≡ Some (Some h) → AllByRecursion (λ x. x ≤ h.start) (standing cs)

  pub stands_now : AreStands (consumers_of p.pass)
  stands_now = let w = hand.whole in record { units = w.stream.consumer_units; readable = w.stream.readable; reached = w.reached; above = w.above }

  -- one with a number stands so
  pub stand_at : (k at : ℕ) → slice_index_or (consumers_of p.pass) k None ≡ Some at → IsStand at
  stand_at k at e =
      let w = stands_now in let r = one_standing (λ x. (p.pass.start ≤ x) × (x ≤ tail)) (consumers_of p.pass) k at w.reached e in record {
        unit = one_standing (λ x. x % 32 ≡ 0) (consumers_of p.pass) k at w.units e;
        readable = one_standing (λ x. p.pass.keeping.cleaned ≤ max p.pass.start (x - t)) (consumers_of p.pass) k at w.readable e;
        from = r.0;
        to = r.1;
        claims = λ by h holds. one_standing (λ x. x ≤ h.start) (consumers_of p.pass) k at (w.above by h holds) e;
      }

  -- and where it stands elsewhere, or is one more
  pub stands_with : (k at : ℕ) → IsStand at → AreStands (slice_set (consumers_of p.pass) k (Some at))
  stands_with k at s = let w = stands_now in record {
    units = all_seats (λ x. x % 32 ≡ 0) (consumers_of p.pass) k (Some at) w.units s.unit;
    readable = all_seats (λ x. p.pass.keeping.cleaned ≤ max p.pass.start (x - t)) (consumers_of p.pass) k (Some at) w.readable s.readable;
    reached = all_seats (λ x. (p.pass.start ≤ x) × (x ≤ tail)) (consumers_of p.pass) k (Some at) w.reached (s.from, s.to);
    above = λ by h holds. all_seats (λ x. x ≤ h.start) (consumers_of p.pass) k (Some at) (w.above by h holds) (s.claims by h holds);
  }

  pub stands_without : (k : ℕ) → AreStands (slice_set (consumers_of p.pass) k None)
  stands_without k = let w = stands_now in record {
    units = all_seats (λ x. x % 32 ≡ 0) (consumers_of p.pass) k None w.units tt;
    readable = all_seats (λ x. p.pass.keeping.cleaned ≤ max p.pass.start (x - t)) (consumers_of p.pass) k None w.readable tt;
    reached = all_seats (λ x. (p.pass.start ≤ x) × (x ≤ tail)) (consumers_of p.pass) k None w.reached tt;
    above = λ by h holds. all_seats (λ x. x ≤ h.start) (consumers_of p.pass) k None (w.above by h holds) tt;
  }

  module _ (q : PublisherValue) (cs : List (Option ℕ)) (r : Reseats p q cs) (s : AreStands cs) where
    abbrev moved : Stream
    moved = record (stream_of p.pass p.controls held) { consumers = cs }

    cleaned_same : r.keeping.cleaned ≡ p.pass.keeping.cleaned
    cleaned_same = ap (λ (k : Keeping). k.cleaned) r.rest

    pub shown_moved : stream_of q.pass q.controls held ≡ moved
    shown_moved = (λ j. stream_of (r.pass j) (r.controls j) held) ∙ (λ j. record (stream_of p.pass p.controls held) { consumers = r.seats j; cleaned = cleaned_same j })

    moved_is : IsStream moved
    moved_is = let is = hand.whole.stream in record { geometry = is.geometry; identity = is.identity; unit = is.unit; below = is.below; from = is.from; to = is.to; last = is.last; first = is.first; tiles = is.tiles; entries = is.entries; eight = is.eight; shares = is.shares; numbers = is.numbers; claims = λ by c h. (let o = is.claims by c h in record { entry = o.entry; short = o.short }); word = is.word; consumer_units = s.units; readable = s.readable }

    abbrev Whole : List (Option ℕ) → ℕ → Type 0
    Whole xs z = WholeBy p.pass.identity p.pass.start xs z p.pass.right.claims p.pass.work.frames p.pass.work.drafts p.controls held

    whole_moved : WholeBy p.pass.identity p.pass.start cs p.pass.keeping.cleaned p.pass.right.claims p.pass.work.frames p.pass.work.drafts p.controls held
    whole_moved = let w = hand.whole in record { settled = w.settled; eight = w.eight; follow = w.follow; past = w.past; chained = w.chained; begun = w.begun; above = s.above; reached = s.reached; stream = moved_is }

    whole_then : IsWhole (record p.pass { reading = r.reading; keeping = r.keeping }) p.controls held
    whole_then = subst (λ (y : List (Option ℕ) × ℕ). Whole y.0 y.1) (λ j. (sym r.seats j, sym cleaned_same j)) whole_moved

    pub back : IsInHand l q held
    back = let of = hand.free.of in let a = hand.all in record {
      free = record { of = record { table = r.of ∙ of.table; identity = ap (λ (x : Pass). x.identity) r.pass ∙ of.identity; start = ap (λ (x : Pass). x.start) r.pass ∙ of.start }; sure = r.sure ∙ hand.free.sure; parts = ap (λ (x : Pass). x.right.parts) r.pass ∙ a.parts; idle = ap (λ (x : Pass). x.right.armed) r.pass ∙ hand.free.idle };
      whole = subst (λ (z : Pass × Controls). IsWhole z.0 z.1 held) (λ j. (sym r.pass j, sym r.controls j)) whole_then;
      all = record {
        parts = ap (λ (x : Pass). x.right.parts) r.pass ∙ a.parts;
        numbers = subst (λ (x : Pass). map (λ (y : Reading). y.number) x.reading ≡ numbered 0 x.keeping.there) (sym r.pass) r.numbers;
        eight = ap (λ (x : Pass). length x.keeping.there) r.pass ∙ r.eight;
        some = subst (λ (x : Pass). 0 < length x.reading) (sym r.pass) r.some;
        keeper = ap (λ (x : Pass). x.keeping.right) r.pass ∙ ap (λ (k : Keeping). k.right) r.rest ∙ a.keeper;
        limit = ap (λ (x : Pass). x.keeping.limit) r.pass ∙ ap (λ (k : Keeping). k.limit) r.rest ∙ a.limit ∙ ap (λ (c : Controls). c.limit) (sym r.controls);
      };
    }

    pub shows : stream_in q held ≡ kept moved
    shows = ap kept shown_moved
