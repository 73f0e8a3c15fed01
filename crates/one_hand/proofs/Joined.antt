-- What a consumer that joins, and one that leaves, makes of the stream in one hand.
use Rattle.std.proofs.Common.{◌≡◌, ◌∙◌, ℕ, zero, suc, ◌+◌, ◌-◌, ◌%◌, ◌<◌, ◌≤◌, max, Bool, true, false, List, [], ◌∷◌, ◌++◌, map, length, length-set, take, drop, None, Some, refl, sym, ap, subst, arith}
use Rattle.std.proofs.lemmas.List.{map-set}
use lib.ListN.{get_elem?}
use mathlib.Core.Option.{some}
use Rattle.std.specs.Prelude.{Option, slice_index, slice_index_or, slice_set}
use Rattle.publication.specs.declared.pass.Keeping.{Keeping}
use Rattle.publication.specs.declared.pass.Pass.{Pass}
use Rattle.publication.specs.declared.pass.Reading.{Reading}
use Rattle.shared_log.specs.Steps.Handles.{LogValue, PublisherValue}
use Rattle.log_rule.specs.Keepings.{left, newly, numbered}
use Rattle.shared_log.specs.Joining as joining
use Rattle.shared_log.specs.Joining.{begun}
use Rattle.shared_log.specs.Keepers.{KnowsWho, flag_of}
use Rattle.shared_log.specs.Readers.{positions_of}
use Rattle.one_hand.specs.Stream.{HasConsumer, HasOther, IsVacant, Stream, consumer_at, least, lowest, position_in, position_of, standing, with_consumer, without_consumer}
use Rattle.one_hand.specs.declared.log_hand.held.Held.{Held}
use Rattle.one_hand.specs.Hands.{stream_in}
use Rattle.one_hand.specs.Keepings.{BeginsAt, EndsAt, keeper_of}
use Rattle.one_hand.specs.Parts.{IsHand, Numbers, Stands, stream_at}
use Rattle.one_hand.specs.Readers.{below}
use Rattle.one_hand.specs.Shown.{consumers_of, seated, shares_of, spans}
use Rattle.one_hand.proofs.Cleaned.{least_has}
use Rattle.one_hand.proofs.InHand.{somebody}
use Rattle.one_hand.proofs.Moved.{AreStands, IsStand, Reseats, back, shows, stands_now, stands_with, stands_without}
use Rattle.one_hand.proofs.Seats.{seat_at, seat_free, seat_less, seat_low, seat_more, seat_places, seat_places_without, seat_flagged, seat_unflagged, seats_many, vacant_none, none_vacant, flag_at}
use Rattle.one_hand.proofs.Swept.{seen_stand}

one_more : (xs ys : List Reading) (r : Reading) → 0 < length (xs ++ r ∷ ys)
one_more [] ys r = omega arith
one_more (x ∷ xs) ys r = omega arith

some_numbered : (flags : List ℕ) (from k : ℕ) → slice_index flags k ≡ 1 → 0 < length (numbered from flags)
some_numbered [] from k e = absurd (omega (arith, e))
some_numbered (zero ∷ fs) from zero e = absurd (omega (arith, e))
some_numbered (zero ∷ fs) from (suc k) e = some_numbered fs (suc from) k e
some_numbered (suc f ∷ fs) from k e = omega arith

-- who stands somewhere has a flag
flagged : (there : List Bool) (ps : List ℕ) (k at : ℕ) → slice_index_or (seated (map flag_of there) ps) k None ≡ Some at → slice_index (map flag_of there) k ≡ 1
flagged [] ps k at e = absurd (cc)
flagged (true ∷ bs) ps zero at e = refl
flagged (false ∷ bs) ps zero at e = absurd (cc)
flagged (true ∷ bs) [] (suc k) at e = flagged bs [] k at e
flagged (true ∷ bs) (p ∷ ps) (suc k) at e = flagged bs ps k at e
flagged (false ∷ bs) ps (suc k) at e = flagged bs ps k at e

set_at : (xs : List ℕ) (k a : ℕ) → k < length xs → slice_index (slice_set xs k a) k ≡ a
set_at [] k a low = absurd (omega (arith, low))
set_at (x ∷ xs) zero a low = refl
set_at (x ∷ xs) (suc k) a low = set_at xs k a (omega (arith, low))

set_other : (xs : List ℕ) (k j a : ℕ) → (j ≡ k → ⊥) → slice_index (slice_set xs k a) j ≡ slice_index xs j
set_other [] k j a ne = refl
set_other (x ∷ xs) zero zero a ne = absurd (ne refl)
set_other (x ∷ xs) zero (suc j) a ne = refl
set_other (x ∷ xs) (suc k) zero a ne = refl
set_other (x ∷ xs) (suc k) (suc j) a ne = set_other xs k j a (λ e. ne (ap suc e))

module _ (l : LogValue) (p : PublisherValue) (held : List (Option Held)) (n : Numbers) (st : Stands l p held n) (number place : ℕ) (place_is : place ≡ below (map flag_of n.there) number) (q : PublisherValue) where
  abbrev cs : List (Option ℕ)
  cs = consumers_of p.pass

  place_then : place ≡ below p.pass.keeping.there number
  place_then = place_is ∙ ap (λ (flags : List ℕ). below flags number) (sym st.numbers.knows.flags)

  enough : length (consumers_of p.pass) ≤ length n.positions
  enough = let a = seats_many p.pass.keeping.there (positions_of p.pass) in let b = st.hand.all.eight in let d = st.numbers.places in omega (arith, a, b, d)

  -- ---- a join

  pub free_flag : consumer_at (stream_in p held) number ≡ None → number < 8 → slice_index (map flag_of n.there) number ≡ 0
  free_flag free low = ap (λ (flags : List ℕ). slice_index flags number) (sym st.numbers.knows.flags) ∙ seat_free p.pass.keeping.there p.pass.reading 0 number st.hand.all.numbers (let e = st.hand.all.eight in omega (arith, low, e)) free

  module _ (low : number < 8) (free : consumer_at (stream_in p held) number ≡ None) (position : ℕ) (k : BeginsAt l p n.limit n.cleaned number place q position) where
    abbrev seen : List ℕ
    seen = k.keeper.held.pass.keeping.positions

    pub stands_least : position ≡ lowest (stream_in p held)
    stands_least = k.begins.least ∙ ap least (seen_stand p n.limit n.cleaned seen st.hand.all k.begins.reads)

    abbrev keeping : Keeping
    keeping = record p.pass.keeping { there = slice_set p.pass.keeping.there number 1; positions = seen; reads = k.keeper.held.pass.keeping.reads }

    abbrev reading : List Reading
    reading = take (below p.pass.keeping.there number) p.pass.reading ++ newly number position ∷ drop (below p.pass.keeping.there number) p.pass.reading

    flag_free : slice_index p.pass.keeping.there number ≡ 0
    flag_free = seat_free p.pass.keeping.there p.pass.reading 0 number st.hand.all.numbers (let e = st.hand.all.eight in omega (arith, low, e)) free

    one : (map (λ (r : Reading). r.number) reading ≡ numbered 0 (slice_set p.pass.keeping.there number 1)) × (seated (slice_set p.pass.keeping.there number 1) (map (λ (r : Reading). r.position) reading) ≡ slice_set (consumers_of p.pass) number (Some position))
    one = seat_more p.pass.keeping.there p.pass.reading 0 number (newly number position) st.hand.all.numbers (let e = st.hand.all.eight in omega (arith, low, e)) flag_free (let e : number ≡ 0 + number = omega arith in e)

    pass_is : q.pass ≡ record p.pass { reading = reading; keeping = keeping }
    pass_is = ap (λ (x : PublisherValue). x.pass) (sym k.seat) ∙ k.begins.becomes.pass_is ∙ ap (λ (i : ℕ). begun (keeper_of p n.limit n.cleaned) number i position seen k.keeper.held.pass.keeping.reads) place_then

    others : Reseats p q (slice_set (consumers_of p.pass) number (Some position))
    others = record {
      reading = reading;
      keeping = keeping;
      of = ap (λ (x : PublisherValue). x.of) (sym k.seat) ∙ k.begins.becomes.of;
      sure = ap (λ (x : PublisherValue). x.sure) (sym k.seat) ∙ k.begins.becomes.sure;
      pass = pass_is;
      controls = ap (λ (x : PublisherValue). x.controls) (sym k.seat) ∙ k.begins.controls st.hand.free.sure ∙ ap (λ (x : ℕ). record p.controls { limit = x }) (st.numbers.limit ∙ st.hand.all.limit);
      rest = refl;
      numbers = one.0;
      eight = length-set p.pass.keeping.there number 1 ∙ st.hand.all.eight;
      some = one_more (take (below p.pass.keeping.there number) p.pass.reading) (drop (below p.pass.keeping.there number) p.pass.reading) (newly number position);
      seats = one.1;
    }

    may_stand : IsStand l p held st.hand position
    may_stand =
        let w = stands_now l p held st.hand in let any = somebody p.pass p.controls st.hand.all in let ps : List ℕ = standing (consumers_of p.pass) in
        subst (IsStand l p held st.hand) (sym stands_least) (record {
          unit = least_has (λ x. x % 32 ≡ 0) ps any w.units;
          readable = least_has (λ x. p.pass.keeping.cleaned ≤ max p.pass.start (x - p.pass.identity.geometry.term_length)) ps any w.readable;
          from = (least_has (λ x. (p.pass.start ≤ x) × (x ≤ p.pass.start + spans p.pass.right.claims)) ps any w.reached).0;
          to = (least_has (λ x. (p.pass.start ≤ x) × (x ≤ p.pass.start + spans p.pass.right.claims)) ps any w.reached).1;
          claims = λ by h holds. least_has (λ x. x ≤ h.start) ps any (w.above by h holds);
        })

    stood : AreStands l p held st.hand (slice_set (consumers_of p.pass) number (Some position))
    stood = stands_with l p held st.hand number position may_stand

    pub joined : stream_in q held ≡ with_consumer (stream_in p held) number (lowest (stream_in p held))
    joined = shows l p held st.hand q (slice_set (consumers_of p.pass) number (Some position)) others stood ∙ ap (with_consumer (stream_in p held) number) stands_least

    pub stands_joined : Stands l q held (record n { positions = slice_set n.positions number position; there = slice_set n.there number true })
    stands_joined = let was = st.numbers in record {
      hand = back l p held st.hand q (slice_set (consumers_of p.pass) number (Some position)) others stood;
      numbers = record {
        shares = was.shares ∙ ap (λ (x : Pass). shares_of x.right.claims) (sym pass_is);
        places = length-set n.positions number position ∙ was.places;
        positions = λ j at e. seat_places (consumers_of p.pass) n.positions number position enough was.positions j at (subst (λ (xs : List (Option ℕ)). slice_index_or xs j None ≡ Some at) (ap consumers_of pass_is ∙ one.1) e);
        limit = was.limit ∙ ap (λ (x : Pass). x.keeping.limit) (sym pass_is);
        cleaned = was.cleaned ∙ ap (λ (x : Pass). x.keeping.cleaned) (sym pass_is);
        knows = subst (λ (x : Pass). KnowsWho x (slice_set n.there number true)) (sym pass_is) (record {
          many = length-set n.there number true ∙ was.knows.many;
          flags = ap (λ (xs : List ℕ). slice_set xs number 1) was.knows.flags ∙ sym (map-set flag_of n.there number true);
          eight = ap (λ (x : PublisherValue). length x.pass.keeping.positions) k.seat ∙ ap (λ (x : Pass). length x.keeping.positions) pass_is ∙ k.begins.all;
          one = number;
          low = low;
          any = set_at p.pass.keeping.there number 1 (let e = st.hand.all.eight in omega (arith, low, e));
        });
        block = was.block;
      };
    }

  -- ---- a leave

  module _ (has : HasConsumer (stream_in p held) number) (other : HasOther (stream_in p held) number) where
    pub may_end : joining.HasConsumer p.pass place number
    may_end =
        let r = seat_at p.pass.keeping.there p.pass.reading 0 number (position_of (stream_in p held) number) st.hand.all.numbers has in
        record { consumer = r.reader; is = subst (λ (i : ℕ). get_elem? p.pass.reading i ≡ some r.reader) (sym place_then) r.is; number_is = (let i = r.number_is in omega (arith, i)); low = (let e = st.hand.all.eight in let low = seat_low p.pass.keeping.there (positions_of p.pass) number (position_of (stream_in p held) number) has in omega (arith, e, low)) }

    other_is : slice_index (map flag_of n.there) other.other ≡ 1
    other_is = flagged n.there (positions_of p.pass) other.other (position_of (stream_in p held) other.other) (subst (λ (flags : List ℕ). slice_index_or (seated flags (positions_of p.pass)) other.other None ≡ Some (position_of (stream_in p held) other.other)) st.numbers.knows.flags other.there)

    pub other_there : joining.HasOther (map flag_of n.there) number
    other_there = record { other = other.other; another = other.another; is = other_is }

    module _ (k : EndsAt p n.limit n.cleaned number place q) where
      abbrev staying : List Reading
      staying = take (below p.pass.keeping.there number) p.pass.reading ++ drop (suc (below p.pass.keeping.there number)) p.pass.reading

      abbrev keeping_then : Keeping
      keeping_then = record p.pass.keeping { there = slice_set p.pass.keeping.there number 0 }

      less : (map (λ (r : Reading). r.number) staying ≡ numbered 0 (slice_set p.pass.keeping.there number 0)) × (seated (slice_set p.pass.keeping.there number 0) (map (λ (r : Reading). r.position) staying) ≡ slice_set (consumers_of p.pass) number None)
      less = seat_less p.pass.keeping.there p.pass.reading 0 number (position_of (stream_in p held) number) st.hand.all.numbers has

      pass_then : q.pass ≡ record p.pass { reading = staying; keeping = keeping_then }
      pass_then = ap (λ (x : PublisherValue). x.pass) (sym k.seat) ∙ k.ends.becomes.pass_is ∙ ap (λ (i : ℕ). left p.pass i number) place_then

      other_flag : slice_index (slice_set p.pass.keeping.there number 0) other.other ≡ 1
      other_flag = set_other p.pass.keeping.there number other.other 0 other.another ∙ ap (λ (flags : List ℕ). slice_index flags other.other) st.numbers.knows.flags ∙ other_is

      any_stays : 0 < length staying
      any_stays = let e = sym (mapped_length staying) ∙ ap length less.0 in let h = some_numbered (slice_set p.pass.keeping.there number 0) 0 other.other other_flag in omega (arith, e, h)
        where
          mapped_length : (rs : List Reading) → length (map (λ (r : Reading). r.number) rs) ≡ length rs
          mapped_length [] = refl
          mapped_length (r ∷ rs) = ap suc (mapped_length rs)

      others_then : Reseats p q (slice_set (consumers_of p.pass) number None)
      others_then = record {
        reading = staying;
        keeping = keeping_then;
        of = ap (λ (x : PublisherValue). x.of) (sym k.seat) ∙ k.ends.becomes.of;
        sure = ap (λ (x : PublisherValue). x.sure) (sym k.seat) ∙ k.ends.becomes.sure;
        pass = pass_then;
        controls = ap (λ (x : PublisherValue). x.controls) (sym k.seat) ∙ k.ends.controls st.hand.free.sure;
        rest = refl;
        numbers = less.0;
        eight = length-set p.pass.keeping.there number 0 ∙ st.hand.all.eight;
        some = any_stays;
        seats = less.1;
      }

      pub left_is : stream_in q held ≡ without_consumer (stream_in p held) number
      left_is = shows l p held st.hand q (slice_set (consumers_of p.pass) number None) others_then (stands_without l p held st.hand number)

      pub stands_left : Stands l q held (record n { there = slice_set n.there number false })
      stands_left = let was = st.numbers in record {
        hand = back l p held st.hand q (slice_set (consumers_of p.pass) number None) others_then (stands_without l p held st.hand number);
        numbers = record {
          shares = was.shares ∙ ap (λ (x : Pass). shares_of x.right.claims) (sym pass_then);
          places = was.places;
          positions = λ j at e. was.positions j at (seat_places_without (consumers_of p.pass) number j at (subst (λ (xs : List (Option ℕ)). slice_index_or xs j None ≡ Some at) (ap consumers_of pass_then ∙ less.1) e));
          limit = was.limit ∙ ap (λ (x : Pass). x.keeping.limit) (sym pass_then);
          cleaned = was.cleaned ∙ ap (λ (x : Pass). x.keeping.cleaned) (sym pass_then);
          knows = subst (λ (x : Pass). KnowsWho x (slice_set n.there number false)) (sym pass_then) (record {
            many = length-set n.there number false ∙ was.knows.many;
            flags = ap (λ (xs : List ℕ). slice_set xs number 0) was.knows.flags ∙ sym (map-set flag_of n.there number false);
            eight = was.knows.eight;
            one = other.other;
            low = other_low;
            any = other_flag;
          });
          block = was.block;
        };
      }
        where
          other_low : other.other < 8
          other_low = let e = st.hand.all.eight in let low = seat_low p.pass.keeping.there (positions_of p.pass) other.other (position_of (stream_in p held) other.other) other.there in omega (arith, e, low)

-- ---- who is there

-- a number that nobody has is one of eight
pub vacant_in : (l : LogValue) (p : PublisherValue) (held : List (Option Held)) (n : Numbers) → Stands l p held n → (now : Stream) → stream_in p held ≡ now → (number : ℕ) → IsVacant now number → (consumer_at (stream_in p held) number ≡ None) × (number < 8)
vacant_in l p held n st now e number vacant =
    let h = vacant_none (consumers_of p.pass) number (subst (λ (x : Stream). IsVacant x number) (sym e) vacant) in
    (h.0, let a = seats_many p.pass.keeping.there (positions_of p.pass) in let eight = st.hand.all.eight in let low = h.1 in omega (arith, a, eight, low))

pub there_is : (l : LogValue) (o : Option PublisherValue) (held : List (Option Held)) (n : Numbers) → IsHand l o held n → (k : ℕ) → k < 8 → slice_index_or n.there k false ≡ true → HasConsumer (stream_at o held) k
there_is l None held n h k low is = absurd h
there_is l (Some p) held n h k low is =
    let many = h.numbers.knows.many in
    let flag : slice_index p.pass.keeping.there k ≡ 1 = ap (λ (flags : List ℕ). slice_index flags k) h.numbers.knows.flags ∙ flag_at n.there k (omega (arith, low, many)) ∙ ap flag_of is in
    let found = seat_flagged p.pass.keeping.there p.pass.reading 0 k h.hand.all.numbers (omega (arith, flag)) in
    found.1 ∙ ap (λ x. Some x) (sym (ap position_in found.1))

pub none_is : (l : LogValue) (o : Option PublisherValue) (held : List (Option Held)) (n : Numbers) → IsHand l o held n → (k : ℕ) → k < 8 → slice_index_or n.there k false ≡ false → IsVacant (stream_at o held) k
none_is l None held n h k low no' = absurd h
none_is l (Some p) held n h k low no' =
    let many = h.numbers.knows.many in let eight = h.hand.all.eight in let same = seats_many p.pass.keeping.there (positions_of p.pass) in
    let flag : slice_index p.pass.keeping.there k ≡ 0 = ap (λ (flags : List ℕ). slice_index flags k) h.numbers.knows.flags ∙ flag_at n.there k (omega (arith, low, many)) ∙ ap flag_of no' in
    none_vacant (consumers_of p.pass) k (omega (arith, low, eight, same)) (seat_unflagged p.pass.keeping.there (positions_of p.pass) k flag)
