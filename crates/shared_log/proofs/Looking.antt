-- A reader's steps, by what it is: its seat is the consumer that stands where it says.
use Rattle.std.proofs.Common.{◌≡◌, ℕ, ◌<◌, zero, suc, List, [], ◌∷◌, map, set, sym, refl, ap, ◌∙◌, subst, lt_of_not-le, arith}
use mathlib.Core.Logic.{dite}
use native.Mathlib.Decide.{dec_le}
use mathlib.Core.Option.{some, some-injective, some-ne-none}
use lib.ListN.{get_elem?}
use Rattle.log_rule.proofs.Claimed.Whole.{set_at}
use Rattle.theory.specs.Placed.{Among}
use Rattle.theory.proofs.Lists.{among_left}
use Rattle.publication.specs.declared.pass.FrameWords.{FrameWords}
use Rattle.publication.specs.declared.pass.Pass.{Pass}
use Rattle.publication.specs.declared.pass.Reading.{Reading}
use Rattle.shared_log.specs.Steps.Readers.{SameSeat}
use Rattle.shared_log.specs.Steps.Handles.{LogValue}
use Rattle.shared_log.specs.Readers.{IsReaderOf, IsReading, Misses, OnlyReads, ReaderValue, Rests, known_at, known_of, misses_at, missing_at, positions_of}
use Rattle.log_rule.specs.Readings.{Consumes, IsConsumer, Looks, MayPass, knows_more, missed, moved_to, with_consumer}

-- ---- it stays the consumer that it is

pub put_there : (v : Pass) (place : ℕ) (r s : Reading) → IsConsumer v place r → IsConsumer (with_consumer v place s) place s
put_there v place r s is = set_at v.reading place r s is

pub knows_still : (v : Pass) (place : ℕ) (r : Reading) (f : FrameWords) (end : ℕ) → IsConsumer v place r → MayPass v place end → MayPass (with_consumer v place (knows_more r f)) place end
knows_still v place r f end is m =
    let same : m.consumer ≡ r = some-injective m.consumer r (sym m.is ∙ is) in record {
      consumer = knows_more r f;
      is = put_there v place r (knows_more r f) is;
      frame = m.frame;
      known = among_left m.frame r.known (f ∷ []) (subst (λ (x : Reading). Among m.frame x.known) same m.known);
      here = m.here ∙ ap (λ (x : Reading). x.position) same;
      ends = m.ends;
    }

missed_still : (v : Pass) (place : ℕ) (r : Reading) (end : ℕ) → IsConsumer v place r → MayPass v place end → MayPass (with_consumer v place (missed r)) place end
missed_still v place r end is m =
    let same : m.consumer ≡ r = some-injective m.consumer r (sym m.is ∙ is) in record {
      consumer = missed r;
      is = put_there v place r (missed r) is;
      frame = m.frame;
      known = subst (λ (x : Reading). Among m.frame x.known) same m.known;
      here = m.here ∙ ap (λ (x : Reading). x.position) same;
      ends = m.ends;
    }

pub looked_still : (v w : Pass) (place number position read_to n : ℕ) → IsReading v place number position read_to → Looks v place n w → IsReading w place number position read_to
looked_still v w place number position read_to n is told =
    let l = told is.consumer is.is in
    dite (dec_le 1 n)
    (λ pos. let f = l.found pos in subst (λ (x : Pass). IsReading x place number position read_to) (sym f.after) record {
      consumer = knows_more is.consumer f.frame;
      is = put_there v place is.consumer (knows_more is.consumer f.frame) is.is;
      number_is = is.number_is;
      position_is = is.position_is;
      read = λ lt. knows_still v place is.consumer f.frame read_to is.is (is.read lt);
      low = is.low;
      low_end = is.low_end;
    })
    (λ no. subst (λ (x : Pass). IsReading x place number position read_to) (sym (l.none (zero_is n (lt_of_not-le no))).0) record {
      consumer = missed is.consumer;
      is = put_there v place is.consumer (missed is.consumer) is.is;
      number_is = is.number_is;
      position_is = is.position_is;
      read = λ lt. missed_still v place is.consumer read_to is.is (is.read lt);
      low = is.low;
      low_end = is.low_end;
    })
  where
    zero_is : (n : ℕ) → n < 1 → n ≡ 0
    zero_is n lt = omega arith

pub passed_here : (v w : Pass) (place number position read_to : ℕ) → IsReading v place number position read_to → Consumes v place read_to w → IsReading w place number read_to read_to
passed_here v w place number position read_to is told =
    subst (λ (x : Pass). IsReading x place number read_to read_to) (sym (told is.consumer is.is).after) record {
      consumer = moved_to is.consumer read_to;
      is = put_there v place is.consumer (moved_to is.consumer read_to) is.is;
      number_is = is.number_is;
      position_is = refl;
      read = λ lt. absurd (self read_to lt);
      low = is.low_end;
      low_end = is.low_end;
    }
  where
    self : (n : ℕ) → n < n → ⊥
    self n lt = omega arith

-- ---- what it knows

pub known_is : (rs : List Reading) (place : ℕ) (r : Reading) → get_elem? rs place ≡ some r → known_at rs place ≡ r.known
known_is [] place r e = absurd (some-ne-none r (sym e))
known_is (x ∷ xs) zero r e = ap (λ (y : Reading). y.known) (some-injective x r e)
known_is (x ∷ xs) (suc place) r e = known_is xs place r e

pub misses_is : (rs : List Reading) (place : ℕ) (r : Reading) → get_elem? rs place ≡ some r → misses_at rs place ≡ r.misses
misses_is [] place r e = absurd (some-ne-none r (sym e))
misses_is (x ∷ xs) zero r e = ap (λ (y : Reading). y.misses) (some-injective x r e)
misses_is (x ∷ xs) (suc place) r e = misses_is xs place r e

-- ---- a look that found zero

pub missing_is : (rs : List Reading) (place : ℕ) (r : Reading) → get_elem? rs place ≡ some r → set rs place (missed r) ≡ missing_at rs place
missing_is [] place r e = refl
missing_is (x ∷ xs) zero r e = ap (λ (y : Reading). missed y ∷ xs) (sym (some-injective x r e))
missing_is (x ∷ xs) (suc place) r e = ap (λ (ys : List Reading). x ∷ ys) (missing_is xs place r e)

missing_same : (h : Reading → ℕ) (rs : List Reading) (place : ℕ) → ((x : Reading) → h (missed x) ≡ h x) → map h (missing_at rs place) ≡ map h rs
missing_same h [] place same = refl
missing_same h (x ∷ xs) zero same = ap (λ (n : ℕ). n ∷ map h xs) (same x)
missing_same h (x ∷ xs) (suc place) same = ap (λ (ns : List ℕ). h x ∷ ns) (missing_same h xs place same)

missing_known : (rs : List Reading) (place : ℕ) → known_at (missing_at rs place) place ≡ known_at rs place
missing_known [] place = refl
missing_known (x ∷ xs) zero = refl
missing_known (x ∷ xs) (suc place) = missing_known xs place

pub only_misses : (r q : ReaderValue) → Misses r q → OnlyReads r.held.pass q.held.pass
only_misses r q a = subst (OnlyReads r.held.pass) (sym a.pass) record { rest = refl; numbers = missing_same (λ (x : Reading). x.number) r.held.pass.reading r.place (λ x. refl) }

pub misses_stand : (r q : ReaderValue) → Misses r q → positions_of q.held.pass ≡ positions_of r.held.pass
misses_stand r q a = ap positions_of a.pass ∙ missing_same (λ (x : Reading). x.position) r.held.pass.reading r.place (λ x. refl)

pub known_missing : (r q : ReaderValue) → Misses r q → known_of q ≡ known_of r
known_missing r q a = (λ j. known_at (a.pass j).reading (ap (λ (x : ReaderValue). x.place) a.same j)) ∙ missing_known r.held.pass.reading r.place

-- ---- it rests

pub known_on : (r q : ReaderValue) → Rests r q → known_of q ≡ known_of r
known_on r q a = (λ j. known_at (a.pass j).reading (place_is j))
  where
    place_is : q.place ≡ r.place
    place_is = ap (λ (x : ReaderValue). x.place) a.same

-- the same of what consumers are, where one is changed alike
pub put_equal : (h : Reading → ℕ) (rs : List Reading) (i : ℕ) (r x : Reading) → get_elem? rs i ≡ some r → h x ≡ h r → map h (set rs i x) ≡ map h rs
put_equal h [] i r x at e = refl
put_equal h (y ∷ ys) zero r x at e = let same : h x ≡ h y = e ∙ ap h (sym (some-injective y r at)) in ap (λ (n : ℕ). n ∷ map h ys) same
put_equal h (y ∷ ys) (suc i) r x at e = ap (λ (ns : List ℕ). h y ∷ ns) (put_equal h ys i r x at e)

-- it stays one of the log's readers
pub still_reader : (l : LogValue) (r q : ReaderValue) → IsReaderOf l r → SameSeat r.held q.held → OnlyReads r.held.pass q.held.pass → q.number ≡ r.number → IsReaderOf l q
still_reader l r q is seat only same = record {
  of = record { table = seat.of ∙ is.of.table; identity = ap (λ (v : Pass). v.identity) only.rest ∙ is.of.identity; start = ap (λ (v : Pass). v.start) only.rest ∙ is.of.start };
  number = subst (λ (n : ℕ). n < 8) (sym same) is.number;
}
