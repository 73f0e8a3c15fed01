-- A publisher that ends whole has read all of its input, and it has arrived.
use Rattle.std.proofs.Common.{◌≡◌, ◌∙◌, ℕ, Bool, true, false, ◌&&◌, ◌||◌, nat_eq, Option, None, Some, IfOk, Result, Ok, Err, if◌then◌else◌, refl, sym, ap, subst}
use Rattle.std.specs.Prelude.{⊤}
use Rattle.std.proofs.lemmas.Bool.{eqb-true}
use Rattle.peer.specs.declared.attendance.Attendance.{Attendance}
use Rattle.peer.specs.declared.attendance.Ending.{Ending}
use Rattle.peer.specs.declared.attendance.Ending.TheVariants.{Whole, Short}
use Rattle.peer.specs.Endings as peers
use Rattle.publisher.specs.declared.offering.reading.ReadingFault.{ReadingFault}
use Rattle.publisher.specs.declared.offering.reading.Offered.{Offered}
use Rattle.publisher.specs.declared.offering.reading.Reading.{Reading}
use Rattle.publisher.specs.declared.offering.reading.ReadingEnd.{ReadingEnd}
use Rattle.publisher.specs.declared.offering.reading.ReadingEnd.TheVariants.{All, Stopped}
use Rattle.publisher.specs.declared.fault.PublishFault.{PublishFault}
use Rattle.publisher.specs.declared.judging.Judged.{Judged}
use Rattle.publisher.specs.Ended.{AllArrived, HasArrived}
use Rattle.publisher.specs.Judging.{are_same, end_in, ended_by, ending_by, ending_of, fault_by, faulted_or, is_all, is_read, position_in, stream_end_by}

-- ---- what can't be

abbrev NotTrue : Bool → Type 0
NotTrue true = ⊥
NotTrue false = ⊤

abbrev NotWhole : Option Ending → Type 0
NotWhole None = ⊤
NotWhole (Some Whole) = ⊥
NotWhole (Some Short) = ⊤

abbrev NotOkWhole : Result Ending PublishFault → Type 0
NotOkWhole (Ok Whole) = ⊥
NotOkWhole (Ok Short) = ⊤
NotOkWhole (Err fault) = ⊤

not_true : false ≡ true → ⊥
not_true h = subst NotTrue h tt

-- ---- whole by what was heard

whole_if : (b c : Bool) → (if b then Some Whole else (if c then Some Short else None)) ≡ Some Whole → b ≡ true
whole_if true c h = refl
whole_if false true h = absurd (subst NotWhole h tt)
whole_if false false h = absurd (subst NotWhole h tt)

-- it was whole there, where the stream ended
whole_there : (a : Attendance) (end : Result ReadingEnd ReadingFault) (tail : ℕ) → peers.is_whole a (position_in (stream_end_by end tail)) ≡ true → peers.is_whole a (Some tail) ≡ true
whole_there a (Ok All) tail h = h
whole_there a (Ok Stopped) tail h = absurd (not_true h)
whole_there a (Err fault) tail h = h

-- ---- whole by what was read

both_true : (a b : Bool) → (a && b) ≡ true → (a ≡ true) × (b ≡ true)
both_true true b h = (refl, h)
both_true false b h = absurd (not_true h)

is_whole_by : (b : Bool) (e : Ending) → ◌≡◌ {A = Result Ending PublishFault} (Ok (ending_by b e)) (Ok Whole) → (b ≡ true) × (e ≡ Whole)
is_whole_by true Whole h = (refl, refl)
is_whole_by true Short h = absurd (subst NotOkWhole h tt)
is_whole_by false e h = absurd (subst NotOkWhole h tt)

all_read : (e : Result ReadingEnd ReadingFault) → is_all e ≡ true → e ≡ Ok All
all_read (Ok All) h = refl
all_read (Ok Stopped) h = absurd (not_true h)
all_read (Err fault) h = absurd (not_true h)

same_tail : (x y : Offered) → are_same x y ≡ true → x.tail ≡ y.tail
same_tail x y h = let both = both_true (nat_eq x.messages y.messages) (nat_eq x.tail y.tail) h in eqb-true x.tail y.tail both.1

-- by the reading that the end was judged by
by_judged : (r : Reading) (a : Attendance) (judged : Option Reading) (ending : Ending) (linger wait : ℕ) (silence : Option ℕ)
    → peers.ending_of a (end_in judged) silence linger wait ≡ Some ending → ◌≡◌ {A = Result Ending PublishFault} (Ok (ending_by (is_read (Some r) judged) ending)) (Ok Whole) → HasArrived r a
by_judged r a None ending linger wait silence is h = absurd (not_true (is_whole_by false ending h).0)
by_judged r a (Some s) ending linger wait silence is h =
    let by = is_whole_by (is_read (Some r) (Some s)) ending h in
    let both = both_true (is_all r.ended) (are_same r.offered s.offered) by.0 in
    let end = position_in (stream_end_by s.ended s.offered.tail) in
    let whole = whole_if (peers.is_whole a end) (peers.is_told a end || peers.is_silent a silence linger wait) (is ∙ ap (λ (e : Ending). Some e) by.1) in
    record {
      all = all_read r.ended both.0;
      heard = subst (λ (tail : ℕ). peers.is_whole a (Some tail) ≡ true) (sym (same_tail r.offered s.offered both.1)) (whole_there a s.ended s.offered.tail whole);
    }

-- by whom was heard it was judged so
abbrev pub EndsBy : Attendance → Option ℕ → ℕ → ℕ → Judged → Type 0
EndsBy a silence linger wait judged = peers.ending_of a (end_in judged.reading) silence linger wait ≡ Some judged.ending

whole_so : (o : Option PublishFault) (sent : Result Ending PublishFault) → faulted_or o sent ≡ Ok Whole → sent ≡ Ok Whole
whole_so None sent h = h
whole_so (Some fault) sent h = absurd (subst NotOkWhole h tt)

pub arrived : (read : Option Reading) (sent : Result Judged PublishFault) (ending : Result Ending PublishFault) (a : Attendance) (silence : Option ℕ) (linger wait : ℕ)
    → IfOk sent (EndsBy a silence linger wait) → ending ≡ ended_by read sent → ending ≡ Ok Whole → AllArrived read a
arrived None (Ok judged) ending a silence linger wait ends is whole = absurd (subst NotOkWhole (sym is ∙ whole) tt)
arrived None (Err fault) ending a silence linger wait ends is whole = absurd (subst NotOkWhole (sym is ∙ whole) tt)
arrived (Some r) (Err fault) ending a silence linger wait ends is whole = absurd (subst NotOkWhole (whole_so (fault_by r.ended) (Err fault) (sym is ∙ whole)) tt)
arrived (Some r) (Ok judged) ending a silence linger wait ends is whole =
    by_judged r a judged.reading judged.ending linger wait silence ends (whole_so (fault_by r.ended) (ending_of (Some r) (Ok judged)) (sym is ∙ whole))
