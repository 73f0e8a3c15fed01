-- A publisher that ends whole has read all of its input, and it has arrived at each destination.
use Rattle.std.proofs.Common.{◌≡◌, ◌∙◌, ℕ, Bool, true, false, ◌&&◌, ◌||◌, List, [], ◌∷◌, map, length, Option, None, Some, IfOk, IfSome, Result, Ok, Err, if◌then◌else◌, refl, sym, ap, subst}
use Rattle.std.specs.List.{AllByRecursion, list_all}
use Rattle.std.specs.Prelude.{⊤}
use Rattle.std.proofs.lemmas.List.{length-map}
use Rattle.peer.specs.declared.attendance.Attendance.{Attendance}
use Rattle.peer.specs.declared.attendance.Ending.{Ending}
use Rattle.peer.specs.declared.attendance.Ending.TheVariants.{Whole, Short}
use Rattle.peer.specs.Endings as peers
use Rattle.publisher.specs.declared.offering.reading.Reading.{Reading}
use Rattle.publisher.specs.declared.fault.PublishFault.{PublishFault}
use Rattle.publisher.specs.declared.judging.Judged.{Judged}
use Rattle.publisher.specs.Ended.{AllArrived}
use Rattle.options.specs.declared.ends.plans.PublishPlan.{PublishPlan}
use Rattle.peer.specs.declared.attended.ToldEnds.{ToldEnds}
use Rattle.peer.specs.declared.farewell.StreamEnd.{StreamEnd}
use Rattle.publisher.specs.Farewells.{TellsFarewell, ending_told, ends_along, farewell_in}
use Rattle.publisher.specs.Turns.{EndsBehind}
use Rattle.publisher.specs.declared.sender_thread.ChannelSender.{ChannelSender}
use Rattle.publisher.proofs.Many.{behind_many, farewell_heard, farewell_many}
use Rattle.publisher.specs.Judging.{end_in, ended_by, ending_by, ending_of, fault_in, faulted_or, is_read, stream_end_in}
use Rattle.publisher.proofs.Whole.{arrived}
use Rattle.publisher.specs.Ended.{AllHaveArrived, HasNoted}
use Rattle.publisher.specs.Endings.{heard_along, is_whole_along}
use Rattle.publisher.specs.Judges.{Ends}
use Rattle.publisher.specs.Seeing.{ChannelDestination}

-- ---- what can't be

abbrev NotTrue : Bool → Type 0
NotTrue true = ⊥
NotTrue false = ⊤

abbrev NotWhole : Option Ending → Type 0
NotWhole None = ⊤
NotWhole (Some Whole) = ⊥
NotWhole (Some Short) = ⊤

abbrev NotOkWhole : Result Ending PublishFault → Type 0
NotOkWhole (Ok Whole) = ⊥
NotOkWhole (Ok Short) = ⊤
NotOkWhole (Err fault) = ⊤

not_true : false ≡ true → ⊥
not_true h = subst NotTrue h tt

both_true : (a b : Bool) → (a && b) ≡ true → (a ≡ true) × (b ≡ true)
both_true true b h = (refl, h)
both_true false b h = absurd (not_true h)

-- ---- whole where all are

whole_if : (b c : Bool) → (if b then Some Whole else (if c then Some Short else None)) ≡ Some Whole → b ≡ true
whole_if true c h = refl
whole_if false true h = absurd (subst NotWhole h tt)
whole_if false false h = absurd (subst NotWhole h tt)

-- what is whole ends whole, whatever the silence
ends_whole : (a : Attendance) (end : Option ℕ) (linger wait : ℕ) → peers.is_whole a end ≡ true → peers.ending_of a end None linger wait ≡ Some Whole
ends_whole a end linger wait h = ap (λ (b : Bool). if b then Some Whole else (if peers.is_told a end || peers.is_silent a None linger wait then Some Short else None)) h

-- short stays short
not_short : (b : Bool) (o : Option PublishFault) → faulted_or o (Ok (ending_by b Short)) ≡ Ok Whole → ⊥
not_short true None h = subst NotOkWhole h tt
not_short false None h = subst NotOkWhole h tt
not_short true (Some fault) h = subst NotOkWhole h tt
not_short false (Some fault) h = subst NotOkWhole h tt

not_err : (o : Option PublishFault) (fault : PublishFault) → faulted_or o (Err fault) ≡ Ok Whole → ⊥
not_err None fault h = subst NotOkWhole h tt
not_err (Some other) fault h = subst NotOkWhole h tt

each : {D : Type 0} (read : Option Reading) (judged : Judged) (linger wait : ℕ) (destinations : List (ChannelDestination D)) → judged.ending ≡ Whole → ended_by read (Ok judged) ≡ Ok Whole
    → list_all (is_whole_along (end_in judged.reading)) destinations ≡ true → AllByRecursion (AllArrived read) (map heard_along destinations)
each read judged linger wait [] whole ended all = tt
each read judged linger wait (w ∷ ws) whole ended all =
    let both = both_true (is_whole_along (end_in judged.reading) w) _ all in
    let is = ends_whole (heard_along w) (end_in judged.reading) linger wait both.0 ∙ ap (λ (e : Ending). Some e) (sym whole) in (
      arrived read (Ok judged) (Ok Whole) (heard_along w) None linger wait is (sym ended) refl,
      each read judged linger wait ws whole ended both.1,
    )

by_judged : {D : Type 0} (read : Option Reading) (judged : Judged) (e : Ending) (linger wait : ℕ) (destinations : List (ChannelDestination D)) → judged.ending ≡ e → Ends destinations linger wait judged → ended_by read (Ok judged) ≡ Ok Whole → AllByRecursion (AllArrived read) (map heard_along destinations)
by_judged read judged Whole linger wait destinations is ends ended =
    each read judged linger wait destinations is ended (whole_if _ _ (ends ∙ ap (λ (x : Ending). Some x) is))
by_judged read judged Short linger wait destinations is ends ended =
    absurd (not_short (is_read_so read judged) (fault_in read) (subst (λ (x : Ending). faulted_or (fault_in read) (Ok (ending_by (is_read_so read judged) x)) ≡ Ok Whole) is ended))
  where
    is_read_so : Option Reading → Judged → Bool
    is_read_so r j = is_read r j.reading

noted_by : {D : Type 0} (p : PublishPlan) (read : Option Reading) (first last : ChannelSender D) (judged : Judged) (after : List (ChannelDestination D)) (heard : List Attendance) (told : List (Option ToldEnds)) → EndsBehind p first last judged → TellsFarewell (stream_end_in read) last.passes.duty.device.ways after
    → heard ≡ map heard_along after → told ≡ map ends_along after → HasNoted p first read heard told
noted_by {D} p read first last judged after heard told behind farewell heard_are told_are = record {
  last = last;
  judged = judged;
  ends = behind;
  after = after;
  farewell = farewell;
  heard_are = heard_are;
  told_are = told_are;
  many = ap length heard_are ∙ length-map after heard_along ∙ farewell_many (stream_end_in read) last.passes.duty.device.ways after farewell ∙ behind_many p first last judged behind;
}

pub all_arrived : {D : Type 0} (p : PublishPlan) (read : Option Reading) (sent : Result Judged PublishFault) (ending : Result Ending PublishFault) (first last : ChannelSender D) (end : Option StreamEnd) (after : List (ChannelDestination D)) (heard : List Attendance) (told : List (Option ToldEnds))
    → IfOk sent (EndsBehind p first last) → ending ≡ ended_by read sent → end ≡ farewell_in read ending → TellsFarewell end last.passes.duty.device.ways after → heard ≡ map heard_along after → told ≡ map ends_along after → ending ≡ Ok Whole → AllHaveArrived p first read heard told
all_arrived {D} p read (Ok judged) ending first last end after heard told behind is announced farewell heard_are told_are whole =
    let there : map heard_along last.passes.duty.device.ways ≡ heard = sym (heard_are ∙ farewell_heard end last.passes.duty.device.ways after farewell) in
    let reading : end ≡ stream_end_in read = announced ∙ ap (farewell_in read) whole in
    record {
      noted = noted_by p read first last judged after heard told behind (subst (λ (o : Option StreamEnd). TellsFarewell o last.passes.duty.device.ways after) reading farewell) heard_are told_are;
      arrived = subst (AllByRecursion (AllArrived read)) there (by_judged read judged judged.ending p.linger p.wait last.passes.duty.device.ways refl behind.is (sym is ∙ whole));
    }
all_arrived {D} p read (Err fault) ending first last end after heard told behind is announced farewell heard_are told_are whole = absurd (not_err (fault_in read) fault (sym is ∙ whole))

-- ---- what the end that was told makes of it

told_by : (e : Result Ending PublishFault) (alone : Bool) → ending_told e alone ≡ Ok Whole → (alone ≡ true) × (e ≡ Ok Whole)
told_by (Ok Whole) true h = (refl, refl)
told_by (Ok Short) true h = absurd (subst NotOkWhole h tt)
told_by (Ok e) false h = absurd (subst NotOkWhole h tt)
told_by (Err fault) alone h = absurd (subst NotOkWhole h tt)

pub told_alone : (e after : Result Ending PublishFault) (alone : Bool) → after ≡ ending_told e alone → after ≡ Ok Whole → alone ≡ true
told_alone e after alone is whole = (told_by e alone (sym is ∙ whole)).0

pub whole_before : (e after : Result Ending PublishFault) (alone : Bool) → after ≡ ending_told e alone → after ≡ Ok Whole → e ≡ Ok Whole
whole_before e after alone is whole = (told_by e alone (sym is ∙ whole)).1

by_fault : (o : Option PublishFault) (sent first second : Result Ending PublishFault) (alone : Bool) → first ≡ faulted_or o sent → second ≡ ending_told first alone → IfSome o (λ fault. second ≡ Err fault)
by_fault None sent first second alone a b = tt
by_fault (Some fault) sent first second alone a b = b ∙ ap (λ (e : Result Ending PublishFault). ending_told e alone) a

-- a reading's fault is the end
pub still_faulted : (read : Option Reading) (sent : Result Judged PublishFault) (first second : Result Ending PublishFault) (alone : Bool) → first ≡ ended_by read sent → second ≡ ending_told first alone → IfSome (fault_in read) (λ fault. second ≡ Err fault)
still_faulted read sent first second alone a b = by_fault (fault_in read) (ending_of read sent) first second alone a b
