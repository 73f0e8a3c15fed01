-- What was published in all, where a publisher has ended whole.
use Rattle.std.proofs.Common.{◌≡◌, ◌∙◌, List, [], ◌∷◌, ◌++◌, ℕ, ◌+◌, ◌<◌, length, true, Option, None, Some, IfSome, ap, subst, sym, arith}
use Rattle.std.proofs.lemmas.List.Elements.{All-from_recursion}
use Rattle.theory.proofs.Lists.{all_append}
use Rattle.shared_log.specs.Steps.Handles.{LogValue, PublisherValue, parts_in}
use Rattle.log_rule.specs.Claims.Sums.{total}
use Rattle.log_rule.proofs.Claimed.Totals.{total_append}
use Rattle.shared_log.specs.Books.{AreAll, IsDone, ShowsBook}
use Rattle.shared_log.specs.Handles.{IsNew}
use Rattle.shared_log.specs.Readers.{IsReaderOf}
use Rattle.shared_log.specs.declared.book.Book.{Book}
use Rattle.std.specs.List.{AllByRecursion}
use Rattle.std.specs.declared.net.SocketAddr.{SocketAddr}
use Rattle.endpoint.specs.Fans.{Fanned}
use Rattle.endpoint.specs.declared.udp.Route.{Route}
use Rattle.peer.specs.Ties.{Tied}
use Rattle.publisher.specs.Seeing.{ChannelDestination}
use Rattle.publisher.specs.declared.sender_thread.SenderPasses.{SenderPasses}
use Rattle.messages.specs.declared.form.Form.{Form}
use Rattle.options.specs.declared.ends.plans.PublishPlan.{PublishPlan}
use Rattle.peer.specs.declared.attendance.Attendance.{Attendance}
use Rattle.publisher.specs.InputEnds.{EndsInput}
use Rattle.publisher.specs.declared.offering.reader.InputEnd.{InputEnd}
use Rattle.peer.specs.declared.attended.ToldEnds.{ToldEnds}
use Rattle.publisher.proofs.Sent.{sends_committed}
use Rattle.publisher.specs.Destinations.{AreDestinationsAlong}
use Rattle.publisher.specs.Ended.{AllArrived, ArrivesAt, CanClose, IsClosed, LeavesLog, LeavesPasses, PublishesAll, SendsCommitted, ShowsAll, reading_left}
use Rattle.publisher.specs.Farewells.{are_told_alone}
use Rattle.publisher.specs.Judging.{stream_end_in}
use Rattle.publisher.specs.Openings.{IsPlanned}
use Rattle.publisher.specs.declared.log_end.LogEnd.{LogEnd}

-- the log that was closed is this one
pub shown : (o : Option LogValue) (others : List PublisherValue) (p : PublisherValue) (book : Book) (log : LogValue) → ShowsAll o others p book → IfSome o (λ m. m ≡ log) → ShowsBook log (others ++ p ∷ []) book
shown None others p book log shows is = absurd shows
shown (Some m) others p book log shows is = subst (λ (l : LogValue). ShowsBook l (others ++ p ∷ []) book) is shows

-- where there is a destination, something is left of the input
none_heard : (many : ℕ) (heard : List Attendance) → length heard ≡ many → 0 < many → AllByRecursion (AllArrived None) heard → ⊥
none_heard many [] is some all = omega (arith, is, some)
none_heard many (a ∷ rest) is some all = all.0

none_left : (log : LogValue) (passes : SenderPasses (Fanned (ChannelDestination Tied))) (peer : SocketAddr) (p : PublishPlan) (heard : List Attendance) (told : List (Option ToldEnds)) → 0 < length passes.duty.device.ways → ArrivesAt log passes peer p None heard told → ⊥
none_left log passes peer p heard told some all =
    none_heard (length passes.duty.device.ways) heard (all.2.noted.many ∙ ap (λ (s : SenderPasses (Fanned (ChannelDestination Tied))). length s.duty.device.ways) all.1.passes_are) some all.2.arrived

pub all_published : {I : Type 0} (remaining : I → Option (List ℕ)) (p : PublishPlan) (log : LogValue) (first : PublisherValue) (old given : Option (List ℕ)) (left : Option (InputEnd I)) (routes : List Route) (passes : SenderPasses (Fanned (ChannelDestination Tied))) (peer : SocketAddr) (heard : List Attendance) (told : List (Option ToldEnds)) (e : LogEnd)
    → IsPlanned p log → IsNew log 0 first → IfSome left (λ l. EndsInput p.end.form log old (remaining l.input) first.pass l.publisher l.reading) → AreDestinationsAlong p routes passes.duty.device.ways → 0 < length routes
    → ArrivesAt log passes peer p (reading_left left) heard told → are_told_alone p.geometry (stream_end_in (reading_left left)) told ≡ true → old ≡ given → LeavesLog log (length passes.duty.device.ways) e → IsClosed left e → PublishesAll p routes given
all_published {I} remaining p log first old given None routes passes peer heard told e planned new ends along some arrived alone same leaves closed =
    absurd (none_left log passes peer p heard told (subst (λ (n : ℕ). 0 < n) (sym along.many) some) arrived)
all_published {I} remaining p log first old given (Some left) routes passes peer heard told e planned new ends along some arrived alone same leaves closed = subst (PublishesAll p routes) same (record {
  log = log;
  log_is = planned;
  first = first;
  opened = new;
  new = remaining left.input;
  last = left.publisher;
  reading = left.reading;
  ends = ends;
  some = some;
  passes = passes;
  destinations_are = along;
  peer = peer;
  heard = heard;
  told = told;
  arrived = arrived;
  alone = alone;
  others = e.others.items;
  others_are = leaves.passes.others;
  book = closed.0;
  shows = shown e.log e.others.items left.publisher closed.0 log closed.1 leaves.passes.log;
  sends = subst (λ (n : ℕ). SendsCommitted log n (e.others.items ++ left.publisher ∷ [])) along.many
      (sends_committed log (length passes.duty.device.ways) e.reader (e.others.items ++ left.publisher ∷ []) leaves.sent closed.2);
})

-- its passes are all there
pub can_close : {I : Type 0} (remaining : I → Option (List ℕ)) (form : Form) (log : LogValue) (first : PublisherValue) (old : Option (List ℕ)) (left : Option (InputEnd I)) (e : LogEnd)
    → IsNew log 0 first → IfSome left (λ l. EndsInput form log old (remaining l.input) first.pass l.publisher l.reading) → LeavesPasses log e → CanClose left e
can_close {I} remaining form log first old None e new ends leaves = record { log = log; leaves = leaves; first = tt }
can_close {I} remaining form log first old (Some left) e new ends leaves = record {
  log = log;
  leaves = leaves;
  first = (ends.done, ends.publishes.publishes.parts ∙ (λ i. (new.pass i).right.parts));
}

pub all_there : (l : LogValue) (e : LogEnd) (p : PublisherValue) → LeavesPasses l e → IsDone l p → p.pass.right.parts ≡ 176 → AreAll l (e.others.items ++ p ∷ []) e.keeper
all_there l e p leaves done parts = record {
  publishers_are = All-from_recursion (IsDone l) (e.others.items ++ p ∷ []) (all_append (IsDone l) e.others.items (p ∷ []) leaves.others.done (done, tt));
  keeper_is = leaves.keeper.done;
  unclaimed = leaves.keeper.unclaimed;
  whole = sums (total parts_in (e.others.items ++ p ∷ [])) (total parts_in e.others.items) p.pass.right.parts e.keeper.held.pass.right.parts (total_append parts_in e.others.items (p ∷ [])) leaves.others.parts parts leaves.keeper.parts;
}
  where
    sums : (all others p k : ℕ) → all ≡ others + (p + 0) → others ≡ 840 → p ≡ 176 → k ≡ 8 → all + k ≡ 1024
    sums all others p k a b c d = omega arith

-- so the log that is left can be closed
pub closes : (m l : LogValue) (e : LogEnd) (p : PublisherValue) (all : List PublisherValue) → e.log ≡ Some m → LeavesPasses l e → IsDone l p → p.pass.right.parts ≡ 176 → all ≡ e.others.items ++ p ∷ [] → AreAll m all e.keeper
closes m l e p all is leaves done parts items =
    let same : m ≡ l = subst (λ (o : Option LogValue). IfSome o (λ x. x ≡ l)) is leaves.log in
    subst (λ (x : LogValue). AreAll x all e.keeper) (sym same) (subst (λ (xs : List PublisherValue). AreAll l xs e.keeper) (sym items) (all_there l e p leaves done parts))

-- and its reader is one of it
pub reads : (m l : LogValue) (e : LogEnd) → e.log ≡ Some m → LeavesPasses l e → IsReaderOf m e.reader
reads m l e is leaves = subst (λ (x : LogValue). IsReaderOf x e.reader) (sym (subst (λ (o : Option LogValue). IfSome o (λ x. x ≡ l)) is leaves.log)) leaves.reader

-- what a thread has promised, by what it was given
pub as_given : {I : Type 0} (remaining : I → Option (List ℕ)) (left : Option (InputEnd I)) (form as_form : Form) (log as_log : LogValue) (input as_input : I) (first as_first : PublisherValue)
    → form ≡ as_form → log ≡ as_log → input ≡ as_input → first ≡ as_first
    → IfSome left (λ l. EndsInput form log (remaining input) (remaining l.input) first.pass l.publisher l.reading) → IfSome left (λ l. EndsInput as_form as_log (remaining as_input) (remaining l.input) as_first.pass l.publisher l.reading)
as_given {I} remaining left form as_form log as_log input as_input first as_first f g i p h =
    subst (λ (x : PublisherValue). IfSome left (λ l. EndsInput as_form as_log (remaining as_input) (remaining l.input) x.pass l.publisher l.reading)) p
    (subst (λ (x : I). IfSome left (λ l. EndsInput as_form as_log (remaining x) (remaining l.input) first.pass l.publisher l.reading)) i
    (subst (λ (x : LogValue). IfSome left (λ l. EndsInput as_form x (remaining input) (remaining l.input) first.pass l.publisher l.reading)) g
    (subst (λ (x : Form). IfSome left (λ l. EndsInput x log (remaining input) (remaining l.input) first.pass l.publisher l.reading)) f h)))
