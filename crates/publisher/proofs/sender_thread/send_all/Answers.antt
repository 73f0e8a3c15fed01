use Rattle.std.proofs.Common.{◌≡◌, ◌∙◌, ℕ, zero, suc, Bool, false, IfSome, List, Option, None, length, ap, refl, subst}
use Rattle.sender_meaning.proofs.StreamLiving.{lived_any, lived_on, lived_same, lived_to_any, lived_to_on}
use Rattle.publisher.specs.Judging.{StaysEnded, end_in}
use Rattle.publisher.specs.Progress.{end_due, end_to_tell, ended_after}
use Rattle.publisher.specs.Turns.{Cycles, Going}
use Rattle.publisher.specs.declared.offering.reading.Reading.{Reading}
use Rattle.publisher.specs.declared.judging.Judged.{Judged}
use Rattle.publisher.specs.declared.progress.Progress.{Progress}
use Rattle.publisher.specs.Judges.{HasToldWhy}
use Rattle.publisher.specs.Seeing.{ChannelDestination}
use Rattle.publisher.proofs.Begun.{passes_on, sends_on, turn_lived}
use Rattle.publisher.proofs.Ends.{by_reading, ends}
use Rattle.publisher.proofs.Many.{cycled_many, turns_many}
use Rattle.publisher.proofs.sender_thread.send_all.Goals as goal

abbrev going_with : Bool → Option Reading → Progress → Going
going_with begun reading p = record { begun = begun; reading = reading; ended = p.ended }

pub returns-in_err-busy-clause-lives : goal.returns-in_err-busy-clause-lives
returns-in_err-busy-clause-lives g c = lived_on _ _ _ _ c.loop.invariant.lives (lived_any _ _ _ c.cycle.ensures.lives)

pub returns-in_err-judged-clause-lives : goal.returns-in_err-judged-clause-lives
returns-in_err-judged-clause-lives g c = lived_on _ _ _ _ c.loop.invariant.lives (lived_any _ _ _ c.cycle.ensures.lives)

pub returns-in-Some-judged-clause-lives : goal.returns-in-Some-judged-clause-lives
returns-in-Some-judged-clause-lives g c = lived_on _ _ _ _ c.loop.invariant.lives (lived_any _ _ _ c.cycle.ensures.lives)

pub returns-in-Some-judged-clause-told : goal.returns-in-Some-judged-clause-told
returns-in-Some-judged-clause-told g c = (c.in_ok-now.now, lived_to_on _ _ _ _ _ c.loop.invariant.lives (lived_to_any _ _ _ _ c.in_ok-busy.ensures.lived))

pub returns-in-Some-judged-clause-ends : goal.returns-in-Some-judged-clause-ends
returns-in-Some-judged-clause-ends g c =
    let plan = c.args.context.now.plan.now in let last = c.cycle.new.sender in let is = c.in-Some-judged.judged in
    let reading = c.reading_after-reading.result in
    let so : reading ≡ is.reading = by_reading c.judge.new.progress reading c.each-destinations.result.now plan.linger plan.wait c.in_ok-judged.judged is c.in_ok-judged.ensures.judges c.in-Some-judged.is in
    let shown : c.each-destinations.result.now ≡ last.passes.duty.device.ways = c.each-destinations.ensures ∙ ap (λ d. d.ways) c.device.ensures in
    record {
      count = c.loop.invariant.turns.0;
      going = going_with c.loop.begun c.loop.reading c.loop.progress;
      before = c.loop.sender;
      turns = c.loop.invariant.turns.1;
      now = c.in_ok-now.now;
      stays = subst (λ (r : Option Reading). StaysEnded c.loop.reading r) so c.reading_after-reading.ensures;
      cycles = subst (λ (e : Option ℕ). Cycles e plan.linger c.in_ok-now.now c.loop.sender last) (c.end_in.ensures ∙ ap end_in so) c.in_ok-busy.ensures.cycles;
      is = ends c.judge.new.progress reading c.each-destinations.result.now last.passes.duty.device.ways plan.linger plan.wait c.in_ok-judged.judged is c.in_ok-judged.ensures.judges c.in-Some-judged.is shown;
      why = subst (λ (ws : List (ChannelDestination g.row.D.Denot)). HasToldWhy ws is) shown (subst (λ (o : Option Judged). IfSome o (HasToldWhy c.each-destinations.result.now)) c.in-Some-judged.is c.in_ok-judged.ensures.told);
    }

pub loop-init : goal.loop-init
loop-init g c = record { agent = c.requires.agent; lives = lived_same _ _ _ refl; peer = refl; passes = c.requires.passes; turns = (zero, (refl, ap (λ (p : Progress). going_with false None p) c.new-progress.ensures)) }

pub loop-preserved : goal.loop-preserved
loop-preserved g c =
    let beginning = c.begin_with_heard-begun.new.sender in
    let going = going_with c.loop.begun c.loop.reading c.loop.progress in
    let kept : c.judge.new.progress.ended ≡ c.loop.progress.ended = c.in_ok-judged.ensures.ended in
    let due = end_to_tell c.judge.new.progress c.stream_end_in-end.result beginning.agent.core.handler.at c.in_ok-now.now in
    let plan = c.args.context.now.plan.now in
    let many = cycled_many c.end_in.result plan.linger c.in_ok-now.now c.loop.sender c.cycle.new.sender c.in_ok-busy.ensures.cycles ∙ turns_many plan c.loop.invariant.turns.0 going c.args.sender.now c.loop.sender c.loop.invariant.turns.1 in
    record {
      agent = sends_on _ _ _ _ _ c.cycle.ensures.agent c.begin_with_heard-begun.ensures.agent c.tell_end_where_due.ensures.agent;
      lives = turn_lived (length c.args.sender.now.passes.duty.device.ways) _ _ _ _ c.args.sender.now c.loop.sender c.cycle.new.sender beginning c.tell_end_where_due.new.sender many c.loop.invariant.lives c.cycle.ensures.lives c.begin_with_heard-begun.ensures.begins c.begin_with_heard-begun.ensures.agent c.tell_end_where_due.ensures.agent;
      peer = c.tell_end_where_due.ensures.peer ∙ c.begin_with_heard-begun.ensures.peer ∙ c.cycle.ensures.peer ∙ c.loop.invariant.peer;
      passes = passes_on _ _ _ _ _ _ _ c.cycle.ensures.passes c.begin_with_heard-begun.ensures.passes c.tell_end_where_due.ensures.passes;
      turns = (
        suc c.loop.invariant.turns.0,
        (
          going,
          c.loop.sender,
          c.loop.invariant.turns.1,
          record {
            now = c.in_ok-now.now;
            stays = c.reading_after-reading.ensures;
            cycled = c.cycle.new.sender;
            cycles = subst (λ (e : Option ℕ). Cycles e plan.linger c.in_ok-now.now c.loop.sender c.cycle.new.sender) c.end_in.ensures c.in_ok-busy.ensures.cycles;
            beginning = beginning;
            begins = c.begin_with_heard-begun.ensures.begins;
            end = due;
            due = (λ i. end_due (kept i) (c.stream_end_in-end.ensures i) beginning.agent.core.handler.at c.in_ok-now.now);
            told = c.tell_end_where_due.ensures.told;
            ended = ap (λ (p : Progress). p.ended) c.tell_end_where_due.ensures.progress ∙ ap (λ (e : Option ℕ). ended_after e due c.in_ok-now.now) kept;
            agent = c.tell_end_where_due.ensures.agent;
          },
        ),
      );
    }
