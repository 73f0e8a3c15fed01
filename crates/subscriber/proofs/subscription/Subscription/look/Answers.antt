use Rattle.std.proofs.Common.{◌∙◌, ℕ, IsTrue, ap, subst, sym}
use Rattle.std.proofs.lemmas.Result.{err_from_is_err_and}
use Rattle.subscriber.specs.declared.listening.setup_offer.ImageParams.{ImageParams}
use Rattle.subscriber.specs.declared.images.session.Session.{Session}
use Rattle.receiver.specs.Lives.{Lives}
use Rattle.subscriber.specs.Answering.{IsTicked}
use Rattle.subscriber.specs.Leavings.{ListensOn, LivesUnpolled, NotesHeard, NotesWork}
use Rattle.subscriber.specs.Living.{LivesOn, WritesActs}
use Rattle.subscriber.specs.Losing.{JudgesTurn}
use Rattle.subscriber.specs.Standing.{Stands}
use Rattle.subscriber.specs.Watches.{IsWithinTurn}
use Rattle.subscriber.proofs.Answered.{ends_answered, same_answered, ticked_at, within_on}
use Rattle.subscriber.proofs.Faults.{memory_turn}
use Rattle.subscriber.proofs.Looked.{acts_broken, heard_noted, listened_on, noted_same, same_else, unpolled_broken}
use Rattle.subscriber.proofs.subscription.Subscription.look.Goals as goal

pub returns-clause-looked : goal.returns-clause-looked
returns-clause-looked g c =
    let once = c.cycle_once.new.session in
    let cycled = c.note_kept.new.self in
    let noted = c.note_kept.ensures.same in
    let told = c.tell_silence.ensures.same in
    let acts = c.in_ok-all.ensures.lives.acts in
    let lost = c.tell_loss.ensures.same in
    let judged : JudgesTurn c.args.watch.now c.args.session.now (record c.tell_loss.new.self { stood = c.in_ok-stand.stand }) c.check_works.new.watch =
    record {
      cycled = cycled;
      cycle = record {
        acts = acts.acts;
        lived = subst (λ (j : Session). Lives c.args.session.now.follower.subscriber acts.acts j.follower.subscriber) (sym noted) acts.lived;
        ticked = subst (λ (j : Session). IsTicked c.args.session.now.watch.moment j.follower.subscriber) (sym noted) c.in_ok-all.ensures.ticked;
        same = noted_same c.args.session.now once cycled c.cycle_once.ensures.same noted;
        heard = once.watch;
        hears = subst (λ (j : Session). NotesHeard c.args.session.now.duty.device.notes.frames j.duty.device.notes.frames c.args.session.now.watch once.watch) (sym noted) c.in_ok-all.ensures.heard;
        before = c.rebuilt-rebuilt.result;
        rebuilt = c.rebuilt-rebuilt.ensures;
        keeps = c.note_kept.ensures.notes;
      };
      works = subst (λ (j : Session). NotesWork c.args.session.now.duty.device.inner.inner.worked j.duty.device.inner.inner.worked c.args.watch.now c.check_works.new.watch) (sym noted)
          (subst (λ (n : ℕ). NotesWork n once.duty.device.inner.inner.worked c.args.watch.now c.check_works.new.watch) c.calls_worked-worked.ensures c.check_works.ensures.noted);
      answered = c.tell_silence.new.self;
      listens = subst (λ (j : Session). ListensOn cycled.follower j.follower) (sym told) c.in_ok-stand.ensures.listens;
      same = same_else cycled c.answer_end.new.self c.tell_silence.new.self c.answer_end.ensures.same told;
      hears = subst (λ (j : Session). NotesHeard cycled.duty.device.notes.frames j.duty.device.notes.frames cycled.watch j.watch) (sym told) c.in_ok-stand.ensures.heard;
      within = subst (λ (j : Session). IsWithinTurn c.args.session.now.watch j.watch) (sym told)
          (within_on _ once.watch _ c.cycle_once.ensures.turn (within_on _ cycled.watch _ c.note_kept.ensures.turn c.answer_end.ensures.turn));
      still = subst (λ (j : Session). IsTrue j.watch.noted) (sym told) (heard_noted _ _ cycled.watch c.answer_end.new.self.watch c.in_ok-stand.ensures.heard c.note_kept.ensures.noted);
      judges = c.tell_loss.ensures.noted;
      kept_else = ap (λ (j : Session). record j { stood = c.in_ok-stand.stand }) c.tell_loss.ensures.same;
    } in
    record {
      session = ap (λ (j : Session). j.follower.opening.session) lost ∙ ap (λ (j : Session). j.follower.opening.session) told ∙ ap (λ (o : ImageParams). o.session) c.in_ok-stand.ensures.listens.notes.opening
          ∙ ap (λ (j : Session). j.follower.opening.session) noted ∙ ap (λ (o : ImageParams). o.session) c.in_ok-all.ensures.lives.notes.opening;
      before = c.args.watch.now;
      behind = c.check_works.new.watch;
      judges = judged;
      stands = subst (λ (j : Session). Stands j.follower.subscriber j.follower.end c.in_ok-stand.stand) (sym lost)
          (subst (λ (j : Session). Stands j.follower.subscriber j.follower.end c.in_ok-stand.stand) (sym told) c.in_ok-stand.ensures.answers.stands);
      still = λ all. subst (λ (j : Session). IsTrue j.ended) (sym lost) (subst (λ (j : Session). IsTrue j.ended) (sym told) (c.in_ok-stand.ensures.answers.still all));
      answered = λ before. same_answered c.answer_end.new.self c.tell_loss.new.self (ap (λ (j : Session). j.ended) lost ∙ ap (λ (j : Session). j.ended) told) (ap (λ (j : Session). j.follower.subscriber) lost ∙ ap (λ (j : Session). j.follower.subscriber) told)
          (ends_answered _ _ _ _ _ _ c.args.session.now c.note_kept.new.self c.answer_end.new.self _ (ap (λ (j : Session). j.ended) noted ∙ ap (λ (j : Session). j.ended) c.cycle_once.ensures.same)
          (subst (λ (j : Session). WritesActs c.args.self.now.plan.end.form c.args.written c.args.session.now.follower.subscriber (g.W.Write.contents c.args.output.now) c.in_ok-all.all j.follower.subscriber (g.W.Write.contents c.cycle_once.new.output)) (sym noted) c.in_ok-all.ensures.lives.acts)
          (ticked_at c.note_kept.new.self.follower.subscriber _ _ (c.note_kept.ensures.moment ∙ c.cycle_once.ensures.moment) (subst (λ (j : Session). IsTicked c.args.session.now.watch.moment j.follower.subscriber) (sym noted) c.in_ok-all.ensures.ticked))
          c.answer_end.ensures.unpolled c.in_ok-stand.ensures.answers before);
    }

pub returns-clause-lives : goal.returns-clause-lives
returns-clause-lives g c =
    subst (λ (j : Session). LivesOn c.args.self.now.plan.end.form c.args.written c.args.session.now.follower (g.W.Write.contents c.args.output.now) c.in_ok-all.all j.follower (g.W.Write.contents c.cycle_once.new.output)) (sym (c.tell_loss.ensures.same))
    (subst (λ (j : Session). LivesOn c.args.self.now.plan.end.form c.args.written c.args.session.now.follower (g.W.Write.contents c.args.output.now) c.in_ok-all.all j.follower (g.W.Write.contents c.cycle_once.new.output)) (sym (c.tell_silence.ensures.same))
    (listened_on _ _ _ _ _ _ _ _ c.in_ok-all.ensures.lives
    (subst (λ (j : Session). ListensOn j.follower c.answer_end.new.self.follower) c.note_kept.ensures.same c.in_ok-stand.ensures.listens)))

pub returns-in_err-check_works-clause-broken : goal.returns-in_err-check_works-clause-broken
returns-in_err-check_works-clause-broken g c =
    let p = err_from_is_err_and c.from_residual-in_err-check_works.result c.from_residual-in_err-check_works.ensures.1 in
    rw p.1 (acts_broken _ _ _ _ _ _ _ c.in_ok-all.ensures.lives.acts)

pub returns-in_err-stand-clause-broken : goal.returns-in_err-stand-clause-broken
returns-in_err-stand-clause-broken g c =
    let p = err_from_is_err_and c.from_residual-in_err-stand.result c.from_residual-in_err-stand.ensures.1 in
    rw p.1 (unpolled_broken _ _ _ _ _ _ _ _ c.in_ok-all.ensures.lives.acts
    (subst (λ (j : Session). LivesUnpolled j.follower.subscriber c.answer_end.new.self.follower.subscriber) c.note_kept.ensures.same c.answer_end.ensures.unpolled))

pub returns-in_err-stand-clause-caused : goal.returns-in_err-stand-clause-caused
returns-in_err-stand-clause-caused g c =
    let p = err_from_is_err_and c.from_residual-in_err-stand.result c.from_residual-in_err-stand.ensures.1 in
    rw (p.1, p.2) (memory_turn _ _ _ _ _ c.in_err-stand.ensures.refused)
