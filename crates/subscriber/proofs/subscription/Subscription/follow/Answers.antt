use Rattle.std.proofs.Common.{arith, ◌≡◌, ◌∙◌, ◌<◌, ◌≤◌, ℕ, List, length, ap, subst, sym}
use Rattle.std.proofs.lemmas.List.{length-map}
use Rattle.std.proofs.lemmas.Result.{err_from_is_err_and}
use Rattle.std.specs.List.{AllByRecursion, AllZip}
use Rattle.subscriber.proofs.Apart.{looked_apart}
use Rattle.subscriber.proofs.Called.{IsNoted, all_noted_kept, all_noted_sized, called_noted, noted_followed}
use Rattle.subscriber.proofs.Chosen.{attended_everything}
use Rattle.subscriber.proofs.Each.{zip_length}
use Rattle.subscriber.proofs.Faults.{turn_whole}
use Rattle.subscriber.proofs.Kept.{IsLookedAt, all_looked_kept, attended_kept, attended_sized, looked_ahead, looked_judged, looked_stood, told_kept, told_sized}
use Rattle.subscriber.proofs.Placed.{follows_breaks, told_all}
use Rattle.subscriber.proofs.Rounds.{attended_some, read_followed, read_length, read_sized}
use Rattle.subscriber.proofs.Seated.{written_whole}
use Rattle.subscriber.specs.Apart.{AreApart}
use Rattle.subscriber.specs.Endings.{HasStood}
use Rattle.subscriber.specs.Living.{FollowsAll}
use Rattle.subscriber.specs.Places.{most_places}
use Rattle.subscriber.specs.Sessions.{HasLooked, IsRouted, IsSized, news_told}
use Rattle.subscriber.specs.Watches.{AttendsEach, JudgesEach}
use Rattle.subscriber.specs.declared.images.session.Session.{Session}
use Rattle.subscriber.proofs.subscription.Subscription.follow.Goals as goal

pub returns-in_err-see-clause-broken : goal.returns-in_err-see-clause-broken
returns-in_err-see-clause-broken g c =
    let p = err_from_is_err_and c.from_residual.result c.from_residual.ensures.1 in
    rw p.1 (follows_breaks c.args.self.now.plan _ _ _ c.loop.sessions.list.items c.loop.invariant.places c.loop.invariant.lives)

pub returns-in_err-passed-clause-broken : goal.returns-in_err-passed-clause-broken
returns-in_err-passed-clause-broken g c =
    let p = err_from_is_err_and c.from_residual-in_err-passed.result c.from_residual-in_err-passed.ensures.1 in
    rw p.1 (follows_breaks c.args.self.now.plan _ _ _ c.loop.sessions.list.items c.loop.invariant.places c.loop.invariant.lives)

pub look_at_each-requires-clause-size : goal.look_at_each-requires-clause-size
look_at_each-requires-clause-size g c =
    let value = c.as_mut_slice-list.ensures.value in
    subst (AllByRecursion IsSized) (sym value) (read_sized _ c.loop.sessions.list.items c.begin_turn.new.self.list.items c.read.new.self.list.items c.begin_turn.ensures.each c.read.ensures.kept c.loop.invariant.size)

pub returns-in_err-all-clause-broken : goal.returns-in_err-all-clause-broken
returns-in_err-all-clause-broken g c =
    let plan = c.args.self.now.plan in
    let value = c.as_mut_slice-list.ensures.value in
    let read : AllZip IsRouted c.begin_turn.new.self.list.items c.as_mut_slice-list.result.now = subst (AllZip IsRouted c.begin_turn.new.self.list.items) (sym value) c.read.ensures.kept in
    let same = read_length _ c.loop.sessions.list.items _ _ c.begin_turn.ensures.each read in
    let p = err_from_is_err_and c.from_residual-in_err-all.result c.from_residual-in_err-all.ensures.1 in
    rw p.1 (c.in_err-all.ensures.broken (g.W.Write.contents c.args.output.now) (subst (λ (n : ℕ). n ≤ most_places plan) (sym same) c.loop.invariant.places)
    (read_followed plan (g.W.Write.contents c.args.output.now) (g.W.Write.contents c.loop.output) c.loop.written _ c.loop.sessions.list.items _ _ c.begin_turn.ensures.each read c.loop.invariant.lives))

pub returns-in-Some-ending_of-clause-some : goal.returns-in-Some-ending_of-clause-some
returns-in-Some-ending_of-clause-some g c =
    let value = c.as_mut_slice-list.ensures.value in
    let zipped = zip_length HasLooked c.as_mut_slice-list.result.now c.look_at_each.new.sessions c.in_ok-all.ensures.looked in
    let whole = written_whole c.read.new.self.list.items c.look_at_each.new.sessions c.read.new.self.list.len c.read.new.self.list.ok.0 (zipped ∙ ap length value) in
    let same = read_length _ c.loop.sessions.list.items _ _ c.begin_turn.ensures.each c.read.ensures.kept in
    subst (λ (zs : List Session). 0 < length zs) (sym whole) (subst (λ (n : ℕ). 0 < n) (sym (zipped ∙ ap length value ∙ same)) c.loop.invariant.some)

pub returns-in-Some-ending_of-clause-places : goal.returns-in-Some-ending_of-clause-places
returns-in-Some-ending_of-clause-places g c =
    let plan = c.args.self.now.plan in
    let value = c.as_mut_slice-list.ensures.value in
    let zipped = zip_length HasLooked c.as_mut_slice-list.result.now c.look_at_each.new.sessions c.in_ok-all.ensures.looked in
    let whole = written_whole c.read.new.self.list.items c.look_at_each.new.sessions c.read.new.self.list.len c.read.new.self.list.ok.0 (zipped ∙ ap length value) in
    let same = read_length _ c.loop.sessions.list.items _ _ c.begin_turn.ensures.each c.read.ensures.kept in
    subst (λ (zs : List Session). length zs ≤ most_places plan) (sym whole) (subst (λ (n : ℕ). n ≤ most_places plan) (sym (zipped ∙ ap length value ∙ same)) c.loop.invariant.places)

pub returns-in-Some-ending_of-clause-stood : goal.returns-in-Some-ending_of-clause-stood
returns-in-Some-ending_of-clause-stood g c =
    let value = c.as_mut_slice-list.ensures.value in
    let read : AllZip IsRouted c.begin_turn.new.self.list.items c.as_mut_slice-list.result.now = subst (AllZip IsRouted c.begin_turn.new.self.list.items) (sym value) c.read.ensures.kept in
    let looked = all_looked_kept _ c.loop.sessions.list.items _ _ c.look_at_each.new.sessions c.loop.invariant.kept c.begin_turn.ensures.each read c.in_ok-all.ensures.looked in
    let zipped = zip_length HasLooked c.as_mut_slice-list.result.now c.look_at_each.new.sessions c.in_ok-all.ensures.looked in
    let whole = written_whole c.read.new.self.list.items c.look_at_each.new.sessions c.read.new.self.list.len c.read.new.self.list.ok.0 (zipped ∙ ap length value) in
    subst (AllByRecursion HasStood) (sym whole) (looked_stood _ looked)

pub returns-in-Some-ending_of-clause-attended : goal.returns-in-Some-ending_of-clause-attended
returns-in-Some-ending_of-clause-attended g c =
    let value = c.as_mut_slice-list.ensures.value in
    let read : AllZip IsRouted c.begin_turn.new.self.list.items c.as_mut_slice-list.result.now = subst (AllZip IsRouted c.begin_turn.new.self.list.items) (sym value) c.read.ensures.kept in
    let looked = all_looked_kept _ c.loop.sessions.list.items _ _ c.look_at_each.new.sessions c.loop.invariant.kept c.begin_turn.ensures.each read c.in_ok-all.ensures.looked in
    let zipped = zip_length HasLooked c.as_mut_slice-list.result.now c.look_at_each.new.sessions c.in_ok-all.ensures.looked in
    let whole = written_whole c.read.new.self.list.items c.look_at_each.new.sessions c.read.new.self.list.len c.read.new.self.list.ok.0 (zipped ∙ ap length value) in
    subst (AllByRecursion (λ (j : Session). AttendsEach j.watch)) (sym whole) (looked_ahead _ looked)

pub returns-in-Some-ending_of-clause-judged : goal.returns-in-Some-ending_of-clause-judged
returns-in-Some-ending_of-clause-judged g c =
    let value = c.as_mut_slice-list.ensures.value in
    let read : AllZip IsRouted c.begin_turn.new.self.list.items c.as_mut_slice-list.result.now = subst (AllZip IsRouted c.begin_turn.new.self.list.items) (sym value) c.read.ensures.kept in
    let looked = all_looked_kept _ c.loop.sessions.list.items _ _ c.look_at_each.new.sessions c.loop.invariant.kept c.begin_turn.ensures.each read c.in_ok-all.ensures.looked in
    let zipped = zip_length HasLooked c.as_mut_slice-list.result.now c.look_at_each.new.sessions c.in_ok-all.ensures.looked in
    let whole = written_whole c.read.new.self.list.items c.look_at_each.new.sessions c.read.new.self.list.len c.read.new.self.list.ok.0 (zipped ∙ ap length value) in
    subst (AllByRecursion (λ (j : Session). JudgesEach j.watch)) (sym whole) (looked_judged _ looked)

pub returns-in-Some-ending_of-clause-lives : goal.returns-in-Some-ending_of-clause-lives
returns-in-Some-ending_of-clause-lives g c =
    let plan = c.args.self.now.plan in
    let value = c.as_mut_slice-list.ensures.value in
    let read : AllZip IsRouted c.begin_turn.new.self.list.items c.as_mut_slice-list.result.now = subst (AllZip IsRouted c.begin_turn.new.self.list.items) (sym value) c.read.ensures.kept in
    let follows = read_followed plan (g.W.Write.contents c.args.output.now) (g.W.Write.contents c.loop.output) c.loop.written _ c.loop.sessions.list.items _ _ c.begin_turn.ensures.each read c.loop.invariant.lives in
    let zipped = zip_length HasLooked c.as_mut_slice-list.result.now c.look_at_each.new.sessions c.in_ok-all.ensures.looked in
    let whole = written_whole c.read.new.self.list.items c.look_at_each.new.sessions c.read.new.self.list.len c.read.new.self.list.ok.0 (zipped ∙ ap length value) in
    subst (λ (zs : List Session). FollowsAll plan (g.W.Write.contents c.args.output.now) c.in_ok-all.all zs (g.W.Write.contents c.look_at_each.new.output)) (sym whole)
    (c.in_ok-all.ensures.lives (g.W.Write.contents c.args.output.now) follows)

pub answer_turn-requires-clause-few : goal.answer_turn-requires-clause-few
answer_turn-requires-clause-few g c =
    let plan = c.args.self.now.plan in
    let value = c.as_mut_slice-list.ensures.value in
    let zipped = zip_length HasLooked c.as_mut_slice-list.result.now c.look_at_each.new.sessions c.in_ok-all.ensures.looked in
    let whole = written_whole c.read.new.self.list.items c.look_at_each.new.sessions c.read.new.self.list.len c.read.new.self.list.ok.0 (zipped ∙ ap length value) in
    let same = read_length _ c.loop.sessions.list.items _ _ c.begin_turn.ensures.each c.read.ensures.kept in
    subst (λ (zs : List Session). length zs ≤ most_places plan) (sym whole) (subst (λ (n : ℕ). n ≤ most_places plan) (sym (zipped ∙ ap length value ∙ same)) c.loop.invariant.places)

pub answer_turn-requires-clause-apart : goal.answer_turn-requires-clause-apart
answer_turn-requires-clause-apart g c =
    let value = c.as_mut_slice-list.ensures.value in
    let read : AllZip IsRouted c.begin_turn.new.self.list.items c.as_mut_slice-list.result.now = subst (AllZip IsRouted c.begin_turn.new.self.list.items) (sym value) c.read.ensures.kept in
    let zipped = zip_length HasLooked c.as_mut_slice-list.result.now c.look_at_each.new.sessions c.in_ok-all.ensures.looked in
    let whole = written_whole c.read.new.self.list.items c.look_at_each.new.sessions c.read.new.self.list.len c.read.new.self.list.ok.0 (zipped ∙ ap length value) in
    subst AreApart (sym whole) (looked_apart _ c.loop.sessions.list.items _ _ c.look_at_each.new.sessions c.begin_turn.ensures.each read c.in_ok-all.ensures.looked c.loop.invariant.apart)

pub returns-in-Some-ending_of-clause-apart : goal.returns-in-Some-ending_of-clause-apart
returns-in-Some-ending_of-clause-apart g c =
    let value = c.as_mut_slice-list.ensures.value in
    let read : AllZip IsRouted c.begin_turn.new.self.list.items c.as_mut_slice-list.result.now = subst (AllZip IsRouted c.begin_turn.new.self.list.items) (sym value) c.read.ensures.kept in
    let zipped = zip_length HasLooked c.as_mut_slice-list.result.now c.look_at_each.new.sessions c.in_ok-all.ensures.looked in
    let whole = written_whole c.read.new.self.list.items c.look_at_each.new.sessions c.read.new.self.list.len c.read.new.self.list.ok.0 (zipped ∙ ap length value) in
    subst AreApart (sym whole) (looked_apart _ c.loop.sessions.list.items _ _ c.look_at_each.new.sessions c.begin_turn.ensures.each read c.in_ok-all.ensures.looked c.loop.invariant.apart)

pub answer_turn-requires-clause-some : goal.answer_turn-requires-clause-some
answer_turn-requires-clause-some g c =
    let value = c.as_mut_slice-list.ensures.value in
    let zipped = zip_length HasLooked c.as_mut_slice-list.result.now c.look_at_each.new.sessions c.in_ok-all.ensures.looked in
    let whole = written_whole c.read.new.self.list.items c.look_at_each.new.sessions c.read.new.self.list.len c.read.new.self.list.ok.0 (zipped ∙ ap length value) in
    let same = read_length _ c.loop.sessions.list.items _ _ c.begin_turn.ensures.each c.read.ensures.kept in
    subst (λ (zs : List Session). 0 < length zs) (sym whole) (subst (λ (n : ℕ). 0 < n) (sym (zipped ∙ ap length value ∙ same)) c.loop.invariant.some)

pub returns-in_err-answer_turn-clause-broken : goal.returns-in_err-answer_turn-clause-broken
returns-in_err-answer_turn-clause-broken g c =
    let plan = c.args.self.now.plan in
    let value = c.as_mut_slice-list.ensures.value in
    let read : AllZip IsRouted c.begin_turn.new.self.list.items c.as_mut_slice-list.result.now = subst (AllZip IsRouted c.begin_turn.new.self.list.items) (sym value) c.read.ensures.kept in
    let follows = read_followed plan (g.W.Write.contents c.args.output.now) (g.W.Write.contents c.loop.output) c.loop.written _ c.loop.sessions.list.items _ _ c.begin_turn.ensures.each read c.loop.invariant.lives in
    let zipped = zip_length HasLooked c.as_mut_slice-list.result.now c.look_at_each.new.sessions c.in_ok-all.ensures.looked in
    let same = read_length _ c.loop.sessions.list.items _ _ c.begin_turn.ensures.each read in
    let p = err_from_is_err_and c.from_residual-in_err-answer_turn.result c.from_residual-in_err-answer_turn.ensures.1 in
    rw p.1 (follows_breaks plan (g.W.Write.contents c.args.output.now) (g.W.Write.contents c.look_at_each.new.output) c.in_ok-all.all c.look_at_each.new.sessions
    (subst (λ (n : ℕ). n ≤ most_places plan) (sym (zipped ∙ same)) c.loop.invariant.places)
    (c.in_ok-all.ensures.lives (g.W.Write.contents c.args.output.now) follows))

pub loop-preserved : goal.loop-preserved
loop-preserved g c =
    let plan = c.args.self.now.plan in
    let value = c.as_mut_slice-list.ensures.value in
    let read : AllZip IsRouted c.begin_turn.new.self.list.items c.as_mut_slice-list.result.now = subst (AllZip IsRouted c.begin_turn.new.self.list.items) (sym value) c.read.ensures.kept in
    let follows = read_followed plan (g.W.Write.contents c.args.output.now) (g.W.Write.contents c.loop.output) c.loop.written _ c.loop.sessions.list.items _ _ c.begin_turn.ensures.each read c.loop.invariant.lives in
    let looked = all_looked_kept _ c.loop.sessions.list.items _ _ c.look_at_each.new.sessions c.loop.invariant.kept c.begin_turn.ensures.each read c.in_ok-all.ensures.looked in
    let zipped = zip_length HasLooked c.as_mut_slice-list.result.now c.look_at_each.new.sessions c.in_ok-all.ensures.looked in
    let whole = written_whole c.read.new.self.list.items c.look_at_each.new.sessions c.read.new.self.list.len c.read.new.self.list.ok.0 (zipped ∙ ap length value) in
    let same = read_length _ c.loop.sessions.list.items _ _ c.begin_turn.ensures.each read in
    let turn = c.in_ok-answer_turn.ensures.answers in
    let kept = attended_kept plan _ _ _ turn.placed (subst (AllByRecursion IsLookedAt) (sym whole) looked) turn.attends in
    let sized = attended_sized plan _ _ _ turn.placed (subst (AllByRecursion IsSized) (sym whole) c.look_at_each.ensures.size) turn.attends in
    let lived = subst (λ (zs : List Session). FollowsAll plan (g.W.Write.contents c.args.output.now) c.in_ok-all.all zs (g.W.Write.contents c.look_at_each.new.output)) (sym whole)
    (c.in_ok-all.ensures.lives (g.W.Write.contents c.args.output.now) follows) in
    let held = attended_everything plan (g.W.Write.contents c.args.output.now) (g.W.Write.contents c.look_at_each.new.output) c.in_ok-all.all _ _ _ turn.placed turn.attends lived in
    let some = attended_some plan _ _ _ turn.placed turn.attends
    (subst (λ (zs : List Session). 0 < length zs) (sym whole) (subst (λ (n : ℕ). 0 < n) (sym (zipped ∙ same)) c.loop.invariant.some)) in
    let noted = called_noted plan _ turn.placed _ turn.called _ turn.calls in
    let size = ap length turn.told ∙ length-map turn.called news_told ∙ zip_length IsNoted turn.placed turn.called noted in
    record {
      size = told_sized _ _ (all_noted_sized turn.placed turn.called noted sized) turn.told;
      some = subst (λ (n : ℕ). 0 < n) (sym size) some;
      apart = c.in_ok-answer_turn.ensures.apart;
      places = c.in_ok-answer_turn.ensures.few;
      few = c.in_ok-all.ensures.few;
      kept = told_kept _ _ (all_noted_kept turn.placed turn.called noted kept) turn.told;
      lives = told_all plan _ _ _ _ _ turn.told (noted_followed plan _ _ _ turn.placed turn.called noted held);
    }

pub returns-in_err-all-clause-caused : goal.returns-in_err-all-clause-caused
returns-in_err-all-clause-caused g c =
    let value = c.as_mut_slice-list.ensures.value in
    let kept = c.look_at_each.auto.sessions in
    let here = ap length value in
    let long : length c.look_at_each.new.sessions ≡ length c.read.new.self.list.items = omega (arith, kept, here) in
    let whole = written_whole c.read.new.self.list.items c.look_at_each.new.sessions c.read.new.self.list.len c.read.new.self.list.ok.0 long in
    let p = err_from_is_err_and c.from_residual-in_err-all.result c.from_residual-in_err-all.ensures.1 in
    rw (p.1, p.2) (turn_whole c.args.self.now.plan.end.form _ c.look_at_each.new.sessions _ (g.W.Write.contents c.look_at_each.new.output) c.look_at_each.new.watch whole c.in_err-all.ensures.caused)
