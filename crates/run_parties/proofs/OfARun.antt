-- A receiver's honest life, and the tally of what its subscriber read.
use Rattle.std.proofs.Common.{[], ℕ, List, ◌≡◌, Option, None, Some, inl, inr, arith, refl, sym, ap, ◌∙◌, subst}
use Rattle.image.specs.Rebuilding.{Inserting, join_of}
use Rattle.image.specs.Handles.{known_by}
use Rattle.theory.specs.Assembly.{Assembly}
use Rattle.theory.specs.Placed.{AllAmong, Among, Chain}
use Rattle.theory.proofs.Lists.{all_weaker}
use Rattle.receiver.specs.CoreLives.{ReadsARun, messages_of}
use Rattle.assembler.specs.Hearing.{assembled}
use Rattle.receiver.specs.Reading.{HearsFurther, PassesRead}
use Rattle.receiver.specs.Receiving.{Receiver}
use Rattle.receiver.specs.Representing.{RepresentsOpened}
use Rattle.run_parties.specs.Receptions.{PolledOf, given_by, refused_by}
use Rattle.run_parties.specs.Runs.{GivesARun, TalliesARun}
use Rattle.run_parties.specs.Tallies.{IsTallyOf}
use Rattle.run_parties.proofs.Polling.{hears_all}

closed : (v : Option Inserting) → RepresentsOpened v None → v ≡ None
closed None h = refl
closed (Some i) h = absurd h

pub gives_a_run : ReadsARun → HearsFurther → PassesRead → GivesARun
gives_a_run law further passes x is session stream g id first core acts new lives honest t polled = tallied core.image refl polled
  where
    tallied : (v : Option Inserting) → core.image ≡ v → PolledOf v t 0 → TalliesARun x v t
    tallied None e h = h.0
    tallied (Some i) e (inl h) = (join_of i, subst (λ ms. IsTallyOf ms t) (law x is first core acts (ap (λ (r : Receiver). r.session) (sym new.numbers) ∙ sym session) (ap (λ (r : Receiver). r.stream) (sym new.numbers) ∙ sym stream) (closed first.image new.image) lives honest i e [] (join_of i) refl tt) h.0)
    tallied (Some i) e (inr h) =
        let none : refused_by h.answers ≡ 0 = (let c = h.refused_are in omega (arith, c)) in
        let all = hears_all further passes h.first h.last h.answers h.polled none in
        let given : messages_of all.0 ≡ given_by h.answers = ap (λ (b : Option (List ℕ)). (assembled b all.0).given) (sym h.nothing) ∙ ap (λ (a : Assembly). a.given) all.1.heard in
        let stored : AllAmong i.stored all.0 = all_weaker (λ s. Among s (known_by h.last.seat)) (λ s. Among s i.stored) h.stored all.0 all.1.reads.known in
        let run = law x is first core acts (ap (λ (r : Receiver). r.session) (sym new.numbers) ∙ sym session) (ap (λ (r : Receiver). r.stream) (sym new.numbers) ∙ sym stream) (closed first.image new.image) lives honest i e all.0 h.last.heard_to (subst (λ (p : ℕ). Chain p h.last.heard_to all.0) h.join all.1.reads.chain) stored in
        (h.last.heard_to, subst (λ ms. IsTallyOf ms t) (sym given ∙ run) h.tally)
