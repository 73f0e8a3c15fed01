-- A whole life.
use Rattle.std.proofs.Common.{◌≡◌, ℕ, List, [], ◌∷◌, ◌++◌, Option, None, Some, inl, inr, refl, sym, ap, ◌∙◌, subst, append_assoc, append-nil}
use Rattle.std.specs.List.{AllByRecursion}
use Rattle.model.specs.StreamLaws.{GivesMessages}
use Rattle.receiver.specs.Receiving.{Opened, Receiver, listening, ticked}
use Rattle.receiver.specs.Subscribing.{RepresentsSubscriber, Subscribing}
use Rattle.receiver.specs.Lives.{Act, ActsSo, GivesNone, Gives, Hears, IsHonest, IsRunOf, IsStream, Lives, PollsARun, Stream, Ticks, given_in, heard_in}
use Rattle.receiver.proofs.Lived.Following.{FollowsImage, follows_as}
use Rattle.receiver.proofs.Lived.Meeting.{Places, takes}
use Rattle.receiver.proofs.Lived.Polled.{FollowsOne, HasHeard, begins_heard, polled_none, polled_nowhere, polled_one}

-- a receiver that the subscriber may be, which is followed
abbrev IsFollowing : Stream → Subscribing → List (List ℕ) → Type 0
IsFollowing x s given = (r : Receiver) × RepresentsSubscriber s r × FollowsOne x given r

lives_on : Places → (x : Stream) (s t : Subscribing) (acts : List Act) (given : List (List ℕ)) → IsStream x → IsFollowing x s given → Lives s acts t → AllByRecursion (IsHonest x) (heard_in acts) → IsFollowing x t (given ++ given_in acts)
lives_on laws x s t [] given is h lives honest = subst (IsFollowing x t) (sym (append-nil given)) (subst (λ z. IsFollowing x z given) (sym lives) h)
lives_on laws x s t (Hears now bytes ∷ acts) given is h lives honest =
    let step = lives.1.1 h.0 h.1 in
    lives_on laws x lives.0 t acts given is (step.0, step.2, takes x is (HasHeard x given) (given ≡ []) 1 (begins_heard x given) laws h.0 step.0 now bytes lives.1.0 h.2 honest.0 step.1) lives.2 honest.1
lives_on laws x s t (Ticks now ∷ acts) given is h lives honest =
    lives_on laws x lives.0 t acts given is (ticked h.0 now, lives.1 h.0 h.1, follows_as x (HasHeard x given) (given ≡ []) 1 h.0 (ticked h.0 now) h.2 refl refl refl refl) lives.2 honest
lives_on laws x s t (Gives message ∷ acts) given is h lives honest =
    let step = lives.1 h.0 h.1 in
    subst (IsFollowing x t) (append_assoc given (message ∷ []) (given_in acts))
    (lives_on laws x lives.0 t acts (given ++ message ∷ []) is (step.0, step.2, polled_one x h.0 step.0 given message h.2 step.1) lives.2 honest)
lives_on laws x s t (GivesNone ∷ acts) given is h lives honest =
    lives_on laws x lives.0 t acts given is (none lives.1) lives.2 honest
  where
    none : ActsSo s GivesNone lives.0 → IsFollowing x lives.0 given
    none (inl m) = let step = m h.0 h.1 in (step.0, step.2, polled_none x h.0 step.0 given h.2 step.1)
    none (inr m) = let step = m h.0 h.1 in (step.0, step.2, polled_nowhere x h.0 step.0 h.0.image given h.2 refl step.1)

is_run : GivesMessages → (x : Stream) (image : Option Opened) (given : List (List ℕ)) → IsStream x → FollowsImage image x (HasHeard x given) (given ≡ []) → IsRunOf x image given
is_run law x None given is h = h
is_run law x (Some o) given is h = (
  h.reading.consumer,
  h.reading.one,
  h.reading.from,
  sym h.reading.given_is ∙ ap (λ a. a.given) h.reading.heard ∙ law x.identity.geometry.term_length x.start x.tail h.reading.consumer.join h.reading.consumer.at x.entries h.reading.read is.tiles is.entries h.reading.chain h.reading.among,
)

pub polls_a_run : Places → GivesMessages → PollsARun
polls_a_run laws law x is window greatest moment id first outcomes r first_taken first_honest s t acts shown lives honest =
    let fresh : Receiver = listening x.identity.session x.identity.stream window id 1 greatest in
    let begun : FollowsOne x [] fresh = record { session = refl; stream = refl; count = refl; image = refl } in
    let opened = takes x is (HasHeard x []) ([] ≡ []) 1 (begins_heard x []) laws fresh r moment first outcomes begun first_honest first_taken in
    let end = lives_on laws x s t acts [] is (r, shown, opened) lives honest in
    (end.0, end.1, is_run law x end.0.image (given_in acts) is end.2.image)
