-- How a subscriber ends that no fault has ended: what it wrote, and why it went no further.
use Rattle.std.specs.Prelude.{◌≡◌, ◌⊎◌, ◌≤◌, ◌<◌, ◌+◌, ◌-◌, ⊤, ℕ, Bool, true, false, IsTrue, List, [], ◌∷◌, length, Option, None, Some}
use Rattle.std.specs.Io.KnownBytes.{Appends}
use Rattle.std.specs.List.{AllByRecursion, list_any}
use Rattle.messages.specs.Forms.{spelling}
use Rattle.options.specs.declared.ends.plans.SubscribePlan.{SubscribePlan}
use Rattle.receiver.specs.Lives.{heard_in}
use Rattle.receiver.specs.Subscribing.{Subscribing}
use Rattle.subscriber.specs.Followers.{IsGreatestEnd}
use Rattle.subscriber.specs.Places.{AreBelow, Given, messages_of, most_places, of_place}
use Rattle.subscriber.specs.Watches.{HasWaited, IsQuiet, Seen, Timing}
use Rattle.subscriber.specs.declared.images.session.Session.{Session}
use Rattle.subscriber.specs.Answering.{HasAnswered}
use Rattle.subscriber.specs.Apart.{AreApart}
use Rattle.subscriber.specs.Leavings.{IsEnding, IsQuietEnding}
use Rattle.subscriber.specs.Living.{AreUnlost, FollowsAt}
use Rattle.subscriber.specs.Standing.{HasAll, Stands}
use Rattle.subscriber.specs.Turning.{IsUnheardYet}
use Rattle.subscriber.specs.declared.ending.Ending.{Ending}
use Rattle.subscriber.specs.declared.ending.Ending.TheVariants.{Lost, Short, Whole}
use Rattle.peer.specs.declared.farewell.StreamEnd.{StreamEnd}
use Rattle.subscriber.specs.Cuts.{has_lost}
use Rattle.subscriber.specs.declared.ending.Subscribed.{Subscribed}
use Rattle.subscriber.specs.declared.images.session.Stand.{Stand}

-- it had no image, and was quiet: nothing is written
pub record EndsWithoutImage (plan : SubscribePlan) (before : Option (List ℕ)) (done : Subscribed) (after : Option (List ℕ)) : Type 0 where
  pub none : done.messages ≡ 0
  pub unwritten : after ≡ before
  pub seen : Timing
  pub quiet : HasWaited plan seen
  pub ending : IsQuietEnding plan done.ending

-- ---- with one session

-- it ends so behind so many messages, by what it has seen of its session, where it stands, the end that it was told, and whether it has lost an
-- image; where it has all of its stream it has told that
pub record EndsSo (plan : SubscribePlan) (written : ℕ) (s : Seen) (t : Subscribing) (end : Option StreamEnd) (lost : Bool) (how : Ending) : Type 0 where
  pub stand : Stand
  pub stands : Stands t end stand
  pub ending : IsEnding plan written s stand lost (Some how)
  pub answered : HasAll stand → HasAnswered t

-- ---- with any number of them

-- it has all of its stream, or was never heard
abbrev pub IsDone : Session → Type 0
IsDone j = HasAll j.stood ⊎ IsUnheardYet j

-- there is one alone, or none came for a second
abbrev pub NoneCame : List Session → Type 0
NoneCame sessions = (length sessions ≡ 1) ⊎ AllByRecursion (λ (j : Session). 1000000000 ≤ j.watch.moment - j.came) sessions

-- each that was heard has all of its stream, one at the least; and no other came for a second
pub record AreDone (sessions : List Session) : Type 0 where
  pub each : AllByRecursion IsDone sessions
  pub some : ¬ AllByRecursion (λ (j : Session). ¬ HasAll j.stood) sessions
  pub none : NoneCame sessions

-- as many messages are written as were wanted; or it was to end with the streams, and has all of them
abbrev pub HasEnoughOfAll : SubscribePlan → ℕ → List Session → Type 0
HasEnoughOfAll plan written sessions = (plan.messages ≤ written) ⊎ (IsTrue plan.once × AreDone sessions)

abbrev pub AreQuiet : SubscribePlan → List Session → Type 0
AreQuiet plan sessions = AllByRecursion (λ (j : Session). IsQuiet plan j.watch) sessions

-- it isn't done yet, but quiet
pub record AreGivenUp (plan : SubscribePlan) (written : ℕ) (sessions : List Session) (how : Ending) : Type 0 where
  pub undone : ¬ HasEnoughOfAll plan written sessions
  pub quiet : AreQuiet plan sessions
  pub ending : IsQuietEnding plan how

-- it has enough, or is quiet and wasn't to end with the streams
abbrev pub AreEnough : SubscribePlan → ℕ → List Session → Type 0
AreEnough plan written sessions = HasEnoughOfAll plan written sessions ⊎ AreGivenUp plan written sessions Whole

-- one of them has lost an image
abbrev pub have_lost : List Session → Bool
have_lost sessions = list_any has_lost sessions

-- how it ends behind so many messages, where its sessions stand so
abbrev pub IsEndingOfAll : SubscribePlan → ℕ → List Session → Option Ending → Type 0
IsEndingOfAll plan written sessions (Some Whole) = (have_lost sessions ≡ false) × AreEnough plan written sessions
IsEndingOfAll plan written sessions (Some Short) = AreGivenUp plan written sessions Short
IsEndingOfAll plan written sessions (Some Lost) = (have_lost sessions ≡ true) × AreEnough plan written sessions
IsEndingOfAll plan written sessions None = (¬ HasEnoughOfAll plan written sessions) × (¬ AreQuiet plan sessions)

-- a session stands so, and where it has all of its stream it has told that
pub record HasStood (j : Session) : Type 0 where
  pub stands : Stands j.follower.subscriber j.follower.end j.stood
  pub answered : HasAll j.stood → HasAnswered j.follower.subscriber

-- of so many places, from this one on: each place's images gave its share of this; it ends by the greatest end that the datagrams told
-- which its newest image was handed; and where no stream was cut off, nothing is lost of its older images' streams
pub record EndsAt (plan : SubscribePlan) (places place : ℕ) (given : List (List ℕ)) (j : Session) : Type 0 where
  pub follows : FollowsAt plan places place j.images j.follower given
  pub told : IsGreatestEnd follows.life.newest.opening.session plan.end.stream (heard_in follows.life.newest.acts) j.follower.end
  pub stood : HasStood j
  pub unlost : j.images.cut ≡ None → AreUnlost plan follows.life.older

abbrev pub EndsEach : SubscribePlan → ℕ → ℕ → List Given → List Session → Type 0
EndsEach plan places place given [] = ⊤
EndsEach plan places place given (j ∷ more) = EndsAt plan places place (of_place place given) j × EndsEach plan places (place + 1) given more

-- it had images, of another session at each place, and all that their polls gave is written; with what stands at its places it ends so
pub record EndsWithSessions (plan : SubscribePlan) (before : Option (List ℕ)) (done : Subscribed) (after : Option (List ℕ)) : Type 0 where
  pub sessions : List Session
  pub given : List Given
  pub some : 0 < length sessions
  pub few : length sessions ≤ most_places plan
  pub apart : AreApart sessions
  pub each : EndsEach plan (length sessions) 0 given sessions
  pub known : AreBelow (length sessions) given
  pub counted : done.messages ≡ length given
  pub written : Appends before after (spelling plan.end.form (messages_of given))
  pub ending : IsEndingOfAll plan done.messages sessions (Some done.ending)

-- how it ends in all
abbrev pub HasEnded : SubscribePlan → Option (List ℕ) → Subscribed → Option (List ℕ) → Type 0
HasEnded plan before done after = EndsWithoutImage plan before done after ⊎ EndsWithSessions plan before done after

-- ---- laws

-- with one session that is how one ends that follows one alone: all that the polls of its images gave is written, and with the newest it
-- ends so
pub record EndsWithImage (plan : SubscribePlan) (before : Option (List ℕ)) (done : Subscribed) (after : Option (List ℕ)) (j : Session) : Type 0 where
  pub given : List (List ℕ)
  pub follows : FollowsAt plan 1 0 j.images j.follower given
  pub told : IsGreatestEnd follows.life.newest.opening.session plan.end.stream (heard_in follows.life.newest.acts) j.follower.end
  pub counted : done.messages ≡ length given
  pub written : Appends before after (spelling plan.end.form given)
  pub ends : EndsSo plan done.messages j.watch j.follower.subscriber j.follower.end (has_lost j) done.ending
  pub unlost : done.ending ≡ Whole → AreUnlost plan follows.life.older

abbrev pub OneSessionEnds : Type 0
OneSessionEnds =
    (plan : SubscribePlan) (before : Option (List ℕ)) (done : Subscribed) (after : Option (List ℕ)) (e : EndsWithSessions plan before done after) (j : Session)
    → e.sessions ≡ j ∷ [] → EndsWithImage plan before done after j
