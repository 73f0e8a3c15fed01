-- What becomes of a subscriber's sessions in a turn and at its end, each by itself.
use Rattle.std.specs.Prelude.{◌≡◌, ◌↔◌, ◌≤◌, ◌+◌, ℕ, Bool, false, not, min, max, IsTrue, List, ◌∷◌, length, Option, if◌then◌else◌, ◌++◌}
use Rattle.std.specs.List.{AllZip, filter}
use Rattle.options.specs.declared.ends.plans.SubscribePlan.{SubscribePlan}
use Rattle.subscriber.specs.Answering.{BidsFarewell, StaysAnswered}
use Rattle.subscriber.specs.Breaking.{BreaksPlaces}
use Rattle.subscriber.specs.Leavings.{IsSettled, LivesUnpolled, StandsStill}
use Rattle.subscriber.specs.Living.{FollowsAll}
use Rattle.subscriber.specs.Losing.{JudgesTurn, with_device}
use Rattle.subscriber.specs.Offers.{SubscriberDevice, news_taken}
use Rattle.subscriber.specs.Places.{most_places}
use Rattle.subscriber.specs.Standing.{HasAll, Stands}
use Rattle.subscriber.specs.Watches.{Timing, beginning, looking}
use Rattle.subscriber.specs.declared.images.session.Session.{Session}
use Rattle.subscriber.specs.declared.images.session.Stand.{Stand}

-- its device takes datagrams of as many bytes as an answer has
abbrev pub IsSized : Session → Type 0
IsSized j = j.duty.mtu ≡ 40

-- its image was opened now, and no turn of it has begun
pub record IsBegun (j : Session) : Type 0 where
  pub sized : IsSized j
  pub going : j.ended ≡ false
  pub fresh : j.watch ≡ beginning j.watch.moment

-- a turn of it begins at this moment
abbrev pub turn_begun : ℕ → Session → Session
turn_begun now j = record j { watch = looking j.watch now }

-- it is as it was, but for its device
abbrev pub IsRouted : Session → Session → Type 0
IsRouted old new = (d : SubscriberDevice) × (new ≡ with_device old d)

-- nothing is new of its status messages any more
abbrev pub news_told : Session → Session
news_told j = with_device j (news_taken j.duty.device)

-- its turn was lived through: what it lacks was noted, whether its image is lost was judged, and where it stands it has noted; where it has
-- all of its stream it has told that
pub record HasLooked (old new : Session) : Type 0 where
  pub session : new.follower.opening.session ≡ old.follower.opening.session
  pub before : Timing
  pub behind : Timing
  pub judges : JudgesTurn before old new behind
  pub stands : Stands new.follower.subscriber new.follower.end new.stood
  pub still : HasAll new.stood → IsTrue new.ended
  pub answered : StaysAnswered old new

-- whatever was followed before is followed on, and what was given since is written
abbrev pub FollowsOn : SubscribePlan → ℕ → List Session → Option (List ℕ) → ℕ → List Session → Option (List ℕ) → Type 0
FollowsOn plan count old between more new after =
    (before : Option (List ℕ)) → FollowsAll plan before count old between → FollowsAll plan before more new after

-- whatever was followed before is broken off: all of which a status message may have told is written
abbrev pub BreaksOffFrom : SubscribePlan → ℕ → List Session → Option (List ℕ) → Option (List ℕ) → Type 0
BreaksOffFrom plan count old between after =
    (before : Option (List ℕ)) → length old ≤ most_places plan → FollowsAll plan before count old between → BreaksPlaces plan before after

-- how many images are open, and how many that makes of which a session's next image is one
abbrev pub open_count : List Session → ℕ
open_count sessions = length (filter (λ (j : Session). not j.ended) sessions)

abbrev pub share_of : List Session → Session → ℕ
share_of sessions j = max 1 (min (length sessions) (if j.ended then open_count sessions + 1 else open_count sessions))

-- of the next image at this place
abbrev pub IsShareAt : List Session → ℕ → ℕ → Type 0
IsShareAt sessions place share =
    (front back : List Session) (j : Session) → sessions ≡ front ++ j ∷ back → place ≡ length front → share ≡ share_of sessions j

-- ---- the end

-- it polls nothing more, and stands where it stood
pub record HasLeft (old new : Session) : Type 0 where
  pub unpolled : LivesUnpolled old.follower.subscriber new.follower.subscriber
  pub still : StandsStill old.follower.subscriber new.follower.subscriber
  pub images : new.images ≡ old.images

-- it stands so, has all of its stream, and was quiet since
abbrev pub IsSettledSo : SubscribePlan → Session → Stand → Type 0
IsSettledSo plan j x = IsSettled plan j.watch x

abbrev pub StandsSo : Session → Stand → Type 0
StandsSo j x = Stands j.follower.subscriber j.follower.end x

-- whether each of them stands so that it is settled
pub record AreSettled (plan : SubscribePlan) (sessions : List Session) (settled : Bool) : Type 0 where
  pub stands : List Stand
  pub are : AllZip StandsSo sessions stands
  pub is : IsTrue settled ↔ AllZip (IsSettledSo plan) sessions stands

-- where all of them are settled nothing is told any more, and else each tells for a second where it stands
pub record LeavesAll (plan : SubscribePlan) (from to : ℕ) (old new : List Session) (done : Type 0 → Type 0) : Type 0 where
  pub stands : List Stand
  pub are : AllZip StandsSo old stands
  pub settled : AllZip (IsSettledSo plan) old stands → new ≡ old
  pub unsettled : ¬ AllZip (IsSettledSo plan) old stands
      → done (AllZip (λ (j k : Session). BidsFarewell j.follower.subscriber from k.follower.subscriber to) old new)
