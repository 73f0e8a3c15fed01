-- Which place a session gets, and what comes of a SETUP that would open an image.
-- A session has its own. Else, where eight are held by sessions that weren't heard yet, it goes to the oldest of those; or else to one whose
-- stream ended more than a second ago, to a further one while there is one, to one whose stream has ended, or to one that is silent; else
-- nowhere.
use Rattle.std.specs.Prelude.{◌≡◌, ◌⊎◌, ◌<◌, ◌≤◌, ◌+◌, ◌-◌, ◌++◌, ℕ, ℤ, Bool, IsTrue, List, [], ◌∷◌, length, None, Some, ◌&&◌, is_none}
use Rattle.std.specs.List.{AllByRecursion, AllZip, filter}
use Rattle.frames.specs.Frames.{setup_of}
use Rattle.options.specs.declared.ends.plans.SubscribePlan.{SubscribePlan}
use Rattle.peer.specs.Ties.{Offer}
use Rattle.subscriber.specs.Calls.{IsJoinedBy, IsMeeting}
use Rattle.subscriber.specs.Meetings.{OpensNothing}
use Rattle.subscriber.specs.Places.{most_places}
use Rattle.subscriber.specs.Sessions.{open_count, share_of}
use Rattle.subscriber.specs.Turning.{AttendsOwn, IsUnheardYet, Replaces, Turns, Warns}
use Rattle.subscriber.specs.Watches.{IsSilent}
use Rattle.subscriber.specs.declared.images.session.Session.{Session}
use Rattle.subscriber.specs.declared.listening.setup_offer.SetupOffer.{SetupOffer}
use Rattle.subscriber.specs.declared.subscription.offers.Chosen.{Chosen}
use Rattle.subscriber.specs.declared.subscription.offers.Chosen.TheVariants.{Own, Given, Further, Nowhere}

-- its stream has ended, and no frame of it has come for a second
pub record IsOver (j : Session) : Type 0 where
  pub ended : IsTrue j.ended
  pub still : 1000000000 ≤ j.watch.moment - j.watch.heard

abbrev pub IsEnded : Session → Type 0
IsEnded j = IsTrue j.ended

abbrev pub IsSilentNow : Session → Type 0
IsSilentNow j = IsSilent j.watch

-- this one is followed there
abbrev pub IsItsOwn : ℤ → Session → Type 0
IsItsOwn session j = j.follower.opening.session ≡ session

-- the first that is so stands at this place
pub record IsFirst (Is : Session → Type 0) (sessions : List Session) (place : ℕ) : Type 0 where
  pub front : List Session
  pub here : Session
  pub back : List Session
  pub parts : sessions ≡ front ++ here ∷ back
  pub at : place ≡ length front
  pub is : Is here
  pub none : AllByRecursion (λ (j : Session). ¬ Is j) front

abbrev pub IsNone : (Session → Type 0) → List Session → Type 0
IsNone Is sessions = AllByRecursion (λ (j : Session). ¬ Is j) sessions

-- how many weren't heard yet
abbrev pub is_unheard : Session → Bool
is_unheard j = is_none j.duty.device.notes.last && is_none j.follower.end

abbrev pub unheard_count : List Session → ℕ
unheard_count sessions = length (filter is_unheard sessions)

-- no other that wasn't heard yet was opened before the one at this place
pub record IsOldest (sessions : List Session) (place : ℕ) : Type 0 where
  pub front : List Session
  pub here : Session
  pub back : List Session
  pub parts : sessions ≡ front ++ here ∷ back
  pub at : place ≡ length front
  pub is : IsUnheardYet here
  pub oldest : AllByRecursion (λ (j : Session). IsUnheardYet j → here.opened ≤ j.opened) sessions

-- no further place may be had
abbrev pub IsFull : SubscribePlan → List Session → Type 0
IsFull plan sessions = most_places plan ≤ length sessions

-- one whose stream ended more than a second ago; or where no further place may be had one whose stream has ended, or else one that is silent
abbrev pub IsVacant : SubscribePlan → List Session → ℕ → Type 0
IsVacant plan sessions place =
    IsFirst IsOver sessions place
    ⊎ (IsNone IsOver sessions × IsFull plan sessions × (IsFirst IsEnded sessions place ⊎ (IsNone IsEnded sessions × IsFirst IsSilentNow sessions place)))

abbrev pub IsChosen : SubscribePlan → ℤ → List Session → Chosen → Type 0
IsChosen plan session sessions (Own place) = IsFirst (IsItsOwn session) sessions place
IsChosen plan session sessions (Given place) =
    IsNone (IsItsOwn session) sessions
    × (((8 ≤ unheard_count sessions) × IsOldest sessions place) ⊎ ((unheard_count sessions < 8) × IsVacant plan sessions place))
IsChosen plan session sessions Further =
    IsNone (IsItsOwn session) sessions × (unheard_count sessions < 8) × IsNone IsOver sessions × (length sessions < most_places plan)
IsChosen plan session sessions Nowhere =
    IsNone (IsItsOwn session) sessions × (unheard_count sessions < 8) × IsFull plan sessions × IsNone IsEnded sessions × IsNone IsSilentNow sessions

-- the session at a place becomes another one so, and the others stay
pub record ChangesAt (place : ℕ) (Becomes : Session → Session → Type 0) (old new : List Session) : Type 0 where
  pub front : List Session
  pub before : Session
  pub behind : Session
  pub back : List Session
  pub was : old ≡ front ++ before ∷ back
  pub at : place ≡ length front
  pub becomes : Becomes before behind
  pub is : new ≡ front ++ behind ∷ back

-- a further place has this session
pub record Joins (plan : SubscribePlan) (m : SetupOffer) (moment : ℕ) (old new : List Session) : Type 0 where
  pub session : Session
  pub joined : IsJoinedBy plan (length old) (open_count old + 1) moment m session
  pub is : new ≡ old ++ session ∷ []

abbrev pub GoesTo : SubscribePlan → SetupOffer → ℕ → Chosen → List Session → List Session → Type 0
GoesTo plan m moment (Own place) old new = ChangesAt place (λ j k. Turns plan (share_of old j) m j k) old new
GoesTo plan m moment (Given place) old new = ChangesAt place (λ j k. Replaces plan (share_of old j) m j k) old new
GoesTo plan m moment Further old new = Joins plan m moment old new
GoesTo plan m moment Nowhere old new = ChangesAt 0 (Warns m) old new

-- what is made of a SETUP that would open an image
pub record IsPlaced (plan : SubscribePlan) (m : SetupOffer) (moment : ℕ) (old new : List Session) : Type 0 where
  pub chosen : Chosen
  pub is : IsChosen plan m.opening.session old chosen
  pub goes : GoesTo plan m moment chosen old new

-- and of the first that is kept of others, if one is
abbrev pub AttendsOther : SubscribePlan → ℕ → Offer → List Session → List Session → Type 0
AttendsOther plan moment None old new = new ≡ old
AttendsOther plan moment (Some offer) old new =
    (OpensNothing plan (setup_of offer.1) × (new ≡ old)) ⊎ ((m : SetupOffer) × IsMeeting plan offer.0 offer.1 m × IsPlaced plan m moment old new)

-- each session's own, and then that one
pub record AttendsAll (plan : SubscribePlan) (moment : ℕ) (other : Offer) (old new : List Session) : Type 0 where
  pub middle : List Session
  pub own : AllZip (λ j k. AttendsOwn plan (share_of old j) j k) old middle
  pub others : AttendsOther plan moment other middle new
