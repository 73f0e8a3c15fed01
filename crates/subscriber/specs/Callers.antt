-- Who is asked for a SETUP of a session that nobody follows, and of whom it is told that there is no place for it.
use Rattle.std.specs.Prelude.{◌≡◌, ◌≢◌, ◌⊎◌, ◌++◌, ℕ, ℤ, List, [], ◌∷◌, length, Option, None, Some}
use Rattle.std.specs.declared.net.SocketAddr.{SocketAddr}
use Rattle.theory.specs.Control.{asking_at}
use Rattle.frames.specs.Frames.{header_of}
use Rattle.frames.specs.declared.frame.Header.{Header}
use Rattle.options.specs.declared.ends.plans.SubscribePlan.{SubscribePlan}
use Rattle.peer.specs.Ties.{Listening, asking}
use Rattle.subscriber.specs.Calls.{IsTaken}
use Rattle.subscriber.specs.Choosing.{ChangesAt, IsChosen}
use Rattle.subscriber.specs.Images.{IsUnnamed, first_image, next}
use Rattle.subscriber.specs.Meetings.{id_of}
use Rattle.subscriber.specs.Receivings.{Caller}
use Rattle.subscriber.specs.declared.images.session.Session.{Session}
use Rattle.subscriber.specs.declared.subscription.offers.Chosen.{Chosen}
use Rattle.subscriber.specs.declared.subscription.offers.Chosen.TheVariants.{Own, Given, Further, Nowhere}

-- the next image at a place has this number
pub record HasNext (sessions : List Session) (place number : ℕ) : Type 0 where
  pub front : List Session
  pub here : Session
  pub back : List Session
  pub parts : sessions ≡ front ++ here ∷ back
  pub at : place ≡ length front
  pub is : number ≡ next here.images.number

-- another session than the one that is followed, which wasn't told as not heard yet
pub record IsUntold (session : ℤ) (j : Session) : Type 0 where
  pub other : session ≢ j.opening.session
  pub unnamed : IsUnnamed j.unheard session

-- it is noted that this session was told, once
pub record Names (session : ℤ) (old new : Session) : Type 0 where
  pub named : IsUntold session old → new.unheard ≡ old.unheard ++ session ∷ []
  pub known : ¬ IsUntold session old → new.unheard ≡ old.unheard
  pub kept : new ≡ record old { unheard = new.unheard }

-- who sent a frame is asked, with the frame's place, for a SETUP that opens the image with this number
abbrev pub asked_for : SubscribePlan → SocketAddr → Header → ℕ → Listening → Listening
asked_for plan from h number l = asking l from (asking_at (header_of h) (id_of plan number))

-- what comes of a frame whose session would get this place: who sent it is asked for a SETUP that opens the next image there, or the first
-- one of a further place; where there is no place that is noted; and of a session that is followed nothing comes
abbrev pub AsksAt : SubscribePlan → SocketAddr → Header → Chosen → List Session → Listening → List Session → Listening → Type 0
AsksAt plan from h (Own place) xs k ys l = (ys ≡ xs) × (l ≡ k)
AsksAt plan from h (Given place) xs k ys l = (ys ≡ xs) × ((number : ℕ) × HasNext xs place number × (l ≡ asked_for plan from h number k))
AsksAt plan from h Further xs k ys l = (ys ≡ xs) × (l ≡ asked_for plan from h (first_image (length xs)).number k)
AsksAt plan from h Nowhere xs k ys l = ChangesAt 0 (Names h.session) xs ys × (l ≡ k)

-- by the place that a SETUP of its session would get
pub record IsAsked (plan : SubscribePlan) (from : SocketAddr) (h : Header) (xs : List Session) (k : Listening) (ys : List Session) (l : Listening) : Type 0 where
  pub chosen : Chosen
  pub is : IsChosen plan h.session xs chosen
  pub asks : AsksAt plan from h chosen xs k ys l

-- that comes of a frame of the plan's stream and of a session that it takes, and of others nothing
abbrev pub AsksOne : SubscribePlan → SocketAddr → Header → List Session → Listening → List Session → Listening → Type 0
AsksOne plan from h xs k ys l = (IsTaken plan (header_of h) × IsAsked plan from h xs k ys l) ⊎ ((¬ IsTaken plan (header_of h)) × (ys ≡ xs) × (l ≡ k))

-- of the frame that was kept, if one was
abbrev pub AsksCaller : SubscribePlan → Option Caller → List Session → Listening → List Session → Listening → Type 0
AsksCaller plan None xs k ys l = (ys ≡ xs) × (l ≡ k)
AsksCaller plan (Some (from, h)) xs k ys l = AsksOne plan from h xs k ys l
