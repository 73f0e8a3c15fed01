-- What a subscriber lived through with its images, and what it wrote of it.
use Rattle.std.specs.Prelude.{◌≡◌, ◌⊎◌, ◌+◌, ◌<◌, ◌≤◌, ◌↔◌, ⊤, ℕ, IsTrue, List, [], ◌∷◌, ◌++◌, length, Option, None, Some}
use Rattle.std.specs.Io.KnownBytes.{Appends}
use Rattle.theory.specs.Wire.{Setup}
use Rattle.messages.specs.Forms.{spelling}
use Rattle.messages.specs.declared.form.Form.{Form}
use Rattle.options.specs.declared.ends.plans.SubscribePlan.{SubscribePlan}
use Rattle.receiver.specs.Subscribing.{Subscribing}
use Rattle.receiver.specs.Lives.{Act, Lives, given_in, heard_in}
use Rattle.peer.specs.declared.farewell.StreamEnd.{StreamEnd}
use Rattle.subscriber.specs.Followers.{HasNoted, IsGreatestEnd, IsHeard, NotesEnds}
use Rattle.subscriber.specs.Meetings.{HasMet, Opens}
use Rattle.subscriber.specs.declared.images.follower.Follower.{Follower}
use Rattle.subscriber.specs.declared.listening.setup_offer.ImageParams.{ImageParams}
use Rattle.subscriber.specs.Images.{missing_with, next}
use Rattle.subscriber.specs.Places.{AreBelow, Given, first_number, messages_of, most_places, of_place}
use Rattle.subscriber.specs.declared.images.session.Session.{Session}
use Rattle.subscriber.specs.declared.images.Images.{Images}
use Rattle.subscriber.specs.declared.images.Loss.{Loss}
use Rattle.subscriber.specs.Standing.{Stands, StandsHere, is_whole}
use Rattle.subscriber.specs.declared.images.session.Stand.{Stand}

-- some messages, whole and one after the other, and it has counted them
pub record Writes (form : Form) (count : ℕ) (before : Option (List ℕ)) (more : ℕ) (after : Option (List ℕ)) : Type 0 where
  pub messages : List (List ℕ)
  pub counted : more ≡ count + length messages
  pub written : Appends before after (spelling form messages)

-- it lived on, and wrote what its polls gave, and counted that
pub record WritesActs (form : Form) (count : ℕ) (s : Subscribing) (before : Option (List ℕ)) (more : ℕ) (t : Subscribing) (after : Option (List ℕ)) : Type 0 where
  pub acts : List Act
  pub lived : Lives s acts t
  pub counted : more ≡ count + length (given_in acts)
  pub written : Appends before after (spelling form (given_in acts))

-- and noted the ends that were told
pub record LivesOn (form : Form) (count : ℕ) (f : Follower) (before : Option (List ℕ)) (more : ℕ) (g : Follower) (after : Option (List ℕ)) : Type 0 where
  pub acts : WritesActs form count f.subscriber before more g.subscriber after
  pub notes : HasNoted f (heard_in acts.acts) g

-- an image: the SETUP that opened it at a moment, its number, what its subscriber lived through since, and what is missing behind it,
-- where it was lost. Its window is what one alone gets, divided by how many images were open then
pub record Life : Type 0 where
  pub setup : Setup
  pub opening : ImageParams
  pub number : ℕ
  pub share : ℕ
  pub moment : ℕ
  pub acts : List Act
  pub loss : Option Loss

-- what is missing begins where its consumer stood, and isn't nothing
abbrev pub IsLossFrom : Subscribing → Option Loss → Type 0
IsLossFrom t None = ⊤
IsLossFrom t (Some loss) = StandsHere t loss.from × (loss.from < loss.to)

pub record IsLife (plan : SubscribePlan) (l : Life) (t : Subscribing) : Type 0 where
  pub opens : Opens plan l.setup l.opening
  pub first : Subscribing
  pub met : HasMet plan l.number l.share l.setup l.moment first
  pub lived : Lives first l.acts t
  pub lacks : IsLossFrom t l.loss

-- and ends where the next image was joined
abbrev pub IsLossTo : Option Loss → ℕ → Type 0
IsLossTo None at = ⊤
IsLossTo (Some loss) at = at ≡ loss.to

-- the first image of a place has the place's first number, and each the one behind that of the image before it
abbrev pub IsNumbered : ℕ → Life → List Life → Type 0
IsNumbered place l [] = l.number ≡ first_number place
IsNumbered place l (m ∷ older) = (l.number ≡ next m.number) × IsLossTo m.loss l.opening.position

-- images at a place one after the other, the newest first
abbrev pub AreLives : SubscribePlan → ℕ → List Life → Type 0
AreLives plan place [] = ⊤
AreLives plan place (l ∷ older) = (t : Subscribing) × IsLife plan l t × IsNumbered place l older × AreLives plan place older

-- each has a share of the window, of at most so many
abbrev pub AreShared : ℕ → List Life → Type 0
AreShared places [] = ⊤
AreShared places (l ∷ older) = (1 ≤ l.share) × (l.share ≤ places) × AreShared places older

-- the messages that the polls of all of them gave, in the order in which they were given
abbrev pub given_through : List Life → List (List ℕ)
given_through [] = []
given_through (l ∷ older) = given_through older ++ given_in l.acts

-- how many bytes of the stream are missing behind them
abbrev pub missing_through : List Life → ℕ
missing_through [] = 0
missing_through (l ∷ older) = missing_with (missing_through older) l.loss

-- all of an image's stream is written up to its end, and that wasn't announced as broken off
pub record HasWritten (plan : SubscribePlan) (l : Life) (t : Subscribing) : Type 0 where
  pub end : Option StreamEnd
  pub told : IsGreatestEnd l.opening.session plan.end.stream (heard_in l.acts) end
  pub stand : Stand
  pub stands : Stands t end stand
  pub whole : IsTrue (is_whole stand)

-- nothing of an image's stream is lost that was closed so: its stream was never heard, or all of it is written up to its end
pub record IsUnlost (plan : SubscribePlan) (l : Life) : Type 0 where
  pub none : l.loss ≡ None
  pub last : Subscribing
  pub is : IsLife plan l last
  pub ended : (IsHeard l.opening plan.end.stream (heard_in l.acts) → ⊥) ⊎ HasWritten plan l last

-- of none of them
abbrev pub AreUnlost : SubscribePlan → List Life → Type 0
AreUnlost plan [] = ⊤
AreUnlost plan (l ∷ older) = IsUnlost plan l × AreUnlost plan older

-- ---- one place

-- of so many places, one has an image now, and this is all that the polls of its images gave
pub record LivesAt (plan : SubscribePlan) (places place : ℕ) (images : Images) (t : Subscribing) (given : List (List ℕ)) : Type 0 where
  pub newest : Life
  pub older : List Life
  pub is : IsLife plan newest t
  pub number_is : newest.number ≡ images.number
  pub missing_is : images.missing ≡ missing_through older
  pub unlost : newest.loss ≡ None
  pub numbered : IsNumbered place newest older
  pub lives : AreLives plan place older
  pub shared : AreShared places (newest ∷ older)
  pub gave : given ≡ given_through (newest ∷ older)
  -- where no stream was cut off, nothing is lost of the older ones
  pub uncut : images.cut ≡ None → AreUnlost plan older

-- and the greatest end that it knows of its session's stream is that of the datagrams that it was handed since the image was opened, and by
-- them it knows whether that stream was heard
pub record FollowsAt (plan : SubscribePlan) (places place : ℕ) (images : Images) (f : Follower) (given : List (List ℕ)) : Type 0 where
  pub life : LivesAt plan places place images f.subscriber given
  pub opening : f.opening ≡ life.newest.opening
  pub stream : f.stream ≡ plan.end.stream
  pub notes : NotesEnds f.opening.session f.stream (heard_in life.newest.acts) None f.end
  pub hears : IsTrue f.heard ↔ IsHeard f.opening f.stream (heard_in life.newest.acts)

-- of one place: what it wrote in all is what the polls of its images gave
pub record WritesLives (plan : SubscribePlan) (place : ℕ) (before : Option (List ℕ)) (count : ℕ) (after : Option (List ℕ)) : Type 0 where
  pub images : List Life
  pub lives : AreLives plan place images
  pub counted : count ≡ length (given_through images)
  pub written : Appends before after (spelling plan.end.form (given_through images))

-- ---- all places

-- of so many places, from this one on: what each gave of all that was given is what the polls of its images gave
abbrev pub FollowsEach : SubscribePlan → ℕ → ℕ → List Given → List Session → Type 0
FollowsEach plan places place given [] = ⊤
FollowsEach plan places place given (j ∷ more) =
    FollowsAt plan places place j.images j.follower (of_place place given) × FollowsEach plan places (place + 1) given more

-- all that the images at its places gave is written, in the order in which it was given
pub record FollowsAll (plan : SubscribePlan) (before : Option (List ℕ)) (count : ℕ) (sessions : List Session) (after : Option (List ℕ)) : Type 0 where
  pub given : List Given
  pub each : FollowsEach plan (length sessions) 0 given sessions
  pub known : AreBelow (length sessions) given
  pub counted : count ≡ length given
  pub written : Appends before after (spelling plan.end.form (messages_of given))

-- of so many places, from this one on: each place's messages, of all that were given, are those that the polls of its images gave
abbrev pub LivesEach : SubscribePlan → ℕ → ℕ → List Given → List (List Life) → Type 0
LivesEach plan places place given [] = ⊤
LivesEach plan places place given (lives ∷ more) =
    AreLives plan place lives × AreShared places lives × (of_place place given ≡ given_through lives) × LivesEach plan places (place + 1) given more

-- what it wrote in all is what the images at its places gave: each place's messages whole, once and in order, between those of the others
pub record WritesPlaces (plan : SubscribePlan) (before : Option (List ℕ)) (count : ℕ) (after : Option (List ℕ)) : Type 0 where
  pub lives : List (List Life)
  pub given : List Given
  pub few : length lives ≤ most_places plan
  pub each : LivesEach plan (length lives) 0 given lives
  pub known : AreBelow (length lives) given
  pub counted : count ≡ length given
  pub written : Appends before after (spelling plan.end.form (messages_of given))

-- ---- laws

-- with one place that is what one session wrote, whose images had the whole window
pub record IsOfOnePlace (plan : SubscribePlan) (before : Option (List ℕ)) (count : ℕ) (after : Option (List ℕ)) : Type 0 where
  pub one : WritesLives plan 0 before count after
  pub alone : AreShared 1 one.images

abbrev pub OnePlaceWrites : Type 0
OnePlaceWrites =
    (plan : SubscribePlan) (before : Option (List ℕ)) (count : ℕ) (after : Option (List ℕ))
    → ((w : WritesPlaces plan before count after) × (length w.lives ≡ 1)) ↔ IsOfOnePlace plan before count after

-- each place's share is what a subscriber with that place alone would have written
abbrev pub EachPlaceWrites : Type 0
EachPlaceWrites =
    (plan : SubscribePlan) (before : Option (List ℕ)) (count : ℕ) (after : Option (List ℕ)) (w : WritesPlaces plan before count after) (place : ℕ)
    → place < length w.lives
    → WritesLives plan place (Some []) (length (of_place place w.given)) (Some (spelling plan.end.form (of_place place w.given)))
