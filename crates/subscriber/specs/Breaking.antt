-- What a subscriber that a fault ended lived through with its images, and what it wrote of it: at least all of which a status message may
-- have told. Status messages go out at ticks alone.
use Rattle.std.specs.Prelude.{◌≡◌, ◌⊎◌, ◌↔◌, ◌≤◌, ◌+◌, ⊤, ℕ, Bool, true, false, if◌then◌else◌, List, [], ◌∷◌, ◌++◌, length, Option}
use Rattle.std.specs.Io.KnownBytes.{Appends}
use Rattle.assembler.specs.declared.fault.AssemblyError.{AssemblyError}
use Rattle.messages.specs.Forms.{AppendsPart, spelled, spelling}
use Rattle.messages.specs.declared.form.Form.{Form}
use Rattle.options.specs.declared.ends.plans.SubscribePlan.{SubscribePlan}
use Rattle.receiver.specs.Lives.{Act, Gives, GivesNone, Hears, Lives, Ticks, given_in}
use Rattle.receiver.specs.Subscribing.{Subscribing}
use Rattle.subscriber.specs.Deliveries.{PollsRefused}
use Rattle.subscriber.specs.Living.{AreLives, AreShared, Life, given_through}
use Rattle.subscriber.specs.Places.{AreBelow, Given, messages_of, most_places, of_place}

-- whether a tick is among these
abbrev pub is_ticked : List Act → Bool
is_ticked [] = false
is_ticked (Hears now bytes ∷ acts) = is_ticked acts
is_ticked (Ticks now ∷ acts) = true
is_ticked (Gives message ∷ acts) = is_ticked acts
is_ticked (GivesNone ∷ acts) = is_ticked acts

-- the messages that were given before the last tick: those of which a status message may have told
abbrev pub told_in : List Act → List (List ℕ)
told_in [] = []
told_in (Hears now bytes ∷ acts) = told_in acts
told_in (Ticks now ∷ acts) = told_in acts
told_in (Gives message ∷ acts) = if is_ticked acts then message ∷ told_in acts else []
told_in (GivesNone ∷ acts) = told_in acts

-- all that older images gave, and what the newest gave before its last tick
abbrev pub told_through : List Life → List (List ℕ)
told_through [] = []
told_through (l ∷ older) = given_through older ++ told_in l.acts

-- none is lost, or one, of which a part is written, perhaps none of it
abbrev pub LosesOne : Form → List (List ℕ) → Option (List ℕ) → Option (List ℕ) → Type 0
LosesOne form [] before after = after ≡ before
LosesOne form (message ∷ []) before after = AppendsPart before after (spelled form message)
LosesOne form (message ∷ another ∷ messages) before after = ⊥

-- all that was given is written, whole and in order, or all but the last; what was told is among the written, and nothing else is there
pub record WritesTold (form : Form) (given told : List (List ℕ)) (before after : Option (List ℕ)) : Type 0 where
  pub written : List (List ℕ)
  pub untold : List (List ℕ)
  pub lost : List (List ℕ)
  pub between : Option (List ℕ)
  pub given_are : given ≡ written ++ lost
  pub told_are : written ≡ told ++ untold
  pub whole : Appends before between (spelling form written)
  pub part : LosesOne form lost between after

-- it stands here, or behind a poll from here that was refused
abbrev pub StopsAt : Subscribing → Subscribing → Type 0
StopsAt s t = (t ≡ s) ⊎ ((error : AssemblyError) × PollsRefused s error t)

-- it lived on up to the fault
pub record BreaksActs (form : Form) (s : Subscribing) (before : Option (List ℕ)) (t : Subscribing) (after : Option (List ℕ)) : Type 0 where
  pub acts : List Act
  pub last : Subscribing
  pub lived : Lives s acts last
  pub stops : StopsAt last t
  pub writes : WritesTold form (given_in acts) (told_in acts) before after

-- of so many places, from this one on: what each gave of all that was given is what the polls of its images gave, and of what is written
-- of it nothing is left out that was told
abbrev pub ToldEach : SubscribePlan → ℕ → ℕ → List Given → List Given → List (List Life) → Type 0
ToldEach plan places place given written [] = ⊤
ToldEach plan places place given written (lives ∷ more) =
    AreLives plan place lives × AreShared places lives × (of_place place given ≡ given_through lives)
    × ((untold : List (List ℕ)) × (of_place place written ≡ told_through lives ++ untold)) × ToldEach plan places (place + 1) given written more

-- all that was given is written, whole and in order, or all but the last; what each place's status messages may have told is among it, and
-- nothing else is there
pub record BreaksPlaces (plan : SubscribePlan) (before after : Option (List ℕ)) : Type 0 where
  pub lives : List (List Life)
  pub given : List Given
  pub written : List Given
  pub lost : List Given
  pub between : Option (List ℕ)
  pub few : length lives ≤ most_places plan
  pub each : ToldEach plan (length lives) 0 given written lives
  pub known : AreBelow (length lives) given
  pub given_are : given ≡ written ++ lost
  pub whole : Appends before between (spelling plan.end.form (messages_of written))
  pub part : LosesOne plan.end.form (messages_of lost) between after

-- of one place
pub record BreaksLives (plan : SubscribePlan) (place : ℕ) (before after : Option (List ℕ)) : Type 0 where
  pub images : List Life
  pub lives : AreLives plan place images
  pub writes : WritesTold plan.end.form (given_through images) (told_through images) before after

-- with one place that is what one session broke off with, whose images had the whole window
pub record BreaksOnePlace (plan : SubscribePlan) (before after : Option (List ℕ)) : Type 0 where
  pub one : BreaksLives plan 0 before after
  pub alone : AreShared 1 one.images

abbrev pub OnePlaceBreaks : Type 0
OnePlaceBreaks =
    (plan : SubscribePlan) (before after : Option (List ℕ))
    → ((w : BreaksPlaces plan before after) × (length w.lives ≡ 1)) ↔ BreaksOnePlace plan before after
