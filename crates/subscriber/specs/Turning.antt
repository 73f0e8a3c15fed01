-- What a subscriber with an image makes of a SETUP.
-- Where all of its stream is written up to the told end, the next publisher's takes the place: one of another session, or one that
-- another sent than the peer; of its own a SETUP makes nothing. Before that, while its session isn't silent it makes nothing of any.
-- Of a silent session a SETUP of the same shape that isn't behind what was rebuilt is the session's again: the image goes on,
-- tied to who sent it. Any other that would open an image for the plan takes the place. Of a session that is heard, of which what
-- the image lacks doesn't come, its own SETUP from its peer takes the place, if it lies above what is rebuilt: what is between the
-- consumer and that is missing. What takes the place opens a new image, under the next number and so under a receiver id of its own.
use Rattle.std.specs.Prelude.{◌≡◌, ◌≢◌, ◌⊎◌, ◌↔◌, ◌≤◌, ◌<◌, ◌++◌, [], ◌∷◌, ℕ, ℤ, List, false, IsTrue, Option, None, Some}
use Rattle.std.specs.Io.KnownBytes.{Appends}
use Rattle.std.specs.declared.net.SocketAddr.{SocketAddr}
use Rattle.frames.specs.Frames.{setup_of}
use Rattle.frames.specs.declared.frame.Setup.{Setup}
use Rattle.options.specs.declared.ends.plans.SubscribePlan.{SubscribePlan}
use Rattle.subscriber.specs.Followers.{IsFresh}
use Rattle.subscriber.specs.Hearings.{turned_to}
use Rattle.subscriber.specs.Meetings.{HasMet, OpensNothing}
use Rattle.subscriber.specs.Calls.{IsMeeting}
use Rattle.subscriber.specs.Offers.{peer_of, setup_taken, tied_anew}
use Rattle.subscriber.specs.Losing.{with_device, IsLeft}
use Rattle.subscriber.specs.Cuts.{cut_behind}
use Rattle.subscriber.specs.Images.{IsUnnamed, loss_between, next, next_images}
use Rattle.subscriber.specs.declared.images.session.Stand.{Stand}
use Rattle.subscriber.specs.Watches.{IsBehind, IsSilent, attending, hearing, keeping}
use Rattle.subscriber.specs.Standing.{RebuiltTo, Stands, StandsHere}
use Rattle.subscriber.specs.Texts.{missing_line}
use Rattle.subscriber.specs.declared.images.Loss.{Loss}
use Rattle.subscriber.specs.declared.images.session.Session.{Session}
use Rattle.subscriber.specs.declared.listening.setup_offer.ImageParams.{ImageParams}
use Rattle.subscriber.specs.declared.listening.setup_offer.SetupOffer.{SetupOffer}

-- it is the session's own SETUP: the same session and shape, and not behind what was rebuilt
pub record GoesOn (was : ImageParams) (rebuilt : ℕ) (o : ImageParams) : Type 0 where
  pub session : o.session ≡ was.session
  pub shape : o.geometry ≡ was.geometry
  pub further : rebuilt ≤ o.position

-- a SETUP of the image's session, which another sent than its peer
pub record IsAnother (m : SetupOffer) (j : Session) : Type 0 where
  pub session : m.opening.session ≡ j.opening.session
  pub sender : m.from ≢ peer_of j.duty.device

-- a SETUP of another session, which is told as not heard
pub record IsUnheard (m : SetupOffer) (j : Session) : Type 0 where
  pub session : m.opening.session ≢ j.opening.session
  pub unnamed : IsUnnamed j.unheard m.opening.session

-- the image is kept, and its peer; another sender of its session is noted, and another session, each once
pub record Warns (m : SetupOffer) (old new : Session) : Type 0 where
  pub warned : IsTrue new.warned ↔ (IsTrue old.warned ⊎ IsAnother m old)
  pub named : IsUnheard m old → new.unheard ≡ old.unheard ++ m.opening.session ∷ []
  pub known : ¬ IsUnheard m old → new.unheard ≡ old.unheard
  pub kept : new ≡ record old { warned = new.warned; unheard = new.unheard }

-- the next publisher's: of another session, or another sent it than the peer
abbrev pub IsNext : SetupOffer → Session → Type 0
IsNext m j = (m.opening.session ≢ j.opening.session) ⊎ (m.from ≢ peer_of j.duty.device)

-- the image's own, from its peer, above what is rebuilt
pub record IsAhead (m : SetupOffer) (rebuilt : ℕ) (j : Session) : Type 0 where
  pub peer : ¬ IsNext m j
  pub own : GoesOn j.opening rebuilt m.opening
  pub ahead : rebuilt < m.opening.position

-- an image whose stream has ended gives way to the next publisher's, and one that hasn't ended while its session is silent, or
-- where what it lacks doesn't come, to its own
abbrev pub GivesWay : SetupOffer → ℕ → Session → Type 0
GivesWay m rebuilt j = (IsTrue j.ended × IsNext m j) ⊎ ((¬ IsTrue j.ended) × (IsSilent j.watch ⊎ (IsBehind j.watch × IsAhead m rebuilt j)))

-- what is missing behind an image that gives way: where what it lacks didn't come, all between its consumer and the SETUP
abbrev pub IsLoss : SetupOffer → Session → Option Loss → Type 0
IsLoss m j loss =
    (IsLeft j × ((place : ℕ) × StandsHere j.follower.subscriber place × (loss ≡ loss_between place m.opening.position)))
    ⊎ ((¬ IsLeft j) × (loss ≡ None))

-- that is told, if anything is missing
abbrev pub TellsLoss : ℤ → Option Loss → Option (List ℕ) → Option (List ℕ) → Type 0
TellsLoss session None before after = after ≡ before
TellsLoss session (Some loss) before after = Appends before after (missing_line session loss)

-- no frame of a session has come yet, nor an end of its stream
pub record IsUnheardYet (j : Session) : Type 0 where
  pub frames : j.duty.device.notes.last ≡ None
  pub end : j.follower.end ≡ None

-- when the next session of a place came: where the one before it wasn't heard, it counts as come with that one
pub record CameAt (now : ℕ) (old : Session) (came : ℕ) : Type 0 where
  pub unheard : IsUnheardYet old → came ≡ old.came
  pub heard : ¬ IsUnheardYet old → came ≡ now

-- the image is kept, and this is its peer
abbrev pub IsTiedTo : SocketAddr → Session → Session → Type 0
IsTiedTo from old new = new ≡ with_device old (tied_anew old.duty.device from)

-- a SETUP has opened a new image at the moment, whose peer is the one that sent it, and before which this is missing; where the image
-- before it stood when it was closed says whether a stream is cut off
pub record IsRenewed (plan : SubscribePlan) (share : ℕ) (m : SetupOffer) (loss : Option Loss) (old new : Session) : Type 0 where
  pub stand : Stand
  pub stands : Stands old.follower.subscriber old.follower.end stand
  pub images : new.images ≡ next_images old.images loss (cut_behind old stand loss)
  pub met : HasMet plan (next old.images.number) share (setup_of m.setup) old.watch.moment new.follower.subscriber
  pub fresh : IsFresh new.follower m.opening plan.end.stream
  pub opening : new.opening ≡ m.opening
  pub device : new.duty ≡ record (old.duty) { device = turned_to (tied_anew old.duty.device m.from) m.opening.session }
  pub watch : new.watch ≡ keeping (hearing old.watch)
  pub lost : new.lost ≡ false
  pub silent : new.silent ≡ false
  pub warned : new.warned ≡ false
  pub ended : new.ended ≡ false
  pub unheard : new.unheard ≡ []
  pub opened : new.opened ≡ old.watch.moment
  pub came : CameAt old.watch.moment old new.came

-- and what is missing is what was between them
pub record Replaces (plan : SubscribePlan) (share : ℕ) (m : SetupOffer) (old new : Session) : Type 0 where
  pub loss : Option Loss
  pub is : IsLoss m old loss
  pub renewed : IsRenewed plan share m loss old new

-- the image doesn't give way: nothing is made of it, but that another sender or session is noted
pub record Passes (m : SetupOffer) (rebuilt : ℕ) (old new : Session) : Type 0 where
  pub stays : ¬ GivesWay m rebuilt old
  pub warns : Warns m old new

-- it is the own again of a session that was silent, whose stream hasn't ended, where the image is rebuilt up to here
pub record IsAgain (m : SetupOffer) (rebuilt : ℕ) (j : Session) : Type 0 where
  pub going : ¬ IsTrue j.ended
  pub silent : IsSilent j.watch
  pub own : GoesOn j.opening rebuilt m.opening

-- the image would give way, and goes on
pub record Resumes (m : SetupOffer) (rebuilt : ℕ) (old new : Session) : Type 0 where
  pub way : GivesWay m rebuilt old
  pub again : IsAgain m rebuilt old
  pub tied : IsTiedTo m.from old new

-- the image gives way
pub record Renews (plan : SubscribePlan) (share : ℕ) (m : SetupOffer) (rebuilt : ℕ) (old new : Session) : Type 0 where
  pub way : GivesWay m rebuilt old
  pub other : ¬ IsAgain m rebuilt old
  pub replaced : Replaces plan share m old new

-- what is made of a SETUP that would open an image
abbrev pub Turns : SubscribePlan → ℕ → SetupOffer → Session → Session → Type 0
Turns plan share m old new =
    (rebuilt : ℕ) × RebuiltTo old.follower.subscriber rebuilt × (Passes m rebuilt old new ⊎ Resumes m rebuilt old new ⊎ Renews plan share m rebuilt old new)

-- what is made of any SETUP
abbrev pub Considers : SubscribePlan → ℕ → SocketAddr → Setup → Session → Session → Type 0
Considers plan share from f old new =
    (OpensNothing plan (setup_of f) × (new ≡ old)) ⊎ ((m : SetupOffer) × IsMeeting plan from f m × Turns plan share m old new)

-- of its peer's own, the last one that came since, if one did; nothing is made of one that names another session
abbrev pub ConsidersOwn : SubscribePlan → ℕ → Option Setup → Session → Session → Type 0
ConsidersOwn plan share None old new = new ≡ old
ConsidersOwn plan share (Some f) old new =
    ((f.session ≡ old.follower.opening.session) × Considers plan share (peer_of old.duty.device) f old new)
    ⊎ ((¬ (f.session ≡ old.follower.opening.session)) × (new ≡ old))

-- that is taken and considered, and so the turn is attended
abbrev pub AttendsOwn : SubscribePlan → ℕ → Session → Session → Type 0
AttendsOwn plan share old new =
    (considered : Session) × ConsidersOwn plan share old.duty.device.notes.setup (with_device old (setup_taken old.duty.device)) considered
    × (new ≡ record considered { watch = attending considered.watch })
