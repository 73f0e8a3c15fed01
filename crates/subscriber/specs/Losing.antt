-- What a subscriber makes of an image that lacks what doesn't come.
use Rattle.std.specs.Prelude.{◌≡◌, ℕ, IsTrue, List, [], ◌∷◌, Option, None, Some, ◌≢◌, ◌⊎◌, ◌↔◌, true, false}
use Rattle.theory.specs.Control.{asking_at}
use Rattle.frames.specs.Frames.{header_of}
use Rattle.frames.specs.declared.frame.Header.{Header}
use Rattle.options.specs.declared.ends.plans.SubscribePlan.{SubscribePlan}
use Rattle.receiver.specs.Lives.{Act, Lives}
use Rattle.subscriber.specs.Images.{next}
use Rattle.subscriber.specs.Meetings.{id_of}
use Rattle.peer.specs.Ties.{Listening, asking}
use Rattle.subscriber.specs.Offers.{SubscriberDevice, peer_of}
use Rattle.subscriber.specs.Standing.{RebuiltTo, lacks}
use Rattle.subscriber.specs.Watches.{IsHearing, IsWithinTurn, Seen, Timing, judging, IsBehind, noting}
use Rattle.subscriber.specs.declared.images.session.Session.{Session}
use Rattle.subscriber.specs.Answering.{IsTicked}
use Rattle.subscriber.specs.Leavings.{ListensOn, NotesHeard, NotesWork}

-- where the image was rebuilt further, or lacks nothing, that is noted
pub record NotesKeptAt (before rebuilt : ℕ) (j : Session) (old new : Seen) : Type 0 where
  pub stands : RebuiltTo j.follower.subscriber rebuilt
  pub moved : rebuilt ≢ before → new ≡ noting true old
  pub whole : ¬ IsTrue (lacks j.opening.geometry j.duty.device.notes.last rebuilt) → new ≡ noting true old
  pub behind : rebuilt ≡ before → IsTrue (lacks j.opening.geometry j.duty.device.notes.last rebuilt) → new ≡ noting false old

abbrev pub NotesKept : ℕ → Session → Seen → Seen → Type 0
NotesKept before j old new = (rebuilt : ℕ) × NotesKeptAt before rebuilt j old new

-- an image whose stream hasn't ended lacks what doesn't come
pub record IsLeft (j : Session) : Type 0 where
  pub going : ¬ IsTrue j.ended
  pub behind : IsBehind j.watch

-- an image that is left so is noted as lost, once and for all
abbrev pub NotesLoss : Session → Session → Type 0
NotesLoss old new = IsTrue new.lost ↔ (IsTrue old.lost ⊎ IsLeft old)

-- a turn's cycle: what its image's subscriber lived through, last the moment, and what was noted of it. First whether its session
-- was heard; then, by how far the image was rebuilt before it and how far it is now, whether the image lacks nothing, or something
-- that it lacked came
pub record NotesCycle (old cycled : Session) : Type 0 where
  pub acts : List Act
  pub lived : Lives old.follower.subscriber acts cycled.follower.subscriber
  pub ticked : IsTicked old.watch.moment cycled.follower.subscriber
  pub same : cycled ≡ record old { follower = cycled.follower; duty = cycled.duty; watch = cycled.watch }
  pub heard : Seen
  pub hears : NotesHeard old.duty.device.notes.frames cycled.duty.device.notes.frames old.watch heard
  pub before : ℕ
  pub rebuilt : RebuiltTo old.follower.subscriber before
  pub keeps : NotesKept before cycled heard cycled.watch

-- whether a call of the socket worked in that is noted; and then, behind the answer to the stream's end, in which the session may be
-- heard again, it is judged once, by what was noted, whether the image is lost
pub record JudgesTurn (s : Timing) (old new : Session) (t : Timing) : Type 0 where
  pub cycled : Session
  pub cycle : NotesCycle old cycled
  pub works : NotesWork old.duty.device.inner.inner.worked cycled.duty.device.inner.inner.worked s t
  pub answered : Session
  pub listens : ListensOn cycled.follower answered.follower
  pub same : answered ≡ record cycled { follower = answered.follower; duty = answered.duty; ended = answered.ended; silent = answered.silent; watch = answered.watch }
  pub hears : NotesHeard cycled.duty.device.notes.frames answered.duty.device.notes.frames cycled.watch answered.watch
  pub within : IsWithinTurn old.watch answered.watch
  pub still : IsTrue answered.watch.noted
  pub judges : NotesLoss answered new
  pub kept_else : new ≡ record answered { lost = new.lost; stood = new.stood; watch = judging answered.watch }

-- so an image is newly taken for lost only where its cycle rebuilt nothing more, and what it lacks was heard of
abbrev pub LacksWhereLost : Type 0
LacksWhereLost = (s t : Timing) (old new : Session) → (h : JudgesTurn s old new t) → IsTrue new.lost → ¬ IsTrue old.lost
    → RebuiltTo h.cycled.follower.subscriber h.cycle.before × IsTrue (lacks h.cycled.opening.geometry h.cycled.duty.device.notes.last h.cycle.before)

-- a session with this device
abbrev pub with_device : Session → SubscriberDevice → Session
with_device j d = record j { duty = record (j.duty) { device = d } }

-- at each frame of its session its peer is asked for a SETUP, with the frame's place, under the id of the next image
pub record IsAskedFor (j : Session) : Type 0 where
  pub left : IsLeft j
  pub hearing : IsHearing j.watch

abbrev pub Asks : SubscribePlan → Option Header → Session → Listening → Listening → Type 0
Asks plan None j old new = new ≡ old
Asks plan (Some h) j old new = new ≡ asking old (peer_of j.duty.device) (asking_at (header_of h) (id_of plan (next j.images.number)))

pub record AsksAnew (plan : SubscribePlan) (j : Session) (old new : Listening) : Type 0 where
  pub asks : IsAskedFor j → Asks plan j.duty.device.notes.last j old new
  pub quiet : ¬ IsAskedFor j → new ≡ old

-- and the peer of each of them so, one after the other
abbrev pub AsksEach : SubscribePlan → List Session → Listening → Listening → Type 0
AsksEach plan [] old new = new ≡ old
AsksEach plan (j ∷ others) old new = (between : Listening) × AsksAnew plan j old between × AsksEach plan others between new
