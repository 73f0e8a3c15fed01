-- What a datagram is to a subscriber without an image, and how one joins.
use Rattle.std.specs.Prelude.{◌≡◌, ℕ, List, [], false, Option, None, Some, option_map}
use Rattle.std.specs.declared.net.SocketAddr.{SocketAddr}
use Rattle.theory.specs.Control.{asking_at}
use Rattle.theory.specs.Wire.{Header, IsHeader}
use Rattle.frames.specs.Frames.{header_of, setup_of}
use Rattle.frames.specs.declared.frame.Setup.{Setup}
use Rattle.loss_injector.specs.Losing.{begun}
use Rattle.options.specs.declared.ends.plans.SubscribePlan.{SubscribePlan}
use Rattle.peer.specs.Patience.{patient}
use Rattle.peer.specs.Setups.{TellsSetup}
use Rattle.peer.specs.Peers.{sending_to}
use Rattle.peer.specs.Ties.{Came, Listening, asking}
use Rattle.subscriber.specs.Followers.{IsFresh}
use Rattle.subscriber.specs.Images.{first_image}
use Rattle.subscriber.specs.Places.{first_number}
use Rattle.subscriber.specs.Hearings.{following}
use Rattle.subscriber.specs.Meetings.{HasMet, Opens, OpensNothing, TakesSession, TellsHeader, id_of}
use Rattle.subscriber.specs.Untaken.{IsUntaken, IsUnwanted}
use Rattle.subscriber.specs.Watches.{Timing, awaking, beginning, called, with_stranger, with_untaken}
use Rattle.subscriber.specs.declared.images.session.Session.{Session}
use Rattle.subscriber.specs.declared.listening.Call.{Call}
use Rattle.subscriber.specs.declared.listening.Call.TheVariants.{Opens as OpensBy, Untaken, Asks, Stranger}
use Rattle.subscriber.specs.declared.listening.setup_offer.SetupOffer.{SetupOffer}

-- the image that a SETUP would open, and who sent it
pub record IsMeeting (plan : SubscribePlan) (from : SocketAddr) (f : Setup) (m : SetupOffer) : Type 0 where
  pub sender : m.from ≡ from
  pub told : m.setup ≡ f
  pub opens : Opens plan (setup_of m.setup) m.opening

-- of the plan's stream, and of a session that it takes
pub record IsTaken (plan : SubscribePlan) (h : Header) : Type 0 where
  pub stream : h.stream ≡ plan.end.stream
  pub session : TakesSession plan.session h.session

-- a SETUP opens an image, or the plan doesn't take it, or it opens none for any plan and is a stranger's
abbrev pub IsSetupCall : SubscribePlan → SocketAddr → Setup → Call → Type 0
IsSetupCall plan from f (OpensBy m) = IsMeeting plan from f m
IsSetupCall plan from f (Untaken u) = OpensNothing plan (setup_of f) × IsUntaken plan from (setup_of f) u
IsSetupCall plan from f (Asks h) = ⊥
IsSetupCall plan from f Stranger = OpensNothing plan (setup_of f) × IsUnwanted plan (setup_of f) None

-- for a frame of a stream that the plan takes a SETUP is asked for; all else is a stranger's
abbrev pub IsFrameCall : SubscribePlan → Option Header → Call → Type 0
IsFrameCall plan None c = c ≡ Stranger
IsFrameCall plan (Some h) (OpensBy m) = ⊥
IsFrameCall plan (Some h) (Untaken u) = ⊥
IsFrameCall plan (Some h) (Asks named) = IsTaken plan h × IsHeader h × (header_of named ≡ h)
IsFrameCall plan (Some h) Stranger = ¬ IsTaken plan h

abbrev pub IsCallWith : SubscribePlan → SocketAddr → List ℕ → Option Setup → Call → Type 0
IsCallWith plan from bytes (Some f) c = IsSetupCall plan from f c
IsCallWith plan from bytes None c = (header : Option Header) × TellsHeader bytes header × IsFrameCall plan header c

-- what these bytes are that this one sent
abbrev pub IsCall : SubscribePlan → SocketAddr → List ℕ → Call → Type 0
IsCall plan from bytes c = (found : Option Setup) × TellsSetup bytes (option_map setup_of found) × IsCallWith plan from bytes found c

-- a SETUP that opens an image is met
abbrev pub met_by : Call → Option SetupOffer
met_by (OpensBy m) = Some m
met_by (Untaken u) = None
met_by (Asks h) = None
met_by Stranger = None

-- a stranger's are counted, and so is a SETUP that the plan doesn't take, the first of which is noted; all others are heard
abbrev pub seen_by : Call → Timing → Timing
seen_by (OpensBy m) s = awaking s
seen_by (Untaken u) s = with_untaken u s
seen_by (Asks h) s = called s
seen_by Stranger s = with_stranger s

-- only the sender of a frame is asked, once and with the frame's place, for a SETUP that opens the first image
abbrev pub answered : SubscribePlan → SocketAddr → Call → Listening → Listening
answered plan from (OpensBy m) l = l
answered plan from (Untaken u) l = l
answered plan from (Asks h) l = asking l from (asking_at (header_of h) (id_of plan 0))
answered plan from Stranger l = l

-- a subscriber without an image: its socket, and what it has seen
pub record Waiting : Type 0 where
  pub socket : Listening
  pub seen : Timing

pub record HeedsCall (plan : SubscribePlan) (came : Came) (old : Waiting) (found : Option SetupOffer) (new : Waiting) : Type 0 where
  pub call : Call
  pub is : IsCall plan came.from came.bytes call
  pub met : found ≡ met_by call
  pub seen : new.seen ≡ seen_by call old.seen
  pub answers : new.socket ≡ answered plan came.from call old.socket

-- what came, if anything did
abbrev pub Heeds : SubscribePlan → Option Came → Waiting → Option SetupOffer → Waiting → Type 0
Heeds plan None old found new = (found ≡ None) × (new ≡ old)
Heeds plan (Some came) old found new = HeedsCall plan came old found new

-- a session with the first image of a place, one of so many, tied to the one whose SETUP opened it
pub record IsJoinedBy (plan : SubscribePlan) (place share moment : ℕ) (m : SetupOffer) (j : Session) : Type 0 where
  pub opening : j.opening ≡ m.opening
  pub images : j.images ≡ first_image place
  pub met : HasMet plan (first_number place) share (setup_of m.setup) moment j.follower.subscriber
  pub fresh : IsFresh j.follower m.opening plan.end.stream
  pub duty : j.duty ≡ record { device = following (begun (patient (sending_to m.from)) plan.end.rates plan.end.seed) m.opening.session plan.end.stream; mtu = 40 }
  pub watch : j.watch ≡ beginning moment
  pub lost : j.lost ≡ false
  pub silent : j.silent ≡ false
  pub warned : j.warned ≡ false
  pub ended : j.ended ≡ false
  pub unheard : j.unheard ≡ []
  pub opened : j.opened ≡ moment
  pub came : j.came ≡ moment

-- the SETUP opens an image for the plan, and came at the moment
pub record IsJoined (plan : SubscribePlan) (place share moment : ℕ) (j : Session) : Type 0 where
  pub meeting : SetupOffer
  pub opens : Opens plan (setup_of meeting.setup) meeting.opening
  pub joined : IsJoinedBy plan place share moment meeting j
