-- SETUPs that a plan doesn't take, and why.
use Rattle.std.specs.Prelude.{◌≡◌, ◌≢◌, ◌⊎◌, ◌<◌, ℕ, Option, None, Some}
use Rattle.std.specs.declared.net.SocketAddr.{SocketAddr}
use Rattle.theory.specs.Position.{Geometry}
use Rattle.theory.specs.Setup.{OpensAt}
use Rattle.theory.specs.Wire.{Setup}
use Rattle.options.specs.declared.ends.plans.SubscribePlan.{SubscribePlan}
use Rattle.subscriber.specs.Meetings.{Admits, IsOngoing, TakesSession, bytes_of, window_in}
use Rattle.subscriber.specs.declared.listening.untaken.UntakenSetup.{UntakenSetup}
use Rattle.subscriber.specs.declared.listening.untaken.Unwanted.{Unwanted}
use Rattle.subscriber.specs.declared.listening.untaken.Unwanted.TheVariants as whys

-- a SETUP opens an image for a plan that takes it: its stream goes on, and has a shape and a position
pub record OpensSome (f : Setup) : Type 0 where
  pub ongoing : IsOngoing f
  pub shape : (g : Geometry) × (p : ℕ) × OpensAt f (window_in 1 f) g p

-- the first of its stream, its session and the length of its terms that is another than the plan takes; there is none where the plan takes it,
-- nor where it opens no image for any plan
abbrev pub IsUnwanted : SubscribePlan → Setup → Option Unwanted → Type 0
IsUnwanted plan f None = Admits plan f ⊎ ¬ OpensSome f
IsUnwanted plan f (Some (whys.Stream wanted)) = OpensSome f × (f.stream ≢ wanted) × (wanted ≡ plan.end.stream)
IsUnwanted plan f (Some (whys.Session wanted)) = OpensSome f × (f.stream ≡ plan.end.stream) × (f.session ≢ wanted) × (plan.session ≡ Some wanted)
IsUnwanted plan f (Some (whys.Terms length greatest)) =
    OpensSome f × (f.stream ≡ plan.end.stream) × TakesSession plan.session f.session
    × (length ≡ bytes_of f.term_length) × (greatest ≡ plan.greatest_term) × (greatest < length)

-- the plan doesn't take this SETUP, which this one sent
pub record IsUntaken (plan : SubscribePlan) (from : SocketAddr) (f : Setup) (u : UntakenSetup) : Type 0 where
  pub session : u.session ≡ f.session
  pub stream : u.stream ≡ f.stream
  pub sender : u.from ≡ from
  pub why : IsUnwanted plan f (Some u.why)
