-- What a publisher's device becomes by its calls, one after the other.
use Rattle.std.specs.Prelude.{◌≡◌, ◌⊎◌, ◌++◌, ℕ, List, [], ◌∷◌, Option, Result}
use Rattle.std.proofs.Common.{subst}
use Rattle.endpoint.specs.Calls.{Sends}
use Rattle.endpoint.specs.Devices.{Device}
use Rattle.endpoint.specs.declared.datagrams.DeviceFailed.{DeviceFailed}
use Rattle.peer.specs.Watching.{Gives, Takes, Watching, due_of}

module _ {D : Type 0} (device : D → Device) (tells : D → Type 0) where
  -- a datagram was given to it
  pub record WasGiven (old new : Watching D) : Type 0 where
    pub datagram : List ℕ
    pub result : Result (Unit {0}) DeviceFailed
    pub gives : Gives old.watch datagram new.watch
    pub sends : Sends (tells old.inner) (device old.inner) datagram result (device new.inner)

  -- what had come was taken from it
  pub record WasAsked (old new : Watching D) : Type 0 where
    pub before : List ℕ
    pub after : List ℕ
    pub result : Result (Option ℕ) DeviceFailed
    pub takes : Takes device tells (due_of old.watch) old before result after new

  -- by as many calls as there are states behind them
  abbrev pub GoesThrough : List (Watching D) → Watching D → Watching D → Type 0
  GoesThrough [] old new = new ≡ old
  GoesThrough (middle ∷ others) old new = (WasGiven old middle ⊎ WasAsked old middle) × GoesThrough others middle new

  -- by some calls
  pub record Attends (old new : Watching D) : Type 0 where
    pub states : List (Watching D)
    pub goes : GoesThrough states old new

  goes_on : (states others : List (Watching D)) (old middle new : Watching D) → GoesThrough states old middle → GoesThrough others middle new → GoesThrough (states ++ others) old new
  goes_on [] others old middle new first then = subst (λ w. GoesThrough others w new) first then
  goes_on (s ∷ ss) others old middle new first then = (first.0, goes_on ss others s middle new first.1 then)

  pub attends_still : (w : Watching D) → Attends w w
  attends_still w = record { states = []; goes = λ i. w }

  pub attends_on : (old middle new : Watching D) → Attends old middle → Attends middle new → Attends old new
  attends_on old middle new a b = record { states = a.states ++ b.states; goes = goes_on a.states b.states old middle new a.goes b.goes }
