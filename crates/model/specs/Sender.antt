-- A sender, and what may happen to it.
-- A sender's position follows the frames that it sends first. What it sends again are those of the NAK that was taken
-- first and isn't answered. It may send a SETUP at any time: when one is due is no part of the model, nor when a
-- datagram arrives, if it does. A send is what a cycle sends of new frames, which may be none: its moment counts for how
-- far it may send to a group.
use Rattle.std.specs.Prelude.{◌≡◌, ℕ, List, ◌∷◌, ◌++◌, max, Option, None, Some, ℤ}
use Rattle.std.specs.List.{AllByRecursion}
use Rattle.theory.specs.Position.{Geometry}
use Rattle.theory.specs.Placed.{AllAmong, Chain, Placed}
use Rattle.theory.specs.FlowLimit.{Said, flow_limit}
use Rattle.theory.specs.GroupLimit.{GroupEvent, StatusCame, Ticked, group_limit, said_of}
use Rattle.theory.specs.Resend.{Action, added, answered, first_due, kept, nak_answer, nat_of, resent}
use Rattle.theory.specs.Datagrams.{MayBeSent}

pub record Sender : Type 0 where
  pub at : ℕ
  pub clock : ℕ
  pub passed : List Placed
  pub sent : List Placed
  pub setups : List ℕ
  -- how many receivers its group has, or none where it sends to one
  pub group : Option ℕ
  -- its cycles, and the status messages that it heard and that don't ask, newest first, each at the moment that it saw
  pub heard : List GroupEvent
  pub actions : List Action

-- how far status messages and moments let a sender go, newest first: to one receiver, or to a group
abbrev pub limit_by : Option ℕ → ℕ → List GroupEvent → ℕ
limit_by None start heard = flow_limit start (said_of heard)
limit_by (Some group) start heard = group_limit group start heard

abbrev pub sender_limit : ℕ → Sender → ℕ
sender_limit start s = limit_by s.group start s.heard

pub data SenderEvent : Type 0 where
  Send : (now : ℕ) (frames : List Placed) (to : ℕ) → SenderEvent
  Resend : (now : ℕ) (action : Action) (frames : List Placed) → SenderEvent
  SendSetup : SenderEvent
  See : (now : ℕ) → SenderEvent
  HearStatus : (now : ℕ) (receiver : ℤ) (said : Said) → SenderEvent
  HearNak : (now : ℕ) (position : ℤ) (length : ℤ) → SenderEvent

-- a cycle begins
abbrev pub in_cycle : Sender → ℕ → Sender
in_cycle s now = record s { clock = now; heard = Ticked now ∷ s.heard }

-- a status message of a receiver that doesn't ask
abbrev pub after_status : Sender → ℕ → ℤ → Said → Sender
after_status s now receiver said = record s { clock = now; heard = StatusCame receiver said.position said.window now ∷ s.heard }

abbrev pub after_nak : Geometry → ℕ → Sender → ℕ → ℤ → ℤ → Sender
after_nak g start s now p n =
    record s { clock = now; actions = added (nak_answer g start s.at s.passed (kept now s.actions) p n) (nat_of p) (nat_of n) (kept now s.actions) }

-- of a log with this geometry and start, of which these frames were read
abbrev pub SenderStep : Geometry → ℕ → List Placed → Sender → SenderEvent → Sender → Type 0
SenderStep g start read old (Send now frames to) new =
    Chain old.at to frames × AllAmong read frames × AllByRecursion (MayBeSent (sender_limit start (in_cycle old (max old.clock now)))) frames
    × (new ≡ record (in_cycle old (max old.clock now)) { at = to; passed = old.passed ++ frames; sent = frames ++ old.sent })
SenderStep g start read old (Resend now a frames) new =
    (first_due old.actions ≡ Some a) × (frames ≡ resent g old.at old.passed a)
    × (new ≡ record old { sent = frames ++ old.sent; clock = max old.clock now; actions = answered (max old.clock now) a old.actions })
SenderStep g start read old SendSetup new = new ≡ record old { setups = old.at ∷ old.setups }
SenderStep g start read old (HearStatus now receiver said) new = new ≡ after_status old (max old.clock now) receiver said
SenderStep g start read old (See now) new = new ≡ record old { clock = max old.clock now }
SenderStep g start read old (HearNak now p n) new = new ≡ after_nak g start old (max old.clock now) p n
