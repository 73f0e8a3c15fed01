-- What is repeated of a subscriber's status messages, while whoever sends them is held up.
use Rattle.std.specs.Prelude.{◌≡◌, ◌≤◌, ◌-◌, ℕ, zero, suc, List, [], ◌∷◌, Option, None, Some}
use Rattle.peer.specs.StatusSockets.{StatusSending, giving}
use Rattle.subscriber.specs.Statuses.{Sent}
use Rattle.subscriber.specs.declared.images.session_device.StatusNews.{StatusNews}
use Rattle.subscriber.specs.declared.images.session_device.StatusNews.TheVariants as news
use Rattle.subscriber.specs.declared.repeating.repeater.Held.{Held}

-- what is to be repeated, if anything is
pub record Repeating : Type 0 where
  pub held : Option Held

abbrev pub holding_none : Repeating
holding_none = record { held = None }

-- the last one that was sent, from this moment on
abbrev pub holding : Sent → ℕ → Repeating
holding s now = record { held = Some (record { status = s; since = now }) }

-- 300 ms have gone since it was noted, or was repeated last
abbrev pub IsDue : ℕ → Held → Type 0
IsDue now h = 300000000 ≤ now - h.since

-- that very message is sent, and the moment noted, exactly where it is due
pub record RepeatsHeld (now : ℕ) (h : Held) (sent : Option Sent) (new : Repeating) : Type 0 where
  pub due : IsDue now h → (sent ≡ Some h.status) × (new ≡ holding h.status now)
  pub early : ¬ IsDue now h → (sent ≡ None) × (new ≡ record { held = Some h })

-- where nothing is new
abbrev pub Repeats : ℕ → Option Held → Option Sent → Repeating → Type 0
Repeats now None sent new = (sent ≡ None) × (new ≡ holding_none)
Repeats now (Some h) sent new = RepeatsHeld now h sent new

-- where something is new at a moment: a newer message is noted then, and behind a cleared one there is none
abbrev pub held_by : ℕ → StatusNews → Option Held
held_by now (news.Sent s) = Some (record { status = s; since = now })
held_by now news.Cleared = None

-- a step at a moment: where something is new nothing is sent
abbrev pub Steps : ℕ → Option StatusNews → Repeating → Option Sent → Repeating → Type 0
Steps now (Some n) old sent new = (sent ≡ None) × (new ≡ record { held = held_by now n })
Steps now None old sent new = Repeats now old.held sent new

-- a socket was given this one, for its peer, if there is one
abbrev pub given_again : StatusSending → Option Sent → StatusSending
given_again s None = s
given_again s (Some sent) = giving s sent.to sent.bytes

-- a step of one place, and the others stay; none, where there is no such place
abbrev pub StepsAt : ℕ → ℕ → Option StatusNews → List Repeating → Option Sent → List Repeating → Type 0
StepsAt place now news [] sent new = (sent ≡ None) × (new ≡ [])
StepsAt zero now news (r ∷ others) sent new = (t : Repeating) × Steps now news r sent t × (new ≡ t ∷ others)
StepsAt (suc place) now news (r ∷ others) sent new = (rest : List Repeating) × (new ≡ r ∷ rest) × StepsAt place now news others sent rest

-- what is to be repeated of each place, and by which socket
pub record RepeatingBy : Type 0 where
  pub repeating : List Repeating
  pub socket : StatusSending

-- what was new at a moment, and what was sent then
pub record Turn : Type 0 where
  pub moment : ℕ
  pub news : Option StatusNews
  pub sent : Option Sent

-- turns one after the other, the first one first
abbrev pub Runs : Repeating → List Turn → Repeating → Type 0
Runs r [] t = t ≡ r
Runs r (a ∷ turns) t = (m : Repeating) × Steps a.moment a.news r a.sent m × Runs m turns t

-- the last message that was told, none where it was cleared since
abbrev pub told_by : Option Sent → Option StatusNews → Option Sent
told_by before None = before
told_by before (Some (news.Sent s)) = Some s
told_by before (Some news.Cleared) = None

abbrev pub last_told : Option Sent → List Turn → Option Sent
last_told before [] = before
last_told before (a ∷ turns) = last_told (told_by before a.news) turns

-- what is sent behind any turns is the last message that was told, at a turn at which nothing is new
pub record IsLastTold (turns : List Turn) (last : Turn) (s : Sent) : Type 0 where
  pub told : last_told None turns ≡ Some s
  pub nothing_new : last.news ≡ None

abbrev pub RepeatsTheLast : Type 0
RepeatsTheLast = (turns : List Turn) (last : Turn) (r t : Repeating) (s : Sent) → Runs holding_none turns r → Steps last.moment last.news r last.sent t → last.sent ≡ Some s → IsLastTold turns last s
