-- What a subscriber has seen of the time, in all and of each session, and what comes of it.
use Rattle.std.specs.Prelude.{◌≡◌, ◌⊎◌, ⊤, Option, None, Some, Result, Ok, Err, ◌+◌, ◌-◌, ◌%◌, ◌^◌, ◌≤◌, ◌<◌, ℕ, nat_lt, Bool, true, false, IsTrue, min, if◌then◌else◌}
use Rattle.endpoint.specs.Devices.{counted}
use Rattle.endpoint.specs.declared.datagrams.DeviceFailed.{DeviceFailed}
use Rattle.options.specs.declared.ends.plans.SubscribePlan.{SubscribePlan}
use Rattle.subscriber.specs.declared.listening.untaken.Notice.{Notice}
use Rattle.subscriber.specs.declared.listening.untaken.Notice.TheVariants.{Nothing, Noted, Told}
use Rattle.subscriber.specs.declared.listening.untaken.UntakenSetup.{UntakenSetup}

-- moments are nanoseconds from its begin: what a subscriber has seen, whatever its sessions
pub record Timing : Type 0 where
  -- the moment that it noted last
  pub moment : ℕ
  -- when what it waits for without an image came last
  pub heard : ℕ
  -- when a call of its socket worked last
  pub worked : ℕ
  -- when it told its counters last
  pub told : ℕ
  -- how many messages were written then
  pub written : ℕ
  -- how many datagrams of strangers there were
  pub strangers : ℕ
  -- how many datagrams before an image called for a SETUP
  pub calls : ℕ
  -- how many calls that read its socket failed
  pub lost : ℕ
  -- what was noted of SETUPs that the plan doesn't take, before an image
  pub notice : Notice

-- it has seen its begin
abbrev pub begun : Timing
begun = record { moment = 0; heard = 0; worked = 0; told = 0; written = 0; strangers = 0; calls = 0; lost = 0; notice = Nothing }

-- a second or more in which it didn't look at the clock is no silence of others, and no failing of its socket: it heard nobody
-- then and called nothing, and couldn't have. So what was earlier counts as later by that time, where it looked at this moment last
abbrev pub later_by : ℕ → ℕ → ℕ → ℕ
later_by moment now earlier = if nat_lt (now - moment) 1000000000 then earlier else min now (earlier + (now - moment))

-- it looks at the clock
abbrev pub seeing : Timing → ℕ → Timing
seeing s now = record s { moment = now; heard = later_by s.moment now s.heard; worked = later_by s.moment now s.worked }

-- what it waits for came at the moment
abbrev pub awaking : Timing → Timing
awaking s = record s { heard = s.moment }

-- what came at the moment calls for a SETUP
abbrev pub called : Timing → Timing
called s = record (awaking s) { calls = counted s.calls }

-- a call of its socket worked at the moment
abbrev pub working : Timing → Timing
working s = record s { worked = s.moment }

-- one failed
abbrev pub losing : Timing → Timing
losing s = record s { lost = counted s.lost }

-- by what it answered
abbrev pub after_call : Result (Unit {0}) DeviceFailed → Timing → Timing
after_call (Ok done) s = working s
after_call (Err failed) s = losing s

-- a datagram was a stranger's
abbrev pub with_stranger : Timing → Timing
with_stranger s = record s { strangers = counted s.strangers }

-- the first SETUP that the plan doesn't take is noted, and when it came
abbrev pub noticed : Notice → UntakenSetup → ℕ → Notice
noticed Nothing u now = Noted u now
noticed (Noted first since) u now = Noted first since
noticed Told u now = Told

-- one is a stranger's
abbrev pub with_untaken : UntakenSetup → Timing → Timing
with_untaken u s = record (with_stranger s) { notice = noticed s.notice u s.moment }

-- without an image it has waited for as long as the plan says
abbrev pub HasWaited : SubscribePlan → Timing → Type 0
HasWaited plan s = plan.quiet ≤ s.moment - s.heard

-- a SETUP that the plan doesn't take, which came at this moment, is to be told: a second behind it, or where it has waited as long as the plan
-- says
abbrev pub IsNoticeDue : SubscribePlan → ℕ → Timing → Type 0
IsNoticeDue plan since s = (1000000000 ≤ s.moment - since) ⊎ HasWaited plan s

-- that is given out, once
abbrev pub GivesNotice : SubscribePlan → Notice → Timing → Option UntakenSetup → Timing → Type 0
GivesNotice plan Nothing s found t = (found ≡ None) × (t ≡ s)
GivesNotice plan (Noted u since) s found t =
    (IsNoticeDue plan since s × (found ≡ Some u) × (t ≡ record s { notice = Told })) ⊎ ((¬ IsNoticeDue plan since s) × (found ≡ None) × (t ≡ s))
GivesNotice plan Told s found t = (found ≡ None) × (t ≡ s)

-- none is left that wasn't told
abbrev pub IsAllTold : Notice → Type 0
IsAllTold Nothing = ⊤
IsAllTold (Noted u since) = ⊥
IsAllTold Told = ⊤

-- no call of its socket has worked for so long that it's given up
abbrev pub IsBroken : Timing → Type 0
IsBroken s = 5000000000 ≤ s.moment - s.worked

-- the counters are shown, and were told a second ago or earlier
pub record IsDue (plan : SubscribePlan) (s : Timing) : Type 0 where
  pub shown : IsTrue plan.end.counters
  pub second : 1000000000 ≤ s.moment - s.told

-- where they are due they are told at the moment, behind so many messages; else nothing is
pub record TellsWhereDue (plan : SubscribePlan) (written : ℕ) (s t : Timing) (told quiet : Type 0) : Type 0 where
  pub due : IsDue plan s → (t ≡ record s { told = s.moment; written = written }) × told
  pub early : ¬ IsDue plan s → (t ≡ s) × quiet

-- they are told at the moment, behind so many messages, or not
abbrev pub told_if : Bool → ℕ → Timing → Timing
told_if tells written s = if tells then record s { told = s.moment; written = written } else s

-- ---- of one session

pub record Seen : Type 0 where
  -- the moment that was noted last
  pub moment : ℕ
  -- when a frame of it came last
  pub heard : ℕ
  -- when nothing was lacking last, something that was lacking came last, or it was heard again behind a second or more
  pub kept : ℕ
  -- how often the clock was looked at since its image was opened, how often what came of SETUPs was attended since, and how often
  -- it was judged whether the image is lost; modulo 2 ^ 64
  pub turns : ℕ
  pub attended : ℕ
  pub judged : ℕ
  -- whether it was noted in this turn what the image lacks
  pub noted : Bool

-- its image was opened at this moment, of which nothing is lacking, and no turn has begun
abbrev pub beginning : ℕ → Seen
beginning moment = record { moment = moment; heard = moment; kept = moment; turns = 0; attended = 0; judged = 0; noted = false }

-- the clock was looked at, and a turn begins
abbrev pub looking : Seen → ℕ → Seen
looking s now = record s { moment = now; heard = later_by s.moment now s.heard; kept = later_by s.moment now s.kept; turns = (s.turns + 1) % 2 ^ 64; noted = false }

-- a frame of it came at the moment; a second or more without one doesn't count as time in which something is lacking
abbrev pub hearing : Seen → Seen
hearing s = record s { heard = s.moment; kept = if nat_lt (s.moment - s.heard) 1000000000 then s.kept else s.moment }

-- nothing is lacking at the moment, or something that was lacking came at it
abbrev pub keeping : Seen → Seen
keeping s = record s { kept = s.moment }

-- in a turn
abbrev pub attending : Seen → Seen
attending s = record s { attended = (s.attended + 1) % 2 ^ 64 }

-- in each turn but the last one
abbrev pub AttendsEach : Seen → Type 0
AttendsEach s = s.turns ≡ (s.attended + 1) % 2 ^ 64

-- what the image lacks is noted: nothing at the moment, or something that was lacking came at it, or neither
abbrev pub noting : Bool → Seen → Seen
noting kept s = record s { kept = if kept then s.moment else s.kept; noted = true }

-- whether the image is lost is judged, in a turn; that counts where it was noted in it before what the image lacks
abbrev pub judging : Seen → Seen
judging s = record s { judged = if s.noted then (s.judged + 1) % 2 ^ 64 else s.judged }

-- in each turn, the last one too
abbrev pub JudgesEach : Seen → Type 0
JudgesEach s = s.turns ≡ s.judged

-- no turn begins, nothing is attended, and nothing is judged
pub record IsWithinTurn (s t : Seen) : Type 0 where
  pub turns : t.turns ≡ s.turns
  pub attended : t.attended ≡ s.attended
  pub judged : t.judged ≡ s.judged

-- for how long no frame of it has come
abbrev pub silence_of : Seen → ℕ
silence_of s = s.moment - s.heard

-- as long as the plan says
abbrev pub IsQuiet : SubscribePlan → Seen → Type 0
IsQuiet plan s = plan.quiet ≤ silence_of s

-- so long that another publisher may take the place
abbrev pub IsSilent : Seen → Type 0
IsSilent s = 10000000000 ≤ silence_of s

-- for ten seconds nothing that is lacking has come, in which a frame of it was heard each second
pub record IsBehind (s : Seen) : Type 0 where
  pub long : 10000000000 ≤ s.moment - s.kept
  pub heard : s.moment - s.heard < 1000000000

-- one came at the moment
abbrev pub IsHearing : Seen → Type 0
IsHearing s = s.heard ≡ s.moment
