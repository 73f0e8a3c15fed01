-- What a contract sees of a publisher's device, and what a datagram makes of it.
use Rattle.std.specs.Prelude.{◌≡◌, ◌⊎◌, ◌||◌, ◌≤◌, ◌<◌, ⊤, ℕ, zero, suc, ◌+◌, ◌-◌, ◌%◌, ◌^◌, ℤ, Bool, true, false, pos, negsuc, nat_lt, if◌then◌else◌, max, min, List, [], length, take, Option, None, Some, is_some, Result, Ok, Err}
use Rattle.std.specs.Int.{cast_signed, w32}
use Rattle.theory.specs.Bytes.{Identity}
use Rattle.theory.specs.Position.{position_of}
use Rattle.theory.specs.Wire.{Header, Nak, Wire, DATA, PAD, HEARTBEAT, NAK, SM, SETUP, SpellsDatagram, spelling}
use Rattle.frames.specs.Datagrams.{IsDatagramFault}
use Rattle.frames.specs.FaultCounts.{counting, uncounted}
use Rattle.frames.specs.declared.fault.FrameError.{FrameError}
use Rattle.frames.specs.Fronts.{FrontSpells}
use Rattle.endpoint.specs.Calls.{Fills, Receives}
use Rattle.endpoint.specs.Devices.{Device, HasGrown, NeverFall, counted, greatest}
use Rattle.endpoint.specs.declared.datagrams.DeviceFailed.{DeviceFailed}
use Rattle.peer.specs.Attending.{after_status, nobody}
use Rattle.peer.specs.Screening.{asked_bytes, half_term, has_room, is_handed, verdict_of}
use Rattle.peer.specs.declared.attendance.Attendance.{Attendance}
use Rattle.peer.specs.declared.attended.Found.{Found}
use Rattle.peer.specs.declared.attended.Found.TheVariants as found
use Rattle.peer.specs.declared.screen.Bounds.{Bounds}
use Rattle.peer.specs.declared.screen.Verdict.{Verdict}
use Rattle.peer.specs.declared.screen.Verdict.TheVariants.{Passes, Tells, Misses, Disbelieved, Held, LeftBehind, Unanswered}
use Rattle.peer.specs.declared.attended.Tally.{Tally}
use Rattle.peer.specs.declared.attended.ToldEnds.{ToldEnds}
use Rattle.peer.specs.declared.attended.Behind.{Behind}
use Rattle.peer.specs.declared.attendance.Heard.{Heard}
use Rattle.std.specs.Ordering.{int_eq}
use Rattle.peer.specs.Farewells.{TellsEnd, end_of}
use Rattle.peer.specs.declared.farewell.StreamEnd.{StreamEnd}

-- the stream, what was heard of it, and what the next frame is judged by
pub record Watched : Type 0 where
  pub sent : Identity
  pub attendance : Attendance
  pub bounds : Bounds
  -- a negative acknowledgement that is held back
  pub held : Option Nak
  pub tally : Tally
  -- how many receives found nothing
  pub nones : ℕ
  -- how many datagrams it has passed over since one did
  pub passed : ℕ
  -- the ends of the stream that it was given to tell
  pub ends : Option ToldEnds
  -- how many bytes behind the sender's position a frame can be sent again, where a receiver that lacks more is left behind
  pub reach : Option ℕ

pub record Watching (D : Type 0) : Type 0 where
  pub inner : D
  pub watch : Watched

-- nothing of the stream was sent or heard yet
abbrev pub new_watch : Identity → ℕ → Option ℕ → Watched
new_watch sent start reach = record {
  sent = sent;
  attendance = nobody start;
  bounds = record { sent_to = start; asked = None };
  held = None;
  tally = record { datagrams = 0; resends = 0; statuses = 0; naks = 0; disbelieved = 0; passed = 0; refused = uncounted };
  nones = 0;
  passed = 0;
  ends = None;
  reach = reach;
}

abbrev pub watching : {D : Type 0} → D → Identity → ℕ → Option ℕ → Watching D
watching inner sent start reach = record { inner = inner; watch = new_watch sent start reach }

-- as a device it fails where the inner one does, finds nothing where it screens, and doesn't tell what it carried
abbrev pub watching_device : Device → ℕ → Device
watching_device inner nones = record { sent = []; received = []; failures = inner.failures; nones = nones }

-- a cycle begins, with the stream sent up to here
abbrev pub told : Watched → ℕ → Watched
told w position = record w { bounds = record { sent_to = position; asked = None } }

-- a receive found nothing
abbrev pub with_none : Watched → Watched
with_none w = record w { nones = counted w.nones; passed = 0 }

-- one more, modulo 2 ^ 64
abbrev pub plus_one : ℕ → ℕ
plus_one n = (n + 1) % 2 ^ 64

-- ---- what comes

abbrev pub asked_before : Option ℕ → ℕ
asked_before None = 0
asked_before (Some asked) = asked

-- a negative acknowledgement that asks for so many bytes is handed over
abbrev pub missed : Watched → ℕ → Watched
missed w bytes = record w {
  bounds = record w.bounds { asked = Some (min (asked_before w.bounds.asked + bytes) greatest) };
  tally = record w.tally { naks = plus_one w.tally.naks };
}

-- a receiver has told a position
abbrev pub told_by : Watched → ℤ → ℕ → Watched
told_by w receiver position = record w {
  attendance = after_status w.attendance receiver position;
  tally = record w.tally { statuses = plus_one w.tally.statuses };
}

-- a datagram is passed over
abbrev pub passing : Watched → Watched
passing w = record w { passed = w.passed + 1; tally = record w.tally { passed = plus_one w.tally.passed } }

-- a status message wasn't believed
abbrev pub disbelieving : Watched → Watched
disbelieving w = record w { tally = record w.tally { disbelieved = plus_one w.tally.disbelieved } }

-- what isn't handed over is passed over
abbrev pub after_verdict : Watched → Verdict → Watched
after_verdict w Passes = w
after_verdict w (Tells receiver position) = told_by w receiver position
after_verdict w (Misses bytes) = missed w bytes
after_verdict w Disbelieved = passing (disbelieving w)
after_verdict w Held = passing w
after_verdict w (LeftBehind receiver position) = passing (told_by w receiver position)
after_verdict w Unanswered = passing w

-- what is held back: it is a negative acknowledgement
abbrev pub held_of : Wire → Option Nak
held_of (DATA h flags payload) = None
held_of (PAD h n) = None
held_of (HEARTBEAT h) = None
held_of (NAK m) = Some m
held_of (SM flags m) = None
held_of (SETUP m) = None

abbrev pub held_after : Option Nak → Verdict → Wire → Option Nak
held_after held Passes f = held
held_after held (Tells receiver position) f = held
held_after held (Misses bytes) f = held
held_after held Disbelieved f = held
held_after held Held f = held_of f
held_after held (LeftBehind receiver position) f = held
held_after held Unanswered f = held

abbrev pub after_judged : Watched → Verdict → Wire → Watched
after_judged w v f = record (after_verdict w v) { held = held_after w.held v f }

-- what a receiver has told last, with this position, if it is the one that was heard last
abbrev pub told_last : Option Heard → ℤ → ℕ → ℕ
told_last None receiver position = position
told_last (Some h) receiver position = if int_eq h.receiver receiver then max h.last position else position

-- one that stands here is left behind: what comes next can't be sent again any more
abbrev pub is_behind : Option ℕ → ℕ → ℕ → Bool
is_behind None sent_to last = false
is_behind (Some reach) sent_to last = nat_lt (last + reach) sent_to

abbrev pub is_left : Option ℕ → ℕ → Option Heard → Bool
is_left reach sent_to None = false
is_left reach sent_to (Some h) = is_behind reach sent_to h.last

-- the one that was heard last is left behind
abbrev pub is_left_behind : Watched → Bool
is_left_behind w = is_left w.reach w.bounds.sent_to w.attendance.present

-- of one that is left behind neither status messages nor negative acknowledgements are handed over; one is held back at a time
abbrev pub screened : Watched → Verdict → Verdict
screened w Passes = Passes
screened w (Tells receiver position) = if is_behind w.reach w.bounds.sent_to (told_last w.attendance.present receiver position) then LeftBehind receiver position else Tells receiver position
screened w (Misses bytes) = if is_left_behind w then Unanswered else Misses bytes
screened w Disbelieved = Disbelieved
screened w Held = if is_left_behind w then Unanswered else (if is_some w.held then Unanswered else Held)
screened w (LeftBehind receiver position) = LeftBehind receiver position
screened w Unanswered = Unanswered

abbrev pub screened_of : Watched → Wire → Verdict
screened_of w f = screened w (verdict_of w.sent w.bounds f)

-- a frame came, alone in a datagram
abbrev pub after_frame : Watched → Wire → Watched
after_frame w f = after_judged w (screened_of w f) f

-- how far the one that was heard last is behind the sender, and how much of that can be sent again, where it is left behind
abbrev pub behind_by : Option ℕ → ℕ → Option Heard → Option Behind
behind_by None sent_to heard = None
behind_by (Some reach) sent_to None = None
behind_by (Some reach) sent_to (Some h) = if nat_lt (h.last + reach) sent_to then Some (record { missing = sent_to - h.last; reach = reach }) else None

abbrev pub behind_of : Watched → Option Behind
behind_of w = behind_by w.reach w.bounds.sent_to w.attendance.present

-- how many were passed over, with one more where it isn't handed over
abbrev pub passed_after : Bool → ℕ → ℕ
passed_after true passed = passed
passed_after false passed = passed + 1

abbrev pub found_of : Bool → ℕ → Option ℕ
found_of handed n = if handed then Some n else None

-- a datagram can't be read, by this fault
abbrev pub refusing : Watched → FrameError → Watched
refusing w fault = record w { tally = record w.tally { refused = counting w.tally.refused fault } }

-- one that can't be read is counted by its fault, and no other is
pub record CountsRefused (old : Watched) (bytes : List ℕ) (new : Watched) : Type 0 where
  pub fault : (fault : FrameError) → IsDatagramFault bytes fault → new ≡ refusing old fault
  pub readable : (frames : List Wire) → SpellsDatagram frames bytes → new ≡ old

-- a datagram that is one frame is judged, and any other bytes are handed over as they came
pub record Screens (old : Watched) (bytes : List ℕ) (found : Option ℕ) (new : Watched) : Type 0 where
  pub frame : (f : Wire) → FrontSpells bytes f (length bytes) → (found ≡ found_of (is_handed (screened_of old f)) (length bytes)) × (new ≡ after_frame old f)
  pub others : ((f : Wire) → FrontSpells bytes f (length bytes) → ⊥) → (found ≡ Some (length bytes)) × CountsRefused old bytes new

-- what was found is handed over
abbrev pub IsHandedOn : Watched → List ℕ → Option ℕ → Watched → Type 0
IsHandedOn old bytes None new = ⊥
IsHandedOn old bytes (Some n) new = Screens old bytes (Some n) new

-- by what the inner device answered
abbrev pub Judges : {D : Type 0} → Watching D → Result (Option ℕ) DeviceFailed → List ℕ → Result (Option ℕ) DeviceFailed → Watching D → Type 0
Judges old (Err e) after result new = (result ≡ Err e) × (new ≡ record old { inner = new.inner })
Judges old (Ok None) after result new = (result ≡ Ok None) × (new ≡ record { inner = new.inner; watch = with_none old.watch })
Judges old (Ok (Some n)) after (Ok found) new = IsHandedOn old.watch (take n after) found new.watch
Judges old (Ok (Some n)) after (Err e) new = ⊥

module _ {D : Type 0} (device : D → Device) (tells : D → Type 0) where
  -- a receive of the inner device, and what becomes of that
  pub record Screened (old : Watching D) (before : List ℕ) (result : Result (Option ℕ) DeviceFailed) (after : List ℕ) (new : Watching D) : Type 0 where
    pub answer : Result (Option ℕ) DeviceFailed
    pub counts : NeverFall (device old.inner) (device new.inner)
    pub receives : Receives (tells old.inner) (device old.inner) before answer after (device new.inner)
    pub still_tells : tells old.inner → tells new.inner
    pub judged : Judges old answer after result new

  -- a receive of the inner device found a datagram that isn't handed over, where fewer than 256 were passed over since a receive
  -- found nothing
  pub record PassesOne (before : List ℕ) (old new : Watching D) : Type 0 where
    pub room : old.watch.passed < 256
    pub size : ℕ
    pub arrived : List ℕ
    pub counts : NeverFall (device old.inner) (device new.inner)
    pub receives : Receives (tells old.inner) (device old.inner) before (Ok (Some size)) arrived (device new.inner)
    pub still_tells : tells old.inner → tells new.inner
    pub screens : Screens old.watch (take size arrived) None new.watch
    pub counted : new.watch.passed ≡ old.watch.passed + 1

  -- so many did, one after the other; each was given the buffer as it was before
  abbrev pub PassesMany : ℕ → List ℕ → Watching D → Watching D → Type 0
  PassesMany zero before old new = new ≡ old
  PassesMany (suc n) before old new = (middle : Watching D) × PassesMany n before old middle × PassesOne before middle new

  -- 256 were passed over, so nothing is found
  pub record PassedEnough (old : Watching D) (result : Result (Option ℕ) DeviceFailed) (new : Watching D) : Type 0 where
    pub many : 256 ≤ old.watch.passed
    pub none : result ≡ Ok None
    pub is : new ≡ record old { watch = with_none old.watch }

  -- what isn't handed over is passed over; then comes a receive of the inner device that found something else, or so many were
  -- passed over
  pub record Finds (old : Watching D) (before : List ℕ) (result : Result (Option ℕ) DeviceFailed) (after : List ℕ) (new : Watching D) : Type 0 where
    pub count : ℕ
    pub middle : Watching D
    pub passes : PassesMany count before old middle
    pub ends : Screened middle before result after new ⊎ PassedEnough middle result new

  -- a look at the inner device: it hands over, passes over, leaving the buffer as it was, or finds nothing
  abbrev pub LooksInto : Watching D → List ℕ → Result Found DeviceFailed → List ℕ → Watching D → Type 0
  LooksInto old before (Ok (found.Handed n)) after new = Screened old before (Ok (Some n)) after new
  LooksInto old before (Ok found.Passed) after new = PassesOne before old new × (after ≡ before)
  LooksInto old before (Ok found.Nothing) after new = Screened old before (Ok None) after new
  LooksInto old before (Err e) after new = Screened old before (Err e) after new

-- only one that finds nothing counts as such
abbrev pub CountsLook : Result Found DeviceFailed → ℕ → ℕ → Type 0
CountsLook (Ok (found.Handed n)) old new = new ≡ old
CountsLook (Ok found.Passed) old new = new ≡ old
CountsLook (Ok found.Nothing) old new = HasGrown old new
CountsLook (Err e) old new = new ≡ old

-- what is handed over fits the buffer, whose bytes behind it stay
abbrev pub FillsLook : Result Found DeviceFailed → List ℕ → List ℕ → Type 0
FillsLook (Ok (found.Handed n)) before after = Fills n before after
FillsLook (Ok found.Passed) before after = after ≡ before
FillsLook (Ok found.Nothing) before after = ⊤
FillsLook (Err e) before after = ⊤

-- one that was held back is handed over as it came, as far as it has room
abbrev pub released : Watched → Nak → Watched
released w m = record (missed w (asked_bytes m.length)) { held = None }

pub record Releases {D : Type 0} (old : Watching D) (m : Nak) (before : List ℕ) (result : Result (Option ℕ) DeviceFailed) (after : List ℕ) (new : Watching D) : Type 0 where
  pub found : result ≡ Ok (Some (min 28 (length before)))
  pub front : take (min 28 (length before)) after ≡ take (min 28 (length before)) (spelling (NAK m))
  pub is : new ≡ record old { watch = released old.watch m }

-- one that is held back is due where those of the cycle leave room for it; so it is in a later cycle
abbrev pub due_in : Identity → Bounds → Option Nak → Option Nak
due_in s b None = None
due_in s b (Some m) = if has_room b.asked (asked_bytes m.length) (half_term s) then Some m else None

abbrev pub due_of : Watched → Option Nak
due_of w = due_in w.sent w.bounds w.held

-- what is due goes first
abbrev pub Takes : {D : Type 0} → (D → Device) → (D → Type 0) → Option Nak → Watching D → List ℕ → Result (Option ℕ) DeviceFailed → List ℕ → Watching D → Type 0
Takes device tells None old before result after new = Finds device tells old before result after new
Takes device tells (Some m) old before result after new = Releases old m before result after new

-- ---- what is sent

-- the header of a frame that carries bytes of a stream
abbrev pub header_in : Wire → Option Header
header_in (DATA h flags payload) = Some h
header_in (PAD h n) = Some h
header_in (HEARTBEAT h) = None
header_in (NAK m) = None
header_in (SM flags m) = None
header_in (SETUP m) = None

abbrev pub is_below : ℤ → ℕ → Bool
is_below (pos n) most = nat_lt n most
is_below (negsuc n) most = true

abbrev pub begins_below : Watched → Option Header → Bool
begins_below w None = false
begins_below w (Some h) = is_below (position_of w.sent.geometry h.term_id (cast_signed w32 h.term_offset)) w.bounds.sent_to

-- it begins below what was sent before this cycle
abbrev pub is_again : Watched → Wire → Bool
is_again w f = begins_below w (header_in f)

abbrev pub given : Watched → Bool → Watched
given w again = record w { tally = record w.tally { datagrams = plus_one w.tally.datagrams; resends = if again then plus_one w.tally.resends else w.tally.resends } }

-- the least and the greatest end, with this one, and whether the stream is broken off at one
abbrev pub with_told : Option ToldEnds → StreamEnd → ToldEnds
with_told None end = record { least = end.position; greatest = end.position; broken = end.broken }
with_told (Some told) end = record { least = min told.least end.position; greatest = max told.greatest end.position; broken = told.broken || end.broken }

-- it was given the farewell that tells this end, as far as its stream can go
abbrev pub with_end : Watched → StreamEnd → Watched
with_end w end = record (given w false) { ends = Some (with_told w.ends (end_of w.sent end)) }

-- the end that a frame tells of the stream is noted, if it tells one
pub record NotesTold (s : Identity) (f : Wire) (old new : Option ToldEnds) : Type 0 where
  pub told : (end : StreamEnd) → TellsEnd s.session s.stream f end → new ≡ Some (with_told old end)
  pub untold : ((end : StreamEnd) → TellsEnd s.session s.stream f end → ⊥) → new ≡ old

-- a frame at a datagram's front: it counts, and the end that it tells is noted
pub record GivesFrame (old : Watched) (f : Wire) (new : Watched) : Type 0 where
  pub counted : new ≡ record (given old (is_again old f)) { ends = new.ends }
  pub noted : NotesTold old.sent f old.ends new.ends

-- a datagram counts by its first frame, and tells what that tells
pub record Gives (old : Watched) (bytes : List ℕ) (new : Watched) : Type 0 where
  pub frame : (f : Wire) (n : ℕ) → FrontSpells bytes f n → GivesFrame old f new
  pub others : ((f : Wire) (n : ℕ) → FrontSpells bytes f n → ⊥) → new ≡ given old false
