-- What a cycle shows of a destination.
use Rattle.std.specs.Prelude.{ℕ, ℤ, ◌-◌, List, Bool, not, ◌&&◌, ◌||◌, nat_eq, nat_lt, is_some, if◌then◌else◌, Option, None, Some}
use Rattle.std.specs.declared.net.SocketAddr.{SocketAddr}
use Rattle.loss_injector.specs.Losing.{Losing}
use Rattle.endpoint.specs.Fans.{AllLive}
use Rattle.peer.specs.Attends.{Attends}
use Rattle.peer.specs.Patience.{Patient, patient_device}
use Rattle.peer.specs.Endings.{is_told}
use Rattle.peer.specs.Silences.{judged}
use Rattle.peer.specs.Watching.{Watching, behind_of, told}
use Rattle.peer.specs.declared.attended.Behind.{Behind}
use Rattle.peer.specs.declared.attendance.Attendance.{Attendance}
use Rattle.publisher.specs.Looking.{calls_of, seen_of}
use Rattle.publisher.specs.Numbers.{GoesOn}
use Rattle.publisher.specs.Progress.{is_alone, is_back, is_broken, seen, with_work}
use Rattle.publisher.specs.declared.destination.Seen.{Seen}
use Rattle.publisher.specs.declared.progress.Progress.{Progress}
use Rattle.publisher.specs.declared.destination.News.{News}
use Rattle.publisher.specs.declared.destination.Destination.{Destination}

-- one over a publisher's device
abbrev pub ChannelDestination : Type 0 → Type 0
ChannelDestination D = Destination (Watching (Losing (Patient D)))

-- what names it in a line, where it is one of several
abbrev pub label_by : Option ℤ → SocketAddr → Option SocketAddr
label_by None peer = None
label_by (Some id) peer = Some peer

abbrev pub label_of : {D : Type 0} → Destination D → Option SocketAddr
label_of w = label_by w.id w.peer

-- each one's device has lived on by its calls, and all else of it stays
abbrev pub LivesAlong : {D : Type 0} → List (ChannelDestination D) → List (ChannelDestination D) → Type 0
LivesAlong {D} old new = AllLive (GoesOn (Attends {D = Losing (Patient D)} (λ l. patient_device l.inner.nones) (λ l. ⊥))) old new

-- a cycle begins, with the stream sent up to here
abbrev pub begun : {D : Type 0} → ℕ → ChannelDestination D → ChannelDestination D
begun at w = record w { before = calls_of w.device; device = record w.device { watch = told w.device.watch at } }

-- one that was heard, and hasn't told the stream's end, is silent for five seconds and more; as before where that isn't judged
abbrev pub is_quiet : Attendance → Option ℕ → Option ℕ → Bool → Bool
is_quiet a end None before = before
is_quiet a end (Some silence) before = is_some a.present && (not (is_told a end) && nat_lt 5000000000 silence)

-- what the cycle has shown
abbrev pub shown : {D : Type 0} → ChannelDestination D → Seen
shown w = seen_of w.before w.device

abbrev pub after_work : {D : Type 0} → ℕ → ChannelDestination D → Progress
after_work now w = seen (with_work w.progress (shown w).worked now) (shown w) now

abbrev pub progress_after : {D : Type 0} → ℕ → ChannelDestination D → Progress
progress_after now w = record (after_work now w) { alone = (after_work now w).alone || is_alone (after_work now w) (shown w).attendance now }

abbrev pub silence_after : {D : Type 0} → ℕ → ChannelDestination D → Option ℕ
silence_after now w = judged (progress_after now w).statuses (shown w).at_rest now

abbrev pub quiet_after : {D : Type 0} → Option ℕ → ℕ → ChannelDestination D → Bool
quiet_after end now w = is_quiet (shown w).attendance end (silence_after now w) w.quiet

-- what was seen up to this moment, of a stream that ends here, if that is known
abbrev pub seen_along : {D : Type 0} → Option ℕ → ℕ → ℕ → ChannelDestination D → ChannelDestination D
seen_along end linger now w = record w {
  progress = progress_after now w;
  silence = silence_after now w;
  unheard = now - (progress_after now w).statuses.since;
  quiet = quiet_after end now w;
  behind = behind_of w.device.watch;
  broken = is_broken w.progress (shown w).worked linger now;
}

-- one that is left behind is news where it wasn't before
abbrev pub behind_now : Option Behind → Option Behind → Option Behind
behind_now behind None = behind
behind_now behind (Some before) = None

-- and where it was, and is heard again
abbrev pub back_now : Option Behind → Option Behind → Bool → Option Behind
back_now behind None heard = None
back_now behind (Some before) heard = if heard then behind else None

-- what is to be told of that
abbrev pub news_along : {D : Type 0} → Option ℕ → ℕ → ℕ → ChannelDestination D → News
news_along end linger now w = record {
  changed = not (nat_eq (shown w).attendance.changes w.progress.changes);
  alone = is_alone (after_work now w) (shown w).attendance now;
  quiet = quiet_after end now w && not w.quiet;
  behind = behind_now (behind_of w.device.watch) w.behind;
  back = back_now (behind_of w.device.watch) w.behind (is_back w.progress (shown w).tally.statuses now);
}
