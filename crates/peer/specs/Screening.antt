-- What of the frames that come to a publisher is handed over, and what it tells.
use Rattle.std.specs.Prelude.{ℕ, ℤ, ◌+◌, ◌/◌, pos, negsuc, Bool, true, false, ◌&&◌, nat_eq, nat_le, if◌then◌else◌, Option, None, Some}
use Rattle.std.specs.Ordering.{int_eq}
use Rattle.theory.specs.Bytes.{Identity}
use Rattle.theory.specs.Position.{position_of}
use Rattle.theory.specs.Wire.{Wire, DATA, PAD, HEARTBEAT, NAK, SM, SETUP, Nak, Status}
use Rattle.peer.specs.declared.screen.Bounds.{Bounds}
use Rattle.peer.specs.declared.screen.Verdict.{Verdict}
use Rattle.peer.specs.declared.screen.Verdict.TheVariants.{Passes, Tells, Misses, Disbelieved, Held, LeftBehind, Unanswered}

-- the greatest window that a receiver of the stream can have
abbrev pub half_term : Identity → ℕ
half_term s = s.geometry.term_length / 2

abbrev pub is_at_most : ℤ → ℕ → Bool
is_at_most (pos n) most = nat_le n most
is_at_most (negsuc n) most = true

abbrev pub is_own : Identity → ℤ → ℤ → Bool
is_own s session stream = int_eq session s.session && int_eq stream s.stream

abbrev pub told_position : Identity → Status → ℤ
told_position s m = position_of s.geometry m.term_id m.term_offset

-- it tells no more than was sent, and no greater window than a receiver can have
abbrev pub is_believed : Identity → ℕ → Status → Bool
is_believed s sent_to m = is_at_most (told_position s m) sent_to && is_at_most m.window (half_term s)

-- a position that isn't negative is told
abbrev pub told_at : ℤ → ℤ → Verdict
told_at receiver (pos p) = Tells receiver p
told_at receiver (negsuc n) = Passes

-- one that asks for a SETUP tells nothing
abbrev pub believed_verdict : Identity → ℕ → Status → Verdict
believed_verdict s flags m = if nat_eq flags 0 then told_at m.receiver (told_position s m) else Passes

abbrev pub status_verdict : Identity → Bounds → ℕ → Status → Verdict
status_verdict s b flags m = if is_believed s b.sent_to m then believed_verdict s flags m else Disbelieved

-- how many bytes a negative acknowledgement asks for, by its length
abbrev pub asked_bytes : ℤ → ℕ
asked_bytes (pos n) = n
asked_bytes (negsuc n) = 0

-- the first one of a cycle has room, and another one where all of the cycle ask for this much at the most
abbrev pub has_room : Option ℕ → ℕ → ℕ → Bool
has_room None bytes most = true
has_room (Some asked) bytes most = nat_le (asked + bytes) most

abbrev pub nak_verdict : Identity → Bounds → Nak → Verdict
nak_verdict s b m = if has_room b.asked (asked_bytes m.length) (half_term s) then Misses (asked_bytes m.length) else Held

-- a frame of another kind, stream or session passes
abbrev pub verdict_of : Identity → Bounds → Wire → Verdict
verdict_of s b (DATA h flags payload) = Passes
verdict_of s b (PAD h n) = Passes
verdict_of s b (HEARTBEAT h) = Passes
verdict_of s b (NAK m) = if is_own s m.session m.stream then nak_verdict s b m else Passes
verdict_of s b (SM flags m) = if is_own s m.session m.stream then status_verdict s b flags m else Passes
verdict_of s b (SETUP m) = Passes

abbrev pub is_handed : Verdict → Bool
is_handed Passes = true
is_handed (Tells receiver position) = true
is_handed (Misses bytes) = true
is_handed Disbelieved = false
is_handed Held = false
is_handed (LeftBehind receiver position) = false
is_handed Unanswered = false
