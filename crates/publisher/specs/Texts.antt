-- What a user reads of a fault, and what a publisher tells on its error output.
use Rattle.std.specs.Prelude.{ℕ, ℤ, ◌-◌, ◌/◌, Bool, true, false, List, [], ◌∷◌, ◌++◌, Option, None, Some, codes, decimal, nat_eq, if◌then◌else◌}
use Rattle.std.specs.Fmt.{signed_decimal}
use Rattle.std.specs.Net.Text.{socket_text}
use Rattle.peer.specs.Texts.{joined}
use Rattle.peer.specs.declared.attendance.Attendance.{Attendance}
use Rattle.peer.specs.declared.attendance.Heard.{Heard}
use Rattle.peer.specs.declared.attended.Behind.{Behind}
use Rattle.peer.specs.Endings.{is_told}
use Rattle.std.specs.declared.net.SocketAddr.{SocketAddr}
use Rattle.endpoint.specs.Texts as devices
use Rattle.frames.specs.FaultCounts.{counts_text}
use Rattle.frames.specs.declared.fault_counts.FaultCounts.{FaultCounts}
use Rattle.messages.specs.Texts as inputs
use Rattle.text.specs.Paces.{pace_text}
use Rattle.publisher.specs.declared.telling.Counts.{Counts}
use Rattle.publisher.specs.declared.telling.GaveUp.{GaveUp}
use Rattle.publisher.specs.declared.telling.Line.{Line}
use Rattle.publisher.specs.declared.telling.Line.TheVariants as lines
use Rattle.publisher.specs.declared.telling.Totals.{Totals}
use Rattle.publisher.specs.declared.telling.Shortfall.{Shortfall}
use Rattle.publisher.specs.declared.telling.Shortfall.TheVariants.{Unheard, Silent, LeftBehind, Several, Elsewhere, Unclosed}
use Rattle.publisher.specs.declared.fault.PublishFault.{PublishFault}
use Rattle.publisher.specs.declared.fault.PublishFault.TheVariants.{Input, Full, NoSocket, NoThread, Failed}

abbrev pub text_of : PublishFault → List ℕ
text_of (Input fault) = inputs.text_of fault
text_of Full = codes "the stream is at its last position"
text_of (NoSocket route number) = codes "the system gives no socket from " ++ socket_text route.binding.address ++ codes " to " ++ socket_text route.peer
text_of NoThread = codes "device: the system gives no thread"
text_of (Failed error) = devices.text_of error

-- the system's number of what failed, where it gave one
abbrev pub number_of : PublishFault → Option ℤ
number_of (Input fault) = inputs.number_of fault
number_of Full = None
number_of (NoSocket route number) = number
number_of NoThread = None
number_of (Failed error) = None

-- ---- lines

-- what a publisher that ends short lacks of a subscriber: somebody; the acknowledgement of all bytes, which one that is left behind can't
-- get any more; or one that was there alone, from the start on
abbrev pub unacknowledged : Option Behind → ℕ → ℕ → ℕ → Shortfall
unacknowledged None seconds acknowledged bytes = Silent seconds acknowledged bytes
unacknowledged (Some b) seconds acknowledged bytes = LeftBehind acknowledged bytes b.reach

abbrev pub heard_shortfall : Bool → Option Behind → ℕ → ℕ → ℕ → Heard → Shortfall
heard_shortfall true behind seconds start tail h = Several
heard_shortfall false behind seconds start tail h = unacknowledged behind seconds (h.last - start) (tail - start)

abbrev pub shortfall_by : Attendance → Option Heard → Option ℕ → ℕ → ℕ → Option Behind → Shortfall
shortfall_by a None end tail seconds behind = Unheard seconds
shortfall_by a (Some h) end tail seconds behind = heard_shortfall (is_told a end) behind seconds a.start tail h

-- where no status message was noted for so many nanoseconds
abbrev pub shortfall_of : Attendance → Option ℕ → ℕ → ℕ → Option Behind → Shortfall
shortfall_of a end tail unheard behind = shortfall_by a a.present end tail (unheard / 1000000000) behind

abbrev pub gave_up_text : SocketAddr → Shortfall → List ℕ
gave_up_text peer (Unheard seconds) = joined (codes "gave up: nobody was heard at " ∷ socket_text peer ∷ codes " for " ∷ decimal seconds ∷ codes " s" ∷ [])
gave_up_text peer (Silent seconds acknowledged bytes) = joined (
    codes "gave up: nothing was heard from " ∷ socket_text peer ∷ codes " for " ∷ decimal seconds ∷ codes " s; it has acknowledged "
    ∷ decimal acknowledged ∷ codes " of " ∷ decimal bytes ∷ codes " bytes" ∷ [])
gave_up_text peer (LeftBehind acknowledged bytes reach) = joined (
    codes "gave up: " ∷ socket_text peer ∷ codes " is left behind: it has acknowledged " ∷ decimal acknowledged ∷ codes " of " ∷ decimal bytes
    ∷ codes " bytes, and " ∷ decimal reach ∷ codes " can be sent again" ∷ [])
gave_up_text peer Several = joined (codes "not all was written at " ∷ socket_text peer ∷ codes " by one subscriber that was there from the start on" ∷ [])
gave_up_text peer Elsewhere = codes "gave up: the input ended elsewhere than where the stream was taken to"
gave_up_text peer Unclosed = codes "gave up: the log couldn't be closed, since memory was refused or a thread still has it"

abbrev pub traffic_text : Counts → List ℕ
traffic_text c = joined (
    codes "datagrams " ∷ decimal c.tally.datagrams ∷ codes " resends " ∷ decimal c.tally.resends
    ∷ codes " naks " ∷ decimal c.tally.naks ∷ codes " lost " ∷ decimal c.lost
    ∷ codes " disbelieved " ∷ decimal c.tally.disbelieved ∷ codes " refused" ∷ counts_text c.tally.refused.counts ∷ [])

abbrev pub counters_text : Counts → List ℕ
counters_text c = joined (
    codes "session " ∷ signed_decimal c.session ∷ codes " messages " ∷ decimal c.messages
    ∷ codes " recent " ∷ decimal c.recent ∷ codes " tail " ∷ decimal c.tail ∷ codes " told " ∷ decimal c.told
    ∷ codes " " ∷ traffic_text c ∷ [])

-- what it has done in all
abbrev pub totals_text : Totals → List ℕ
totals_text t = joined (
    codes "published " ∷ decimal t.pace.count ∷ codes " messages, " ∷ decimal t.bytes ∷ codes " bytes of stream, " ∷ pace_text t.pace
    ∷ codes "; " ∷ decimal t.resends ∷ codes " datagrams sent again" ∷ [])

abbrev pub line_text : Line → List ℕ
line_text (lines.Changed left present) = joined (
    codes "receiver " ∷ signed_decimal left.receiver ∷ codes " left at position " ∷ decimal left.last
    ∷ codes ", receiver " ∷ signed_decimal present.receiver ∷ codes " joined at position " ∷ decimal present.first ∷ [])
line_text lines.Alone = codes "nobody was heard for 5 s: no subscriber is there, or it follows another publisher, or takes another stream or session, or only shorter terms"
line_text lines.Quiet = codes "nothing was heard for 5 s: the others go on without it"
line_text (lines.LeftBehind peer position b) = joined (
    socket_text peer ∷ codes " is left behind: it stands at position " ∷ decimal position ∷ codes ", " ∷ decimal b.missing
    ∷ codes " bytes behind, of which " ∷ decimal b.reach ∷ codes " can be sent again" ∷ [])
line_text (lines.CameBack peer b) = joined (
    socket_text peer ∷ codes " came back " ∷ decimal b.missing ∷ codes " bytes behind, of which " ∷ decimal b.reach ∷ codes " can be sent again" ∷ [])
line_text (lines.LeftOut peer seconds) = joined (codes "nobody was heard at " ∷ socket_text peer ∷ codes " for " ∷ decimal seconds ∷ codes " s: the others begin without it" ∷ [])
line_text (lines.BrokenOff messages) = joined (codes "the stream is broken off behind " ∷ decimal messages ∷ codes " messages: they are delivered first" ∷ [])
line_text (lines.GaveUp gave_up) = gave_up_text gave_up.0 gave_up.1
line_text lines.Empty = codes "the input was empty: nothing was published"
line_text (lines.Counters c) = counters_text c
line_text (lines.Done totals) = totals_text totals
line_text (lines.Refused refused) = codes "refused" ++ counts_text refused.counts

-- a line, behind the address of the destination that it is about, where that is one of several
abbrev pub line_at : Option SocketAddr → Line → List ℕ
line_at None line = line_text line ++ 10 ∷ []
line_at (Some peer) line = socket_text peer ++ codes ": " ++ line_text line ++ 10 ∷ []

-- another receiver is heard than before, if one is
abbrev pub change_between : Option Heard → Option Heard → Option Line
change_between None present = None
change_between (Some left) None = None
change_between (Some left) (Some present) = Some (lines.Changed left present)

abbrev pub change_in : Attendance → Option Line
change_in a = change_between a.left a.present

abbrev pub gave_up_line : SocketAddr → Shortfall → List ℕ
gave_up_line peer shortfall = line_at None (lines.GaveUp (record { 0 = peer; 1 = shortfall }))

-- nothing where something was published
abbrev pub whole_text : ℕ → ℕ → List ℕ
whole_text start tail = if nat_eq tail start then line_at None lines.Empty else []

abbrev pub totals_line : Totals → List ℕ
totals_line t = line_at None (lines.Done t)

abbrev pub refused_line : Option SocketAddr → FaultCounts → List ℕ
refused_line label refused = line_at label (lines.Refused refused)
