-- What a subscriber tells on its error output.
use Rattle.std.specs.Prelude.{◌≡◌, ℕ, ℤ, Bool, true, false, List, [], ◌∷◌, ◌++◌, Option, None, Some, nat_eq, if◌then◌else◌, codes, decimal}
use Rattle.std.specs.Fmt.{signed_decimal}
use Rattle.std.specs.Io.KnownBytes.{Appends}
use Rattle.std.specs.Net.Text.{socket_text}
use Rattle.std.specs.declared.net.SocketAddr.{SocketAddr}
use Rattle.frames.specs.FaultCounts.{counts_text, uncounted}
use Rattle.frames.specs.declared.fault_counts.FaultCounts.{FaultCounts}
use Rattle.receiver.specs.declared.positions.Positions.{Positions}
use Rattle.peer.specs.Texts.{joined}
use Rattle.subscriber.specs.Watches.{Timing}
use Rattle.subscriber.specs.declared.images.CutOff.{CutOff}
use Rattle.subscriber.specs.declared.images.Loss.{Loss}
use Rattle.subscriber.specs.declared.listening.untaken.UntakenSetup.{UntakenSetup}
use Rattle.subscriber.specs.declared.listening.untaken.Unwanted.{Unwanted}
use Rattle.subscriber.specs.declared.listening.untaken.Unwanted.TheVariants as whys
use Rattle.text.specs.Paces.{pace_text}
use Rattle.subscriber.specs.declared.reporting.Counted.{Counted}
use Rattle.subscriber.specs.declared.reporting.Counts.{Counts}
use Rattle.subscriber.specs.declared.reporting.Followed.{Followed}
use Rattle.subscriber.specs.declared.reporting.Line.{Line}
use Rattle.subscriber.specs.declared.reporting.Line.TheVariants as lines
use Rattle.subscriber.specs.declared.reporting.SessionId.{SessionId}
use Rattle.subscriber.specs.declared.reporting.Totals.{Totals}
use Rattle.subscriber.specs.declared.reporting.Unfinished.{Unfinished}

abbrev pub loss_text : Loss → List ℕ
loss_text loss = joined (codes "from position " ∷ decimal loss.from ∷ codes " to " ∷ decimal loss.to ∷ [])

abbrev pub session_text : SessionId → List ℕ
session_text id = joined (codes "session " ∷ signed_decimal id.0 ∷ [])

-- ---- what it is told of a session that isn't finished

abbrev pub told_end_text : Option ℕ → List ℕ
told_end_text None = codes " of which no end was told"
told_end_text (Some end) = joined (codes ", and the end that was told is " ∷ decimal end ∷ [])

-- where its session stands
abbrev pub unfinished_text : Unfinished → List ℕ
unfinished_text left = joined (codes "session " ∷ signed_decimal left.session ∷ codes " stands at position " ∷ decimal left.position ∷ told_end_text left.end ∷ [])

-- where a stream was cut off
abbrev pub cut_text : CutOff → List ℕ
cut_text cut = joined (codes "session " ∷ signed_decimal cut.session ∷ codes " was cut off at position " ∷ decimal cut.position ∷ [])

-- ---- a SETUP that isn't taken

-- why
abbrev pub unwanted_text : Unwanted → List ℕ
unwanted_text (whys.Stream wanted) = joined (codes "stream " ∷ signed_decimal wanted ∷ codes " is wanted" ∷ [])
unwanted_text (whys.Session wanted) = joined (codes "session " ∷ signed_decimal wanted ∷ codes " is wanted" ∷ [])
unwanted_text (whys.Terms length greatest) = joined (codes "its terms of " ∷ decimal length ∷ codes " bytes are longer than " ∷ decimal greatest ∷ [])

abbrev pub untaken_text : UntakenSetup → List ℕ
untaken_text u = joined (
    codes "session " ∷ signed_decimal u.session ∷ codes " of stream " ∷ signed_decimal u.stream ∷ codes " at " ∷ socket_text u.from
    ∷ codes ": " ∷ unwanted_text u.why ∷ [])

-- ---- counters

abbrev pub losses_text : Counts → List ℕ
losses_text c = joined (
    codes "naks " ∷ decimal c.naks ∷ codes " lost " ∷ decimal c.lost ∷ codes " strangers " ∷ decimal c.strangers ∷ codes " refused" ∷ counts_text c.refused.counts ∷ [])

abbrev pub counted_text : Counted → List ℕ
counted_text c = joined (
    codes "messages " ∷ decimal c.1.messages ∷ codes " this-second " ∷ decimal c.1.since
    ∷ codes " least " ∷ decimal c.0.least ∷ codes " rebuilt " ∷ decimal c.0.rebuilt ∷ codes " high-water " ∷ decimal c.0.high_water
    ∷ codes " " ∷ losses_text c.1 ∷ [])

-- where one without an image stands
abbrev pub nowhere : Positions
nowhere = record { least = 0; rebuilt = 0; high_water = 0 }

-- the one session, or how many there are
abbrev pub followed_text : Followed → List ℕ
followed_text f = if nat_eq f.sessions 1 then joined (codes "session " ∷ signed_decimal f.session ∷ []) else joined (decimal f.sessions ∷ codes " sessions" ∷ [])

-- what it has done in all
abbrev pub totals_text : Totals → List ℕ
totals_text t = joined (
    codes "wrote " ∷ decimal t.pace.count ∷ codes " messages, " ∷ decimal t.bytes ∷ codes " bytes of " ∷ followed_text t.of
    ∷ codes ", " ∷ pace_text t.pace ∷ codes "; " ∷ decimal t.naks ∷ codes " NAKs sent" ∷ [])

-- ---- lines

abbrev pub line_text : Line → List ℕ
line_text (lines.Joined id at) = joined (codes "joined " ∷ session_text id ∷ codes " at position " ∷ decimal at ∷ [])
line_text (lines.Silent id at) = joined (codes "silent: " ∷ session_text id ∷ codes " at position " ∷ decimal at ∷ codes ", its image is kept" ∷ [])
line_text (lines.Again id at) = joined (session_text id ∷ codes " goes on at position " ∷ decimal at ∷ [])
line_text (lines.Lost id at) = joined (codes "lost: " ∷ session_text id ∷ codes " can't be followed from position " ∷ decimal at ∷ [])
line_text (lines.Missing id loss) = joined (codes "missing: " ∷ session_text id ∷ codes " " ∷ loss_text loss ∷ [])
line_text (lines.Closed id at refused) = joined (codes "closed: " ∷ session_text id ∷ codes " at position " ∷ decimal at ∷ codes ", refused" ∷ counts_text refused.counts ∷ [])
line_text (lines.Another id from) = joined (codes "another sender at " ∷ socket_text from ∷ codes " for " ∷ session_text id ∷ codes ", not heard" ∷ [])
line_text (lines.Unheard id from own) = joined (codes "not heard: " ∷ session_text id ∷ codes " at " ∷ socket_text from ∷ codes "; " ∷ session_text own ∷ codes " is followed" ∷ [])
line_text (lines.NotTaken untaken) = joined (codes "not taken: " ∷ untaken_text untaken ∷ [])
line_text (lines.Ended id at) = joined (codes "ended: " ∷ session_text id ∷ codes " at position " ∷ decimal at ∷ [])
line_text (lines.Nobody seconds) = joined (codes "gave up: nobody published for " ∷ decimal seconds ∷ codes " s" ∷ [])
line_text (lines.GaveUp seconds left) = joined (codes "gave up: nothing was heard from " ∷ socket_text left.from ∷ codes " for " ∷ decimal seconds ∷ codes " s; " ∷ unfinished_text left ∷ [])
line_text (lines.BrokenOff id at) = joined (codes "broken off: " ∷ session_text id ∷ codes " at position " ∷ decimal at ∷ [])
line_text (lines.NotWhole cut bytes) = joined (codes "not whole: " ∷ cut_text cut ∷ codes ", " ∷ decimal bytes ∷ codes " bytes are known to be missing" ∷ [])
line_text (lines.Counters id c) = joined (session_text id ∷ codes " " ∷ counted_text c ∷ [])
line_text (lines.Waiting c) = joined (codes "session none " ∷ counted_text c ∷ [])
line_text (lines.Done totals) = totals_text totals
line_text (lines.Refused refused strangers) = joined (codes "refused" ∷ counts_text refused.counts ∷ codes " strangers " ∷ decimal strangers ∷ [])

abbrev pub line_of : Line → List ℕ
line_of line = line_text line ++ 10 ∷ []

abbrev pub id_of : ℤ → SessionId
id_of session = record { 0 = session }

abbrev pub joined_line : ℤ → ℕ → List ℕ
joined_line session position = line_of (lines.Joined (id_of session) position)

-- the session has become silent, or goes on
abbrev pub silence_line : Bool → ℤ → ℕ → List ℕ
silence_line true session position = line_of (lines.Silent (id_of session) position)
silence_line false session position = line_of (lines.Again (id_of session) position)

abbrev pub lost_line : ℤ → ℕ → List ℕ
lost_line session position = line_of (lines.Lost (id_of session) position)

abbrev pub missing_line : ℤ → Loss → List ℕ
missing_line session loss = line_of (lines.Missing (id_of session) loss)

abbrev pub another_line : ℤ → SocketAddr → List ℕ
another_line session from = line_of (lines.Another (id_of session) from)

abbrev pub unheard_line : ℤ → SocketAddr → ℤ → List ℕ
unheard_line session from own = line_of (lines.Unheard (id_of session) from (id_of own))

abbrev pub not_taken_line : UntakenSetup → List ℕ
not_taken_line u = line_of (lines.NotTaken u)

-- that is told of one, if there is one
abbrev pub TellsUntaken : Option UntakenSetup → Option (List ℕ) → Option (List ℕ) → Type 0
TellsUntaken None before after = after ≡ before
TellsUntaken (Some u) before after = Appends before after (not_taken_line u)

-- all is written up to the told end, at which the stream may be broken off
abbrev pub ended_line : Bool → ℤ → ℕ → List ℕ
ended_line false session position = line_of (lines.Ended (id_of session) position)
ended_line true session position = line_of (lines.BrokenOff (id_of session) position)

-- why it gave up
abbrev pub nobody_line : ℕ → List ℕ
nobody_line seconds = line_of (lines.Nobody seconds)

abbrev pub unfinished_line : ℕ → Unfinished → List ℕ
unfinished_line seconds left = line_of (lines.GaveUp seconds left)

abbrev pub not_whole_line : CutOff → ℕ → List ℕ
not_whole_line cut bytes = line_of (lines.NotWhole cut bytes)

-- with an image of this session
abbrev pub counters_line : ℤ → Positions → Counts → List ℕ
counters_line session p c = line_of (lines.Counters (id_of session) (record { 0 = p; 1 = c }))

abbrev pub waiting_line : Counts → List ℕ
waiting_line c = line_of (lines.Waiting (record { 0 = nowhere; 1 = c }))

-- what one without an image has counted
abbrev pub waiting_counts : Timing → Counts
waiting_counts s = record { messages = 0; since = 0; naks = 0; lost = s.lost; strangers = s.strangers; refused = uncounted }

-- nothing was refused, and no stranger came
pub record IsClean (refused : FaultCounts) (strangers : ℕ) : Type 0 where
  pub none : refused ≡ uncounted
  pub nobody : strangers ≡ 0

abbrev pub refused_line : FaultCounts → ℕ → List ℕ
refused_line refused strangers = line_of (lines.Refused refused strangers)

abbrev pub totals_line : Totals → List ℕ
totals_line t = line_of (lines.Done t)
