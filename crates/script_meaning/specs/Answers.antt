-- What each line of a script prints, and the state after it.
-- An answer fixes the whole state behind it: what isn't named stays as it was. A line that prints `bad` hands nothing
-- to anybody. The sender and each receiver keep the greatest moment that they were handed, and the moment of a
-- datagram counts, of a refused one too.
use Rattle.std.specs.Prelude.{◌≡◌, ◌⊎◌, ◌<◌, ◌≤◌, ◌-◌, ℕ, ℤ, zero, suc, pos, Bool, true, ◌&&◌, false, List, [], ◌∷◌, ◌++◌, map, length, replicate, Option, None, Some, Result, Ok, Err, slice_get, slice_index_or, slice_set, if◌then◌else◌}
use Rattle.std.specs.List.{AllByRecursion, filter, list_any}
use Rattle.std.specs.Option.{option_to_list}
use Rattle.theory.specs.Position.{Geometry, max_message, max_payload, position_of}
use Rattle.theory.specs.Wire.{IsFrame, Nak, Status, Wire}
use Rattle.theory.specs.Placed.{Among, Data, Frame, Pad, Placed, end_of}
use Rattle.theory.specs.Consumer.{Consumer, consumer_at, moved}
use Rattle.theory.specs.Entry.{committed}
use Rattle.theory.specs.Control.{setup_at}
use Rattle.theory.specs.Datagrams.{frames_of, resend_datagrams}
use Rattle.theory.specs.GroupLimit.{GroupEvent, all_heard}
use Rattle.theory.specs.Resend.{Action, NakAnswer, first_due, is_resent, kept, nak_answer}
use Rattle.theory.specs.Timing.{is_heartbeat_due, seen}
use Rattle.model.specs.Sender.{Sender, after_nak, after_status, in_cycle, sender_limit}
use Rattle.flow_control.specs.Laws.{is_status}
use Rattle.one_hand.specs.Legal.{IsStream}
use Rattle.one_hand.specs.Stream.{OpenClaim, Stream, after_claim, after_offer, answer_of, claim_by, claim_end, clean_end, cleaned_and_limited, forgotten_below, lowest, raised, with_abort, with_commit, with_consumer, without_consumer}
use Rattle.publication.specs.declared.refusal.Refusal.{Refusal}
use Rattle.sender.specs.Naming.{after_due, is_due}
use Rattle.script.specs.Meaning as commands
use Rattle.script.specs.Meaning.{CommandContent}
use Rattle.receiver.specs.declared.receiver_core.Outcome.{Outcome}
use Rattle.sender.specs.declared.sender_core.SenderAnswer.TheVariants as answers
use Rattle.sender.specs.Resending.Answers.{nak_result}
use Rattle.sender.specs.Resending.Handler.{answered_first}
use Rattle.sender.specs.declared.retransmit.answer.NakResult.{NakResult}
use Rattle.sender.specs.Cycling.{Cycle, GivesNew, IsNews, NewsContent, Says, AsksSetup, Misses, TellsNothing, Unreadable, alone, datagrams, is_heard, is_silent, sent_wires}
use Rattle.sender.specs.Sending.{named_once}
use Rattle.receiver.specs.Polling.{Answer, Polls, TellsPositions}
use Rattle.receiver.specs.declared.positions.Positions.{Positions}
use Rattle.script_meaning.specs.LineContents as content
use Rattle.script_meaning.specs.LineContents.{LineContent, Done, Limit, Position, FrameData, FramePad, Joined, Left, Refused, Packet, Nothing, NoMessage, OfReceiver, OfSender, Bad, poll_line, positions_line}
use Rattle.receiver.specs.Receiving.{TakesDatagram, Receiver, replies, ticked}
use Rattle.script_meaning.specs.ScriptState.{ScriptState, seat_of}

abbrev pub with_log : ScriptState → Stream → ScriptState
with_log s l = record s { log = l }

abbrev pub with_receiver : ScriptState → ℕ → Receiver → ScriptState
with_receiver s i r = record s { receivers = slice_set s.receivers i r }

-- ---- packets

-- their lines, numbered from here
abbrev pub packet_lines : ℕ → List (List ℕ) → List LineContent
packet_lines k [] = []
packet_lines k (bytes ∷ rest) = Packet k bytes ∷ packet_lines (suc k) rest

-- the frames of datagrams, and the lines of their bytes
abbrev pub lines_of : ScriptState → List (List Wire) → List LineContent
lines_of s sent = packet_lines (length s.packets) (datagrams sent)

abbrev pub given_out : ScriptState → List (List Wire) → ScriptState
given_out s sent = record s { packets = s.packets ++ datagrams sent }

abbrev pub or_nothing : List LineContent → List LineContent
or_nothing [] = Nothing ∷ []
or_nothing (line ∷ lines) = line ∷ lines

-- no packet has this number, and nothing changes
abbrev pub IsMissing : ScriptState → ℕ → List LineContent → ScriptState → Type 0
IsMissing old k lines new = (length old.packets ≤ k) × (lines ≡ Bad ∷ []) × (new ≡ old)

-- each of them is a frame that can be written
abbrev pub AreFrames : List Wire → Type 0
AreFrames wires = AllByRecursion IsFrame wires

-- ---- offers

-- a line that can't be had, and nothing changes
abbrev pub IsBad : ScriptState → List LineContent → ScriptState → Type 0
IsBad old lines new = (lines ≡ Bad ∷ []) × (new ≡ old)

-- one of eight publishers', a message that the log can hold
pub record MayOffer (l : Stream) (by : ℕ) (message : List ℕ) : Type 0 where
  pub legal : IsStream l
  pub publisher : by < 8
  pub bytes : AllByRecursion (λ b. b < 256) message
  pub short : length message ≤ max_message l.identity.geometry

abbrev pub Offered : ScriptState → ℕ → List ℕ → Result ℕ Refusal → List LineContent → ScriptState → Type 0
Offered old by message (Ok end) lines new = (lines ≡ Position end ∷ []) × (new ≡ with_log old (after_offer old.log by message))
Offered old by message (Err refusal) lines new = (lines ≡ Refused refusal ∷ []) × (new ≡ with_log old (after_offer old.log by message))

-- a message of so many bytes is too long, or its publisher has a claim open
abbrev pub MayNotTake : ScriptState → ℕ → ℕ → ℕ → List LineContent → ScriptState → Type 0
MayNotTake old by most size lines new = ((most < size) ⊎ ((c : OpenClaim) × (claim_by old.log by ≡ Some c))) × IsBad old lines new

abbrev pub OffersMessage : ScriptState → ℕ → List ℕ → List LineContent → ScriptState → Type 0
OffersMessage old by message lines new = MayOffer old.log by message × (claim_by old.log by ≡ None) × Offered old by message (answer_of old.log (length message)) lines new

-- ---- claims

-- one of eight publishers, and a message that one frame can hold
pub record MayClaimRange (l : Stream) (by size : ℕ) : Type 0 where
  pub legal : IsStream l
  pub publisher : by < 8
  pub short : size ≤ max_payload l.identity.geometry

abbrev pub Claims : ScriptState → ℕ → ℕ → Result ℕ Refusal → List LineContent → ScriptState → Type 0
Claims old by size (Ok end) lines new =
    (lines ≡ content.Claimed old.log.tail end ∷ []) × (new ≡ with_log old (after_claim old.log by size))
Claims old by size (Err refusal) lines new = (lines ≡ Refused refusal ∷ []) × (new ≡ with_log old (after_claim old.log by size))

abbrev pub ClaimsRange : ScriptState → ℕ → ℕ → List LineContent → ScriptState → Type 0
ClaimsRange old by size lines new = MayClaimRange old.log by size × (claim_by old.log by ≡ None) × Claims old by size (answer_of old.log size) lines new

-- a publisher's open claim
pub record HasClaim (s : ScriptState) (by : ℕ) (c : OpenClaim) : Type 0 where
  pub legal : IsStream s.log
  pub publisher : by < 8
  pub open_claim : claim_by s.log by ≡ Some c

abbrev pub HasNoClaim : ScriptState → ℕ → List LineContent → ScriptState → Type 0
HasNoClaim old by lines new = (claim_by old.log by ≡ None) × IsBad old lines new

-- it is filled with bytes 61 and committed
abbrev pub CommitsClaim : ScriptState → ℕ → List LineContent → ScriptState → Type 0
CommitsClaim old by lines new =
    (c : OpenClaim) × HasClaim old by c × (lines ≡ Position (claim_end c) ∷ []) × (new ≡ with_log old (with_commit old.log by c (replicate c.size 97)))

-- it becomes a padding
abbrev pub AbortsClaim : ScriptState → ℕ → List LineContent → ScriptState → Type 0
AbortsClaim old by lines new = (c : OpenClaim) × HasClaim old by c × (lines ≡ Position (claim_end c) ∷ []) × (new ≡ with_log old (with_abort old.log by c))

-- ---- readers

-- the reader of a number, 1 or above
abbrev pub reader_at : ScriptState → ℕ → Option Consumer
reader_at s zero = None
reader_at s (suc k) = slice_index_or s.readers k None

abbrev pub HasNoReader : ScriptState → ℕ → List LineContent → ScriptState → Type 0
HasNoReader old r lines new = (reader_at old r ≡ None) × IsBad old lines new

abbrev pub frame_line : ℕ → Frame → LineContent
frame_line at (Data flags payload) = FrameData at flags payload
frame_line at (Pad n) = FramePad at n

-- the reader past a frame
abbrev pub with_reader : ScriptState → ℕ → Consumer → ScriptState
with_reader s r c = record s { log = with_consumer s.log r c.at; readers = slice_set s.readers (r - 1) (Some c) }

-- no frame is committed where it stands
abbrev pub ReaderFindsNone : ScriptState → ℕ → List LineContent → ScriptState → Type 0
ReaderFindsNone old r lines new =
    (c : Consumer) × (reader_at old r ≡ Some c) × ((s : Placed) → Among s (committed old.log.entries) → s.at ≡ c.at → ⊥) × (lines ≡ NoMessage ∷ []) × (new ≡ old)

-- the committed frame where it stands
abbrev pub ReaderReads : ScriptState → ℕ → List LineContent → ScriptState → Type 0
ReaderReads old r lines new =
    (c : Consumer) × (s : Placed) × (reader_at old r ≡ Some c) × Among s (committed old.log.entries) × (s.at ≡ c.at) × (lines ≡ frame_line s.at s.frame ∷ []) × (new ≡ with_reader old r (moved c s))

-- a number beside the sender's that nobody has
abbrev pub IsVacant : ScriptState → ℕ → Type 0
IsVacant s zero = ⊥
IsVacant s (suc k) = slice_get s.readers k ≡ Some None

abbrev pub MayNotJoin : ScriptState → ℕ → List LineContent → ScriptState → Type 0
MayNotJoin old r lines new = (IsVacant old r → ⊥) × IsBad old lines new

-- a reader begins where the least consumer stands
pub record ReaderJoins (old : ScriptState) (r : ℕ) (lines : List LineContent) (new : ScriptState) : Type 0 where
  pub legal : IsStream old.log
  pub vacant : IsVacant old r
  pub shown : lines ≡ Joined (lowest old.log) ∷ []
  pub new_is : new ≡ with_reader old r (consumer_at (lowest old.log))

-- and nobody has its number
abbrev pub ReaderLeaves : ScriptState → ℕ → List LineContent → ScriptState → Type 0
ReaderLeaves old r lines new =
    (c : Consumer) × (reader_at old r ≡ Some c) × (lines ≡ Left ∷ []) × (new ≡ record old { log = without_consumer old.log r; readers = slice_set old.readers (r - 1) None })

-- ---- the keeper

-- the entries that are forgotten are remembered here
pub record Limits (old : ScriptState) (lines : List LineContent) (new : ScriptState) : Type 0 where
  pub legal : IsStream old.log
  pub shown : lines ≡ Limit (raised old.log) ∷ []
  pub new_is : new ≡ record old { log = cleaned_and_limited old.log; past = old.past ++ forgotten_below (clean_end old.log) old.log.entries }

-- ---- the sender

abbrev pub with_sender : ScriptState → Sender → ScriptState
with_sender s x = record s { sender = x }

abbrev pub clock_at : ScriptState → ℕ → ℕ
clock_at s now = seen s.sender.clock now

abbrev pub woken : ScriptState → ℕ → Sender
woken old now = record old.sender { clock = clock_at old now }

-- how far status messages let it send
abbrev pub limit_of : Stream → Sender → ℕ
limit_of l x = sender_limit l.start x

-- the same in a cycle, whose moment counts
abbrev pub cycle_limit : ScriptState → ℕ → ℕ
cycle_limit s now = limit_of s.log (in_cycle s.sender (clock_at s now))

-- whether a status message that doesn't ask has come: of any receiver, and of each that is waited for
abbrev pub has_come : List GroupEvent → Bool
has_come heard = list_any is_status heard

abbrev pub have_all_come : Option ℕ → List GroupEvent → Bool
have_all_come None heard = has_come heard
have_all_come (Some size) heard = all_heard size heard

-- its SETUP went out
abbrev pub named : Sender → Bool → Sender
named x due = if due then record x { setups = x.at ∷ x.setups } else x

-- frames that follow each other from here on end there
abbrev pub end_from : ℕ → List Placed → ℕ
end_from at [] = at
end_from at (s ∷ ss) = end_from (end_of s) ss

-- new frames went out
abbrev pub sent_on : Sender → List Placed → Sender
sent_on x frames = record x { at = end_from x.at frames; passed = x.passed ++ frames; sent = frames ++ x.sent }

-- what goes out again for an action: of the frames that were sent those of its range, in at most 15 datagrams
abbrev pub again_for : Geometry → Sender → Option Action → List (List Placed)
again_for g x None = []
again_for g x (Some a) = resend_datagrams g (filter (is_resent g x.at a) x.passed)

-- of the actions that are not answered the one taken first is due
abbrev pub again_of : Geometry → Sender → List (List Placed)
again_of g x = again_for g x (first_due x.actions)

-- frames went out again, and the action that was due is answered
abbrev pub resent_on : Sender → List Placed → Sender
resent_on x frames = record x { sent = frames ++ x.sent; actions = answered_first x.clock x.actions (first_due x.actions) }

-- the sender behind its new frames
abbrev pub behind_new : ScriptState → ℕ → Cycle → Sender
behind_new old now y = sent_on (in_cycle (named old.sender y.setup) (clock_at old now)) (frames_of y.fresh)

-- what goes out in a cycle
pub record IsCycle (old : ScriptState) (now : ℕ) (y : Cycle) : Type 0 where
  pub setup : y.setup ≡ is_due old.naming (clock_at old now)
  pub new : GivesNew old.log.identity.geometry (committed old.log.entries) old.sender.at (cycle_limit old now) y.fresh
  pub again : y.again ≡ again_of old.log.identity.geometry (behind_new old now y)
  pub beat : y.beat ≡ (is_silent y && is_heartbeat_due (option_to_list old.last) (has_come old.sender.heard) (clock_at old now))

abbrev pub cycled : ScriptState → ℕ → Cycle → Sender
cycled old now y = resent_on (behind_new old now y) (frames_of y.again)

-- the frames of its datagrams
abbrev pub wires_of : ScriptState → ℕ → Cycle → List (List Wire)
wires_of old now y = sent_wires old.log.identity old.sender.at (cycled old now y).at y

-- the log's first consumer is the sender
abbrev pub after_cycle : ScriptState → ℕ → Cycle → ScriptState
after_cycle old now y = record (given_out old (wires_of old now y)) {
  log = record old.log { consumers = Some (cycled old now y).at ∷ map seat_of old.readers };
  sender = cycled old now y;
  naming = after_due old.naming (clock_at old now);
  last = if is_heard y then Some (clock_at old now) else old.last;
}

abbrev pub Sends : ScriptState → ℕ → List LineContent → ScriptState → Type 0
Sends old now lines new = (y : Cycle) × IsCycle old now y × (lines ≡ or_nothing (lines_of old (wires_of old now y))) × (new ≡ after_cycle old now y)

-- a status message raises the limit
abbrev pub heard : ScriptState → ℕ → Status → Sender
heard old now f = after_status old.sender (clock_at old now) f.receiver (record { position = position_of old.log.identity.geometry f.term_id f.term_offset; window = f.window })

-- the position that a negative acknowledgement names
abbrev pub place_in : ScriptState → Nak → ℤ
place_in old f = position_of old.log.identity.geometry f.term_id f.term_offset

-- it is taken, or why not: by all frames that were sent, and the actions that are kept at that moment
abbrev pub nak_answered : ScriptState → ℕ → Nak → NakAnswer
nak_answered old now f = nak_answer old.log.identity.geometry old.log.start old.sender.at old.sender.passed (kept (clock_at old now) old.sender.actions) (place_in old f) f.length

abbrev pub missed : ScriptState → ℕ → Nak → Sender
missed old now f = after_nak old.log.identity.geometry old.log.start old.sender (clock_at old now) (place_in old f) f.length

abbrev pub SenderHears : ScriptState → ℕ → NewsContent → List LineContent → ScriptState → Type 0
SenderHears old now (Says f) lines new =
    (lines ≡ OfSender (answers.Status (pos (limit_of old.log (heard old now f)))) ∷ [])
    × (new ≡ record old { sender = heard old now f; naming = named_once (have_all_come old.sender.group (heard old now f).heard) old.naming })
SenderHears old now AsksSetup lines new =
    let out = alone (setup_at old.log.identity old.sender.at ∷ []) in
    (lines ≡ OfSender answers.Asked ∷ lines_of old out) × (new ≡ with_sender (given_out old out) (named (woken old now) true))
SenderHears old now (Misses f) lines new =
    (n : NakResult) × (lines ≡ OfSender (answers.Missed n) ∷ []) × (nak_result n ≡ nak_answered old now f) × (new ≡ with_sender old (missed old now f))
SenderHears old now TellsNothing lines new = (lines ≡ OfSender answers.Other ∷ []) × (new ≡ with_sender old (woken old now))
SenderHears old now (Unreadable fault) lines new = (lines ≡ OfSender (answers.Refused fault) ∷ []) × (new ≡ with_sender old (woken old now))

-- the sender is handed a datagram
abbrev pub Hears : ScriptState → ℕ → List ℕ → List LineContent → ScriptState → Type 0
Hears old now bytes lines new = (news : NewsContent) × IsNews old.log.identity bytes news × SenderHears old now news lines new

abbrev pub Replied : ScriptState → ℕ → ℕ → List LineContent → ScriptState → Type 0
Replied old k now lines new = (bytes : List ℕ) × (slice_get old.packets k ≡ Some bytes) × Hears old now bytes lines new

-- ---- the receivers

-- receiver i is handed a datagram
abbrev pub GetsDatagram : ScriptState → ℕ → ℕ → List ℕ → List LineContent → ScriptState → Type 0
GetsDatagram old i now bytes lines new =
    (outs : List Outcome) × (r : Receiver) × (s : Receiver) × (slice_get old.receivers i ≡ Some r) × TakesDatagram r now bytes outs s × (lines ≡ map OfReceiver outs) × (new ≡ with_receiver old i s)

abbrev pub Delivered : ScriptState → ℕ → ℕ → ℕ → List LineContent → ScriptState → Type 0
Delivered old k i now lines new = (bytes : List ℕ) × (slice_get old.packets k ≡ Some bytes) × GetsDatagram old i now bytes lines new

abbrev pub Ticks : ScriptState → ℕ → ℕ → List LineContent → ScriptState → Type 0
Ticks old i now lines new =
    (r : Receiver) × (slice_get old.receivers i ≡ Some r) × AreFrames (replies r now) × (lines ≡ or_nothing (lines_of old (alone (replies r now))))
    × (new ≡ with_receiver (given_out old (alone (replies r now))) i (ticked r now))

abbrev pub PollsBy : ScriptState → ℕ → List LineContent → ScriptState → Type 0
PollsBy old i lines new = (answer : Answer) × (r : Receiver) × (s : Receiver) × (slice_get old.receivers i ≡ Some r) × Polls r answer s × (lines ≡ poll_line answer ∷ []) × (new ≡ with_receiver old i s)

abbrev pub TellsBy : ScriptState → ℕ → List LineContent → ScriptState → Type 0
TellsBy old i lines new = (told : Option Positions) × (r : Receiver) × (slice_get old.receivers i ≡ Some r) × TellsPositions r told × (lines ≡ positions_line told ∷ []) × (new ≡ old)

-- ---- a line of a script

abbrev pub Answers : ScriptState → CommandContent → List LineContent → ScriptState → Type 0
Answers old (commands.Group size) lines new = (lines ≡ Done ∷ []) × (new ≡ old)
Answers old commands.Connect lines new = (lines ≡ Done ∷ []) × (new ≡ with_log old (record old.log { connected = true }))
Answers old commands.Disconnect lines new = (lines ≡ Done ∷ []) × (new ≡ with_log old (record old.log { connected = false }))
Answers old commands.Close lines new = (lines ≡ Done ∷ []) × (new ≡ with_log old (record old.log { closed = true }))
Answers old commands.Limit lines new = Limits old lines new
Answers old (commands.Offer by message) lines new = MayNotTake old by (max_message old.log.identity.geometry) (length message) lines new ⊎ OffersMessage old by message lines new
Answers old (commands.OfferSize by size) lines new = MayNotTake old by (max_message old.log.identity.geometry) size lines new ⊎ OffersMessage old by (replicate size 97) lines new
Answers old (commands.Claim by size) lines new = MayNotTake old by (max_payload old.log.identity.geometry) size lines new ⊎ ClaimsRange old by size lines new
Answers old (commands.Commit by) lines new = HasNoClaim old by lines new ⊎ CommitsClaim old by lines new
Answers old (commands.Abort by) lines new = HasNoClaim old by lines new ⊎ AbortsClaim old by lines new
Answers old (commands.Read r) lines new = HasNoReader old r lines new ⊎ (ReaderFindsNone old r lines new ⊎ ReaderReads old r lines new)
Answers old (commands.Join r) lines new = MayNotJoin old r lines new ⊎ ReaderJoins old r lines new
Answers old (commands.Leave r) lines new = HasNoReader old r lines new ⊎ ReaderLeaves old r lines new
Answers old (commands.Send now) lines new = Sends old now lines new
Answers old (commands.Deliver k i now) lines new = IsMissing old k lines new ⊎ Delivered old k i now lines new
Answers old (commands.Raw i now bytes) lines new = GetsDatagram old i now bytes lines new
Answers old (commands.Tick i now) lines new = Ticks old i now lines new
Answers old (commands.Reply k now) lines new = IsMissing old k lines new ⊎ Replied old k now lines new
Answers old (commands.RawBack now bytes) lines new = Hears old now bytes lines new
Answers old (commands.Poll i) lines new = PollsBy old i lines new
Answers old (commands.Image i) lines new = TellsBy old i lines new
