-- What a contract sees of a sender, and what becomes of it by a tick and by a datagram.
use Rattle.std.specs.Prelude.{◌≡◌, ◌⊎◌, ◌+◌, ◌*◌, ◌/◌, ◌≤◌, ℕ, ℤ, pos, true, false, ◌&&◌, Bool, List, [], ◌∷◌, Option, None, Some, if◌then◌else◌}
use Rattle.std.specs.Option.{option_to_list}
use Rattle.theory.specs.Position.{position_of}
use Rattle.theory.specs.Placed.{Among, Placed, end_of}
use Rattle.theory.specs.Wire.{Nak, Status}
use Rattle.theory.specs.Bytes.{Identity}
use Rattle.theory.specs.Datagrams.{frames_of}
use Rattle.theory.specs.Timing.{is_heartbeat_due, seen}
use Rattle.frame_source.specs.Sources.{Source}
use Rattle.sender.specs.Resending.Answers.{nak_result}
use Rattle.sender.specs.Resending.Handler.{Handler, after_due, after_nak, after_note, due_range, fresh, nak_answer_of}
use Rattle.sender.specs.declared.retransmit.answer.NakResult.{NakResult}
use Rattle.sender.specs.Naming.{Naming, after_due as named_after, is_due}
use Rattle.sender.specs.Cycling.{Cycle, GivesAgain, GivesNew, IsNews, NewsContent, Says, AsksSetup, Misses, TellsNothing, Unreadable, alone, datagrams, is_heard, is_silent, sent_wires, setups}
use Rattle.sender.specs.declared.sender_core.SenderAnswer.{SenderAnswer}
use Rattle.sender.specs.declared.sender_core.SenderAnswer.TheVariants as answers
use Rattle.sender.specs.declared.sender_core.SenderEvent.{SenderEvent}
use Rattle.sender.specs.declared.sender_core.SenderEvent.TheVariants as events

pub record Sending (R F : Type 0) : Type 0 where
  -- the log's
  pub identity : Identity
  pub reads : R
  pub flow : F
  -- what it remembers of its SETUPs, and whether each receiver was heard for which these go out
  pub naming : Naming
  -- whether a status message has come that doesn't ask
  pub heard : Bool
  -- its position, the end of what it sent of the stream; where the frames start that can be asked for again, and what is asked for
  pub handler : Handler
  -- the moment of the last datagram of frames and of the last heartbeat
  pub last : Option ℕ
  -- the greatest moment that it has seen
  pub clock : ℕ

-- it has met nothing yet
abbrev pub begun : {R F : Type 0} → Identity → ℕ → R → F → Sending R F
begun identity start reads flow = record {
  identity = identity;
  reads = reads;
  flow = flow;
  naming = record { clock = 0; last = None; heard = false };
  heard = false;
  handler = fresh identity.geometry start;
  last = None;
  clock = 0;
}

-- a flow control whose limit begins here, and that allows no more yet
pub record BeginsAt (start reached allowed : ℕ) : Type 0 where
  pub limit : reached ≡ start
  pub most : allowed ≡ start

abbrev pub at_moment : {R F : Type 0} → Sending R F → ℕ → Sending R F
at_moment s now = record s { clock = seen s.clock now }

-- ---- where it stands in its stream

-- a frame begins at p that can be read again, and leads to another start or to the sender's position
pub record LeadsOn (term : ℕ) (frames : List Placed) (starts : List ℕ) (at p : ℕ) : Type 0 where
  pub frame : Placed
  pub among : Among frame frames
  pub here : frame.at ≡ p
  pub below : end_of frame ≤ at
  pub near : at ≤ p + 3 * term / 4
  pub on : (end_of frame ≡ at) ⊎ Among (end_of frame) starts

-- what can be asked for again can be read there
abbrev pub AreThere : List Placed → Handler → Type 0
AreThere frames h = (p : ℕ) → Among p h.starts → LeadsOn h.geometry.term_length frames h.starts h.at p

-- it sends what comes from here, and has sent all before
pub record SendsFrom {R F : Type 0} (s : Sending R F) (source : Source) : Type 0 where
  pub identity : source.identity ≡ s.identity
  pub position : source.position ≡ s.handler.at
  pub near : AreThere source.frames s.handler

-- and still is the sender of its stream
pub record GoesOn {R F : Type 0} (s t : Sending R F) (source : Source) : Type 0 where
  pub identity : t.identity ≡ s.identity
  pub from : SendsFrom t source

-- ---- a tick

-- the frames were sent, one after the other
abbrev pub all_noted : Handler → List Placed → Handler
all_noted h [] = h
all_noted h (s ∷ ss) = all_noted (after_note h s.at (end_of s)) ss

abbrev pub after_fresh : {R F : Type 0} → Sending R F → Cycle → Handler
after_fresh s y = all_noted s.handler (frames_of y.fresh)

-- where it sends nothing else, and a status message has come, and a tenth of a second has passed
abbrev pub is_beat_due : {R F : Type 0} → Sending R F → Cycle → Bool
is_beat_due s y = is_silent y && is_heartbeat_due (option_to_list s.last) s.heard s.clock

-- what goes out in a cycle at the moment that was seen last, by the limit of the flow control after a tick, where these frames are to be read in the end
pub record IsCycle {R F : Type 0} (s : Sending R F) (limit : ℕ) (frames : List Placed) (y : Cycle) : Type 0 where
  pub setup : y.setup ≡ is_due s.naming s.clock
  pub new : GivesNew s.identity.geometry frames s.handler.at limit y.fresh
  pub again : GivesAgain s.identity.geometry frames (due_range (after_fresh s y)) y.again
  pub beat : y.beat ≡ is_beat_due s y

-- the sender behind a cycle, by its reads and its flow control then
abbrev pub cycled : {R F : Type 0} → Sending R F → R → F → Cycle → Sending R F
cycled s reads flow y = record s {
  reads = reads;
  flow = flow;
  naming = named_after s.naming s.clock;
  handler = after_due (after_fresh s y) s.clock;
  last = if is_heard y then Some s.clock else s.last;
}

-- the reads left the source at this position, others may have added to the frames meanwhile
pub record ReadsTo (grown : List Placed → List Placed → Type 0) (old : Source) (to : ℕ) (new : Source) : Type 0 where
  pub grows : grown old.frames new.frames
  pub moved : new ≡ record old { position = to; frames = new.frames }

-- between two states of the reads one of their calls looked and found no frame: by what calls leave of them and of the log, and
-- what one does that finds none
pub record HasLooked {R L : Type 0} (leaves : R → L → R → L → Type 0) (looked : R → R → Type 0) (r : R) (l : L) (q : R) (m : L) : Type 0 where
  pub before : R
  pub at : L
  pub after : R
  pub there : L
  pub until : leaves r l before at
  pub look : looked before after
  pub since : leaves after there q m

-- a cycle: by what it is to have looked and found no frame, what a flow control is after a tick, and the limit of one
pub record Cycles {R F : Type 0} (Looked : Type 0) (grown : List Placed → List Placed → Type 0) (after_tick : F → ℕ → F) (reached : F → ℕ) (s : Sending R F) (old new : Source) (t : Sending R F) (sent : List (List ℕ)) : Type 0 where
  pub cycle : Cycle
  pub is : IsCycle s (reached (after_tick s.flow s.clock)) new.frames cycle
  -- where reading didn't end at a frame that may not go, it ended at a look that found none
  pub looked : is.new.reads ≡ frames_of cycle.fresh → Looked
  pub state : t ≡ cycled s t.reads (after_tick s.flow s.clock) cycle
  pub sends : sent ≡ datagrams (sent_wires s.identity s.handler.at t.handler.at cycle)
  pub reads : ReadsTo grown old t.handler.at new

-- ---- a datagram

-- once all were heard, its SETUPs go out by themselves no more
abbrev pub named_once : Bool → Naming → Naming
named_once all n = if all then record n { heard = true } else n

-- what a flow control makes of a status message
abbrev pub flow_told : {R F : Type 0} → (F → ℤ → ℤ → ℤ → ℕ → F) → Sending R F → Status → F
flow_told after_status s f = after_status s.flow (position_of s.identity.geometry f.term_id f.term_offset) f.window f.receiver s.clock

-- what a sender makes of a status message: by what a flow control is after one, and whether it has heard all then
abbrev pub told : {R F : Type 0} → (F → ℤ → ℤ → ℤ → ℕ → F) → (F → Bool) → Sending R F → Status → Sending R F
told after_status has_heard s f = record s {
  flow = flow_told after_status s f;
  naming = named_once (has_heard (flow_told after_status s f)) s.naming;
  heard = true;
}

-- what it makes of a negative acknowledgement
abbrev pub asked : {R F : Type 0} → Sending R F → Nak → Sending R F
asked s f = record s { handler = after_nak s.handler s.clock (position_of s.identity.geometry f.term_id f.term_offset) f.length }

abbrev pub HearsNews : {R F : Type 0} → (F → ℤ → ℤ → ℤ → ℕ → F) → (F → ℕ) → (F → Bool) → Sending R F → NewsContent → SenderAnswer → Sending R F → List (List ℕ) → Type 0
HearsNews after_status reached has_heard s (Says f) answer t sent = (t ≡ told after_status has_heard s f) × (answer ≡ answers.Status (pos (reached t.flow))) × (sent ≡ [])
HearsNews after_status reached has_heard s AsksSetup answer t sent = (t ≡ s) × (answer ≡ answers.Asked) × (sent ≡ datagrams (alone (setups s.identity s.handler.at true)))
HearsNews after_status reached has_heard s (Misses f) answer t sent =
    (n : NakResult) × (answer ≡ answers.Missed n) × (nak_result n ≡ nak_answer_of s.handler s.clock (position_of s.identity.geometry f.term_id f.term_offset) f.length) × (t ≡ asked s f) × (sent ≡ [])
HearsNews after_status reached has_heard s TellsNothing answer t sent = (t ≡ s) × (answer ≡ answers.Other) × (sent ≡ [])
HearsNews after_status reached has_heard s (Unreadable fault) answer t sent = (t ≡ s) × (answer ≡ answers.Refused fault) × (sent ≡ [])

pub record HearsDatagram {R F : Type 0} (after_status : F → ℤ → ℤ → ℤ → ℕ → F) (reached : F → ℕ) (has_heard : F → Bool) (s : Sending R F) (bytes : List ℕ) (answer : SenderAnswer) (t : Sending R F) (sent : List (List ℕ)) : Type 0 where
  pub news : NewsContent
  pub is : IsNews s.identity bytes news
  pub hears : HearsNews after_status reached has_heard s news answer t sent

-- ---- an event

abbrev pub Steps : {R F : Type 0} → Type 0 → (List Placed → List Placed → Type 0) → (F → ℤ → ℤ → ℤ → ℕ → F) → (F → ℕ → F) → (F → ℕ) → (F → Bool) → Sending R F → SenderEvent → Source → Source → SenderAnswer → Sending R F → List (List ℕ) → Type 0
Steps Looked grown after_status after_tick reached has_heard s events.Tick old new answer t sent = (answer ≡ answers.Ticked) × Cycles Looked grown after_tick reached s old new t sent
Steps Looked grown after_status after_tick reached has_heard s (events.Datagram bytes) old new answer t sent = (new ≡ old) × HearsDatagram after_status reached has_heard s bytes.now answer t sent
