-- A log that runs, whose frames lie in plain memory, as a log of the model; and which events of the model each kind of step on
-- its words is. Its control words are those of the stream, whose other words are there in proofs alone.
use Rattle.std.specs.Prelude.{◌≡◌, ◌⊎◌, ℕ, zero, suc, ◌+◌, ◌-◌, ◌/◌, ◌%◌, ◌^◌, ◌<◌, ◌≤◌, ◌==◌, Bool, false, List, [], ◌∷◌, ◌++◌, replicate, slice_index, slice_set}
use mathlib.Core.Option.{some}
use lib.ListN.{get_elem?}
use prog.Atomic.{either}
use Rattle.atomic_table.specs.Table.{State, opening}
use Rattle.theory.specs.Bytes.{IsIdentity}
use Rattle.theory.specs.Placed.{Among, Frame, Pad, Placed}
use Rattle.theory.specs.Position.{framed_length, id_of, max_message}
use Rattle.theory.specs.Refusal.{limit_in}
use Rattle.theory.specs.Words.{id_before, id_in, tail_word}
use Rattle.position.specs.Words.{IsLegal}
use Rattle.publication.specs.declared.pass.ClaimRange.{ClaimRange}
use Rattle.publication.specs.declared.pass.FrameWords.{FrameWords}
use Rattle.publication.specs.declared.pass.Pass.{Pass}
use Rattle.publication.specs.declared.pass.Reading.{Reading}
use Rattle.publication.specs.Steps.{frame, geometry_of}
use Rattle.region.specs.declared.access.Access.{Access}
use Rattle.log_rule.specs.declared.claims.view.View.{View}
use Rattle.log_rule.specs.declared.rule.Key.{Key}
use Rattle.log_rule.specs.Claims.Packs.{consumer_place, count_place, limit_place, tail_place}
use Rattle.log_rule.specs.Claims.Sure.{LearnsControls}
use Rattle.log_rule.specs.Keepings.{Joins, LearnsLimit, Leaves, MayJoin, MayLeave, MayRaise, Raises, keeping, least_there}
use Rattle.log_rule.specs.Kept.{IsThere}
use Rattle.log_rule.specs.Readings.{Consumes, IsConsumer, MayPass, reading}
use Rattle.log_memory.specs.declared.view.Site.{Site}
use Rattle.log_memory.specs.Kinds.{AdvancesCount, ExchangesNext, LoadsCount, LoadsLimit, LoadsNext, LoadsPosition, LoadsTail}
use Rattle.log_memory.specs.Open.{HoldsOpen}
use Rattle.log_memory.specs.Opening.{SlotsBegun, WordsBegun}
use Rattle.log_memory.specs.Parking.{Fetches, Parks}
use Rattle.log_memory.specs.Places.{head_place}
use Rattle.log_memory.specs.Rule.{Board, LogMemoryRuled, passes_of, ring, stream_state, whole_seat}
use Rattle.log_memory.specs.Steps.{Adds, AreApart, CleansTo, Commits, Gives, GivesRoom, IsIdle, Looks, MayCleanTo, MayCommit, MayGive, MayGiveRoom, MayReread, MayTakeBack, Mine, Rereads, Rests, TakesBack}
use Rattle.model.specs.Log.{Abort, Add, Arm, Clean, Close, Commit, Connect, Join, Leave, Log, LogEvent, Look, Miss, Move, Raise, Rotate}
use Rattle.model.specs.World.{IsOpened}
use Rattle.threads_meaning.specs.Law.{HeadlineHolds, LogRun, Steps, alone, opened_log}
use Rattle.threads_meaning.specs.Modelled.{IsModel, IsModelOf, is_handed, spelled}
use Rattle.threads_meaning.specs.Steps.{ClosesBy, ConnectsBy, IsBelow, IsNextFrame, IsOpen, IsOver, RaisesTo}

-- ---- what a log that runs is

-- by the words of the table and what its seats know, with no word of the stream that isn't there
pub record IsRunning (t : Site) (gone : List ℕ) (s : Board) (l : Log) : Type 0 where
  pub ruled : LogMemoryRuled t s
  pub model : IsModel t.key gone s.words (passes_of s.views) l

-- the words of the stream, as the rule has them, and what seats know of it
abbrev pub stream_of : (t : Site) (s : Board) → LogMemoryRuled t s → State (Unit {0}) View
stream_of t s r = stream_state r.stream s.views

-- the stream is that log where the table is, and the other way round
pub record AreOneLog (t : Site) (gone : List ℕ) (s : Board) (l : Log) (r : LogMemoryRuled t s) : Type 0 where
  pub stream : IsModel t.key gone s.words (passes_of s.views) l → IsModelOf t.key gone (stream_of t s r) l
  pub table : IsModelOf t.key gone (stream_of t s r) l → IsModel t.key gone s.words (passes_of s.views) l

-- ---- a step, and its events

-- a seat has made a step on the word i, which became f of what it was, and is told this
pub record Makes (t : Site) (s : Board) (id : ℕ) (m : Mine) (i : ℕ) (f : ℕ → ℕ) (tells : ℕ → Mine → Type 0) (s' : Board) : Type 0 where
  pub before : LogMemoryRuled t s
  pub after : LogMemoryRuled t s'
  pub at : get_elem? s.views id ≡ some m.0
  pub mine : Mine
  pub words : s'.words ≡ slice_set s.words i (f (slice_index s.words i))
  pub views : s'.views ≡ slice_set s.views id mine.0
  pub told : tells (slice_index s.words i) mine

-- the streams of two tables are related by these events
pub record Happen (t : Site) (gone : List ℕ) (s : Board) (events : List LogEvent) (s' : Board) (left : List ℕ) : Type 0 where
  pub before : LogMemoryRuled t s
  pub after : LogMemoryRuled t s'
  pub steps : Steps t.key gone (stream_of t s before) events (stream_of t s' after) left

-- of a kind of step, by the word that is found: it may be made where the rule holds, and wherever it was made, it is such events
pub record Means (t : Site) (gone : List ℕ) (id : ℕ) (m : Mine) (i : ℕ) (f : ℕ → ℕ) (tells : ℕ → Mine → Type 0) (events : ℕ → List LogEvent → Type 0) : Type 0 where
  pub leads : (s : Board) → LogMemoryRuled t s → get_elem? s.views id ≡ some m.0 → slice_index s.words i < 2 ^ 64 → (s' : Board) × Makes t s id m i f tells s'
  pub are : (s s' : Board) → Makes t s id m i f tells s' → (es : List LogEvent) × events (slice_index s.words i) es × Happen t gone s es s' gone

-- ---- which events

abbrev pub IsOne : LogEvent → ℕ → List LogEvent → Type 0
IsOne e n events = events ≡ e ∷ []

-- the load of a tail that is open arms the pass, and another is a look
abbrev pub ArmsOrLooks : Pass → ℕ → List LogEvent → Type 0
ArmsOrLooks v n events = (IsOpen v n × (events ≡ Arm v.number (limit_in v.right.limit) ∷ [])) ⊎ ((IsOpen v n → ⊥) × (events ≡ Look ∷ []))

-- an addition claims below the term's end, and misses above it
abbrev pub AddsOrMisses : Pass → ℕ → ℕ → List LogEvent → Type 0
AddsOrMisses v size n events = (IsBelow v n × (events ≡ Add v.number size ∷ [])) ⊎ (IsOver v n × (events ≡ Miss v.number ∷ []))

-- a consumer moves past the frame that these words spell
abbrev pub MovesPast : Key → ℕ → FrameWords → ℕ → List LogEvent → Type 0
MovesPast key number frame n events = (past : Placed) × (spelled key.identity past ≡ frame) × (events ≡ Move number past ∷ [])

-- so many words are cleaned, one after the other; where there is none, the load is a look
abbrev pub cleanings : ℕ → ℕ → List LogEvent
cleanings least zero = Look ∷ []
cleanings least (suc n) = replicate (suc n) (Clean least)

abbrev pub CleansUpTo : Pass → ℕ → ℕ → List LogEvent → Type 0
CleansUpTo v end n events = events ≡ cleanings (least_there v.keeping.there v.keeping.positions) ((end - v.keeping.cleaned) / 8)

-- the words of a frame of so many bytes, at a position, are those of this one
pub record Spells (key : Key) (p cut : ℕ) (ws : List ℕ) (f : Frame) : Type 0 where
  pub legal : IsLegal key.identity.geometry f
  pub is : spelled key.identity (record { at = p; frame = f }) ≡ frame p cut ws

-- a message's claim of one frame, which is so long, begins there
pub record IsSingle (v : Pass) (p cut : ℕ) : Type 0 where
  pub claim : ClaimRange
  pub among : Among claim v.right.claims
  pub here : claim.start ≡ p
  pub message : claim.padding ≡ false
  pub cuts : claim.cuts ≡ cut ∷ []

-- ---- each kind

pub record RunningSteps : Type 0 where
  -- a publisher's loads
  pub load_limit : (t : Site) (gone : List ℕ) (id : ℕ) (m : Mine) → IsIdle m.0 → Means t gone id m limit_place (λ n. n) (LoadsLimit m) (IsOne Look)
  pub load_count : (t : Site) (gone : List ℕ) (id : ℕ) (m : Mine) → IsIdle m.0 → Means t gone id m count_place (λ n. n) (LoadsCount m) (IsOne Look)
  -- under a number that wasn't handed over
  pub load_tail : (t : Site) (gone : List ℕ) (id : ℕ) (m : Mine) → IsIdle m.0 → 120 ≤ m.0.view.pass.right.parts → (m.0.view.pass.right.parts < 1024 → Among m.0.view.pass.number m.0.view.pass.right.numbers) → is_handed gone m.0.view.pass.number ≡ false
      → Means t gone id m (tail_place m.0.view.pass.seen.count) (λ n. n) (LoadsTail m) (ArmsOrLooks m.0.view.pass)
  pub load_next : (t : Site) (gone : List ℕ) (id : ℕ) (m : Mine) → IsIdle m.0 → (k : ℕ) → m.0.view.pass.seen.full ≡ suc k → k + 1 < 2 ^ 31
      → Means t gone id m (tail_place (k + 1)) (λ n. n) (LoadsNext k m) (IsOne Look)
  -- the next term begins, and the active count goes on
  pub exchange_next : (t : Site) (gone : List ℕ) (id : ℕ) (m : Mine) → IsIdle m.0 → (k from : ℕ) → 0 < m.0.view.pass.right.parts → m.0.view.pass.seen.full ≡ suc k → k + 1 < 2 ^ 31 → id_in from ≡ id_before (geometry_of m.0.view.pass) k 2
      → Means t gone id m (tail_place (k + 1)) (λ n. either (n == from) (tail_word (id_of (geometry_of m.0.view.pass) (k + 1)) 0) n) (ExchangesNext k from m) (IsOne Rotate)
  pub exchange_count : (t : Site) (gone : List ℕ) (id : ℕ) (m : Mine) → IsIdle m.0 → (k : ℕ) → 0 < m.0.view.pass.right.parts → m.0.view.pass.seen.begun ≡ k + 1
      → Means t gone id m count_place (λ n. either (n == k) (k + 1) n) (AdvancesCount k m) (IsOne Rotate)
  pub add : (t : Site) (gone : List ℕ) (id size : ℕ) (m : Mine) → IsIdle m.0 → 120 ≤ m.0.view.pass.right.parts → m.0.view.pass.right.armed ≡ 1 → size ≤ max_message (geometry_of m.0.view.pass)
      → Means t gone id m (tail_place m.0.view.pass.seen.term) (λ n. (n + framed_length (geometry_of m.0.view.pass) size) % 2 ^ 64) (Adds t size m) (AddsOrMisses m.0.view.pass size)
  -- what may be committed are a frame's words. One that is the next of its claim is committed, or the only one of its claim as a padding
  pub spells : (t : Site) (p : ℕ) (ws : List ℕ) (m : Mine) (may : MayCommit t p ws m) → (f : Frame) × Spells t.key p may.cut ws f
  pub commit : (t : Site) (gone : List ℕ) (id p : ℕ) (ws : List ℕ) (m : Mine) → IsIdle m.0 → (may : MayCommit t p ws m) → (start : ℕ) (f : Frame) → Spells t.key p may.cut ws f → IsNextFrame m.0.view.pass start p f
      → Means t gone id m (head_place (ring t) p) (λ _. slice_index ws 0) (λ _ w. Commits t p ws m w) (IsOne (Commit start f))
  pub abort : (t : Site) (gone : List ℕ) (id p : ℕ) (ws : List ℕ) (m : Mine) → IsIdle m.0 → (may : MayCommit t p ws m) → (cut : ℕ) → Spells t.key p may.cut ws (Pad cut) → IsSingle m.0.view.pass p cut
      → Means t gone id m (head_place (ring t) p) (λ _. slice_index ws 0) (λ _ w. Commits t p ws m w) (IsOne (Abort p))
  -- a consumer looks, gives back, and moves
  pub look : (t : Site) (gone : List ℕ) (id place : ℕ) (r : Reading) (m : Mine) (is : IsConsumer m.0.view.pass place r) → r.number < 8 → IsIdle m.0 → Means t gone id m (head_place (ring t) r.position) (λ n. n) (λ n w. Looks t place r m is n w) (IsOne Look)
  pub reread : (t : Site) (gone : List ℕ) (id place : ℕ) (r : Reading) (f : FrameWords) (m : Mine) → MayReread place r f m.0.view.pass → IsIdle m.0 → Means t gone id m (head_place (ring t) f.start) (λ n. n) (λ n w. Rereads t r f m n w) (IsOne Look)
  pub give : (t : Site) (gone : List ℕ) (id i : ℕ) (r : Reading) (f : FrameWords) (m : Mine) → MayGive t r f m → Means t gone id m i (λ n. n) (λ _ w. Gives m w) (IsOne Look)
  pub move : (t : Site) (gone : List ℕ) (id place : ℕ) (r : Reading) (end : ℕ) (m : Mine) → IsConsumer m.0.view.pass place r → (may : MayPass m.0.view.pass place end) → r.number < 8 → IsIdle m.0
      → Means t gone id m (consumer_place r.number) (λ _. end) (λ n w. Rests (λ a _ c. reading (λ v k w. Consumes v place end w) a 0 c) m n w) (MovesPast t.key r.number may.frame)
  -- memory goes to and fro
  pub take_back : (t : Site) (gone : List ℕ) (id : ℕ) (m : Mine) → MayTakeBack m.0 → Means t gone id m (head_place (ring t) m.0.room.freed) (λ n. n) (λ n w. TakesBack t m n w) (IsOne Look)
  pub give_room : (t : Site) (gone : List ℕ) (id : ℕ) (m : Mine) → MayGiveRoom t m → Means t gone id m (head_place (ring t) m.0.room.freed) (λ _. 0) (λ _ w. GivesRoom m w) (IsOne Look)
  pub park : (t : Site) (gone : List ℕ) (id i : ℕ) (m : Mine) → IsIdle m.0 → HoldsOpen t m → Means t gone id m i (λ n. n) (λ _ w. Parks m w) (IsOne Look)
  pub fetch : (t : Site) (gone : List ℕ) (id i : ℕ) (m : Mine) → m.0.part.has ≡ 0 → AreApart m.0.parked → Means t gone id m i (λ n. n) (λ _ w. Fetches t m w) (IsOne Look)
  -- the keeper's steps
  pub clean_to : (t : Site) (gone : List ℕ) (id i end : ℕ) (m : Mine) → MayCleanTo end m.0 → IsIdle m.0 → Means t gone id m i (λ n. n) (λ _ w. CleansTo end m w) (CleansUpTo m.0.view.pass end)
  pub sweep : (t : Site) (gone : List ℕ) (id j : ℕ) (m : Mine) → m.0.view.pass.keeping.right ≡ 1 → IsThere m.0.view.pass.keeping.there j → j < 8 → IsIdle m.0 → Means t gone id m (consumer_place j) (λ n. n) (LoadsPosition j m) (IsOne Look)
  -- one joins at the least position that the keeper saw
  pub join : (t : Site) (gone : List ℕ) (id number place n : ℕ) (m : Mine) → MayJoin m.0.view.pass number n → IsIdle m.0 → n ≡ least_there m.0.view.pass.keeping.there m.0.view.pass.keeping.positions
      → Means t gone id m (consumer_place number) (λ _. n) (λ k w. Rests (λ a _ c. keeping (λ v w. LearnsControls [] v w) (λ v w. Joins v number place n w) a c) m k w) (IsOne (Join number n))
  pub leave : (t : Site) (gone : List ℕ) (id place number : ℕ) (m : Mine) → MayLeave m.0.view.pass place number → IsIdle m.0
      → Means t gone id m (consumer_place number) (λ _. 0) (λ k w. Rests (λ a _ c. keeping (λ v w. LearnsControls [] v w) (λ v w. Leaves v place number w) a c) m k w) (IsOne (Leave number))
  -- the limit's word is stored: the limit rises, or the log is connected or not, or closed
  pub raise : (t : Site) (gone : List ℕ) (id word least : ℕ) (m : Mine) → MayRaise m.0.view.pass word → 0 < m.0.view.pass.right.parts → IsIdle m.0 → RaisesTo least m.0.view.pass word
      → Means t gone id m limit_place (λ _. word) (λ k w. Rests (λ a _ c. keeping (LearnsLimit word) (λ v w. Raises v word w) a c) m k w) (IsOne (Raise least))
  pub connect : (t : Site) (gone : List ℕ) (id word : ℕ) (on : Bool) (m : Mine) → MayRaise m.0.view.pass word → 0 < m.0.view.pass.right.parts → IsIdle m.0 → ConnectsBy on m.0.view.pass word
      → Means t gone id m limit_place (λ _. word) (λ k w. Rests (λ a _ c. keeping (LearnsLimit word) (λ v w. Raises v word w) a c) m k w) (IsOne (Connect on))
  pub close : (t : Site) (gone : List ℕ) (id word : ℕ) (m : Mine) → MayRaise m.0.view.pass word → 0 < m.0.view.pass.right.parts → IsIdle m.0 → ClosesBy m.0.view.pass word
      → Means t gone id m limit_place (λ _. word) (λ k w. Rests (λ a _ c. keeping (LearnsLimit word) (λ v w. Raises v word w) a c) m k w) (IsOne Close)

-- ---- from a log that opens

-- a table that is a log to which a run of the model leads
pub record IsInRun (t : Site) (gone : List ℕ) (s : Board) (past : List LogEvent) (l : Log) : Type 0 where
  pub running : IsRunning t gone s l
  pub opened : IsOpened (alone (opened_log t.key))
  pub run : LogRun (opened_log t.key) past l

-- it is a log that opens at first
abbrev pub BeginsARun : Type 0
BeginsARun = (t : Site) (words : List ℕ) (slots : List Access) → IsIdentity t.key.identity → WordsBegun t words → SlotsBegun t slots → IsInRun t [] (opening words slots (whole_seat t)) [] (opened_log t.key)

-- events lead from a table that is a log of the model to one that is again a log, to which they lead
abbrev pub TablesRun : Type 0
TablesRun = (t : Site) (gone left : List ℕ) (s s' : Board) (events : List LogEvent) (l : Log) → IsRunning t gone s l → Happen t gone s events s' left → (new : Log) × LogRun l events new × IsRunning t left s' new

-- and a run goes on by them
abbrev pub RunsGoOn : Type 0
RunsGoOn = (t : Site) (gone left : List ℕ) (s s' : Board) (past events : List LogEvent) (l : Log) → IsInRun t gone s past l → Happen t gone s events s' left → (new : Log) × LogRun l events new × IsInRun t left s' (past ++ events) new

-- the headline holds of each table in it
abbrev pub RunsAreHonest : Type 0
RunsAreHonest = (t : Site) (gone : List ℕ) (s : Board) (past : List LogEvent) (l : Log) → IsInRun t gone s past l → HeadlineHolds l

abbrev pub TablesAreStreams : Type 0
TablesAreStreams = (t : Site) (gone : List ℕ) (s : Board) (l : Log) (r : LogMemoryRuled t s) → AreOneLog t gone s l r
