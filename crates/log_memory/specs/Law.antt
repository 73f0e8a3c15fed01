-- Each kind of step keeps the rule.
use Rattle.std.specs.Prelude.{◌≡◌, ℕ, suc, ◌+◌, ◌%◌, ◌^◌, ◌<◌, ◌≤◌, ◌==◌, List, [], ◌∷◌, slice_index}
use prog.Atomic.{either}
use Rattle.atomic_table.specs.Table.{Allows, Joins as SeatsJoin, Splits, opening}
use Rattle.publication.specs.declared.step.WordStep.TheVariants as steps
use Rattle.theory.specs.Placed.{Among}
use Rattle.theory.specs.Position.{framed_length, id_of, max_message}
use Rattle.theory.specs.Words.{id_before, id_in, tail_word}
use Rattle.publication.specs.Steps.{Arms, Counts, ExchangesCount, Nexts, Rotates, Sees, geometry_of, tail_exchange, tail_step}
use Rattle.publication.specs.declared.pass.FrameWords.{FrameWords}
use Rattle.publication.specs.declared.pass.Reading.{Reading}
use Rattle.publication.specs.declared.pass.Pass.{Pass}
use Rattle.log_rule.specs.Claims.Closing.{both_seats, handing_seats, numbered_seat, spent_seat}
use Rattle.log_rule.specs.Meetings.{Steadies, Steady, back_left, back_right, meeting, meeting_seats, showing, was_shown}
use Rattle.log_rule.specs.Shares.{Weighs}
use Rattle.log_rule.specs.Table.{keeper_left, keeper_right, knowledge_right, news_left, news_right, reader_alone, reader_left, reader_right, returned_seat, told_seat}
use Rattle.log_memory.specs.Lifted.{lifted_left, lifted_right, lowered}
use Rattle.log_rule.specs.Claims.Packs.{consumer_place, count_place, limit_place, tail_place}
use Rattle.log_rule.specs.Claims.Sure.{LearnsControls}
use Rattle.log_rule.specs.Keepings.{Joins, LearnsLimit, Leaves, MayJoin, MayLeave, MayRaise, Raises, keeping, sweeping}
use Rattle.log_rule.specs.Kept.{IsThere}
use Rattle.log_rule.specs.Readings.{Consumes, IsConsumer, MayPass, reading}
use Rattle.log_rule.specs.Claims.Plays as words
use Rattle.log_rule.specs.Claims.Plays.{dealing_seat, dealt_seat, newcomer, no_keeping, playing}
use Rattle.region.specs.declared.access.Access.{Access}
use Rattle.log_memory.specs.declared.view.LogView.{LogView}
use Rattle.log_memory.specs.declared.view.Site.{Site}
use Rattle.log_memory.specs.Places.{head_place}
use Rattle.log_memory.specs.Opening.{SlotsBegun, WordsBegun}
use Rattle.log_memory.specs.Rule.{LogMemoryRuled, ring, whole_seat}
use Rattle.log_memory.specs.Seats.{dealt_with, joining, spent_with, viewing}
use Rattle.log_memory.specs.Open.{HoldsOpen}
use Rattle.log_memory.specs.Parking.{Fetches, Parks}
use Rattle.log_memory.specs.Steps.{Adds, AreApart, CleansTo, Commits, Gives, GivesRoom, IsIdle, Looks, MayCleanTo, MayCommit, MayGive, MayGiveRoom, MayReread, MayTakeBack, Mine, Rereads, Rests, TakesBack, any_step}

-- such a step, whatever stands, keeps the rule, tells this of what its seat knows of the stream, and moves no memory
abbrev pub Keeps : Site → ℕ → ℕ → (ℕ → ℕ) → (words.Mine → ℕ → words.Mine → Type 0) → Mine → Type 0
Keeps t id i f then m = (slots : ℕ) → Allows (LogMemoryRuled t) slots id m i f (λ n w. Rests then m n w)

pub record StepsKeep : Type 0 where
  -- it holds of a log that opens
  pub begins : (t : Site) (words : List ℕ) (slots : List Access) → WordsBegun t words → SlotsBegun t slots → LogMemoryRuled t (opening words slots (whole_seat t))
  -- a publisher's loads and exchanges move no memory
  pub load_limit : (t : Site) (id : ℕ) (m : Mine) → IsIdle m.0 → Keeps t id limit_place (λ n. n) (playing Sees (λ _ n. steps.Limit n ∷ []) any_step) m
  pub load_count : (t : Site) (id : ℕ) (m : Mine) → IsIdle m.0 → Keeps t id count_place (λ n. n) (playing Counts (λ _ n. steps.Count n ∷ []) any_step) m
  pub load_tail : (t : Site) (id : ℕ) (m : Mine) → IsIdle m.0 → 120 ≤ m.0.view.pass.right.parts → (m.0.view.pass.right.parts < 1024 → Among m.0.view.pass.number m.0.view.pass.right.numbers) → Keeps t id (tail_place m.0.view.pass.seen.count) (λ n. n) (playing Arms (λ v n. tail_step v n ∷ []) any_step) m
  pub load_next : (t : Site) (id : ℕ) (m : Mine) → IsIdle m.0 → (k : ℕ) → m.0.view.pass.seen.full ≡ suc k → k + 1 < 2 ^ 31 → Keeps t id (tail_place (k + 1)) (λ n. n) (playing (λ v n w. Nexts v k n w) (λ _ n. steps.NextTail ((k + 1) % 3) n ∷ []) any_step) m
  pub exchange_next : (t : Site) (id : ℕ) (m : Mine) → IsIdle m.0 → (k from : ℕ) → 0 < m.0.view.pass.right.parts → m.0.view.pass.seen.full ≡ suc k → k + 1 < 2 ^ 31 → id_in from ≡ id_before (geometry_of m.0.view.pass) k 2
      → Keeps t id (tail_place (k + 1)) (λ n. either (n == from) (tail_word (id_of (geometry_of m.0.view.pass) (k + 1)) 0) n) (playing (λ v n w. Rotates v k from n w) (λ v n. tail_exchange v k from n ∷ []) any_step) m
  pub exchange_count : (t : Site) (id : ℕ) (m : Mine) → IsIdle m.0 → (k : ℕ) → 0 < m.0.view.pass.right.parts → m.0.view.pass.seen.begun ≡ k + 1 → Keeps t id count_place (λ n. either (n == k) (k + 1) n) (playing (λ v n w. ExchangesCount v k n w) (λ _ n. steps.CountExchange k n ∷ []) any_step) m
  -- an addition takes the room of what it claims
  pub add : (t : Site) (id size : ℕ) (m : Mine) → IsIdle m.0 → 120 ≤ m.0.view.pass.right.parts → m.0.view.pass.right.armed ≡ 1 → size ≤ max_message (geometry_of m.0.view.pass)
      → (slots : ℕ) → Allows (LogMemoryRuled t) slots id m (tail_place m.0.view.pass.seen.term) (λ n. (n + framed_length (geometry_of m.0.view.pass) size) % 2 ^ 64) (Adds t size m)
  -- a frame is committed, and its memory goes to those who read it
  pub commit : (t : Site) (id p : ℕ) (ws : List ℕ) (m : Mine) → IsIdle m.0 → MayCommit t p ws m → (slots : ℕ) → Allows (LogMemoryRuled t) slots id m (head_place (ring t) p) (λ _. slice_index ws 0) (λ _ w. Commits t p ws m w)
  -- a reader takes its part of a frame, where it stands or one that it has, and gives it back; and its position is stored
  pub look : (t : Site) (id place : ℕ) (r : Reading) (m : Mine) (is : IsConsumer m.0.view.pass place r) → r.number < 8 → IsIdle m.0 → (slots : ℕ) → Allows (LogMemoryRuled t) slots id m (head_place (ring t) r.position) (λ n. n) (λ n w. Looks t place r m is n w)
  pub reread : (t : Site) (id place : ℕ) (r : Reading) (f : FrameWords) (m : Mine) → MayReread place r f m.0.view.pass → IsIdle m.0 → (slots : ℕ) → Allows (LogMemoryRuled t) slots id m (head_place (ring t) f.start) (λ n. n) (λ n w. Rereads t r f m n w)
  pub give : (t : Site) (id i : ℕ) (r : Reading) (f : FrameWords) (m : Mine) → MayGive t r f m → (slots : ℕ) → Allows (LogMemoryRuled t) slots id m i (λ n. n) (λ _ w. Gives m w)
  pub move : (t : Site) (id place : ℕ) (r : Reading) (end : ℕ) (m : Mine) → IsConsumer m.0.view.pass place r → MayPass m.0.view.pass place end → r.number < 8 → IsIdle m.0 → (slots : ℕ) → Allows (LogMemoryRuled t) slots id m (consumer_place r.number) (λ _. end) (λ n w. Rests (λ a _ c. reading (λ v k w. Consumes v place end w) a 0 c) m n w)
  -- the keeper takes the memory of a frame back that all consumers have left, a term ago
  pub take_back : (t : Site) (id : ℕ) (m : Mine) → MayTakeBack m.0 → (slots : ℕ) → Allows (LogMemoryRuled t) slots id m (head_place (ring t) m.0.room.freed) (λ n. n) (λ n w. TakesBack t m n w)
  -- what it took back becomes room, as zeros, where it stores zero over the frame's word
  pub give_room : (t : Site) (id : ℕ) (m : Mine) → MayGiveRoom t m → (slots : ℕ) → Allows (LogMemoryRuled t) slots id m (head_place (ring t) m.0.room.freed) (λ _. 0) (λ _ w. GivesRoom m w)
  -- the room of a pass's open frames goes home, and is taken from there, at any load
  pub park : (t : Site) (id i : ℕ) (m : Mine) → IsIdle m.0 → HoldsOpen t m → (slots : ℕ) → Allows (LogMemoryRuled t) slots id m i (λ n. n) (λ _ w. Parks m w)
  pub fetch : (t : Site) (id i : ℕ) (m : Mine) → m.0.part.has ≡ 0 → AreApart m.0.parked → (slots : ℕ) → Allows (LogMemoryRuled t) slots id m i (λ n. n) (λ _ w. Fetches t m w)
  -- the keeper knows, at any load, how far all is zero
  pub clean_to : (t : Site) (id i end : ℕ) (m : Mine) → MayCleanTo end m.0 → IsIdle m.0 → (slots : ℕ) → Allows (LogMemoryRuled t) slots id m i (λ n. n) (λ _ w. CleansTo end m w)
  -- the keeper's other steps move no memory
  pub sweep : (t : Site) (id j : ℕ) (m : Mine) → m.0.view.pass.keeping.right ≡ 1 → IsThere m.0.view.pass.keeping.there j → j < 8 → IsIdle m.0 → Keeps t id (consumer_place j) (λ n. n) (sweeping j) m
  pub join : (t : Site) (id number place n : ℕ) (m : Mine) → MayJoin m.0.view.pass number n → IsIdle m.0 → Keeps t id (consumer_place number) (λ _. n) (λ a _ c. keeping (λ v w. LearnsControls [] v w) (λ v w. Joins v number place n w) a c) m
  pub leave : (t : Site) (id place number : ℕ) (m : Mine) → MayLeave m.0.view.pass place number → IsIdle m.0 → Keeps t id (consumer_place number) (λ _. 0) (λ a _ c. keeping (λ v w. LearnsControls [] v w) (λ v w. Leaves v place number w) a c) m
  pub raise : (t : Site) (id word : ℕ) (m : Mine) → MayRaise m.0.view.pass word → 0 < m.0.view.pass.right.parts → IsIdle m.0 → Keeps t id limit_place (λ _. word) (λ a _ c. keeping (LearnsLimit word) (λ v w. Raises v word w) a c) m

-- each kind of seat that is dealt or joined, and each load that tells a pass of itself, where no seat has a part of a frame
pub record SeatsKeep : Type 0 where
  pub deal_publisher : (t : Site) (id : ℕ) (v : LogView) → IsIdle v → v.view.pass.right.armed ≡ 0 → v.view.pass.right.claims ≡ [] → 120 < v.view.pass.right.parts → Splits (LogMemoryRuled t) id v (viewing dealing_seat v) (dealt_with dealt_seat v)
  pub deal_reader : (t : Site) (id : ℕ) (v : LogView) → IsIdle v → Splits (LogMemoryRuled t) id v (viewing reader_left v) (dealt_with reader_right v)
  pub deal_keeper : (t : Site) (id : ℕ) (v : LogView) → IsIdle v → v.view.pass.right.armed ≡ 0 → v.view.pass.right.claims ≡ [] → 8 < v.view.pass.right.parts → Splits (LogMemoryRuled t) id v (viewing keeper_left v) (dealt_with keeper_right v)
  pub renumber : (t : Site) (id : ℕ) (v : LogView) → IsIdle v → (n : ℕ) → n < 8 → v.view.pass.right.parts ≡ 1024 → Splits (LogMemoryRuled t) id v (viewing (numbered_seat n) v) (dealt_with (λ w. spent_seat w.pass.identity w.pass.start) v)
  pub news : (t : Site) (id : ℕ) (v : LogView) → IsIdle v → Splits (LogMemoryRuled t) id v (viewing news_left v) (dealt_with news_right v)
  pub knowledge : (t : Site) (id : ℕ) (v : LogView) → IsIdle v → Splits (LogMemoryRuled t) id v (viewing news_left v) (dealt_with knowledge_right v)
  pub part_again : (t : Site) (id : ℕ) (v : LogView) → IsIdle v → (k : ℕ) (p q : Pass) → v.view.pass ≡ was_shown k (meeting p q) → Steady p → Steady q → p.right.armed ≡ 0 → q.right.armed ≡ 0 → 0 < p.right.parts → 0 < q.right.parts → q.identity ≡ p.identity → q.start ≡ p.start → q.keeping ≡ no_keeping
      → Splits (LogMemoryRuled t) id v (viewing (back_left p) v) (dealt_with (back_right q) v)
  pub tell : (t : Site) (id other : ℕ) (v x : LogView) → IsIdle v → IsIdle x → x.view.pass ≡ record (newcomer t.key.identity t.key.start 0 0) { reading = x.view.pass.reading } → SeatsJoin (LogMemoryRuled t) id v other x (joining told_seat v x) (spent_with (spent_seat t.key.identity t.key.start))
  pub return : (t : Site) (id other : ℕ) (v x : LogView) → IsIdle v → IsIdle x → (c : Reading) → x.view.pass ≡ reader_alone t.key.identity t.key.start c → SeatsJoin (LogMemoryRuled t) id v other x (joining returned_seat v x) (spent_with (spent_seat t.key.identity t.key.start))
  pub gather : (t : Site) (id other : ℕ) (v x : LogView) → IsIdle v → IsIdle x → v.view.pass.right.armed ≡ 0 → x.view.pass.right.armed ≡ 0 → 0 < v.view.pass.right.parts → SeatsJoin (LogMemoryRuled t) id v other x (joining both_seats v x) (spent_with (spent_seat t.key.identity t.key.start))
  -- the other's room may be at home
  pub hand_over : (t : Site) (id other : ℕ) (v x : LogView) → IsIdle v → x.part.has ≡ 0 → v.view.pass.number < 8 → (v.view.pass.right.parts < 1024 → Among v.view.pass.number v.view.pass.right.numbers) → v.view.pass.right.armed ≡ 0 → x.view.pass.right.armed ≡ 0 → 0 < v.view.pass.right.parts → SeatsJoin (LogMemoryRuled t) id v other x (joining handing_seats v x) (spent_with (spent_seat t.key.identity t.key.start))
  pub meet : (t : Site) (id other : ℕ) (v x : LogView) → IsIdle v → IsIdle x → v.view.pass.right.armed ≡ 0 → x.view.pass.right.armed ≡ 0 → 0 < v.view.pass.right.parts → SeatsJoin (LogMemoryRuled t) id v other x (joining meeting_seats v x) (spent_with (spent_seat t.key.identity t.key.start))
  -- a pass goes to a new seat, while its room stays, and comes back
  pub lift : (t : Site) (id : ℕ) (v : LogView) → IsIdle v → Splits (LogMemoryRuled t) id v (viewing lifted_left v) (dealt_with lifted_right v)
  pub lower : (t : Site) (id other : ℕ) (v x : LogView) → IsIdle v → IsIdle x → v.view.pass ≡ newcomer t.key.identity t.key.start 0 0 → x.view.pass.keeping ≡ no_keeping → SeatsJoin (LogMemoryRuled t) id v other x (joining lowered v x) (spent_with (spent_seat t.key.identity t.key.start))
  pub settle : (t : Site) (id : ℕ) (m : Mine) → IsIdle m.0 → (i : ℕ) → i < 208 → Keeps t id i (λ n. n) (reading (λ v k w. Steadies v w)) m
  pub weigh : (t : Site) (id : ℕ) (m : Mine) → IsIdle m.0 → (i : ℕ) → i < 208 → Keeps t id i (λ n. n) (reading (λ v k w. Weighs v w)) m
  pub show : (t : Site) (id : ℕ) (m : Mine) → IsIdle m.0 → (p : ℕ) → Keeps t id (tail_place p) (λ n. n) (showing (p % 3)) m
