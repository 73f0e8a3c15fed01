-- How seats of a log that runs are dealt and joined, and what they are told of themselves: looks of the model, but for a
-- publisher that is handed over.
use Rattle.std.specs.Prelude.{◌≡◌, ℕ, ◌%◌, ◌<◌, false, List, [], ◌∷◌, ◌++◌, slice_set}
use Rattle.std.specs.List.{AllByRecursion}
use mathlib.Core.Option.{some}
use lib.ListN.{get_elem?}
use Rattle.theory.specs.Placed.{Among}
use Rattle.publication.specs.declared.pass.Pass.{Pass}
use Rattle.publication.specs.declared.pass.Reading.{Reading}
use Rattle.log_rule.specs.Claims.Closing.{both_seats, handing_seats, numbered_seat, spent_seat}
use Rattle.log_rule.specs.Claims.Packs.{tail_place}
use Rattle.log_rule.specs.Claims.Plays.{dealing_seat, dealt_seat, newcomer, no_keeping}
use Rattle.log_rule.specs.Meetings.{Steady, back_left, back_right, meeting, meeting_seats, was_shown}
use Rattle.log_rule.specs.Table.{keeper_left, keeper_right, knowledge_right, news_left, news_right, reader_alone, reader_left, reader_right, returned_seat, told_seat}
use Rattle.log_memory.specs.declared.view.LogView.{LogView}
use Rattle.log_memory.specs.declared.view.Site.{Site}
use Rattle.log_memory.specs.Kinds.{IsSteadied, IsWeighed, ShowsPartition}
use Rattle.log_memory.specs.Lifted.{lifted_left, lifted_right, lowered}
use Rattle.log_memory.specs.Rule.{Board, LogMemoryRuled}
use Rattle.log_memory.specs.Seats.{dealt_with, joining, spent_with, viewing}
use Rattle.log_memory.specs.Steps.{IsIdle, Mine}
use Rattle.model.specs.Log.{LogEvent, Look, Retire}
use Rattle.threads_meaning.specs.Modelled.{is_handed}
use Rattle.threads_meaning.specs.Running.{Happen, IsOne, Means}

-- ---- a move of seats, and its events

-- a seat is cut in two
pub record Cuts (t : Site) (s : Board) (id : ℕ) (v left right : LogView) (s' : Board) : Type 0 where
  pub before : LogMemoryRuled t s
  pub after : LogMemoryRuled t s'
  pub at : get_elem? s.views id ≡ some v
  pub words : s'.words ≡ s.words
  pub views : s'.views ≡ slice_set s.views id left ++ right ∷ []

-- one seat takes another in
pub record Unites (t : Site) (s : Board) (id other : ℕ) (v x both spent : LogView) (s' : Board) : Type 0 where
  pub before : LogMemoryRuled t s
  pub after : LogMemoryRuled t s'
  pub at : get_elem? s.views id ≡ some v
  pub apart : other ≡ id → ⊥
  pub there : get_elem? s.views other ≡ some x
  pub words : s'.words ≡ s.words
  pub views : s'.views ≡ slice_set (slice_set s.views id both) other spent

-- it may be cut so wherever the rule holds, and wherever it was, that is a look
pub record CutsAsLook (t : Site) (gone : List ℕ) (id : ℕ) (v left right : LogView) : Type 0 where
  pub leads : (s : Board) → LogMemoryRuled t s → get_elem? s.views id ≡ some v → (s' : Board) × Cuts t s id v left right s'
  pub are : (s s' : Board) → Cuts t s id v left right s' → Happen t gone s (Look ∷ []) s' gone

-- of two, with the event that it is, and the numbers that are handed over then; the other is spent
pub record UnitesAs (t : Site) (gone : List ℕ) (id other : ℕ) (v x both : LogView) (e : LogEvent) (left : List ℕ) : Type 0 where
  pub leads : (s : Board) → LogMemoryRuled t s → get_elem? s.views id ≡ some v → (other ≡ id → ⊥) → get_elem? s.views other ≡ some x → (s' : Board) × Unites t s id other v x both (spent_with (spent_seat t.key.identity t.key.start)) s'
  pub are : (s s' : Board) → Unites t s id other v x both (spent_with (spent_seat t.key.identity t.key.start)) s' → Happen t gone s (e ∷ []) s' left

-- the other is a publisher by a number of its own, under which it has claimed what it did
pub record MayRetire (gone : List ℕ) (v x : Pass) : Type 0 where
  pub parts : 0 < x.right.parts
  pub numbers : Among v.number v.right.numbers × Among x.number x.right.numbers
  pub owned : AllByRecursion (λ c. c.owner ≡ x.number) x.right.claims
  pub living : (is_handed gone v.number ≡ false) × (is_handed gone x.number ≡ false)

-- ---- each kind

pub record RunningSeats : Type 0 where
  pub deal_publisher : (t : Site) (gone : List ℕ) (id : ℕ) (v : LogView) → IsIdle v → v.view.pass.right.armed ≡ 0 → v.view.pass.right.claims ≡ [] → 120 < v.view.pass.right.parts → CutsAsLook t gone id v (viewing dealing_seat v) (dealt_with dealt_seat v)
  pub deal_reader : (t : Site) (gone : List ℕ) (id : ℕ) (v : LogView) → IsIdle v → CutsAsLook t gone id v (viewing reader_left v) (dealt_with reader_right v)
  pub deal_keeper : (t : Site) (gone : List ℕ) (id : ℕ) (v : LogView) → IsIdle v → v.view.pass.right.armed ≡ 0 → v.view.pass.right.claims ≡ [] → 8 < v.view.pass.right.parts → CutsAsLook t gone id v (viewing keeper_left v) (dealt_with keeper_right v)
  pub renumber : (t : Site) (gone : List ℕ) (id : ℕ) (v : LogView) → IsIdle v → (n : ℕ) → n < 8 → v.view.pass.right.parts ≡ 1024 → v.view.pass.right.armed ≡ 0 → CutsAsLook t gone id v (viewing (numbered_seat n) v) (dealt_with (λ w. spent_seat w.pass.identity w.pass.start) v)
  pub news : (t : Site) (gone : List ℕ) (id : ℕ) (v : LogView) → IsIdle v → CutsAsLook t gone id v (viewing news_left v) (dealt_with news_right v)
  pub knowledge : (t : Site) (gone : List ℕ) (id : ℕ) (v : LogView) → IsIdle v → CutsAsLook t gone id v (viewing news_left v) (dealt_with knowledge_right v)
  pub part_again : (t : Site) (gone : List ℕ) (id : ℕ) (v : LogView) → IsIdle v → (k : ℕ) (p q : Pass) → v.view.pass ≡ was_shown k (meeting p q) → Steady p → Steady q → p.right.armed ≡ 0 → q.right.armed ≡ 0 → 0 < p.right.parts → 0 < q.right.parts → q.identity ≡ p.identity → q.start ≡ p.start → q.keeping ≡ no_keeping
      → CutsAsLook t gone id v (viewing (back_left p) v) (dealt_with (back_right q) v)
  pub tell : (t : Site) (gone : List ℕ) (id other : ℕ) (v x : LogView) → IsIdle v → IsIdle x → x.view.pass ≡ record (newcomer t.key.identity t.key.start 0 0) { reading = x.view.pass.reading } → UnitesAs t gone id other v x (joining told_seat v x) Look gone
  pub return : (t : Site) (gone : List ℕ) (id other : ℕ) (v x : LogView) → IsIdle v → IsIdle x → (c : Reading) → x.view.pass ≡ reader_alone t.key.identity t.key.start c → UnitesAs t gone id other v x (joining returned_seat v x) Look gone
  pub gather : (t : Site) (gone : List ℕ) (id other : ℕ) (v x : LogView) → IsIdle v → IsIdle x → v.view.pass.right.armed ≡ 0 → x.view.pass.right.armed ≡ 0 → 0 < v.view.pass.right.parts → UnitesAs t gone id other v x (joining both_seats v x) Look gone
  pub meet : (t : Site) (gone : List ℕ) (id other : ℕ) (v x : LogView) → IsIdle v → IsIdle x → v.view.pass.right.armed ≡ 0 → x.view.pass.right.armed ≡ 0 → 0 < v.view.pass.right.parts → UnitesAs t gone id other v x (joining meeting_seats v x) Look gone
  -- what the other claimed is the first one's from then on, and its number is gone
  pub hand_over : (t : Site) (gone : List ℕ) (id other : ℕ) (v x : LogView) → IsIdle v → x.part.has ≡ 0 → v.view.pass.number < 8 → v.view.pass.right.armed ≡ 0 → x.view.pass.right.armed ≡ 0 → 0 < v.view.pass.right.parts → MayRetire gone v.view.pass x.view.pass
      → UnitesAs t gone id other v x (joining handing_seats v x) (Retire v.view.pass.number x.view.pass.number) (x.view.pass.number ∷ gone)
  pub lift : (t : Site) (gone : List ℕ) (id : ℕ) (v : LogView) → IsIdle v → CutsAsLook t gone id v (viewing lifted_left v) (dealt_with lifted_right v)
  pub lower : (t : Site) (gone : List ℕ) (id other : ℕ) (v x : LogView) → IsIdle v → IsIdle x → v.view.pass ≡ newcomer t.key.identity t.key.start 0 0 → x.view.pass.keeping ≡ no_keeping → UnitesAs t gone id other v x (joining lowered v x) Look gone
  -- a pass is told what is true of it for good, how much it has claimed, and a position
  pub settle : (t : Site) (gone : List ℕ) (id : ℕ) (m : Mine) → IsIdle m.0 → (i : ℕ) → i < 208 → Means t gone id m i (λ n. n) (IsSteadied m) (IsOne Look)
  pub weigh : (t : Site) (gone : List ℕ) (id : ℕ) (m : Mine) → IsIdle m.0 → (i : ℕ) → i < 208 → Means t gone id m i (λ n. n) (IsWeighed m) (IsOne Look)
  pub show : (t : Site) (gone : List ℕ) (id : ℕ) (m : Mine) → IsIdle m.0 → (p : ℕ) → Means t gone id m (tail_place p) (λ n. n) (ShowsPartition (p % 3) m) (IsOne Look)
