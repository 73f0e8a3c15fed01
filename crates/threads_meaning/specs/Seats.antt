-- How passes are dealt, told and gathered: no event of the model, but for one that is handed over.
use Rattle.std.specs.Prelude.{◌≡◌, ℕ, ◌<◌, List, [], ◌∷◌, ◌++◌, false, slice_index, slice_set}
use Rattle.std.specs.List.{AllByRecursion}
use mathlib.Core.Option.{some}
use lib.ListN.{get_elem?}
use Rattle.atomic_table.specs.Table.{State}
use Rattle.theory.specs.Placed.{Among}
use Rattle.publication.specs.declared.pass.Pass.{Pass}
use Rattle.publication.specs.declared.pass.Reading.{Reading}
use Rattle.log_rule.specs.declared.claims.view.View.{View}
use Rattle.log_rule.specs.declared.rule.Key.{Key}
use Rattle.log_rule.specs.Claims.Closing.{both_seats, handing_seats, numbered_seat, spent_seat}
use Rattle.log_rule.specs.Claims.Plays.{dealing_seat, dealt_seat, newcomer, no_keeping}
use Rattle.log_rule.specs.Meetings.{back_left, back_right, meeting, meeting_seats, was_shown}
use Rattle.log_rule.specs.Table.{keeper_left, keeper_right, knowledge_right, new_seat, news_left, news_right, reader_alone, reader_left, reader_right, returned_seat, told_seat}
use Rattle.threads_meaning.specs.Modelled.{is_handed}

-- a seat is cut in two
pub record Deals (s : State (Unit {0}) View) (v left right : View) (t : State (Unit {0}) View) : Type 0 where
  pub id : ℕ
  pub at : get_elem? s.views id ≡ some v
  pub words : (j : ℕ) → j < 208 → slice_index t.words j ≡ slice_index s.words j
  pub views : t.views ≡ slice_set s.views id left ++ right ∷ []

-- one seat takes another in, which is spent
pub record Takes (s : State (Unit {0}) View) (v w both spent : View) (t : State (Unit {0}) View) : Type 0 where
  pub id : ℕ
  pub other : ℕ
  pub at : get_elem? s.views id ≡ some v
  pub apart : other ≡ id → ⊥
  pub there : get_elem? s.views other ≡ some w
  pub words : (j : ℕ) → j < 208 → slice_index t.words j ≡ slice_index s.words j
  pub views : t.views ≡ slice_set (slice_set s.views id both) other spent

-- the moves that are no event
pub data SeatsMove (key : Key) (s t : State (Unit {0}) View) : Type 0 where
  deal_publisher : (v : View) → v.pass.right.armed ≡ 0 → v.pass.right.claims ≡ [] → Deals s v (dealing_seat v) (dealt_seat v) t → SeatsMove key s t
  deal_reader : (v : View) → Deals s v (reader_left v) (reader_right v) t → SeatsMove key s t
  deal_keeper : (v : View) → Deals s v (keeper_left v) (keeper_right v) t → SeatsMove key s t
  tell_news : (v : View) → Deals s v (news_left v) (news_right v) t → SeatsMove key s t
  tell_known : (v : View) → Deals s v (news_left v) (knowledge_right v) t → SeatsMove key s t
  tell : (v w : View) → w.pass ≡ record (newcomer key.identity key.start 0 0) { reading = w.pass.reading } → Takes s v w (told_seat v w) (spent_seat key.identity key.start) t → SeatsMove key s t
  return : (v w : View) (r : Reading) → w.pass ≡ reader_alone key.identity key.start r → Takes s v w (returned_seat v w) (spent_seat key.identity key.start) t → SeatsMove key s t
  gather : (v w : View) → v.pass.right.armed ≡ 0 → w.pass.right.armed ≡ 0 → Takes s v w (both_seats v w) (spent_seat key.identity key.start) t → SeatsMove key s t
  meet : (v w : View) → v.pass.right.armed ≡ 0 → w.pass.right.armed ≡ 0 → Takes s v w (meeting_seats v w) (spent_seat key.identity key.start) t → SeatsMove key s t
  part_again : (v : View) (shown : ℕ) (p q : Pass) → v.pass ≡ was_shown shown (meeting p q) → p.right.armed ≡ 0 → q.right.armed ≡ 0 → q.keeping ≡ no_keeping → Deals s v (back_left p v) (back_right q v) t → SeatsMove key s t
  renumber : (v : View) (number : ℕ) → v.pass.right.armed ≡ 0 → Deals s v (numbered_seat number v) (spent_seat v.pass.identity v.pass.start) t → SeatsMove key s t
  -- a pass goes to a new seat, and comes back to one that has nothing
  lift : (v : View) → Deals s v (new_seat (newcomer v.pass.identity v.pass.start 0 0)) (new_seat v.pass) t → SeatsMove key s t
  lower : (v w : View) → v.pass ≡ newcomer key.identity key.start 0 0 → w.pass.keeping ≡ no_keeping → Takes s v w (new_seat w.pass) (spent_seat key.identity key.start) t → SeatsMove key s t

-- a publisher that isn't armed is handed over to another: what it claimed, under its own number, is the other's
pub record HandsOver (key : Key) (gone : List ℕ) (s : State (Unit {0}) View) (kept number : ℕ) (t : State (Unit {0}) View) : Type 0 where
  pub v : View
  pub w : View
  pub takes : Takes s v w (handing_seats v w) (spent_seat key.identity key.start) t
  pub kept_is : kept ≡ v.pass.number
  pub number_is : number ≡ w.pass.number
  pub idle : (v.pass.right.armed ≡ 0) × (w.pass.right.armed ≡ 0)
  pub parts : (0 < v.pass.right.parts) × (0 < w.pass.right.parts)
  pub numbers : Among v.pass.number v.pass.right.numbers × Among w.pass.number w.pass.right.numbers
  pub owned : AllByRecursion (λ c. c.owner ≡ w.pass.number) w.pass.right.claims
  pub living : (is_handed gone kept ≡ false) × (is_handed gone number ≡ false)
