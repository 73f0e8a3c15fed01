-- What the inserter's calls say.
use Rattle.std.specs.Prelude.{◌≡◌, ℕ, ◌+◌, ◌*◌, ◌%◌, ◌<◌, ◌≤◌, ◌∷◌}
use Rattle.theory.specs.Placed.{Placed}
use Rattle.theory.specs.Position.{Geometry, aligned, max_position}
use Rattle.image_rule.specs.declared.view.Frame.{Frame}
use Rattle.image_rule.specs.declared.view.View.{View}
use Rattle.image_rule.specs.Frames.{Among, Has, end_of, placed_of}
use Rattle.image_rule.specs.Bits.{MayRise, Sweeps}
use Rattle.image.specs.Handles.{InserterSeat}

-- it looked once at each consumer, and this is the least position
pub record Swept (n : InserterSeat) (least : ℕ) (m : InserterSeat) : Type 0 where
  pub unit : ℕ
  pub is : least ≡ 32 * unit
  pub same : m ≡ record n { view = m.view }
  pub sweeps : Sweeps n.key n.view n.key.consumers unit m.view

-- the floor has risen, and all frames that were stored are known yet
pub record Lowered (v : View) (floor : ℕ) (w : View) : Type 0 where
  pub after : w ≡ record v { held = w.held }
  pub floor_is : w.held.floor ≡ floor
  pub got : w.held.got ≡ v.held.got

-- nothing below a position is held any more, and nothing else has changed
pub record ClearedTo (n : InserterSeat) (floor : ℕ) (m : InserterSeat) : Type 0 where
  pub unit : ℕ
  pub is : floor ≡ 32 * unit
  pub same : m ≡ record n { view = m.view }
  pub cleared : Lowered n.view unit m.view

-- a position to which may be cleared: all consumers were seen there or further on, all before it was stored, and no frame lies
-- on both sides of it
pub record MayClearTo (n : InserterSeat) (floor : ℕ) : Type 0 where
  pub unit : ℕ
  pub is : floor ≡ 32 * unit
  pub rise : MayRise n.key n.view unit
  pub reached : (u : ℕ) → n.view.held.floor ≤ u → u < unit → Has n.view.held.got u
  pub edge : (f : Frame) → Among f n.view.held.got → f.unit < unit → end_of f ≤ unit

-- it looked once at each consumer, and what all of them have passed is held no more
pub record Pruned (n : InserterSeat) (least : ℕ) (m : InserterSeat) : Type 0 where
  pub between : InserterSeat
  pub swept : Swept n least between
  pub cleared : ClearedTo between least m

-- ---- a frame is stored

-- a frame of this length may begin there, in units of one term of the stream
pub record IsComing (g : Geometry) (start frame_length : ℕ) : Type 0 where
  pub unit : start % 32 ≡ 0
  pub long : 32 ≤ frame_length
  pub in_term : start % g.term_length + aligned frame_length ≤ g.term_length
  pub in_stream : start + aligned frame_length ≤ max_position g

-- the frame was stored, and nothing else has changed
pub record Stores (n : InserterSeat) (s : Placed) (m : InserterSeat) : Type 0 where
  pub frame : Frame
  pub is : placed_of frame ≡ s
  pub same : m ≡ record n { view = record n.view { held = m.view.held } }
  pub floor : m.view.held.floor ≡ n.view.held.floor
  pub got : m.view.held.got ≡ frame ∷ n.view.held.got
