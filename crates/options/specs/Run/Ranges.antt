-- In which ranges the numbers of a run lie.
use Rattle.std.specs.Prelude.{ℕ, ◌≤◌}
use Rattle.theory.specs.Position.{Geometry, max_message}

abbrev pub IsWithin : ℕ → ℕ → ℕ → Type 0
IsWithin least most number = (least ≤ number) × (number ≤ most)

-- what a run may be told
pub record IsInRange (publishers receivers messages length loss repeat hold turns : ℕ) : Type 0 where
  pub of_publishers : IsWithin 1 8 publishers
  pub of_receivers : IsWithin 1 8 receivers
  pub of_messages : IsWithin 1 1000000 messages
  pub of_length : IsWithin 8 2097152 length
  pub of_loss : loss ≤ 1000
  pub of_repeat : repeat ≤ 1000
  pub of_hold : hold ≤ 1000
  pub of_turns : IsWithin 1 1000000000 turns

-- what a run may be made of
pub record IsRunnable (geometry : Geometry) (publishers receivers messages length turns : ℕ) : Type 0 where
  pub of_publishers : IsWithin 1 8 publishers
  pub of_receivers : IsWithin 1 8 receivers
  pub of_messages : IsWithin 1 1000000 messages
  pub of_length : IsWithin 8 (max_message geometry) length
  pub of_turns : IsWithin 1 1000000000 turns
