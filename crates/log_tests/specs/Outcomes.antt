-- How an addition is judged.
use Rattle.std.specs.Prelude.{◌≡◌, ℕ, ◌+◌, Err}
use Rattle.publication.specs.declared.refusal.Refusal.{Refusal}
use Rattle.one_hand.specs.Stream.{Fits, Stream, after, answer_of, case_of, covered}

-- a message fits and would end there; nothing has changed
pub record Admits (l : Stream) (bytes end : ℕ) (m : Stream) : Type 0 where
  pub fits : case_of l bytes ≡ Fits
  pub ends : end ≡ l.tail + covered l bytes
  pub same : m ≡ l

-- it is refused, whatever the log would have been with it
pub record Refuses (l : Stream) (by bytes : ℕ) (why : Refusal) (m : Stream) : Type 0 where
  pub answered : answer_of l bytes ≡ Err why
  pub leaves : (fitting : Stream) → m ≡ after l by (case_of l bytes) fitting
