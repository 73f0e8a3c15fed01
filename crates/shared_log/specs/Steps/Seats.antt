-- Passes that are dealt and joined.
use Rattle.std.specs.Prelude.{◌≡◌, ℕ, ◌+◌, ◌-◌, ◌<◌}
use Rattle.theory.specs.Placed.{Among}
use Rattle.publication.specs.declared.pass.Pass.{Pass}
use Rattle.publication.specs.declared.pass.Reading.{Reading}
use Rattle.log_rule.specs.Claims.Plays.{no_keeping}
use Rattle.log_rule.specs.Claims.Sure.{no_controls}
use Rattle.log_rule.specs.Table.{reader_alone}
use Rattle.shared_log.specs.Steps.Handles.{LogValue, PublisherValue}

-- a pass of the same log that has made no step, in this seat
abbrev pub new_pass : Pass → ℕ → PublisherValue → PublisherValue
new_pass v seat p = record { of = p.of; seat = seat; pass = v; steps = 0; controls = no_controls; sure = 0; freed = p.freed }

abbrev pub without_keeper : Pass → Pass
without_keeper v = record v { right = record v.right { parts = v.right.parts - 8 }; keeping = no_keeping }

-- the pass is one consumer of this log, and nothing else
pub record IsReaderAlone (l : LogValue) (v : Pass) : Type 0 where
  pub consumer : Reading
  pub pass : v ≡ reader_alone l.identity l.start consumer

-- what the one has may go to the other, and be its own
pub record MayTakeOver (v w : Pass) : Type 0 where
  pub low : v.number < 8
  pub own : v.right.parts < 1024 → Among v.number v.right.numbers
  pub unarmed : (v.right.armed ≡ 0) × (w.right.armed ≡ 0)
  pub parts : 0 < v.right.parts

-- it has this pass then, by one step, and is sure of nothing
pub record HasGathered (v : Pass) (p q : PublisherValue) : Type 0 where
  pub of : q.of ≡ p.of
  pub seat : q.seat ≡ p.seat
  pub pass : q.pass ≡ v
  pub steps : q.steps ≡ p.steps + 1
  pub sure : q.sure ≡ 0
  pub freed : q.freed ≡ p.freed
