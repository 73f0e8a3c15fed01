-- What a publisher keeps over a call.
use Rattle.std.specs.Prelude.{◌≡◌}
use Rattle.shared_log.specs.Books.{IsIdle}
use Rattle.shared_log.specs.Steps.Handles.{IsOf, LogValue, PublisherValue}
use Rattle.log_rule.specs.Claims.Plays.{no_keeping}

-- it is one of the log; it isn't armed, if it wasn't; it has its parts of the right to close; and it is no other keeper
pub record Stays (l : LogValue) (p q : PublisherValue) : Type 0 where
  pub of : IsOf l q
  pub idle : p.pass.right.armed ≡ 0 → q.pass.right.armed ≡ 0
  pub parts : q.pass.right.parts ≡ p.pass.right.parts
  pub keeping : q.pass.keeping ≡ p.pass.keeping

-- a publisher that may meet others
pub record IsRested (l : LogValue) (p : PublisherValue) : Type 0 where
  pub idle : IsIdle l p
  pub keeping : p.pass.keeping ≡ no_keeping
