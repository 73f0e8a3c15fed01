-- A status message that was sent.
use Rattle.std.specs.Prelude.{ℕ, List}
use Rattle.std.specs.declared.net.SocketAddr.{SocketAddr}

pub record Sent : Type 0 where
  -- the peer that it was for
  pub to : SocketAddr
  pub bytes : List ℕ
