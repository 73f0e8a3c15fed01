-- What a contract sees of the second handle of a subscriber's socket.
use Rattle.std.specs.Prelude.{ℕ, List, Option, None, Some}
use Rattle.std.specs.declared.net.SocketAddr.{SocketAddr}
use Rattle.endpoint.specs.Devices.{counted}
use Rattle.peer.specs.declared.status_socket.Given.{Given}

pub record StatusSending : Type 0 where
  -- how many status messages it was given
  pub count : ℕ
  -- the last of them
  pub last : Option Given

-- it was given none
abbrev pub unused : StatusSending
unused = record { count = 0; last = None }

-- it was given one more
abbrev pub giving : StatusSending → SocketAddr → List ℕ → StatusSending
giving s to bytes = record { count = counted s.count; last = Some (record { to = to; bytes = bytes }) }
