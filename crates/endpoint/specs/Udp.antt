-- What a contract sees of a device over UDP.
use Rattle.std.specs.Prelude.{ℕ}
use Rattle.endpoint.specs.Devices.{Device}

pub record Udp : Type 0 where
  -- its counts; the system doesn't tell what was carried
  pub device : Device
  -- its own port
  pub port : ℕ
