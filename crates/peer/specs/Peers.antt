-- What a contract sees of a device that sends to one peer, and hears nothing.
use Rattle.std.specs.Prelude.{Option, None, Some, Result, Ok, Err}
use Rattle.std.specs.declared.net.SocketAddr.{SocketAddr}
use Rattle.endpoint.specs.Devices.{Device, fresh, with_failure, with_none}
use Rattle.endpoint.specs.declared.datagrams.DeviceFailed.{DeviceFailed}

pub record ToPeer : Type 0 where
  -- its counts; the system doesn't tell what was carried
  pub device : Device
  -- to whom it sends
  pub peer : SocketAddr
  -- for whom the last datagram was that it was given to send
  pub given : Option SocketAddr

-- nothing was sent yet
abbrev pub sending_to : SocketAddr → ToPeer
sending_to peer = record { device = fresh; peer = peer; given = None }

-- it sends to another
abbrev pub to_peer : ToPeer → SocketAddr → ToPeer
to_peer d peer = record d { peer = peer }

-- it was given a datagram, for its peer
abbrev pub with_given : ToPeer → ToPeer
with_given d = record d { given = Some d.peer }

abbrev pub with_fault : ToPeer → ToPeer
with_fault d = record d { device = with_failure d.device }

-- a receive found nothing
abbrev pub with_nothing : ToPeer → ToPeer
with_nothing d = record d { device = with_none d.device }

-- a send: it was given the datagram, whatever became of that
abbrev pub after_send : ToPeer → Result (Unit {0}) DeviceFailed → ToPeer
after_send d (Ok v) = with_given d
after_send d (Err e) = with_fault (with_given d)
