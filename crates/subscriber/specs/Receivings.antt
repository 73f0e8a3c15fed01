-- The socket of a subscriber, at the one place where it is read.
use Rattle.std.specs.Prelude.{Option, None, Some}
use Rattle.std.specs.declared.net.SocketAddr.{SocketAddr}
use Rattle.frames.specs.declared.frame.Header.{Header}
use Rattle.peer.specs.Ties.{Came, Listening, Offer, first_of, last_of, with_came}

-- the header of a frame, and who sent it
abbrev pub Caller : Type 0
Caller = SocketAddr × Header

pub record Receiving : Type 0 where
  pub socket : Listening
  -- the first SETUP that is of no session which is followed, since one was taken, and the last one behind it
  pub offer : Offer
  pub later : Offer
  -- the last DATA frame, padding or heartbeat in front of a datagram that was nobody's, since one was taken
  pub caller : Option Caller

-- nothing of others came yet
abbrev pub receiving : Listening → Receiving
receiving socket = record { socket = socket; offer = None; later = None; caller = None }

-- its socket has brought this
abbrev pub bringing : Receiving → Option Came → Receiving
bringing r came = record r { socket = with_came r.socket came }

-- it keeps a SETUP, if that is one
abbrev pub keeping : Offer → Receiving → Receiving
keeping o r = record r { offer = first_of r.offer o; later = last_of r.offer r.later o }

-- it has given out the first one
abbrev pub offer_given : Receiving → Receiving
offer_given r = record r { offer = r.later; later = None }

-- the later one
abbrev pub latest_caller : Option Caller → SocketAddr → Option Header → Option Caller
latest_caller before from None = before
latest_caller before from (Some h) = Some (from, h)

-- it keeps who sent a frame with this header, if there is one
abbrev pub calling : SocketAddr → Option Header → Receiving → Receiving
calling from header r = record r { caller = latest_caller r.caller from header }

-- it has given that out
abbrev pub caller_given : Receiving → Receiving
caller_given r = record r { caller = None }
