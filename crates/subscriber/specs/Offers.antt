-- What is changed of a device.
use Rattle.std.specs.Prelude.{Option, None, Some}
use Rattle.std.specs.declared.net.SocketAddr.{SocketAddr}
use Rattle.loss_injector.specs.Losing.{Losing}
use Rattle.peer.specs.Patience.{Patient}
use Rattle.peer.specs.Peers.{ToPeer, to_peer}
use Rattle.subscriber.specs.Hearings.{Following}
use Rattle.subscriber.specs.declared.images.session_device.PendingStatus.TheVariants.{Cleared, Nothing, Given}
use Rattle.subscriber.specs.declared.images.session_device.StatusNews.{StatusNews}
use Rattle.subscriber.specs.declared.images.session_device.PendingStatus.{PendingStatus}
use Rattle.subscriber.specs.declared.images.session_device.StatusNews.TheVariants as news

-- a subscriber's device
abbrev pub SubscriberDevice : Type 0
SubscriberDevice = Following (Losing (Patient ToPeer))

-- whom it sends to
abbrev pub peer_of : SubscriberDevice → SocketAddr
peer_of d = d.inner.inner.inner.peer

-- the peer's SETUP was taken
abbrev pub setup_taken : SubscriberDevice → SubscriberDevice
setup_taken d = record d { notes = record (d.notes) { setup = None } }

-- what was sent to the one before is of no use any more
abbrev pub tied_anew : SubscriberDevice → SocketAddr → SubscriberDevice
tied_anew d peer = record d { inner = record (d.inner) { inner = record (d.inner.inner) { inner = to_peer d.inner.inner.inner peer } }; noted = Cleared }

-- what was noted of a device with this peer
abbrev pub news_of : SocketAddr → PendingStatus → Option StatusNews
news_of peer Nothing = None
news_of peer (Given bytes) = Some (news.Sent (record { to = peer; bytes = bytes }))
news_of peer Cleared = Some news.Cleared

-- nothing is new any more
abbrev pub news_taken : SubscriberDevice → SubscriberDevice
news_taken d = record d { noted = Nothing }
