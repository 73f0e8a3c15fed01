-- Where a subscriber with an image stands, and when it has all of its stream.
use Rattle.std.specs.Prelude.{◌≡◌, ◌≤◌, ◌&&◌, ℕ, Option, None, Some, ℤ, pos, negsuc, nat_le, nat_lt, Bool, false, not}
use Rattle.receiver.specs.Receiving.{Receiver, Opened}
use Rattle.receiver.specs.Subscribing.{RepresentsSubscriber, Subscribing}
use Rattle.subscriber.specs.declared.images.session.Stand.{Stand}
use Rattle.theory.specs.Consumer.{least_of}
use Rattle.theory.specs.Control.{named_by}
use Rattle.theory.specs.Position.{Geometry}
use Rattle.theory.specs.Units.{IsContiguous}
use Rattle.frames.specs.Frames.{header_of}
use Rattle.frames.specs.declared.frame.Header.{Header}
use Rattle.peer.specs.declared.farewell.StreamEnd.{StreamEnd}

-- where the consumer of an image stands, the least one; 0 without an image
abbrev pub StandsAt : Option Opened → ℕ → Type 0
StandsAt None at = at ≡ 0
StandsAt (Some o) at = at ≡ least_of o.image.consumers

-- how far an image is rebuilt; 0 without an image
abbrev pub IsRebuiltTo : Option Opened → ℕ → Type 0
IsRebuiltTo None at = at ≡ 0
IsRebuiltTo (Some o) at = IsContiguous o.image.stored o.image.join at

-- the image of a subscriber is
abbrev pub RebuiltTo : Subscribing → ℕ → Type 0
RebuiltTo s at = (r : Receiver) → RepresentsSubscriber s r → IsRebuiltTo r.image at

-- a position lies above this one
abbrev pub lies_above : ℤ → ℕ → Bool
lies_above (pos p) rebuilt = nat_lt rebuilt p
lies_above (negsuc n) rebuilt = false

-- of a stream of this shape a frame was heard last that begins above what is rebuilt: something before it is lacking
abbrev pub lacks : Geometry → Option Header → ℕ → Bool
lacks g None rebuilt = false
lacks g (Some h) rebuilt = lies_above (named_by g (header_of h)) rebuilt

-- its consumer stands here
abbrev pub StandsHere : Subscribing → ℕ → Type 0
StandsHere s at = (r : Receiver) → RepresentsSubscriber s r → StandsAt r.image at

-- there, with its image rebuilt up to here, and the greatest end that it was told
pub record Stands (s : Subscribing) (end : Option StreamEnd) (x : Stand) : Type 0 where
  pub place : StandsHere s x.place
  pub rebuilt : RebuiltTo s x.rebuilt
  pub told : x.end ≡ end

-- an end was told, not below what is rebuilt, and the consumer stands there or behind it
abbrev pub HasAllUpTo : Option StreamEnd → ℕ → ℕ → Type 0
HasAllUpTo None rebuilt place = ⊥
HasAllUpTo (Some end) rebuilt place = (rebuilt ≤ end.position) × (end.position ≤ place)

abbrev pub HasAll : Stand → Type 0
HasAll x = HasAllUpTo x.end x.rebuilt x.place

-- the same as a value
abbrev pub has_all_up_to : Option StreamEnd → ℕ → ℕ → Bool
has_all_up_to None rebuilt place = false
has_all_up_to (Some end) rebuilt place = nat_le rebuilt end.position && nat_le end.position place

abbrev pub is_broken_end : Option StreamEnd → Bool
is_broken_end None = false
is_broken_end (Some end) = end.broken

-- all is there up to an end at which the stream is broken off
abbrev pub is_broken_off : Stand → Bool
is_broken_off x = has_all_up_to x.end x.rebuilt x.place && is_broken_end x.end

-- all of the stream is there, which wasn't broken off
abbrev pub is_whole : Stand → Bool
is_whole x = has_all_up_to x.end x.rebuilt x.place && not (is_broken_end x.end)
