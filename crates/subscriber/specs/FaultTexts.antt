-- What a user reads of a fault.
use Rattle.std.specs.Prelude.{ℕ, ℤ, List, Option, None, ◌++◌, codes}
use Rattle.std.specs.Net.Text.{socket_text}
use Rattle.endpoint.specs.Texts as devices
use Rattle.subscriber.specs.declared.images.delivery.DeliveryFault.{DeliveryFault}
use Rattle.subscriber.specs.declared.images.delivery.DeliveryFault.TheVariants as deliveries
use Rattle.subscriber.specs.declared.fault.SubscribeFault.{SubscribeFault}
use Rattle.subscriber.specs.declared.fault.SubscribeFault.TheVariants.{Taken, NotHere, Output, Message, NoSocket, NoThread, Failed}

abbrev pub text_of : SubscribeFault → List ℕ
text_of (Taken address) = socket_text address ++ codes " is in use"
text_of (NotHere address) = socket_text address ++ codes " isn't an address of this machine"
text_of (Output number) = codes "output"
text_of Message = codes "message"
text_of (NoSocket number) = codes "device"
text_of NoThread = codes "device: the system gives no thread"
text_of (Failed error) = devices.text_of error

-- the system's number of what failed, where it gave one
abbrev pub number_of : SubscribeFault → Option ℤ
number_of (Taken address) = None
number_of (NotHere address) = None
number_of (Output number) = number
number_of Message = None
number_of (NoSocket number) = number
number_of NoThread = None
number_of (Failed error) = None

-- a cycle's fault as a subscriber's
abbrev pub of_delivery : DeliveryFault → SubscribeFault
of_delivery (deliveries.Output number) = Output number
of_delivery (deliveries.Message error) = Message
of_delivery (deliveries.Failed error) = Failed error
