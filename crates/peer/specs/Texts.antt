-- What a user reads of an end that can't be had, and texts put together.
use Rattle.std.specs.Prelude.{ℕ, List, [], ◌∷◌, ◌++◌, codes}
use Rattle.endpoint.specs.Texts as devices
use Rattle.endpoint.specs.declared.device_error.DeviceError.TheVariants as errors
use Rattle.peer.specs.declared.fault.BindError.{BindError}
use Rattle.peer.specs.declared.fault.BindError.TheVariants.{Taken, NotHere, Refused, Memory}

abbrev pub text_of : BindError → List ℕ
text_of Taken = codes "the port is in use"
text_of NotHere = codes "this machine doesn't have the address"
text_of (Refused number) = devices.text_of errors.Device
text_of Memory = devices.text_of errors.Memory

-- texts one after the other
abbrev pub joined : List (List ℕ) → List ℕ
joined [] = []
joined (text ∷ []) = text
joined (text ∷ next ∷ texts) = text ++ joined (next ∷ texts)
