-- An answer that is a fault.
use Rattle.std.proofs.Common.{◌≡◌, Bool, Result, Ok, Err, sym, subst}
use Rattle.std.specs.Prelude.{IfErr, IfOk, IsErrAnd, MatchResult}
use Rattle.endpoint.specs.declared.device_error.DeviceError.{DeviceError}

pub at_fault : (r : Result Bool DeviceError) (fault : DeviceError) (P : DeviceError → Type 0) → IsErrAnd r (λ e. e ≡ fault) → P fault → IfErr r P
at_fault (Ok busy) fault P h p = tt
at_fault (Err e) fault P h p = subst P (sym h) p

pub never_ok : (r : Result Bool DeviceError) (fault : DeviceError) (P : Bool → Type 0) → IsErrAnd r (λ e. e ≡ fault) → IfOk r P
never_ok (Ok busy) fault P h = absurd h
never_ok (Err e) fault P h = tt

pub quiet : (r : Result Bool DeviceError) (fault : DeviceError) (P : Bool → Type 0) (Q : Type 0) → IsErrAnd r (λ e. e ≡ fault) → Q → MatchResult r P (λ _. Q)
quiet (Ok busy) fault P Q h q = absurd h
quiet (Err e) fault P Q h q = q
