-- What is counted of a datagram that isn't one frame.
use Rattle.std.proofs.Common.{◌≡◌, ◌∙◌, ℕ, List, length, Result, Ok, Err, ap, refl}
use Rattle.theory.specs.Wire.{Wire, SpellsDatagram}
use Rattle.frames.specs.Datagrams.{IsDatagramFault}
use Rattle.frames.specs.declared.fault.FrameError.{FrameError}
use Rattle.peer.specs.Watching.{CountsRefused, Watched, refusing}

same_fault : (r : Result ℕ FrameError) (e f : FrameError) → r ≡ Err e → r ≡ Err f → e ≡ f
same_fault r e f a b = cc

not_both : (r : Result ℕ FrameError) (e : FrameError) (n : ℕ) → r ≡ Err e → r ≡ Ok n → ⊥
not_both r e n a b = absurd (cc)

pub by_fault : (old new : Watched) (bytes : List ℕ) (r : Result ℕ FrameError) (e : FrameError) → r ≡ Err e
    → ((frames : List Wire) → SpellsDatagram frames bytes → r ≡ Ok (length frames))
    → ((fault : FrameError) → IsDatagramFault bytes fault → r ≡ Err fault)
    → new ≡ refusing old e → CountsRefused old bytes new
by_fault old new bytes r e is only refused becomes = record {
  fault = λ f why. becomes ∙ ap (λ (x : FrameError). refusing old x) (same_fault r e f is (refused f why));
  readable = λ frames spells. absurd (not_both r e (length frames) is (only frames spells));
}

pub by_none : (old : Watched) (bytes : List ℕ) (r : Result ℕ FrameError) (n : ℕ) → r ≡ Ok n
    → ((fault : FrameError) → IsDatagramFault bytes fault → r ≡ Err fault) → CountsRefused old bytes old
by_none old bytes r n is refused = record {
  fault = λ f why. absurd (not_both r f n (refused f why) is);
  readable = λ frames spells. refl;
}
