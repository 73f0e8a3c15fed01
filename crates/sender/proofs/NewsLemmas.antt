-- What a datagram tells, by its first frame.
use Rattle.std.proofs.Common.{◌≡◌, ◌∙◌, ℕ, List, [], ◌∷◌, ◌++◌, drop, sym, ap, subst, inl, refl}
use Rattle.std.proofs.lemmas.List.{take-append-drop}
use Rattle.std.specs.List.{flat_map}
use Rattle.std.specs.Prelude.{Some}
use Rattle.theory.specs.Wire.{NAK, Nak, SM, SpellsDatagram, Status, Wire, spelling}
use Rattle.theory.specs.Bytes.{Identity}
use Rattle.theory.proofs.Spelled.{one_spelling}
use Rattle.frames.specs.declared.fault.FrameError.{FrameError}
use Rattle.frames.specs.Fronts.{FrontSpells}
use Rattle.frames.specs.Order.{first_fault}
use Rattle.frames.specs.Datagrams.{IsDatagramFault}
use Rattle.sender.specs.Cycling.{IsNews, NewsContent, Says, AsksSetup, Misses, TellsNothing, Unreadable}
use Rattle.sender.specs.FirstNews.{FirstTells}

record Starts (frames : List Wire) (w : Wire) : Type 0 where
  rest : List Wire
  is : frames ≡ w ∷ rest

first_frame : (frames : List Wire) (bytes : List ℕ) (w : Wire) (n : ℕ) → SpellsDatagram frames bytes → FrontSpells bytes w n → Starts frames w
first_frame [] bytes w n s f = absurd s.0
first_frame (v ∷ vs) bytes w n s f =
    let parts : spelling w ++ drop n bytes ≡ spelling v ++ flat_map spelling vs = ap (λ (x : List ℕ). x ++ drop n bytes) (sym f.spelled.1) ∙ take-append-drop n bytes ∙ s.2 in
    record { rest = vs; is = ap (λ (x : Wire). x ∷ vs) (sym (one_spelling w v (drop n bytes) (flat_map spelling vs) f.spelled.0 s.1.0 parts).0) }

-- a status message stands alone
alone : (asks : ℕ) (f : Status) (rest : List Wire) (bytes : List ℕ) → SpellsDatagram (SM asks f ∷ rest) bytes → SpellsDatagram (SM asks f ∷ []) bytes
alone asks f rest bytes s = subst (λ (x : List Wire). SpellsDatagram (SM asks f ∷ x) bytes) s.0 s

as_status : (asks : ℕ) (f : Status) (frames : List Wire) (bytes : List ℕ) (w : Wire) → SpellsDatagram frames bytes → Starts frames w → w ≡ SM asks f → SpellsDatagram (SM asks f ∷ []) bytes
as_status asks f frames bytes w s start e =
    alone asks f start.rest bytes (subst (λ (x : List Wire). SpellsDatagram x bytes) (start.is ∙ ap (λ (x : Wire). x ∷ start.rest) e) s)

first_of : Wire → List Wire → Wire
first_of w [] = w
first_of w (v ∷ vs) = v

only : (v : Wire) (frames : List Wire) (w : Wire) → Starts frames w → frames ≡ v ∷ [] → w ≡ v
unfolding first_of
only v frames w start e = ap (first_of w) (sym start.is ∙ e)

-- a negative acknowledgement too
as_nak : (f : Nak) (frames : List Wire) (bytes : List ℕ) (w : Wire) → SpellsDatagram frames bytes → Starts frames w → w ≡ NAK f → SpellsDatagram (NAK f ∷ []) bytes
as_nak f frames bytes w s start e =
    let whole : SpellsDatagram (NAK f ∷ start.rest) bytes = subst (λ (x : List Wire). SpellsDatagram x bytes) (start.is ∙ ap (λ (x : Wire). x ∷ start.rest) e) s in
    subst (λ (x : List Wire). SpellsDatagram (NAK f ∷ x) bytes) whole.0 whole

pub told_first : (i : Identity) (bytes : List ℕ) (frames : List Wire) (w : Wire) (n : ℕ) (news : NewsContent) → SpellsDatagram frames bytes → FrontSpells bytes w n → FirstTells i w news → IsNews i bytes news
told_first i bytes frames w n (Says f) s front h = (as_status 0 f frames bytes w s (first_frame frames bytes w n s front) h.0, h.1)
told_first i bytes frames w n AsksSetup s front h = (h.0, as_status 128 h.0 frames bytes w s (first_frame frames bytes w n s front) h.1, h.2)
told_first i bytes frames w n (Misses f) s front h = (as_nak f frames bytes w s (first_frame frames bytes w n s front) h.0, h.1)
told_first i bytes frames w n TellsNothing s front h =
    let starts = first_frame frames bytes w n s front in (
      frames,
      s,
      record {
        no_status = λ asks f e own. h.no_status asks f (ap (λ (x : Wire). x ∷ []) (only (SM asks f) frames w starts e)) own;
        no_nak = λ f e own. h.no_nak f (ap (λ (x : Wire). x ∷ []) (only (NAK f) frames w starts e)) own;
      },
    )
told_first i bytes frames w n (Unreadable fault) s front h = absurd h

-- what has a fault at its front has that fault
pub front_fault : (bytes : List ℕ) (fault : FrameError) → Some fault ≡ first_fault bytes → IsDatagramFault bytes fault
front_fault bytes fault e = ([], bytes, record { frames = tt; kinds = tt; parts = refl }, inl (record { begun = inl refl; reason = sym e }))
