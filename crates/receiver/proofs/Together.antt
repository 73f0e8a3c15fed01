-- A SETUP stands alone in its datagram.
use Rattle.std.proofs.Common.{◌≡◌, List, [], ◌∷◌, ◌++◌, length, refl}
use Rattle.theory.specs.Wire.{DATA, HEARTBEAT, MayFollow, NAK, PAD, SETUP, SM, StandTogether, Wire}
use Rattle.receiver.specs.Receiving.{IsSetupWire}

never_empty : (ts left : List Wire) (w : Wire) → ts ++ w ∷ left ≡ [] → ⊥
never_empty [] left w e = cc
never_empty (t ∷ ts) left w e = cc

never_follows : (ts left : List Wire) (w : Wire) → MayFollow (ts ++ w ∷ left) → IsSetupWire w → ⊥
never_follows [] left (DATA h flags payload) m is = is
never_follows [] left (PAD h n) m is = is
never_follows [] left (HEARTBEAT h) m is = is
never_follows [] left (NAK f) m is = is
never_follows [] left (SM asks f) m is = is
never_follows [] left (SETUP f) m is = m
never_follows (DATA h flags payload ∷ ts) left w m is = never_follows ts left w m is
never_follows (PAD h n ∷ []) left w m is = m
never_follows (PAD h n ∷ t ∷ ts) left w m is = m
never_follows (HEARTBEAT h ∷ ts) left w m is = m
never_follows (NAK f ∷ ts) left w m is = m
never_follows (SM asks f ∷ ts) left w m is = m
never_follows (SETUP f ∷ ts) left w m is = m

-- no frame stands before it
pub setup_alone : (taken left : List Wire) (w : Wire) → StandTogether (taken ++ w ∷ left) → IsSetupWire w → length taken ≡ 0
setup_alone [] left w s is = refl
setup_alone (DATA h flags payload ∷ ts) left w s is = absurd (never_follows ts left w s is)
setup_alone (PAD h n ∷ ts) left w s is = absurd (never_empty ts left w s)
setup_alone (HEARTBEAT h ∷ ts) left w s is = absurd (never_empty ts left w s)
setup_alone (NAK f ∷ ts) left w s is = absurd (never_empty ts left w s)
setup_alone (SM asks f ∷ ts) left w s is = absurd (never_empty ts left w s)
setup_alone (SETUP f ∷ ts) left w s is = absurd (never_empty ts left w s)
