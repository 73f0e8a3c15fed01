-- A datagram is of one list of frames, and a frame may stand alone in one.
use Rattle.std.proofs.Common.{◌≡◌, ℕ, ◌<◌, List, [], ◌∷◌, ◌++◌, length, length-append, refl, sym, ap, ◌∙◌, arith}
use Rattle.std.specs.List.{AllByRecursion, flat_map}
use Rattle.theory.specs.Wire.{Wire, DATA, PAD, HEARTBEAT, NAK, SM, SETUP, IsFrame, StandTogether, spelling}
use Rattle.theory.specs.Laws.{HasOneReading}
use Rattle.theory.proofs.Spelled.{one_spelling}

-- no spelling is empty
pub some_bytes : (w : Wire) → 0 < length (spelling w)
some_bytes (DATA h flags payload) = omega arith
some_bytes (PAD h n) = omega arith
some_bytes (HEARTBEAT h) = omega arith
some_bytes (NAK f) = omega arith
some_bytes (SM asks f) = omega arith
some_bytes (SETUP f) = omega arith

pub not_empty : (w : Wire) (rest : List ℕ) → [] ≡ spelling w ++ rest → ⊥
not_empty w rest e = absurd (omega (arith, some_bytes w, ap length e, length-append (spelling w) rest))

pub stands_alone : (w : Wire) → StandTogether (w ∷ [])
stands_alone (DATA h flags payload) = tt
stands_alone (PAD h n) = refl
stands_alone (HEARTBEAT h) = refl
stands_alone (NAK f) = refl
stands_alone (SM asks f) = refl
stands_alone (SETUP f) = refl

pub same_frames : (a b : List Wire) → AllByRecursion IsFrame a → AllByRecursion IsFrame b → flat_map spelling a ≡ flat_map spelling b → a ≡ b
same_frames [] [] f g e = refl
same_frames [] (w ∷ ws) f g e = absurd (not_empty w (flat_map spelling ws) e)
same_frames (v ∷ vs) [] f g e = absurd (not_empty v (flat_map spelling vs) (sym e))
same_frames (v ∷ vs) (w ∷ ws) f g e =
    let parts = one_spelling v w (flat_map spelling vs) (flat_map spelling ws) f.0 g.0 e in
    ap (λ x. x ∷ vs) parts.0 ∙ ap (λ x. w ∷ x) (same_frames vs ws f.1 g.1 parts.1)

pub one_reading : HasOneReading
one_reading a b bytes f g = same_frames a b f.1 g.1 (sym f.2 ∙ g.2)
