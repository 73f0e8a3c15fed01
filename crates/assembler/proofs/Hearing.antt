-- Frames that an assembler hears one after the other.
use Rattle.std.proofs.Common.{◌≡◌, ℕ, List, [], ◌∷◌, ◌++◌, map, Option, refl, sym, ap, ◌∙◌, append-nil, append_assoc}
use Rattle.std.specs.Option.{option_to_list}
use Rattle.theory.specs.Placed.{Data, Frame, Pad, Placed}
use Rattle.theory.specs.Assembly.{Assembly, after, after_all, on_frame}
use Rattle.assembler.specs.Hearing.{assembled, heard_of}

-- ---- one frame

pub after_begun : (a : Assembly) (f : Frame) → (after a f).begun ≡ (heard_of a.begun f).begun
after_begun a (Data flags payload) = refl
after_begun a (Pad n) = refl

pub after_given : (a : Assembly) (f : Frame) → (after a f).given ≡ a.given ++ option_to_list (heard_of a.begun f).message
after_given a (Data flags payload) = refl
after_given a (Pad n) = sym (append-nil a.given)

-- ---- one list after the other

pub heard_on : (a : Assembly) (xs ys : List Placed) → after_all a (map (λ s. s.frame) (xs ++ ys)) ≡ after_all (after_all a (map (λ s. s.frame) xs)) (map (λ s. s.frame) ys)
heard_on a [] ys = refl
heard_on a (x ∷ xs) ys = heard_on (after a x.frame) xs ys

-- what was given before stands before
pub given_more : (begun : Option (List ℕ)) (first more : List (List ℕ)) (fs : List Frame) → (after_all (record { begun = begun; given = first ++ more }) fs).given ≡ first ++ (after_all (record { begun = begun; given = more }) fs).given
given_more begun first more [] = refl
given_more begun first more (Pad n ∷ fs) = given_more begun first more fs
given_more begun first more (Data flags payload ∷ fs) =
    let h = on_frame begun flags payload in
    ap (λ (z : List (List ℕ)). (after_all (record { begun = h.begun; given = z }) fs).given) (append_assoc first more (option_to_list h.message))
    ∙ given_more h.begun first (more ++ option_to_list h.message) fs

-- what is begun doesn't depend on it
begun_same : (begun : Option (List ℕ)) (first other : List (List ℕ)) (fs : List Frame) → (after_all (record { begun = begun; given = first }) fs).begun ≡ (after_all (record { begun = begun; given = other }) fs).begun
begun_same begun first other [] = refl
begun_same begun first other (Pad n ∷ fs) = begun_same begun first other fs
begun_same begun first other (Data flags payload ∷ fs) = let h = on_frame begun flags payload in begun_same h.begun (first ++ option_to_list h.message) (other ++ option_to_list h.message) fs

-- an assembler that had given these messages
pub given_behind : (begun : Option (List ℕ)) (given : List (List ℕ)) (frames : List Placed) → after_all (record { begun = begun; given = given }) (map (λ s. s.frame) frames) ≡ record { begun = (assembled begun frames).begun; given = given ++ (assembled begun frames).given }
given_behind begun given frames =
    let fs : List Frame = map (λ (s : Placed). s.frame) frames in
    ap (λ (z : List (List ℕ)). after_all (record { begun = begun; given = z }) fs) (sym (append-nil given))
    ∙ (λ j. record { begun = begun_same begun (given ++ []) [] fs j; given = given_more begun given [] fs j })

-- frames behind others
pub assembled_behind : (begun : Option (List ℕ)) (frames more : List Placed) → assembled begun (frames ++ more) ≡ record { begun = (assembled (assembled begun frames).begun more).begun; given = (assembled begun frames).given ++ (assembled (assembled begun frames).begun more).given }
assembled_behind begun frames more = heard_on (record { begun = begun; given = [] }) frames more ∙ given_behind (assembled begun frames).begun (assembled begun frames).given more

-- one frame more
pub assembled_more : (begun : Option (List ℕ)) (frames : List Placed) (s : Placed) → assembled begun (frames ++ s ∷ []) ≡ after (assembled begun frames) s.frame
assembled_more begun frames s = heard_on (record { begun = begun; given = [] }) frames (s ∷ [])

-- what a frame makes of what was heard so far, and gave nothing
pub heard_more : (begun now : Option (List ℕ)) (frames : List Placed) (s : Placed) → assembled begun frames ≡ record { begun = now; given = [] }
    → assembled begun (frames ++ s ∷ []) ≡ record { begun = (heard_of now s.frame).begun; given = option_to_list (heard_of now s.frame).message }
heard_more begun now frames s e =
    let b : Assembly = record { begun = now; given = [] } in
    assembled_more begun frames s ∙ ap (λ (a : Assembly). after a s.frame) e ∙ (λ j. record { begun = after_begun b s.frame j; given = after_given b s.frame j })
