-- A state with the image of one receiver alone: what the others are handed changes nothing in its world.
use Rattle.std.proofs.Common.{◌≡◌, ℕ, zero, suc, List, [], ◌∷◌, map, None, refl, sym, ap, ◌∙◌}
use Rattle.std.specs.Prelude.{slice_get, slice_set}
use Rattle.std.specs.List.{AllByRecursion}
use Rattle.receiver.specs.Receiving.{Receiver}
use Rattle.script_meaning.specs.Answers.{with_receiver}
use Rattle.script_meaning.specs.ScriptState.{ScriptState, hush, image_of, lone, lone_at, world_of}

kept_there : (k : ℕ) (rs : List Receiver) → slice_get (lone_at k rs) k ≡ slice_get rs k
kept_there k [] = refl
kept_there zero (r ∷ rs) = refl
kept_there (suc k) (r ∷ rs) = kept_there k rs

-- the receiver itself is there
pub lone_there : (k : ℕ) (s : ScriptState) → slice_get (lone k s).receivers k ≡ slice_get s.receivers k
lone_there k s = kept_there k s.receivers

put_there : (k : ℕ) (rs : List Receiver) (r : Receiver) → lone_at k (slice_set rs k r) ≡ slice_set (lone_at k rs) k r
put_there k [] r = refl
put_there zero (x ∷ xs) r = refl
put_there (suc k) (x ∷ xs) r = ap (λ ys. hush x ∷ ys) (put_there k xs r)

pub lone_put : (k : ℕ) (s : ScriptState) (r : Receiver) → lone k (with_receiver s k r) ≡ with_receiver (lone k s) k r
lone_put k s r = ap (λ rs. record s { receivers = rs }) (put_there k s.receivers r)

all_hushed : (n : ℕ) (rs : List Receiver) (r : Receiver) → map image_of (map hush (slice_set rs n r)) ≡ map image_of (map hush rs)
all_hushed n [] r = refl
all_hushed zero (x ∷ xs) r = refl
all_hushed (suc n) (x ∷ xs) r = ap (λ ys. None ∷ ys) (all_hushed n xs r)

others_hushed : (k n : ℕ) (rs : List Receiver) (r : Receiver) → (n ≡ k → ⊥) → map image_of (lone_at k (slice_set rs n r)) ≡ map image_of (lone_at k rs)
others_hushed k n [] r other = refl
others_hushed zero zero (x ∷ xs) r other = absurd (other refl)
others_hushed zero (suc n) (x ∷ xs) r other = ap (λ ys. image_of x ∷ ys) (all_hushed n xs r)
others_hushed (suc k) zero (x ∷ xs) r other = refl
others_hushed (suc k) (suc n) (x ∷ xs) r other = ap (λ ys. None ∷ ys) (others_hushed k n xs r (λ e. other (ap suc e)))

-- another receiver is another one now
pub lone_other : (k n : ℕ) (s : ScriptState) (r : Receiver) → (n ≡ k → ⊥) → world_of (lone k (with_receiver s n r)) ≡ world_of (lone k s)
lone_other k n s r other = ap (λ xs. record (world_of s) { images = xs }) (others_hushed k n s.receivers r other)

none_open : (rs : List Receiver) → AllByRecursion (λ r. image_of r ≡ None) rs → map image_of (map hush rs) ≡ map image_of rs
none_open [] h = refl
none_open (r ∷ rs) h = ap (λ x. x ∷ map image_of (map hush rs)) (sym h.0) ∙ ap (λ xs. image_of r ∷ xs) (none_open rs h.1)

all_closed : (k : ℕ) (rs : List Receiver) → AllByRecursion (λ r. image_of r ≡ None) rs → map image_of (lone_at k rs) ≡ map image_of rs
all_closed k [] h = refl
all_closed zero (r ∷ rs) h = ap (λ xs. image_of r ∷ xs) (none_open rs h.1)
all_closed (suc k) (r ∷ rs) h = ap (λ x. x ∷ map image_of (lone_at k rs)) (sym h.0) ∙ ap (λ xs. image_of r ∷ xs) (all_closed k rs h.1)

-- no receiver has an image
pub lone_closed : (k : ℕ) (s : ScriptState) → AllByRecursion (λ r. image_of r ≡ None) s.receivers → world_of (lone k s) ≡ world_of s
lone_closed k s h = ap (λ xs. record (world_of s) { images = xs }) (all_closed k s.receivers h)
