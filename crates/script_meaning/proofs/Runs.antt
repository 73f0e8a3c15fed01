-- Runs of the world one after the other.
use Rattle.std.proofs.Common.{◌≡◌, ℕ, List, [], ◌∷◌, ◌++◌, Some, refl, ap, subst}
use Rattle.std.specs.Prelude.{slice_get, slice_set}
use Rattle.std.proofs.lemmas.List.{set-set}
use Rattle.std.proofs.lemmas.Option.{slice_get_within}
use Rattle.theory.specs.Image.{Image}
use Rattle.model.specs.World.{World, Event, Step, Run}
use Rattle.theory.proofs.Tables.{get_put, set_same}

pub run_append : (a b c : World) (es fs : List Event) → Run a es b → Run b fs c → Run a (es ++ fs) c
run_append a b c [] fs h k = subst (λ w. Run w fs c) h k
run_append a b c (e ∷ es) fs h k = (h.0, h.1, run_append h.0 b c es fs h.2 k)

-- some events lead from one world to the other
abbrev pub Goes : World → World → Type 0
Goes a b = (events : List Event) × Run a events b

pub stays : (a b : World) → b ≡ a → Goes a b
stays a b same = ([], same)

pub goes_one : (a b : World) (e : Event) → Step a e b → Goes a b
goes_one a b e step = (e ∷ [], (b, step, refl))

pub goes_on : (a b c : World) → Goes a b → Goes b c → Goes a c
goes_on a b c h k = (h.0 ++ k.0, run_append a b c h.0 k.0 h.1 k.1)

-- ---- one image of a world

abbrev pub with_image : World → ℕ → Image → World
with_image w k i = record w { images = slice_set w.images k (Some i) }

pub image_kept : (w : World) (k : ℕ) (i : Image) → slice_get w.images k ≡ Some (Some i) → with_image w k i ≡ w
image_kept w k i h = ap (λ xs. record w { images = xs }) (set_same w.images k (Some i) h)

pub image_there : (w : World) (k : ℕ) (i j : Image) → slice_get w.images k ≡ Some (Some i) → slice_get (with_image w k j).images k ≡ Some (Some j)
image_there w k i j h = get_put w.images k (Some j) (slice_get_within w.images k (Some i) h)

pub image_again : (w : World) (k : ℕ) (i j : Image) → with_image (with_image w k i) k j ≡ with_image w k j
image_again w k i j = ap (λ xs. record w { images = xs }) (set-set w.images k (Some i) (Some j))
