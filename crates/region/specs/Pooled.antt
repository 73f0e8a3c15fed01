-- Which bytes of a region are free, and what a pool of them owns.
use Rattle.std.specs.Prelude.{◌≡◌, ℕ, zero, suc, ◌+◌, ◌<◌, ◌≤◌, Bool, true, false, List, [], ◌∷◌, drop}
use mathlib.Core.Option.{some}
use lib.ListN.{get_elem?}
use base.Fml.{GName, Fml, ftrue, fsep, fex}
use Rattle.bytes.specs.Ownership.{closed}
use Rattle.region.specs.Identity.{Identity}

-- so many bytes, all free
abbrev pub all_of : ℕ → List Bool
all_of zero = []
all_of (suc n) = true ∷ all_of n

-- so many from a place on are free from now on, or aren't
abbrev pub stands : Bool → ℕ → ℕ → List Bool → List Bool
stands v at len [] = []
stands v zero zero (f ∷ fs) = f ∷ fs
stands v zero (suc len) (f ∷ fs) = v ∷ stands v zero len fs
stands v (suc at) len (f ∷ fs) = f ∷ stands v at len fs

-- each of these is, or isn't
abbrev pub AreAll : Bool → ℕ → ℕ → List Bool → Type 0
AreAll v at len fs = (j : ℕ) → at ≤ j → j < at + len → get_elem? fs j ≡ some v

-- the right to write each free byte
abbrev pub pooled : ℕ → ℕ → List GName → List Bool → ℕ → Fml
pooled l b gs [] o = ftrue
pooled l b gs (false ∷ fs) o = pooled l b (drop 1 gs) fs (o + 1)
pooled l b gs (true ∷ fs) o = fsep (fex ℕ (λ x. closed l gs (x ∷ []) b o)) (pooled l b (drop 1 gs) fs (o + 1))

abbrev pub pool_owns : Identity → List Bool → Fml
pool_owns i fs = pooled i.life i.block i.names fs i.first
