-- Devices by the seeds of their numbers, and one more.
use Rattle.std.proofs.Common.{◌≡◌, ℕ, suc, ◌+◌, List, [], ◌∷◌, ◌++◌, length, length-append, subst, arith}
use Rattle.theory.specs.Loss.{Rates}
use Rattle.endpoint.specs.Udp.{Udp}
use Rattle.loss_injector.specs.Losing.{Losing}
use Rattle.run_parties.specs.Devices.{AreSeeded, IsLossy}

pub seeded_more : (rates : Rates) (seed_of : ℕ → ℕ) (n k : ℕ) (ls : List (Losing Udp)) (l : Losing Udp) → AreSeeded rates seed_of n ls → n + length ls ≡ k → IsLossy rates (seed_of k) l → AreSeeded rates seed_of n (ls ++ l ∷ [])
seeded_more rates seed_of n k [] l all at one = let same : k ≡ n = omega (arith, at) in (subst (λ (m : ℕ). IsLossy rates (seed_of m) l) same one, tt)
seeded_more rates seed_of n k (x ∷ ls) l all at one = (all.0, seeded_more rates seed_of (suc n) k ls l all.1 (omega (arith, at)) one)

pub one_longer : (ls : List (Losing Udp)) (l : Losing Udp) (n : ℕ) → length ls ≡ n → length (ls ++ l ∷ []) ≡ n + 1
one_longer ls l n is = let e = length-append ls (l ∷ []) in omega (arith, e, is)
