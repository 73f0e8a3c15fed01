-- The devices of a run.
use Rattle.std.specs.Prelude.{◌≡◌, ⊤, ◌+◌, ◌%◌, ◌^◌, ℕ, zero, suc, List, [], ◌∷◌, length}
use Rattle.theory.specs.Loss.{Rates}
use Rattle.endpoint.specs.Devices.{fresh}
use Rattle.endpoint.specs.Udp.{Udp}
use Rattle.loss_injector.specs.Losing.{Losing, begun}

-- the seed of a run's way, by its number, and of its receivers
abbrev pub way_seed : ℕ → ℕ → ℕ
way_seed seed zero = seed
way_seed seed (suc n) = (seed + (8 + suc n)) % 2 ^ 64

abbrev pub reply_seed : ℕ → ℕ → ℕ
reply_seed seed n = (seed + (1 + n)) % 2 ^ 64

-- nothing was sent yet; what goes out is lost at these rates, by words of this seed
pub record IsLossy (rates : Rates) (seed : ℕ) (l : Losing Udp) : Type 0 where
  pub loses : l ≡ begun l.inner rates seed
  pub new : l.inner.device ≡ fresh

-- each by the seed of its number, which they have from this one on
abbrev pub AreSeeded : Rates → (ℕ → ℕ) → ℕ → List (Losing Udp) → Type 0
AreSeeded rates seed_of n [] = ⊤
AreSeeded rates seed_of n (l ∷ ls) = IsLossy rates (seed_of n) l × AreSeeded rates seed_of (suc n) ls

-- so many ways of a sender, and as many receivers'
pub record AreLossy (rates : Rates) (seed count : ℕ) (ways replies : List (Losing Udp)) : Type 0 where
  pub ways_many : length ways ≡ count
  pub replies_many : length replies ≡ count
  pub ways_lose : AreSeeded rates (way_seed seed) 0 ways
  pub replies_lose : AreSeeded rates (reply_seed seed) 0 replies
