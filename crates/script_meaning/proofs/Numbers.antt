-- The numbers of the receivers.
use Rattle.std.proofs.Common.{◌≡◌, ◌<◌, ℕ, refl, arith, get_or}
use Rattle.std.specs.Prelude.{suc, zero}
use Rattle.script_meaning.specs.ScriptState.{numbers}

pub number_at : (k : ℕ) → k < 8 → get_or numbers k 0 ≡ k
number_at zero h = refl
number_at (suc zero) h = refl
number_at (suc (suc zero)) h = refl
number_at (suc (suc (suc zero))) h = refl
number_at (suc (suc (suc (suc zero)))) h = refl
number_at (suc (suc (suc (suc (suc zero))))) h = refl
number_at (suc (suc (suc (suc (suc (suc zero)))))) h = refl
number_at (suc (suc (suc (suc (suc (suc (suc zero))))))) h = refl
number_at (suc (suc (suc (suc (suc (suc (suc (suc k)))))))) h = absurd (omega (arith, h))
