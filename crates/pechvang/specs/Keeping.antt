-- What the calls of a keeper do, by what its handle holds.
use Rattle.std.specs.Prelude.{◌≡◌, ℕ, ◌⊎◌, ℤ, pos, Bool}
use Rattle.std.specs.declared.option.Option.TheVariants.{Some}
use Rattle.shared_log.specs.Keepers.{closed_word, connected_word}
use Rattle.claims.specs.Passes.Keeping.{Cleans, DeclinesReader, OpensReader, StoresLimit}
use Rattle.pechvang.specs.declared.held.Pass.TheVariants.{Keeper, Reader}
use Rattle.pechvang.specs.Answers.{Does, Fails, Gives, Unserved}
use Rattle.pechvang.specs.Owned.{Held}

-- it cleans and raises the limit, which is written
abbrev pub CleansTo : Held → ℕ → ℤ → ℕ → Held → Type 0
CleansTo (Some (Keeper p)) before code after k = Does Keeper (pos 0) (λ q. Cleans p after q) code k
CleansTo h before code after k = Unserved h code k × (after ≡ before)

abbrev pub Connects : Bool → Held → ℤ → Held → Type 0
Connects connected (Some (Keeper p)) code k = Does Keeper (pos 0) (λ q. StoresLimit p (connected_word connected p.keeper.limit) q) code k
Connects connected h code k = Unserved h code k

abbrev pub Closes : Held → ℤ → Held → Type 0
Closes (Some (Keeper p)) code k = Does Keeper (pos 0) (λ q. StoresLimit p (closed_word p.keeper.limit) q) code k
Closes h code k = Unserved h code k

-- a reader joins, and another handle holds it; or it is declined, and that one is as it was
abbrev pub Joins : Held → Held → ℤ → Held → Held → Type 0
Joins (Some (Keeper p)) before code k after = Gives Keeper Reader (λ r q. OpensReader p r q) code k after ⊎ (Fails Keeper (λ fault q. DeclinesReader p fault q) code k × (after ≡ before))
Joins h before code k after = Unserved h code k × (after ≡ before)
