-- What is written through a claim's bytes stands in the claim.
use Rattle.std.specs.Prelude.{ℕ, List, ◌++◌, drop, length, take}
use Rattle.std.specs.Borrow.{Lends, MutBor, Fml, u8, Array}
use Rattle.claims.specs.Holdings.{ClaimValue}
use Rattle.claims.specs.contracts.claim.Claim.{the_row}

-- the claim with these bytes over its own
abbrev pub with_bytes : ClaimValue → List ℕ → ClaimValue
with_bytes c bytes = record c { bytes = take (length c.bytes) (bytes ++ drop (length bytes) c.bytes) }

abbrev pub LendsBytes : MutBor ClaimValue → MutBor (List ℕ) → Fml
LendsBytes claim bytes = Lends the_row (Array u8 0) claim bytes (with_bytes claim.now)
