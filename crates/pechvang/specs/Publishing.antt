-- What the calls of a publisher do, by what its handle holds.
use Rattle.std.specs.Prelude.{◌≡◌, ℕ, ◌+◌, ◌⊎◌, ℤ, pos, negsuc, List, [], ◌∷◌, length}
use Rattle.std.specs.declared.option.Option.TheVariants.{Some}
use Rattle.theory.specs.Placed.{Data, Frame, Pad}
use Rattle.log_rule.specs.Shares.{claimed_bytes}
use Rattle.claims.specs.Holdings.{end_of, size_of}
use Rattle.claims.specs.Passes.Claiming.{DeclinesClaim, DeclinesPart, Ends, Opens, Writes}
use Rattle.claims.specs.Passes.Publishing.{Accepts, Declines}
use Rattle.pechvang.specs.declared.held.Pass.TheVariants.{Claim, Publisher}
use Rattle.claims.specs.declared.passes.claiming.ClaimPass.{ClaimPass}
use Rattle.pechvang.specs.Answers.{Does, Fails, RefusedBy, Unserved}
use Rattle.pechvang.specs.Owned.{Held}

-- a claim is open, or none is
abbrev pub claim_open : ℤ
claim_open = negsuc 7

abbrev pub no_claim : ℤ
no_claim = negsuc 8

-- a message is offered: accepted, and the position behind it is written; or it is declined, and nothing is written
abbrev pub Offers : Held → List ℕ → ℕ → ℤ → ℕ → Held → Type 0
Offers (Some (Publisher p)) message before code after k = Does Publisher (pos 0) (λ q. Accepts p message after q) code k ⊎ (Fails Publisher (λ fault q. Declines p (length message) fault q) code k × (after ≡ before))
Offers (Some (Claim c)) message before code after k = RefusedBy claim_open (Some (Claim c)) code k × (after ≡ before)
Offers h message before code after k = Unserved h code k × (after ≡ before)

-- a range is claimed: the claim is open, and its start is written; or it is declined, and nothing is written
abbrev pub Claims : Held → ℕ → ℕ → ℤ → ℕ → Held → Type 0
Claims (Some (Publisher p)) size before code after k = Does Claim (pos 0) (λ c. Opens p size c × (after ≡ c.claim.start)) code k ⊎ (Fails Publisher (λ fault q. DeclinesClaim p size fault q) code k × (after ≡ before))
Claims (Some (Claim c)) size before code after k = RefusedBy claim_open (Some (Claim c)) code k × (after ≡ before)
Claims h size before code after k = Unserved h code k × (after ≡ before)

-- a part of the open claim's message is written
abbrev pub WritesPart : Held → ℕ → List ℕ → ℤ → Held → Type 0
WritesPart (Some (Claim c)) offset part code k = Does Claim (pos 0) (λ d. Writes c offset part d) code k ⊎ Fails Claim (λ fault d. DeclinesPart c offset (length part) fault d) code k
WritesPart (Some (Publisher p)) offset part code k = RefusedBy no_claim (Some (Publisher p)) code k
WritesPart h offset part code k = Unserved h code k

-- the open claim ends as a frame, by one store, and the position behind it is written
abbrev pub EndsAs : (ClaimPass → Frame) → Held → ℕ → ℤ → ℕ → Held → Type 0
EndsAs frame (Some (Claim c)) before code after k = Does Publisher (pos 0) (λ q. Ends c (frame c) q × (after ≡ end_of c.claim)) code k
EndsAs frame (Some (Publisher p)) before code after k = RefusedBy no_claim (Some (Publisher p)) code k × (after ≡ before)
EndsAs frame h before code after k = Unserved h code k × (after ≡ before)

abbrev pub Commits : Held → ℕ → ℤ → ℕ → Held → Type 0
Commits = EndsAs (λ c. Data 192 c.claim.bytes)

abbrev pub Aborts : Held → ℕ → ℤ → ℕ → Held → Type 0
Aborts = EndsAs (λ c. Pad (32 + size_of c.claim))

-- how many bytes its claims cover is written
abbrev pub Shares : Held → ℕ → ℤ → ℕ → Held → Type 0
Shares (Some (Publisher p)) before code after k = Does Publisher (pos 0) (λ q. (q ≡ p) × (after ≡ claimed_bytes p.claimant.pass)) code k
Shares (Some (Claim c)) before code after k = RefusedBy claim_open (Some (Claim c)) code k × (after ≡ before)
Shares h before code after k = Unserved h code k × (after ≡ before)
