-- What contracts see of a log that threads share, and of its passes.
use Rattle.std.specs.Prelude.{◌≡◌, ℕ, suc, ◌<◌, ◌≤◌, List, [], ◌∷◌, Option, None, Some, nat_eq, if◌then◌else◌}
use Rattle.std.specs.List.{AllByRecursion}
use Rattle.theory.specs.Bytes.{Identity}
use Rattle.region.specs.Identity as regions
use Rattle.shared_log.specs.declared.home.Home.{Home}
use Rattle.theory.specs.Placed.{Among}
use Rattle.shared_log.specs.Steps.Handles.{IsOf, LogValue, PublisherValue}
use Rattle.log_rule.specs.Claims.Plays.{newcomer}
use Rattle.publication.specs.declared.pass.ClaimRange.{ClaimRange}
use Rattle.publication.specs.declared.pass.Pass.{Pass}
use Rattle.log_rule.specs.Shares.{claimed_bytes}

-- these claims of a pass with this number and so many parts are its own, and the number is one of its own, where it isn't
-- the one that has all: that one may act for any number
pub record AreOwn (own parts : ℕ) (numbers : List ℕ) (claims : List ClaimRange) : Type 0 where
  pub number : own < 8
  pub mine : parts < 1024 → AllByRecursion (λ c. c.owner ≡ own) claims
  pub among : parts < 1024 → Among own numbers

abbrev pub OwnsClaims : Pass → Type 0
OwnsClaims v = AreOwn v.number v.right.parts v.right.numbers v.right.claims

-- the pass has a publisher's parts of the right, this number, and claims that cover so many bytes
pub record IsPublishing (v : Pass) (number share : ℕ) : Type 0 where
  pub owns : OwnsClaims v
  pub parts : 120 ≤ v.right.parts
  pub number_is : number ≡ v.number
  pub share_is : share ≡ claimed_bytes v

-- the publishers of a log that was just opened, from this number on
pub record IsNew (l : LogValue) (number : ℕ) (p : PublisherValue) : Type 0 where
  pub of : IsOf l p
  pub pass : p.pass ≡ newcomer l.identity l.start number (if nat_eq number 0 then 176 else 120)
  pub steps : p.steps ≡ 0

abbrev pub AreNew : LogValue → ℕ → List PublisherValue → Type 0
AreNew l number [] = number ≡ 8
AreNew l number (p ∷ ps) = IsNew l number p × AreNew l (suc number) ps

-- the handle of this region is there
abbrev pub HasHome : regions.Identity → Option Home → Type 0
HasHome region (Some h) = h.region.value.identity ≡ region
HasHome region None = ⊥

-- what a publisher holds beside its pass: the region of its log, how far memory was taken back, and what its pass says
pub record IsPublisher (p : PublisherValue) (home : Option Home) (freed number share : ℕ) (identity : Identity) (start : ℕ) : Type 0 where
  pub publishing : IsPublishing p.pass number share
  pub home_is : HasHome p.of.region home
  pub freed_is : freed ≡ p.freed
  pub identity_is : identity ≡ p.pass.identity
  pub start_is : start ≡ p.pass.start
