-- What opens a log, and what takes its passes, by what the handles hold.
use Rattle.std.specs.Prelude.{◌≡◌, ◌⊎◌, ℤ, pos}
use Rattle.std.specs.declared.option.Option.TheVariants.{Some}
use Rattle.claims.specs.Passes.Codes.{code_of}
use Rattle.claims.specs.Passes.Opening.{DeclinesKeeper, DeclinesLog, DeclinesPublisher, DeclinesReader, OpensLog, TakesKeeper, TakesPublisher, TakesReader}
use Rattle.pechvang.specs.declared.held.Pass.{Pass}
use Rattle.pechvang.specs.declared.held.Pass.TheVariants.{Keeper, Opened, Publisher, Reader}
use Rattle.claims.specs.declared.passes.fault.Fault.{Fault}
use Rattle.claims.specs.declared.passes.opening.Config.{Config}
use Rattle.claims.specs.declared.passes.opening.Opened as opened
use Rattle.pechvang.specs.Answers.{Does, Fails, Gives, Unserved}
use Rattle.pechvang.specs.Owned.{Held}

-- no log opens, by a fault that the code names
pub record OpensNone (config : Config) (code : ℤ) : Type 0 where
  pub fault : Fault
  pub code_is : code ≡ code_of fault
  pub declines : DeclinesLog config fault

-- a log opens, and the handle holds it; or none does, and the handle is as it was
abbrev pub Opens : Config → Held → ℤ → Held → Type 0
Opens config before code after = Does Opened (pos 0) (λ o. OpensLog config o) code after ⊎ (OpensNone config code × (after ≡ before))

-- a pass of the log is taken, and another handle holds it; or it is declined, and that one is as it was
abbrev pub Takes : {P : Type 0} → (P → Pass) → (opened.Opened → P → opened.Opened → Type 0) → (opened.Opened → Fault → opened.Opened → Type 0) → Held → Held → ℤ → Held → Held → Type 0
Takes pass_of Taken Declined (Some (Opened o)) before code k after = Gives Opened pass_of (λ p n. Taken o p n) code k after ⊎ (Fails Opened (λ fault n. Declined o fault n) code k × (after ≡ before))
Takes pass_of Taken Declined h before code k after = Unserved h code k × (after ≡ before)

abbrev pub PublisherTaken : Held → Held → ℤ → Held → Held → Type 0
PublisherTaken = Takes Publisher TakesPublisher DeclinesPublisher

abbrev pub ReaderTaken : Held → Held → ℤ → Held → Held → Type 0
ReaderTaken = Takes Reader TakesReader DeclinesReader

abbrev pub KeeperTaken : Held → Held → ℤ → Held → Held → Type 0
KeeperTaken = Takes Keeper TakesKeeper DeclinesKeeper
