-- What a call answers by its code, and what the handle holds then.
use Rattle.std.specs.Prelude.{◌≡◌, ℕ, ℤ, pos, negsuc, Option, Result, Ok, Err}
use Rattle.std.specs.declared.option.Option.TheVariants.{None, Some}
use Rattle.claims.specs.Passes.Codes.{code_of}
use Rattle.cores.specs.Numbers as core_numbers
use Rattle.cores.specs.declared.fault.Fault as core_faults
use Rattle.pechvang.specs.declared.held.Pass.{Pass}
use Rattle.claims.specs.declared.passes.fault.Fault.{Fault}
use Rattle.pechvang.specs.Owned.{Held}

-- the handle holds nothing, or a pass of a kind that the call isn't for
abbrev pub why_not : Held → ℤ
why_not None = negsuc 15
why_not (Some p) = negsuc 16

-- the call isn't served, and changes nothing of the handle
pub record Unserved (h : Held) (code : ℤ) (k : Held) : Type 0 where
  pub code_is : code ≡ why_not h
  pub same : k ≡ h

-- it is refused by this code, and changes nothing of the handle
pub record RefusedBy (wanted : ℤ) (h : Held) (code : ℤ) (k : Held) : Type 0 where
  pub code_is : code ≡ wanted
  pub same : k ≡ h

-- it answers this code, and what it did to the pass was this
pub record Does {Q : Type 0} (pass_of : Q → Pass) (wanted : ℤ) (Did : Q → Type 0) (code : ℤ) (k : Held) : Type 0 where
  pub after : Q
  pub held : k ≡ Some (pass_of after)
  pub code_is : code ≡ wanted
  pub did : Did after

-- it fails, by a fault that the code names
pub record FailsAs {F Q : Type 0} (number : F → ℤ) (pass_of : Q → Pass) (Why : F → Q → Type 0) (code : ℤ) (k : Held) : Type 0 where
  pub fault : F
  pub after : Q
  pub held : k ≡ Some (pass_of after)
  pub code_is : code ≡ number fault
  pub why : Why fault after

-- of a log
abbrev pub Fails : {Q : Type 0} → (Q → Pass) → (Fault → Q → Type 0) → ℤ → Held → Type 0
Fails = FailsAs code_of

-- of a core
abbrev pub FailsCore : {Q : Type 0} → (Q → Pass) → (core_faults.Fault → Q → Type 0) → ℤ → Held → Type 0
FailsCore = FailsAs core_numbers.code_of

-- what is told of a write to a room's front: that so many bytes were written, or none, or why it failed
abbrev pub Tells : Result (Option ℕ) core_faults.Fault → ℕ → ℤ → ℕ → Type 0
Tells (Ok (Some n)) before code after = (code ≡ pos 1) × (after ≡ n)
Tells (Ok None) before code after = (code ≡ pos 0) × (after ≡ before)
Tells (Err fault) before code after = (code ≡ core_numbers.code_of fault) × (after ≡ before)

-- it is done, and another handle holds what it gave
pub record Gives {Q R : Type 0} (pass_of : Q → Pass) (given_of : R → Pass) (Did : R → Q → Type 0) (code : ℤ) (k out : Held) : Type 0 where
  pub after : Q
  pub given : R
  pub held : k ≡ Some (pass_of after)
  pub out_is : out ≡ Some (given_of given)
  pub code_is : code ≡ pos 0
  pub did : Did given after
