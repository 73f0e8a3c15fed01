-- A fault's code is a number of 32 bits.
use Rattle.std.proofs.Common.{◌≡◌, ℕ, ℤ, pos, refl, ap, sym, subst, ◌∙◌}
use Rattle.std.specs.Prelude.{Option, None, Some, Result, Ok, Err}
use mir.Syntax.{w32}
use mir.Val.{of_z, to_z}
use Rattle.publication.specs.declared.refusal.Refusal.TheVariants.{AdminAction, BackPressured, Closed, MaxPositionExceeded, NotConnected}
use Rattle.cores.specs.Numbers as core_numbers
use Rattle.cores.specs.declared.fault.Fault as core_faults
use Rattle.cores.specs.declared.fault.Fault.TheVariants as cores
use Rattle.claims.specs.Passes.Codes.{code_of}
use Rattle.pechvang.specs.Answers.{Tells}
use Rattle.claims.specs.declared.passes.fault.Fault.{Fault}
use Rattle.claims.specs.declared.passes.fault.Fault.TheVariants.{Consumers, Full, Long, Memory, Mtu, NoneLeft, Outside, Refused, Start, TermLength}

small : (f : Fault) → to_z w32 (of_z w32 (code_of f)) ≡ code_of f
small (Refused NotConnected) = refl
small (Refused BackPressured) = refl
small (Refused AdminAction) = refl
small (Refused Closed) = refl
small (Refused MaxPositionExceeded) = refl
small Long = refl
small Outside = refl
small NoneLeft = refl
small Memory = refl
small TermLength = refl
small Mtu = refl
small Start = refl
small Consumers = refl
small Full = refl

pub coded : (f : Fault) (code : ℤ) → code ≡ code_of f → to_z w32 (of_z w32 code) ≡ code_of f
coded f code e = ap (λ (z : ℤ). to_z w32 (of_z w32 z)) e ∙ small f

small_of_core : (f : core_faults.Fault) → to_z w32 (of_z w32 (core_numbers.code_of f)) ≡ core_numbers.code_of f
small_of_core cores.Room = refl
small_of_core cores.Unsent = refl
small_of_core cores.NoImage = refl
small_of_core cores.TooLong = refl
small_of_core cores.Memory = refl
small_of_core cores.Start = refl
small_of_core cores.Group = refl
small_of_core cores.HasRead = refl

pub coded_core : (f : core_faults.Fault) (code : ℤ) → code ≡ core_numbers.code_of f → to_z w32 (of_z w32 code) ≡ core_numbers.code_of f
coded_core f code e = ap (λ (z : ℤ). to_z w32 (of_z w32 z)) e ∙ small_of_core f

-- what holds with each length and code that a write may be told by, holds with those that it is told by
pub by_what_is_told : (w : Result (Option ℕ) core_faults.Fault) (before : ℕ) (code : ℤ) (after : ℕ) (Goes : ℕ → ℤ → Type 0) → Tells w before code after
    → ((n : ℕ) → w ≡ Ok (Some n) → Goes n (to_z w32 (of_z w32 (pos 1)))) → (w ≡ Ok None → Goes before (to_z w32 (of_z w32 (pos 0)))) → ((f : core_faults.Fault) → w ≡ Err f → Goes before (to_z w32 (of_z w32 (core_numbers.code_of f))))
    → Goes after (to_z w32 (of_z w32 code))
by_what_is_told (Ok (Some n)) before code after Goes (e, l) given none failed = subst (λ (x : ℕ × ℤ). Goes x.0 (to_z w32 (of_z w32 x.1))) (λ i. (sym l i, sym e i)) (given n refl)
by_what_is_told (Ok None) before code after Goes (e, l) given none failed = subst (λ (x : ℕ × ℤ). Goes x.0 (to_z w32 (of_z w32 x.1))) (λ i. (sym l i, sym e i)) (none refl)
by_what_is_told (Err f) before code after Goes (e, l) given none failed = subst (λ (x : ℕ × ℤ). Goes x.0 (to_z w32 (of_z w32 x.1))) (λ i. (sym l i, sym e i)) (failed f refl)
