-- Why a publisher goes on no more, and what it has told where it does.
use Rattle.std.proofs.Common.{◌≡◌, ℕ, inr, Bool, true, false, ◌||◌, nat_eq, is_some, Option, None, Some, IfSome, Result, Ok, Err, if◌then◌else◌, refl, sym, ap, subst}
use Rattle.std.specs.Prelude.{⊤}
use Rattle.publisher.specs.declared.offering.reading.Reading.{Reading}
use Rattle.publisher.specs.Judging.{FailsBy, fault_in, reading_fault}
use Rattle.publisher.specs.Progress.{is_shown, shown_at}
use Rattle.publisher.specs.declared.fault.PublishFault.{PublishFault}
use Rattle.publisher.specs.declared.progress.Progress.{Progress}

abbrev IsErr : Result (Unit {0}) PublishFault → Type 0
IsErr (Ok done) = ⊥
IsErr (Err fault) = ⊤

abbrev err_or : PublishFault → Result (Unit {0}) PublishFault → PublishFault
err_or other (Ok done) = other
err_or other (Err fault) = fault

same_err : (a b : PublishFault) → ◌≡◌ {A = Result (Unit {0}) PublishFault} (Err a) (Err b) → a ≡ b
same_err a b h = ap (err_or a) h

before_any : (first : Bool) (why fault : PublishFault) → ◌≡◌ {A = Result (Unit {0}) PublishFault} (if first then Err why else Ok tt) (Err fault) → why ≡ fault
before_any true why fault h = same_err why fault h
before_any false why fault h = absurd (subst IsErr (sym h) tt)

stopped_by : (reading : Option PublishFault) (messages : ℕ) (fault : PublishFault) → reading_fault reading messages ≡ Err fault → reading ≡ Some fault
stopped_by None messages fault h = absurd (subst IsErr (sym h) tt)
stopped_by (Some why) messages fault h = ap (λ (f : PublishFault). Some f) (before_any (nat_eq messages 0) why fault h)

pub stopped : (is_broken : Bool) (reading : Option Reading) (messages : ℕ) (fault : PublishFault) → reading_fault (fault_in reading) messages ≡ Err fault → FailsBy is_broken reading fault
stopped is_broken reading messages fault h = inr (stopped_by (fault_in reading) messages fault h)

-- a fault that is passed over was told
pub told : (fault : Option PublishFault) (before after : Bool) → after ≡ (before || is_some fault) → IfSome fault (λ _. after ≡ true)
told None before after h = tt
told (Some why) true after h = h
told (Some why) false after h = h

-- where counters are told, nothing else of what was told changes
shown_by : (due : Bool) (p : Progress) (messages now : ℕ) → ((if due then record p { shown = now; messages = messages } else p).faulted ≡ p.faulted) × ((if due then record p { shown = now; messages = messages } else p).ended ≡ p.ended)
shown_by true p messages now = (refl, refl)
shown_by false p messages now = (refl, refl)

pub shown_alone : (p : Progress) (messages now : ℕ) (last : Bool) → ((shown_at p messages now last).faulted ≡ p.faulted) × ((shown_at p messages now last).ended ≡ p.ended)
shown_alone p messages now last = shown_by (is_shown p now last) p messages now
