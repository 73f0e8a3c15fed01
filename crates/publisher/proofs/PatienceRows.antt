-- Rows: how long a publisher waits, and how it ends by a silence.
use Rattle.std.proofs.Common.{◌≡◌, true, false, Option, None, Some, ap, refl}
use Rattle.std.specs.Prelude.{nat_le}
use Rattle.peer.specs.Endings.{ending_of, is_silent, patience}
use Rattle.peer.specs.declared.attendance.Attendance.{Attendance}
use Rattle.peer.specs.declared.attendance.Heard.{Heard}

-- for the first status message it waits as long as `wait` says, and for a further one as long as `linger` does
first : patience None 15 4 ≡ 4
first = refl

further : (heard : Heard) → patience (Some heard) 15 4 ≡ 15
further heard = refl

-- one before it has waited so long it isn't silent, and then it is
nobody_yet : (a : Attendance) → a.present ≡ None → is_silent a (Some 3) 15 4 ≡ false
nobody_yet a none = ap (λ (p : Option Heard). nat_le (patience p 15 4) 3) none

nobody_came : (a : Attendance) → a.present ≡ None → is_silent a (Some 4) 15 4 ≡ true
nobody_came a none = ap (λ (p : Option Heard). nat_le (patience p 15 4) 4) none

lingers : (a : Attendance) (heard : Heard) → a.present ≡ Some heard → is_silent a (Some 14) 15 4 ≡ false
lingers a heard there = ap (λ (p : Option Heard). nat_le (patience p 15 4) 14) there

gone : (a : Attendance) (heard : Heard) → a.present ≡ Some heard → is_silent a (Some 15) 15 4 ≡ true
gone a heard there = ap (λ (p : Option Heard). nat_le (patience p 15 4) 15) there

-- where silence isn't judged it isn't silent, however little it waits
unjudged : (a : Attendance) → is_silent a None 0 0 ≡ false
unjudged a = refl

-- its input hasn't ended: it goes on, and ends short once it is silent
goes_on : (a : Attendance) → ending_of a None None 15 4 ≡ None
goes_on a = refl
