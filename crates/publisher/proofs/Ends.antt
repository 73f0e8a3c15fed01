-- A publisher to several subscribers ends by what was heard along its destinations.
use Rattle.std.proofs.Common.{◌≡◌, ◌∙◌, ℕ, ◌+◌, ◌<◌, Bool, true, false, List, Option, None, Some, get_or, length, take, sym, ap, subst}
use Rattle.std.proofs.lemmas.List.Folds.{list_all_more}
use Rattle.std.specs.List.{list_all}
use Rattle.std.specs.Prelude.{◌&&◌, ⊤}
use Rattle.peer.specs.declared.attendance.Ending.{Ending}
use Rattle.publisher.specs.declared.offering.reading.Reading.{Reading}
use Rattle.publisher.specs.Judging.{end_in}
use Rattle.publisher.specs.Progress.{judged_by}
use Rattle.publisher.specs.declared.judging.Judged.{Judged}
use Rattle.publisher.specs.declared.progress.Progress.{Progress}
use Rattle.publisher.specs.declared.telling.ToldShortfall.{ToldShortfall}
use Rattle.publisher.specs.Endings.{ending_along}
use Rattle.publisher.specs.Judges.{Ends, Judges}
use Rattle.publisher.specs.Seeing.{ChannelDestination}

abbrev IsSome : Option Judged → Type 0
IsSome None = ⊥
IsSome (Some is) = ⊤

abbrev judged_or : Judged → Option Judged → Judged
judged_or is None = is
judged_or is (Some other) = other

-- by this reading it was judged so
as_judged : (reading : Option Reading) (line : Option ToldShortfall) (e : Option Ending) (is : Judged) → Some is ≡ judged_by reading line e → (reading ≡ is.reading) × (e ≡ Some is.ending)
as_judged reading line None is h = absurd (subst IsSome h tt)
as_judged reading line (Some ending) is h =
    let same : is ≡ record { ending = ending; reading = reading; told = line } = ap (judged_or is) h in
    (sym (ap (λ (j : Judged). j.reading) same), ap (λ (j : Judged). Some j.ending) (sym same))

pub ends : {D : Type 0} (p : Progress) (reading : Option Reading) (shown destinations : List (ChannelDestination D)) (linger wait : ℕ) (answer : Option Judged) (is : Judged) → Judges p reading shown linger wait answer → answer ≡ Some is → shown ≡ destinations → Ends destinations linger wait is
ends {D} p reading shown destinations linger wait answer is told found same =
    let both = as_judged reading told.line _ is (sym found ∙ told.is) in
    subst (λ (ws : List (ChannelDestination D)). Ends ws linger wait is) same
    (ap (λ (r : Option Reading). ending_along shown (end_in r) linger wait) (sym both.0) ∙ both.1)

-- by that reading
pub by_reading : {D : Type 0} (p : Progress) (reading : Option Reading) (shown : List (ChannelDestination D)) (linger wait : ℕ) (answer : Option Judged) (is : Judged) → Judges p reading shown linger wait answer → answer ≡ Some is → reading ≡ is.reading
by_reading {D} p reading shown linger wait answer is told found = (as_judged reading told.line _ is (sym found ∙ told.is)).0

-- ---- whether all are

pub all_yes : {X : Type 0} (f : X → Bool) (xs : List X) (i : ℕ) (w : X) (all after : Bool) → i < length xs → w ≡ get_or xs i w → all ≡ list_all f (take i xs) → all ≡ true → after ≡ f w → after ≡ list_all f (take (i + 1) xs)
all_yes f xs i w all after low is so was here = here ∙ ap f is ∙ sym (list_all_more f xs i w low ∙ ap (λ (b : Bool). b && f (get_or xs i w)) (sym so ∙ was))

pub all_no : {X : Type 0} (f : X → Bool) (xs : List X) (i : ℕ) (w : X) (all after : Bool) → i < length xs → all ≡ list_all f (take i xs) → all ≡ false → after ≡ false → after ≡ list_all f (take (i + 1) xs)
all_no f xs i w all after low so was here = here ∙ sym (list_all_more f xs i w low ∙ ap (λ (b : Bool). b && f (get_or xs i w)) (sym so ∙ was))
