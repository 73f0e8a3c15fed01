-- How a publisher is judged to end.
use Rattle.std.specs.Prelude.{◌≡◌, ◌⊎◌, ℕ, true, false, List, [], ◌∷◌, Option, None, Some, IfSome}
use Rattle.publisher.specs.declared.offering.reading.Reading.{Reading}
use Rattle.peer.specs.declared.attendance.Ending.{Ending}
use Rattle.peer.specs.declared.attendance.Ending.TheVariants.{Whole, Short}
use Rattle.publisher.specs.Judging.{end_in, fault_in, tail_in}
use Rattle.publisher.specs.Progress.{judged_by}
use Rattle.publisher.specs.Texts.{shortfall_of}
use Rattle.publisher.specs.declared.judging.Judged.{Judged}
use Rattle.publisher.specs.declared.progress.Progress.{Progress}
use Rattle.publisher.specs.declared.telling.ToldShortfall.{ToldShortfall}
use Rattle.publisher.specs.Endings.{ending_along, heard_along, is_whole_along}
use Rattle.publisher.specs.Seeing.{ChannelDestination}

-- by how the reading has ended, if it has, this is how the publisher ends, if it does; where that was a fault, it was told
pub record Judges {D : Type 0} (p : Progress) (reading : Option Reading) (destinations : List (ChannelDestination D)) (linger wait : ℕ) (answer : Option Judged) : Type 0 where
  pub line : Option ToldShortfall
  pub is : answer ≡ judged_by reading line (ending_along destinations (end_in reading) linger wait)
  pub told : IfSome (fault_in reading) (λ _. p.faulted ≡ true)

-- the receivers that were heard at these destinations end a publisher this way, by how the reading had ended
abbrev pub Ends : {D : Type 0} → List (ChannelDestination D) → ℕ → ℕ → Judged → Type 0
Ends destinations linger wait judged = ending_along destinations (end_in judged.reading) linger wait ≡ Some judged.ending

-- ---- the lines

-- not all was written at this destination, and its line was given: what it lacks of the subscriber there, by whom was heard, for how long
-- nothing more was, and how far that is left behind, if it is
pub record IsUnwritten {D : Type 0} (end : Option ℕ) (tail : ℕ) (w : ChannelDestination D) (told : ToldShortfall) : Type 0 where
  pub short : is_whole_along end w ≡ false
  pub peer : told.peer ≡ w.peer
  pub shortfall : told.shortfall ≡ shortfall_of (heard_along w) end tail w.unheard w.behind

-- the line is of one of these destinations
abbrev pub IsToldOf : {D : Type 0} → Option ℕ → ℕ → List (ChannelDestination D) → ToldShortfall → Type 0
IsToldOf end tail [] told = ⊥
IsToldOf end tail (w ∷ ws) told = IsUnwritten end tail w told ⊎ IsToldOf end tail ws told

-- the one that was given last
abbrev pub last_of : Option ToldShortfall → Option ToldShortfall → Option ToldShortfall
last_of before None = before
last_of before (Some told) = Some told

abbrev pub TellsOne : {D : Type 0} → Option ℕ → ℕ → List (ChannelDestination D) → Option ToldShortfall → Type 0
TellsOne end tail destinations None = ⊥
TellsOne end tail destinations (Some told) = IsToldOf end tail destinations told

-- a line was given exactly where it ends short
abbrev pub TellsWhy : {D : Type 0} → Ending → Option ℕ → ℕ → List (ChannelDestination D) → Option ToldShortfall → Type 0
TellsWhy Whole end tail destinations told = told ≡ None
TellsWhy Short end tail destinations told = TellsOne end tail destinations told

abbrev pub HasToldWhy : {D : Type 0} → List (ChannelDestination D) → Judged → Type 0
HasToldWhy destinations judged = (tail : ℕ) × TellsWhy judged.ending (end_in judged.reading) (tail_in judged.reading tail) destinations judged.told
