-- What holds of each image, whatever bytes its receiver was handed.
use Rattle.std.specs.Prelude.{◌≤◌, ⊤, List, map, Option, None, Some}
use Rattle.std.specs.List.{AllByRecursion}
use Rattle.theory.specs.Insert.{AreApart, head_of}
use Rattle.model.specs.Headline.{StayWithin}
use Rattle.script.specs.Meaning as commands
use Rattle.script.specs.Meaning.{CommandContent}
use Rattle.receiver.specs.Receiving.{Opened}
use Rattle.script_meaning.specs.LineContents.{LineContent, Positions}
use Rattle.script_meaning.specs.ScriptState.{ScriptState}

-- the frames that it stored never overlap; no consumer passes what stands without a gap, nor that the high-water mark
abbrev pub IsInBounds : Option Opened → Type 0
IsInBounds None = ⊤
IsInBounds (Some o) = AreApart (map head_of o.image.stored) × StayWithin o.image.stored o.image.join o.image.high (map (λ c. c.at) o.image.consumers)

abbrev pub AreInBounds : ScriptState → Type 0
AreInBounds s = AllByRecursion (λ r. IsInBounds r.image) s.receivers

-- so the positions that a line names are in order
abbrev pub IsInOrder : LineContent → Type 0
IsInOrder (Positions least rebuilt high) = (least ≤ rebuilt) × (rebuilt ≤ high)
IsInOrder line = ⊤

abbrev pub TellsInOrder : CommandContent → List LineContent → Type 0
TellsInOrder (commands.Image number) lines = AllByRecursion IsInOrder lines
TellsInOrder command lines = ⊤
