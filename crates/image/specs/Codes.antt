-- The codes that a user sees.
use Rattle.std.specs.Prelude.{ℕ, List, codes}
use Rattle.image.specs.declared.fault.ImageError.{ImageError}
use Rattle.image.specs.declared.fault.ImageError.TheVariants.{Join, Window, Consumers, Memory}
use Rattle.image.specs.declared.answer.Insert.{Insert}
use Rattle.image.specs.declared.answer.Insert.TheVariants.{Stored, Duplicate, Below, OverWindow, Overlap, CrossesTerm}

abbrev pub code_of : ImageError → List ℕ
code_of Join = codes "J1"
code_of Window = codes "J2"
code_of Consumers = codes "J3"
code_of Memory = codes "J4"

abbrev pub answer_code : Insert → List ℕ
answer_code Stored = codes "I1"
answer_code Duplicate = codes "I2"
answer_code Below = codes "I3"
answer_code OverWindow = codes "I4"
answer_code Overlap = codes "I5"
answer_code CrossesTerm = codes "I6"
