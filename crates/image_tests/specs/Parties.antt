-- The threads' parts of an image.
use Rattle.std.specs.Prelude.{◌≤◌, length}
use Rattle.image.specs.Handles.{ImageWords, IsReaderOf}
use Rattle.image.specs.Rebuilding.{IsInserterOf}
use Rattle.image_tests.specs.declared.parties.Party.{Party}
use Rattle.image_tests.specs.declared.parties.Party.TheVariants.{Inserting, Reading}

-- what it has is of this image
abbrev pub IsParty : ImageWords → Party → Type 0
IsParty i (Inserting inserter) = IsInserterOf i inserter
IsParty i (Reading reader block) = IsReaderOf i reader × (65472 ≤ length block)
