-- The frame that is stored.
use Rattle.theory.specs.Wire.{spelling}
use Rattle.frames.specs.Frames.{wire}
use Rattle.image_rule.specs.declared.view.Frame.{Frame}
use Rattle.image.specs.declared.inserter.room.Draft.{Draft}

-- its bytes are those on the wire
abbrev pub drafted : Draft → Frame
drafted d = record { unit = d.unit; units = d.units; bytes = spelling (wire d.frame) }
