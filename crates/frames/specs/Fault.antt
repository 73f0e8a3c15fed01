-- What a user reads of a refused frame or datagram.
use Rattle.std.specs.Prelude.{ℕ, List, codes}
use Rattle.frames.specs.declared.fault.FrameError.{FrameError}
use Rattle.frames.specs.declared.fault.FrameError.TheVariants.{Short, Version, Kind, Length, Flags, Alignment, Range, Datagram}

abbrev pub text_of : FrameError → List ℕ
text_of Short = codes "F1 short"
text_of Version = codes "F2 version"
text_of Kind = codes "F3 type"
text_of Length = codes "F4 length"
text_of Flags = codes "F5 flags"
text_of Alignment = codes "F6 alignment"
text_of Range = codes "F7 range"
text_of Datagram = codes "F8 datagram"

abbrev pub code_of : FrameError → List ℕ
code_of Short = codes "F1"
code_of Version = codes "F2"
code_of Kind = codes "F3"
code_of Length = codes "F4"
code_of Flags = codes "F5"
code_of Alignment = codes "F6"
code_of Range = codes "F7"
code_of Datagram = codes "F8"
