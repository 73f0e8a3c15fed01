-- Which frames an image takes, and at which positions.
use Rattle.std.specs.Prelude.{◌≡◌, ◌%◌, ⊤, ℤ, pos, negsuc}
use Rattle.theory.specs.Placed as placed
use Rattle.theory.specs.Insert as meaning
use Rattle.frames.specs.declared.frame.Frame.{Frame}
use Rattle.frames.specs.declared.frame.Frame.TheVariants.{Data, Pad, Heartbeat, Nak, Status, Setup}
use Rattle.image.specs.declared.answer.Insert.{Insert}
use Rattle.image.specs.declared.answer.Insert.TheVariants as answers

-- a frame that stands in a stream: DATA or a padding
abbrev pub IsOfStream : Frame → Type 0
IsOfStream (Data header flags payload) = ⊤
IsOfStream (Pad header frame_length) = ⊤
IsOfStream (Heartbeat header) = ⊥
IsOfStream (Nak f) = ⊥
IsOfStream (Status asks f) = ⊥
IsOfStream (Setup f) = ⊥

-- such a frame, without its header; what the others are doesn't matter
abbrev pub stream_frame : Frame → placed.Frame
stream_frame (Data header flags payload) = placed.Data flags payload.now
stream_frame (Pad header frame_length) = placed.Pad frame_length
stream_frame (Heartbeat header) = placed.Pad 0
stream_frame (Nak f) = placed.Pad 0
stream_frame (Status asks f) = placed.Pad 0
stream_frame (Setup f) = placed.Pad 0

-- a position that isn't negative is a multiple of 32
abbrev pub IsUnit : ℤ → Type 0
IsUnit (pos p) = p % 32 ≡ 0
IsUnit (negsuc n) = ⊤

-- the answer that the definitions have
abbrev pub meant : Insert → meaning.Insert
meant answers.Stored = meaning.Stored
meant answers.Duplicate = meaning.Duplicate
meant answers.Below = meaning.Below
meant answers.OverWindow = meaning.OverWindow
meant answers.Overlap = meaning.Overlap
meant answers.CrossesTerm = meaning.CrossesTerm
