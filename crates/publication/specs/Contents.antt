-- Which frame the words of a pass's frame say.
use Rattle.theory.specs.Placed.{Frame}
use Rattle.position.specs.Contents.{frame_of}
use Rattle.publication.specs.declared.pass.FrameWords.{FrameWords}

abbrev pub frame_in : FrameWords → Frame
frame_in f = frame_of f.words
