-- What a line of output says, without where its bytes lie in memory.
use Rattle.std.specs.Prelude.{List, map}
use Rattle.script_meaning.specs.LineContents.{LineContent, Open, BadGeometry, BadLog, Done, Limit, Position, Claimed, FrameData, FramePad, Joined, Left, Refused, Packet, Nothing, OfReceiver, OfSender, Message, NoMessage, Unassembled, Positions, Bad, Shares}
use Rattle.simulation.specs.declared.line.Line.{Line}
use Rattle.simulation.specs.declared.line.Line.TheVariants as lines

abbrev pub line_content : Line → LineContent
line_content lines.Open = Open
line_content (lines.BadGeometry fault) = BadGeometry fault
line_content (lines.BadLog fault) = BadLog fault
line_content lines.Done = Done
line_content (lines.Limit limit) = Limit limit
line_content (lines.Position end) = Position end
line_content (lines.Claimed start end) = Claimed start end
line_content (lines.FrameData start flags bytes) = FrameData start flags bytes.items
line_content (lines.FramePad start frame_length) = FramePad start frame_length
line_content (lines.Joined position) = Joined position
line_content lines.Left = Left
line_content (lines.Refused refusal) = Refused refusal
line_content (lines.Packet number bytes) = Packet number bytes.items
line_content lines.Nothing = Nothing
line_content (lines.Receiver outcome) = OfReceiver outcome
line_content (lines.Sender answer) = OfSender answer
line_content (lines.Message message) = Message message.bytes.items
line_content lines.NoMessage = NoMessage
line_content (lines.Assembly fault) = Unassembled fault
line_content (lines.Image least rebuilt high) = Positions least rebuilt high
line_content lines.Bad = Bad
line_content (lines.Book book) = Shares book.start book.tail book.shares

abbrev pub line_contents : List Line → List LineContent
line_contents lines = map line_content lines
