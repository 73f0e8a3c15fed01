-- What a user reads of a line.
use Rattle.std.specs.Prelude.{ℕ, List, [], ◌∷◌, ◌++◌, codes, decimal}
use Rattle.std.specs.Fmt.{signed_decimal}
use Rattle.std.specs.List.{flat_map}
use Rattle.text.specs.Digits.{hexadecimal, two_digits}
use Rattle.position.specs.Fault as geometries
use Rattle.shared_log.specs.Faults as logs
use Rattle.assembler.specs.Codes as assemblers
use Rattle.publication.specs.Refusals.{number_of}
use Rattle.receiver.specs.Texts.{outcome_text}
use Rattle.sender.specs.Texts.{answer_text}
use Rattle.script_meaning.specs.LineContents.{LineContent, Open, BadGeometry, BadLog, Done, Limit, Position, Claimed, FrameData, FramePad, Joined, Left, Refused, Packet, Nothing, OfReceiver, OfSender, Message, NoMessage, Unassembled, Positions, Bad, Shares}

abbrev pub shares_text : List ℕ → List ℕ
shares_text shares = flat_map (λ share. 32 ∷ decimal share) shares

abbrev pub line_text : LineContent → List ℕ
line_text Open = codes "open"
line_text (BadGeometry fault) = geometries.code_of fault
line_text (BadLog fault) = logs.code_of fault
line_text Done = codes "ok"
line_text (Limit limit) = codes "limit " ++ decimal limit
line_text (Position end) = codes "position " ++ decimal end
line_text (Claimed start end) = codes "claimed " ++ decimal start ++ codes " " ++ decimal end
line_text (FrameData start flags bytes) = codes "data " ++ decimal start ++ codes " " ++ two_digits flags ++ codes " " ++ hexadecimal bytes
line_text (FramePad start frame_length) = codes "pad " ++ decimal start ++ codes " " ++ decimal frame_length
line_text (Joined position) = codes "joined " ++ decimal position
line_text Left = codes "left"
line_text (Refused refusal) = codes "refused " ++ signed_decimal (number_of refusal)
line_text (Packet number bytes) = codes "packet " ++ decimal number ++ codes " " ++ hexadecimal bytes
line_text Nothing = codes "nothing"
line_text (OfReceiver outcome) = outcome_text outcome
line_text (OfSender answer) = answer_text answer
line_text (Message bytes) = codes "message " ++ hexadecimal bytes
line_text NoMessage = codes "none"
line_text (Unassembled fault) = assemblers.code_of fault
line_text (Positions least rebuilt high) = codes "image least " ++ decimal least ++ codes " rebuilt " ++ decimal rebuilt ++ codes " high " ++ decimal high
line_text Bad = codes "bad"
line_text (Shares start end shares) = codes "book " ++ decimal start ++ codes " " ++ decimal end ++ shares_text shares

-- the lines, each ended by a line feed
abbrev pub text_of_lines : List LineContent → List ℕ
text_of_lines lines = flat_map (λ line. line_text line ++ 10 ∷ []) lines
