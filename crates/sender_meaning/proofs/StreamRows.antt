-- A stream of two messages, and a sender of it that has met nothing: rows. Term length 65536, MTU 1408, first term 7, session 1,
-- stream 1001.
use Rattle.std.specs.Prelude.{◌≡◌, ℕ, ◌<◌, false, List, [], ◌∷◌}
use Rattle.std.specs.List.{AllByRecursion}
use Rattle.std.proofs.Common.{arith, inr, refl}
use Rattle.theory.specs.Bytes.{wire_at}
use Rattle.theory.specs.Entry.{committed}
use Rattle.theory.specs.Messages.{messages}
use Rattle.theory.specs.Placed.{Data}
use Rattle.theory.specs.Wire.{IsFrame}
use Rattle.theory.proofs.Rows.{abc, identity}
use Rattle.theory.proofs.UnitRows.{legal}
use Rattle.receiver.specs.Lives.{IsStream, Stream}
use Rattle.sender.specs.Sending.{begun}
use Rattle.flow_control.specs.Unicast.{Unicast}
use Rattle.shared_log.specs.declared.reader.source.LogFrames.{LogFrames}
use Rattle.sender_meaning.specs.Lives.{IsSpelled, SendsStream}

abbrev pub ab : List ℕ
ab = 97 ∷ 98 ∷ []

abbrev pub two : Stream
two = record {
  identity = identity;
  start = 0;
  tail = 128;
  entries = record { start = 0; owner = 0; padding = false; cuts = 35 ∷ []; frames = Data 192 abc ∷ [] } ∷ record { start = 64; owner = 0; padding = false; cuts = 34 ∷ []; frames = Data 192 ab ∷ [] } ∷ [];
}

pub is_stream : IsStream two
is_stream = record {
  geometry = legal;
  tiles = (refl, omega arith, (refl, omega arith, refl));
  entries = (record { owner = omega arith; cuts = (omega arith, tt); long = omega arith; frames = ((refl, refl), tt) }, (record { owner = omega arith; cuts = (omega arith, tt); long = omega arith; frames = ((refl, refl), tt) }, tt));
  tail_low = omega arith;
}

its_messages : messages 0 128 two.entries ≡ abc ∷ ab ∷ []
its_messages = refl

its_frames : committed two.entries ≡ record { at = 0; frame = Data 192 abc } ∷ record { at = 64; frame = Data 192 ab } ∷ []
its_frames = refl

-- ---- it can be spelled

bytes_of_abc : AllByRecursion (λ b. b < 256) abc
bytes_of_abc = (omega arith, (omega arith, (omega arith, tt)))

first_frame : IsFrame (wire_at identity 0 (Data 192 abc))
first_frame = (record { unit = refl; low = omega arith; session = record { sfits = omega arith }; stream = record { sfits = omega arith }; term_id = record { sfits = omega arith }; reserved = record { sfits = omega arith } }, inr (inr (inr refl)), omega arith, omega arith, bytes_of_abc)

second_frame : IsFrame (wire_at identity 64 (Data 192 ab))
second_frame = (record { unit = refl; low = omega arith; session = record { sfits = omega arith }; stream = record { sfits = omega arith }; term_id = record { sfits = omega arith }; reserved = record { sfits = omega arith } }, inr (inr (inr refl)), omega arith, omega arith, (omega arith, (omega arith, tt)))

pub spelled : IsSpelled two
spelled = record { ids = record { session = record { sfits = omega arith }; stream = record { sfits = omega arith } }; frames = (first_frame, (second_frame, tt)) }

-- ---- a sender begins to send it, and not one that stands within a unit, nor one behind its last position

sends : (r : LogFrames) → SendsStream {F = Unicast} two (begun identity 0 r (record { limit = 0; heard = false }))
sends r = record { identity = refl; unit = refl; low = omega arith }

within_a_unit : (r : LogFrames) → SendsStream {F = Unicast} two (begun identity 16 r (record { limit = 16; heard = false })) → ⊥
within_a_unit r s = let unit = s.unit in omega arith

-- ---- a stream with a gap at its end, and one that is told shorter than it is, are none

gap : IsStream (record two { tail = 192 }) → ⊥
gap s = let end = s.tiles.2.2 in omega arith

too_short : IsStream (record two { tail = 64 }) → ⊥
too_short s = let end = s.tiles.2.2 in omega arith
