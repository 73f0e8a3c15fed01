-- Which frames may come from a script's own bytes, at worked examples: term length 65536, MTU 1408, first term 7, session 1, stream 1001.
use Rattle.std.specs.Prelude.{pos, [], ◌∷◌}
use Rattle.std.proofs.Common.{append-nil, inl, refl, sym}
use Rattle.theory.specs.Wire.{DATA, HEARTBEAT, IsFrame, SETUP, Wire, spelling}
use Rattle.theory.specs.Bytes.{header_at}
use Rattle.theory.specs.Control.{setup_fields}
use Rattle.image.specs.declared.answer.Insert.TheVariants as answers
use Rattle.receiver.specs.declared.receiver_core.Outcome.TheVariants as outcomes
use Rattle.script_meaning.specs.LineContents.{OfReceiver}
use Rattle.script_meaning.specs.Published.{AreHonestFrames, IsHonestFrame}
use Rattle.theory.proofs.Readings.{stands_alone}
use Rattle.theory.proofs.Rows.{abc, identity}

abbrev forged : Wire
forged = DATA (header_at identity 0) 192 abc

-- a SETUP of the stream at 64, with another MTU
abbrev other_setup : Wire
other_setup = SETUP (record (setup_fields identity 64) { mtu = pos 256 })

-- data of the stream that an image is given, and nobody printed
no_forgery : IsHonestFrame [] forged (OfReceiver (outcomes.Inserted answers.Stored)) → ⊥
no_forgery h = h.among

-- nor a SETUP that opens one
no_false_setup : IsHonestFrame [] other_setup (OfReceiver (outcomes.Opened 64)) → ⊥
no_false_setup h = h.among

-- the second frame of a datagram counts as the first does
no_second_forgery : AreHonestFrames [] (HEARTBEAT (header_at identity 0) ∷ forged ∷ []) (OfReceiver outcomes.Heartbeat ∷ OfReceiver (outcomes.Inserted answers.Stored) ∷ []) → ⊥
no_second_forgery h = h.1.0.among

-- data of another session or stream, and data that meets no image
stranger : IsHonestFrame [] forged (OfReceiver outcomes.Other)
stranger = tt

no_image : IsHonestFrame [] forged (OfReceiver outcomes.Asked)
no_image = tt

-- a SETUP that an open image meets, and one that is refused
kept_setup : IsHonestFrame [] other_setup (OfReceiver outcomes.Kept)
kept_setup = tt

-- a heartbeat, whatever it says
heartbeat : IsHonestFrame [] (HEARTBEAT (header_at identity 64)) (OfReceiver outcomes.Heartbeat)
heartbeat = tt

-- what a packet holds may come by other bytes too
printed_before : IsFrame forged → IsHonestFrame (spelling forged ∷ []) forged (OfReceiver (outcomes.Inserted answers.Stored))
printed_before frame = record { bytes = spelling forged; among = inl refl; frames = forged ∷ []; spelled = (stands_alone forged, (frame, tt), sym (append-nil (spelling forged))); here = inl refl }
