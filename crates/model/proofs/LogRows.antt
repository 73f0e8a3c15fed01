-- The log's events at worked examples.
use Rattle.std.specs.Prelude.{◌≡◌, ℕ, ◌+◌, ◌*◌, true, false, List, [], ◌∷◌, map}
use Rattle.std.proofs.Common.{refl, arith}
use Rattle.theory.specs.Position.{framed_length}
use Rattle.theory.specs.Placed.{Data}
use Rattle.theory.specs.Entry.{Entry, entry_end, committed}
use Rattle.theory.specs.Tiling.{all_shares, share_of}
use Rattle.theory.specs.Bytes.{byte_at, Byte, Empty, Undefined}
use Rattle.theory.specs.Units.{contiguous}
use Rattle.theory.specs.Messages.{messages}
use Rattle.model.specs.Log.{Log, LogStep, Arm, Add, Miss, entry_for, aborted_at}
use Rattle.theory.proofs.Rows.{the_geometry, identity, pad_of, abc}

abbrev pub log_at : ℕ → List Entry → Log
log_at tail es = record { identity = identity; start = 57152; tail = tail; entries = es; armed = true ∷ []; retired = false ∷ []; limit = 89920; connected = true; closed = false; cleaned = 57152; readers = [] }

-- at the term's end the next message begins the next term
next_term : entry_end (entry_for (log_at 65536 []) 0 3) ≡ 65600
next_term = refl

refused_at_end : LogStep (57152 ∷ []) (log_at 65536 []) (Miss 0) (record (log_at 65536 []) { armed = false ∷ [] })
refused_at_end = (refl, refl)

-- a message that trips the end: a padding of 8352
tripped : entry_for (log_at 57184 []) 0 8192 ≡ record { start = 57184; owner = 0; padding = true; cuts = 8352 ∷ []; frames = [] }
tripped = refl

-- a claim of 100 bytes, and abc behind it
abbrev open_claim : List Entry
open_claim =
    record { start = 0; owner = 0; padding = false; cuts = 132 ∷ []; frames = [] }
    ∷ record { start = 160; owner = 1; padding = false; cuts = 35 ∷ []; frames = Data 192 abc ∷ [] } ∷ []

claim_end : entry_end (entry_for (record (log_at 0 []) { start = 0 }) 0 100) ≡ 160
claim_end = refl

nothing_read : contiguous (committed open_claim) 0 224 ≡ 0
nothing_read = refl

aborted : committed (map (aborted_at 0) open_claim) ≡ pad_of 0 132 ∷ record { at = 160; frame = Data 192 abc } ∷ []
aborted = refl

all_read : contiguous (committed (map (aborted_at 0) open_claim)) 0 224 ≡ 224
all_read = refl

two_shares : ((share_of 0 open_claim) ∷ (share_of 1 open_claim) ∷ (all_shares open_claim) ∷ []) ≡ (160 ∷ 64 ∷ 224 ∷ [])
two_shares = refl

its_messages : messages 0 224 (map (aborted_at 0) open_claim) ≡ abc ∷ []
its_messages = refl

its_bytes : ((byte_at identity (map (aborted_at 0) open_claim) 0) ∷ (byte_at identity (map (aborted_at 0) open_claim) 32) ∷ (byte_at identity (map (aborted_at 0) open_claim) 192) ∷ (byte_at identity open_claim 0) ∷ []) ≡ ((Byte 132) ∷ Empty ∷ (Byte 97) ∷ Undefined ∷ [])
its_bytes = refl

to_the_end : (entry_end (entry_for (log_at 57152 []) 0 8192) ∷ 57152 ∷ []) ≡ (65536 ∷ 57152 ∷ [])
to_the_end = refl

-- the last term's end: 33 bytes want 96, and 64 are left
last_padding : (entry_for (log_at 140737488355264 []) 0 33).cuts ≡ 64 ∷ []
last_padding = refl

-- the greatest message behind that trip
after_trip : entry_end (entry_for (log_at 65536 []) 0 8192) ≡ 73920
after_trip = refl

-- 23 messages of 1376 bytes and one of 320 from 0, then 100 bytes past the limit
abbrev many : ℕ
many = 23 * framed_length the_geometry 1376 + framed_length the_geometry 320

past_limit : (many ∷ entry_end (entry_for (log_at 32736 []) 0 100) ∷ []) ≡ (32736 ∷ 32896 ∷ [])
past_limit = refl

-- at the limit nobody can be armed any more
no_arm : (new : Log) → LogStep [] (record (log_at 89920 []) { start = 0 }) (Arm 0 89920) new → ⊥
no_arm new h = absurd (omega (arith, h.2))

-- the last term's end: a padding of 64, and the log is full
last_end : entry_end (entry_for (log_at 140737488355264 []) 0 33) ≡ 140737488355328
last_end = refl

no_more : (new : Log) (bytes : ℕ) → LogStep [] (log_at 140737488355328 []) (Add 0 bytes) new → ⊥
no_more new bytes h = absurd (omega (arith, h.3))
