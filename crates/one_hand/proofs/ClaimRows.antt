-- A short run of commands: term length 65536, MTU 1408, from 0 on, connected, with the limit 32768.
use Rattle.std.specs.Prelude.{◌≡◌, ℕ, ◌^◌, ◌<◌, true, false, List, [], ◌∷◌, length, replicate}
use Rattle.std.proofs.Common.{arith, lit<, refl}
use Rattle.std.specs.Global.{Vec}
use Rattle.theory.specs.Entry.{Entry}
use Rattle.theory.specs.Placed.{Data, Pad}
use Rattle.theory.proofs.Rows.{abc, identity}
use Rattle.one_hand.specs.Stream.{Stream, opened}
use Rattle.one_hand.specs.declared.claims.claim_command.ClaimAnswer.TheVariants.{Begins, Ends, Unfit}
use Rattle.one_hand.specs.declared.claims.claim_command.ClaimCommand.{ClaimCommand}
use Rattle.one_hand.specs.declared.claims.claim_command.ClaimCommand.TheVariants.{Abort, Claim, Commit, Offer}
use Rattle.one_hand.specs.Commands.{after_all, answers_of}

-- these bytes, wherever they lie in memory
abbrev bytes_at : Vec ℕ → (bytes : List ℕ) → length bytes < 2 ^ 63 → Vec ℕ
bytes_at v bytes small = record { ptr = v.ptr; len = length bytes; cap = length bytes; alloc = v.alloc; items = bytes; ok = (refl, omega arith); small = small }

abbrev filling : List ℕ
filling = replicate 100 61

abbrev fresh : Stream
fresh = record (opened identity 0 1) { connected = true; limit = 32768 }

-- a message; a claim, another publisher's message behind it, and what can't be done meanwhile; its commit; a claim and its abort; and what nobody can do
abbrev commands : Vec ℕ → List ClaimCommand
commands v =
    let message : Vec ℕ = bytes_at v abc (lit< tt) in
    let payload : Vec ℕ = bytes_at v filling (lit< tt) in
    Offer 0 message
    ∷ Claim 1 100
    ∷ Offer 2 message
    ∷ Offer 1 message
    ∷ Claim 1 100
    ∷ Commit 1 message
    ∷ Commit 1 payload
    ∷ Claim 1 8
    ∷ Abort 1
    ∷ Abort 1
    ∷ Commit 1 payload
    ∷ Claim 3 1377
    ∷ Offer 8 message
    ∷ []

answers : (v : Vec ℕ) → answers_of fresh (commands v) ≡ Ends 64 ∷ Begins 64 224 ∷ Ends 288 ∷ Unfit ∷ Unfit ∷ Unfit ∷ Ends 224 ∷ Begins 288 352 ∷ Ends 352 ∷ Unfit ∷ Unfit ∷ Unfit ∷ Unfit ∷ []
answers v = refl

abbrev entries : List Entry
entries =
    record { start = 0; owner = 0; padding = false; cuts = 35 ∷ []; frames = Data 192 abc ∷ [] }
    ∷ record { start = 64; owner = 1; padding = false; cuts = 132 ∷ []; frames = Data 192 filling ∷ [] }
    ∷ record { start = 224; owner = 2; padding = false; cuts = 35 ∷ []; frames = Data 192 abc ∷ [] }
    ∷ record { start = 288; owner = 1; padding = true; cuts = 40 ∷ []; frames = Pad 40 ∷ [] }
    ∷ []

stream : (v : Vec ℕ) → after_all fresh (commands v) ≡ record fresh { tail = 352; shares = 64 ∷ 224 ∷ 64 ∷ 0 ∷ 0 ∷ 0 ∷ 0 ∷ 0 ∷ []; entries = entries }
stream v = refl
