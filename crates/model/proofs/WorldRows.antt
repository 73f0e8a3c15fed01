-- Steps that there are and steps that there aren't, at worked examples.
use Rattle.std.specs.Prelude.{◌≡◌, ◌⊎◌, pos, true, false, List, [], ◌∷◌, replicate, None, Some, slice_get}
use Rattle.std.proofs.Common.{zero, suc, ℕ, refl, inl, inr, sym, ◌∙◌, arith}
use Rattle.theory.specs.Placed.{Data, Placed}
use Rattle.theory.specs.Bytes.{Byte}
use Rattle.theory.specs.Consumer.{Consumer, consumer_at}
use Rattle.theory.specs.GroupLimit.{StatusCame}
use Rattle.theory.specs.Resend.{Action}
use Rattle.model.specs.ExampleRun.{log_at_start, start, world_at_start}
use Rattle.model.specs.Headline.{HasLogBytes, IsReadable}
use Rattle.model.specs.Log.{Log, LogStep, Add, Arm, Clean, Close, Connect, Leave, Raise, Retire}
use Rattle.model.specs.Sender.{Sender, SenderStep, HearNak, See, Send, in_cycle, sender_limit}
use Rattle.model.specs.World.{World, opened_sender}
use Rattle.theory.proofs.Rows.{abc, frame_of, the_geometry}
use Rattle.model.proofs.LogRows.{log_at}

-- ---- rebuilt bytes

-- a log that has abc, and an image that has abd
abbrev with_abc : Log
with_abc = record (log_at 64 (record { start = 0; owner = 0; padding = false; cuts = 35 ∷ []; frames = Data 192 abc ∷ [] } ∷ [])) { start = 0 }

abbrev abd : Placed
abd = record { at = 0; frame = Data 192 (97 ∷ 98 ∷ 100 ∷ []) }

no_other_bytes : HasLogBytes with_abc (record { join = 0; window = 32768; stored = abd ∷ []; high = 64; consumers = consumer_at 0 ∷ [] }) → ⊥
no_other_bytes h =
    let third : Byte 99 ≡ Byte 100 = h 32 (97 ∷ 98 ∷ 100 ∷ replicate 29 0) 2 (omega arith) (record { frame = abd; among = inl refl; unit = 1; inside = omega arith; here = refl }, refl) in
    absurd (omega (arith, one_byte 99 100 third))
  where
    one_byte : (a b : ℕ) → Byte a ≡ Byte b → a ≡ b
    one_byte a b e = cc

-- ---- the limit

no_unconnected_raise : (old new : Log) (others : List ℕ) (least : ℕ) → old.connected ≡ false → LogStep others old (Raise least) new → ⊥
no_unconnected_raise old new others least e h = let is : true ≡ false = sym h.3 ∙ e in absurd (cc)

no_closed_raise : (old new : Log) (others : List ℕ) (least : ℕ) → old.closed ≡ true → LogStep others old (Raise least) new → ⊥
no_closed_raise old new others least e h = let is : false ≡ true = sym h.4 ∙ e in absurd (cc)

-- half a term above the least consumer, where that is cleaned a term below it
a_raise : LogStep (57152 ∷ []) (log_at 57184 []) (Raise 57152) (record (log_at 57184 []) { limit = 89920 })
a_raise = (refl, record { others_above = (omega arith, tt); readers_above = tt }, omega arith, refl, refl, refl)

-- the flags, and one word cleaned behind a consumer that is further on
closes : LogStep [] (log_at 57184 []) Close (record (log_at 57184 []) { closed = true })
closes = refl

disconnects : LogStep [] (record (log_at 57184 []) { closed = true }) (Connect false) (record (log_at 57184 []) { closed = true; connected = false })
disconnects = refl

cleans : LogStep (122696 ∷ []) (log_at 122752 []) (Clean 122696) (record (log_at 122752 []) { cleaned = 57160 })
cleans = (record { others_above = (omega arith, tt); readers_above = tt }, omega arith, refl)

-- ---- a publisher that is retired

abbrev two_of : Log
two_of = record (log_at 57216 (record { start = 57152; owner = 1; padding = false; cuts = 35 ∷ []; frames = Data 192 abc ∷ [] } ∷ [])) { armed = false ∷ false ∷ []; retired = false ∷ false ∷ [] }

abbrev one_of : Log
one_of = record two_of { entries = record { start = 57152; owner = 0; padding = false; cuts = 35 ∷ []; frames = Data 192 abc ∷ [] } ∷ []; retired = false ∷ true ∷ [] }

retired : LogStep (57152 ∷ []) two_of (Retire 0 1) one_of
retired = ((omega arith, refl), (omega arith, refl), λ e. absurd (omega arith), refl, refl)

no_armed_retire : (new : Log) → LogStep [] (record two_of { armed = false ∷ true ∷ [] }) (Retire 0 1) new → ⊥
no_armed_retire new h = let is : Some true ≡ Some false = h.3 in absurd (cc)

no_arm_after : (new : Log) → LogStep [] one_of (Arm 1 89920) new → ⊥
no_arm_after new h = let is : Some true ≡ Some false = h.0.1 in absurd (cc)

no_add_after : (new : Log) → LogStep [] (record one_of { armed = false ∷ true ∷ [] }) (Add 1 3) new → ⊥
no_add_after new h = let is : Some true ≡ Some false = h.0.1 in absurd (cc)

-- ---- the last consumer stays

no_last_leaves : (new : Log) → LogStep [] (record two_of { readers = Some (consumer_at 57152) ∷ None ∷ [] }) (Leave 0) new → ⊥
no_last_leaves new h = none [] refl h.2
  where
    nobody : (k : ℕ) (r : Consumer) → (k ≡ 0 → ⊥) → slice_get (Some (consumer_at 57152) ∷ None ∷ []) k ≡ Some (Some r) → ⊥
    nobody zero r apart e = apart refl
    nobody (suc zero) r apart e = cc
    nobody (suc (suc k)) r apart e = cc

    none : (others : List ℕ) → others ≡ [] → (others ≡ [] → ⊥) ⊎ ((k : ℕ) × (r : Consumer) × (k ≡ 0 → ⊥) × (slice_get (Some (consumer_at 57152) ∷ None ∷ []) k ≡ Some (Some r))) → ⊥
    none others is (inl e) = e is
    none others is (inr x) = nobody x.0 x.1 x.2 x.3

-- ---- a sender's NAKs

abbrev answered_one : ℕ → Action
answered_one until = record { at = 64; length = 64; lingers = true; until = until }

abbrev sender_with : ℕ → List Action → Sender
sender_with clock actions = record { at = 128; clock = clock; passed = frame_of 0 64 ∷ frame_of 64 64 ∷ []; sent = []; setups = []; group = None; heard = []; actions = actions }

-- what was answered lingers for 60 ms, and is forgotten then: the same position is taken again
lingers_still : SenderStep the_geometry 0 [] (sender_with 0 (answered_one 60000000 ∷ [])) (HearNak 59999999 (pos 64) (pos 64)) (sender_with 59999999 (answered_one 60000000 ∷ []))
lingers_still = refl

is_forgotten : SenderStep the_geometry 0 [] (sender_with 0 (answered_one 60000000 ∷ [])) (HearNak 60000000 (pos 64) (pos 64)) (sender_with 60000000 (record { at = 64; length = 64; lingers = false; until = 0 } ∷ []))
is_forgotten = refl

-- a moment that was seen before changes no clock
no_step_back : SenderStep the_geometry 0 [] (sender_with 9 []) (See 4) (sender_with 9 [])
no_step_back = refl

-- ---- a sender to a group

abbrev half_heard : Sender
half_heard = record (sender_with 0 []) { at = 0; passed = []; group = Some 2; heard = StatusCame (pos 0) (pos 0) (pos 32768) 0 ∷ [] }

-- a group of which one wasn't heard gets nothing
no_early_send : (new : Sender) → SenderStep the_geometry 0 (frame_of 0 64 ∷ []) half_heard (Send 0 (frame_of 0 64 ∷ []) 64) new → ⊥
no_early_send new h = absurd (omega (arith, h.2.0))

-- a cycle that sends nothing counts: 5 s and a nanosecond after the other receiver's message the limit is the first one's
abbrev one_silent : Sender
one_silent = record half_heard { clock = 5000000000; heard = StatusCame (pos 0) (pos 0) (pos 32768) 5000000000 ∷ StatusCame (pos 1) (pos 0) (pos 64) 0 ∷ [] }

abbrev one_left : Sender
one_left = in_cycle one_silent 5000000001

waits : SenderStep the_geometry 0 [] one_silent (Send 5000000001 [] 0) one_left
waits = (refl, tt, tt, refl)

limits : (sender_limit 0 half_heard ∷ sender_limit 0 one_silent ∷ sender_limit 0 one_left ∷ []) ≡ (0 ∷ 64 ∷ 32768 ∷ [])
limits = refl

-- ---- what may still be read

abbrev cleaned_to : ℕ → ℕ → ℕ → World
cleaned_to cleaned at reader = record world_at_start {
  log = record log_at_start { cleaned = cleaned; readers = Some (consumer_at reader) ∷ [] };
  sender = record (opened_sender start None) { at = at };
}

-- cleaned up to a term behind the sender and the reader, and not one word further behind either
just_cleaned : IsReadable (cleaned_to 65120 130656 130656)
just_cleaned = record { sender = omega arith; readers = (omega arith, tt); unit = refl }

no_cleaned_past_sender : IsReadable (cleaned_to 65128 130656 196192) → ⊥
no_cleaned_past_sender h = absurd (omega (arith, h.sender))

no_cleaned_past_reader : IsReadable (cleaned_to 65128 196192 130656) → ⊥
no_cleaned_past_reader h = absurd (omega (arith, h.readers.0))

no_limit_within_a_unit : IsReadable (record world_at_start { log = record log_at_start { limit = 65089 } }) → ⊥
no_limit_within_a_unit h = absurd (omega (arith, h.unit))
