-- The slots of an outbox.
use Rattle.std.proofs.Common.{◌≡◌, ◌∙◌, ℕ, zero, suc, ◌-◌, ◌<◌, ◌≤◌, List, [], ◌∷◌, ◌++◌, get_or, length, set, take, vec_len, ap, length-append, length-take, arith}
use Rattle.std.proofs.lemmas.List.{length-map}
use Rattle.frames.specs.declared.outbox.Slot.{Slot}
use Rattle.frames.specs.OutboxSlots.{AreOfSize, bytes_in, shown}
use Rattle.frames.specs.Outgoing.{extended}

pub one_more : (mtu : ℕ) (slots : List Slot) (s : Slot) → AreOfSize mtu slots → vec_len s.bytes ≡ mtu → AreOfSize mtu (slots ++ s ∷ [])
one_more mtu [] s all size = (size, tt)
one_more mtu (x ∷ xs) s all size = (all.0, one_more mtu xs s all.1 size)

-- where there is a datagram there is a slot in use
pub some_slot : (count : ℕ) (slots : List Slot) (front : List (List ℕ)) (last : List ℕ) → shown count slots ≡ front ++ last ∷ [] → 0 < count
some_slot count slots front last e = omega (arith, ap length e, length-append front (last ∷ []), length-map (take count slots) bytes_in, length-take count slots)

-- the last slot in use goes on
goes_on : (k : ℕ) (slots : List Slot) (s t : Slot) (bytes : List ℕ) → k < length slots → s ≡ get_or slots k s → bytes_in t ≡ bytes_in s ++ bytes → shown (suc k) (set slots k t) ≡ extended (shown (suc k) slots) bytes
goes_on zero [] s t bytes h e f = absurd (omega (arith, h))
goes_on (suc k) [] s t bytes h e f = absurd (omega (arith, h))
goes_on zero (x ∷ xs) s t bytes h e f = ap (λ (b : List ℕ). b ∷ []) (f ∙ ap (λ (y : Slot). bytes_in y ++ bytes) e)
goes_on (suc k) (x ∷ []) s t bytes h e f = absurd (omega (arith, h))
goes_on (suc k) (x ∷ y ∷ ys) s t bytes h e f = ap (λ (d : List (List ℕ)). bytes_in x ∷ d) (goes_on k (y ∷ ys) s t bytes (omega (arith, h)) e f)

pub last_goes_on : (count : ℕ) (slots : List Slot) (s t : Slot) (bytes : List ℕ) → 0 < count → count ≤ length slots → s ≡ get_or slots (count - 1) s → bytes_in t ≡ bytes_in s ++ bytes → shown count (set slots (count - 1) t) ≡ extended (shown count slots) bytes
last_goes_on zero slots s t bytes some h e f = absurd (omega (arith, some))
last_goes_on (suc k) slots s t bytes some h e f =
    let before : suc k - 1 ≡ k = omega arith in
    ap (λ (n : ℕ). shown (suc k) (set slots n t)) before ∙ goes_on k slots s t bytes (omega (arith, h)) (e ∙ ap (λ (n : ℕ). get_or slots n s) before) f
