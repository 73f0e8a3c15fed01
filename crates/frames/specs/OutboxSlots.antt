-- An outbox's slots, and the datagrams in the first of them.
use Rattle.std.specs.Prelude.{◌≡◌, ◌≤◌, ℕ, List, length, map, take, vec_len}
use Rattle.std.specs.List.{AllByRecursion}
use Rattle.frames.specs.declared.outbox.Slot.{Slot}

abbrev pub bytes_in : Slot → List ℕ
bytes_in s = take s.length s.bytes.items

abbrev pub shown : ℕ → List Slot → List (List ℕ)
shown count slots = map bytes_in (take count slots)

abbrev pub AreOfSize : ℕ → List Slot → Type 0
AreOfSize mtu slots = AllByRecursion (λ s. vec_len s.bytes ≡ mtu) slots

pub record AreSlots (mtu count : ℕ) (slots : List Slot) : Type 0 where
  pub all : length slots ≡ 32
  pub within : count ≤ 32
  pub sizes : AreOfSize mtu slots
