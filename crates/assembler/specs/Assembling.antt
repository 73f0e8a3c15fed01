-- What a contract sees of an assembler.
use Rattle.std.specs.Prelude.{ℕ, Bool, false, not, ◌||◌, List, [], ◌++◌, nat_eq, if◌then◌else◌, Option, None, Some}

-- the most bytes of a message, and what is begun
pub record Assembling : Type 0 where
  pub greatest : ℕ
  pub begun : Option (List ℕ)

abbrev pub behind : Option (List ℕ) → List ℕ → List ℕ
behind None payload = []
behind (Some front) payload = front ++ payload

-- whether a frame is dropped: a middle or an end with nothing begun
abbrev pub is_dropped : Option (List ℕ) → ℕ → Bool
is_dropped None flags = not (nat_eq flags 192 || nat_eq flags 128)
is_dropped (Some front) flags = false

-- the bytes that are a message's, as far as it goes, once this frame is taken: none where the frame is dropped
abbrev pub held_with : Option (List ℕ) → ℕ → List ℕ → List ℕ
held_with begun flags payload = if nat_eq flags 192 || nat_eq flags 128 then payload else behind begun payload
