-- Datagrams that go out one by one, each to the front of a room.
use Rattle.std.specs.Prelude.{◌≡◌, ℕ, ◌<◌, List, [], ◌∷◌, ◌++◌, drop, length}
use Rattle.cores.specs.declared.fault.Fault.{Fault}
use Rattle.cores.specs.declared.fault.Fault.TheVariants.{Room}

-- the first of those that are left goes, and the others are left
pub record Departs (left : List (List ℕ)) (before : List ℕ) (n : ℕ) (after : List ℕ) (rest : List (List ℕ)) : Type 0 where
  pub datagram : List ℕ
  pub first : left ≡ datagram ∷ rest
  pub long : n ≡ length datagram
  pub written : after ≡ datagram ++ drop n before

-- none is left, and nothing has changed
pub record NoneDeparts (left : List (List ℕ)) (before after : List ℕ) (rest : List (List ℕ)) : Type 0 where
  pub none : left ≡ []
  pub same : rest ≡ left
  pub untouched : after ≡ before

-- the first is longer than the room, and nothing has changed
pub record WontDepart (left : List (List ℕ)) (before : List ℕ) (fault : Fault) (after : List ℕ) (rest : List (List ℕ)) : Type 0 where
  pub datagram : List ℕ
  pub others : List (List ℕ)
  pub first : left ≡ datagram ∷ others
  pub longer : length before < length datagram
  pub fault_is : fault ≡ Room
  pub same : rest ≡ left
  pub untouched : after ≡ before
