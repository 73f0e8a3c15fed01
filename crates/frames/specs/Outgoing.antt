-- What an outbox holds.
use Rattle.std.specs.Prelude.{◌≡◌, ◌+◌, ◌≤◌, ℕ, List, [], ◌∷◌, ◌++◌, length}

-- datagrams in the order in which they go out, each at most of MTU bytes
pub record Outgoing : Type 0 where
  pub mtu : ℕ
  pub datagrams : List (List ℕ)

abbrev pub emptied : Outgoing → Outgoing
emptied o = record o { datagrams = [] }

abbrev pub with_datagram : Outgoing → List ℕ → Outgoing
with_datagram o bytes = record o { datagrams = o.datagrams ++ bytes ∷ [] }

-- the last of them goes on with these bytes
abbrev pub extended : List (List ℕ) → List ℕ → List (List ℕ)
extended [] bytes = []
extended (d ∷ []) bytes = (d ++ bytes) ∷ []
extended (d ∷ e ∷ ds) bytes = d ∷ extended (e ∷ ds) bytes

abbrev pub with_extended : Outgoing → List ℕ → Outgoing
with_extended o bytes = record o { datagrams = extended o.datagrams bytes }

-- there is a last one, and these bytes have room in it
pub record FitsLast (o : Outgoing) (bytes : List ℕ) : Type 0 where
  pub front : List (List ℕ)
  pub last : List ℕ
  pub parts : o.datagrams ≡ front ++ last ∷ []
  pub fits : length last + length bytes ≤ o.mtu
