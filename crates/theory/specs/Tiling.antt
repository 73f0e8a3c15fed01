-- The entries tile the stream, and each publisher has its share.
use Rattle.std.specs.Prelude.{◌≡◌, ℕ, ◌+◌, ◌*◌, ◌/◌, ◌≤◌, List, [], ◌∷◌, map, ◌==◌, if◌then◌else◌}
use Rattle.std.specs.List.{sum_by, filter}
use Rattle.theory.specs.Entry.{Entry, entry_end, length_of}

-- no byte of the range lies in another term than its first
abbrev pub InOneTerm : ℕ → ℕ → ℕ → Type 0
InOneTerm term start end = end ≤ start / term * term + term

-- the entries follow each other from start to tail, each within a term
abbrev pub Tiles : ℕ → ℕ → ℕ → List Entry → Type 0
Tiles term start tail [] = tail ≡ start
Tiles term start tail (e ∷ es) = (e.start ≡ start) × InOneTerm term start (entry_end e) × Tiles term (entry_end e) tail es

-- the bytes that are an owner's
abbrev pub share_of : ℕ → List Entry → ℕ
share_of owner es = sum_by length_of (filter (λ e. e.owner == owner) es)

-- the sum of the shares of the eight publishers
abbrev pub all_shares : List Entry → ℕ
all_shares es = share_of 0 es + share_of 1 es + share_of 2 es + share_of 3 es + share_of 4 es + share_of 5 es + share_of 6 es + share_of 7 es

abbrev pub handed : ℕ → ℕ → Entry → Entry
handed a b e = record e { owner = if e.owner == b then a else e.owner }

-- gives b's entries to a
abbrev pub retire : ℕ → ℕ → List Entry → List Entry
retire a b es = map (handed a b) es
