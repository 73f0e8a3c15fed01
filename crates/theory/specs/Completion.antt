-- Which frame completes which message, apart from how an assembler finds it.
use Rattle.std.specs.Prelude.{◌≡◌, ℕ, Bool, false, List, [], ◌∷◌, ◌++◌, Option, None, Some, ◌⊎◌, ◌↔◌, if◌then◌else◌}
use Rattle.std.specs.List.{flat_map, AllByRecursion}
use Rattle.theory.specs.Assembly.{on_frame}

-- a frame's flags and payload, and whether it was refused
pub record Piece : Type 0 where
  pub flags : ℕ
  pub payload : List ℕ
  pub refused : Bool

-- what a piece leaves begun: a refused one nothing
abbrev pub left_by : Option (List ℕ) → Piece → Option (List ℕ)
left_by begun p = if p.refused then None else (on_frame begun p.flags p.payload).begun

abbrev pub begun_after : Option (List ℕ) → List Piece → Option (List ℕ)
begun_after begun [] = begun
begun_after begun (p ∷ ps) = begun_after (left_by begun p) ps

-- a middle that was taken
abbrev pub IsMiddle : Piece → Type 0
IsMiddle x = (x.flags ≡ 0) × (x.refused ≡ false)

-- behind these pieces, the piece ends a message whose begin is the last piece that begins one, none since refused
pub record EndsMessage (before : List Piece) (p : Piece) (message : List ℕ) : Type 0 where
  pub is_end : p.flags ≡ 64
  pub earlier : List Piece
  pub first : Piece
  pub middles : List Piece
  pub parts : before ≡ earlier ++ first ∷ middles
  pub begins : first.flags ≡ 128
  pub taken : first.refused ≡ false
  pub between : AllByRecursion IsMiddle middles
  pub joined : message ≡ first.payload ++ flat_map (λ x. x.payload) middles ++ p.payload

abbrev pub Completes : List Piece → Piece → List ℕ → Type 0
Completes before p message = ((p.flags ≡ 192) × (message ≡ p.payload)) ⊎ EndsMessage before p message

-- a piece that is taken gives a message exactly where it completes one
abbrev pub GivesWhole : Type 0
GivesWhole = (before : List Piece) (p : Piece) (message : List ℕ) →
    AllByRecursion (λ x. (x.flags ≡ 0) ⊎ ((x.flags ≡ 64) ⊎ ((x.flags ≡ 128) ⊎ (x.flags ≡ 192)))) before →
    ((on_frame (begun_after None before) p.flags p.payload).message ≡ Some message) ↔ Completes before p message
