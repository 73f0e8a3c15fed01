-- Terms, positions and lengths, as arithmetic on whole numbers.
-- A term has a count, from 0, and an id: the first term's id plus the count, wrapping at 32 bits. A stream has 2^31
-- terms at the most; the end of the last is the greatest position, which belongs to that term, with the term's length
-- as its offset. What a message covers is said twice, by its frames (`cuts_of`, `span`) and by a formula
-- (`framed_length`).
use Rattle.std.specs.Prelude.{◌≡◌, ℕ, ◌+◌, ◌-◌, ◌*◌, ◌/◌, ◌%◌, ◌^◌, ◌≤◌, ℤ, pos, ◌+ℤ◌, ◌*ℤ◌, List, [], ◌∷◌, ◌++◌, replicate, nat_eq, nat_le, if◌then◌else◌, min, FitsSigned}
use Rattle.std.specs.Int.{w32, int_wrapping_add, int_wrapping_sub, IsPowerOfTwo}

-- a stream's shape: the length of a term, the greatest datagram, the id of the first term
pub record Geometry : Type 0 where
  pub term_length : ℕ
  pub mtu : ℕ
  pub initial_term_id : ℤ

-- the least multiple of 32 that is at least n
abbrev pub aligned : ℕ → ℕ
aligned n = (n + 31) / 32 * 32

pub record IsTermLength (term_length : ℕ) : Type 0 where
  pub power : IsPowerOfTwo term_length
  pub least : 65536 ≤ term_length
  pub greatest : term_length ≤ 16777216

pub record IsMtu (term_length mtu : ℕ) : Type 0 where
  pub unit : mtu % 32 ≡ 0
  pub least : 256 ≤ mtu
  pub greatest : mtu ≤ 65504
  pub within : mtu ≤ term_length / 8

pub record IsGeometry (g : Geometry) : Type 0 where
  pub term : IsTermLength g.term_length
  pub mtu : IsMtu g.term_length g.mtu
  pub initial : FitsSigned w32 g.initial_term_id

-- the end of the last term
abbrev pub max_position : Geometry → ℕ
max_position g = g.term_length * 2 ^ 31

abbrev pub max_payload : Geometry → ℕ
max_payload g = g.mtu - 32

abbrev pub max_message : Geometry → ℕ
max_message g = min (g.term_length / 8) 16777216

-- the id of the term with this count
abbrev pub id_of : Geometry → ℕ → ℤ
id_of g count = int_wrapping_add w32 g.initial_term_id (pos count)

-- the count of the term with this id, which is negative for an id that no term has
abbrev pub count_of : Geometry → ℤ → ℤ
count_of g id = int_wrapping_sub w32 id g.initial_term_id

-- the position that a term id and an offset name
abbrev pub position_of : Geometry → ℤ → ℤ → ℤ
position_of g id offset = (count_of g id *ℤ pos g.term_length) +ℤ offset

-- where a position stands: the count of its term, and the offset in it
pub record Place : Type 0 where
  pub count : ℕ
  pub offset : ℕ

-- the greatest position is named by the last term and the offset that is its end
abbrev pub place_of : Geometry → ℕ → Place
place_of g p =
    if nat_le (max_position g) p
    then record { count = 2 ^ 31 - 1; offset = g.term_length }
    else record { count = p / g.term_length; offset = p % g.term_length }

-- the id and the offset of a place name the position
abbrev pub NamesPlace : Type 0
NamesPlace = (g : Geometry) (p : ℕ) → IsGeometry g → p ≤ max_position g → position_of g (id_of g (place_of g p).count) (pos (place_of g p).offset) ≡ pos p

-- the frame lengths of a message: one frame, or full frames and a rest
abbrev pub rest_cut : ℕ → List ℕ
rest_cut rest = if nat_eq rest 0 then [] else (rest + 32) ∷ []

abbrev pub cuts_of : Geometry → ℕ → List ℕ
cuts_of g bytes = if nat_le bytes (max_payload g) then (bytes + 32) ∷ [] else replicate (bytes / max_payload g) g.mtu ++ rest_cut (bytes % max_payload g)

-- what frames of these lengths cover
abbrev pub span : List ℕ → ℕ
span [] = 0
span (cut ∷ cuts) = aligned cut + span cuts

-- what a message of this many bytes covers, as the rule has it
abbrev pub rest_length : ℕ → ℕ
rest_length rest = if nat_eq rest 0 then 0 else aligned (rest + 32)

abbrev pub framed_length : Geometry → ℕ → ℕ
framed_length g bytes = if nat_le bytes (max_payload g) then aligned (bytes + 32) else bytes / max_payload g * g.mtu + rest_length (bytes % max_payload g)

-- the greatest claim
abbrev pub greatest_claim : Geometry → ℕ
greatest_claim g = framed_length g (max_message g)
