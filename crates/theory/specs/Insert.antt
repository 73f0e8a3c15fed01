-- What an image answers to a frame, by the heads of the frames that it stored.
use Rattle.std.specs.Prelude.{◌≡◌, ℕ, ◌+◌, ◌-◌, ◌%◌, ⊤, Bool, true, false, not, ℤ, pos, negsuc, ◌&&◌, List, [], ◌∷◌, min, nat_eq, nat_lt, if◌then◌else◌}
use Rattle.std.specs.List.{list_any}
use Rattle.theory.specs.Position.{Geometry, aligned, max_position}
use Rattle.theory.specs.Placed.{Placed, frame_length, is_padding}

-- where a frame starts, whether it is a padding, and its length
pub record Head : Type 0 where
  pub at : ℕ
  pub padding : Bool
  pub length : ℕ

abbrev pub head_of : Placed → Head
head_of s = record { at = s.at; padding = is_padding s.frame; length = frame_length s.frame }

abbrev pub head_end : Head → ℕ
head_end h = h.at + aligned h.length

pub data Insert : Type 0 where
  CrossesTerm : Insert
  Below : Insert
  OverWindow : Insert
  Duplicate : Insert
  Overlap : Insert
  Stored : Insert

-- the end of what the window has to hold: of a padding the header alone
abbrev pub window_end : Head → ℕ
window_end h = if h.padding then h.at + 32 else head_end h

abbrev pub same_kind : Bool → Bool → Bool
same_kind true padding = padding
same_kind false padding = not padding

-- the same start, type and frame length
abbrev pub is_duplicate : Head → Head → Bool
is_duplicate h k = nat_eq h.at k.at && same_kind h.padding k.padding && nat_eq h.length k.length

-- some covered unit is held
abbrev pub overlaps : Head → Head → Bool
overlaps h k = nat_lt h.at (head_end k) && nat_lt k.at (head_end h)

-- no two of the frames overlap
abbrev pub AreApart : List Head → Type 0
AreApart [] = ⊤
AreApart (h ∷ hs) = (list_any (overlaps h) hs ≡ false) × AreApart hs

-- the first that applies; least is the least consumer position
abbrev pub insert_answer : Geometry → List Head → ℕ → ℕ → Head → Insert
insert_answer g held least window h =
    if nat_lt g.term_length (h.at % g.term_length + aligned h.length) then CrossesTerm
    else (if nat_lt h.at least then Below
    else (if nat_lt (min (least + window) (max_position g)) (window_end h) then OverWindow
    else (if list_any (is_duplicate h) held then Duplicate
    else (if list_any (overlaps h) held then Overlap
    else Stored))))

-- at a position that may be negative, which is below every image
abbrev pub insert_answer_at : Geometry → List Head → ℕ → ℕ → ℤ → Bool → ℕ → Insert
insert_answer_at g held least window (pos p) padding length = insert_answer g held least window (record { at = p; padding = padding; length = length })
insert_answer_at g held least window (negsuc n) padding length =
    if nat_lt g.term_length (g.term_length - 1 - n % g.term_length + aligned length) then CrossesTerm else Below
