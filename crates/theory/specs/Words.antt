-- The words of a log's table, and the positions that they show.
use Rattle.std.specs.Prelude.{ℕ, ◌+◌, ◌*◌, ◌/◌, ◌%◌, ◌^◌, min, nat_eq, if◌then◌else◌, ℤ, pos, ◌+ℤ◌, ◌*ℤ◌}
use Rattle.std.specs.Int.{w32, cast_unsigned, cast_signed, int_max, int_wrapping_sub}
use Rattle.theory.specs.Position.{Geometry, count_of, id_of}

-- a raw tail: the id in the high 32 bits, the offset in the low 32
abbrev pub tail_word : ℤ → ℕ → ℕ
tail_word id offset = cast_unsigned w32 id * 2 ^ 32 + offset

abbrev pub id_in : ℕ → ℤ
id_in word = cast_signed w32 (word / 2 ^ 32)

abbrev pub offset_in : ℕ → ℕ
offset_in word = word % 2 ^ 32

-- the position that it shows, which may be negative before its first use
abbrev pub shown : Geometry → ℕ → ℤ
shown g word = (count_of g (id_in word) *ℤ pos g.term_length) +ℤ pos (min (offset_in word) g.term_length)

-- the three tails, and the active count
pub record Tails : Type 0 where
  pub zero_th : ℕ
  pub first : ℕ
  pub second : ℕ
  pub active : ℕ

abbrev pub greatest_shown : Geometry → Tails → ℤ
greatest_shown g t = int_max (shown g t.zero_th) (int_max (shown g t.first) (shown g t.second))

-- the id of the term that many before
abbrev pub id_before : Geometry → ℕ → ℕ → ℤ
id_before g count back = int_wrapping_sub w32 (id_of g count) (pos back)

-- a log that opens at this count and offset: the next partition has the id of the term two before, the one behind it the id of the term before
abbrev pub fresh_tails : Geometry → ℕ → ℕ → Tails
fresh_tails g count offset =
    let here = tail_word (id_of g count) offset in
    let next = tail_word (id_before g count 2) 0 in
    let last = tail_word (id_before g count 1) 0 in
    if nat_eq (count % 3) 0 then record { zero_th = here; first = next; second = last; active = count }
    else (if nat_eq (count % 3) 1 then record { zero_th = last; first = here; second = next; active = count } else record { zero_th = next; first = last; second = here; active = count })
