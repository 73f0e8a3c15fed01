-- Where the words of a log stand.
-- The control words are a cache line apart, 16 words: the limit, the active count, the three raw tails, and the positions of eight consumers. Behind them stand the words of three terms, which a log that runs has in the proofs alone.
use Rattle.std.specs.Prelude.{ℕ, ◌+◌, ◌*◌, ◌/◌, ◌%◌}
use Rattle.theory.specs.Position.{Geometry}

abbrev pub limit_place : ℕ
limit_place = 0

abbrev pub count_place : ℕ
count_place = 16

-- of the raw tail of the partition that a count has
abbrev pub tail_place : ℕ → ℕ
tail_place count = count % 3 * 16 + 32

abbrev pub consumer_place : ℕ → ℕ
consumer_place number = number * 16 + 80

abbrev pub data_place : ℕ
data_place = 208

-- how many words three terms have
abbrev pub ring_of : Geometry → ℕ
ring_of g = 3 * (g.term_length / 8)

-- of the word of the stream that begins at a position
abbrev pub slot : Geometry → ℕ → ℕ
slot g position = data_place + position / 8 % ring_of g

abbrev pub table_length : Geometry → ℕ
table_length g = data_place + ring_of g
