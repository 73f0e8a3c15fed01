-- What is so of a line's first words.
use Rattle.std.proofs.Common.{◌≡◌, ◌≤◌, List, [], ◌∷◌, length, map, refl, sym, arith}
use Rattle.std.specs.Borrow.{Bor}
use Rattle.std.specs.List.{list_any, slice_index_or}
use Rattle.std.specs.Str.{bytes_eq}
use Rattle.clap.specs.Words.{Text}
use Rattle.clap.proofs.WalkLemmas.{list_any-map}
use Rattle.command_line.specs.Descriptors.{asks_for_help, begins_with, is_help_word}
use Rattle.command_line.specs.Readers.{reader_of, reader_of_more}

-- who reads one of three words or more
pub by_first : (line : List (Bor Text)) (one two : Bor Text) → 3 ≤ length line → reader_of_more (slice_index_or line 0 one).now (slice_index_or line 1 two).now ≡ reader_of (map (λ s. s.now) line)
by_first [] one two many = absurd (omega (arith, many))
by_first (a ∷ []) one two many = absurd (omega (arith, many))
by_first (a ∷ b ∷ []) one two many = absurd (omega (arith, many))
by_first (a ∷ b ∷ c ∷ rest) one two many = refl

-- whether a line begins with a word
pub first_is : (line : List (Bor Text)) (one : Bor Text) (word : Text) → 1 ≤ length line → begins_with word (map (λ s. s.now) line) ≡ bytes_eq (slice_index_or line 0 one).now word
first_is [] one word some = absurd (omega (arith, some))
first_is (a ∷ rest) one word some = refl

-- whether a word of a line asks for help
pub help_words : (line : List (Bor Text)) → asks_for_help (map (λ s. s.now) line) ≡ list_any (λ s. is_help_word s.now) line
help_words line = sym (list_any-map is_help_word (λ s. s.now) line)
