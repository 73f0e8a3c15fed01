-- Where the first line of a text and the first word of a line end.
use Rattle.std.proofs.Common.{◌≡◌, ◌≢◌, ℕ, zero, suc, ◌+◌, ◌-◌, ◌<◌, Bool, true, false, cond, List, [], ◌∷◌, length, get_or, take, drop, refl, sym, ap, ◌∙◌, arith, add-one}
use Rattle.std.proofs.lemmas.Bool.{eq-eqb, ne_eqb}
use Rattle.std.proofs.lemmas.List.{take_rest}
use Rattle.std.proofs.Common.{None}
use Rattle.std.specs.Prelude.{◌==◌}
use Rattle.script.specs.Reading.{end_of}
use Rattle.script.specs.Pieces.{with_first, lines, words}

-- the first line ends at the first line feed
pub line_at : (xs : List ℕ) (i : ℕ) → i < length xs → get_or xs i 0 ≡ 10 → ((k : ℕ) → k < i → get_or xs k 0 ≢ 10) → lines xs ≡ take i xs ∷ lines (drop (suc i) xs)
unfolding lines
line_at [] i inside feed before = absurd (omega arith)
line_at (x ∷ xs) zero inside feed before = ap (λ t. cond t ([] ∷ lines xs) (with_first x (lines xs))) (eq-eqb x 10 feed)
line_at (x ∷ xs) (suc i) inside feed before =
    ap (λ t. cond t ([] ∷ lines xs) (with_first x (lines xs))) (ne_eqb x 10 (before 0 (omega arith)))
    ∙ ap (with_first x) (line_at xs i (omega arith) feed (λ k below. before (suc k) (omega arith)))

-- without a line feed it is the whole text
pub line_whole : (x : ℕ) (xs : List ℕ) → ((k : ℕ) → k < suc (length xs) → get_or (x ∷ xs) k 0 ≢ 10) → lines (x ∷ xs) ≡ (x ∷ xs) ∷ []
unfolding lines
line_whole x [] none = ap (λ t. cond t ([] ∷ []) ((x ∷ []) ∷ [])) (ne_eqb x 10 (none 0 (omega arith)))
line_whole x (y ∷ ys) none =
    ap (λ t. cond t ([] ∷ lines (y ∷ ys)) (with_first x (lines (y ∷ ys)))) (ne_eqb x 10 (none 0 (omega arith)))
    ∙ ap (with_first x) (line_whole y ys (λ k below. none (suc k) (omega arith)))

pub no_line : (xs : List ℕ) → length xs ≡ 0 → lines xs ≡ []
unfolding lines
no_line [] none = refl
no_line (x ∷ xs) none = absurd (omega arith)

pub line_all : (xs : List ℕ) → 0 < length xs → ((k : ℕ) → k < length xs → get_or xs k 0 ≢ 10) → lines xs ≡ xs ∷ []
line_all [] some none = absurd (omega arith)
line_all (x ∷ xs) some none = line_whole x xs none

-- the first word ends at the first space
pub word_ends : (xs : List ℕ) (i : ℕ) → i < length xs → get_or xs i 0 ≡ 32 → ((k : ℕ) → k < i → get_or xs k 0 ≢ 32) → words xs ≡ take i xs ∷ words (drop (suc i) xs)
unfolding words
word_ends [] i inside space before = absurd (omega arith)
word_ends (x ∷ xs) zero inside space before = ap (λ t. cond t ([] ∷ words xs) (with_first x (words xs))) (eq-eqb x 32 space)
word_ends (x ∷ xs) (suc i) inside space before =
    ap (λ t. cond t ([] ∷ words xs) (with_first x (words xs))) (ne_eqb x 32 (before 0 (omega arith)))
    ∙ ap (with_first x) (word_ends xs i (omega arith) space (λ k below. before (suc k) (omega arith)))

pub word_whole : (xs : List ℕ) → ((k : ℕ) → k < length xs → get_or xs k 0 ≢ 32) → words xs ≡ xs ∷ []
unfolding words
word_whole [] none = refl
word_whole (x ∷ xs) none =
    ap (λ t. cond t ([] ∷ words xs) (with_first x (words xs))) (ne_eqb x 32 (none 0 (omega arith)))
    ∙ ap (with_first x) (word_whole xs (λ k below. none (suc k) (omega arith)))

-- the same, as code cuts a slice
pub line_cut : (xs : List ℕ) (i : ℕ) → i < length xs → get_or xs i 0 ≡ 10 → ((k : ℕ) → k < i → get_or xs k 0 ≢ 10) → lines xs ≡ take i xs ∷ lines (take (length xs - (i + 1)) (drop (i + 1) xs))
line_cut xs i inside feed before = line_at xs i inside feed before ∙ sym (simp (take_rest, add-one))

pub word_cut : (xs : List ℕ) (i : ℕ) → i < length xs → get_or xs i 0 ≡ 32 → ((k : ℕ) → k < i → get_or xs k 0 ≢ 32) → words xs ≡ take i xs ∷ words (take (length xs - (i + 1)) (drop (i + 1) xs))
word_cut xs i inside space before = word_ends xs i inside space before ∙ sym (simp (take_rest, add-one))

-- each line has a word
more_words : (x : ℕ) (ws : List (List ℕ)) → end_of (with_first x ws) ≡ None
unfolding end_of
more_words x [] = refl
more_words x (w ∷ ws) = refl

pub some_word : (xs : List ℕ) → end_of (words xs) ≡ None
unfolding words end_of
some_word [] = refl
some_word (x ∷ xs) = by_test (x == 32)
  where
    by_test : (t : Bool) → end_of (cond t ([] ∷ words xs) (with_first x (words xs))) ≡ None
    by_test true = refl
    by_test false = more_words x (words xs)
