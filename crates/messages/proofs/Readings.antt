-- An input has one reading.
use Rattle.std.proofs.Common.{◌≡◌, ◌∙◌, ◌<◌, ◌^◌, ℕ, zero, suc, true, false, List, [], ◌∷◌, ◌++◌, length, length-append, Option, None, Some, inl, inr, refl, sym, ap, subst, arith, append-nil}
use Rattle.std.specs.Int.{w32, from_le_bytes, to_le_bytes}
use Rattle.std.proofs.lemmas.List.{append_assoc}
use Rattle.std.proofs.lemmas.Nat.{from_le_bytes-to_le_bytes_4}
use Rattle.messages.specs.Forms.{block, line}
use Rattle.messages.specs.Inputs.{Explains, Gives, IsOneLine, TakesLine}
use Rattle.messages.specs.Readings.{AreSame, HaveOneReading}
use Rattle.messages.specs.declared.form.Form.{Form}
use Rattle.messages.specs.declared.form.Form.TheVariants.{Lines, Blocks}
use Rattle.messages.specs.declared.fault.InputFault.TheVariants.{Cut}

-- ---- lines

head_same : (x y : ℕ) (xs ys : List ℕ) → x ∷ xs ≡ y ∷ ys → x ≡ y
head_same x y xs ys same = grind (arith, same)

tail_same : (x y : ℕ) (xs ys : List ℕ) → x ∷ xs ≡ y ∷ ys → xs ≡ ys
tail_same x y xs ys same = grind (arith, same)

rest_is_line : (x : ℕ) (xs : List ℕ) → IsOneLine (x ∷ xs) → IsOneLine xs
rest_is_line x xs one = λ i low. one (suc i) (omega (arith, low))

-- up to their line feeds two lines of the same bytes are the same, and so is what is left
pub lines_same : (m n a b : List ℕ) → IsOneLine m → IsOneLine n → m ++ 10 ∷ a ≡ n ++ 10 ∷ b → (m ≡ n) × (a ≡ b)
lines_same [] [] a b one two same = (refl, tail_same 10 10 a b same)
lines_same [] (y ∷ n) a b one two same = absurd (two zero (omega arith) (sym (head_same 10 y a (n ++ 10 ∷ b) same)))
lines_same (x ∷ m) [] a b one two same = absurd (one zero (omega arith) (head_same x 10 (m ++ 10 ∷ a) b same))
lines_same (x ∷ m) (y ∷ n) a b one two same =
    let rest = lines_same m n a b (rest_is_line x m one) (rest_is_line y n two) (tail_same x y (m ++ 10 ∷ a) (n ++ 10 ∷ b) same) in
    let first = head_same x y (m ++ 10 ∷ a) (n ++ 10 ∷ b) same in
    (subst (λ (z : ℕ). x ∷ m ≡ z ∷ n) first (ap (λ (l : List ℕ). x ∷ l) rest.0), rest.1)

-- a line without a line feed has none
pub no_line_feed : (m n a : List ℕ) → IsOneLine n → m ++ 10 ∷ a ≡ n → ⊥
no_line_feed [] [] a two same = grind (arith, same)
no_line_feed [] (y ∷ n) a two same = two zero (omega arith) (sym (head_same 10 y a n same))
no_line_feed (x ∷ m) [] a two same = grind (arith, same)
no_line_feed (x ∷ m) (y ∷ n) a two same = no_line_feed m n a (rest_is_line y n two) (tail_same x y (m ++ 10 ∷ a) n same)

-- ---- blocks

-- parts of the same length in front of the same bytes
pub parts_same : (m n a b : List ℕ) → length m ≡ length n → m ++ a ≡ n ++ b → (m ≡ n) × (a ≡ b)
parts_same [] [] a b many same = (refl, same)
parts_same [] (y ∷ n) a b many same = absurd (omega (arith, many))
parts_same (x ∷ m) [] a b many same = absurd (omega (arith, many))
parts_same (x ∷ m) (y ∷ n) a b many same =
    let rest = parts_same m n a b (omega (arith, many)) (tail_same x y (m ++ a) (n ++ b) same) in
    let first = head_same x y (m ++ a) (n ++ b) same in
    (subst (λ (z : ℕ). x ∷ m ≡ z ∷ n) first (ap (λ (l : List ℕ). x ∷ l) rest.0), rest.1)

four : (n : ℕ) → length (to_le_bytes w32 n) ≡ 4
four n = refl

-- two blocks in front of the same bytes
pub blocks_same : (m n a b : List ℕ) → length m < 2 ^ 32 → length n < 2 ^ 32 → block m ++ a ≡ block n ++ b → (m ≡ n) × (a ≡ b)
blocks_same m n a b low under same =
    let lined = sym (append_assoc (to_le_bytes w32 (length m)) m a) ∙ same ∙ append_assoc (to_le_bytes w32 (length n)) n b in
    let fronts = parts_same (to_le_bytes w32 (length m)) (to_le_bytes w32 (length n)) (m ++ a) (n ++ b) (four (length m) ∙ sym (four (length n))) lined in
    let many = sym (from_le_bytes-to_le_bytes_4 (length m) low) ∙ ap (from_le_bytes w32) fronts.0 ∙ from_le_bytes-to_le_bytes_4 (length n) under in
    parts_same m n a b many fronts.1

-- ---- both

both_found : (a b : List ℕ) (m n : List ℕ) → (m ≡ n) × (a ≡ b) → AreSame (Some a) (Some b) true true m n
both_found a b m n same = record { found = refl; left = ap (λ (l : List ℕ). Some l) same.1; message = λ _. same.0 }

taken_lines : (bytes a b m n : List ℕ) → TakesLine (Some bytes) (Some a) m → TakesLine (Some bytes) (Some b) n → (m ≡ n) × (a ≡ b)
taken_lines bytes a b m n (one, inl x) (two, inl y) = lines_same m n a b one two (fed m a (sym x) ∙ sym (fed n b (sym y)))
  where
    fed : (k c : List ℕ) → line k ++ c ≡ bytes → k ++ 10 ∷ c ≡ bytes
    fed k c is = sym (append_assoc k (10 ∷ []) c) ∙ is
taken_lines bytes a b m n (one, inl x) (two, inr y) = absurd (no_line_feed m n a two (sym (append_assoc m (10 ∷ []) a) ∙ sym x ∙ y.0 ∙ ended n b y.1))
  where
    ended : (k c : List ℕ) → c ≡ [] → k ++ c ≡ k
    ended k c is = subst (λ (l : List ℕ). k ++ l ≡ k) (sym is) (append-nil k)
taken_lines bytes a b m n (one, inr x) (two, inl y) = absurd (no_line_feed n m b one (sym (append_assoc n (10 ∷ []) b) ∙ sym y ∙ x.0 ∙ ended m a x.1))
  where
    ended : (k c : List ℕ) → c ≡ [] → k ++ c ≡ k
    ended k c is = subst (λ (l : List ℕ). k ++ l ≡ k) (sym is) (append-nil k)
taken_lines bytes a b m n (one, inr x) (two, inr y) = (sym (ended m a x.1) ∙ sym x.0 ∙ y.0 ∙ ended n b y.1, x.1 ∙ sym y.1)
  where
    ended : (k c : List ℕ) → c ≡ [] → k ++ c ≡ k
    ended k c is = subst (λ (l : List ℕ). k ++ l ≡ k) (sym is) (append-nil k)

-- nothing is given only where nothing is left
not_empty : (form : Form) (greatest : ℕ) (bytes b n : List ℕ) → bytes ≡ [] → Gives form greatest (Some bytes) (Some b) true n → ⊥
not_empty Lines greatest bytes b [] none ((one, inl y), short) = let e = sym none ∙ y in grind (arith, e)
not_empty Lines greatest bytes b (x ∷ n) none ((one, inl y), short) = let e = sym none ∙ y in grind (arith, e)
not_empty Lines greatest bytes b [] none ((one, inr y), short) = absurd (omega (arith, y.2))
not_empty Lines greatest bytes b (x ∷ n) none ((one, inr y), short) = let e = sym none ∙ y.0 in grind (arith, e)
not_empty Blocks greatest bytes b n none (taken, short) = let e = sym none ∙ taken in grind (arith, e)

pub one_reading : HaveOneReading
one_reading Lines greatest bytes (Some a) (Some b) true true m n low (x, short) (y, brief) = both_found a b m n (taken_lines bytes a b m n x y)
one_reading Blocks greatest bytes (Some a) (Some b) true true m n low (x, short) (y, brief) =
    both_found a b m n (blocks_same m n a b (omega (arith, low, short)) (omega (arith, low, brief)) (sym x ∙ y))
one_reading form greatest bytes (Some a) (Some b) true false m n low x y = absurd (not_empty form greatest bytes a m (y.0 ∙ y.1) x)
one_reading form greatest bytes (Some a) (Some b) false true m n low x y = absurd (not_empty form greatest bytes b n (x.0 ∙ x.1) y)
one_reading form greatest bytes (Some a) (Some b) false false m n low x y =
    record { found = refl; left = ap (λ (l : List ℕ). Some l) (x.1 ∙ sym y.1); message = λ h. let e : false ≡ true = h in absurd (grind (arith, e)) }
one_reading Lines greatest bytes None b true other m n low x y = absurd (unknown x.0)
  where
    unknown : TakesLine (Some bytes) None m → ⊥
    unknown (one, inl h) = h
    unknown (one, inr h) = h.0
one_reading Blocks greatest bytes None b true other m n low x y = absurd x.0
one_reading form greatest bytes None b false other m n low x y = absurd x.0
one_reading Lines greatest bytes (Some a) None any true m n low x y = absurd (unknown y.0)
  where
    unknown : TakesLine (Some bytes) None n → ⊥
    unknown (one, inl h) = h
    unknown (one, inr h) = h.0
one_reading Blocks greatest bytes (Some a) None any true m n low x y = absurd y.0
one_reading form greatest bytes (Some a) None any false m n low x y = absurd y.0

-- ---- rows: a block that is cut short is no message, and nothing but cut short

cut_is_no_message : (new : Option (List ℕ)) (m : List ℕ) → Gives Blocks 100 (Some (3 ∷ 0 ∷ 0 ∷ 0 ∷ 97 ∷ 98 ∷ [])) new true m → ⊥
cut_is_no_message None m (taken, short) = taken
cut_is_no_message (Some b) m (taken, short) = grind (arith, short, taken, length-append m b)

cut_is_told : Explains Blocks 7 100 (Some (3 ∷ 0 ∷ 0 ∷ 0 ∷ 97 ∷ 98 ∷ [])) (Some []) [] (Cut 7)
cut_is_told = (refl, (3 ∷ 0 ∷ 0 ∷ 0 ∷ 97 ∷ 98 ∷ [], refl, refl, inr (3, 97 ∷ 98 ∷ [], refl, omega arith)))

-- the last line needs no line feed, and is one message
last_line : Gives Lines 100 (Some (97 ∷ 98 ∷ [])) (Some []) true (97 ∷ 98 ∷ [])
last_line = ((λ i low. two i low, inr (refl, refl, omega arith)), omega arith)
  where
    two : IsOneLine (97 ∷ 98 ∷ [])
    two zero low = grind arith
    two (suc zero) low = grind arith
    two (suc (suc i)) low = absurd (omega (arith, low))
