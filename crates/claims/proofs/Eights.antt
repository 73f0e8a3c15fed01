-- Lists of eight.
use Rattle.std.proofs.Common.{◌≡◌, List, [], ◌∷◌, get_or, length, arith}

-- by their places
pub eight : {A : Type 0} (xs : List A) (a b c d e f g h : A) → length xs ≡ 8 → a ≡ get_or xs 0 a → b ≡ get_or xs 1 b → c ≡ get_or xs 2 c → d ≡ get_or xs 3 d → e ≡ get_or xs 4 e → f ≡ get_or xs 5 f → g ≡ get_or xs 6 g → h ≡ get_or xs 7 h → a ∷ b ∷ c ∷ d ∷ e ∷ f ∷ g ∷ h ∷ [] ≡ xs
eight (x0 ∷ x1 ∷ x2 ∷ x3 ∷ x4 ∷ x5 ∷ x6 ∷ x7 ∷ []) a b c d e f g h long e0 e1 e2 e3 e4 e5 e6 e7 = λ i. e0 i ∷ e1 i ∷ e2 i ∷ e3 i ∷ e4 i ∷ e5 i ∷ e6 i ∷ e7 i ∷ []
eight xs a b c d e f g h long e0 e1 e2 e3 e4 e5 e6 e7 = absurd (omega arith)

-- the same of four
pub four : {A : Type 0} (xs : List A) (a b c d : A) → length xs ≡ 4 → a ≡ get_or xs 0 a → b ≡ get_or xs 1 b → c ≡ get_or xs 2 c → d ≡ get_or xs 3 d → a ∷ b ∷ c ∷ d ∷ [] ≡ xs
four (x0 ∷ x1 ∷ x2 ∷ x3 ∷ []) a b c d long e0 e1 e2 e3 = λ i. e0 i ∷ e1 i ∷ e2 i ∷ e3 i ∷ []
four xs a b c d long e0 e1 e2 e3 = absurd (omega arith)
