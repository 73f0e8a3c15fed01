-- Where a text is cut.
use Rattle.std.proofs.Common.{◌≡◌, ◌≢◌, ℕ, zero, suc, ◌+◌, ◌<◌, ◌≤◌, Bool, true, false, cond, List, [], ◌∷◌, ◌++◌, length, take, drop, take-append-drop, Option, None, Some, refl, sym, ap, subst, ◌∙◌, arith}
use Rattle.std.specs.Prelude.{◌==◌, MatchOption}
use Rattle.std.specs.Borrow.{Bor}
use Rattle.std.specs.Str.{NoCharPasses}
use Rattle.std.specs.Str.Pattern.{RFindsChar}
use Rattle.std.proofs.lemmas.Str.Pattern.{NoCharPasses-char, drop_at_char}
use Rattle.std.specs.List.{onto_first, position_or_len, before_first, after_first}
use Rattle.std.proofs.lemmas.Bool.{ne_eqb, eq-eqb}
use Rattle.std.proofs.lemmas.List.Splits.{slice_split_first}
use Rattle.channel.specs.Bytes.{Lacks}
use Rattle.channel.specs.Settings.{name_of}
use Rattle.channel.specs.declared.parameter.Parameter.{Parameter}
use Rattle.channel.specs.declared.parameter.Parameter.TheVariants.{Endpoint, Interface, Ttl, Mtu, TermLength, SessionId, InitialTermId, TermId, TermOffset}
use Rattle.channel.specs.Channels.{parts}

-- a text with the byte doesn't lack it
lacks_middle : (c : ℕ) (front back : List ℕ) → Lacks c (front ++ c ∷ back) → ⊥
lacks_middle c [] back h = h 0 (omega arith) refl
lacks_middle c (x ∷ front) back h = lacks_middle c front back (λ i low. h (suc i) (omega arith))

pub lacks_none : (c : ℕ) (text front back : List ℕ) → text ≡ front ++ c ∷ back → Lacks c text → ⊥
lacks_none c text front back e h = lacks_middle c front back (subst (Lacks c) e h)

lacks_rest : (c x : ℕ) (xs : List ℕ) → Lacks c (x ∷ xs) → Lacks c xs
lacks_rest c x xs h = λ i low. h (suc i) (omega arith)

-- the first such byte is one place
pub cut_once : (c : ℕ) (a b x y : List ℕ) → Lacks c a → Lacks c x → a ++ c ∷ b ≡ x ++ c ∷ y → (a ≡ x) × (b ≡ y)
cut_once c [] b [] y la lx e = (refl, cc)
cut_once c [] b (d ∷ x) y la lx e = absurd (let same : d ≡ c = cc in lx 0 (omega arith) same)
cut_once c (d ∷ a) b [] y la lx e = absurd (let same : d ≡ c = cc in la 0 (omega arith) same)
cut_once c (d ∷ a) b (f ∷ x) y la lx e =
    let head : d ≡ f = cc in
    let rest : a ++ c ∷ b ≡ x ++ c ∷ y = cc in
    let again = cut_once c a b x y (lacks_rest c d a la) (lacks_rest c f x lx) rest in
    (cc, again.1)

-- the last such byte is one place
pub cut_last_once : (c : ℕ) (a b x y : List ℕ) → Lacks c b → Lacks c y → a ++ c ∷ b ≡ x ++ c ∷ y → (a ≡ x) × (b ≡ y)
cut_last_once c [] b [] y lb ly e = (refl, cc)
cut_last_once c [] b (d ∷ x) y lb ly e = absurd (let rest : b ≡ x ++ c ∷ y = cc in lacks_none c b x y rest lb)
cut_last_once c (d ∷ a) b [] y lb ly e = absurd (let rest : y ≡ a ++ c ∷ b = cc in lacks_none c y a b rest ly)
cut_last_once c (d ∷ a) b (f ∷ x) y lb ly e =
    let head : d ≡ f = cc in
    let rest : a ++ c ∷ b ≡ x ++ c ∷ y = cc in
    let again = cut_last_once c a b x y lb ly rest in
    (cc, again.1)

-- what `rsplit_once` gives at a character
abbrev pub IsLastCut : ℕ → List ℕ → Option (Bor (List ℕ) × Bor (List ℕ)) → Type 0
IsLastCut c text r = MatchOption r (RFindsChar c text None) (λ x. (i : ℕ) × (j : ℕ) × RFindsChar c text (Some (i, j)) × (x.0.now ≡ take i text) × (x.1.now ≡ drop j text) × (i ≤ j) × (length x.0.now ≡ i) × (length x.1.now + j ≡ length text))

pub rsplit_parts : (c : ℕ) (text : List ℕ) (r : Option (Bor (List ℕ) × Bor (List ℕ))) → IsLastCut c text r → c < 128 → MatchOption r (Lacks c text) (λ x. (text ≡ x.0.now ++ c ∷ x.1.now) × Lacks c x.1.now)
rsplit_parts c text None h low = λ i. NoCharPasses-char c text i h low
rsplit_parts c text (Some x) h low = (
  sym (take-append-drop h.0 text) ∙ (λ k. sym h.3 k ++ (drop_at_char c text h.0 h.1 h.2.1 low ∙ ap (λ l. c ∷ l) (sym h.4)) k),
  λ i. NoCharPasses-char c x.1.now i (subst (NoCharPasses (λ d. d == c)) (sym h.4) h.2.0) low,
)

-- a literal lacks what it lacks
abbrev lacks_test : ℕ → List ℕ → Bool
lacks_test c [] = true
lacks_test c (x ∷ xs) = cond (x == c) false (lacks_test c xs)

test_step : (c x : ℕ) (rest t : Bool) → (x == c) ≡ t → cond t false rest ≡ true → (x ≢ c) × (rest ≡ true)
test_step c x rest true e h = absurd (cc)
test_step c x rest false e h = (λ same. (let wrong : (x == c) ≡ true = eq-eqb x c same in cc), h)

pub lacks_from : (c : ℕ) (xs : List ℕ) → lacks_test c xs ≡ true → Lacks c xs
lacks_from c [] h i low = absurd (omega arith)
lacks_from c (x ∷ xs) h zero low = (test_step c x (lacks_test c xs) (x == c) refl h).0
lacks_from c (x ∷ xs) h (suc i) low = lacks_from c xs (test_step c x (lacks_test c xs) (x == c) refl h).1 i (omega arith)

pub name_lacks : (p : Parameter) → Lacks 61 (name_of p)
name_lacks Endpoint = lacks_from 61 (name_of Endpoint) refl
name_lacks Interface = lacks_from 61 (name_of Interface) refl
name_lacks Ttl = lacks_from 61 (name_of Ttl) refl
name_lacks Mtu = lacks_from 61 (name_of Mtu) refl
name_lacks TermLength = lacks_from 61 (name_of TermLength) refl
name_lacks SessionId = lacks_from 61 (name_of SessionId) refl
name_lacks InitialTermId = lacks_from 61 (name_of InitialTermId) refl
name_lacks TermId = lacks_from 61 (name_of TermId) refl
name_lacks TermOffset = lacks_from 61 (name_of TermOffset) refl

-- ---- the parts of a text

pub cut_first : (rest part after : List ℕ) → (position_or_len (λ b. b == 124) rest < length rest) × (part ≡ before_first (λ b. b == 124) rest) × (after ≡ after_first (λ b. b == 124) rest) → parts rest ≡ part ∷ parts after
cut_first rest part after (low, before, behind) =
    slice_split_first (λ b. b == 124) rest 0 low ∙ ap (λ (x : List ℕ). x ∷ parts (after_first (λ b. b == 124) rest)) (sym before) ∙ ap (λ (x : List ℕ). part ∷ parts x) (sym behind)

pub cut_none : (rest : List ℕ) → Lacks 124 rest → parts rest ≡ rest ∷ []
cut_none [] h = refl
cut_none (x ∷ xs) h = ap (λ (t : Bool). cond t ([] ∷ parts xs) (onto_first x (parts xs))) (ne_eqb x 124 (h 0 (omega arith))) ∙ ap (onto_first x) (cut_none xs (lacks_rest 124 x xs h))
