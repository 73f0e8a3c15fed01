-- Entries in order, list by list, that weigh what a tiling weighs are merged to it.
use Rattle.std.proofs.Common.{◌≡◌, ◌⊎◌, inl, inr, ℕ, zero, suc, ◌+◌, ◌-◌, ◌<◌, ◌≤◌, List, [], ◌∷◌, ◌++◌, map, Bool, true, false, cond, ◌==◌, refl, sym, ap, ◌∙◌, subst, ⊎_elim, arith}
use Rattle.std.specs.Prelude.{◌&&◌}
use Rattle.std.specs.List.{AllByRecursion}
use Rattle.std.proofs.lemmas.Bool.{and_from, and_parts, cases_Bool, cond-false, cond-true, eq-eqb, eqb-true}
use Rattle.theory.specs.Entry.{Entry, entry_end, length_of}
use Rattle.theory.specs.Placed.{Among}
use Rattle.theory.specs.Tiling.{Tiles}
use Rattle.theory.proofs.Lists.{all_append, all_at, all_behind, all_front}
use Rattle.log_rule.specs.Claims.Sums.{total}
use Rattle.log_rule.proofs.Claimed.Totals.{total_append}
use Rattle.log_messages.proofs.All.{counted}
use Rattle.log_messages.specs.Closed.{AreInOrder, Merges, bare, joined}
use Rattle.log_messages.proofs.Merging.{among_list, among_wide}

-- ---- whether two entries are one claim

abbrev same_list : List ℕ → List ℕ → Bool
same_list [] [] = true
same_list [] (y ∷ ys) = false
same_list (x ∷ xs) [] = false
same_list (x ∷ xs) (y ∷ ys) = (x == y) && same_list xs ys

list_same : (xs : List ℕ) → same_list xs xs ≡ true
list_same [] = refl
list_same (x ∷ xs) = and_from (x == x) (same_list xs xs) (eq-eqb x x refl) (list_same xs)

list_is : (xs ys : List ℕ) → same_list xs ys ≡ true → xs ≡ ys
list_is [] [] e = refl
list_is [] (y ∷ ys) e = cc
list_is (x ∷ xs) [] e = cc
list_is (x ∷ xs) (y ∷ ys) e = let both = and_parts (x == y) (same_list xs ys) e in (λ j. eqb-true x y both.0 j ∷ list_is xs ys both.1 j)

abbrev same_kind : Bool → Bool → Bool
same_kind true b = b
same_kind false true = false
same_kind false false = true

kind_same : (b : Bool) → same_kind b b ≡ true
kind_same true = refl
kind_same false = refl

kind_is : (a b : Bool) → same_kind a b ≡ true → a ≡ b
kind_is true b e = sym e
kind_is false true e = cc
kind_is false false e = refl

abbrev same_claim : Entry → Entry → Bool
same_claim b e = (e.start == b.start) && ((e.owner == b.owner) && (same_kind e.padding b.padding && same_list e.cuts b.cuts))

claim_same : (b : Entry) → same_claim b b ≡ true
claim_same b =
    and_from (b.start == b.start) ((b.owner == b.owner) && (same_kind b.padding b.padding && same_list b.cuts b.cuts)) (eq-eqb b.start b.start refl)
    (and_from (b.owner == b.owner) (same_kind b.padding b.padding && same_list b.cuts b.cuts) (eq-eqb b.owner b.owner refl)
    (and_from (same_kind b.padding b.padding) (same_list b.cuts b.cuts) (kind_same b.padding) (list_same b.cuts)))

claim_is : (b e : Entry) → same_claim b e ≡ true → bare e ≡ bare b
claim_is b e same =
    let one = and_parts (e.start == b.start) ((e.owner == b.owner) && (same_kind e.padding b.padding && same_list e.cuts b.cuts)) same in
    let two = and_parts (e.owner == b.owner) (same_kind e.padding b.padding && same_list e.cuts b.cuts) one.1 in
    let three = and_parts (same_kind e.padding b.padding) (same_list e.cuts b.cuts) two.1 in
    (λ j. record { start = eqb-true e.start b.start one.0 j; owner = eqb-true e.owner b.owner two.0 j; padding = kind_is e.padding b.padding three.0 j; cuts = list_is e.cuts b.cuts three.1 j; frames = [] })

-- 1 where an entry is this claim
abbrev is_claim : Entry → Entry → ℕ
is_claim b e = cond (same_claim b e) 1 0

one_claim : (b : Entry) → is_claim b b ≡ 1
one_claim b = cond-true {A = ℕ} (same_claim b b) 1 0 (claim_same b)

counted_claim : (b e : Entry) → 0 < is_claim b e → bare e ≡ bare b
counted_claim b e some =
    ⊎_elim
    (λ (t : same_claim b e ≡ true). claim_is b e t)
    (λ (f : same_claim b e ≡ false). absurd (let none : is_claim b e ≡ 0 = cond-false {A = ℕ} (same_claim b e) 1 0 f in omega (arith, some, none)))
    (cases_Bool (same_claim b e))

-- ---- what lists weigh

-- by what an entry's claim is
abbrev pub by_claim : (Entry → ℕ) → Entry → ℕ
by_claim h e = h (bare e)

pub total_middle : (h : Entry → ℕ) (front : List (List Entry)) (e : Entry) (rest : List Entry) (behind : List (List Entry)) → total h (joined (front ++ ((e ∷ rest) ∷ behind))) ≡ h e + total h (joined (front ++ (rest ∷ behind)))
total_middle h [] e rest behind = refl
total_middle h (f ∷ front) e rest behind =
    total_append h f (joined (front ++ ((e ∷ rest) ∷ behind)))
    ∙ ap (λ (n : ℕ). total h f + n) (total_middle h front e rest behind)
    ∙ around (total h f) (h e) (total h (joined (front ++ (rest ∷ behind))))
    ∙ ap (λ (n : ℕ). h e + n) (sym (total_append h f (joined (front ++ (rest ∷ behind)))))
  where
    around : (a b c : ℕ) → a + (b + c) ≡ b + (a + c)
    around a b c = omega arith

-- ---- an entry that weighs something is in one of the lists

positive : (n : ℕ) → (0 < n) ⊎ (n ≡ 0)
positive zero = inr refl
positive (suc n) = inl (omega arith)

record FoundIn (h : Entry → ℕ) (xs : List Entry) : Type 0 where
  before : List Entry
  entry : Entry
  rest : List Entry
  parts : xs ≡ before ++ (entry ∷ rest)
  some : 0 < h entry

find_in : (h : Entry → ℕ) (xs : List Entry) → 0 < total h xs → FoundIn h xs
find_in h [] some = absurd (omega (arith, some))
find_in h (x ∷ xs) some = go (λ more. find_in h xs more) (positive (h x))
  where
    rest_some : (a b : ℕ) → 0 < a + b → a ≡ 0 → 0 < b
    rest_some a b s none = omega (arith, s, none)

    go : (0 < total h xs → FoundIn h xs) → (0 < h x) ⊎ (h x ≡ 0) → FoundIn h (x ∷ xs)
    go later (inl here) = record { before = []; entry = x; rest = xs; parts = refl; some = here }
    go later (inr none) = let f = later (rest_some (h x) (total h xs) some none) in record { before = x ∷ f.before; entry = f.entry; rest = f.rest; parts = ap (λ (ys : List Entry). x ∷ ys) f.parts; some = f.some }

record FoundAmong (h : Entry → ℕ) (lists : List (List Entry)) : Type 0 where
  front : List (List Entry)
  list : List Entry
  behind : List (List Entry)
  parts : lists ≡ front ++ (list ∷ behind)
  found : FoundIn h list

find_among : (h : Entry → ℕ) (lists : List (List Entry)) → 0 < total h (joined lists) → FoundAmong h lists
find_among h [] some = absurd (omega (arith, some))
find_among h (xs ∷ lists) some = go (λ more. find_among h lists more) (positive (total h xs))
  where
    rest_some : (a b c : ℕ) → 0 < c → c ≡ a + b → a ≡ 0 → 0 < b
    rest_some a b c s sum none = omega (arith, s, sum, none)

    go : (0 < total h (joined lists) → FoundAmong h lists) → (0 < total h xs) ⊎ (total h xs ≡ 0) → FoundAmong h (xs ∷ lists)
    go later (inl here) = record { front = []; list = xs; behind = lists; parts = refl; found = find_in h xs here }
    go later (inr none) =
        let f = later (rest_some (total h xs) (total h (joined lists)) (total h (joined (xs ∷ lists))) some (total_append h xs (joined lists)) none) in
        record { front = xs ∷ f.front; list = f.list; behind = f.behind; parts = ap (λ (ls : List (List Entry)). xs ∷ ls) f.parts; found = f.found }

-- ---- none begins below where the tiling does

abbrev below : ℕ → Entry → ℕ
below r e = r - e.start

none_below : (term r p q : ℕ) (es : List Entry) → Tiles term p q es → r ≤ p → total (below r) es ≡ 0
none_below term r p q [] t low = refl
none_below term r p q (e ∷ es) t low = let here : e.start ≡ p = t.0 in zeros (r - e.start) (total (below r) es) (omega (arith, here, low)) (none_below term r (entry_end e) q es t.2 (omega (arith, here, low)))
  where
    zeros : (a b : ℕ) → a ≡ 0 → b ≡ 0 → a + b ≡ 0
    zeros a b x y = omega (arith, x, y)

-- ---- so the lists are merged to the tiling

none_left : (lists : List (List Entry)) → total (λ e. 1) (joined lists) ≡ 0 → AllByRecursion (λ xs. xs ≡ []) lists
none_left [] none = tt
none_left ([] ∷ lists) none = (refl, none_left lists none)
none_left ((x ∷ xs) ∷ lists) none = absurd (more (total (λ e. 1) (xs ++ joined lists)) none)
  where
    more : (n : ℕ) → 1 + n ≡ 0 → ⊥
    more n e = omega (arith, e)

all_rest : (P : List Entry → Type 0) (front : List (List Entry)) (xs ys : List Entry) (behind : List (List Entry)) → (P xs → P ys) → AllByRecursion P (front ++ (xs ∷ behind)) → AllByRecursion P (front ++ (ys ∷ behind))
all_rest P front xs ys behind weaker all = let last = all_behind P front (xs ∷ behind) all in all_append P front (ys ∷ behind) (all_front P front (xs ∷ behind) all) (weaker last.0, last.1)

-- an entry that is the least of all stands first in its list
first_there : (p : ℕ) (before : List Entry) (e : Entry) (rest : List Entry) → AreInOrder (before ++ (e ∷ rest)) → ((d : Entry) → Among d (before ++ (e ∷ rest)) → (p ≤ d.start) × (0 < length_of d)) → e.start ≡ p → before ≡ []
first_there p [] e rest order each here = refl
first_there p (d ∷ ds) e rest order each here =
    let bounds = each d (inl refl) in
    let ends : entry_end d ≤ e.start = all_at (λ (f : Entry). entry_end d ≤ f.start) e (ds ++ (e ∷ rest)) order.0 (last ds) in
    absurd (let low = bounds.0 in let long = bounds.1 in omega (arith, low, long, ends, here))
  where
    last : (xs : List Entry) → Among e (xs ++ (e ∷ rest))
    last [] = inl refl
    last (x ∷ xs) = inr (last xs)

pub record Gathered (log : List Entry) (lists : List (List Entry)) : Type 0 where
  pub entries : List Entry
  pub are : map bare entries ≡ map bare log
  pub merges : Merges lists entries

-- the list of the first entry, without it
record TakenFirst (b : Entry) (lists : List (List Entry)) : Type 0 where
  front : List (List Entry)
  entry : Entry
  rest : List Entry
  behind : List (List Entry)
  parts : lists ≡ front ++ ((entry ∷ rest) ∷ behind)
  same : bare entry ≡ bare b

abbrev Weigh : List (List Entry) → List Entry → Type 0
Weigh lists log = (h : Entry → ℕ) → total (by_claim h) (joined lists) ≡ total (by_claim h) log

abbrev AreLong : List (List Entry) → Type 0
AreLong lists = (e : Entry) → Among e (joined lists) → 0 < length_of e

take_first : (term p q : ℕ) (b : Entry) (bs : List Entry) (lists : List (List Entry)) → Tiles term p q (b ∷ bs) → AllByRecursion AreInOrder lists → AreLong lists → Weigh lists (b ∷ bs) → TakenFirst b lists
take_first term p q b bs lists t order long weigh =
    let some : 0 < total (is_claim b) (joined lists) = positive_sum (total (is_claim b) (joined lists)) (is_claim b b) (total (is_claim b) bs) (weigh (is_claim b)) (one_claim b) in
    let f = find_among (is_claim b) lists some in
    let i = f.found in
    let same : bare i.entry ≡ bare b = counted_claim b i.entry i.some in
    let begins : (d : Entry) → Among d (joined lists) → p ≤ d.start = λ d a. within p d.start (total (below p) (joined lists)) (counted (below p) (joined lists) d a) (weigh (below p) ∙ none_below term p p q (b ∷ bs) t (omega arith)) in
    let there : (d : Entry) → Among d f.list → Among d (joined lists) = λ d a. subst (λ (ls : List (List Entry)). Among d (joined ls)) (sym f.parts) (among_list d f.list f.front f.behind a) in
    let its : AreInOrder f.list = (all_behind AreInOrder f.front (f.list ∷ f.behind) (subst (AllByRecursion AreInOrder) f.parts order)).0 in
    let nothing : i.before ≡ [] = first_there p i.before i.entry i.rest (subst AreInOrder i.parts its) (λ d a. let inside = there d (subst (λ (xs : List Entry). Among d xs) (sym i.parts) a) in (begins d inside, long d inside)) (ap (λ (e : Entry). e.start) same ∙ t.0) in
    let list : f.list ≡ i.entry ∷ i.rest = i.parts ∙ ap (λ (xs : List Entry). xs ++ (i.entry ∷ i.rest)) nothing in
    record { front = f.front; entry = i.entry; rest = i.rest; behind = f.behind; parts = f.parts ∙ ap (λ (xs : List Entry). f.front ++ (xs ∷ f.behind)) list; same = same }
  where
    positive_sum : (n a c : ℕ) → n ≡ a + c → a ≡ 1 → 0 < n
    positive_sum n a c sum one = omega (arith, sum, one)

    within : (p s n : ℕ) → p - s ≤ n → n ≡ 0 → p ≤ s
    within p s n le none = omega (arith, le, none)

pub gather : (term p q : ℕ) (log : List Entry) (lists : List (List Entry)) → Tiles term p q log → AllByRecursion AreInOrder lists → AreLong lists → Weigh lists log → Gathered log lists
gather term p q [] lists t order long weigh = record { entries = []; are = refl; merges = none_left lists (weigh (λ e. 1)) }
gather term p q (b ∷ bs) lists t order long weigh =
    let f = take_first term p q b bs lists t order long weigh in
    let left : List (List Entry) = f.front ++ (f.rest ∷ f.behind) in
    let there : Weigh (f.front ++ ((f.entry ∷ f.rest) ∷ f.behind)) (b ∷ bs) = subst (λ (ls : List (List Entry)). Weigh ls (b ∷ bs)) f.parts weigh in
    let g = gather term (entry_end b) q bs left t.2
    (all_rest AreInOrder f.front (f.entry ∷ f.rest) f.rest f.behind (λ o. o.1) (subst (AllByRecursion AreInOrder) f.parts order))
    (λ e a. long e (subst (λ (ls : List (List Entry)). Among e (joined ls)) (sym f.parts) (among_wide e f.entry f.front f.rest f.behind a)))
    (λ h. cancel (by_claim h f.entry) (by_claim h b) (total (by_claim h) (joined left)) (total (by_claim h) bs) (ap h f.same) (sym (total_middle (by_claim h) f.front f.entry f.rest f.behind) ∙ there h)) in
    record {
      entries = f.entry ∷ g.entries;
      are = (λ j. f.same j ∷ g.are j);
      merges = (f.front, f.rest, f.behind, f.parts, g.merges);
    }
  where
    cancel : (a b m n : ℕ) → a ≡ b → a + m ≡ b + n → m ≡ n
    cancel a b m n e f = omega (arith, e, f)
