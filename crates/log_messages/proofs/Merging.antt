-- Lists that are merged.
use Rattle.std.proofs.Common.{◌≡◌, ◌⊎◌, inl, inr, List, [], ◌∷◌, ◌++◌, map, Bool, true, false, refl, sym, ap, ◌∙◌, subst, ⊎_elim}
use Rattle.std.specs.List.{AllByRecursion, filter}
use Rattle.std.proofs.lemmas.Bool.{cases_Bool, cond-false, cond-true}
use Rattle.std.proofs.lemmas.List.{map-append}
use Rattle.theory.specs.Placed.{Among}
use Rattle.theory.proofs.Lists.{among_cases, among_left, among_right}
use Rattle.log_messages.specs.Closed.{Merges, joined}

-- ---- one of the lists has one element more at its front

pub among_wide : {X : Type 0} (x y : X) (front : List (List X)) (rest : List X) (behind : List (List X)) → Among x (joined (front ++ (rest ∷ behind))) → Among x (joined (front ++ ((y ∷ rest) ∷ behind)))
among_wide x y [] rest behind a = inr a
among_wide x y (f ∷ front) rest behind a =
    ⊎_elim
    (λ (h : Among x f). among_left x f (joined (front ++ ((y ∷ rest) ∷ behind))) h)
    (λ (h : Among x (joined (front ++ (rest ∷ behind)))). among_right x f (joined (front ++ ((y ∷ rest) ∷ behind))) (among_wide x y front rest behind h))
    (among_cases x f (joined (front ++ (rest ∷ behind))) a)

-- an element of one of the lists
pub among_list : {X : Type 0} (x : X) (xs : List X) (front : List (List X)) (behind : List (List X)) → Among x xs → Among x (joined (front ++ (xs ∷ behind)))
among_list x xs [] behind a = among_left x xs (joined behind) a
among_list x xs (f ∷ front) behind a = among_right x f (joined (front ++ (xs ∷ behind))) (among_list x xs front behind a)

among_parts : {X : Type 0} (x y : X) (front : List (List X)) (rest : List X) (behind : List (List X)) → Among x (joined (front ++ ((y ∷ rest) ∷ behind))) → (x ≡ y) ⊎ Among x (joined (front ++ (rest ∷ behind)))
among_parts x y [] rest behind a = a
among_parts x y (f ∷ front) rest behind a = parts (λ h. among_parts x y front rest behind h) (among_cases x f (joined (front ++ ((y ∷ rest) ∷ behind))) a)
  where
    later : (x ≡ y) ⊎ Among x (joined (front ++ (rest ∷ behind))) → (x ≡ y) ⊎ Among x (f ++ joined (front ++ (rest ∷ behind)))
    later (inl e) = inl e
    later (inr h) = inr (among_right x f (joined (front ++ (rest ∷ behind))) h)

    parts : (Among x (joined (front ++ ((y ∷ rest) ∷ behind))) → (x ≡ y) ⊎ Among x (joined (front ++ (rest ∷ behind)))) → Among x f ⊎ Among x (joined (front ++ ((y ∷ rest) ∷ behind))) → (x ≡ y) ⊎ Among x (f ++ joined (front ++ (rest ∷ behind)))
    parts more (inl h) = inr (among_left x f (joined (front ++ (rest ∷ behind))) h)
    parts more (inr h) = later (more h)

-- ---- the elements are those of the lists

no_elements : {X : Type 0} (x : X) (lists : List (List X)) → AllByRecursion (λ xs. xs ≡ []) lists → Among x (joined lists) → ⊥
no_elements x [] none a = a
no_elements x (xs ∷ lists) none a = ⊎_elim (λ (h : Among x xs). subst (Among x) none.0 h) (λ (h : Among x (joined lists)). no_elements x lists none.1 h) (among_cases x xs (joined lists) a)

pub merged_of : {X : Type 0} (x : X) (lists : List (List X)) (es : List X) → Merges lists es → Among x es → Among x (joined lists)
merged_of x lists [] m a = absurd a
merged_of x lists (y ∷ ys) m (inl e) = subst (λ (ls : List (List _)). Among x (joined ls)) (sym m.3) (subst (λ z. Among z (joined (m.0 ++ ((y ∷ m.1) ∷ m.2)))) (sym e) (among_list y (y ∷ m.1) m.0 m.2 (inl refl)))
merged_of x lists (y ∷ ys) m (inr a) = subst (λ (ls : List (List _)). Among x (joined ls)) (sym m.3) (among_wide x y m.0 m.1 m.2 (merged_of x (m.0 ++ (m.1 ∷ m.2)) ys m.4 a))

pub merged_to : {X : Type 0} (x : X) (lists : List (List X)) (es : List X) → Merges lists es → Among x (joined lists) → Among x es
merged_to x lists [] m a = absurd (no_elements x lists m a)
merged_to x lists (y ∷ ys) m a =
    ⊎_elim
    (λ (e : x ≡ y). inl e)
    (λ (h : Among x (joined (m.0 ++ (m.1 ∷ m.2)))). inr (merged_to x (m.0 ++ (m.1 ∷ m.2)) ys m.4 h))
    (among_parts x y m.0 m.1 m.2 (subst (λ (ls : List (List _)). Among x (joined ls)) m.3 a))

-- ---- some of the elements, each made to another

abbrev picked : {X Y : Type 0} → (X → Bool) → (X → Y) → List X → List Y
picked t g xs = map g (filter t xs)

picked_none : {X Y : Type 0} (t : X → Bool) (g : X → Y) (lists : List (List X)) → AllByRecursion (λ xs. xs ≡ []) lists → AllByRecursion (λ ys. ys ≡ []) (map (picked t g) lists)
picked_none t g [] none = tt
picked_none t g (xs ∷ lists) none = (ap (picked t g) none.0, picked_none t g lists none.1)

pub merged_picked : {X Y : Type 0} (t : X → Bool) (g : X → Y) (lists : List (List X)) (es : List X) → Merges lists es → Merges (map (picked t g) lists) (picked t g es)
merged_picked t g lists [] m = picked_none t g lists m
merged_picked {X} {Y} t g lists (y ∷ ys) m = go (subst (λ (ls : List (List Y)). Merges ls (picked t g ys)) (map-append (picked t g) m.0 (m.1 ∷ m.2)) (merged_picked t g (m.0 ++ (m.1 ∷ m.2)) ys m.4)) (cases_Bool (t y))
  where
    parts : map (picked t g) lists ≡ map (picked t g) m.0 ++ (picked t g (y ∷ m.1) ∷ map (picked t g) m.2)
    parts = ap (map (picked t g)) m.3 ∙ map-append (picked t g) m.0 ((y ∷ m.1) ∷ m.2)

    taken : (xs : List X) → t y ≡ true → picked t g (y ∷ xs) ≡ g y ∷ picked t g xs
    taken xs e = ap (map g) (cond-true (t y) (y ∷ filter t xs) (filter t xs) e)

    skipped : (xs : List X) → t y ≡ false → picked t g (y ∷ xs) ≡ picked t g xs
    skipped xs e = ap (map g) (cond-false (t y) (y ∷ filter t xs) (filter t xs) e)

    go : Merges (map (picked t g) m.0 ++ (picked t g m.1 ∷ map (picked t g) m.2)) (picked t g ys) → (t y ≡ true) ⊎ (t y ≡ false) → Merges (map (picked t g) lists) (picked t g (y ∷ ys))
    go later (inl e) =
        subst (λ (zs : List Y). Merges (map (picked t g) lists) zs) (sym (taken ys e))
        (map (picked t g) m.0, picked t g m.1, map (picked t g) m.2, parts ∙ ap (λ (zs : List Y). map (picked t g) m.0 ++ (zs ∷ map (picked t g) m.2)) (taken m.1 e), later)
    go later (inr e) =
        subst (λ (zs : List Y). Merges (map (picked t g) lists) zs) (sym (skipped ys e))
        (subst (λ (ls : List (List Y)). Merges ls (picked t g ys)) (sym (parts ∙ ap (λ (zs : List Y). map (picked t g) m.0 ++ (zs ∷ map (picked t g) m.2)) (skipped m.1 e))) later)
