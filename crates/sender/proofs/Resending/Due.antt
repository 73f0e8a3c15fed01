-- The actions as a contract sees them.
use Rattle.std.proofs.Common.{◌≡◌, ℕ, suc, ◌+◌, ◌<◌, Bool, true, false, List, [], ◌∷◌, ◌++◌, map, length, take, drop, get_or, set, refl, sym, ap, ◌∙◌, ⊎_elim, Some, filter, arith}
use Rattle.std.proofs.Common.{drop-cons, add-one}
use Rattle.std.proofs.lemmas.List.{take_more_set, map_more, map-append, drop-set-lt}
use Rattle.std.specs.List.{list_any}
use Rattle.std.proofs.lemmas.Bool.{cases_Bool}
use Rattle.theory.specs.Resend as meant
use Rattle.theory.specs.Resend.{first_due, or_due}

pub any_map : {X Y : Type 0} (p : Y → Bool) (f : X → Y) (xs : List X) → list_any p (map f xs) ≡ list_any (λ x. p (f x)) xs
any_map p f [] = refl
any_map p f (x ∷ xs) = rw (any_map p f xs) refl

pub filter_map_of : {X Y : Type 0} (p : Y → Bool) (f : X → Y) (xs : List X) → filter p (map f xs) ≡ map f (filter (λ x. p (f x)) xs)
filter_map_of p f [] = refl
filter_map_of p f (x ∷ xs) =
    ⊎_elim
    (λ (t : p (f x) ≡ true). rw (t, filter_map_of p f xs) refl)
    (λ (e : p (f x) ≡ false). rw (e, filter_map_of p f xs) refl)
    (cases_Bool (p (f x)))

-- the action taken last is due only where no other is
pub due_of_first : (xs : List meant.Action) (a : meant.Action) → a.lingers ≡ false → first_due (xs ++ a ∷ []) ≡ Some a
due_of_first [] a e = rw e refl
due_of_first (x ∷ xs) a e = ap (λ o. or_due o x) (due_of_first xs a e)

pub due_of_others : (xs : List meant.Action) (a : meant.Action) → a.lingers ≡ true → first_due (xs ++ a ∷ []) ≡ first_due xs
due_of_others [] a e = rw e refl
due_of_others (x ∷ xs) a e = ap (λ o. or_due o x) (due_of_others xs a e)

-- ---- a step of a loop that writes each element by a rule

same_head : {X : Type 0} (xs ys : List X) (i : ℕ) (d : X) → i < length xs → i < length ys → drop i xs ≡ drop i ys → get_or xs i d ≡ get_or ys i d
same_head xs ys i d lx ly e =
    let x = drop-cons xs i d lx in
    let y = drop-cons ys i d ly in
    cc

same_rest : {X : Type 0} (xs ys : List X) (i : ℕ) (d : X) → i < length xs → i < length ys → drop i xs ≡ drop i ys → drop (suc i) xs ≡ drop (suc i) ys
same_rest xs ys i d lx ly e =
    let x = drop-cons xs i d lx in
    let y = drop-cons ys i d ly in
    cc

pub written_rest : {X : Type 0} (xs ys : List X) (i : ℕ) (x d : X) → i < length xs → i < length ys → drop i xs ≡ drop i ys → drop (i + 1) (set xs i x) ≡ drop (i + 1) ys
written_rest xs ys i x d lx ly e = drop-set-lt (i + 1) xs i x (omega arith) ∙ rw (add-one i) (same_rest xs ys i d lx ly e)

pub written : {X Y : Type 0} (f : X → Y) (g : Y → Y) (xs ys : List X) (i : ℕ) (x d : X) → i < length xs → i < length ys → map f (take i xs) ≡ map g (map f (take i ys)) → drop i xs ≡ drop i ys → f x ≡ g (f (get_or xs i d)) → map f (take (i + 1) (set xs i x)) ≡ map g (map f (take (i + 1) ys))
written f g xs ys i x d lx ly done rest is =
    let same = same_head xs ys i d lx ly rest in
    let here : f x ≡ g (f (get_or ys i d)) = cc in
    let both : map f (take i xs) ++ f x ∷ [] ≡ map g (map f (take i ys)) ++ g (f (get_or ys i d)) ∷ [] = cc in
    ap (map f) (take_more_set xs i x lx) ∙ map-append f (take i xs) (x ∷ []) ∙ both
    ∙ sym (ap (map g) (map_more f ys i d ly) ∙ map-append g (map f (take i ys)) (f (get_or ys i d) ∷ []))
