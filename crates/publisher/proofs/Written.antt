-- A step of a loop that writes each element by a rule.
use Rattle.std.proofs.Common.{◌≡◌, ◌∙◌, append-nil, ℕ, suc, ◌+◌, ◌<◌, List, [], ◌∷◌, ◌++◌, map, length, take, drop, drop-cons, get_or, set, add-one, ap, sym, arith}
use Rattle.std.proofs.Math.Seq.{drop-length, take-length}
use Rattle.std.proofs.lemmas.List.{drop-set-lt, length-map, map-append, map_more, take_more_set}
use Rattle.agents.specs.Cycles.{DutyState}
use Rattle.endpoint.specs.Fans.{Fanned, with_ways}

pub same_head : {X : Type 0} (xs ys : List X) (i : ℕ) (d : X) → i < length xs → i < length ys → drop i xs ≡ drop i ys → get_or xs i d ≡ get_or ys i d
same_head xs ys i d lx ly e =
    let x = drop-cons xs i d lx in
    let y = drop-cons ys i d ly in
    cc

same_rest : {X : Type 0} (xs ys : List X) (i : ℕ) (d : X) → i < length xs → i < length ys → drop i xs ≡ drop i ys → drop (suc i) xs ≡ drop (suc i) ys
same_rest xs ys i d lx ly e =
    let x = drop-cons xs i d lx in
    let y = drop-cons ys i d ly in
    cc

pub written_rest : {X : Type 0} (xs ys : List X) (i : ℕ) (x d : X) → i < length xs → i < length ys → drop i xs ≡ drop i ys → drop (i + 1) (set xs i x) ≡ drop (i + 1) ys
written_rest xs ys i x d lx ly e = drop-set-lt (i + 1) xs i x (omega arith) ∙ rw (add-one i) (same_rest xs ys i d lx ly e)

pub written : {X : Type 0} (f : X → X) (xs ys : List X) (i : ℕ) (x d : X) → i < length xs → i < length ys → take i xs ≡ map f (take i ys) → drop i xs ≡ drop i ys → x ≡ f (get_or xs i d) → take (i + 1) (set xs i x) ≡ map f (take (i + 1) ys)
written f xs ys i x d lx ly done rest is =
    let same = same_head xs ys i d lx ly rest in
    let here : x ≡ f (get_or ys i d) = cc in
    let both : take i xs ++ x ∷ [] ≡ map f (take i ys) ++ f (get_or ys i d) ∷ [] = cc in
    take_more_set xs i x lx ∙ both ∙ sym (map_more f ys i d ly)

-- what a rule shows of each
pub shown : {X Y : Type 0} (f g : X → Y) (xs ys : List X) (i : ℕ) (x d : X) → i < length xs → i < length ys → map f (take i xs) ≡ map g (take i ys) → drop i xs ≡ drop i ys → f x ≡ g (get_or xs i d)
    → map f (take (i + 1) (set xs i x)) ≡ map g (take (i + 1) ys)
shown f g xs ys i x d lx ly done rest is =
    let same = same_head xs ys i d lx ly rest in
    let here : f x ≡ g (get_or ys i d) = is ∙ ap g same in
    let both : map f (take i xs) ++ f x ∷ [] ≡ map g (take i ys) ++ g (get_or ys i d) ∷ [] = cc in
    ap (map f) (take_more_set xs i x lx) ∙ map-append f (take i xs) (x ∷ []) ∙ both ∙ sym (map_more g ys i d ly)

-- ---- of what a sender sends with

pub all_ways : {D : Type 0} (f : Fanned D) (ws : List D) → length ws ≡ length f.ways → with_ways f ws ≡ record f { ways = ws }
all_ways {D} f ws same =
    ap (λ (xs : List D). record f { ways = xs })
    (ap (λ (ys : List D). take (length f.ways) (ws ++ ys)) (ap (λ n. drop n f.ways) same ∙ drop-length f.ways)
    ∙ ap (λ (ys : List D). take (length f.ways) ys) (append-nil ws)
    ∙ ap (λ n. take n ws) (sym same)
    ∙ take-length ws)

abbrev over : {D : Type 0} → ℕ → Fanned D → DutyState (Fanned D)
over mtu f = record { device = f; mtu = mtu }

-- each of its ways was written by a rule
pub written_over : {D : Type 0} (f g : Fanned D) (rule : D → D) (new : List D) (mtu : ℕ) → f ≡ g → new ≡ map rule g.ways → over mtu (with_ways f new) ≡ over mtu (record g { ways = map rule g.ways })
written_over {D} f g rule new mtu is there =
    ap (over mtu) (ap (λ (x : Fanned D). with_ways x new) is ∙ ap (with_ways g) there ∙ all_ways g (map rule g.ways) (length-map g.ways rule))
