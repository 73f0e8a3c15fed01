-- Slots that a seat carries go round.
use Rattle.std.proofs.Common.{◌≡◌, ℕ, zero, suc, ◌+◌, ◌-◌, ◌*◌, ◌<◌, ◌≤◌, List, [], ◌∷◌, ◌++◌, drop, length, replicate, take, sym, refl, ap, ◌∙◌, subst, arith}
use Rattle.std.proofs.lemmas.List.{append-nil, append_assoc, drop-replicate, take-replicate}
use Rattle.atomic_table.specs.Table.{rest, turned}
use Rattle.region.specs.declared.access.Access.{Access}
use Rattle.region.specs.declared.access.WriteAccess.{WriteAccess}
use Rattle.log_memory.specs.declared.view.Site.{Site}
use Rattle.log_memory.specs.Rights.{IsHalfway, IsRun}
use Rattle.log_memory.specs.Order.{rotated}
use Rattle.log_memory.specs.Steps.{Carries}

-- what is behind a row may be more
pub carries_more : (is : ℕ → Access → Type 0) (k count : ℕ) (before mine more : List (ℕ × Access)) → Carries is k count before mine → Carries is k count (before ++ more) (mine ++ more)
carries_more is k zero before mine more c = ap (λ (l : List (ℕ × Access)). l ++ more) c
carries_more is k (suc count) before mine more c = (c.0, c.1 ++ more, ap (λ (l : List (ℕ × Access)). l ++ more) c.2, c.3, carries_more is (suc k) count before c.1 more c.4)

-- a row may be longer by one
carries_last : (is : ℕ → Access → Type 0) (k count : ℕ) (mine : List (ℕ × Access)) (g : Access) → Carries is k count [] mine → is (k + count) g → Carries is k (suc count) [] (mine ++ (k + count, g) ∷ [])
carries_last is k zero mine g c so = let e : k + 0 ≡ k = omega arith in (g, [], ap (λ (l : List (ℕ × Access)). l ++ (k + 0, g) ∷ []) c ∙ ap (λ (n : ℕ). (n, g) ∷ []) e, subst (λ (n : ℕ). is n g) e so, refl)
carries_last is k (suc count) mine g c so = let e : k + suc count ≡ suc k + count = omega arith in (
  c.0,
  c.1 ++ (k + suc count, g) ∷ [],
  ap (λ (l : List (ℕ × Access)). l ++ (k + suc count, g) ∷ []) c.2,
  c.3,
  subst (λ (n : ℕ). Carries is (suc k) (suc count) [] (c.1 ++ (n, g) ∷ [])) (sym e) (carries_last is (suc k) count c.1 g c.4 (subst (λ (n : ℕ). is n g) e so)),
)

-- the first of those that are left, with whatever it has by then, goes behind the others
module _ (now later : ℕ → Access → Type 0) (k count i : ℕ) (before mine : List (ℕ × Access)) (h : IsHalfway now later k count i before mine) (lt : i < count) where
  left_row : Carries now (k + i) (suc (count - suc i)) (before ++ h.behind) mine
  left_row = subst (λ (m : ℕ). Carries now (k + i) m (before ++ h.behind) mine) (let e : count - i ≡ suc (count - suc i) = omega arith in e) h.left

  pub front : (g : Access) × (mine ≡ (k + i, g) ∷ rest mine) × now (k + i) g
  front = (left_row.0, left_row.2 ∙ ap (λ (l : List (ℕ × Access)). (k + i, left_row.0) ∷ l) (sym (ap rest left_row.2)), left_row.3)

  pub turn_with : (g : Access) → later (k + i) g → IsHalfway now later k count (i + 1) before (rest mine ++ (k + i, g) ∷ [])
  turn_with g so = subst (λ (x : ℕ × List (ℕ × Access)). IsHalfway now later k count x.0 before (x.1 ++ (k + i, g) ∷ [])) (λ j. ((let e : suc i ≡ i + 1 = omega arith in e) j, sym (ap rest left_row.2) j)) record {
    low = omega arith;
    behind = h.behind ++ (k + i, g) ∷ [];
    done = carries_last later k i h.behind g h.done so;
    left = subst (λ (x : ℕ × List (ℕ × Access)). Carries now x.0 (count - suc i) x.1 (left_row.1 ++ (k + i, g) ∷ [])) (λ j. ((let z : suc (k + i) ≡ k + suc i = omega arith in z) j, append_assoc before h.behind ((k + i, g) ∷ []) j)) (carries_more now (suc (k + i)) (count - suc i) (before ++ h.behind) left_row.1 ((k + i, g) ∷ []) left_row.4);
  }

  pub turn_left : ((g : Access) → now (k + i) g → later (k + i) g) → IsHalfway now later k count (i + 1) before (turned mine)
  turn_left go = subst (IsHalfway now later k count (i + 1) before) (sym (ap turned left_row.2) ∙ refl) (subst (λ (l : List (ℕ × Access)). IsHalfway now later k count (i + 1) before (l ++ (k + i, left_row.0) ∷ [])) (ap rest left_row.2) (turn_with left_row.0 (go left_row.0 left_row.3)))

-- a whole unit: its first slot with what it has by then
pub next_unit : (now later : ℕ → Access → Type 0) (k count i : ℕ) (before mine : List (ℕ × Access)) (g : Access) → IsHalfway now later k count i before mine → i + 8 ≤ count → later (k + i) g → ((j : ℕ) (a : Access) → k + i < j → j < k + i + 8 → now j a → later j a)
    → IsHalfway now later k count (i + 8) before (turned (turned (turned (turned (turned (turned (turned (turned ((k + i, g) ∷ rest mine)))))))))
next_unit now later k count i before mine g h le so others =
    let h1 = turn_with now later k count i before mine h (omega arith) g so in
    let step : (n : ℕ) (l : List (ℕ × Access)) → 1 ≤ n → n < 8 → IsHalfway now later k count (i + n) before l → IsHalfway now later k count (i + n + 1) before (turned l) = λ n l lo hi x. turn_left now later k count (i + n) before l x (omega arith) (λ a y. others (k + (i + n)) a (omega arith) (omega arith) y) in
    let again : (n : ℕ) (l : List (ℕ × Access)) → 1 ≤ n → n < 8 → IsHalfway now later k count (i + n) before l → IsHalfway now later k count (i + suc n) before (turned l) = λ n l lo hi x. subst (λ (m : ℕ). IsHalfway now later k count m before (turned l)) (let e : i + n + 1 ≡ i + suc n = omega arith in e) (step n l lo hi x) in
    again 7 _ (omega arith) (omega arith) (again 6 _ (omega arith) (omega arith) (again 5 _ (omega arith) (omega arith) (again 4 _ (omega arith) (omega arith) (again 3 _ (omega arith) (omega arith) (again 2 _ (omega arith) (omega arith) (again 1 _ (omega arith) (omega arith) h1))))))

-- none was seen to yet
pub none_yet : (now later : ℕ → Access → Type 0) (k count : ℕ) (before mine : List (ℕ × Access)) → Carries now k count before mine → IsHalfway now later k count 0 before mine
none_yet now later k count before mine row = record { low = omega arith; behind = []; done = refl; left = subst (λ (x : ℕ × ℕ × List (ℕ × Access)). Carries now x.0 x.1 x.2 mine) (λ i. ((let e : k ≡ k + 0 = omega arith in e) i, (let e : count ≡ count - 0 = omega arith in e) i, sym (append-nil before) i)) row }

-- all were
pub all_behind : (now later : ℕ → Access → Type 0) (k count : ℕ) (before mine : List (ℕ × Access)) → IsHalfway now later k count count before mine → (back : List (ℕ × Access)) × (mine ≡ before ++ back) × Carries later k count [] back
all_behind now later k count before mine h = (h.behind, subst (λ (n : ℕ). Carries now (k + count) n (before ++ h.behind) mine) (let e : count - count ≡ 0 = omega arith in e) h.left, h.done)

pub all_done : (now later : ℕ → Access → Type 0) (k count : ℕ) (mine : List (ℕ × Access)) → IsHalfway now later k count count [] mine → Carries later k count [] mine
all_done now later k count mine h = let a = all_behind now later k count [] mine h in subst (Carries later k count []) (sym a.1) a.2

-- and those before them go behind
pub rotated_all : {S : Type 0} (xs ys : List (ℕ × S)) → rotated (length xs) (xs ++ ys) ≡ ys ++ xs
rotated_all [] ys = sym (append-nil ys)
rotated_all (x ∷ xs) ys = ap (rotated (length xs)) (append_assoc xs ys (x ∷ [])) ∙ rotated_all xs (ys ++ x ∷ []) ∙ append_assoc ys (x ∷ []) xs

pub in_front : (now later : ℕ → Access → Type 0) (k count : ℕ) (before mine : List (ℕ × Access)) → IsHalfway now later k count count before mine → Carries later k count before (rotated (length before) mine)
in_front now later k count before mine h =
    let a = all_behind now later k count before mine h in
    subst (Carries later k count before) (sym (ap (rotated (length before)) a.1 ∙ rotated_all before a.0)) (carries_more later k count [] a.0 before a.2)

-- a run is longer by a unit
pub longer_run : (t : Site) (k n : ℕ) (a b : WriteAccess) → IsRun t k (32 * n) a → IsRun t (k + 8 * n) 32 b → IsRun t k (32 * (n + 1)) (record a { items = a.items ++ b.items })
longer_run t k n a b x y = record {
  identity = x.identity;
  at = x.at;
  zeros = (λ i. x.zeros i ++ y.zeros i) ∙ more (32 * n) 32 ∙ ap (λ (m : ℕ). replicate m 0) (let e : 32 * n + 32 ≡ 32 * (n + 1) = omega arith in e);
}
  where
    more : (m p : ℕ) → replicate {A = ℕ} m 0 ++ replicate p 0 ≡ replicate (m + p) 0
    more zero p = ap (λ (q : ℕ). replicate q 0) (let e : p ≡ 0 + p = omega arith in e)
    more (suc m) p = ap (λ (l : List ℕ). 0 ∷ l) (more m p) ∙ ap (λ (q : ℕ). replicate q 0) (let e : suc (m + p) ≡ suc m + p = omega arith in e)

-- a run's first unit, and the others
module _ (t : Site) (k m : ℕ) (w : WriteAccess) (run : IsRun t k (32 * m) w) (some : 0 < m) where
  pub first_unit : IsRun t k 32 (record w { items = take 32 w.items })
  first_unit = record { identity = run.identity; at = run.at; zeros = ap (take 32) run.zeros ∙ take-replicate 32 (32 * m) 0 (omega arith) }

  pub other_units : IsRun t (k + 8) (32 * (m - 1)) (record w { at = w.at + 32; items = drop 32 w.items })
  other_units = record {
    identity = run.identity;
    at = (let a = run.at in omega arith);
    zeros = ap (drop 32) run.zeros ∙ drop-replicate 32 (32 * m) 0 ∙ ap (λ (n : ℕ). replicate n 0) (let e : 32 * m - 32 ≡ 32 * (m - 1) = omega arith in e);
  }

-- those that are left go behind the others, as they are
pub turn_rest : (now later : ℕ → Access → Type 0) (k count i n : ℕ) (before mine : List (ℕ × Access)) → IsHalfway now later k count i before mine → i + n ≤ count → ((j : ℕ) (g : Access) → k + i ≤ j → now j g → later j g) → IsHalfway now later k count (i + n) before (rotated n mine)
turn_rest now later k count i zero before mine h le go = subst (λ (x : ℕ). IsHalfway now later k count x before mine) (let e : i ≡ i + 0 = omega arith in e) h
turn_rest now later k count i (suc n) before mine h le go =
    subst (λ (x : ℕ). IsHalfway now later k count x before (rotated n (turned mine))) (let e : i + 1 + n ≡ i + suc n = omega arith in e)
    (turn_rest now later k count (i + 1) n before (turned mine) (turn_left now later k count i before mine h (omega arith) (λ g a. go (k + i) g (omega arith) a)) (omega arith) (λ j g le' a. go j g (omega arith) a))
