-- Slots that follow one another are taken, and given back.
use Rattle.std.proofs.Common.{◌≡◌, ℕ, zero, suc, ◌+◌, ◌<◌, ◌≤◌, ◌⊎◌, inl, inr, ⊎_elim, List, [], ◌∷◌, drop, set, length, sym, refl, ap, ◌∙◌, subst, arith}
use mathlib.Core.Option.{Option, some, none}
use mathlib.Core.Logic.{dite}
use native.Mathlib.Decide.{ℕ_discrete}
use lib.ListN.{get_elem?}
use Rattle.atomic_table.specs.Table.{Act, Valid, chain, carried_after, gives, homes_after, keeps, takes}
use Rattle.atomic_table.proofs.Lists.{set_else, set_here}
use Rattle.region.specs.declared.access.Access.{Access}
use Rattle.log_memory.specs.Steps.{Carries}

pub set_long : {A : Type 0} (l : List A) (i : ℕ) (a : A) → length (set l i a) ≡ length l
set_long [] i a = refl
set_long (x ∷ xs) zero a = refl
set_long (x ∷ xs) (suc i) a = ap suc (set_long xs i a)

-- each of so many slots is at home, with such a value
abbrev pub Full : List (Option Access) → (ℕ → Access → Type 0) → ℕ → ℕ → Type 0
Full hs is k count = (i : ℕ) → k ≤ i → i < k + count → (g : Access) × (get_elem? hs i ≡ some (some g)) × is i g

-- not one of so many
abbrev pub Outside : ℕ → ℕ → ℕ → Type 0
Outside k count i = (i < k) ⊎ (k + count ≤ i)

-- ---- they are taken

pub record TakesRow (hs : List (Option Access)) (is : ℕ → Access → Type 0) (k count : ℕ) (before : List (ℕ × Access)) : Type 0 where
  pub act : Act Access
  pub valid : Valid hs before act
  pub taken : Carries is k count before (carried_after before act)
  pub long : length (homes_after hs before act) ≡ length hs
  pub others : (i : ℕ) → Outside k count i → get_elem? (homes_after hs before act) i ≡ get_elem? hs i

pub takes_row : (hs : List (Option Access)) (is : ℕ → Access → Type 0) (k count : ℕ) (before : List (ℕ × Access)) → Full hs is k count → TakesRow hs is k count before
takes_row hs is k zero before full = record { act = keeps; valid = tt; taken = refl; long = refl; others = λ i apart. refl }
takes_row hs is k (suc count) before full =
    let back = takes_row hs is (suc k) count before (λ i lo hi. full i (omega arith) (omega arith)) in let one = full k (omega arith) (omega arith) in
    let rest = homes_after hs before back.act in record {
      act = chain back.act (takes k one.0);
      valid = (back.valid, back.others k (inl (omega arith)) ∙ one.1);
      taken = (one.0, carried_after before back.act, refl, one.2, back.taken);
      long = set_long rest k none ∙ back.long;
      others = λ i apart. set_else rest k i none (⊎_elim (λ lo e. omega arith) (λ hi e. omega arith) apart) ∙ back.others i (⊎_elim (λ lo. inl (omega arith)) (λ hi. inr (omega arith)) apart);
    }

-- what is carried behind them
pub carried_behind : (is : ℕ → Access → Type 0) (k count : ℕ) (before mine : List (ℕ × Access)) → Carries is k count before mine → drop count mine ≡ before
carried_behind is k zero before mine c = none_dropped mine ∙ c
  where
    none_dropped : (l : List (ℕ × Access)) → drop 0 l ≡ l
    none_dropped [] = refl
    none_dropped (x ∷ xs) = refl
carried_behind is k (suc count) before mine c = ap (drop (suc count)) c.2 ∙ carried_behind is (suc k) count before c.1 c.4

-- ---- they are given back

pub record GivesRow (hs : List (Option Access)) (is : ℕ → Access → Type 0) (k count : ℕ) (mine before : List (ℕ × Access)) : Type 0 where
  pub act : Act Access
  pub valid : Valid hs mine act
  pub rest : carried_after mine act ≡ before
  pub long : length (homes_after hs mine act) ≡ length hs
  pub full : Full (homes_after hs mine act) is k count
  pub others : (i : ℕ) → Outside k count i → get_elem? (homes_after hs mine act) i ≡ get_elem? hs i

pub gives_row : (hs : List (Option Access)) (is : ℕ → Access → Type 0) (k count : ℕ) (mine before : List (ℕ × Access)) → k + count ≤ length hs → Carries is k count before mine → GivesRow hs is k count mine before
gives_row hs is k zero mine before wide c = record { act = keeps; valid = tt; rest = c; long = refl; full = λ i lo hi. absurd (omega arith); others = λ i apart. refl }
gives_row hs is k (suc count) mine before wide c =
    let g = c.0 in let rest = c.1 in let hs' = set hs k (some g) in let same = set_long hs k (some g) in
    let back = gives_row hs' is (suc k) count rest before (omega arith) c.4 in
    let made : GivesRow hs is k (suc count) ((k, g) ∷ rest) before = record {
      act = chain gives back.act;
      valid = (tt, back.valid);
      rest = back.rest;
      long = back.long ∙ same;
      full = λ i lo hi. dite (ℕ_discrete i k)
          (λ e. subst (λ (x : ℕ). (a : Access) × (get_elem? (homes_after hs' rest back.act) x ≡ some (some a)) × is x a) (sym e) (g, back.others k (inl (omega arith)) ∙ set_here hs k (some g) (omega arith), c.3))
          (λ ne. back.full i (omega arith) (omega arith));
      others = λ i apart. back.others i (⊎_elim (λ lo. inl (omega arith)) (λ hi. inr (omega arith)) apart) ∙ set_else hs k i (some g) (⊎_elim (λ lo e. omega arith) (λ hi e. omega arith) apart);
    } in subst (λ (l : List (ℕ × Access)). GivesRow hs is k (suc count) l before) (sym c.2) made
