-- The parts of a frame that slots have are put together.
use Rattle.std.proofs.Common.{◌≡◌, ℕ, ◌+◌, ◌*◌, ◌^◌, ◌<◌, List, [], ◌∷◌, ◌++◌, sym, ap, ◌∙◌, subst, arith}
use Rattle.atomic_table.specs.Table.{rest}
use Rattle.region.specs.declared.access.Access.{Access}
use Rattle.region.specs.declared.access.ReadAccess.{ReadAccess}
use Rattle.log_memory.specs.declared.view.Site.{Site}
use Rattle.log_memory.specs.Rights.{IsAnything, IsHalfway, IsWholeOf}
use Rattle.log_memory.specs.Rule.{IsPart}
use Rattle.log_memory.specs.Steps.{IsPartAt}
use Rattle.log_memory.proofs.Rounds.{front, turn_with}

-- what the first of these has
first_or : Access → List (ℕ × Access) → Access
first_or g [] = g
first_or g (x ∷ xs) = x.1

-- the next slot is taken from a row of which so many were
module _ (t : Site) (k count : ℕ) (ws : List ℕ) (life book d : ℕ) (mine : List (ℕ × Access)) (h : IsHalfway (IsPartAt t k ws life book) IsAnything k count d [] mine) (lt : d < count) where
  pub here : (g : Access) × (mine ≡ (k + d, g) ∷ rest mine)
  here = let f = front (IsPartAt t k ws life book) IsAnything k count d [] mine h lt in (f.0, f.1)

  module _ (g : Access) (had : mine ≡ (k + d, g) ∷ rest mine) where
    pub part : d < 8 → IsPart t k ws life book g
    unfolding first_or
    part low = let f = front (IsPartAt t k ws life book) IsAnything k count d [] mine h lt in subst (IsPart t k ws life book) (ap (first_or g) (sym f.1 ∙ had)) (f.2 (omega arith))

  pub row : (mine' : List (ℕ × Access)) → (g : Access) × (mine' ≡ rest mine ++ (k + d, g) ∷ []) → IsHalfway (IsPartAt t k ws life book) IsAnything k count (d + 1) [] mine'
  row mine' e = subst (IsHalfway (IsPartAt t k ws life book) IsAnything k count (d + 1) []) (sym e.1) (turn_with (IsPartAt t k ws life book) IsAnything k count d [] mine h lt e.0 tt)

-- one part alone
pub one_part : (t : Site) (k : ℕ) (ws : List ℕ) (life book : ℕ) (g : Access) → IsPart t k ws life book g → IsWholeOf t k ws (2 ^ 60) life book g.read
one_part t k ws life book g p = record { identity = p.identity; at = p.at; count = p.count; round = p.round; items = p.items }

-- another one to so many
pub one_more : (t : Site) (k : ℕ) (ws : List ℕ) (life book d : ℕ) (r q : ReadAccess) (g : Access) → IsWholeOf t k ws (d * 2 ^ 60) life book r → IsPart t k ws life book g → q ≡ record r { count = r.count + g.read.count } → IsWholeOf t k ws ((d + 1) * 2 ^ 60) life book q
one_more t k ws life book d r q g w p e = record {
  identity = ap (λ (x : ReadAccess). x.identity) e ∙ w.identity;
  at = ap (λ (x : ReadAccess). x.at) e ∙ w.at;
  count = ap (λ (x : ReadAccess). x.count) e ∙ (let a = w.count in let b = p.count in omega arith);
  round = ap (λ (x : ReadAccess). x.round) e ∙ w.round;
  items = ap (λ (x : ReadAccess). x.items) e ∙ w.items;
}
