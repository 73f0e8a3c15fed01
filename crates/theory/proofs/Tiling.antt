-- The entries go on tiling the stream, and the shares go on adding up.
use Rattle.std.proofs.Common.{◌≡◌, ℕ, zero, suc, ◌+◌, ◌<◌, ⊎_elim, List, [], ◌∷◌, ◌++◌, map, true, false, cond, refl, sym, ◌∙◌, subst, arith}
use Rattle.std.specs.List.{AllByRecursion, sum_by, filter}
use Rattle.std.specs.Prelude.{◌==◌}
use Rattle.std.proofs.lemmas.List.Sums.{sum_by-cons}
use Rattle.std.proofs.lemmas.Bool.{cases_Bool}
use Rattle.theory.specs.Entry.{Entry, IsEntry, length_of, entry_end}
use Rattle.theory.specs.Tiling.{Tiles, InOneTerm, share_of, all_shares}

-- a change that leaves each entry its place leaves the tiling
pub Tiles-map : (g : Entry → Entry) → ((e : Entry) → entry_end (g e) ≡ entry_end e) → ((e : Entry) → (g e).start ≡ e.start) → (term p tail : ℕ) (es : List Entry) → Tiles term p tail es → Tiles term p tail (map g es)
Tiles-map g ends starts term p tail [] h = h
Tiles-map g ends starts term p tail (e ∷ es) h = (
  starts e ∙ h.0,
  subst (λ x. InOneTerm term p x) (sym (ends e)) h.1,
  subst (λ x. Tiles term x tail (map g es)) (sym (ends e)) (Tiles-map g ends starts term (entry_end e) tail es h.2),
)

pub Tiles-push : (term p tail : ℕ) (es : List Entry) (e : Entry) → Tiles term p tail es → e.start ≡ tail → InOneTerm term tail (entry_end e) → Tiles term p (entry_end e) (es ++ e ∷ [])
Tiles-push term p tail [] e h s k = (s ∙ h, subst (λ x. InOneTerm term x (entry_end e)) h k, refl)
Tiles-push term p tail (d ∷ es) e h s k = (h.0, h.1, Tiles-push term (entry_end d) tail es e h.2 s k)

-- two parts
pub tiles_append : (term p q r : ℕ) (es fs : List Entry) → Tiles term p q es → Tiles term q r fs → Tiles term p r (es ++ fs)
tiles_append term p q r [] fs h k = subst (λ x. Tiles term x r fs) h k
tiles_append term p q r (e ∷ es) fs h k = (h.0, h.1, tiles_append term (entry_end e) q r es fs h.2 k)

pub tiles_split : (term p q r : ℕ) (es fs : List Entry) → Tiles term p r (es ++ fs) → Tiles term p q es → Tiles term q r fs
tiles_split term p q r [] fs h k = subst (λ x. Tiles term x r fs) (sym k) h
tiles_split term p q r (e ∷ es) fs h k = tiles_split term (entry_end e) q r es fs h.2 k.2

pub tail_is : (term p tail : ℕ) (es : List Entry) → Tiles term p tail es → p + sum_by length_of es ≡ tail
tail_is term p tail [] h = omega (arith, h)
tail_is term p tail (e ∷ es) h = omega (arith, sum_by-cons length_of e es, tail_is term (entry_end e) tail es h.2, h.0)

-- one of eight numbers
one_of_eight : (o n : ℕ) → o < 8 → cond (o == 0) n 0 + cond (o == 1) n 0 + cond (o == 2) n 0 + cond (o == 3) n 0 + cond (o == 4) n 0 + cond (o == 5) n 0 + cond (o == 6) n 0 + cond (o == 7) n 0 ≡ n
one_of_eight zero n h = omega arith
one_of_eight (suc zero) n h = omega arith
one_of_eight (suc (suc zero)) n h = omega arith
one_of_eight (suc (suc (suc zero))) n h = omega arith
one_of_eight (suc (suc (suc (suc zero)))) n h = omega arith
one_of_eight (suc (suc (suc (suc (suc zero))))) n h = omega arith
one_of_eight (suc (suc (suc (suc (suc (suc zero)))))) n h = omega arith
one_of_eight (suc (suc (suc (suc (suc (suc (suc zero))))))) n h = omega arith
one_of_eight (suc (suc (suc (suc (suc (suc (suc (suc o)))))))) n h = absurd (omega arith)

pub share-cons : (o : ℕ) (e : Entry) (es : List Entry) → share_of o (e ∷ es) ≡ cond (e.owner == o) (length_of e) 0 + share_of o es
share-cons o e es =
    ⊎_elim
    (λ (t : (e.owner == o) ≡ true). rw (t, sum_by-cons length_of e (filter (λ x. x.owner == o) es)) refl)
    (λ (f : (e.owner == o) ≡ false). rw f (omega arith))
    (cases_Bool (e.owner == o))

pub all_shares_are : (es : List Entry) → AllByRecursion IsEntry es → all_shares es ≡ sum_by length_of es
all_shares_are [] h = refl
all_shares_are (e ∷ es) h =
    omega (arith, one_of_eight e.owner (length_of e) h.0.owner, sum_by-cons length_of e es, all_shares_are es h.1, share-cons 0 e es, share-cons 1 e es, share-cons 2 e es, share-cons 3 e es, share-cons 4 e es, share-cons 5 e es, share-cons 6 e es, share-cons 7 e es)
