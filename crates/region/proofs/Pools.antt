-- The ghost steps by which free bytes are taken from a pool, and put back. Assumes `Logic`.
use Rattle.std.proofs.Common.{◌≡◌, ℕ, zero, suc, ◌+◌, ◌<◌, ◌≤◌, Bool, true, false, List, [], ◌∷◌, ◌++◌, length, take, drop, drop-drop, refl, sym, ap, ◌∙◌, subst, arith}
use mathlib.Core.Option.{some, some-injective, some-ne-none}
use lib.ListN.{get_elem?}
use seplogic.Ra.Ura.{Ura}
use base.Logic.{ent, sep, never_e, id⊢}
use base.Fml.{GName, Fml, ftrue, fex, fsep}
use types.Logic.{Logic, sem}
use types.Kit.{‵, raw, ◌⊛◌, ◌$◌, ◌∵◌, !, qed, by, move, keep, use0, use1, use2, split, fsplit, fjoin, fpack, fpick, done, rewrite}
use types.Kit.{drop as forget}
use denote.Steps.{nothing}
use Rattle.bytes.specs.Ownership.{closed}
use Rattle.bytes.proofs.Loans.{cut}
use Rattle.region.specs.Identity.{Identity}
use Rattle.region.specs.Owned.{names_from, write_owns}
use Rattle.region.specs.Pooled.{AreAll, all_of, pool_owns, pooled, stands}
use Rattle.region.proofs.Rights.{beside}

-- so many bytes, whatever they hold
abbrev pub some_run : ℕ → ℕ → List GName → ℕ → ℕ → Fml
some_run l b gs len o = fex (List ℕ) (λ xs. fex (length xs ≡ len) (λ _. closed l gs xs b o))

-- these bytes, and what is left of the pool
abbrev pub Out : ℕ → ℕ → List GName → List Bool → ℕ → ℕ → ℕ → ℕ → Fml
Out l b gs fs at len o p = fsep (some_run l b (drop at gs) len p) (pooled l b gs (stands false at len fs) o)

drop_more : (n : ℕ) (gs : List GName) → drop n (drop 1 gs) ≡ drop (suc n) gs
drop_more zero [] = refl
drop_more (suc n) [] = refl
drop_more n (γ ∷ gs) = refl

differ : true ≡ false → ⊥
differ e = subst (λ (b : Bool). kind b) e tt
  where
    kind : Bool → Type 0
    kind true = Unit {0}
    kind false = ⊥

-- the first of a list, and the others
first_is : (v f : Bool) (fs : List Bool) (len : ℕ) → AreAll v 0 (suc len) (f ∷ fs) → f ≡ v
first_is v f fs len all = some-injective f v (all 0 (omega arith) (omega arith))

others_are : (v f : Bool) (fs : List Bool) (at len : ℕ) → AreAll v (suc at) len (f ∷ fs) → AreAll v at len fs
others_are v f fs at len all j lo hi = all (suc j) (omega arith) (omega arith)

rest_are : (v f : Bool) (fs : List Bool) (len : ℕ) → AreAll v 0 (suc len) (f ∷ fs) → AreAll v 0 len fs
rest_are v f fs len all j lo hi = all (suc j) (omega arith) (omega arith)

none_left : (v : Bool) (at len : ℕ) → 0 < len → AreAll v at len [] → ⊥
none_left v at len some' all = some-ne-none v (sym (all at (omega arith) (omega arith)))

module _ {M : Type 1} {𝓤 : Ura M} (𝓛 : Logic 𝓤) (l b : ℕ) where
  -- all bytes of a run are free
  pub all_free : (gs : List GName) (xs : List ℕ) (o : ℕ) → ent 𝓤 (sem 𝓛 (closed l gs xs b o)) (sem 𝓛 (pooled l b gs (all_of (length xs)) o))
  all_free gs [] o = qed 𝓛 (‵ (closed l gs [] b o) ∷ []) ∵ forget ! $ nothing ! $ done !
  all_free [] (x ∷ xs) o = never_e 𝓤 _
  all_free (γ ∷ gs) (x ∷ xs) o =
      qed 𝓛 (‵ (closed l (γ ∷ gs) (x ∷ xs) b o) ∷ []) ∵ fsplit ! $ nothing ! $ move ! (1 ∷ 0 ∷ []) $ fjoin ! $ fpack ! ℕ (λ (y : ℕ). closed l (γ ∷ gs) (y ∷ []) b o) x $ move ! (1 ∷ []) $
      use1 𝓛 (‵ (pooled l b gs (all_of (length xs)) (o + 1))) (all_free gs xs (o + 1)) $ move ! (1 ∷ 0 ∷ []) $ fjoin ! $ done !

  -- bytes are taken
  pub takes : (fs : List Bool) (gs : List GName) (at len o p : ℕ) → p ≡ o + at → AreAll true at len fs → ent 𝓤 (sem 𝓛 (pooled l b gs fs o)) (sem 𝓛 (Out l b gs fs at len o p))
  takes [] gs at zero o p e all = qed 𝓛 (‵ ftrue ∷ []) ∵ nothing ! $ fpack ! (0 ≡ 0) (λ _. closed l (drop at gs) [] b p) refl $ fpack ! (List ℕ) (λ xs. fex (length xs ≡ 0) (λ _. closed l (drop at gs) xs b p)) [] $ fjoin ! $ done !
  takes [] gs at (suc len) o p e all = absurd (none_left true at (suc len) (omega arith) all)
  takes (f ∷ fs) gs zero zero o p e all =
      qed 𝓛 (‵ (pooled l b gs (f ∷ fs) o) ∷ []) ∵ nothing ! $ fpack ! (0 ≡ 0) (λ _. closed l gs [] b p) refl $ fpack ! (List ℕ) (λ xs. fex (length xs ≡ 0) (λ _. closed l gs xs b p)) [] $ fjoin ! $ done !
  takes (false ∷ fs) gs zero (suc len) o p e all = absurd (differ (sym (first_is true false fs len all)))
  takes (true ∷ fs) gs zero (suc len) o p e all =
      let same : o ≡ p = omega (arith, e) in
      qed 𝓛 (‵ (pooled l b gs (true ∷ fs) o) ∷ []) ∵ fsplit ! $ fpick ! (λ x. move ! (1 ∷ []) $
      use1 𝓛 (‵ (Out l b (drop 1 gs) fs 0 len (o + 1) (o + 1))) (takes fs (drop 1 gs) 0 len (o + 1) (o + 1) (omega arith) (rest_are true true fs len all)) $ fsplit ! $ fpick ! (λ xs. fpick ! (λ long. move ! (2 ∷ 0 ∷ []) $
      use2 𝓛 (‵ (closed l gs (x ∷ xs) b o)) (beside 𝓛 l b gs (x ∷ []) xs o (o + 1) refl) $ rewrite ! 0 (λ (k : ℕ). ‵ (closed l gs (x ∷ xs) b k)) same refl $
      fpack ! (length (x ∷ xs) ≡ suc len) (λ _. closed l gs (x ∷ xs) b p) (ap suc long) $ fpack ! (List ℕ) (λ ys. fex (length ys ≡ suc len) (λ _. closed l gs ys b p)) (x ∷ xs) $ fjoin ! $ done !)))
  takes (false ∷ fs) gs (suc at) len o p e all =
      qed 𝓛 (‵ (pooled l b gs (false ∷ fs) o) ∷ []) ∵
      use1 𝓛 (‵ (Out l b (drop 1 gs) fs at len (o + 1) p)) (takes fs (drop 1 gs) at len (o + 1) p (omega (arith, e)) (others_are true false fs at len all)) $ fsplit ! $
      rewrite ! 0 (λ (hs : List GName). ‵ (some_run l b hs len p)) (drop_more at gs) refl $ fjoin ! $ done !
  takes (true ∷ fs) gs (suc at) len o p e all =
      qed 𝓛 (‵ (pooled l b gs (true ∷ fs) o) ∷ []) ∵ fsplit ! $ move ! (1 ∷ []) $
      use1 𝓛 (‵ (Out l b (drop 1 gs) fs at len (o + 1) p)) (takes fs (drop 1 gs) at len (o + 1) p (omega (arith, e)) (others_are true true fs at len all)) $ fsplit ! $
      rewrite ! 0 (λ (hs : List GName). ‵ (some_run l b hs len p)) (drop_more at gs) refl $ move ! (2 ∷ 1 ∷ []) $ fjoin ! $ move ! (1 ∷ 0 ∷ []) $ fjoin ! $ done !

  -- nothing changes where there are none
  stands_none : (v : Bool) (at : ℕ) (fs : List Bool) → stands v at 0 fs ≡ fs
  stands_none v at [] = refl
  stands_none v zero (f ∷ fs) = refl
  stands_none v (suc at) (f ∷ fs) = ap (λ (gs : List Bool). f ∷ gs) (stands_none v at fs)

  -- bytes are put back
  pub puts : (fs : List Bool) (gs : List GName) (xs : List ℕ) (at o p : ℕ) → p ≡ o + at → AreAll false at (length xs) fs → ent 𝓤 (sep 𝓤 (sem 𝓛 (closed l (drop at gs) xs b p)) (sem 𝓛 (pooled l b gs fs o))) (sem 𝓛 (pooled l b gs (stands true at (length xs) fs) o))
  puts fs gs [] at o p e all = qed 𝓛 (‵ (closed l (drop at gs) [] b p) ∷ ‵ (pooled l b gs fs o) ∷ []) ∵ forget ! $ rewrite ! 0 (λ (hs : List Bool). ‵ (pooled l b gs hs o)) (sym (stands_none true at fs)) refl $ done !
  puts [] gs (x ∷ xs) at o p e all = absurd (none_left false at (suc (length xs)) (omega arith) all)
  puts (true ∷ fs) gs (x ∷ xs) zero o p e all = absurd (differ (first_is false true fs (length xs) all))
  puts (false ∷ fs) gs (x ∷ xs) zero o p e all =
      let same : p ≡ o = omega (arith, e) in
      qed 𝓛 (‵ (closed l gs (x ∷ xs) b p) ∷ ‵ (pooled l b (drop 1 gs) fs (o + 1)) ∷ []) ∵ rewrite ! 0 (λ (k : ℕ). ‵ (closed l gs (x ∷ xs) b k)) same refl $
      use1 𝓛 (‵ (closed l gs (x ∷ []) b o) ⊛ ‵ (closed l (drop 1 gs) xs b (o + 1))) (cut 𝓛 l b 1 gs (x ∷ xs) o (o + 1) (omega arith) refl) $ split ! $
      fpack ! ℕ (λ (y : ℕ). closed l gs (y ∷ []) b o) x $ move ! (1 ∷ 2 ∷ []) $
      use2 𝓛 (‵ (pooled l b (drop 1 gs) (stands true 0 (length xs) fs) (o + 1))) (puts fs (drop 1 gs) xs 0 (o + 1) (o + 1) (omega arith) (rest_are false false fs (length xs) all)) $ move ! (1 ∷ 0 ∷ []) $ fjoin ! $ done !
  puts (false ∷ fs) gs (x ∷ xs) (suc at) o p e all =
      qed 𝓛 (‵ (closed l (drop (suc at) gs) (x ∷ xs) b p) ∷ ‵ (pooled l b (drop 1 gs) fs (o + 1)) ∷ []) ∵
      rewrite ! 0 (λ (hs : List GName). ‵ (closed l hs (x ∷ xs) b p)) (sym (drop_more at gs)) refl $
      by ! (puts fs (drop 1 gs) (x ∷ xs) at (o + 1) p (omega (arith, e)) (others_are false false fs at (suc (length xs)) all))
  puts (true ∷ fs) gs (x ∷ xs) (suc at) o p e all =
      qed 𝓛 (‵ (closed l (drop (suc at) gs) (x ∷ xs) b p) ∷ ‵ (pooled l b gs (true ∷ fs) o) ∷ []) ∵
      rewrite ! 0 (λ (hs : List GName). ‵ (closed l hs (x ∷ xs) b p)) (sym (drop_more at gs)) refl $ move ! (1 ∷ []) $ fsplit ! $ move ! (2 ∷ 1 ∷ []) $
      use2 𝓛 (‵ (pooled l b (drop 1 gs) (stands true at (suc (length xs)) fs) (o + 1))) (puts fs (drop 1 gs) (x ∷ xs) at (o + 1) p (omega (arith, e)) (others_are false true fs at (suc (length xs)) all)) $ move ! (1 ∷ 0 ∷ []) $ fjoin ! $ done !
