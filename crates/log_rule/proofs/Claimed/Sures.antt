-- What a step leaves of the control words, and who stays sure of them.
use Rattle.std.proofs.Common.{◌≡◌, ◌≢◌, ◌⊎◌, ℕ, zero, suc, ◌+◌, ◌*◌, ◌%◌, ◌^◌, ◌<◌, ◌≤◌, Bool, true, false, cond, eqb, List, [], ◌∷◌, ◌++◌, map, length, set, get_or-set_same, get_or-set_other, sym, refl, ap, ◌∙◌, subst, ⊎_elim, arith}
use mathlib.Core.Option.{some}
use lib.ListN.{get_elem?}
use prog.Atomic.{either}
use Rattle.std.specs.Prelude.{slice_index}
use Rattle.std.proofs.lemmas.List.{set-get_or}
use Rattle.atomic_table.proofs.Lists.{at_map, at_set, at_snoc}
use Rattle.publication.specs.declared.pass.Controls.{Controls}
use Rattle.publication.specs.declared.step.WordStep.{WordStep}
use Rattle.publication.specs.declared.step.WordStep.TheVariants as steps
use Rattle.publication.specs.Controls.{Leads, tail_in, with_tail}
use Rattle.log_rule.specs.declared.claims.view.View.{View}
use Rattle.log_rule.specs.Claims.Packs.{count_place, limit_place, tail_place}
use Rattle.log_rule.specs.Claims.Sums.{total}
use Rattle.log_rule.specs.Claims.Rule.{Bounds, parts_of}
use Rattle.log_rule.specs.Claims.Memory.{Ruled}
use Rattle.log_rule.specs.Claims.Sure.{AreSure, IsSure, controls_in}
use Rattle.log_rule.specs.Claims.Plays.{pass_in}
use Rattle.log_rule.proofs.Claimed.Totals.{both_at}

-- ---- the control words

abbrev made : ℕ → ℕ → ℕ → ℕ → ℕ → Controls
made limit count zero_th first second = record { limit = limit; count = count; tails = zero_th ∷ first ∷ second ∷ [] }

tail_at : (ws : List ℕ) (k : ℕ) → tail_in (controls_in ws) (k % 3) ≡ slice_index ws (tail_place k)
tail_at ws k = go (k % 3) (omega arith)
  where
    go : (p : ℕ) → p < 3 → tail_in (controls_in ws) p ≡ slice_index ws (p * 16 + 32)
    go zero low = refl
    go (suc zero) low = refl
    go (suc (suc zero)) low = refl
    go (suc (suc (suc p))) low = absurd (omega arith)

tail_set : (ws : List ℕ) (k x : ℕ) → 208 ≤ length ws → controls_in (set ws (tail_place k) x) ≡ with_tail (controls_in ws) (k % 3) x
tail_set ws k x long = go (k % 3) (omega arith)
  where
    other : (i j : ℕ) → j ≢ i → slice_index (set ws i x) j ≡ slice_index ws j
    other i j ne = get_or-set_other ws i j x 0 ne

    go : (p : ℕ) → p < 3 → controls_in (set ws (p * 16 + 32) x) ≡ with_tail (controls_in ws) p x
    go zero low = (λ i. made (other 32 0 (λ e. omega arith) i) (other 32 16 (λ e. omega arith) i) (get_or-set_same ws 32 x 0 (omega arith) i) (other 32 48 (λ e. omega arith) i) (other 32 64 (λ e. omega arith) i))
    go (suc zero) low = (λ i. made (other 48 0 (λ e. omega arith) i) (other 48 16 (λ e. omega arith) i) (other 48 32 (λ e. omega arith) i) (get_or-set_same ws 48 x 0 (omega arith) i) (other 48 64 (λ e. omega arith) i))
    go (suc (suc zero)) low = (λ i. made (other 64 0 (λ e. omega arith) i) (other 64 16 (λ e. omega arith) i) (other 64 32 (λ e. omega arith) i) (other 64 48 (λ e. omega arith) i) (get_or-set_same ws 64 x 0 (omega arith) i))
    go (suc (suc (suc p))) low = absurd (omega arith)

count_set : (ws : List ℕ) (x : ℕ) → 208 ≤ length ws → controls_in (set ws count_place x) ≡ record (controls_in ws) { count = x }
count_set ws x long = let other : (j : ℕ) → j ≢ 16 → slice_index (set ws 16 x) j ≡ slice_index ws j = λ j ne. get_or-set_other ws 16 j x 0 ne in
    λ i. made (other 0 (λ e. omega arith) i) (get_or-set_same ws 16 x 0 (let q : 16 < length ws = omega arith in q) i) (other 32 (λ e. omega arith) i) (other 48 (λ e. omega arith) i) (other 64 (λ e. omega arith) i)

pub limit_set : (ws : List ℕ) (x : ℕ) → 208 ≤ length ws → controls_in (set ws limit_place x) ≡ record (controls_in ws) { limit = x }
limit_set ws x long = let other : (j : ℕ) → j ≢ 0 → slice_index (set ws 0 x) j ≡ slice_index ws j = λ j ne. get_or-set_other ws 0 j x 0 ne in
    λ i. made (get_or-set_same ws 0 x 0 (let q : 0 < length ws = omega arith in q) i) (other 16 (λ e. omega arith) i) (other 32 (λ e. omega arith) i) (other 48 (λ e. omega arith) i) (other 64 (λ e. omega arith) i)

-- ---- what steps make of them

-- a step that makes the word i what f makes of it is these steps on the control words, where the word was n
abbrev pub Turns : ℕ → (ℕ → ℕ) → (ℕ → List WordStep) → Type 0
Turns i f noted = (words : List ℕ) → 208 ≤ length words → Leads (controls_in words) (noted (slice_index words i)) (controls_in (set words i (f (slice_index words i))))

-- it changes no control word
abbrev pub Leaves : ℕ → (ℕ → ℕ) → Type 0
Leaves i f = (words : List ℕ) → controls_in (set words i (f (slice_index words i))) ≡ controls_in words

pub load_leaves : (i : ℕ) → Leaves i (λ n. n)
load_leaves i ws = ap controls_in (set-get_or ws i 0)

-- words behind the control words
pub data_leaves : (i x : ℕ) → 80 ≤ i → Leaves i (λ _. x)
data_leaves i x far ws = let other : (j : ℕ) → j < 80 → slice_index (set ws i x) j ≡ slice_index ws j = λ j low. get_or-set_other ws i j x 0 (λ e. omega arith) in
    λ k. made (other 0 (omega arith) k) (other 16 (omega arith) k) (other 32 (omega arith) k) (other 48 (omega arith) k) (other 64 (omega arith) k)

pub limit_turns : Turns limit_place (λ n. n) (λ n. steps.Limit n ∷ [])
limit_turns ws long = (refl, load_leaves limit_place ws)

pub count_turns : Turns count_place (λ n. n) (λ n. steps.Count n ∷ [])
count_turns ws long = (refl, load_leaves count_place ws)

pub tail_turns : (k : ℕ) → Turns (tail_place k) (λ n. n) (λ n. steps.Tail (k % 3) n ∷ [])
tail_turns k ws long = (sym (tail_at ws k), load_leaves (tail_place k) ws)

pub next_turns : (k : ℕ) → Turns (tail_place k) (λ n. n) (λ n. steps.NextTail (k % 3) n ∷ [])
next_turns k ws long = (sym (tail_at ws k), load_leaves (tail_place k) ws)

pub add_turns : (k taken : ℕ) → Turns (tail_place k) (λ n. (n + taken) % 2 ^ 64) (λ n. steps.Addition (k % 3) taken n ∷ [])
add_turns k taken ws long = (sym (tail_at ws k), tail_set ws k ((slice_index ws (tail_place k) + taken) % 18446744073709551616) long ∙ ap (λ (z : ℕ). with_tail (controls_in ws) (k % 3) ((z + taken) % 18446744073709551616)) (sym (tail_at ws k)))

either_is : (b : Bool) (x y : ℕ) → either b x y ≡ cond b x y
either_is true x y = refl
either_is false x y = refl

pub rotate_turns : (k from to : ℕ) → Turns (tail_place k) (λ n. either (eqb n from) to n) (λ n. steps.TailExchange (k % 3) from to n ∷ [])
rotate_turns k from to ws long = let n : ℕ = slice_index ws (tail_place k) in
    (sym (tail_at ws k), tail_set ws k (either (eqb n from) to n) long ∙ ap (with_tail (controls_in ws) (k % 3)) (either_is (eqb n from) to n) ∙ ap (λ (z : ℕ). with_tail (controls_in ws) (k % 3) (cond (eqb z from) to z)) (sym (tail_at ws k)))

pub advance_turns : (from : ℕ) → Turns count_place (λ n. either (eqb n from) (from + 1) n) (λ n. steps.CountExchange from n ∷ [])
advance_turns from ws long = let n : ℕ = slice_index ws count_place in
    (refl, count_set ws (either (eqb n from) (from + 1) n) long ∙ ap (λ (z : ℕ). record (controls_in ws) { count = z }) (either_is (eqb n from) (from + 1) n))

pub data_turns : (i x : ℕ) → 80 ≤ i → Turns i (λ _. x) (λ _. [])
data_turns i x far ws long = data_leaves i x far ws

-- ---- who is sure

-- where a pass with parts changes the words, or no control word is changed, the others that are sure stay so
pub sure_on : (b : Bounds) (ws : List ℕ) (vs : List View) → Ruled b ws (map pass_in vs) → AreSure ws vs → (id : ℕ) (v w : View) → get_elem? vs id ≡ some v → (i : ℕ) (f : ℕ → ℕ) → (0 < v.pass.right.parts) ⊎ Leaves i f → IsSure (set ws i (f (slice_index ws i))) w
    → AreSure (set ws i (f (slice_index ws i))) (set vs id w)
sure_on b ws vs r known id v w at i f may mine = record {
  each = λ j u e. ⊎_elim
      (λ (y : (j ≡ id) × (w ≡ u)). subst (IsSure (set ws i (f (slice_index ws i)))) y.1 mine)
      (λ (y : (j ≢ id) × (get_elem? vs j ≡ some u)). let k = known.each j u y.1 in record {
        whole = k.whole;
        exact = λ one. ⊎_elim
            (λ (pos : 0 < v.pass.right.parts). alone v.pass.right.parts u.pass.right.parts (total parts_of (map pass_in vs)) pos (k.whole one) r.claims.parted (both_at parts_of (map pass_in vs) id j v.pass u.pass y.0 (at_map pass_in vs id v at) (at_map pass_in vs j u y.1)) (u.controls ≡ controls_in (set ws i (f (slice_index ws i)))))
            (λ (l : Leaves i f). k.exact one ∙ sym (l ws))
            may;
      })
      (at_set vs id j w u e);
}
  where
    alone : (v u t : ℕ) → 0 < v → u ≡ 1024 → t ≡ 1024 → v + u ≤ t → (P : Type 0) → P
    alone v u t pos all is le P = absurd (omega arith)

-- who isn't sure
pub unsure : (ws : List ℕ) (v : View) → v.sure ≡ 0 → IsSure ws v
unsure ws v none = record { whole = λ one. absurd (apart v.sure none one); exact = λ one. absurd (apart v.sure none one) }
  where
    apart : (n : ℕ) → n ≡ 0 → n ≡ 1 → ⊥
    apart n z one = omega arith

pub sure_split : (ws : List ℕ) (vs : List View) → AreSure ws vs → (id : ℕ) (l r : View) → IsSure ws l → IsSure ws r → AreSure ws (set vs id l ++ r ∷ [])
sure_split ws vs known id l r left_is right_is = record {
  each = λ j u e. ⊎_elim
      (λ (y : get_elem? (set vs id l) j ≡ some u). ⊎_elim (λ (z : (j ≡ id) × (l ≡ u)). subst (IsSure ws) z.1 left_is) (λ (z : (j ≢ id) × (get_elem? vs j ≡ some u)). known.each j u z.1) (at_set vs id j l u y))
      (λ (y : r ≡ u). subst (IsSure ws) y right_is)
      (at_snoc (set vs id l) r u j e);
}

pub sure_join : (ws : List ℕ) (vs : List View) → AreSure ws vs → (id other : ℕ) (l r : View) → IsSure ws l → IsSure ws r → AreSure ws (set (set vs id l) other r)
sure_join ws vs known id other l r left_is right_is = record {
  each = λ j u e. ⊎_elim
      (λ (y : (j ≡ other) × (r ≡ u)). subst (IsSure ws) y.1 right_is)
      (λ (y : (j ≢ other) × (get_elem? (set vs id l) j ≡ some u)). ⊎_elim (λ (z : (j ≡ id) × (l ≡ u)). subst (IsSure ws) z.1 left_is) (λ (z : (j ≢ id) × (get_elem? vs j ≡ some u)). known.each j u z.1) (at_set vs id j l u y.1))
      (at_set (set vs id l) other j r u e);
}
