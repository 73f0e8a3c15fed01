-- The keeper's other steps move no memory.
use Rattle.std.proofs.Common.{◌≡◌, ℕ, zero, suc, ◌<◌, ◌≤◌, ◌⊎◌, inl, inr, ⊎_elim, List, [], ◌∷◌, length, set, get_or-set_same, get_or-set_other, sym, ap, ◌∙◌, subst, lt_of_not-le, arith}
use mathlib.Core.Logic.{dite}
use native.Mathlib.Decide.{dec_le, ℕ_discrete}
use Rattle.std.specs.Prelude.{drop, slice_index, take}
use Rattle.atomic_table.specs.Table.{Allows}
use Rattle.theory.specs.Placed.{Among}
use Rattle.theory.specs.Refusal.{limit_in}
use Rattle.theory.proofs.Lists.{among_cases}
use Rattle.publication.specs.declared.pass.Pass.{Pass}
use Rattle.publication.specs.declared.pass.Reading.{Reading}
use Rattle.log_rule.specs.declared.claims.view.View.{View}
use Rattle.log_rule.specs.Claims.Packs.{consumer_place, limit_place}
use Rattle.log_rule.specs.Claims.Sure.{LearnsControls}
use Rattle.log_rule.specs.Kept.{IsThere}
use Rattle.log_rule.specs.Keepings.{Joins, LearnsLimit, Leaves, MayJoin, MayLeave, MayRaise, Raises, SeesConsumer, keeping, newly, sweeping}
use Rattle.log_rule.proofs.Joining as joining
use Rattle.log_rule.proofs.Keeping as keepings
use Rattle.log_memory.specs.declared.view.Site.{Site}
use Rattle.log_memory.specs.Rule.{LogMemoryRuled}
use Rattle.log_memory.specs.Steps.{IsCalm, IsIdle, IsQuiet, Mine, Rests, SawBehind, as_view}
use Rattle.log_memory.proofs.Facts.{pass_at}
use Rattle.log_memory.proofs.Lifting.{lift}

-- the first of a list, and those behind, are of it
among_take : {A : Type 0} (x : A) (n : ℕ) (xs : List A) → Among x (take n xs) → Among x xs
among_take x zero [] a = a
among_take x zero (y ∷ ys) a = absurd a
among_take x (suc n) [] a = a
among_take x (suc n) (y ∷ ys) (inl e) = inl e
among_take x (suc n) (y ∷ ys) (inr a) = inr (among_take x n ys a)

among_drop : {A : Type 0} (x : A) (n : ℕ) (xs : List A) → Among x (drop n xs) → Among x xs
among_drop x zero [] a = a
among_drop x zero (y ∷ ys) a = a
among_drop x (suc n) [] a = a
among_drop x (suc n) (y ∷ ys) a = inr (among_drop x n ys a)

-- what isn't the number set is as it was
else_one : (l : List ℕ) (i j : ℕ) → slice_index (set l i 0) j ≡ 1 → slice_index l j ≡ 1
else_one [] i j e = e
else_one (x ∷ xs) zero zero e = absurd (omega arith)
else_one (x ∷ xs) zero (suc j) e = e
else_one (x ∷ xs) (suc i) zero e = e
else_one (x ∷ xs) (suc i) (suc j) e = else_one xs i j e

-- ---- a consumer's position is loaded

quiet_sweep : (v w : View) (j n : ℕ) → v.pass.keeping.right ≡ 1 → IsThere v.pass.keeping.there j → SeesConsumer v.pass j n w.pass → IsQuiet v w
quiet_sweep v w j n keeper there told = record {
  claims = ap (λ (p : Pass). p.right.claims) told.after;
  frames = ap (λ (p : Pass). p.work.frames) told.after;
  readings = λ r among low. inl (r, subst (λ (p : Pass). Among r p.reading) told.after among, low, omega arith);
  keeper = λ _. keeper;
  cleaned = ap (λ (p : Pass). p.keeping.cleaned) told.after;
  seen = λ one k here. subst (λ (p : Pass). SawBehind v (slice_index p.keeping.positions k)) (sym told.after) (dite (ℕ_discrete k j)
      (λ e. (keeper, (j, there, subst (λ (z : ℕ). slice_index v.pass.keeping.positions j ≤ slice_index (set v.pass.keeping.positions j n) z) (sym e) (let same = get_or-set_same v.pass.keeping.positions j n 0 (let a = told.all in let c = told.inside in omega arith) in let f = told.further in omega arith))))
      (λ ne. (keeper, (k, subst (λ (p : Pass). IsThere p.keeping.there k) told.after here, (let same = get_or-set_other v.pass.keeping.positions j k n 0 ne in omega arith)))));
}

pub sweep : (t : Site) (id j : ℕ) (m : Mine) → m.0.view.pass.keeping.right ≡ 1 → IsThere m.0.view.pass.keeping.there j → j < 8 → IsIdle m.0 → (slots : ℕ) → Allows (LogMemoryRuled t) slots id m (consumer_place j) (λ n. n) (λ n w. Rests (sweeping j) m n w)
sweep t id j m keeper there low idle slots = lift t slots id (consumer_place j) m (λ n. n) (sweeping j) (omega arith) idle (inl (λ e. omega arith)) (keepings.sweep t.key 0 id (as_view m.0) j keeper there) (λ s r at n w told. quiet_sweep m.0.view w.0 j n keeper there told.0.3)

-- ---- a consumer joins

joined_there : (l : List ℕ) (i j : ℕ) → slice_index (set l i 1) j ≡ 1 → (j ≡ i) ⊎ (slice_index l j ≡ 1)
joined_there l i j e = dite (ℕ_discrete j i) (λ same. inl same) (λ ne. inr (sym (get_or-set_other l i j 1 0 ne) ∙ e))

quiet_join : (v w : View) (number place n : ℕ) → MayJoin v.pass number n → length v.pass.keeping.positions ≡ 8 → Joins v.pass number place n w.pass → IsQuiet v w
quiet_join v w number place n may eight told =
    let here : SawBehind v n = (may.keeper, (may.seen, may.there, (let e = may.here in omega arith))) in record {
      claims = ap (λ (p : Pass). p.right.claims) told;
      frames = ap (λ (p : Pass). p.work.frames) told;
      readings = λ r among low. ⊎_elim
          (λ a. inl (r, among_take r place v.pass.reading a, low, omega arith))
          (λ a. ⊎_elim
          (λ (e : r ≡ newly number n). inr (subst (λ (x : Reading). SawBehind v x.position) (sym e) here))
          (λ b. inl (r, among_drop r place v.pass.reading b, low, omega arith))
          a)
          (among_cases r (take place v.pass.reading) (newly number n ∷ drop place v.pass.reading) (subst (λ (p : Pass). Among r p.reading) told among));
      keeper = λ _. may.keeper;
      cleaned = ap (λ (p : Pass). p.keeping.cleaned) told;
      seen = λ one k there. subst (λ (p : Pass). SawBehind v (slice_index p.keeping.positions k)) (sym told) (dite (ℕ_discrete k number)
          (λ e. subst (λ (z : ℕ). SawBehind v (slice_index (set v.pass.keeping.positions number n) z)) (sym e) (subst (SawBehind v) (sym (get_or-set_same v.pass.keeping.positions number n 0 (let a = may.inside in omega arith))) here))
          (λ ne. (may.keeper, (k, ⊎_elim (λ e. absurd (ne e)) (λ a. a) (joined_there v.pass.keeping.there number k (subst (λ (p : Pass). IsThere p.keeping.there k) told there)), (let same = get_or-set_other v.pass.keeping.positions number k n 0 ne in omega arith)))));
    }

pub join : (t : Site) (id number place n : ℕ) (m : Mine) → MayJoin m.0.view.pass number n → IsIdle m.0 → (slots : ℕ) → Allows (LogMemoryRuled t) slots id m (consumer_place number) (λ _. n) (λ k w. Rests (λ a _ c. keeping (λ v w. LearnsControls [] v w) (λ v w. Joins v number place n w) a c) m k w)
join t id number place n m may idle slots = lift t slots id (consumer_place number) m (λ _. n) (λ a _ c. keeping (λ v w. LearnsControls [] v w) (λ v w. Joins v number place n w) a c) (let a = may.inside in omega arith) idle (inl (λ e. omega arith))
    (joining.join t.key 0 id (as_view m.0) number place n may)
    (λ s r at k w told. quiet_join m.0.view w.0 number place n may ((r.ruled.kept.each id m.0.view.pass (pass_at s.views id m.0 at)).keeping.all may.keeper) told.3)

-- ---- a consumer leaves

quiet_leave : (v w : View) (place number : ℕ) → MayLeave v.pass place number → Leaves v.pass place number w.pass → IsQuiet v w
quiet_leave v w place number may told = record {
  claims = ap (λ (p : Pass). p.right.claims) told;
  frames = ap (λ (p : Pass). p.work.frames) told;
  readings = λ r among low. ⊎_elim
      (λ a. inl (r, among_take r place v.pass.reading a, low, omega arith))
      (λ a. inl (r, among_drop r (suc place) v.pass.reading a, low, omega arith))
      (among_cases r (take place v.pass.reading) (drop (suc place) v.pass.reading) (subst (λ (p : Pass). Among r p.reading) told among));
  keeper = λ _. may.keeper;
  cleaned = ap (λ (p : Pass). p.keeping.cleaned) told;
  seen = λ one k there. subst (λ (p : Pass). SawBehind v (slice_index p.keeping.positions k)) (sym told) (may.keeper, (k, else_one v.pass.keeping.there number k (subst (λ (p : Pass). IsThere p.keeping.there k) told there), omega arith));
}

pub leave : (t : Site) (id place number : ℕ) (m : Mine) → MayLeave m.0.view.pass place number → IsIdle m.0 → (slots : ℕ) → Allows (LogMemoryRuled t) slots id m (consumer_place number) (λ _. 0) (λ k w. Rests (λ a _ c. keeping (λ v w. LearnsControls [] v w) (λ v w. Leaves v place number w) a c) m k w)
leave t id place number m may idle slots = lift t slots id (consumer_place number) m (λ _. 0) (λ a _ c. keeping (λ v w. LearnsControls [] v w) (λ v w. Leaves v place number w) a c) (let a = may.inside in omega arith) idle (inl (λ e. omega arith))
    (joining.leave t.key 0 id (as_view m.0) place number may)
    (λ s r at k w told. quiet_leave m.0.view w.0 place number may told.3)

-- ---- the limit is stored

calm_raise : (v : View) (word : ℕ) → MayRaise v.pass word → IsCalm v limit_place (λ _. word)
calm_raise v word may = inr (inr (may.keeper, λ n. dite (dec_le (limit_in word) (limit_in v.pass.keeping.limit)) (λ le. inl (let a = may.rises in omega arith)) (λ up. inr (may.clean (lt_of_not-le up)))))

quiet_raise : (v w : View) (word : ℕ) → v.pass.keeping.right ≡ 1 → Raises v.pass word w.pass → IsQuiet v w
quiet_raise v w word keeper told = record {
  claims = ap (λ (p : Pass). p.right.claims) told;
  frames = ap (λ (p : Pass). p.work.frames) told;
  readings = λ r among low. inl (r, subst (λ (p : Pass). Among r p.reading) told among, low, omega arith);
  keeper = λ _. keeper;
  cleaned = ap (λ (p : Pass). p.keeping.cleaned) told;
  seen = λ one k there. subst (λ (p : Pass). SawBehind v (slice_index p.keeping.positions k)) (sym told) (keeper, (k, subst (λ (p : Pass). IsThere p.keeping.there k) told there, omega arith));
}

pub raise : (t : Site) (id word : ℕ) (m : Mine) → MayRaise m.0.view.pass word → 0 < m.0.view.pass.right.parts → IsIdle m.0 → (slots : ℕ) → Allows (LogMemoryRuled t) slots id m limit_place (λ _. word) (λ n w. Rests (λ a _ c. keeping (LearnsLimit word) (λ v w. Raises v word w) a c) m n w)
raise t id word m may parts idle slots = lift t slots id limit_place m (λ _. word) (λ a _ c. keeping (LearnsLimit word) (λ v w. Raises v word w) a c) (omega arith) idle (calm_raise m.0.view word may)
    (keepings.raise t.key 0 id (as_view m.0) word may parts)
    (λ s r at n w told. quiet_raise m.0.view w.0 word may.keeper told.3)
