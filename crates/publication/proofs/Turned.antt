-- The steps of a turn.
use Rattle.std.proofs.Common.{◌≡◌, ◌≢◌, ℕ, suc, ◌+◌, ◌*◌, ◌%◌, ◌<◌, ◌≤◌, ◌⊎◌, inl, inr, ⊎_elim, Bool, false, List, [], ◌∷◌, ◌++◌, length, append_assoc, sym, refl, ap, ◌∙◌, subst, arith}
use Rattle.std.specs.Prelude.{ℤ, ◌≤ℤ◌, ◌<ℤ◌, ◌↔◌, IsTrue}
use Rattle.std.proofs.lemmas.Bool.{cases_lt, false≢true}
use Rattle.std.proofs.lemmas.Int.{by_lt_z, ints}
use Rattle.theory.specs.Bytes.{Identity}
use Rattle.theory.specs.Position.{Geometry, id_of}
use Rattle.theory.specs.Refusal.{IsLast, IsNotLast, limit_in}
use Rattle.theory.specs.Words.{id_before, id_in, offset_in}
use Rattle.publication.specs.declared.pass.Pass.{Pass}
use Rattle.publication.specs.declared.step.WordStep.{WordStep}
use Rattle.publication.specs.declared.step.WordStep.TheVariants as steps
use Rattle.publication.specs.Steps.{Arms, Counts, ExchangesCount, Keeps, Names, Nexts, Rotates, Sees, begun_word, geometry_of, noted, seeing, tail_exchange, tail_step, term_of, with_begun}
use Rattle.publication.specs.Claims.{BeginsTerm, CountsOn, IsTurn, Takes, TurnsFrom}
use Rattle.publication.specs.Looks.{BeginsNext}
use Rattle.publication.proofs.Adding.{keeps_by}
use Rattle.publication.proofs.Refusing.{keeps}

-- ---- what a step notes, whatever the word names

same_id : (x y : ℤ) → (x ≡ y) ⊎ (¬ (x ≡ y))
same_id x y =
    by_lt_z {P = (x ≡ y) ⊎ (¬ (x ≡ y))} x y
    (λ (l : x <ℤ y). inr (λ (e : x ≡ y). omega (arith, ints, e, l)))
    (λ (l : y ≤ℤ x).
    by_lt_z {P = (x ≡ y) ⊎ (¬ (x ≡ y))} y x
    (λ (m : y <ℤ x). inr (λ (e : x ≡ y). omega (arith, ints, e, m)))
    (λ (m : x ≤ℤ y). inl (omega (arith, ints, l, m))))

either_or : (A B : Type 0) → A ⊎ (¬ A) → B ⊎ (¬ B) → (A ⊎ B) ⊎ (¬ (A ⊎ B))
either_or A B a b = ⊎_elim (λ x. inl (inl x)) (λ not. ⊎_elim (λ y. inl (inr y)) (λ nor. inr (λ h. ⊎_elim not nor h)) b) a

-- one step that notes this, and changes nothing but what was seen
seen_by : (p e q : Pass) → q ≡ e → e ≡ seeing p e → e.right.armed ≡ p.right.armed → e.seen.full ≡ p.seen.full → Keeps p q × (q.right.armed ≡ p.right.armed) × (q.seen.full ≡ p.seen.full)
seen_by p e q is same armed full = (keeps_by p e q is same, ap (λ (u : Pass). u.right.armed) is ∙ armed, ap (λ (u : Pass). u.seen.full) is ∙ full)

-- the word has the id of the count, or another
names_or : (v : Pass) (n k : ℕ) → Names v n k ⊎ (¬ Names v n k)
names_or v n k = same_id (id_in n) (id_of v.identity.geometry k)

word_or : (n m : ℕ) → (n ≡ m) ⊎ (n ≢ m)
word_or n m =
    ⊎_elim
    (λ (l : n < m). inr (λ (e : n ≡ m). omega (arith, e, l)))
    (λ (l : m ≤ n).
    ⊎_elim
    (λ (h : m < n). inr (λ (e : n ≡ m). omega (arith, e, h)))
    (λ (h : n ≤ m). inl (omega (arith, l, h)))
    (cases_lt m n))
    (cases_lt n m)

pub arms_call : (v w : Pass) (n : ℕ) → Arms v n w → w.call ≡ v.call ++ tail_step v n ∷ []
arms_call v w n told =
    ⊎_elim
    (λ (id : Names v n v.seen.count).
    ⊎_elim
    (λ (room : offset_in n < term_of v).
    ⊎_elim
    (λ (below : v.seen.count * term_of v + offset_in n < limit_in v.right.limit). ap (λ (u : Pass). u.call) (told.below id room below))
    (λ (reached : limit_in v.right.limit ≤ v.seen.count * term_of v + offset_in n). ap (λ (u : Pass). u.call) (told.limited id room reached))
    (cases_lt (v.seen.count * term_of v + offset_in n) (limit_in v.right.limit)))
    (λ (over : term_of v ≤ offset_in n). ap (λ (u : Pass). u.call) (told.used_up id over))
    (cases_lt (offset_in n) (term_of v)))
    (λ (other : ¬ Names v n v.seen.count). ap (λ (u : Pass). u.call) (told.other other))
    (names_or v n v.seen.count)

-- ---- what the three steps of a turn leave

pub found : (p q : Pass) (k n : ℕ) → Nexts p k n q → Keeps p q × (q.right.armed ≡ p.right.armed) × (q.seen.full ≡ p.seen.full)
found p q k n told =
    ⊎_elim
    (λ (id : Names p n (k + 1)). seen_by p (noted (steps.NextTail ((k + 1) % 3) n) (with_begun p (k + 1))) q (told.begun id) refl refl refl)
    (λ (other : ¬ Names p n (k + 1)). seen_by p (noted (steps.NextTail ((k + 1) % 3) n) p) q (told.other other) refl refl refl)
    (names_or p n (k + 1))

pub exchanged : (p q : Pass) (k from n : ℕ) → Rotates p k from n q → Keeps p q × (q.right.armed ≡ p.right.armed) × (q.seen.full ≡ p.seen.full)
exchanged p q k from n told =
    ⊎_elim
    (λ (id : Names p n (k + 1)). begun (inr id))
    (λ (other : ¬ Names p n (k + 1)).
    ⊎_elim
    (λ (e : n ≡ from). begun (inl e))
    (λ (apart : n ≢ from). seen_by p (noted (tail_exchange p k from n) p) q (told.other apart other) refl refl refl)
    (word_or n from))
    (names_or p n (k + 1))
  where
    begun : (n ≡ from) ⊎ Names p n (k + 1) → Keeps p q × (q.right.armed ≡ p.right.armed) × (q.seen.full ≡ p.seen.full)
    begun h = seen_by p (noted (tail_exchange p k from n) (with_begun p (k + 1))) q (told.begun h) refl refl refl

pub found_call : (p q : Pass) (k n : ℕ) → Nexts p k n q → q.call ≡ p.call ++ steps.NextTail ((k + 1) % 3) n ∷ []
found_call p q k n told = ⊎_elim (λ (id : Names p n (k + 1)). ap (λ (u : Pass). u.call) (told.begun id)) (λ (other : ¬ Names p n (k + 1)). ap (λ (u : Pass). u.call) (told.other other)) (names_or p n (k + 1))

pub exchanged_call : (p q : Pass) (k from n : ℕ) → Rotates p k from n q → q.call ≡ p.call ++ tail_exchange p k from n ∷ []
exchanged_call p q k from n told =
    ⊎_elim
    (λ (id : Names p n (k + 1)). ap (λ (u : Pass). u.call) (told.begun (inr id)))
    (λ (other : ¬ Names p n (k + 1)). ⊎_elim (λ (e : n ≡ from). ap (λ (u : Pass). u.call) (told.begun (inl e))) (λ (apart : n ≢ from). ap (λ (u : Pass). u.call) (told.other apart other)) (word_or n from))
    (names_or p n (k + 1))

pub three_seen : (p x y z : Pass) (limit count tail : ℕ) → Sees p limit x → Counts x count y → Arms y tail z → z.call ≡ steps.Limit limit ∷ steps.Count count ∷ tail_step y tail ∷ []
three_seen p x y z limit count tail sees counts arms =
    arms_call y z tail arms
    ∙ ap (λ (u : Pass). u.call ++ tail_step y tail ∷ []) counts.after
    ∙ ap (λ (u : Pass). (u.call ++ steps.Count count ∷ []) ++ tail_step y tail ∷ []) sees

-- ---- a turn

-- nobody else's term is in the next partition yet, and the exchange was tried
pub begins_exchanging : (p x q : Pass) (k from was : ℕ) (has : Bool) → Nexts p k from x → Rotates x k from was q → id_in from ≡ id_before (geometry_of p) k 2 → (IsTrue has ↔ ((was ≡ from) ⊎ Names p was (k + 1))) → BeginsNext p k has q
begins_exchanging p x q k from was has loads exchanges two says =
    let a = found p x k from loads in
    let b = exchanged x q k from was exchanges in
    let same : tail_exchange x k from was ≡ tail_exchange p k from was = ap (λ (i : Identity). steps.TailExchange ((k + 1) % 3) from (begun_word i.geometry k) was) (ap (λ (u : Pass). u.identity) a.0) in
    record {
      after = keeps p x q a.0 b.0;
      armed = b.1 ∙ a.1;
      full = b.2 ∙ a.2;
      next = from;
      rest = tail_exchange p k from was ∷ [];
      call = exchanged_call x q k from was exchanges ∙ (λ j. found_call p x k from loads j ++ same j ∷ []) ∙ append_assoc p.call (steps.NextTail ((k + 1) % 3) from ∷ []) (tail_exchange p k from was ∷ []);
      begins = λ _. (was, refl, says);
      others = λ other. absurd (other two);
    }

-- it has another id
pub begins_looking : (p q : Pass) (k from : ℕ) (has : Bool) → Nexts p k from q → ¬ (id_in from ≡ id_before (geometry_of p) k 2) → (IsTrue has ↔ Names p from (k + 1)) → BeginsNext p k has q
begins_looking p q k from has loads other says = let a = found p q k from loads in record {
  after = a.0;
  armed = a.1;
  full = a.2;
  next = from;
  rest = [];
  call = found_call p q k from loads;
  begins = λ two. absurd (other two);
  others = λ _. (refl, says);
}

-- the next term has begun, and the exchange of the count was tried
pub turn_counted : (p x q : Pass) (k n : ℕ) (has : Bool) → BeginsNext p k has x → IsTrue has → ExchangesCount x k n q → Takes (IsTurn (geometry_of p) k) p q
turn_counted p x q k n has begins true_is advances = record {
  after = keeps p x q begins.after (keeps_by x (noted (steps.CountExchange k n) x) q advances.after refl);
  armed = ap (λ (u : Pass). u.right.armed) advances.after ∙ begins.armed;
  full = ap (λ (u : Pass). u.seen.full) advances.after ∙ begins.full;
  taken = steps.NextTail ((k + 1) % 3) begins.next ∷ (begins.rest ++ steps.CountExchange k n ∷ []);
  call = ap (λ (u : Pass). u.call) advances.after ∙ ap (λ (c : List WordStep). c ++ steps.CountExchange k n ∷ []) begins.call ∙ append_assoc p.call (steps.NextTail ((k + 1) % 3) begins.next ∷ begins.rest) (steps.CountExchange k n ∷ []);
  such = record {
    next = begins.next;
    rest = begins.rest ++ steps.CountExchange k n ∷ [];
    load = refl;
    begins = λ two. (let h = begins.begins two in record {
      found = h.0;
      rest = steps.CountExchange k n ∷ [];
      exchange = ap (λ (c : List WordStep). c ++ steps.CountExchange k n ∷ []) h.1;
      count = record { begun = λ _. (n, refl); other = λ not. absurd (not (h.2.0 true_is)) };
    });
    others = λ other. (let h = begins.others other in record {
      begun = λ _. (n, ap (λ (c : List WordStep). c ++ steps.CountExchange k n ∷ []) h.0);
      other = λ not. absurd (not (h.1.0 true_is));
    });
  };
}

-- it hasn't
pub turn_left : (p q : Pass) (k : ℕ) (has : Bool) → BeginsNext p k has q → has ≡ false → Takes (IsTurn (geometry_of p) k) p q
turn_left p q k has begins false_is = record {
  after = begins.after;
  armed = begins.armed;
  full = begins.full;
  taken = steps.NextTail ((k + 1) % 3) begins.next ∷ begins.rest;
  call = begins.call;
  such = record {
    next = begins.next;
    rest = begins.rest;
    load = refl;
    begins = λ two. (let h = begins.begins two in record {
      found = h.0;
      rest = [];
      exchange = h.1;
      count = record { begun = λ it. absurd (false≢true (sym false_is ∙ h.2.1 it)); other = λ _. refl };
    });
    others = λ other. (let h = begins.others other in record { begun = λ it. absurd (false≢true (sym false_is ∙ h.1.1 it)); other = λ _. h.0 });
  };
}

-- a turn takes three steps at the most
counts_few : (k : ℕ) (Begun : Type 0) (taken : List WordStep) → Begun ⊎ (¬ Begun) → CountsOn k Begun taken → length taken ≤ 1
counts_few k Begun taken which h = ⊎_elim (λ it. subst (λ (xs : List WordStep). length xs ≤ 1) (sym (h.begun it).1) (omega arith)) (λ not. subst (λ (xs : List WordStep). length xs ≤ 1) (sym (h.other not)) (omega arith)) which

pub turn_few : (g : Geometry) (k : ℕ) (taken : List WordStep) → IsTurn g k taken → length taken ≤ 3
turn_few g k taken h = subst (λ (xs : List WordStep). length xs ≤ 3) (sym h.load) (⊎_elim
    (λ (two : id_in h.next ≡ id_before g k 2). begun (h.begins two))
    (λ (other : ¬ (id_in h.next ≡ id_before g k 2)). let n = counts_few k (id_in h.next ≡ id_of g (k + 1)) h.rest (same_id (id_in h.next) (id_of g (k + 1))) (h.others other) in omega (arith, n))
    (same_id (id_in h.next) (id_before g k 2)))
  where
    begun : BeginsTerm g k h.next h.rest → suc (length h.rest) ≤ 3
    begun b = subst (λ (xs : List WordStep). suc (length xs) ≤ 3) (sym b.exchange) (let n = counts_few k ((b.found ≡ h.next) ⊎ (id_in b.found ≡ id_of g (k + 1))) b.rest (either_or (b.found ≡ h.next) (id_in b.found ≡ id_of g (k + 1)) (word_or b.found h.next) (same_id (id_in b.found) (id_of g (k + 1)))) b.count in omega (arith, n))

pub turns_few : (g : Geometry) (k : ℕ) (taken : List WordStep) → IsLast k ⊎ IsNotLast k → TurnsFrom g k taken → length taken ≤ 3
turns_few g k taken which h = ⊎_elim (λ last. subst (λ (xs : List WordStep). length xs ≤ 3) (sym (h.ends last)) (omega arith)) (λ not. turn_few g k taken (h.turns not)) which

-- the term wasn't the last
pub turned_from : (g : Geometry) (p q : Pass) (k : ℕ) → k ≢ 2147483647 → Takes (IsTurn g k) p q → Takes (TurnsFrom g k) p q
turned_from g p q k apart h = record { after = h.after; armed = h.armed; full = h.full; taken = h.taken; call = h.call; such = record { turns = λ _. h.such; ends = λ last. absurd (apart last) } }
