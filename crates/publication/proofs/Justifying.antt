-- What a pass saw justifies its refusal.
use Rattle.std.proofs.Common.{◌≡◌, ℕ, ◌+◌, ◌-◌, ◌%◌, ◌<◌, ◌≤◌, ◌⊎◌, inl, inr, ⊎_elim, List, [], ◌∷◌, length, sym, refl, ap, ◌∙◌, subst, arith}
use Rattle.std.specs.Prelude.{pos}
use Rattle.std.specs.Int.{w32, cast_unsigned}
use Rattle.std.proofs.lemmas.Int.{of_z-to_z, to_z_pos}
use Rattle.theory.specs.Position.{Geometry, count_of, framed_length}
use Rattle.theory.specs.Placed.{Among}
use Rattle.theory.specs.Refusal.{AddedTo, IsFull, IsJustified, IsLast, IsNotLast, IsSeenFinished, IsStale, IsTripped, SawCount, SawLimit, SawTail, Sight}
use Rattle.theory.specs.Words.{id_in}
use Rattle.publication.specs.declared.pass.Pass.{Pass}
use Rattle.publication.specs.declared.refusal.Refusal.{Refusal}
use Rattle.publication.specs.declared.refusal.Refusal.TheVariants.{NotConnected, BackPressured, AdminAction, Closed, MaxPositionExceeded}
use Rattle.publication.specs.declared.step.WordStep.{WordStep}
use Rattle.publication.specs.Steps.{count_in, geometry_of}
use Rattle.publication.specs.Refusals.{sights, why_of}
use Rattle.publication.specs.Claims.{AtLimit, Finished, Justified, Refused, Stale, Tripped}
use Rattle.publication.proofs.Turned.{turns_few}

-- a word names the term of its count
pub counted : (g : Geometry) (word : ℕ) → count_in g word < 2147483648 → count_of g (id_in word) ≡ pos (count_in g word)
counted g word small =
    let x : ℕ = (cast_unsigned w32 (id_in word) + (4294967296 - cast_unsigned w32 g.initial_term_id)) % 4294967296 in
    let same : count_in g word ≡ (cast_unsigned w32 (id_in word) + (4294967296 - cast_unsigned w32 g.initial_term_id)) % 4294967296 = of_z-to_z w32 ((cast_unsigned w32 (id_in word) + (4294967296 - cast_unsigned w32 g.initial_term_id)) % 4294967296) (omega arith) in
    to_z_pos w32 ((cast_unsigned w32 (id_in word) + (4294967296 - cast_unsigned w32 g.initial_term_id)) % 4294967296) (omega (arith, same, small)) ∙ ap pos (sym same)

module _ (p : Pass) (size limit count tail : ℕ) (rest : List WordStep) where
  abbrev all_seen : List Sight
  all_seen = SawLimit limit ∷ SawCount count ∷ SawTail (count % 3) tail ∷ sights rest

  full : AtLimit p limit count tail → IsFull (geometry_of p) all_seen limit
  full h = record { count = count; word = tail; order = record { front = SawLimit limit ∷ []; middle = []; back = sights rest; parts = refl }; id = h.0; below = h.1; reached = h.2 }

  stale : Stale p count tail × (rest ≡ []) → IsStale (geometry_of p) all_seen
  stale h = record { count = count; word = tail; order = record { front = SawLimit limit ∷ []; middle = []; back = sights rest; parts = refl }; other = h.0 }

  finished : (Which : ℕ → Type 0) → Finished p Which count tail rest → IsSeenFinished (geometry_of p) all_seen Which
  finished Which h = record { count = count; word = tail; order = record { front = SawLimit limit ∷ []; middle = []; back = sights rest; parts = refl }; id = h.id; over = h.over; which = h.which }

  tripped : (Which : ℕ → Type 0) → Tripped p size Which limit count tail rest → IsTripped (geometry_of p) (framed_length (geometry_of p) size) all_seen Which
  tripped Which h = record {
    partition = count % 3;
    word = h.word;
    count = count_in (geometry_of p) h.word;
    among = inr (inr (inr (subst (λ (xs : List WordStep). Among (AddedTo (count % 3) h.word) (sights xs)) (sym h.added) (inl refl))));
    id = counted (geometry_of p) h.word h.term.small;
    over = h.over;
    which = h.which;
  }

  ended : (Which : ℕ → Type 0) → Finished p Which count tail rest ⊎ Tripped p size Which limit count tail rest → IsSeenFinished (geometry_of p) all_seen Which ⊎ IsTripped (geometry_of p) (framed_length (geometry_of p) size) all_seen Which
  ended Which h = ⊎_elim (λ (f : Finished p Which count tail rest). inl (finished Which f)) (λ (t : Tripped p size Which limit count tail rest). inr (tripped Which t)) h

seen_by : (p q : Pass) (size : ℕ) (why : Refusal) (r : Refused p size why q) → IsJustified (geometry_of p) (framed_length (geometry_of p) size) (all_seen p size r.limit r.count r.tail r.rest) (why_of why)
seen_by p q size NotConnected r = (r.limit, inl refl, (r.unclosed, r.cause.1, full p size r.limit r.count r.tail r.rest r.cause.0))
seen_by p q size BackPressured r = (r.limit, inl refl, (r.unclosed, r.cause.1, full p size r.limit r.count r.tail r.rest r.cause.0))
seen_by p q size AdminAction r = (
  r.limit,
  inl refl,
  (
    r.unclosed,
    ⊎_elim
        (λ (h : Stale p r.count r.tail × (r.rest ≡ [])). inl (stale p size r.limit r.count r.tail r.rest h))
        (λ (h : Finished p IsNotLast r.count r.tail r.rest ⊎ Tripped p size IsNotLast r.limit r.count r.tail r.rest). inr (ended p size r.limit r.count r.tail r.rest IsNotLast h))
        r.cause,
  ),
)
seen_by p q size Closed r = absurd r.cause
seen_by p q size MaxPositionExceeded r = (r.limit, inl refl, (r.unclosed, ended p size r.limit r.count r.tail r.rest IsLast r.cause))

refused : (p q : Pass) (size : ℕ) (why : Refusal) → Refused p size why q → IsJustified (geometry_of p) (framed_length (geometry_of p) size) (sights q.call) (why_of why)
refused p q size why r = subst (λ (xs : List WordStep). IsJustified (geometry_of p) (framed_length (geometry_of p) size) (sights xs) (why_of why)) (sym r.saw) (seen_by p q size why r)

pub justified : (p q : Pass) (size : ℕ) (why : Refusal) → Justified p size why q → IsJustified (geometry_of p) (framed_length (geometry_of p) size) (sights q.call) (why_of why)
justified p q size NotConnected r = refused p q size NotConnected r
justified p q size BackPressured r = refused p q size BackPressured r
justified p q size AdminAction r = refused p q size AdminAction r
justified p q size Closed r = subst (λ (xs : List WordStep). IsJustified (geometry_of p) (framed_length (geometry_of p) size) (sights xs) (why_of Closed)) (sym r.call) (r.limit, inl refl, r.closed)
justified p q size MaxPositionExceeded r = refused p q size MaxPositionExceeded r

-- a claim notes seven word calls at the most
few_behind : (p q : Pass) (size : ℕ) (why : Refusal) (r : Refused p size why q) → length r.rest ≤ 4
few_behind p q size NotConnected r = subst (λ (xs : List WordStep). length xs ≤ 4) (sym r.cause.2) (omega arith)
few_behind p q size BackPressured r = subst (λ (xs : List WordStep). length xs ≤ 4) (sym r.cause.2) (omega arith)
few_behind p q size AdminAction r = ⊎_elim
    (λ (h : Stale p r.count r.tail × (r.rest ≡ [])). subst (λ (xs : List WordStep). length xs ≤ 4) (sym h.1) (omega arith))
    (λ (h : Finished p IsNotLast r.count r.tail r.rest ⊎ Tripped p size IsNotLast r.limit r.count r.tail r.rest). ⊎_elim
    (λ (f : Finished p IsNotLast r.count r.tail r.rest). let n = turns_few (geometry_of p) r.count r.rest (inr f.which) f.turns in omega arith)
    (λ (t : Tripped p size IsNotLast r.limit r.count r.tail r.rest). subst (λ (xs : List WordStep). length xs ≤ 4) (sym t.added) (let n = turns_few (geometry_of p) (count_in (geometry_of p) t.word) t.more (inr t.which) t.turns in omega arith))
    h)
    r.cause
few_behind p q size Closed r = absurd r.cause
few_behind p q size MaxPositionExceeded r = ⊎_elim
    (λ (f : Finished p IsLast r.count r.tail r.rest). let n = turns_few (geometry_of p) r.count r.rest (inl f.which) f.turns in omega arith)
    (λ (t : Tripped p size IsLast r.limit r.count r.tail r.rest). subst (λ (xs : List WordStep). length xs ≤ 4) (sym t.added) (let n = turns_few (geometry_of p) (count_in (geometry_of p) t.word) t.more (inl t.which) t.turns in omega arith))
    r.cause

few_refused : (p q : Pass) (size : ℕ) (why : Refusal) → Refused p size why q → length q.call ≤ 7
few_refused p q size why r = subst (λ (xs : List WordStep). length xs ≤ 7) (sym r.saw) (let n = few_behind p q size why r in omega arith)

pub few : (p q : Pass) (size : ℕ) (why : Refusal) → Justified p size why q → length q.call ≤ 7
few p q size NotConnected r = few_refused p q size NotConnected r
few p q size BackPressured r = few_refused p q size BackPressured r
few p q size AdminAction r = few_refused p q size AdminAction r
few p q size Closed r = subst (λ (xs : List WordStep). length xs ≤ 7) (sym r.call) (omega arith)
few p q size MaxPositionExceeded r = few_refused p q size MaxPositionExceeded r
