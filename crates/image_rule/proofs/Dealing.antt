-- Seats that are dealt, and told what others know.
use Rattle.std.proofs.Common.{◌≡◌, ◌≢◌, ℕ, zero, suc, ◌+◌, ◌-◌, ◌*◌, ◌<◌, ◌≤◌, ◌⊎◌, inl, inr, ⊎_elim, suc-ne-zero, max, cond, ◌==◌, eq-eqb, ne_eqb, List, [], ◌∷◌, ◌++◌, set, length, sym, refl, ap, ◌∙◌, subst, arith, get_or-set_same}
use Rattle.std.specs.Prelude.{slice_index}
use mathlib.Core.Option.{some, some-injective, some-ne-none}
use mathlib.Core.Logic.{dite}
use native.Mathlib.Decide.{dec_le}
use lib.ListN.{get_elem?}
use Rattle.atomic_table.specs.Table.{Allows, Joins, Splits, State, keeps}
use Rattle.atomic_table.proofs.Lists.{at_set}
use Rattle.region.specs.declared.access.ReadAccess.{ReadAccess}
use Rattle.image_rule.specs.declared.view.Frame.{Frame}
use Rattle.image_rule.specs.declared.view.Held.{Held}
use Rattle.image_rule.specs.declared.view.Key.{Key}
use Rattle.image_rule.specs.declared.view.Site.{Site}
use Rattle.image_rule.specs.declared.view.View.{View}
use Rattle.image_rule.specs.Frames.{Among, Has, end_of}
use Rattle.image_rule.specs.Rule.{Holds, ImageRuled, Knows, Owners, WordsRuled, attending_seat, consumer_place, dealing_seat, findings_seat, greater_each, news_seat, only_at, reader_seat, told_seat}
use Rattle.image_rule.specs.Steps.{Confirms, Mine, Settles, told}
use Rattle.image_rule.specs.Reads.{Meets}
use Rattle.image_rule.proofs.Standing.{stands_there}
use Rattle.image_rule.proofs.Memory.{core, kept_memory, seat_less, seat_more}
use Rattle.image_rule.proofs.Moves.{learned}

-- an element of a longer list, with its place
at_end : {A : Type 0} (l : List A) (a b : A) (j : ℕ) → get_elem? (l ++ a ∷ []) j ≡ some b → (get_elem? l j ≡ some b) ⊎ ((j ≡ length l) × (a ≡ b))
at_end [] a b zero e = inr (refl, some-injective a b e)
at_end [] a b (suc j) e = absurd (some-ne-none b (sym e))
at_end (x ∷ xs) a b zero e = inl e
at_end (x ∷ xs) a b (suc j) e = ⊎_elim inl (λ t. inr (ap suc t.0, t.1)) (at_end xs a b j e)

at_low : {A : Type 0} (l : List A) (j : ℕ) (a : A) → get_elem? l j ≡ some a → j < length l
at_low [] j a e = absurd (some-ne-none a (sym e))
at_low (x ∷ xs) zero a e = omega arith
at_low (x ∷ xs) (suc j) a e = let r = at_low xs j a e in omega arith

set_length : {A : Type 0} (l : List A) (i : ℕ) (a : A) → length (set l i a) ≡ length l
set_length [] i a = refl
set_length (x ∷ xs) zero a = refl
set_length (x ∷ xs) (suc i) a = ap suc (set_length xs i a)

-- what is known alone
pub news_knows : (key : Key) (h : Held) (o : Owners) (words : List ℕ) (i : ℕ) (known : List Frame) (seen : List ℕ) → ((f : Frame) → Among f known → Among f h.got) → length seen ≤ key.consumers → ((j : ℕ) → j < length seen → 32 * slice_index seen j ≤ slice_index words (consumer_place j)) → Knows key h o words i (news_seat known seen)
news_knows key h o words i known seen all few swept = record {
  inserts = λ one. absurd (suc-ne-zero 0 (sym one));
  few = few;
  swept = swept;
  reads = λ one. absurd (suc-ne-zero 0 (sym one));
  deals = λ j lt. absurd (omega arith);
  known = all;
}

module _ (key : Key) (s : State ReadAccess View) (hd : Held) (ow : Owners) (r : WordsRuled key s hd ow) (id : ℕ) (v : View) (at : get_elem? s.views id ≡ some v) where
  -- a seat more, with other owners
  more : (o : Owners) (left right : View) → ((i : ℕ) (u : View) → i ≢ id → i < length s.views → Knows key hd ow s.words i u → Knows key hd o s.words i u) → Knows key hd o s.words id left → Knows key hd o s.words (length s.views) right
      → WordsRuled key (record { words = s.words; homes = s.homes; views = set s.views id left ++ right ∷ [] }) hd o
  more o left right others mine new = record {
    is_key = r.is_key;
    sound = r.sound;
    long = r.long;
    mirrors = r.mirrors;
    stands = r.stands;
    each = λ i u e. ⊎_elim
        (λ (t : get_elem? (set s.views id left) i ≡ some u). ⊎_elim
        (λ p. subst (λ (x : ℕ × View). Knows key hd o s.words x.0 x.1) (λ k. (sym p.0 k, p.1 k)) mine)
        (λ p. others i u p.0 (at_low s.views i u p.1) (r.each i u p.1))
        (at_set s.views id i left u t))
        (λ p. subst (λ (x : ℕ × View). Knows key hd o s.words x.0 x.1) (λ k. (sym (p.0 ∙ set_length s.views id left) k, p.1 k)) new)
        (at_end (set s.views id left) right u i e);
  }

-- the words' rule, and the parts are where they were
with_more : (t : Site) (s : State ReadAccess View) (r : ImageRuled t s) (id : ℕ) (v left right : View) (o : Owners) → get_elem? s.views id ≡ some v → core left.reading ≡ core v.reading → (Holds right → ⊥) → WordsRuled t.key (record { words = s.words; homes = s.homes; views = set s.views id left ++ right ∷ [] }) r.held o → ImageRuled t record { words = s.words; homes = s.homes; views = set s.views id left ++ right ∷ [] }
with_more t s r id v left right o at same none' words = record {
  held = r.held;
  owners = o;
  rounds = r.rounds;
  words = words;
  memory = kept_memory t s r.held r.owners r.words r.rounds r.memory s.words (set s.views id left ++ right ∷ []) r.held (seat_more t s r.held r.owners r.words r.rounds r.memory id v left right at same none') record { further = λ j lt. omega arith; got = refl; freed = refl; out = refl; floor = inl refl };
}

-- who reads nothing has no part
no_reader : (known : List Frame) (seen : List ℕ) → Holds (news_seat known seen) → ⊥
no_reader known seen has = suc-ne-zero 0 (sym has.reads)

-- ---- a reader is dealt

module _ (key : Key) (s : State ReadAccess View) (hd : Held) (ow : Owners) (r : WordsRuled key s hd ow) (id : ℕ) (v : View) (at : get_elem? s.views id ≡ some v) (number : ℕ) (some_left : v.undealt ≡ suc number) where
  abbrev owners : Owners
  owners = record { inserter = ow.inserter; sits = λ j. cond (j == number) (length s.views) (ow.sits j) }

  sits_new : (j : ℕ) → j ≡ number → owners.sits j ≡ length s.views
  sits_new j e = ap (λ b. cond b (length s.views) (ow.sits j)) (eq-eqb j number e)

  sits_old : (j : ℕ) → j ≢ number → owners.sits j ≡ ow.sits j
  sits_old j ne = ap (λ b. cond b (length s.views) (ow.sits j)) (ne_eqb j number ne)

  k : Knows key hd ow s.words id v
  k = r.each id v at

  other : (i : ℕ) (u : View) → i ≢ id → i < length s.views → Knows key hd ow s.words i u → Knows key hd owners s.words i u
  other i u ne lt q = let mine = (k.deals number (omega arith)).seat in record {
    inserts = λ one. (let a = q.inserts one in record { seat = a.seat; held = a.held; seen = a.seen; looks = a.looks });
    few = q.few;
    swept = q.swept;
    reads = λ one. (let a = q.reads one in record { inside = a.inside; seat = sits_old u.reading.number (λ e. ne (sym a.seat ∙ ap ow.sits e ∙ mine)) ∙ a.seat; position = a.position; dealt = a.dealt });
    deals = λ j l. (let a = q.deals j l in record { inside = a.inside; seat = sits_old j (λ e. ne (sym a.seat ∙ ap ow.sits e ∙ mine)) ∙ a.seat; position = a.position });
    known = q.known;
  }

  dealer : Knows key hd owners s.words id (dealing_seat v)
  dealer = record {
    inserts = λ one. (let a = k.inserts one in record { seat = a.seat; held = a.held; seen = a.seen; looks = a.looks });
    few = k.few;
    swept = k.swept;
    reads = λ one. (let a = k.reads one in let d = a.dealt in absurd (omega arith));
    deals = λ j l. (let a = k.deals j (omega arith) in record { inside = a.inside; seat = sits_old j (λ e. omega arith) ∙ a.seat; position = a.position });
    known = k.known;
  }

  dealt : Knows key hd owners s.words (length s.views) (reader_seat key.join v)
  dealt = let n : v.undealt - 1 ≡ number = omega arith in let a = k.deals (v.undealt - 1) (omega arith) in record {
    inserts = λ one. absurd (suc-ne-zero 0 (sym one));
    few = omega arith;
    swept = λ j lt. absurd (omega arith);
    reads = λ one. record { inside = a.inside; seat = sits_new (v.undealt - 1) n; position = a.position; dealt = refl };
    deals = λ j lt. absurd (omega arith);
    known = λ f b. absurd b;
  }

pub deal : (t : Site) (id : ℕ) (v : View) (number unit : ℕ) → v.undealt ≡ suc number → unit ≡ t.key.join → Splits (ImageRuled t) id v (dealing_seat v) (reader_seat unit v)
deal t id v number unit left is s r at = let key = t.key in let hd = r.held in let ow = r.owners in let rw = r.words in subst (λ (x : ℕ). ImageRuled t record { words = s.words; homes = s.homes; views = set s.views id (dealing_seat v) ++ reader_seat x v ∷ [] }) (sym is)
    (with_more t s r id v (dealing_seat v) (reader_seat key.join v) (owners key s hd ow rw id v at number left) at refl (λ has. suc-ne-zero 0 (sym has.holds))
    (more key s hd ow rw id v at (owners key s hd ow rw id v at number left) (dealing_seat v) (reader_seat key.join v) (other key s hd ow rw id v at number left) (dealer key s hd ow rw id v at number left) (dealt key s hd ow rw id v at number left)))

-- ---- what one knows is told to another

-- what the inserter stored, and where it saw the consumers
pub news : (t : Site) (id : ℕ) (v : View) → v.inserting ≡ 1 → Splits (ImageRuled t) id v v (news_seat v.held.got v.seen)
news t id v one s r at = let key = t.key in let hd = r.held in let ow = r.owners in let rw = r.words in let k = rw.each id v at in with_more t s r id v v (news_seat v.held.got v.seen) ow at refl (no_reader v.held.got v.seen) (more key s hd ow rw id v at ow v (news_seat v.held.got v.seen) (λ i u ne lt q. q) k
    (news_knows key hd ow s.words (length s.views) v.held.got v.seen (λ f a. subst (λ (h : Held). Among f h.got) (k.inserts one).held a) k.few k.swept))

only_length : (n unit : ℕ) → length (only_at n unit) ≡ suc n
only_length zero unit = refl
only_length (suc n) unit = ap suc (only_length n unit)

only_low : (words : List ℕ) (n unit i : ℕ) → 32 * unit ≤ slice_index words (consumer_place (i + n)) → (j : ℕ) → j < length (only_at n unit) → 32 * slice_index (only_at n unit) j ≤ slice_index words (consumer_place (i + j))
only_low words zero unit i le zero lt = le
only_low words zero unit i le (suc j) lt = absurd (omega arith)
only_low words (suc n) unit i le zero lt = omega arith
only_low words (suc n) unit i le (suc j) lt =
    let e : suc i + n ≡ i + suc n = omega arith in let d : suc i + j ≡ i + suc j = omega arith in
    subst (λ (x : ℕ). 32 * slice_index (only_at n unit) j ≤ slice_index words (consumer_place x)) d
    (only_low words n unit (suc i) (subst (λ (x : ℕ). 32 * unit ≤ slice_index words (consumer_place x)) (sym e) le) j (let l = only_length n unit in omega arith))

-- a reader's position alone
only_swept : (words : List ℕ) (n unit : ℕ) → 32 * unit ≤ slice_index words (consumer_place n) → (j : ℕ) → j < length (only_at n unit) → 32 * slice_index (only_at n unit) j ≤ slice_index words (consumer_place j)
only_swept words n unit le j lt =
    let d : 0 + j ≡ j = omega arith in let e : n ≡ 0 + n = omega arith in
    subst (λ (x : ℕ). 32 * slice_index (only_at n unit) j ≤ slice_index words (consumer_place x)) d (only_low words n unit 0 (subst (λ (x : ℕ). 32 * unit ≤ slice_index words (consumer_place x)) e le) j lt)

-- what a reader knows, and where it stands
pub findings : (t : Site) (id : ℕ) (v : View) → v.reading.reads ≡ 1 → Splits (ImageRuled t) id v v (findings_seat v)
findings t id v one s r at = let key = t.key in let hd = r.held in let ow = r.owners in let rw = r.words in let k = rw.each id v at in let a = k.reads one in with_more t s r id v v (findings_seat v) ow at refl (no_reader v.reading.known (only_at v.reading.number v.reading.unit)) (more key s hd ow rw id v at ow v (findings_seat v) (λ i u ne lt q. q) k
    (news_knows key hd ow s.words (length s.views) v.reading.known (only_at v.reading.number v.reading.unit) k.known
    (let l = only_length v.reading.number v.reading.unit in let i = a.inside in omega arith)
    (only_swept s.words v.reading.number v.reading.unit (let p = a.position in omega arith))))

among_both : (f : Frame) (a b : List Frame) → Among f (a ++ b) → Among f a ⊎ Among f b
among_both f [] b h = inr h
among_both f (x ∷ xs) b (inl e) = inl (inl e)
among_both f (x ∷ xs) b (inr h) = ⊎_elim (λ p. inl (inr p)) inr (among_both f xs b h)

pub among_right : (f : Frame) (a b : List Frame) → Among f b → Among f (a ++ b)
among_right f [] b h = h
among_right f (x ∷ xs) b h = inr (among_right f xs b h)

module _ (key : Key) (s : State ReadAccess View) (hd : Held) (ow : Owners) (r : WordsRuled key s hd ow) (id : ℕ) (v : View) (other : ℕ) (w b : View) (at : get_elem? s.views id ≡ some v) (apart : ¬ (other ≡ id)) (there : get_elem? (set s.views id b) other ≡ some w) where
  -- what the other knows
  theirs : Knows key hd ow s.words other w
  theirs = ⊎_elim (λ p. absurd (apart p.0)) (λ p. r.each other w p.1) (at_set s.views id other b w there)

  -- a seat less
  less : Knows key hd ow s.words id b → WordsRuled key (record { words = s.words; homes = s.homes; views = set (set s.views id b) other (news_seat [] []) }) hd ow
  less mine = record {
    is_key = r.is_key;
    sound = r.sound;
    long = r.long;
    mirrors = r.mirrors;
    stands = r.stands;
    each = λ i u e. ⊎_elim
        (λ p. subst (λ (x : ℕ × View). Knows key hd ow s.words x.0 x.1) (λ j. (sym p.0 j, p.1 j)) (news_knows key hd ow s.words other [] [] (λ f a. absurd a) (omega arith) (λ j lt. absurd (omega arith))))
        (λ p. ⊎_elim
        (λ q. subst (λ (x : ℕ × View). Knows key hd ow s.words x.0 x.1) (λ j. (sym q.0 j, q.1 j)) mine)
        (λ q. r.each i u q.1)
        (at_set s.views id i b u p.1))
        (at_set (set s.views id b) other i (news_seat [] []) u e);
  }

with_less : (t : Site) (s : State ReadAccess View) (r : ImageRuled t s) (id : ℕ) (v : View) (other : ℕ) (w b : View) → get_elem? s.views id ≡ some v → get_elem? (set s.views id b) other ≡ some w → core b.reading ≡ core v.reading → (Holds w → ⊥) → WordsRuled t.key (record { words = s.words; homes = s.homes; views = set (set s.views id b) other (news_seat [] []) }) r.held r.owners → ImageRuled t record { words = s.words; homes = s.homes; views = set (set s.views id b) other (news_seat [] []) }
with_less t s r id v other w b at there same none' words = record {
  held = r.held;
  owners = r.owners;
  rounds = r.rounds;
  words = words;
  memory = kept_memory t s r.held r.owners r.words r.rounds r.memory s.words (set (set s.views id b) other (news_seat [] [])) r.held (seat_less t s r.held r.owners r.words r.rounds r.memory id v b other w (news_seat [] []) at same there none' (no_reader [] [])) record { further = λ j lt. omega arith; got = refl; freed = refl; out = refl; floor = inl refl };
}

-- a seat that isn't the inserter's is told by one that reads nothing
pub tells : (t : Site) (id : ℕ) (v : View) (other : ℕ) (w : View) → v.inserting ≢ 1 → w.reading.reads ≡ 0 → Joins (ImageRuled t) id v other w (told_seat v w) (news_seat [] [])
tells z id v other w not_one none' s r at apart there =
    let key = z.key in let hd = r.held in let ow = r.owners in let rw = r.words in
    let k = rw.each id v at in let t = theirs key s hd ow rw id v other w (told_seat v w) at apart there in
    with_less z s r id v other w (told_seat v w) at there refl (λ has. suc-ne-zero 0 (sym has.reads ∙ none')) (less key s hd ow rw id v other w (told_seat v w) at apart there record {
      inserts = λ one. absurd (not_one one);
      few = t.few;
      swept = t.swept;
      reads = λ one. (let a = k.reads one in record { inside = a.inside; seat = a.seat; position = a.position; dealt = a.dealt });
      deals = k.deals;
      known = λ f b. ⊎_elim (λ (c : Among f v.reading.known). k.known f c) (λ (c : Among f w.reading.known). t.known f c) (among_both f v.reading.known w.reading.known b);
    })

greater_length : (xs ys : List ℕ) → length (greater_each xs ys) ≡ length xs
greater_length [] ys = refl
greater_length (x ∷ xs) [] = refl
greater_length (x ∷ xs) (y ∷ ys) = ap suc (greater_length xs ys)

-- both say what is right, so the greater does
greater_low : (xs ys : List ℕ) (words : List ℕ) (i : ℕ) → ((j : ℕ) → j < length xs → 32 * slice_index xs j ≤ slice_index words (consumer_place (i + j))) → ((j : ℕ) → j < length ys → 32 * slice_index ys j ≤ slice_index words (consumer_place (i + j)))
    → (j : ℕ) → j < length (greater_each xs ys) → 32 * slice_index (greater_each xs ys) j ≤ slice_index words (consumer_place (i + j))
greater_low [] ys words i a b j lt = absurd (omega arith)
greater_low (x ∷ xs) [] words i a b j lt = a j lt
greater_low (x ∷ xs) (y ∷ ys) words i a b zero lt = let p : 32 * x ≤ slice_index words (consumer_place (i + 0)) = a 0 (omega arith) in let q : 32 * y ≤ slice_index words (consumer_place (i + 0)) = b 0 (omega arith) in omega arith
greater_low (x ∷ xs) (y ∷ ys) words i a b (suc j) lt =
    let d : suc i + j ≡ i + suc j = omega arith in
    let on : (c : ℕ) (zs : List ℕ) → ((j : ℕ) → j < length (c ∷ zs) → 32 * slice_index (c ∷ zs) j ≤ slice_index words (consumer_place (i + j))) → (j : ℕ) → j < length zs → 32 * slice_index zs j ≤ slice_index words (consumer_place (suc i + j))
    = λ c zs h n l. (let e : suc i + n ≡ i + suc n = omega arith in subst (λ (q : ℕ). 32 * slice_index zs n ≤ slice_index words (consumer_place q)) (sym e) (h (suc n) (omega arith))) in
    subst (λ (q : ℕ). 32 * slice_index (greater_each xs ys) j ≤ slice_index words (consumer_place q)) d (greater_low xs ys words (suc i) (on x xs a) (on y ys b) j (let l = greater_length xs ys in omega arith))

greater_swept : (xs ys : List ℕ) (words : List ℕ) → ((j : ℕ) → j < length xs → 32 * slice_index xs j ≤ slice_index words (consumer_place j)) → ((j : ℕ) → j < length ys → 32 * slice_index ys j ≤ slice_index words (consumer_place j))
    → (j : ℕ) → j < length (greater_each xs ys) → 32 * slice_index (greater_each xs ys) j ≤ slice_index words (consumer_place j)
greater_swept xs ys words a b j lt =
    let d : 0 + j ≡ j = omega arith in
    let on : (zs : List ℕ) → ((j : ℕ) → j < length zs → 32 * slice_index zs j ≤ slice_index words (consumer_place j)) → (j : ℕ) → j < length zs → 32 * slice_index zs j ≤ slice_index words (consumer_place (0 + j))
    = λ zs h n l. (let e : n ≡ 0 + n = omega arith in subst (λ (q : ℕ). 32 * slice_index zs n ≤ slice_index words (consumer_place q)) e (h n l)) in
    subst (λ (q : ℕ). 32 * slice_index (greater_each xs ys) j ≤ slice_index words (consumer_place q)) d (greater_low xs ys words 0 (on xs a) (on ys b) j lt)

-- the inserter is told
pub attends : (t : Site) (id : ℕ) (v : View) (other : ℕ) (w : View) → w.reading.reads ≡ 0 → Joins (ImageRuled t) id v other w (attending_seat v w) (news_seat [] [])
attends z id v other w none' s r at apart there =
    let key = z.key in let hd = r.held in let ow = r.owners in let rw = r.words in
    let k = rw.each id v at in let b : View = attending_seat v w in let t = theirs key s hd ow rw id v other w b at apart there in let long = greater_length v.seen w.seen in
    with_less z s r id v other w b at there refl (λ has. suc-ne-zero 0 (sym has.reads ∙ none')) (less key s hd ow rw id v other w b at apart there record {
      inserts = λ one. (let a = k.inserts one in record { seat = a.seat; held = a.held; seen = long ∙ a.seen; looks = a.looks });
      few = (let f = k.few in omega arith);
      swept = greater_swept v.seen w.seen s.words k.swept t.swept;
      reads = λ one. (let a = k.reads one in record { inside = a.inside; seat = a.seat; position = a.position; dealt = a.dealt });
      deals = k.deals;
      known = λ f c. ⊎_elim (λ (d : Among f v.reading.known). k.known f d) (λ (d : Among f w.reading.known). t.known f d) (among_both f v.reading.known w.reading.known c);
    })

-- what was told of a reader, where it says where it stands
pub greater_only : (xs : List ℕ) (n unit : ℕ) → slice_index xs n ≤ unit → greater_each xs (only_at n unit) ≡ set xs n unit
greater_only [] n unit le = refl
greater_only (x ∷ []) zero unit le = let e : max x unit ≡ unit = omega arith in ap (λ (y : ℕ). y ∷ []) e
greater_only (x ∷ y ∷ ys) zero unit le = let e : max x unit ≡ unit = omega arith in ap (λ (z : ℕ). z ∷ y ∷ ys) e
greater_only (x ∷ xs) (suc n) unit le = (λ j. max x 0 ∷ greater_only xs n unit le j) ∙ ap (λ (z : ℕ). z ∷ set xs n unit) (let e : max x 0 ≡ x = omega arith in e)

past : (xs : List ℕ) (n : ℕ) → length xs ≤ n → slice_index xs n ≡ 0
past [] n le = refl
past (x ∷ xs) zero le = absurd (omega arith)
past (x ∷ xs) (suc n) le = past xs n (omega arith)

-- a reader finds that it stands where it was seen, or further on
pub settle : (t : Site) (slots id i : ℕ) (m : Mine) → m.0.reading.reads ≡ 1 → Allows (ImageRuled t) slots id m i (λ n. n) (told (λ v _ w. Settles v w) m)
settle t slots id i m one s r homes at fits =
    let key = t.key in let hd = r.held in let ow = r.owners in let rw = r.words in
    let v : View = m.0 in let k = rw.each id v at in let a = k.reads one in (
      v,
      keeps,
      tt,
      learned t s r id i v v at refl k,
      (refl, record { further = dite (dec_le (length v.seen) v.reading.number) (λ le. let z = past v.seen v.reading.number le in omega arith) (λ gt. let b = k.swept v.reading.number (omega arith) in let p = a.position in omega arith); edge = λ f known below. (stands_there key s hd ow rw v.reading.number v.reading.unit a.inside a.position).edge f (k.known f known) below; after = refl }),
    )

-- all up to where a consumer was seen was stored
up_to : (key : Key) (s : State ReadAccess View) (hd : Held) (ow : Owners) (r : WordsRuled key s hd ow) (id : ℕ) (v : View) → Knows key hd ow s.words id v → v.held ≡ hd → (j u : ℕ) → j < length v.seen → v.held.floor ≤ u → u < slice_index v.seen j → Has v.held.got u
up_to key s hd ow r id v k mine j u lt from below =
    let w = k.swept j lt in let few = k.few in let a = r.stands j (omega arith) in let at = a.is in let joined = r.sound.joined in
    let over : hd.floor ≤ u = subst (λ (h : Held). h.floor ≤ u) mine from in
    subst (λ (h : Held). Has h.got u) (sym mine) (a.stands.reached u (omega arith) (omega arith))

-- the inserter finds that what it knows was stored by it
pub confirm : (t : Site) (slots id i : ℕ) (m : Mine) → m.0.inserting ≡ 1 → Allows (ImageRuled t) slots id m i (λ n. n) (told (λ v _ w. Confirms v w) m)
confirm t slots id i m one s r homes at fits =
    let key = t.key in let hd = r.held in let ow = r.owners in let rw = r.words in
    let v : View = m.0 in let k = rw.each id v at in (
      v,
      keeps,
      tt,
      learned t s r id i v v at refl k,
      (refl, record { stored = λ f a. subst (λ (h : Held). Among f h.got) (sym (k.inserts one).held) (k.known f a); reached = up_to key s hd ow rw id v k (k.inserts one).held; after = refl }),
    )

-- ---- the six steps by which an inserter and a reader meet

pub meets : (v r r1 r2 r3 v2 v3 : View) → r1 ≡ told_seat r (news_seat v.held.got v.seen) → Settles r1 r2 → r3 ≡ r2 → v2 ≡ attending_seat v (findings_seat r2) → Confirms v2 v3 → Meets v r v3 r3
meets v r r1 r2 r3 v2 v3 e1 settled same e3 confirmed =
    let told : View = told_seat r (news_seat v.held.got v.seen) in
    let e2 : r2 ≡ told = settled.after ∙ e1 in
    let e4 : v3 ≡ attending_seat v (findings_seat told) = confirmed.after ∙ e3 ∙ ap (λ (x : View). attending_seat v (findings_seat x)) e2 in
    let e5 : r3 ≡ told = same ∙ e2 in
    let further : slice_index v.seen r.reading.number ≤ r.reading.unit = subst (λ (x : View). slice_index x.seen x.reading.number ≤ x.reading.unit) e1 settled.further in
    let seen_is = greater_only v.seen r.reading.number r.reading.unit further in record {
      inserter = subst (λ (x : View). x ≡ record v { seen = x.seen; reading = record v.reading { known = x.reading.known } }) (sym e4) refl;
      stood = further;
      seen = ap (λ (x : View). x.seen) e4 ∙ seen_is;
      reader = subst (λ (x : View). x ≡ record r { seen = x.seen; reading = record r.reading { known = x.reading.known } }) (sym e5) refl;
      known = ap (λ (x : View). x.reading.known) e5;
      stored = λ f a. subst (λ (x : View). Among f x.held.got) e3 (confirmed.stored f (subst (λ (x : View). Among f x.reading.known) (sym e3) (among_right f v.reading.known r2.reading.known (subst (λ (x : View). Among f x.reading.known) same a))));
      edge = λ f a. subst (λ (x : View). (g : Frame) → Among g x.reading.known → g.unit < x.reading.unit → end_of g ≤ x.reading.unit) e1 settled.edge f (among_right f r.reading.known v.held.got a);
      reached = λ lt u from below.
          (let here : slice_index (greater_each v.seen (only_at r.reading.number r.reading.unit)) r.reading.number ≡ r.reading.unit = ap (λ (xs : List ℕ). slice_index xs r.reading.number) seen_is ∙ get_or-set_same v.seen r.reading.number r.reading.unit 0 lt in
          let long = greater_length v.seen (only_at r.reading.number r.reading.unit) in
          subst (λ (x : View). (j u : ℕ) → j < length x.seen → x.held.floor ≤ u → u < slice_index x.seen j → Has x.held.got u) (e3 ∙ ap (λ (x : View). attending_seat v (findings_seat x)) e2) confirmed.reached r.reading.number u (omega arith) from (omega arith));
    }

pub among_left : (f : Frame) (a b : List Frame) → Among f a → Among f (a ++ b)
among_left f [] b h = absurd h
among_left f (x ∷ xs) b (inl e) = inl e
among_left f (x ∷ xs) b (inr h) = inr (among_left f xs b h)
