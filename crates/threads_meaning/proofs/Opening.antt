-- A log that opens is an opened log of the model.
use Rattle.std.proofs.Common.{◌≡◌, ◌≢◌, inl, inr, ℕ, zero, suc, ◌+◌, ◌-◌, ◌*◌, ◌/◌, ◌%◌, ◌<◌, ◌≤◌, false, List, [], ◌∷◌, ◌++◌, length, length-append, map, replicate, sym, refl, ap, ◌∙◌, subst, ne_eqb, lt_of_not-le, arith}
use mathlib.Core.Option.{some, some-injective, some-ne-none}
use mathlib.Core.Logic.{dite}
use native.Mathlib.Decide.{dec_le}
use lib.ListN.{get_elem?}
use Rattle.std.specs.Prelude.{slice_index, slice_get, nat_lt, Option, None, Some}
use Rattle.std.proofs.lemmas.List.{length-replicate}
use Rattle.std.proofs.lemmas.Option.{none-some}
use Rattle.atomic_table.specs.Table.{State}
use Rattle.theory.specs.Bytes.{IsIdentity}
use Rattle.theory.specs.Consumer.{Consumer, consumer_at}
use Rattle.theory.specs.Numbered.{IfThere}
use Rattle.theory.specs.Placed.{Among}
use Rattle.theory.specs.Refusal.{is_closed, is_connected, limit_in}
use Rattle.theory.proofs.Lists.{all_append, all_at, all_replicate}
use Rattle.publication.specs.declared.pass.Pass.{Pass}
use Rattle.publication.specs.declared.pass.Reading.{Reading}
use Rattle.log_rule.specs.declared.claims.view.View.{View}
use Rattle.log_rule.specs.declared.rule.Key.{Key}
use Rattle.log_rule.specs.Claims.Packs.{consumer_place, limit_place}
use Rattle.log_rule.specs.Claims.Plays.{pass_in}
use Rattle.log_rule.specs.Kept.{IsReader}
use Rattle.log_rule.specs.Table.{LogRuled, consumers_at, first_there, whole_pass, whole_seat}
use Rattle.log_rule.proofs.Beginning.{first_flag, first_is}
use Rattle.model.specs.World.{IsOpened}
use Rattle.threads_meaning.specs.Law.{OpensAsModel, alone, opened_log, opened_readers}
use Rattle.threads_meaning.specs.Modelled.{AreEntries, ArePublishers, AreReaders, HasReader, IsModel, KeepsReaders, armed_as}
use Rattle.threads_meaning.proofs.Parts.{armed_none}
use Rattle.threads_meaning.proofs.Resting.{modelled}

-- ---- rows

get_replicate : {A : Type 0} (n k : ℕ) (x : A) → k < n → slice_get (replicate n x) k ≡ Some x
get_replicate zero k x lt = absurd (omega arith)
get_replicate (suc n) zero x lt = refl
get_replicate (suc n) (suc k) x lt = get_replicate n k x (omega arith)

index_replicate : (n k x : ℕ) → k < n → slice_index (replicate n x) k ≡ x
index_replicate zero k x lt = absurd (omega arith)
index_replicate (suc n) zero x lt = refl
index_replicate (suc n) (suc k) x lt = index_replicate n k x (omega arith)

get_front : {A : Type 0} (n k : ℕ) (x : A) (ys : List A) → k < n → slice_get (replicate n x ++ ys) k ≡ Some x
get_front zero k x ys lt = absurd (omega arith)
get_front (suc n) zero x ys lt = refl
get_front (suc n) (suc k) x ys lt = get_front n k x ys (omega arith)

get_behind : {A : Type 0} (n k j : ℕ) (x : A) (ys : List A) → j ≡ n + k → slice_get (replicate n x ++ ys) j ≡ slice_get ys k
get_behind zero k j x ys e = ap (slice_get ys) (let same : j ≡ k = omega arith in same)
get_behind (suc n) k zero x ys e = absurd (omega arith)
get_behind (suc n) k (suc j) x ys e = get_behind n k j x ys (omega arith)

abbrev no_seats : ℕ → List (Option Consumer)
no_seats n = replicate n None

-- none behind the first ones is there
none_there : (n k : ℕ) (c : Consumer) → slice_get (no_seats n) k ≡ Some (Some c) → ⊥
none_there zero k c e = absurd (none-some (Some c) e)
none_there (suc n) zero c e = absurd (none-some c (same_of e))
  where
    same_of : {X : Type 0} {a c : X} → Some a ≡ Some c → a ≡ c
    same_of e = cc
none_there (suc n) (suc k) c e = none_there n k c e

consumer_among : (start k n j : ℕ) → j < n → Among (record { number = k + j; position = start; known = []; misses = 0 }) (consumers_at start k n)
consumer_among start k zero j lt = absurd (omega arith)
consumer_among start k (suc n) zero lt = inl (ap (λ (x : ℕ). record { number = x; position = start; known = []; misses = 0 }) (let e : k + 0 ≡ k = omega arith in e))
consumer_among start k (suc n) (suc j) lt = inr (subst (λ (x : ℕ). Among (record { number = x; position = start; known = []; misses = 0 }) (consumers_at start (suc k) n)) (let e : suc k + j ≡ k + suc j = omega arith in e) (consumer_among start (suc k) n j (omega arith)))

consumer_low : (start k n : ℕ) (r : Reading) → Among r (consumers_at start k n) → r.number < k + n
consumer_low start k zero r a = absurd a
consumer_low start k (suc n) r (inl e) = let same : r.number ≡ k = ap (λ (x : Reading). x.number) e in omega arith
consumer_low start k (suc n) r (inr a) = let low = consumer_low start (suc k) n r a in omega arith

first_long : (n : ℕ) → length (first_there n) ≡ n + (8 - n)
first_long n = let one : ℕ = 1 in let none : ℕ = 0 in length-append (replicate n one) (replicate (8 - n) none) ∙ (λ i. length-replicate n one i + length-replicate (8 - n) none i)

module _ (key : Key) (s : State (Unit {0}) View) (identity : IsIdentity key.identity) (q : LogRuled key s) (views : s.views ≡ whole_seat key ∷ []) where
  passes : map pass_in s.views ≡ whole_pass key ∷ []
  passes = ap (map pass_in) views

  here : get_elem? (map pass_in s.views) 0 ≡ some (whole_pass key)
  here = ap (λ (ps : List Pass). get_elem? ps 0) passes

  few : key.consumers ≤ 8
  few = let same : first_there key.consumers ≡ q.there = (q.kept.each 0 (whole_pass key) here).keeping.there refl in low key.consumers (sym (first_long key.consumers) ∙ ap length same ∙ q.kept.eight)
    where
      low : (n : ℕ) → n + (8 - n) ≡ 8 → n ≤ 8
      low n e = omega arith

  word : slice_index s.words limit_place ≡ key.start
  word = sym ((q.kept.each 0 (whole_pass key) here).keeping.limit refl)

  unit : key.start % 32 ≡ 0
  unit = q.ruled.claims.sound.unit

  rows : length (opened_readers key.start key.consumers) ≡ 8
  rows = length-append (replicate key.consumers (Some (consumer_at key.start))) (replicate (8 - key.consumers) None) ∙ (λ i. length-replicate key.consumers (Some (consumer_at key.start)) i + none_long (8 - key.consumers) i) ∙ eight key.consumers few
    where
      none_long : (n : ℕ) → length (no_seats n) ≡ n
      none_long n = length-replicate n None

      eight : (n : ℕ) → n ≤ 8 → n + (8 - n) ≡ 8
      eight n le = omega arith

  has_first : (j : ℕ) → j < key.consumers → HasReader (opened_readers key.start key.consumers) j
  has_first j lt = (consumer_at key.start, get_front key.consumers j (Some (consumer_at key.start)) (replicate (8 - key.consumers) None) lt)

  -- a reader that is there is one of the first, at the start
  first_only : (j : ℕ) (c : Consumer) → slice_get (opened_readers key.start key.consumers) j ≡ Some (Some c) → (j < key.consumers) × (c ≡ consumer_at key.start)
  first_only j c e = dite (dec_le key.consumers j)
      (λ past. absurd (none_there (8 - key.consumers) (j - key.consumers) c (sym (get_behind key.consumers (j - key.consumers) j (Some (consumer_at key.start)) (replicate (8 - key.consumers) None) (again key.consumers j past)) ∙ e)))
      (λ no. let lt = lt_of_not-le no in (lt, same_of (same_of (sym e ∙ get_front key.consumers j (Some (consumer_at key.start)) (replicate (8 - key.consumers) None) lt))))
    where
      same_of : {X : Type 0} {a c : X} → Some a ≡ Some c → a ≡ c
      same_of e = cc

      again : (n j : ℕ) → n ≤ j → j ≡ n + (j - n)
      again n j le = omega arith

  stands_at : (j : ℕ) → j < key.consumers → slice_index s.words (consumer_place j) ≡ key.start
  stands_at j lt =
      let r : Reading = record { number = 0 + j; position = key.start; known = []; misses = 0 } in let le = few in
      let at = (all_at (IsReader s.words (map pass_in s.views)) r (consumers_at key.start 0 key.consumers) (q.kept.each 0 (whole_pass key) here).readings (consumer_among key.start 0 key.consumers j lt)).position (omega arith) in
      ap (λ (x : ℕ). slice_index s.words (consumer_place x)) (let e : j ≡ 0 + j = omega arith in e) ∙ at

  one_pass : (P : Pass → Type 0) → P (whole_pass key) → (i : ℕ) (v : Pass) → get_elem? (map pass_in s.views) i ≡ some v → P v
  one_pass P p i v e = go i v (ap (λ (ps : List Pass). get_elem? ps i) (sym passes) ∙ e)
    where
      go : (i : ℕ) (v : Pass) → get_elem? (whole_pass key ∷ []) i ≡ some v → P v
      go zero v e = subst P (some-injective (whole_pass key) v e) p
      go (suc i) v e = absurd (some-ne-none v (sym e))

  opened_readers_are : AreReaders s.words (map pass_in s.views) key.start key.start [] (opened_readers key.start key.consumers)
  opened_readers_are = record {
    eight = rows;
    standing = λ j c there. (let f = first_only j c there in record { at = ap (λ (x : Consumer). x.at) f.1 ∙ sym (stands_at j f.0); heard = ap (λ (x : Consumer). x.lost) f.1; reached = record { read = []; chain = ap (λ (x : Consumer). x.at) f.1; among = tt } });
    mine = λ i v r at among low. one_pass (λ u. Among r u.reading → HasReader (opened_readers key.start key.consumers) r.number) (λ a. has_first r.number (subst (λ (x : ℕ). r.number < x) (let e : 0 + key.consumers ≡ key.consumers = omega arith in e) (consumer_low key.start 0 key.consumers r a))) i v at among;
    keeper = λ i v at one. one_pass (λ u. KeepsReaders key.start key.start [] (opened_readers key.start key.consumers) u.keeping) record {
      cleaned_to = refl;
      taken = λ j low there. has_first j (first_flag key.consumers j there);
      free = λ j low none. dite (dec_le key.consumers j)
          (λ past. get_behind key.consumers (j - key.consumers) j (Some (consumer_at key.start)) (replicate (8 - key.consumers) None) (again key.consumers j past) ∙ get_replicate (8 - key.consumers) (j - key.consumers) None (within key.consumers j past low))
          (λ no. absurd (one_none (slice_index (first_there key.consumers) j) (first_is key.consumers j (lt_of_not-le no)) none));
      seen = λ j low there. record { read = []; chain = index_replicate 8 j key.start low; among = tt };
    } i v at;
  }
    where
      again : (n j : ℕ) → n ≤ j → j ≡ n + (j - n)
      again n j le = omega arith

      within : (n j : ℕ) → n ≤ j → j < 8 → j - n < 8 - n
      within n j le lt = omega arith

      one_none : (n : ℕ) → n ≡ 1 → n ≡ 0 → ⊥
      one_none n a b = omega arith

  opens_model : IsOpened (alone (opened_log key)) × IsModel key [] s.words (map pass_in s.views) (opened_log key)
  opens_model = (
    record {
      geometry = q.ruled.claims.sound.geometry;
      identity = identity;
      unit = unit;
      below = q.ruled.claims.sound.below;
      tail = refl;
      entries = refl;
      armed = refl;
      retired = refl;
      limit = refl;
      connected = refl;
      closed = refl;
      cleaned = refl;
      readers = all_append (IfThere (λ r. r ≡ consumer_at key.start)) (replicate key.consumers (Some (consumer_at key.start))) (replicate (8 - key.consumers) None) (all_replicate (IfThere (λ r. r ≡ consumer_at key.start)) key.consumers (Some (consumer_at key.start)) refl) (all_replicate (IfThere (λ r. r ≡ consumer_at key.start)) (8 - key.consumers) None tt);
      sender = refl;
      images = refl;
    },
    modelled key [] s (opened_log key) q refl refl (whole key.start unit ∙ ap limit_in (sym word)) (sym (ap is_connected word ∙ ne_eqb (key.start % 2) 1 (even key.start unit))) (sym (ap is_closed word ∙ ne_eqb (key.start / 2 % 2) 1 (fourth key.start unit)))
        (subst (λ (ps : List Pass). AreEntries key ps key.start key.start []) (sym passes) record { log = []; claimed = λ h. refl; alike = tt; frames = λ h. refl; tiles = refl; are = tt; legal = tt })
        (subst (λ (ps : List Pass). ArePublishers [] ps (replicate 8 false) (replicate 8 false)) (sym passes) record {
          are_armed = λ n lt. get_replicate 8 n false lt ∙ ap (λ (x : ℕ). Some (nat_lt 0 x)) (sym (add_none (armed_as n (whole_pass key)) (armed_none n (whole_pass key) refl)));
          are_retired = λ n lt. get_replicate 8 n false lt;
          living = λ n lt pos. refl;
        })
        opened_readers_are,
  )
    where
      whole : (n : ℕ) → n % 32 ≡ 0 → n ≡ n / 4 * 4
      whole n u = omega arith

      even : (n : ℕ) → n % 32 ≡ 0 → n % 2 ≢ 1
      even n u e = omega (arith, e, u)

      fourth : (n : ℕ) → n % 32 ≡ 0 → n / 2 % 2 ≢ 1
      fourth n u e = omega (arith, e, u)

      add_none : (n : ℕ) → n ≡ 0 → n + 0 ≡ 0
      add_none n e = omega arith

pub opens_as_model : OpensAsModel
opens_as_model = opens_model
