-- The words and slots of a log that opens, as they are made.
use Rattle.std.proofs.Common.{◌≡◌, ◌≢◌, ℕ, zero, suc, ◌+◌, ◌-◌, ◌*◌, ◌/◌, ◌%◌, ◌<◌, ◌≤◌, List, [], ◌∷◌, ◌++◌, drop, length, length-append, length-set, get_or-set_same, get_or-set_other, replicate, set, take, sym, refl, ap, ◌∙◌, subst, div-add-mod', mul-le-mul_left, mul_comm, lt_of_not-le, arith}
use mathlib.Core.Logic.{dite}
use mathlib.Core.Option.{none, some}
use native.Mathlib.Decide.{dec_le, ℕ_discrete}
use lib.ListN.{get_elem?}
use Rattle.std.specs.Prelude.{slice_index}
use Rattle.std.proofs.lemmas.List.{drop-replicate, get_or-append_right, get_or_append_left, length-replicate, take-append-le, take-replicate}
use Rattle.theory.specs.Position.{Geometry, IsGeometry, id_of, max_position}
use Rattle.theory.specs.Words.{id_before, tail_word}
use Rattle.theory.proofs.Places.{power_unit}
use Rattle.position.specs.Openings.{IsConsumerCount}
use Rattle.region.specs.Identity as regions
use Rattle.region.specs.declared.access.Access.{Access}
use Rattle.region.specs.declared.access.WriteAccess.{WriteAccess}
use Rattle.log_rule.specs.declared.rule.Key.{Key}
use Rattle.log_rule.specs.declared.claims.view.Origin.{Origin}
use Rattle.log_rule.specs.Claims.Openings.{Fresh}
use Rattle.log_rule.specs.Claims.Packs.{consumer_place, table_length, tail_place}
use Rattle.log_rule.specs.Claims.Plays.{bounds_of}
use Rattle.log_rule.specs.Claims.Rule.{Sound}
use Rattle.log_rule.specs.Opening.{Begun}
use Rattle.log_rule.proofs.Claimed.Begun.{fresh_words, fresh_zeros, sound_key}
use Rattle.log_memory.specs.declared.view.Site.{Site}
use Rattle.log_memory.specs.Opening.{AreRooms, IsFirstWords, IsLeft, IsUnitOf, SlotsBegun, WordsBegun, control_words}
use Rattle.log_memory.specs.Places.{units}
use Rattle.log_memory.specs.Rule.{ring}
use Rattle.log_memory.proofs.Places.{some_units, units_are}

pub first_low : (g : Geometry) (start : ℕ) → start < max_position g → start / g.term_length < 2147483648
first_low g start below = low start g.term_length (start / g.term_length) (start % g.term_length) (div-add-mod' start g.term_length) below
  where
    low : (s t q m : ℕ) → q * t + m ≡ s → s < t * 2147483648 → q < 2147483648
    low s t q m e lt = dite (dec_le 2147483648 q) (λ le. absurd (let a : t * 2147483648 ≤ t * q = mul-le-mul_left t le in let x : ℕ = q * t in let c : t * q ≡ x = mul_comm t q in omega arith)) (λ no. let a = lt_of_not-le no in a)

-- words that are set alike
pub same_sets : (n start : ℕ) (ws : List ℕ) (count count' i i' j j' k k' x x' y y' z z' : ℕ) → ws ≡ replicate n 0 → count ≡ count' → i ≡ i' → j ≡ j' → k ≡ k' → x ≡ x' → y ≡ y' → z ≡ z'
    → set (set (set (set (set ws 0 start) 16 count) i x) j y) k z ≡ set (set (set (set (set (replicate {A = ℕ} n 0) 0 start) 16 count') i' x') j' y') k' z'
same_sets n start ws count count' i i' j j' k k' x x' y y' z z' w c a b d e f g = λ t. set (set (set (set (set (w t) 0 start) 16 (c t)) (a t) (e t)) (b t) (f t)) (d t) (g t)

-- ---- the slots

module _ (units slot : ℕ) (w : WriteAccess) (l : IsLeft units slot w) (inside : slot < 8 * units) (first : slot % 8 ≡ 0) where
  pub others_left : IsLeft units (slot + 1) (record w { at = w.at + 32; items = drop 32 w.items })
  others_left = record {
    at = (let a = l.at in omega arith);
    zeros = ap (drop 32) l.zeros ∙ drop-replicate 32 (32 * (units - (slot + 7) / 8)) 0 ∙ ap (λ (n : ℕ). replicate n 0) (let e : 32 * (units - (slot + 7) / 8) - 32 ≡ 32 * (units - (slot + 1 + 7) / 8) = omega arith in e);
  }

  pub unit_of_left : (g : Access) → g.write ≡ record w { items = take 32 w.items } → IsUnitOf w.identity slot g
  unit_of_left g is = record {
    identity = ap (λ (x : WriteAccess). x.identity) is;
    at = ap (λ (x : WriteAccess). x.at) is ∙ (let a = l.at in omega arith);
    zeros = ap (λ (x : WriteAccess). x.items) is ∙ ap (take 32) l.zeros ∙ take-replicate 32 (32 * (units - (slot + 7) / 8)) 0 (omega arith);
  }

pub same_left : (units slot : ℕ) (w : WriteAccess) → IsLeft units slot w → slot % 8 ≢ 0 → IsLeft units (slot + 1) w
same_left units slot w l ne = let e : (slot + 7) / 8 ≡ (slot + 1 + 7) / 8 = omega (arith, ne) in record { at = l.at ∙ ap (λ (n : ℕ). 32 * n) e; zeros = l.zeros ∙ ap (λ (n : ℕ). replicate (32 * (units - n)) 0) e }

-- one slot more
last_there : {A : Type 0} (xs : List A) (a : A) → get_elem? (xs ++ a ∷ []) (length xs) ≡ some a
last_there [] a = refl
last_there (x ∷ xs) a = last_there xs a

still_there : {A : Type 0} (xs ys : List A) (i : ℕ) (a : A) → get_elem? xs i ≡ some a → get_elem? (xs ++ ys) i ≡ some a
still_there [] ys i a e = absurd (none_some e)
  where
    none_some : {A : Type 0} {a : A} → none ≡ some a → ⊥
    none_some e = cc
still_there (x ∷ xs) ys zero a e = e
still_there (x ∷ xs) ys (suc i) a e = still_there xs ys i a e

pub one_slot_more : (region : regions.Identity) (slot : ℕ) (slots : List Access) (g : Access) → length slots ≡ slot → (slot % 8 ≡ 0 → IsUnitOf region slot g) → ((k : ℕ) → k % 8 ≡ 0 → k < slot → (h : Access) × (get_elem? slots k ≡ some h) × IsUnitOf region k h)
    → (k : ℕ) → k % 8 ≡ 0 → k < slot + 1 → (h : Access) × (get_elem? (slots ++ g ∷ []) k ≡ some h) × IsUnitOf region k h
one_slot_more region slot slots g long unit before k whole lt = dite (dec_le slot k)
    (λ le. let e : k ≡ slot = omega arith in (g, ap (get_elem? (slots ++ g ∷ [])) (e ∙ sym long) ∙ last_there slots g, subst (λ (n : ℕ). IsUnitOf region n g) (sym e) (unit (subst (λ (n : ℕ). n % 8 ≡ 0) e whole))))
    (λ no. let b = before k whole (lt_of_not-le no) in (b.0, still_there slots (g ∷ []) k b.0 b.1, b.2))

pub slots_begun : (t : Site) (slots : List Access) → AreRooms t.region.identity (ring t) slots → SlotsBegun t slots
slots_begun t slots a = record { long = a.long; room = λ k whole lt. let g = a.room k whole lt in (g.0, g.1, record { identity = g.2.identity; at = g.2.at; zeros = g.2.zeros }) }

-- ---- the words, and those of the stream

zero_at : (n i : ℕ) → slice_index (replicate {A = ℕ} n 0) i ≡ 0
zero_at zero i = refl
zero_at (suc n) zero = refl
zero_at (suc n) (suc i) = zero_at n i

-- two lists have the same but for the first, below a place
abbrev Agree : ℕ → List ℕ → List ℕ → Type 0
Agree n xs ys = (i : ℕ) → i < n → i ≢ 0 → slice_index xs i ≡ slice_index ys i

agree_set : (n : ℕ) (xs ys : List ℕ) (p x : ℕ) → p < length xs → p < length ys → Agree n xs ys → Agree n (set xs p x) (set ys p x)
agree_set n xs ys p x lx ly a i lt ne = dite (ℕ_discrete i p)
    (λ e. subst (λ (j : ℕ). slice_index (set xs p x) j ≡ slice_index (set ys p x) j) (sym e) (get_or-set_same xs p x 0 lx ∙ sym (get_or-set_same ys p x 0 ly)))
    (λ no. get_or-set_other xs p i x 0 no ∙ a i lt ne ∙ sym (get_or-set_other ys p i x 0 no))

pub first_long : (key : Key) (n : ℕ) (words : List ℕ) → IsFirstWords key n words → length words ≡ n
first_long key n words is = is.wide ∙ length-set _ _ _ ∙ length-set _ _ _ ∙ length-set _ _ _ ∙ length-set _ _ _ ∙ length-set _ _ _ ∙ length-replicate {A = ℕ} n 0

module _ (key : Key) (legal : IsGeometry key.identity.geometry) (unit : key.start % 32 ≡ 0) (below : key.start < max_position key.identity.geometry) where
  abbrev g : Geometry
  g = key.identity.geometry

  abbrev first : ℕ
  first = key.start / key.identity.geometry.term_length

  abbrev origin : Origin
  origin = record { identity = key.identity; start = key.start }

  sound : Sound (bounds_of origin)
  sound = sound_key origin legal unit below

  -- the stream's words before consumers are there
  abbrev fresh : List ℕ
  fresh = set (set (set (set (set (replicate {A = ℕ} (table_length g) 0) 0 (key.start + g.term_length / 2 + 1)) 16 first) (tail_place first) (tail_word (id_of g first) (key.start % g.term_length))) (tail_place (first + 1)) (tail_word (id_before g first 2) 0)) (tail_place (first + 2)) (tail_word (id_before g first 1) 0)

  is_fresh : Fresh (bounds_of origin) fresh
  is_fresh = fresh_words origin sound (table_length g) (tail_place first) (tail_place (first + 1)) (tail_place (first + 2)) (tail_word (id_of g first) (key.start % g.term_length)) (tail_word (id_before g first 2) 0) (tail_word (id_before g first 1) 0) refl refl refl refl refl refl refl

  module _ (n : ℕ) (wide : 208 ≤ n) (fits : n ≤ table_length g) where
    long : length (control_words key.identity key.start n) ≡ n
    long = length-set _ _ _ ∙ length-set _ _ _ ∙ length-set _ _ _ ∙ length-set _ _ _ ∙ length-set _ _ _ ∙ length-replicate {A = ℕ} n 0

    agree : Agree n (control_words key.identity key.start n) fresh
    agree =
        let z : List ℕ = replicate {A = ℕ} n 0 in let y : List ℕ = replicate {A = ℕ} (table_length g) 0 in let lz : length z ≡ n = length-replicate {A = ℕ} n 0 in let ly : length y ≡ table_length g = length-replicate {A = ℕ} (table_length g) 0 in
        let a0 : Agree n (set z 0 key.start) (set y 0 (key.start + g.term_length / 2 + 1)) = λ i lt ne. get_or-set_other z 0 i key.start 0 ne ∙ zero_at n i ∙ sym (get_or-set_other y 0 i (key.start + g.term_length / 2 + 1) 0 ne ∙ zero_at (table_length g) i) in
        let z1 : List ℕ = set z 0 key.start in let y1 : List ℕ = set y 0 (key.start + g.term_length / 2 + 1) in let lz1 : length z1 ≡ n = length-set z 0 key.start ∙ lz in let ly1 : length y1 ≡ table_length g = length-set y 0 (key.start + g.term_length / 2 + 1) ∙ ly in
        let z2 : List ℕ = set z1 16 first in let y2 : List ℕ = set y1 16 first in let lz2 : length z2 ≡ n = length-set z1 16 first ∙ lz1 in let ly2 : length y2 ≡ table_length g = length-set y1 16 first ∙ ly1 in
        let x : ℕ = tail_word (id_of g first) (key.start % g.term_length) in let x' : ℕ = tail_word (id_before g first 2) 0 in let x'' : ℕ = tail_word (id_before g first 1) 0 in
        let i : ℕ = tail_place first in let j : ℕ = tail_place (first + 1) in let k : ℕ = tail_place (first + 2) in
        let li : i < 208 = omega arith in let lj : j < 208 = omega arith in let lk : k < 208 = omega arith in
        let z3 : List ℕ = set z2 i x in let y3 : List ℕ = set y2 i x in let lz3 : length z3 ≡ n = length-set z2 i x ∙ lz2 in let ly3 : length y3 ≡ table_length g = length-set y2 i x ∙ ly2 in
        let z4 : List ℕ = set z3 j x' in let y4 : List ℕ = set y3 j x' in let lz4 : length z4 ≡ n = length-set z3 j x' ∙ lz3 in let ly4 : length y4 ≡ table_length g = length-set y3 j x' ∙ ly3 in
        agree_set n z4 y4 k x'' (low k n (length z4) lk wide lz4) (low k (table_length g) (length y4) lk (omega arith) ly4)
        (agree_set n z3 y3 j x' (low j n (length z3) lj wide lz3) (low j (table_length g) (length y3) lj (omega arith) ly3)
        (agree_set n z2 y2 i x (low i n (length z2) li wide lz2) (low i (table_length g) (length y2) li (omega arith) ly2)
        (agree_set n z1 y1 16 first (low 16 n (length z1) (omega arith) wide lz1) (low 16 (table_length g) (length y1) (omega arith) (omega arith) ly1) a0)))
      where
        low : (i n l : ℕ) → i < 208 → 208 ≤ n → l ≡ n → i < l
        low i n l a b e = omega arith

    limit : slice_index (control_words key.identity key.start n) 0 ≡ key.start
    limit =
        let z : List ℕ = replicate {A = ℕ} n 0 in let z1 : List ℕ = set z 0 key.start in let z2 : List ℕ = set z1 16 first in
        let x : ℕ = tail_word (id_of g first) (key.start % g.term_length) in let x' : ℕ = tail_word (id_before g first 2) 0 in let x'' : ℕ = tail_word (id_before g first 1) 0 in
        let i : ℕ = tail_place first in let j : ℕ = tail_place (first + 1) in let k : ℕ = tail_place (first + 2) in let z3 : List ℕ = set z2 i x in let z4 : List ℕ = set z3 j x' in
        get_or-set_other z4 k 0 x'' 0 (λ e. omega arith) ∙ get_or-set_other z3 j 0 x' 0 (λ e. omega arith) ∙ get_or-set_other z2 i 0 x 0 (λ e. omega arith) ∙ get_or-set_other z1 16 0 first 0 (λ e. omega arith)
        ∙ get_or-set_same z 0 key.start 0 (let l : length z ≡ n = length-replicate {A = ℕ} n 0 in omega arith)

    module _ (few : key.consumers ≤ 8) (words : List ℕ) (is : IsFirstWords key n words) where
      abbrev stream : List ℕ
      stream = words ++ replicate (table_length g - n) 0

      long_words : length words ≡ n
      long_words = is.wide ∙ long

      front_at : (i : ℕ) → i < n → slice_index stream i ≡ slice_index words i
      front_at i lt = get_or_append_left words (replicate (table_length g - n) 0) 0 i (let l = long_words in omega arith)

      begun : Begun key.start fresh key.consumers stream
      begun = record {
        wide = length-append words (replicate (table_length g - n) 0) ∙ sum (length words) n (length (replicate {A = ℕ} (table_length g - n) 0)) (table_length g) long_words (length-replicate {A = ℕ} (table_length g - n) 0) fits ∙ sym is_fresh.wide;
        limit = front_at 0 (omega arith) ∙ is.others 0 (λ j lt e. omega arith) ∙ limit;
        consumers = λ j lt. front_at (consumer_place j) (omega arith) ∙ is.consumers j lt;
        others = λ i no far. dite (dec_le n i)
            (λ le. get_or-append_right words (replicate (table_length g - n) 0) n i 0 long_words le ∙ zero_at (table_length g - n) (i - n) ∙ sym (fresh_zeros (bounds_of origin) fresh is_fresh i (omega arith)))
            (λ not. let lt = lt_of_not-le not in front_at i lt ∙ is.others i far ∙ agree i lt no);
      }
        where
          sum : (a n c m : ℕ) → a ≡ n → c ≡ m - n → n ≤ m → a + c ≡ m
          sum a n c m e f le = omega arith

      front : words ≡ take n stream
      front = sym (take-append-le n words (replicate (table_length g - n) 0) (let l = long_words in omega arith) ∙ whole words n long_words)
        where
          whole : (xs : List ℕ) (m : ℕ) → length xs ≡ m → take m xs ≡ xs
          whole xs m e = subst (λ (k : ℕ). take k xs ≡ xs) e (all xs)
            where
              all : (xs : List ℕ) → take (length xs) xs ≡ xs
              all [] = refl
              all (x ∷ xs) = ap (λ (l : List ℕ). x ∷ l) (all xs)

pub words_begun : (t : Site) → IsGeometry t.key.identity.geometry → t.key.start % 32 ≡ 0 → t.key.start < max_position t.key.identity.geometry → IsConsumerCount t.key.consumers → (words : List ℕ) → IsFirstWords t.key (208 + ring t) words → WordsBegun t words
words_begun t legal unit below count words is =
    let g = t.key.identity.geometry in let fits : 208 + ring t ≤ table_length g = (let e = units_are g (power_unit g.term_length legal.term.power legal.term.least) in let n : ℕ = units g in let e' : n * 32 ≡ 3 * g.term_length = e in let w = power_unit g.term_length legal.term.power legal.term.least in let m : ℕ = g.term_length in fit n m e' w) in record {
      sound = sound t.key legal unit below;
      some = (let c = count.0 in omega arith);
      few = count.1;
      fresh = fresh t.key legal unit below;
      is_fresh = is_fresh t.key legal unit below;
      stream = stream t.key legal unit below (208 + ring t) (omega arith) fits count.1 words is;
      begun = begun t.key legal unit below (208 + ring t) (omega arith) fits count.1 words is;
      front = front t.key legal unit below (208 + ring t) (omega arith) fits count.1 words is;
    }
  where
    fit : (n m : ℕ) → n * 32 ≡ 3 * m → m % 32 ≡ 0 → 208 + n ≤ 208 + 3 * (m / 8)
    fit n m e w = omega arith

pub some_bytes : (g : Geometry) → IsGeometry g → 0 < 32 * units g
some_bytes g legal = let p = some_units g legal.term.least in let n : ℕ = units g in omega arith

pub three_terms : (g : Geometry) (p : ℕ) → 32 * p ≡ g.term_length → units g ≡ 3 * p
unfolding units
three_terms g p e = let t : ℕ = g.term_length in let e' : 32 * p ≡ t = e in omega arith
