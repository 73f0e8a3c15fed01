-- An image that opens obeys the rule.
use Rattle.std.proofs.Common.{◌≡◌, ℕ, zero, suc, ◌+◌, ◌*◌, map, ◌/◌, ◌%◌, ◌<◌, ◌≤◌, List, [], ◌∷◌, length, replicate, suc-ne-zero, inl, ⊎_elim, sym, refl, ap, ◌∙◌, subst, arith}
use Rattle.std.proofs.lemmas.List.{length-replicate}
use Rattle.std.specs.Prelude.{slice_index}
use Rattle.std.specs.Int.{bit_at}
use Rattle.std.proofs.lemmas.Nat.Bits.{bit_at-zero}
use mathlib.Core.Option.{some, some-injective, some-ne-none}
use lib.ListN.{get_elem?}
use Rattle.atomic_table.specs.Table.{opening}
use Rattle.image_rule.specs.declared.view.Key.{Key}
use Rattle.region.specs.declared.access.ReadAccess.{ReadAccess}
use Rattle.image_rule.specs.declared.view.Site.{Site}
use Rattle.image_rule.specs.declared.view.View.{View}
use Rattle.image_rule.specs.Frames.{Has, StartsAt, held_bit, held_place, image_length, ring, slot_of, start_bit, start_place}
use Rattle.image_rule.proofs.Memory.{slot_low}
use Rattle.image_rule.specs.Rule.{Begun, ImageRuled, IsKey, Knows, Owners, Sound, Stands, first_held, first_seat, whole_seat}
use Rattle.image_rule.specs.Bits.{InRun, IsExact}

pub zeros_at : (n i : ℕ) → slice_index (replicate n 0) i ≡ 0
zeros_at zero i = refl
zeros_at (suc n) zero = refl
zeros_at (suc n) (suc i) = zeros_at n i

no_bit : (key : Key) (u : ℕ) → held_bit (ring key) (first_held key).words u ≡ 0
no_bit key u = ap (λ (w : ℕ). bit_at w (u % 64)) (zeros_at (image_length (ring key)) (held_place (ring key) u)) ∙ bit_at-zero (u % 64)

first_sound : (key : Key) → Sound key (first_held key)
first_sound key = record {
  joined = omega arith;
  long = length-replicate (image_length (ring key)) 0;
  full = λ f a. absurd a;
  near = λ f a. absurd a;
  fits = λ f a. absurd a;
  low = λ f a. absurd a;
  spelt = λ f a. absurd a;
  apart = λ f g u a b c d. absurd a;
  marked = λ f a. absurd a;
  honest = λ u from near reached bit. (let z = no_bit key u in absurd (omega arith));
}

no_start : (key : Key) (u : ℕ) → start_bit (ring key) (first_held key).words u ≡ 0
no_start key u = ap (λ (w : ℕ). bit_at w (u % 64)) (zeros_at (image_length (ring key)) (start_place (ring key) u)) ∙ bit_at-zero (u % 64)

pub first_exact : (key : Key) → IsKey key → IsExact key (first_held key)
first_exact key is = record {
  sound = first_sound key;
  marked = record {
    long = length-replicate (image_length (ring key)) 0;
    joined = omega arith;
    below = λ u h. absurd h.among;
    set = λ u a b o. ⊎_elim (λ (h : Has [] u). absurd h.among) (λ (r : InRun 0 0 u). let e = r.1 in absurd (omega arith)) o;
    only = λ u a b bit. (let z = no_bit key u in absurd (omega arith));
  };
  started = record {
    set = λ u a b o. ⊎_elim (λ (h : StartsAt [] u). absurd h.among) (λ (r : InRun 0 0 u). let e = r.1 in absurd (omega arith)) o;
    only = λ u a b bit. (let z = no_start key u in absurd (omega arith));
  };
}

first_stands : (key : Key) → Stands key (first_held key) key.join
first_stands key = record { from = omega arith; reached = λ v a b. absurd (omega arith); edge = λ f a. absurd a }

one_view : (v w : View) (i : ℕ) → get_elem? (v ∷ []) i ≡ some w → (i ≡ 0) × (v ≡ w)
one_view v w zero e = (refl, some-injective v w e)
one_view v w (suc i) e = absurd (some-ne-none w (sym e))

pub opens : (t : Site) (words : List ℕ) (slots : List ReadAccess) → IsKey t.key → Begun t.key words → length slots ≡ 8 * ring t.key → ImageRuled t (opening words slots (whole_seat t))
opens t words slots is b long =
    let key = t.key in
    let owners : Owners = record { inserter = 0; sits = λ j. 0 } in
    let knows : Knows key (first_held key) owners words 0 (first_seat key) = record {
      inserts = λ one. record { seat = refl; held = refl; seen = length-replicate key.consumers key.join; looks = length-replicate key.consumers 0 };
      few = (let e : length (replicate key.consumers key.join) ≡ key.consumers = length-replicate key.consumers key.join in omega arith);
      swept = λ j lt. (let e : length (replicate key.consumers key.join) ≡ key.consumers = length-replicate key.consumers key.join in
          let low : j < key.consumers = omega arith in let a = b.consumers j low in let c : slice_index (replicate key.consumers key.join) j ≡ key.join = same_at key.consumers key.join j low in omega arith);
      reads = λ one. absurd (suc-ne-zero 0 (sym one));
      deals = λ j lt. record { inside = lt; seat = refl; position = b.consumers j lt };
      known = λ f a. absurd a;
    } in record {
      held = first_held key;
      owners = owners;
      rounds = λ u. (0, 0);
      words = record {
        is_key = is;
        sound = first_sound key;
        long = b.long;
        mirrors = λ k lt. b.zeros k lt ∙ sym (zeros_at (image_length (ring key)) k);
        stands = λ j lt. record { unit = key.join; is = b.consumers j lt; stands = first_stands key };
        each = λ i v e. (let o = one_view (first_seat key) v i e in subst (λ (x : ℕ × View). Knows key (first_held key) owners words x.0 x.1) (λ j. (sym o.0 j, o.1 j)) knows);
      };
      memory = record {
        shelves = map_long slots ∙ long;
        freed = λ j lt. (let e = b.consumers j lt in omega arith);
        holding = λ i v e has. (let o = one_view (first_seat key) v i e in let q = ap (λ (x : View). x.reading.holds) o.1 in let h = has.holds in absurd (omega arith));
        left = λ u e. absurd (suc-ne-zero u (sym e));
        slots = λ u j lo hi lt. (let a = all_home slots (slot_of (ring key) u j) (let l = slot_low (ring key) u j is.some lt in omega arith) in inl record { part = a.0; there = a.1; is = λ f among at from. absurd among });
      };
    }
  where
    map_long : (l : List ReadAccess) → length (map some l) ≡ length l
    map_long [] = refl
    map_long (x ∷ xs) = ap suc (map_long xs)

    all_home : (l : List ReadAccess) (i : ℕ) → i < length l → (g : ReadAccess) × (get_elem? (map some l) i ≡ some (some g))
    all_home [] i lt = absurd (omega arith)
    all_home (x ∷ xs) zero lt = (x, refl)
    all_home (x ∷ xs) (suc i) lt = all_home xs i (omega arith)

    same_at : (n x i : ℕ) → i < n → slice_index (replicate n x) i ≡ x
    same_at zero x i lt = absurd (omega arith)
    same_at (suc n) x zero lt = refl
    same_at (suc n) x (suc i) lt = same_at n x i (omega arith)

-- ---- the ring of three terms

pub ring_is : (key : Key) (n : ℕ) → n ≡ 3 * key.identity.geometry.term_length / 32 → n ≡ ring key
unfolding ring
ring_is key n e = e

pub key_is : (key : Key) → key.identity.geometry.term_length % 65536 ≡ 0 → 0 < key.identity.geometry.term_length → key.identity.geometry.term_length ≤ 16777216 → key.consumers ≤ 8 → IsKey key
unfolding ring
key_is key whole some' short few = record { some = omega arith; whole = omega arith; bytes = omega arith; short = short; few = few }
