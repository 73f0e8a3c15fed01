-- The memory of an image's frames, as it is taken and taken back.
use Rattle.std.proofs.Common.{◌≡◌, ℕ, zero, suc, ◌+◌, ◌-◌, ◌*◌, ◌/◌, ◌%◌, ◌<◌, ◌≤◌, ◌⊎◌, ⊎_elim, inl, inr, Bool, true, false, List, [], ◌∷◌, length, length-set, refl, sym, ap, ◌∙◌, subst, arith, mod-lt, eq-eqb, ne_eqb}
use Rattle.std.specs.Prelude.{slice_index, slice_set, take, if◌then◌else◌}
use Rattle.std.specs.Int.{to_le_bytes, w64}
use Rattle.std.proofs.Math.Nat.{add-mod_left}
use Rattle.std.proofs.lemmas.Bool.{cases_lt}
use mathlib.Core.Option.{some}
use mathlib.Core.Logic.{dite}
use native.Mathlib.Decide.{ℕ_discrete}
use lib.ListN.{get_elem?}
use Rattle.region.specs.Pooled.{AreAll, all_of, stands}
use Rattle.image_rule.specs.declared.view.Frame.{Frame}
use Rattle.image_rule.specs.declared.view.Held.{Held}
use Rattle.image_rule.specs.declared.view.Key.{Key}
use Rattle.image_rule.specs.Frames.{Among, Covers, StartsAt, byte_place, end_of, ring}
use Rattle.image_rule.specs.Bits.{MayInsert}
use Rattle.image_rule.specs.Rule.{IsKey, Sound}
use Rattle.image_rule.proofs.Memory.{one_slot}
use Rattle.image.specs.Memory.{HasBytes, HasMemory, found_at}
use Rattle.image.proofs.Places.{inside_place}

-- ---- bytes that are free

pub stands_length : (v : Bool) (at len : ℕ) (fs : List Bool) → length (stands v at len fs) ≡ length fs
stands_length v at len [] = refl
stands_length v zero zero (f ∷ fs) = refl
stands_length v zero (suc len) (f ∷ fs) = ap suc (stands_length v zero len fs)
stands_length v (suc at) len (f ∷ fs) = ap suc (stands_length v at len fs)

stands_in : (v : Bool) (at len : ℕ) (fs : List Bool) (j : ℕ) → at ≤ j → j < at + len → j < length fs → get_elem? (stands v at len fs) j ≡ some v
stands_in v at len [] j lo hi inside = absurd (omega arith)
stands_in v zero zero (f ∷ fs) j lo hi inside = absurd (omega arith)
stands_in v zero (suc len) (f ∷ fs) zero lo hi inside = refl
stands_in v zero (suc len) (f ∷ fs) (suc j) lo hi inside = stands_in v zero len fs j (omega arith) (omega arith) (omega arith)
stands_in v (suc at) len (f ∷ fs) zero lo hi inside = absurd (omega arith)
stands_in v (suc at) len (f ∷ fs) (suc j) lo hi inside = stands_in v at len fs j (omega arith) (omega arith) (omega arith)

stands_out : (v : Bool) (at len : ℕ) (fs : List Bool) (j : ℕ) → (j < at) ⊎ (at + len ≤ j) → get_elem? (stands v at len fs) j ≡ get_elem? fs j
stands_out v at len [] j o = refl
stands_out v zero zero (f ∷ fs) j o = refl
stands_out v zero (suc len) (f ∷ fs) zero (inl lt) = absurd (omega arith)
stands_out v zero (suc len) (f ∷ fs) zero (inr le) = absurd (omega arith)
stands_out v zero (suc len) (f ∷ fs) (suc j) (inl lt) = absurd (omega arith)
stands_out v zero (suc len) (f ∷ fs) (suc j) (inr le) = stands_out v zero len fs j (inr (omega arith))
stands_out v (suc at) len (f ∷ fs) zero o = refl
stands_out v (suc at) len (f ∷ fs) (suc j) (inl lt) = stands_out v at len fs j (inl (omega arith))
stands_out v (suc at) len (f ∷ fs) (suc j) (inr le) = stands_out v at len fs j (inr (omega arith))

stands_kept : (v : Bool) (at len : ℕ) (fs : List Bool) (j : ℕ) → get_elem? fs j ≡ some v → get_elem? (stands v at len fs) j ≡ some v
stands_kept v at len [] j e = e
stands_kept v zero zero (f ∷ fs) j e = e
stands_kept v zero (suc len) (f ∷ fs) zero e = refl
stands_kept v zero (suc len) (f ∷ fs) (suc j) e = stands_kept v zero len fs j e
stands_kept v (suc at) len (f ∷ fs) zero e = e
stands_kept v (suc at) len (f ∷ fs) (suc j) e = stands_kept v at len fs j e

all_kept : (v : Bool) (at len a n : ℕ) (fs : List Bool) → AreAll v a n fs → AreAll v a n (stands v at len fs)
all_kept v at len a n fs all j lo hi = stands_kept v at len fs j (all j lo hi)

all_out : (v w : Bool) (at len a n : ℕ) (fs : List Bool) → ((j : ℕ) → a ≤ j → j < a + n → (j < at) ⊎ (at + len ≤ j)) → AreAll v a n fs → AreAll v a n (stands w at len fs)
all_out v w at len a n fs apart all j lo hi = stands_out w at len fs j (apart j lo hi) ∙ all j lo hi

all_in : (v : Bool) (at len a n : ℕ) (fs : List Bool) → at ≤ a → a + n ≤ at + len → at + len ≤ length fs → AreAll v a n (stands v at len fs)
all_in v at len a n fs from to inside j lo hi = stands_in v at len fs j (omega arith) (omega arith) (omega arith)

free_all : (n j : ℕ) → j < n → get_elem? (all_of n) j ≡ some true
free_all zero j lt = absurd (omega arith)
free_all (suc n) zero lt = refl
free_all (suc n) (suc j) lt = free_all n j (omega arith)

all_length : (n : ℕ) → length (all_of n) ≡ n
all_length zero = refl
all_length (suc n) = ap suc (all_length n)

-- ---- places of units

-- a place of the run of units from one on is that of one of them
unit_in : (n unit units q : ℕ) → 0 < n → unit % n + units ≤ n → unit % n ≤ q → q < unit % n + units → (unit + (q - unit % n)) % n ≡ q
unit_in n unit units q positive whole lo hi = inside_place n unit units (q - unit % n) positive whole (omega arith) ∙ (let e : unit % n + (q - unit % n) ≡ q = omega arith in e)

-- in a ring from a floor on the unit of such a place is one of the run
in_run : (n floor unit units u : ℕ) → 0 < n → unit % n + units ≤ n → floor ≤ unit → unit + units ≤ floor + n → floor ≤ u → u < floor + n → unit % n ≤ u % n → u % n < unit % n + units → (unit ≤ u) × (u < unit + units)
in_run n floor unit units u positive whole from to lo hi a b =
    let d : ℕ = u % n - unit % n in
    let e : u ≡ unit + d = one_slot n floor u (unit + d) lo hi (omega arith) (omega arith) (sym (unit_in n unit units (u % n) positive whole a b)) in
    (omega arith, omega arith)

-- ---- words that are written down

set_same : (xs : List ℕ) (k x : ℕ) → k < length xs → slice_index (slice_set xs k x) k ≡ x
set_same [] k x lt = absurd (omega arith)
set_same (y ∷ ys) zero x lt = refl
set_same (y ∷ ys) (suc k) x lt = set_same ys k x (omega arith)

set_other : (xs : List ℕ) (k i x : ℕ) → (k ≡ i → ⊥) → slice_index (slice_set xs k x) i ≡ slice_index xs i
set_other [] k i x no' = refl
set_other (y ∷ ys) zero zero x no' = absurd (no' refl)
set_other (y ∷ ys) zero (suc i) x no' = refl
set_other (y ∷ ys) (suc k) zero x no' = refl
set_other (y ∷ ys) (suc k) (suc i) x no' = set_other ys k i x (λ e. no' (ap suc e))

-- ---- the memory of frames

module _ (key : Key) (is : IsKey key) (h : Held) (free : List Bool) (heads : List ℕ) (mem : HasMemory (ring key) h free heads) where
  positive : 0 < ring key
  positive = is.some

  -- the bytes of a run end where the region does, at the latest
  run_inside : (unit units : ℕ) → unit % ring key + units ≤ ring key → byte_place (ring key) unit + 32 * units ≤ length free
  run_inside unit units whole = let p = mem.pool in omega arith

  module _ (f : Frame) (may : MayInsert key h f) (whole : f.unit % ring key + f.units ≤ ring key) where
    -- a frame may be written where no other's bytes lie
    pub free_run : AreAll true (byte_place (ring key) f.unit) (32 * f.units) free
    free_run j lo hi =
        let q : ℕ = j / 32 in let d : ℕ = q - f.unit % ring key in let u : ℕ = f.unit + d in
        let e : u % ring key ≡ q = unit_in (ring key) f.unit f.units q positive whole (omega arith) (omega arith) in
        let from = may.from in let near = may.near in
        mem.free u (omega arith) (omega arith) (λ g a past c. may.free u (omega arith, omega arith) (record { frame = g; among = a; covers = c })) j (omega arith) (omega arith)

    -- a unit of none of them, and not of that frame, has no byte of it
    apart_unit : (u : ℕ) → h.floor ≤ u → u < h.floor + ring key → (Covers f u → ⊥) → (j : ℕ) → byte_place (ring key) u ≤ j → j < byte_place (ring key) u + 32 → (j < byte_place (ring key) f.unit) ⊎ (byte_place (ring key) f.unit + 32 * f.units ≤ j)
    apart_unit u lo hi not j a b =
        ⊎_elim
        (λ (l : j < byte_place (ring key) f.unit). inl l)
        (λ (l : byte_place (ring key) f.unit ≤ j).
        ⊎_elim
        (λ (k : j < byte_place (ring key) f.unit + 32 * f.units). absurd (not (in_run (ring key) h.floor f.unit f.units u positive whole may.from (let x = may.near in omega arith) lo hi (omega arith) (omega arith))))
        (λ (k : byte_place (ring key) f.unit + 32 * f.units ≤ j). inr k)
        (cases_lt j (byte_place (ring key) f.unit + 32 * f.units)))
        (cases_lt j (byte_place (ring key) f.unit))

    pub memory_stored : (k : Held) (first : ℕ) (sound : Sound key h) → k.floor ≡ h.floor → k.got ≡ f ∷ h.got → k.freed ≡ h.freed → h.freed ≤ f.unit → to_le_bytes w64 first ≡ take 8 f.bytes
        → HasMemory (ring key) k (stands false (byte_place (ring key) f.unit) (32 * f.units) free) (slice_set heads (f.unit % ring key) first)
    memory_stored k first sound floor got freed past bytes =
        subst (λ (x : ℕ × List Frame × ℕ). HasMemory (ring key) (record k { floor = x.0; got = x.1; freed = x.2 }) (stands false (byte_place (ring key) f.unit) (32 * f.units) free) (slice_set heads (f.unit % ring key) first)) (λ j. (sym floor j, sym got j, sym freed j))
        (record {
          pool = stands_length false (byte_place (ring key) f.unit) (32 * f.units) free ∙ mem.pool;
          long = length-set heads (f.unit % ring key) first ∙ mem.long;
          floor = mem.floor;
          edge = λ g a lt. ⊎_elim (λ (e : g ≡ f). (let u : g.unit ≡ f.unit = ap (λ (x : Frame). x.unit) e in absurd (omega arith))) (λ (o : Among g h.got). mem.edge g o lt) a;
          free = λ u lo hi outside. all_out true false (byte_place (ring key) f.unit) (32 * f.units) (byte_place (ring key) u) 32 free (apart_unit u lo hi (λ c. outside f (inl refl) past c)) (mem.free u lo hi (λ g a p c. outside g (inr a) p c));
          bytes = λ g a p. ⊎_elim
              (λ (e : g ≡ f). subst (HasBytes (ring key) (stands false (byte_place (ring key) f.unit) (32 * f.units) free) (slice_set heads (f.unit % ring key) first)) (sym e) (mine first bytes))
              (λ (o : Among g h.got). others g first sound o p)
              a;
        })
      where
        mine : (first : ℕ) → to_le_bytes w64 first ≡ take 8 f.bytes → HasBytes (ring key) (stands false (byte_place (ring key) f.unit) (32 * f.units) free) (slice_set heads (f.unit % ring key) first) f
        mine first bytes = record {
          whole = whole;
          out = all_in false (byte_place (ring key) f.unit) (32 * f.units) (byte_place (ring key) f.unit) (32 * f.units) free (omega arith) (omega arith) (run_inside f.unit f.units whole);
          head = ap (to_le_bytes w64) (set_same heads (f.unit % ring key) first (let l = mod-lt f.unit positive in let m = mem.long in omega arith)) ∙ bytes;
        }

        others : (g : Frame) (first : ℕ) (sound : Sound key h) → Among g h.got → h.freed ≤ g.unit → HasBytes (ring key) (stands false (byte_place (ring key) f.unit) (32 * f.units) free) (slice_set heads (f.unit % ring key) first) g
        others g first sound a p =
            let old = mem.bytes g a p in let fl = mem.floor in let near = sound.near g a in let full = sound.full g a in let from = may.from in let end = may.near in let some_f = may.full in
            let not : f.unit % ring key ≡ g.unit % ring key → ⊥ = λ e.
            let same : f.unit ≡ g.unit = one_slot (ring key) h.floor f.unit g.unit from (omega arith) (omega arith) (omega arith) e in
            may.free f.unit (omega arith, omega arith) (record { frame = g; among = a; covers = (omega arith, omega arith) }) in
            record {
              whole = old.whole;
              out = all_kept false (byte_place (ring key) f.unit) (32 * f.units) (byte_place (ring key) g.unit) (32 * g.units) free old.out;
              head = ap (to_le_bytes w64) (set_other heads (f.unit % ring key) (g.unit % ring key) first not) ∙ old.head;
            }

  -- ---- its memory is taken back

  module _ (f : Frame) (sound : Sound key h) (among : Among f h.got) (here : f.unit ≡ h.freed) where
    has : HasBytes (ring key) free heads f
    has = mem.bytes f among (omega (arith, here))

    -- a frame that begins among its units is it
    only : (g : Frame) → Among g h.got → h.freed ≤ g.unit → g.unit < end_of f → g ≡ f
    only g a lo hi = let s = sound.full g a in sound.apart g f g.unit a among (omega arith, omega arith) (omega (arith, here), omega arith)

    pub memory_freed : (out : ℕ) → HasMemory (ring key) (record h { freed = end_of f; out = out }) (stands true (byte_place (ring key) f.unit) (32 * f.units) free) heads
    memory_freed out = record {
      pool = stands_length true (byte_place (ring key) f.unit) (32 * f.units) free ∙ mem.pool;
      long = mem.long;
      floor = (let a = mem.floor in omega (arith, here));
      edge = λ g a lt. ⊎_elim (λ (l : g.unit < h.freed). (let e = mem.edge g a l in omega (arith, here))) (λ (l : h.freed ≤ g.unit). (let e : end_of g ≡ end_of f = ap end_of (only g a l lt) in omega (arith, e))) (cases_lt g.unit h.freed);
      free = λ u lo hi outside. ⊎_elim (λ (l : u < f.unit). before u lo hi outside (λ c. (let x = c.0 in omega arith))) (λ (l : f.unit ≤ u). ⊎_elim (λ (k : u < end_of f). inside u l k) (λ (k : end_of f ≤ u). before u lo hi outside (λ c. (let x = c.1 in omega arith))) (cases_lt u (end_of f))) (cases_lt u f.unit);
      bytes = λ g a p. others g a p;
    }
      where
        inside : (u : ℕ) → f.unit ≤ u → u < end_of f → AreAll true (byte_place (ring key) u) 32 (stands true (byte_place (ring key) f.unit) (32 * f.units) free)
        inside u lo hi =
            let w = has.whole in
            let e : (f.unit + (u - f.unit)) % ring key ≡ f.unit % ring key + (u - f.unit) = inside_place (ring key) f.unit f.units (u - f.unit) positive w (omega arith) in
            let s : f.unit + (u - f.unit) ≡ u = omega arith in
            let at : u % ring key ≡ f.unit % ring key + (u - f.unit) = ap (λ (x : ℕ). x % ring key) (sym s) ∙ e in
            all_in true (byte_place (ring key) f.unit) (32 * f.units) (byte_place (ring key) u) 32 free (omega arith) (omega arith) (run_inside f.unit f.units w)

        before : (u : ℕ) → h.floor ≤ u → u < h.floor + ring key → ((g : Frame) → Among g h.got → end_of f ≤ g.unit → Covers g u → ⊥) → (Covers f u → ⊥) → AreAll true (byte_place (ring key) u) 32 (stands true (byte_place (ring key) f.unit) (32 * f.units) free)
        before u lo hi outside not =
            all_kept true (byte_place (ring key) f.unit) (32 * f.units) (byte_place (ring key) u) 32 free
            (mem.free u lo hi (λ g a p c. ⊎_elim (λ (l : g.unit < end_of f). not (subst (λ (x : Frame). Covers x u) (only g a p l) c)) (λ (l : end_of f ≤ g.unit). outside g a l c) (cases_lt g.unit (end_of f))))

        others : (g : Frame) → Among g h.got → end_of f ≤ g.unit → HasBytes (ring key) (stands true (byte_place (ring key) f.unit) (32 * f.units) free) heads g
        others g a p =
            let full = sound.full f among in let old = mem.bytes g a (omega (arith, here)) in let near = sound.near g a in let near_f = sound.near f among in let fl = mem.floor in let w = has.whole in let wg = old.whole in let full_g = sound.full g a in
            record {
              whole = old.whole;
              out = all_out false true (byte_place (ring key) f.unit) (32 * f.units) (byte_place (ring key) g.unit) (32 * g.units) free
                  (λ j lo hi. ⊎_elim
                  (λ (l : j < byte_place (ring key) f.unit). inl l)
                  (λ (l : byte_place (ring key) f.unit ≤ j). ⊎_elim
                  (λ (k : j < byte_place (ring key) f.unit + 32 * f.units).
                  let u : ℕ = g.unit + (j / 32 - g.unit % ring key) in
                  let e : u % ring key ≡ j / 32 = unit_in (ring key) g.unit g.units (j / 32) positive wg (omega arith) (omega arith) in
                  let r = in_run (ring key) h.floor f.unit f.units u positive w (omega (arith, here)) (omega arith) (omega (arith, here)) (omega arith) (omega arith) (omega arith) in
                  let r1 = r.1 in absurd (omega arith))
                  (λ (k : byte_place (ring key) f.unit + 32 * f.units ≤ j). inr k)
                  (cases_lt j (byte_place (ring key) f.unit + 32 * f.units)))
                  (cases_lt j (byte_place (ring key) f.unit)))
                  old.out;
              head = old.head;
            }

  -- ---- the floor rises

  pub memory_lowered : (k : Held) → h.floor ≤ k.floor → k.floor ≤ h.freed → k.got ≡ h.got → k.freed ≡ h.freed → k.floor ≤ h.floor + ring key → HasMemory (ring key) k free heads
  memory_lowered k up low got freed near =
      subst (λ (x : List Frame × ℕ). HasMemory (ring key) (record k { got = x.0; freed = x.1 }) free heads) (λ j. (sym got j, sym freed j))
      (record {
        pool = mem.pool;
        long = mem.long;
        floor = low;
        edge = mem.edge;
        free = λ u lo hi outside. ⊎_elim
            (λ (l : u < h.floor + ring key). mem.free u (omega arith) l outside)
            (λ (l : h.floor + ring key ≤ u).
            let x : ℕ = u - ring key in let s : ring key + x ≡ u = omega arith in
            let e : u % ring key ≡ x % ring key = ap (λ (y : ℕ). y % ring key) (sym s) ∙ add-mod_left (ring key) x in
            subst (λ (q : ℕ). AreAll true (32 * q) 32 free) (sym e) (mem.free x (omega arith) (omega arith) (λ g a p c. (let c0 = c.0 in omega arith))))
            (cases_lt u (h.floor + ring key));
        bytes = mem.bytes;
      })

-- ---- the frame at a unit

pub found_there : (got : List Frame) (u : ℕ) → StartsAt got u → Among (found_at got u) got × ((found_at got u).unit ≡ u)
found_there [] u s = absurd s.among
found_there (f ∷ fs) u s =
    dite (ℕ_discrete f.unit u)
    (λ e. let t : found_at (f ∷ fs) u ≡ f = ap (λ (b : Bool). if b then f else found_at fs u) (eq-eqb f.unit u e) in (inl t, ap (λ (x : Frame). x.unit) t ∙ e))
    (λ no'.
    let t : found_at (f ∷ fs) u ≡ found_at fs u = ap (λ (b : Bool). if b then f else found_at fs u) (ne_eqb f.unit u no') in
    let a : Among s.frame fs = ⊎_elim (λ (e : s.frame ≡ f). absurd (no' (sym (ap (λ (x : Frame). x.unit) e) ∙ s.here))) (λ (o : Among s.frame fs). o) s.among in
    let r = found_there fs u (record { frame = s.frame; among = a; here = s.here }) in
    (inr (subst (λ (x : Frame). Among x fs) (sym t) r.0), ap (λ (x : Frame). x.unit) t ∙ r.1))

-- ---- an image that opens

pub memory_first : (key : Key) (h : Held) (free : List Bool) (heads : List ℕ) → IsKey key → h.got ≡ [] → h.freed ≡ h.floor → free ≡ all_of (32 * ring key) → length heads ≡ ring key → HasMemory (ring key) h free heads
memory_first key h free heads is none freed all long =
    subst (λ (x : List Bool). HasMemory (ring key) h x heads) (sym all) (record {
      pool = all_length (32 * ring key);
      long = long;
      floor = omega (arith, freed);
      edge = λ f a lt. absurd (subst (Among f) none a);
      free = λ u lo hi outside j a b. free_all (32 * ring key) j (let l = mod-lt u is.some in omega arith);
      bytes = λ f a p. absurd (subst (Among f) none a);
    })
