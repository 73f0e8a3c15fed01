-- The room that an addition takes is that of the frames that it opens.
use Rattle.std.proofs.Common.{◌≡◌, ℕ, zero, suc, ◌+◌, ◌-◌, ◌*◌, ◌/◌, ◌%◌, ◌<◌, ◌≤◌, List, [], ◌∷◌, ◌++◌, length, min, replicate, sym, refl, ap, ◌∙◌, subst, lt_of_not-le, arith}
use Rattle.std.proofs.Math.Nat.{mul_left_comm}
use Rattle.std.proofs.lemmas.List.{length-replicate}
use Rattle.std.proofs.lemmas.Nat.{mod-mul-add}
use mathlib.Core.Logic.{dite}
use native.Mathlib.Decide.{dec_le}
use Rattle.theory.specs.Position.{Geometry, IsGeometry, aligned, cuts_of, framed_length, span}
use Rattle.theory.specs.Words.{offset_in}
use Rattle.theory.proofs.Claims.{span_is}
use Rattle.theory.proofs.Places.{power_unit}
use Rattle.publication.specs.declared.pass.FrameWords.{FrameWords}
use Rattle.publication.specs.declared.pass.Pass.{Pass}
use Rattle.publication.specs.Steps as steps
use Rattle.publication.specs.Steps.{blank, blanks, count_in, geometry_of, start_in, term_of}
use Rattle.region.specs.declared.access.Access.{Access}
use Rattle.log_memory.specs.declared.view.Site.{Site}
use Rattle.log_memory.specs.Open.{HoldsOpen, HoldsRooms, slots_in}
use Rattle.log_memory.specs.Order.{rotated}
use Rattle.log_memory.specs.Places.{slot_of, units}
use Rattle.log_memory.specs.Rule.{ring}
use Rattle.log_memory.specs.Steps.{Carries, CarriesRange, IsRoomAt, Mine, TakesRoom}
use Rattle.log_memory.proofs.OpenRooms.{holds_both, holds_turned}
use Rattle.log_memory.proofs.Places.{add_small, in_ring, in_row, units_are}

-- a row in two
pub carries_cut : (is : ℕ → Access → Type 0) (k a b : ℕ) (before mine : List (ℕ × Access)) → Carries is k (a + b) before mine → (mid : List (ℕ × Access)) × Carries is k a mid mine × Carries is (k + a) b before mid
carries_cut is k zero b before mine c = (mine, refl, subst (λ (x : ℕ × ℕ). Carries is x.0 x.1 before mine) (λ j. ((let e : k ≡ k + 0 = omega arith in e) j, (let e : 0 + b ≡ b = omega arith in e) j)) c)
carries_cut is k (suc a) b before mine c =
    let d = subst (λ (n : ℕ). Carries is k n before mine) (let e : suc a + b ≡ suc (a + b) = omega arith in e) c in let r = carries_cut is (suc k) a b before d.1 d.4 in
    (r.0, (d.0, d.1, d.2, d.3, r.1), subst (λ (n : ℕ). Carries is n b before r.0) (let e : suc k + a ≡ k + suc a = omega arith in e) r.2)

-- frames that cover nothing have no slot
no_rooms : (t : Site) (p : ℕ) (cuts : List ℕ) (before : List (ℕ × Access)) → span cuts ≡ 0 → HoldsRooms t (blanks p cuts) before before
no_rooms t p [] before none = refl
no_rooms t p (cut ∷ cuts) before none =
    let one : aligned cut ≡ 0 = omega arith in let long : length (replicate {A = ℕ} (aligned cut / 8) 0) ≡ 0 = length-replicate {A = ℕ} (aligned cut / 8) 0 ∙ ap (λ (n : ℕ). n / 8) one in
    (before, subst (λ (n : ℕ). Carries (IsRoomAt t) (slot_of (ring t) p 0) (8 * n / 4) before before) (sym long) refl, no_rooms t (p + aligned cut) cuts before (omega arith))

pub claim_rooms : (t : Site) → 0 < ring t → (p : ℕ) (cuts : List ℕ) (before mine : List (ℕ × Access)) → p % 32 ≡ 0 → p % (ring t * 32) + span cuts ≤ ring t * 32 → Carries (IsRoomAt t) (slot_of (ring t) p 0) (span cuts / 4) before mine → HoldsRooms t (blanks p cuts) before mine
claim_rooms t some p [] before mine unit low c = c
claim_rooms t some p (cut ∷ cuts) before mine unit low c =
    let n : ℕ = ring t in let a : ℕ = aligned cut in let b : ℕ = span cuts in let m : ℕ = n * 32 in let q : ℕ = p % m in let low' : q + (a + b) ≤ m = low in
    let r = carries_cut (IsRoomAt t) (slot_of n p 0) (a / 4) (b / 4) before mine (subst (λ (z : ℕ). Carries (IsRoomAt t) (slot_of n p 0) z before mine) (parts cut b) c) in
    let first : CarriesRange t (IsRoomAt t) p (8 * length (replicate {A = ℕ} (a / 8) 0)) r.0 mine = subst (λ (z : ℕ). Carries (IsRoomAt t) (slot_of n p 0) z r.0 mine) (sym (ap (λ (z : ℕ). 8 * z / 4) (length-replicate {A = ℕ} (a / 8) 0) ∙ eighths cut)) r.1 in
    dite (dec_le m (q + a))
    (λ full. let none : b ≡ 0 = omega arith in let last : r.0 ≡ before = subst (λ (z : ℕ). Carries (IsRoomAt t) (slot_of n p 0 + a / 4) z before r.0) (ap (λ (z : ℕ). z / 4) none) r.2 in
    (r.0, first, subst (HoldsRooms t (blanks (p + a) cuts) before) (sym last) (no_rooms t (p + a) cuts before none)))
    (λ not. let lt : q + a < m = lt_of_not-le not in let next : (p + a) / 32 % n ≡ p / 32 % n + a / 32 = in_row n p a some unit (whole cut) lt in let here : (p + a) % m ≡ q + a = add_small m p a lt in
    let k : slot_of n p 0 + a / 4 ≡ slot_of n (p + a) 0 = (let x : ℕ = p / 32 % n in let y : ℕ = (p + a) / 32 % n in let e : y ≡ x + a / 32 = next in moved x y cut e) in
    (r.0, first, claim_rooms t some (p + a) cuts before r.0 (let w = whole cut in omega arith) (let e : (p + a) % m ≡ q + a = here in let z : ℕ = (p + a) % m in let e' : z ≡ q + a = e in let goal' : z + b ≤ m = omega arith in goal') (subst (λ (z : ℕ). Carries (IsRoomAt t) z (b / 4) before r.0) k r.2)))
  where
    parts : (cut b : ℕ) → (aligned cut + b) / 4 ≡ aligned cut / 4 + b / 4
    parts cut b = omega arith

    eighths : (cut : ℕ) → 8 * (aligned cut / 8) / 4 ≡ aligned cut / 4
    eighths cut = omega arith

    whole : (cut : ℕ) → aligned cut % 32 ≡ 0
    whole cut = omega arith

    moved : (x y cut : ℕ) → y ≡ x + aligned cut / 32 → 8 * x + 0 + aligned cut / 4 ≡ 8 * y + 0
    moved x y cut e = omega arith

slots_are : (p : ℕ) (cuts : List ℕ) → slots_in (blanks p cuts) ≡ span cuts / 4
slots_are p [] = refl
slots_are p (cut ∷ cuts) = (λ j. 8 * length-replicate {A = ℕ} (aligned cut / 8) 0 j / 4 + slots_are (p + aligned cut) cuts j) ∙ sums cut (span cuts)
  where
    sums : (cut b : ℕ) → 8 * (aligned cut / 8) / 4 + b / 4 ≡ (aligned cut + b) / 4
    sums cut b = omega arith

-- where a claim begins, and that it lies in a row
module _ (t : Site) (v : Pass) (is : IsGeometry (geometry_of v)) (shape : geometry_of v ≡ t.key.identity.geometry) (n : ℕ) (unit : offset_in n % 32 ≡ 0) where
  whole_term : term_of v % 32 ≡ 0
  whole_term = power_unit (term_of v) is.term.power is.term.least

  start_unit : start_in (geometry_of v) n % 32 ≡ 0
  start_unit = go (count_in (geometry_of v) n) (term_of v) (offset_in n) whole_term unit
    where
      go : (k t o : ℕ) → t % 32 ≡ 0 → o % 32 ≡ 0 → (k * t + o) % 32 ≡ 0
      go k t o w u = let e : k * t ≡ 32 * (k * (t / 32)) = ap (λ (x : ℕ). k * x) (let z : t ≡ 32 * (t / 32) = omega arith in z) ∙ mul_left_comm k 32 (t / 32) in let x : ℕ = k * (t / 32) in let y : ℕ = k * t in let e' : y ≡ 32 * x = e in let g' : (y + o) % 32 ≡ 0 = omega arith in g'

  width : ring t * 32 ≡ 3 * term_of v
  width = ap (λ (g : Geometry). units g * 32) (sym shape) ∙ units_are (geometry_of v) whole_term

  in_row_of : (x : ℕ) → offset_in n < term_of v → offset_in n + x ≤ term_of v → start_in (geometry_of v) n % (ring t * 32) + x ≤ ring t * 32
  in_row_of x lt fits =
      let rest : start_in (geometry_of v) n % term_of v ≡ offset_in n = mod-mul-add (count_in (geometry_of v) n) (term_of v) (offset_in n) lt in
      subst (λ (y : ℕ). start_in (geometry_of v) n % y + x ≤ y) (sym width) (in_ring (term_of v) (start_in (geometry_of v) n) x (let l = is.term.least in let m : ℕ = term_of v in omega arith) (subst (λ (y : ℕ). y + x ≤ term_of v) (sym rest) fits))

  -- the frames of a claim there, over what was carried
  pub turned_rooms : (some : 0 < ring t) (cuts : List ℕ) (old : List FrameWords) (before mine : List (ℕ × Access)) → offset_in n < term_of v → offset_in n + span cuts ≤ term_of v → CarriesRange t (IsRoomAt t) (start_in (geometry_of v) n) (span cuts) before mine → HoldsRooms t old [] before
      → HoldsRooms t (old ++ blanks (start_in (geometry_of v) n) cuts) [] (rotated (span cuts / 4) mine)
  turned_rooms some cuts old before mine lt fits c h =
      let p : ℕ = start_in (geometry_of v) n in let rooms = claim_rooms t some p cuts before mine start_unit (in_row_of (span cuts) lt fits) c in
      subst (λ (k : ℕ). HoldsRooms t (old ++ blanks p cuts) [] (rotated k mine)) (slots_are p cuts) (holds_turned t (blanks p cuts) old mine (holds_both t (blanks p cuts) old [] before mine rooms h))

-- ---- an addition

pub adds_hold : (t : Site) (size n taken : ℕ) (m m' : Mine) (g : Geometry) → IsGeometry g → geometry_of m.0.view.pass ≡ g → t.key.identity.geometry ≡ g → 0 < ring t → taken ≡ min (framed_length g size) (g.term_length - offset_in n) → steps.Adds m.0.view.pass size n m'.0.view.pass → TakesRoom t size n m m' → HoldsOpen t m → HoldsOpen t (m'.0, rotated (taken / 4) m'.1)
adds_hold t size n taken m m' g legal shape site some is a takes h =
    let v : Pass = m.0.view.pass in let legal' : IsGeometry (geometry_of v) = subst IsGeometry (sym shape) legal in let same : geometry_of v ≡ t.key.identity.geometry = shape ∙ sym site in
    let f : ℕ = framed_length (geometry_of v) size in let o : ℕ = offset_in n in let term : ℕ = term_of v in
    let bytes : taken ≡ min f (term - o) = is ∙ ap (λ (x : Geometry). min (framed_length x size) (x.term_length - offset_in n)) (sym shape) in
    let covered : span (cuts_of (geometry_of v) size) ≡ f = span_is (geometry_of v) legal'.mtu.unit legal'.mtu.least size in
    let old : List FrameWords = v.work.drafts in
    dite (dec_le term o)
    (λ (over : term ≤ o). let none : taken / 4 ≡ 0 = omega arith in
    subst (λ (x : List FrameWords × ℕ × List (ℕ × Access)). HoldsRooms t x.0 [] (rotated x.1 x.2)) (λ j. (sym (ap (λ (p : Pass). p.work.drafts) (a.over over)) j, sym none j, sym (takes.over over) j)) h)
    (λ not_over. let lt : o < term = lt_of_not-le not_over in dite (dec_le (o + f) term)
    (λ (fits : o + f ≤ term). let all : span (cuts_of (geometry_of v) size) / 4 ≡ taken / 4 = ap (λ (x : ℕ). x / 4) (covered ∙ (let e : f ≡ taken = omega arith in e)) in
    subst (λ (x : List FrameWords × ℕ). HoldsRooms t x.0 [] (rotated x.1 m'.1)) (λ j. (sym (ap (λ (p : Pass). p.work.drafts) (a.fits fits)) j, all j))
    (turned_rooms t v legal' same n a.unit some (cuts_of (geometry_of v) size) old m.1 m'.1 lt (subst (λ (x : ℕ). o + x ≤ term) (sym covered) fits) (subst (λ (x : ℕ). CarriesRange t (IsRoomAt t) (start_in (geometry_of v) n) x m.1 m'.1) (sym covered) (takes.fits fits)) h))
    (λ no. let past : term < o + f = lt_of_not-le no in let rest : ℕ = term - o in
    let covered' : span (rest ∷ []) ≡ rest = rest_span rest (rest_unit term o a.unit (whole_term t v legal' same n a.unit)) in
    let all : span (rest ∷ []) / 4 ≡ taken / 4 = ap (λ (x : ℕ). x / 4) (covered' ∙ (let e : rest ≡ taken = omega arith in e)) in
    subst (λ (x : List FrameWords × ℕ). HoldsRooms t x.0 [] (rotated x.1 m'.1)) (λ j. (sym (ap (λ (p : Pass). p.work.drafts) (a.trips lt past)) j, all j))
    (turned_rooms t v legal' same n a.unit some (rest ∷ []) old m.1 m'.1 lt (subst (λ (x : ℕ). o + x ≤ term) (sym covered') (let e : o + rest ≤ term = omega arith in e)) (subst (λ (x : ℕ). CarriesRange t (IsRoomAt t) (start_in (geometry_of v) n) x m.1 m'.1) (sym covered') (takes.trips lt past)) h)))
  where
    rest_span : (n : ℕ) → n % 32 ≡ 0 → span (n ∷ []) ≡ n
    rest_span n e = omega arith

    rest_unit : (t o : ℕ) → o % 32 ≡ 0 → t % 32 ≡ 0 → (t - o) % 32 ≡ 0
    rest_unit t o a c = omega arith
