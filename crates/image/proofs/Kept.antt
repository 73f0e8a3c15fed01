-- What always holds of an inserter holds again when it has stored a frame, or heard a heartbeat.
use Rattle.std.proofs.Common.{◌≡◌, ℕ, ◌+◌, ◌-◌, ◌*◌, ◌/◌, ◌%◌, ◌^◌, ◌<◌, ◌≤◌, max, min, List, ◌∷◌, map, Bool, true, false, cond, sym, ap, ◌∙◌, subst, arith, ℤ, pos, negsuc}
use Rattle.std.specs.Prelude.{nat_lt}
use Rattle.std.specs.List.{AllByRecursion}
use lib.IntN.{nat_abs}
use Rattle.std.proofs.lemmas.Bool.{ltb-false}
use Rattle.std.proofs.lemmas.Nat.{div-add-mod'}
use Rattle.theory.specs.Image.{IsWindow}
use Rattle.theory.specs.Insert.{AreApart, Head, Stored, head_of, insert_answer, insert_answer_at, window_end}
use Rattle.theory.specs.Placed.{Frame, Placed, covered, end_of, frame_length, is_padding}
use Rattle.theory.specs.Position.{Geometry, IsGeometry, aligned, max_position}
use Rattle.theory.specs.Units.{IsContiguous}
use Rattle.theory.proofs.Held.{not_stored, stored_only}
use Rattle.theory.proofs.Lists.{all_weaker}
use Rattle.theory.proofs.Places.{term_ends}
use Rattle.image.specs.Seen.{IsFit}
use Rattle.image.specs.Stored.{IsUnit}
use Rattle.image_rule.specs.declared.view.Key.{Key}
use Rattle.image_rule.specs.Frames.{placed_all}
use Rattle.image.specs.Handles.{InserterSeat, floor_of, seen_by, stored_by}
use Rattle.image.specs.Inserting.{Stores}
use Rattle.image.specs.Runs.{AreBelow, IsRun}
use Rattle.image.specs.Rebuilding.{AreLaid, FitsIn, Inserting, IsRebuilding, geometry_of, inserting, join_of, with_frame}
use Rattle.image.proofs.Judged.{none_overlaps, overlaps_none}
use Rattle.image.proofs.Runs.{run_more}

pub laid : (i : Inserting) (r : ℕ) → IsRebuilding i r → AreLaid i.stored
laid i r k = record {
  units = all_weaker (IsFit (geometry_of i).term_length i.high) (λ s. s.at % 32 ≡ 0) (λ s f. f.unit) i.stored k.fit;
  full = all_weaker (IsFit (geometry_of i).term_length i.high) (λ s. 0 < covered s) (λ s f. let l = f.long in omega arith) i.stored k.fit;
  apart = k.apart;
}

pub greatest : (g : Geometry) → IsGeometry g → max_position g ≤ 2 ^ 55
greatest g legal = let short : g.term_length ≤ 16777216 = legal.term.greatest in omega arith

-- ---- a heartbeat

pub beaten : (i : Inserting) (r p : ℕ) → IsRebuilding i r → i.high < p → p ≤ max_position (geometry_of i) → p ≤ i.floor + 2 * (geometry_of i).term_length → IsRebuilding (record i { high = p }) r
beaten i r p k above low near = record {
  geometry = k.geometry;
  joined = k.joined;
  window = k.window;
  fit = all_weaker (IsFit (geometry_of i).term_length i.high) (IsFit (geometry_of i).term_length p) (λ s f. let e : end_of s ≤ i.high = f.marked in record { unit = f.unit; long = f.long; in_term = f.in_term; marked = omega arith }) i.stored k.fit;
  apart = k.apart;
  from = k.from;
  contiguous = k.contiguous;
  floor_from = k.floor_from;
  floor = k.floor;
  mark = (let m = k.mark in omega arith);
  high = low;
  near = near;
  count = k.count;
  some = k.some;
  behind = k.behind;
}

-- ---- what the answer Stored says

ends_within : (t p n : ℕ) → 0 < t → p % t + n ≤ t → p + 32 ≤ t * 2 ^ 31 → p + n ≤ t * 2 ^ 31
ends_within t p n some inside low = omega (arith, term_ends p t some (omega arith), div-add-mod' p t)

may_fit : (g : Geometry) (ss : List Placed) (m window : ℕ) (s : Placed) → IsGeometry g → IsWindow g.term_length g.mtu window → s.at % 32 ≡ 0 → 32 ≤ frame_length s.frame → insert_answer g (map head_of ss) m window (head_of s) ≡ Stored → FitsIn g m ss s
may_fit g ss m window s legal is unit long e =
    let h : Head = head_of s in
    let f = stored_only g (map head_of ss) m window h e in
    let in_term : s.at % g.term_length + covered s ≤ g.term_length = ltb-false g.term_length (h.at % g.term_length + aligned h.length) f.0 in
    let from : m ≤ s.at = ltb-false h.at m f.1 in
    let reach : window_end h ≤ min (m + window) (max_position g) = ltb-false (min (m + window) (max_position g)) (window_end h) f.2 in
    let header : s.at + 32 ≤ window_end h = head_within h.padding in
    let some : 65536 ≤ g.term_length = legal.term.least in
    let low : end_of s ≤ max_position g = ends_within g.term_length s.at (covered s) (omega arith) in_term (omega arith) in
    let wide : window ≤ g.term_length / 2 = is.greatest in
    record { unit = unit; long = long; in_term = in_term; from = from; low = low; near = omega arith; free = overlaps_none ss h f.4 }
  where
    head_within : (b : Bool) → s.at + 32 ≤ cond b (s.at + 32) (end_of s)
    head_within true = omega arith
    head_within false = omega arith

-- the same at a position that may be negative
pub may_store : (g : Geometry) (ss : List Placed) (m window : ℕ) (z w : ℤ) (b : Bool) (n : ℕ) (f : Frame) → IsGeometry g → IsWindow g.term_length g.mtu window → w ≡ z → IsUnit z → b ≡ is_padding f → n ≡ frame_length f → 32 ≤ n → insert_answer_at g (map head_of ss) m window w b n ≡ Stored → FitsIn g m ss (record { at = nat_abs w; frame = f })
may_store g ss m window (pos p) w b n f legal is e unit eb en long h =
    let here : insert_answer_at g (map head_of ss) m window (pos p) b n ≡ Stored = subst (λ x. insert_answer_at g (map head_of ss) m window x b n ≡ Stored) e h in
    let same : insert_answer g (map head_of ss) m window (head_of (record { at = p; frame = f })) ≡ Stored = subst (λ (x : Bool × ℕ). insert_answer g (map head_of ss) m window (record { at = p; padding = x.0; length = x.1 }) ≡ Stored) (λ j. (eb j, en j)) here in
    subst (λ x. FitsIn g m ss (record { at = nat_abs x; frame = f })) (sym e) (may_fit g ss m window (record { at = p; frame = f }) legal is unit (omega arith) same)
may_store g ss m window (negsuc k) w b n f legal is e unit eb en long h =
    let here : insert_answer_at g (map head_of ss) m window (negsuc k) b n ≡ Stored = subst (λ x. insert_answer_at g (map head_of ss) m window x b n ≡ Stored) e h in
    absurd (not_stored (nat_lt g.term_length (g.term_length - 1 - k % g.term_length + aligned n)) here)

-- ---- a frame was stored

module _ (n m : InserterSeat) (window high rebuilt : ℕ) (s : Placed) (k : IsRebuilding (inserting n window high) rebuilt) (fits : FitsIn n.key.identity.geometry (floor_of n) (stored_by n) s) (put : Stores n s m) where
  abbrev old : Inserting
  old = inserting n window high

  abbrev top : ℕ
  top = max high (end_of s)

  same_key : m.key ≡ n.key
  same_key = ap (λ (x : InserterSeat). x.key) put.same

  stored_is : stored_by m ≡ s ∷ stored_by n
  stored_is = ap placed_all put.got ∙ (λ j. put.is j ∷ stored_by n)

  fit : AllByRecursion (IsFit n.key.identity.geometry.term_length top) (s ∷ stored_by n)
  fit = (
    record { unit = fits.unit; long = fits.long; in_term = fits.in_term; marked = omega arith },
    all_weaker (IsFit n.key.identity.geometry.term_length high) (IsFit n.key.identity.geometry.term_length top) (λ t f. let e : end_of t ≤ high = f.marked in record { unit = f.unit; long = f.long; in_term = f.in_term; marked = omega arith }) (stored_by n) k.fit,
  )

  full : 0 < covered s
  full = let l = fits.long in omega arith

  apart : AreApart (map head_of (s ∷ stored_by n))
  apart = (none_overlaps (stored_by n) (head_of s) (laid old rebuilt k) fits.unit (let f = full in omega arith) fits.free, k.apart)

  pub laid_now : AreLaid (stored_by m)
  laid_now = subst AreLaid (sym stored_is) record {
    units = (fits.unit, (laid old rebuilt k).units);
    full = (full, (laid old rebuilt k).full);
    apart = apart;
  }

  pub below_now : AreBelow (stored_by m) top
  below_now =
      let t : ℕ = n.key.identity.geometry.term_length in let short : t ≤ 16777216 = k.geometry.term.greatest in
      subst (λ (ss : List Placed). AreBelow ss top) (sym stored_is) record {
        ends = all_weaker (IsFit t top) (λ x. end_of x ≤ top) (λ x f. f.marked) (s ∷ stored_by n) fit;
        short = all_weaker (IsFit t top) (λ x. covered x ≤ 2 ^ 24) (λ x f. let i = f.in_term in omega arith) (s ∷ stored_by n) fit;
      }

  from_join : join_of old ≤ s.at
  from_join = let a = k.floor_from in let b = fits.from in omega arith

  pub run_now : IsRun (stored_by m) (32 * m.key.join) rebuilt
  run_now = subst (λ (x : Key × List Placed). IsRun x.1 (32 * x.0.join) rebuilt) (λ j. (sym same_key j, sym stored_is j))
      (run_more (stored_by n) s (32 * n.key.join) rebuilt (laid old rebuilt k).units (omega arith) k.contiguous fits.unit from_join full fits.free)

  pub view_now : inserting m window top ≡ with_frame old s
  view_now =
      let floor = put.floor in
      (λ j. record {
        of = (put.same j).of;
        key = same_key j;
        window = window;
        stored = stored_is j;
        high = top;
        floor = 32 * put.floor j;
        seen = seen_by (record n { view = record n.view { seen = (ap (λ (x : InserterSeat). x.view.seen) put.same) j } });
        looks = (ap (λ (x : InserterSeat). x.view.looks) put.same) j;
        undealt = (ap (λ (x : InserterSeat). x.view.undealt) put.same) j;
      })

  pub kept_now : (now : ℕ) → IsContiguous (stored_by m) (32 * m.key.join) now → rebuilt ≤ now → now ≤ top → IsRebuilding (inserting m window top) now
  kept_now now end further within =
      subst (λ (i : Inserting). IsRebuilding i now) (sym view_now) record {
        geometry = k.geometry;
        joined = k.joined;
        window = k.window;
        fit = fit;
        apart = apart;
        from = (from_join, k.from);
        contiguous = subst (λ (x : Key × List Placed). IsContiguous x.1 (32 * x.0.join) now) (λ j. (same_key j, stored_is j)) end;
        floor_from = k.floor_from;
        floor = (let f = k.floor in omega arith);
        mark = within;
        high = (let h = k.high in let l = fits.low in omega arith);
        near = (let a = k.near in let b = fits.near in omega arith);
        count = k.count;
        some = k.some;
        behind = all_weaker (λ p. (join_of old ≤ p) × (p ≤ rebuilt)) (λ p. (join_of old ≤ p) × (p ≤ now)) (λ p b. (b.0, (let c = b.1 in omega arith))) old.seen k.behind;
      }
