-- An inserter that looked at its consumers.
use Rattle.std.proofs.Common.{◌≡◌, ℕ, ◌+◌, ◌*◌, ◌<◌, ◌≤◌, ⊎_elim, List, length, sym, ap, ◌∙◌, subst, arith}
use Rattle.std.specs.Prelude.{slice_index}
use Rattle.std.proofs.lemmas.Bool.{cases_lt}
use Rattle.theory.specs.Placed.{Placed}
use Rattle.theory.specs.Position.{max_position}
use Rattle.theory.specs.Units.{HasUnit, IsContiguous}
use Rattle.image.specs.Seen.{least}
use Rattle.image_rule.specs.declared.view.Key.{Key}
use Rattle.image_rule.specs.declared.view.View.{View}
use Rattle.image_rule.specs.Frames.{Has, placed_all}
use Rattle.image_rule.proofs.Units.{has_unit, sound_covered}
use Rattle.image.specs.Handles.{InserterSeat, IsInserting, floor_of, stored_by}
use Rattle.image.specs.Inserting.{Pruned}
use Rattle.image.specs.Rebuilding.{Inserting, IsRebuilding, Looked, geometry_of, inserting, join_of}
use Rattle.image.proofs.Leasts.{all_bytes_of, bytes_of, index_bytes, least_is, length_bytes}

-- a unit before which all from the floor on were stored isn't above the contiguous end
pub not_above : (n : InserterSeat) (rebuilt unit : ℕ) → IsInserting n.key n.view → IsContiguous (stored_by n) (32 * n.key.join) rebuilt → floor_of n ≤ rebuilt → ((u : ℕ) → n.view.held.floor ≤ u → u < unit → Has n.view.held.got u) → 32 * unit ≤ rebuilt
not_above n rebuilt unit is end from stored =
    let e : rebuilt ≡ 32 * n.key.join + 32 * end.units = end.end in
    let u : ℕ = n.key.join + end.units in
    let at : 32 * u ≡ rebuilt = omega arith in
    ⊎_elim
    (λ (l : rebuilt < 32 * unit). absurd (end.next (subst (HasUnit (stored_by n)) at (has_unit n.view.held.got u (sound_covered n.key n.view.held is.exact.sound) (stored u (omega arith) (omega arith))))))
    (λ (l : 32 * unit ≤ rebuilt). l)
    (cases_lt rebuilt (32 * unit))

module _ (n m : InserterSeat) (window high rebuilt least_read : ℕ) (is : IsInserting n.key n.view) (k : IsRebuilding (inserting n window high) rebuilt) (p : Pruned n least_read m) where
  abbrev old : Inserting
  old = inserting n window high

  abbrev now : Inserting
  now = inserting m window high

  abbrev mid : InserterSeat
  mid = p.between

  same_key : m.key ≡ n.key
  same_key = ap (λ (x : InserterSeat). x.key) p.cleared.same ∙ ap (λ (x : InserterSeat). x.key) p.swept.same

  same_of : m.of ≡ n.of
  same_of = ap (λ (x : InserterSeat). x.of) p.cleared.same ∙ ap (λ (x : InserterSeat). x.of) p.swept.same

  same_got : m.view.held.got ≡ n.view.held.got
  same_got = p.cleared.cleared.got ∙ ap (λ (v : View). v.held.got) p.swept.sweeps.after

  same_seen : m.view.seen ≡ mid.view.seen
  same_seen = ap (λ (v : View). v.seen) p.cleared.cleared.after

  same_looks : m.view.looks ≡ mid.view.looks
  same_looks = ap (λ (v : View). v.looks) p.cleared.cleared.after

  same_undealt : m.view.undealt ≡ n.view.undealt
  same_undealt = ap (λ (v : View). v.undealt) p.cleared.cleared.after ∙ ap (λ (v : View). v.undealt) p.swept.sweeps.after

  floor_now : floor_of m ≡ least_read
  floor_now = let a = p.cleared.cleared.floor_is in let b = p.cleared.is in omega arith

  count_mid : length mid.view.seen ≡ n.key.consumers
  count_mid = p.swept.sweeps.all ∙ is.seen

  least_now : least now.seen ≡ least_read
  least_now =
      let s = p.swept.sweeps in let c = count_mid in
      ap (λ (xs : List ℕ). least (bytes_of xs)) same_seen ∙ least_is mid.view.seen p.swept.unit s.one.0 (λ j lt. s.lowest j (omega arith)) (let o = s.one.1 in omega arith) s.one.2 ∙ sym p.swept.is

  -- where a consumer was seen now
  seen_now : (j : ℕ) → slice_index now.seen j ≡ 32 * slice_index mid.view.seen j
  seen_now j = index_bytes m.view.seen j ∙ ap (λ (xs : List ℕ). 32 * slice_index xs j) same_seen

  floor_up : floor_of n ≤ floor_of m
  floor_up = let a = floor_now in let b = p.swept.is in let c = p.swept.sweeps.from in omega arith

  each_behind : (j : ℕ) → j < n.key.consumers → (join_of old ≤ 32 * slice_index mid.view.seen j) × (32 * slice_index mid.view.seen j ≤ rebuilt)
  each_behind j lt =
      let s = p.swept.sweeps in let a = s.lowest j lt in let b = s.from in let c = k.floor_from in
      (omega arith, not_above n rebuilt (slice_index mid.view.seen j) is k.contiguous k.floor (λ u lo hi. s.each j u lt lo hi))

  pub looked : Looked old old.stored old.high now
  looked = record {
    after = (λ j. record { of = same_of j; key = same_key j; window = window; stored = placed_all (same_got j); high = high; floor = now.floor; seen = now.seen; looks = now.looks; undealt = same_undealt j });
    floor = floor_now ∙ sym least_now;
    rises = floor_up;
    looked = λ j lt. ap (λ (xs : List ℕ). slice_index xs j) same_looks ∙ p.swept.sweeps.looked j lt;
    all = length_bytes m.view.seen ∙ ap length same_seen ∙ p.swept.sweeps.all ∙ sym (length_bytes n.view.seen);
    forward = λ j. (let a = seen_now j in let b = index_bytes n.view.seen j in let c = p.swept.sweeps.grown j in omega arith);
  }

  pub read_is : least_read ≡ least now.seen
  read_is = sym least_now

  least_low : least_read ≤ rebuilt
  least_low = let o = p.swept.sweeps.one in let b = each_behind o.0 o.1 in let c = p.swept.is in let e = o.2 in let d = b.1 in omega arith

  pub read_low : least_read ≤ max_position (geometry_of now)
  read_low = subst (λ (x : Key). least_read ≤ max_position x.identity.geometry) (sym same_key) (let a = k.mark in let b = k.high in let c = least_low in omega arith)

  pub kept : IsRebuilding now rebuilt
  kept = subst (λ (x : Key × List Placed). IsRebuilding (record now { key = x.0; stored = x.1 }) rebuilt) (λ j. (sym same_key j, placed_all (sym same_got j))) record {
    geometry = k.geometry;
    joined = k.joined;
    window = k.window;
    fit = k.fit;
    apart = k.apart;
    from = k.from;
    contiguous = k.contiguous;
    floor_from = (let a = floor_up in let b = k.floor_from in omega arith);
    floor = (let a = floor_now in let b = least_low in omega arith);
    mark = k.mark;
    high = k.high;
    near = (let a = floor_up in let b = k.near in omega arith);
    count = length_bytes m.view.seen ∙ ap length same_seen ∙ count_mid;
    some = k.some;
    behind = all_bytes_of (λ q. (join_of old ≤ q) × (q ≤ rebuilt)) m.view.seen (λ j lt.
        let e : slice_index m.view.seen j ≡ slice_index mid.view.seen j = ap (λ (xs : List ℕ). slice_index xs j) same_seen in
        let c : length m.view.seen ≡ n.key.consumers = ap length same_seen ∙ count_mid in
        let b = each_behind j (omega arith) in let b0 = b.0 in let b1 = b.1 in (omega arith, omega arith));
  }
