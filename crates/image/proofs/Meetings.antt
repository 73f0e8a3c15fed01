-- An inserter and a reader that have met.
use Rattle.std.proofs.Common.{◌≡◌, ℕ, zero, suc, ◌*◌, ◌<◌, ◌≤◌, ⊎_elim, List, [], ◌∷◌, length, length-set, refl, sym, ap, ◌∙◌, subst, arith}
use Rattle.std.specs.Prelude.{slice_index, slice_set}
use Rattle.std.specs.List.{AllByRecursion}
use Rattle.std.proofs.lemmas.Bool.{cases_lt}
use Rattle.theory.specs.Placed.{Among, Placed, covered, end_of}
use Rattle.theory.proofs.Lists.{all_set}
use Rattle.theory.proofs.Tables.{all_index}
use Rattle.theory.proofs.Follow.{one_end}
use Rattle.image_rule.specs.declared.view.Frame.{Frame}
use Rattle.image_rule.specs.declared.view.View.{View}
use Rattle.image_rule.specs.Frames as units
use Rattle.image_rule.specs.Frames.{Has, placed_all, placed_of}
use Rattle.image_rule.specs.Reads as rule
use Rattle.image_rule.proofs.Dealing.{among_left, among_right}
use Rattle.image_rule.proofs.Units.{among_placed, placed_among, sound_covered}
use Rattle.image.specs.Handles.{InserterSeat, IsInserting, ReaderSeat, known_by, position_of, stored_by}
use Rattle.image.specs.Meeting.{Meets, number_of}
use Rattle.image.specs.Rebuilding.{Inserting, IsRebuilding, inserting, join_of}
use Rattle.image.proofs.Leasts.{bytes_of, index_bytes, set_bytes}
use Rattle.image.proofs.Swept.{not_above}

set_past : (xs : List ℕ) (k x : ℕ) → length xs ≤ k → slice_set xs k x ≡ xs
set_past [] k x le = refl
set_past (y ∷ ys) zero x le = absurd (omega arith)
set_past (y ∷ ys) (suc k) x le = ap (λ (zs : List ℕ). y ∷ zs) (set_past ys k x (omega arith))

module _ (n m : InserterSeat) (r q : ReaderSeat) (window high rebuilt : ℕ) (is : IsInserting n.key n.view) (k : IsRebuilding (inserting n window high) rebuilt) (met : rule.Meets n.view r.view m.view q.view) (inserter : m ≡ record n { view = m.view }) (reader : q ≡ record r { view = q.view }) where
  abbrev old : Inserting
  old = inserting n window high

  abbrev now : Inserting
  now = record old { seen = slice_set old.seen (number_of r) (position_of r) }

  pub view_met : inserting m window high ≡ now
  view_met =
      let seen : bytes_of m.view.seen ≡ slice_set (bytes_of n.view.seen) (number_of r) (position_of r) = ap bytes_of met.seen ∙ set_bytes n.view.seen (number_of r) r.view.reading.unit in
      (λ j. record {
        of = (inserter j).of;
        key = (inserter j).key;
        window = window;
        stored = placed_all (ap (λ (v : View). v.held.got) met.inserter j);
        high = high;
        floor = ap (λ (v : View). 32 * v.held.floor) met.inserter j;
        seen = seen j;
        looks = ap (λ (v : View). v.looks) met.inserter j;
        undealt = ap (λ (v : View). v.undealt) met.inserter j;
      })

  count : length n.view.seen ≡ n.key.consumers
  count = is.seen

  not_past : number_of r < n.key.consumers → position_of r ≤ rebuilt
  not_past lt = let c = count in not_above n rebuilt r.view.reading.unit is k.contiguous k.floor (met.reached (omega arith))

  seen_there : slice_index old.seen (number_of r) ≤ position_of r
  seen_there = let e = index_bytes n.view.seen (number_of r) in let s = met.stood in omega arith

  from_join : number_of r < n.key.consumers → join_of old ≤ position_of r
  from_join lt =
      let c = k.count in let a = all_index (λ p. (join_of old ≤ p) × (p ≤ rebuilt)) old.seen (number_of r) (omega arith) k.behind in
      let b = a.0 in let s = seen_there in omega arith

  behind_now : AllByRecursion (λ p. (join_of old ≤ p) × (p ≤ rebuilt)) now.seen
  behind_now =
      let c = k.count in ⊎_elim
      (λ (lt : number_of r < n.key.consumers). all_set (λ p. (join_of old ≤ p) × (p ≤ rebuilt)) old.seen (number_of r) (position_of r) (from_join lt, not_past lt) k.behind)
      (λ (le : n.key.consumers ≤ number_of r). subst (AllByRecursion (λ p. (join_of old ≤ p) × (p ≤ rebuilt))) (sym (set_past old.seen (number_of r) (position_of r) (omega arith))) k.behind)
      (cases_lt (number_of r) n.key.consumers)

  pub kept_met : IsRebuilding (inserting m window high) rebuilt
  kept_met = subst (λ (i : Inserting). IsRebuilding i rebuilt) (sym view_met) record {
    geometry = k.geometry;
    joined = k.joined;
    window = k.window;
    fit = k.fit;
    apart = k.apart;
    from = k.from;
    contiguous = k.contiguous;
    floor_from = k.floor_from;
    floor = k.floor;
    mark = k.mark;
    high = k.high;
    near = k.near;
    count = length-set old.seen (number_of r) (position_of r) ∙ k.count;
    some = k.some;
    behind = behind_now;
  }

  covers : (f : Frame) → units.Among f n.view.held.got → 32 * f.units ≡ covered (placed_of f)
  covers = sound_covered n.key n.view.held is.exact.sound

  stored_known : (s : Placed) → Among s (stored_by n) → Among s (known_by q)
  stored_known s a =
      let p = placed_among s n.view.held.got a in
      subst (λ (x : Placed). Among x (known_by q)) (sym p.is) (among_placed p.frame q.view.reading.known (subst (units.Among p.frame) (sym met.known) (among_right p.frame r.view.reading.known n.view.held.got p.among)))

  known_stored : (s : Placed) → Among s (known_by q) → Among s (stored_by n)
  known_stored s a =
      let p = placed_among s q.view.reading.known a in
      subst (λ (x : Placed). Among x (stored_by n)) (sym p.is) (among_placed p.frame n.view.held.got (met.stored p.frame p.among))

  still_known : (f : Frame) → units.Among f r.view.reading.known → units.Among f q.view.reading.known
  still_known f a = subst (units.Among f) (sym met.known) (among_left f r.view.reading.known n.view.held.got a)

  edge_now : (s : Placed) → Among s (stored_by n) → s.at < position_of r → end_of s ≤ position_of r
  edge_now s a lt =
      let p = placed_among s n.view.held.got a in let f : Frame = p.frame in
      let at : s.at ≡ 32 * f.unit = ap (λ (x : Placed). x.at) p.is in let size : covered s ≡ covered (placed_of f) = ap covered p.is in
      let c = covers f p.among in let e = met.edge f p.among (omega arith) in omega arith

  pub meets_now : Meets old r (inserting m window high) q
  meets_now = record {
    inserter = view_met;
    stood = seen_there;
    edge = edge_now;
    behind = λ lt end is_end. subst (λ x. position_of r ≤ x) (one_end (stored_by n) (join_of old) rebuilt end k.contiguous is_end) (not_past lt);
    reader = reader;
    number = ap (λ (v : View). v.reading.number) met.reader;
    stands = ap (λ (v : View). v.reading.unit) met.reader;
    misses = ap (λ (v : View). v.reading.misses) met.reader;
    keeps = λ s a. (let p = placed_among s r.view.reading.known a in subst (λ (x : Placed). Among x (known_by q)) (sym p.is) (among_placed p.frame q.view.reading.known (still_known p.frame p.among)));
    knows = λ s. (known_stored s, stored_known s);
    covers = λ f a. covers f (met.stored f (still_known f a));
  }
