use Rattle.std.proofs.Common.{◌≡◌, ℕ, ◌*◌, ◌<◌, ◌≤◌, length, refl, sym, ap, ◌∙◌, subst}
use Rattle.image_rule.specs.declared.view.Frame.{Frame}
use Rattle.image_rule.specs.declared.view.Held.{Held}
use Rattle.image_rule.specs.declared.view.Key.{Key}
use Rattle.image_rule.specs.declared.view.View.{View}
use Rattle.image_rule.specs.Frames.{Among, Has, end_of, ring}
use Rattle.image_rule.specs.Bits.{MayRise, Sweeps}
use Rattle.image_rule.proofs.Clearing.{may_rise}
use Rattle.image.specs.Handles.{ImageWords, InserterSeat, IsInserting}
use Rattle.image.specs.Inserting.{MayClearTo, Pruned, Swept}
use Rattle.image.specs.Rebuilding.{Inserting, Looked, inserting}
use Rattle.image.proofs.Swept.{kept, looked, read_is, read_low}
use Rattle.image.proofs.inserter.least.Goals as goal
use Rattle.image.proofs.inserter.least.Goals.{After-clear_to, After-see_all-lowest}

may : (n m : InserterSeat) (least : ℕ) → IsInserting n.key n.view → Swept n least m → MayClearTo m least
may n m least is s =
    let sweeps : Sweeps n.key n.view (length n.view.seen) s.unit m.view = subst (λ (x : ℕ). Sweeps n.key n.view x s.unit m.view) (sym is.seen) s.sweeps in
    let held : m.view.held ≡ n.view.held = ap (λ (v : View). v.held) s.sweeps.after in
    record {
      unit = s.unit;
      is = s.is;
      rise = subst (λ (x : InserterSeat). MayRise x.key m.view s.unit) (sym s.same) (may_rise n.key n.view m.view s.unit is.exact is.is_key sweeps);
      reached = subst (λ (h : Held). (u : ℕ) → h.floor ≤ u → u < s.unit → Has h.got u) (sym held) s.sweeps.reached;
      edge = subst (λ (h : Held). (f : Frame) → Among f h.got → f.unit < s.unit → end_of f ≤ s.unit) (sym held) s.sweeps.edge;
    }

-- what its seat is once it has looked
abbrev seat_now : (c : After-see_all-lowest) → InserterSeat
seat_now c = record { of = record { table = c.see_all-lowest.new.hand.seat.table_id; region = c.store.inside.region; units = ring c.store.inside.key }; key = c.store.inside.key; view = c.see_all-lowest.new.hand.seat.me.0 }

swept : (c : After-see_all-lowest) → Swept c.inserter.inside.words (32 * c.see_all-lowest.result) (seat_now c)
swept c =
    let w : View = c.see_all-lowest.new.hand.seat.me.0 in let table = c.see_all-lowest.ensures.fits in
    let key : c.image.inside.words.key ≡ c.inserter.inside.words.key = ap (λ (x : ImageWords). x.key) c.image.view_is ∙ sym c.requires.fits.key ∙ sym (ap (λ (i : Inserting). i.key) c.inserter.view_is) in
    record {
      unit = c.see_all-lowest.result;
      is = refl;
      same = (λ j. record { of = record { table = table j; region = c.store.inside.region; units = ring c.store.inside.key }; key = c.store.inside.key; view = w }) ∙ (λ j. record (c.store.view_is j) { view = w });
      sweeps = subst (λ (x : Key × View). Sweeps x.0 x.1 x.0.consumers c.see_all-lowest.result w) (λ j. (key j, (c.store.view_is j).view)) c.see_all-lowest.ensures.sweeps;
    }

pub clear_to-requires-clause-may : goal.clear_to-requires-clause-may
clear_to-requires-clause-may c = may c.inserter.inside.words (seat_now c) (32 * c.see_all-lowest.result) c.floor-lowest.ensures.rests (swept c)

pruned : (c : After-clear_to) → Pruned c.inserter.inside.words (32 * c.see_all-lowest.result) c.clear_to.new.inserter
pruned c = record { between = (seat_now c.before); swept = (swept c.before); cleared = c.clear_to.ensures.cleared }

pub invariant_of-inserter : goal.invariant_of-inserter
invariant_of-inserter c = let n = c.inserter.inside in kept n.words c.clear_to.new.inserter n.window n.high_water n.rebuilt (32 * c.see_all-lowest.result) c.floor-lowest.ensures.rests c.inserter.invariant (pruned c)

pub returns-clause-looked : goal.returns-clause-looked
returns-clause-looked c =
    let n = c.inserter.inside in
    let l = looked n.words c.clear_to.new.inserter n.window n.high_water n.rebuilt (32 * c.see_all-lowest.result) c.floor-lowest.ensures.rests c.inserter.invariant (pruned c) in
    subst (λ (i : Inserting). Looked i i.stored i.high (inserting c.clear_to.new.inserter n.window n.high_water)) c.inserter.view_is l

pub returns-clause-value : goal.returns-clause-value
returns-clause-value c = let n = c.inserter.inside in read_is n.words c.clear_to.new.inserter n.window n.high_water n.rebuilt (32 * c.see_all-lowest.result) c.floor-lowest.ensures.rests c.inserter.invariant (pruned c)

pub returns-clause-low : goal.returns-clause-low
returns-clause-low c = let n = c.inserter.inside in read_low n.words c.clear_to.new.inserter n.window n.high_water n.rebuilt (32 * c.see_all-lowest.result) c.floor-lowest.ensures.rests c.inserter.invariant (pruned c)
