use Rattle.std.proofs.Common.{◌≡◌, ℕ, List, ◌/◌, sym, ◌∙◌, subst, arith}
use Rattle.image_rule.specs.declared.view.Key.{Key}
use Rattle.image_rule.specs.declared.view.View.{View}
use Rattle.image_rule.specs.Frames.{ring}
use Rattle.image_rule.specs.Bits.{Cleared, IsExact, MayRise}
use Rattle.image_rule.proofs.Storing.{exact_with}
use Rattle.image.specs.Handles.{InserterSeat}
use Rattle.image.specs.Inserting.{MayClearTo}
use Rattle.image.specs.Memory.{HasMemory}
use Rattle.image.proofs.Resting.{lowered_inserting, lowered_room, room_is, same_key, seat_of}
use Rattle.image.proofs.inserter.clearing.clear_to.Goals as goal

pub free_units-room-requires-clause-edge : goal.free_units-room-requires-clause-edge
free_units-room-requires-clause-edge c f a lt =
    let n = c.inserter.inside in let i = c.image.inside.words in let v : View = n.hand.seat.me.0 in let is = c.inserter.invariant in let to : ℕ = c.args.floor / 32 in
    let key : n.key ≡ i.key = same_key i n c.args.image.now c.args.inserter.now c.image.view_is c.inserter.view_is c.requires.fits in
    let may : MayClearTo (seat_of n) c.args.floor = subst (λ (x : InserterSeat). MayClearTo x c.args.floor) (sym c.inserter.view_is) c.requires.may in
    let unit : may.unit ≡ to = (let e = may.is in omega arith) in
    let e = may.edge f a (omega (arith, unit, lt)) in omega (arith, unit, e)

pub clear_units-requires-clause-exact : goal.clear_units-requires-clause-exact
clear_units-requires-clause-exact c =
    let n = c.inserter.inside in let i = c.image.inside.words in let v : View = n.hand.seat.me.0 in let is = c.inserter.invariant in let to : ℕ = c.args.floor / 32 in
    let key : n.key ≡ i.key = same_key i n c.args.image.now c.args.inserter.now c.image.view_is c.inserter.view_is c.requires.fits in
    let may : MayClearTo (seat_of n) c.args.floor = subst (λ (x : InserterSeat). MayClearTo x c.args.floor) (sym c.inserter.view_is) c.requires.may in
    let unit : may.unit ≡ to = (let e = may.is in omega arith) in
    subst (λ (x : Key × View). IsExact x.0 x.1.held) (λ j. (key j, sym c.free_units-room.ensures.freed j)) (exact_with n.key v.held 0 to is.inserting.exact)

pub invariant_of-inserter : goal.invariant_of-inserter
invariant_of-inserter c =
    let n = c.inserter.inside in let i = c.image.inside.words in let v : View = n.hand.seat.me.0 in let is = c.inserter.invariant in let to : ℕ = c.args.floor / 32 in
    let key : n.key ≡ i.key = same_key i n c.args.image.now c.args.inserter.now c.image.view_is c.inserter.view_is c.requires.fits in
    let may : MayClearTo (seat_of n) c.args.floor = subst (λ (x : InserterSeat). MayClearTo x c.args.floor) (sym c.inserter.view_is) c.requires.may in
    let unit : may.unit ≡ to = (let e = may.is in omega arith) in
    let w : View = c.free_units-room.new.hand.seat.me.0 in let x : View = c.clear_units.new.hand.seat.me.0 in let e = c.free_units-room.ensures in
    let cleared : Cleared n.key w to x = subst (λ (k : Key). Cleared k w to x) (sym key) c.clear_units.ensures.cleared in
    let rise : MayRise n.key v to = subst (λ (u : ℕ). MayRise n.key v u) unit may.rise in
    let rests = room_is (ring n.key) n.region v.held n.room n.heads.items c.in-Some.room is.has (sym c.take.ensures.value ∙ c.in-Some.is) in
    record {
      inserting = lowered_inserting n.key n.region v to is.inserting w x e.freed cleared;
      slots = c.clear_units.ensures.slots ∙ e.slots;
      has = lowered_room n.key n.region v to is.inserting w x e.freed cleared c.free_units-room.result n.heads.items rise (e.lies ∙ rests.lies) (subst (λ (k : Key × List ℕ). HasMemory (ring k.0) w.held c.free_units-room.result.pool.free k.1) (λ j. (sym key j, c.as_slice-heads.ensures.value j)) e.memory);
    }
