use Rattle.std.proofs.Common.{◌≡◌, ◌∙◌, ◌∷◌, ◌++◌, [], List, Bool, ap, arith, if◌then◌else◌, length, length-append}
use Rattle.peer.specs.Ties.{Tied}
use Rattle.publisher.specs.Seeing.{ChannelDestination}
use Rattle.publisher.proofs.Along.{more_along, none, one_along}
use Rattle.publisher.proofs.channel_publisher.destinations_along.Goals as goal

pub loop-route-preserved : goal.loop-route-preserved
loop-route-preserved g c =
    let plan = c.args.plan.now in let routes = c.args.routes.now in let i = c.loop-route.route-index in
    let destinations : List (ChannelDestination Tied) = c.loop-route.destinations.items in let destination = c.destination_over-destination.result in
    let pushed : c.push.new.self.items ≡ destinations ++ destination ∷ [] = c.push.ensures.items ∙ ap (λ (b : Bool). if b then destinations ++ destination ∷ [] else destinations) c.if-is_err.ensures.negation in
    let number : length c.as_slice-number.result.now ≡ i = ap length c.as_slice-number.ensures.value ∙ c.loop-route.invariant.many in
    record {
      many = (let a = length-append destinations (destination ∷ []) in let m = c.loop-route.invariant.many in let l = ap length pushed in omega (arith, a, m, l));
      each = more_along plan routes destinations c.push.new.self.items i destination c.loop-route.invariant.many c.loop-route.invariant.each (one_along plan routes i (length c.as_slice-number.result.now) c.place_of-place.result none c.in_ok-device.device destination c.loop-route-test.true number c.place_of-place.ensures c.in_ok-device.ensures.waits c.destination_over-destination.ensures) pushed;
    }
