use Rattle.std.proofs.Common.{◌≡◌, ◌∙◌, ◌∷◌, ◌++◌, [], List, Bool, ap, arith, if◌then◌else◌, length, length-append, subst}
use Rattle.commands.specs.Routes.{LeadElsewhere}
use Rattle.endpoint.specs.declared.udp.Route.{Route}
use Rattle.commands.proofs.Routes.{next_route, none, one_apart}
use Rattle.commands.proofs.route.routes_of.Goals as goal

pub loop-way-preserved : goal.loop-way-preserved
loop-way-preserved g c =
    let routes : List Route = c.loop-way.routes.items in let route = c.in_ok-route.route in
    let pushed : c.push.new.self.items ≡ routes ++ route ∷ [] = c.push.ensures.items ∙ ap (λ (b : Bool). if b then routes ++ route ∷ [] else routes) c.if-is_err.ensures.negation in
    record {
      routes = next_route c.args.ways.now routes c.push.new.self.items c.loop-way.way-index none route c.loop-way-test.true c.loop-way.invariant.routes c.in_ok-route.ensures.route pushed;
      apart = one_apart routes c.push.new.self.items route c.loop-way.invariant.apart (subst (λ (rs : List Route). LeadElsewhere rs c.in_ok-route.route.peer) c.deref.ensures.value (c.is_led.ensures.elsewhere c.if-is_led.false)) pushed;
      many = (let a = length-append routes (route ∷ []) in let m = c.loop-way.invariant.many in let l = ap length pushed in omega (arith, a, m, l));
    }
