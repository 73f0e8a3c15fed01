use Rattle.std.proofs.Common.{ℤ, List, ap, refl, rules, subst}
use Rattle.std.proofs.lemmas.Int.{to_z-of_z}
use Rattle.std.specs.Int.{w32}
use Rattle.std.specs.Prelude.{FitsSigned}
use Rattle.subscriber.specs.Callers.{HasNext}
use Rattle.subscriber.specs.Receivings.{Receiving}
use Rattle.subscriber.specs.Choosing.{IsChosen}
use Rattle.subscriber.specs.declared.images.session.Session.{Session}
use Rattle.subscriber.specs.declared.subscription.offers.Chosen.TheVariants as chosen
use Rattle.subscriber.proofs.subscription.Subscription.ask_where_placed.Goals as goal

pub returns-in-Given-clause-asked : goal.returns-in-Given-clause-asked
returns-in-Given-clause-asked g c =
    let plan = c.args.self.now.plan in
    let h = c.args.header.now in
    let xs = c.args.sessions.now.list.items in
    let i = c.in-Given.place in
    let fits : FitsSigned w32 h.session = search rules in
    let is : IsChosen plan h.session xs (chosen.Given i) = subst (λ (ys : List Session). IsChosen plan h.session ys (chosen.Given i)) c.as_slice.ensures.value
    (subst (λ (z : ℤ). IsChosen plan z c.as_slice.result.now (chosen.Given i)) (to_z-of_z w32 h.session fits) c.in-Given.ensures) in
    record {
      chosen = chosen.Given i;
      is = is;
      asks = (
        refl,
        (c.next_number-next.result, subst (λ (ys : List Session). HasNext ys i c.next_number-next.result) c.as_slice-in-Given.ensures.value c.next_number-next.ensures, ap (λ (r : Receiving). r.socket) c.ask_for.ensures),
      );
    }
