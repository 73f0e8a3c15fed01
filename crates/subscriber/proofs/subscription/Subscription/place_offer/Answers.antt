use Rattle.std.proofs.Common.{ℤ, List, ap, rules, subst}
use Rattle.std.proofs.lemmas.Int.{to_z-of_z}
use Rattle.std.proofs.lemmas.Result.{on_ok_weaker}
use Rattle.std.specs.Int.{w32}
use Rattle.std.specs.Prelude.{FitsSigned}
use Rattle.subscriber.proofs.Apart.{placed_apart, set_apart}
use Rattle.subscriber.proofs.Seated.{given_within, own_within, placed_at}
use Rattle.subscriber.specs.Choosing.{IsChosen}
use Rattle.subscriber.specs.Sessions.{IsShareAt}
use Rattle.subscriber.specs.Turning.{Replaces, Turns}
use Rattle.subscriber.specs.declared.images.session.Session.{Session}
use Rattle.subscriber.specs.declared.subscription.offers.Chosen.TheVariants as chosen
use Rattle.subscriber.proofs.subscription.Subscription.place_offer.Goals as goal

pub returns-in-Own-clause-placed : goal.returns-in-Own-clause-placed
returns-in-Own-clause-placed g c =
    let plan = c.args.self.now.plan in
    let m = c.args.meeting.now in
    let fits : FitsSigned w32 m.opening.session = search rules in
    let xs = c.args.sessions.now.list.items in
    let i = c.in-Own.place in
    let is : IsChosen plan m.opening.session xs (chosen.Own i) = subst (λ (ys : List Session). IsChosen plan m.opening.session ys (chosen.Own i)) c.as_slice.ensures.value
    (subst (λ (z : ℤ). IsChosen plan z c.as_slice.result.now (chosen.Own i)) (to_z-of_z w32 m.opening.session fits) c.in-Own.ensures) in
    let among : IsShareAt xs i c.share_at-share.result = subst (λ (ys : List Session). IsShareAt ys i c.share_at-share.result) c.as_slice-in-Own.ensures.value c.share_at-share.ensures in
    on_ok_weaker c.turns.result (λ becomes. record {
      chosen = chosen.Own i;
      is = is;
      goes = placed_at (λ n j k. Turns plan n m j k) xs i c.share_at-share.result c.index_mut.result.now c.turns.new.session (own_within plan m.opening.session xs i is) c.index_mut.ensures.value among becomes;
    }) c.turns.ensures.turns

pub returns-in-Own-clause-apart : goal.returns-in-Own-clause-apart
returns-in-Own-clause-apart g c = on_ok_weaker c.turns.result (λ placed. placed_apart _ _ _ _ _ placed c.requires.apart) (returns-in-Own-clause-placed g c)

pub returns-in-Given-clause-placed : goal.returns-in-Given-clause-placed
returns-in-Given-clause-placed g c =
    let plan = c.args.self.now.plan in
    let m = c.args.meeting.now in
    let fits : FitsSigned w32 m.opening.session = search rules in
    let xs = c.args.sessions.now.list.items in
    let i = c.in-Given.place in
    let is : IsChosen plan m.opening.session xs (chosen.Given i) = subst (λ (ys : List Session). IsChosen plan m.opening.session ys (chosen.Given i)) c.as_slice.ensures.value
    (subst (λ (z : ℤ). IsChosen plan z c.as_slice.result.now (chosen.Given i)) (to_z-of_z w32 m.opening.session fits) c.in-Given.ensures) in
    let among : IsShareAt xs i c.share_at-share-in-Given.result = subst (λ (ys : List Session). IsShareAt ys i c.share_at-share-in-Given.result) c.as_slice-in-Given.ensures.value c.share_at-share-in-Given.ensures in
    on_ok_weaker c.replace.result (λ becomes. record {
      chosen = chosen.Given i;
      is = is;
      goes = placed_at (λ n j k. Replaces plan n m j k) xs i c.share_at-share-in-Given.result c.index_mut-in-Given.result.now c.replace.new.session (given_within plan m.opening.session xs i is) c.index_mut-in-Given.ensures.value among becomes;
    }) c.replace.ensures.renewed

pub returns-in-Given-clause-apart : goal.returns-in-Given-clause-apart
returns-in-Given-clause-apart g c = on_ok_weaker c.replace.result (λ placed. placed_apart _ _ _ _ _ placed c.requires.apart) (returns-in-Given-clause-placed g c)

pub returns-in-Further-clause-apart : goal.returns-in-Further-clause-apart
returns-in-Further-clause-apart g c =
    let plan = c.args.self.now.plan in
    let m = c.args.meeting.now in
    let fits : FitsSigned w32 m.opening.session = search rules in
    let xs = c.args.sessions.now.list.items in
    let is : IsChosen plan m.opening.session xs chosen.Further = subst (λ (ys : List Session). IsChosen plan m.opening.session ys chosen.Further) c.as_slice.ensures.value
    (subst (λ (z : ℤ). IsChosen plan z c.as_slice.result.now chosen.Further) (to_z-of_z w32 m.opening.session fits) c.in-Further.ensures) in
    on_ok_weaker c.open_further.result (λ joins. placed_apart plan m c.args.now xs c.open_further.new.sessions.list.items (record { chosen = chosen.Further; is = is; goes = joins }) c.requires.apart)
    c.open_further.ensures.joins

pub returns-in-Nowhere-clause-apart : goal.returns-in-Nowhere-clause-apart
returns-in-Nowhere-clause-apart g c =
    set_apart c.args.sessions.now.list.items c.index_mut-in-Nowhere.result.now c.warn.new.self c.requires.some c.index_mut-in-Nowhere.ensures.value
    (ap (λ (x : Session). x.follower.opening.session) c.warn.ensures.warns.kept) c.requires.apart
