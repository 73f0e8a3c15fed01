use Rattle.std.proofs.Common.{◌∙◌, ℕ, List, refl, subst, sym}
use Rattle.std.specs.List.{AllZip}
use Rattle.subscriber.specs.Routing.{ReadsMany, ReadsOne}
use Rattle.subscriber.specs.Sessions.{IsRouted}
use Rattle.subscriber.specs.declared.images.session.Session.{Session}
use Rattle.subscriber.proofs.Each.{zip_length}
use Rattle.subscriber.proofs.Reading.{all_routed_on, all_routed_still, read_more, read_one}
use Rattle.subscriber.proofs.Seated.{written_whole}
use Rattle.subscriber.proofs.images.sessions.Sessions.read.Goals as goal

pub loop-init : goal.loop-init
loop-init c = record { reads = (0, refl); kept = all_routed_still c.args.self.now.list.items; moment = refl }

pub returns-in_err-route-clause-kept : goal.returns-in_err-route-clause-kept
returns-in_err-route-clause-kept c =
    let items : List Session = c.loop.self.list.items in let new : List Session = c.route.new.sessions in
    let kept : AllZip IsRouted items new = subst (λ (xs : List Session). AllZip IsRouted xs new) c.as_mut_slice-list.ensures.value c.route.ensures.kept in
    subst (AllZip IsRouted c.args.self.now.list.items) (sym (written_whole items new c.loop.self.list.len c.loop.self.list.ok.0 (zip_length IsRouted items new kept))) (all_routed_on _ _ _ c.loop.invariant.kept kept)

pub returns-in-Nothing-clause-reads : goal.returns-in-Nothing-clause-reads
returns-in-Nothing-clause-reads c =
    let items : List Session = c.loop.self.list.items in let new : List Session = c.route.new.sessions in
    let kept : AllZip IsRouted items new = subst (λ (xs : List Session). AllZip IsRouted xs new) c.as_mut_slice-list.ensures.value c.route.ensures.kept in
    let one : ReadsOne (record { sessions = items; socket = c.loop.self.reception; seen = c.loop.watch }) (record { sessions = new; socket = c.route.new.self; seen = c.route.new.watch }) =
    subst (λ (xs : List Session). ReadsOne (record { sessions = xs; socket = c.loop.self.reception; seen = c.loop.watch }) (record { sessions = new; socket = c.route.new.self; seen = c.route.new.watch })) c.as_mut_slice-list.ensures.value
    (read_one _ _ _ _ _ _ c.hear.ensures.noted.0 c.hear.ensures.same c.hear.ensures.noted.1 c.in_ok-route.ensures.routes) in
    let more =
    subst (λ (xs : List Session). (n : ℕ) × ReadsMany n (record { sessions = c.args.self.now.list.items; socket = c.args.self.now.reception; seen = c.args.watch.now }) (record { sessions = xs; socket = c.route.new.self; seen = c.route.new.watch }))
    (sym (written_whole items new c.loop.self.list.len c.loop.self.list.ok.0 (zip_length IsRouted items new kept))) (read_more _ _ _ c.loop.invariant.reads one) in record { count = more.0; reads = more.1 }

pub returns-in-Nothing-clause-kept : goal.returns-in-Nothing-clause-kept
returns-in-Nothing-clause-kept c =
    let items : List Session = c.loop.self.list.items in let new : List Session = c.route.new.sessions in
    let kept : AllZip IsRouted items new = subst (λ (xs : List Session). AllZip IsRouted xs new) c.as_mut_slice-list.ensures.value c.route.ensures.kept in
    subst (AllZip IsRouted c.args.self.now.list.items) (sym (written_whole items new c.loop.self.list.len c.loop.self.list.ok.0 (zip_length IsRouted items new kept))) (all_routed_on _ _ _ c.loop.invariant.kept kept)

pub loop-preserved : goal.loop-preserved
loop-preserved c =
    let items : List Session = c.loop.self.list.items in let new : List Session = c.route.new.sessions in
    let kept : AllZip IsRouted items new = subst (λ (xs : List Session). AllZip IsRouted xs new) c.as_mut_slice-list.ensures.value c.route.ensures.kept in
    let whole = written_whole items new c.loop.self.list.len c.loop.self.list.ok.0 (zip_length IsRouted items new kept) in
    let one : ReadsOne (record { sessions = items; socket = c.loop.self.reception; seen = c.loop.watch }) (record { sessions = new; socket = c.route.new.self; seen = c.route.new.watch }) =
    subst (λ (xs : List Session). ReadsOne (record { sessions = xs; socket = c.loop.self.reception; seen = c.loop.watch }) (record { sessions = new; socket = c.route.new.self; seen = c.route.new.watch })) c.as_mut_slice-list.ensures.value
    (read_one _ _ _ _ _ _ c.hear.ensures.noted.0 c.hear.ensures.same c.hear.ensures.noted.1 c.in_ok-route.ensures.routes) in
    let more = read_more _ _ _ c.loop.invariant.reads one in record {
      reads = subst (λ (xs : List Session). (n : ℕ) × ReadsMany n (record { sessions = c.args.self.now.list.items; socket = c.args.self.now.reception; seen = c.args.watch.now }) (record { sessions = xs; socket = c.route.new.self; seen = c.route.new.watch })) (sym whole) more;
      kept = subst (AllZip IsRouted c.args.self.now.list.items) (sym whole) (all_routed_on _ _ _ c.loop.invariant.kept kept);
      moment = c.route.ensures.moment ∙ c.hear.ensures.moment ∙ c.loop.invariant.moment;
    }
