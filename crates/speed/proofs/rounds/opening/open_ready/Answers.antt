use Rattle.std.proofs.Common.{◌≡◌, ℕ, ◌+◌, ◌≤◌, sym, ap, ◌∙◌, subst, arith}
use Rattle.std.specs.Prelude.{length}
use Rattle.theory.specs.Bytes.{Identity}
use Rattle.theory.specs.Position.{Geometry, IsGeometry}
use Rattle.publication.specs.declared.pass.Pass.{Pass}
use Rattle.log_rule.specs.Table.{first_there}
use Rattle.shared_log.specs.Handles.{AreNew}
use Rattle.speed.proofs.Followers.{kept_on, new_kept}
use Rattle.speed.proofs.Limits.{opens_half}
use Rattle.speed.proofs.Lanes.{new_lanes, new_parts}
use Rattle.speed.proofs.rounds.opening.open_ready.Goals as goal

pub returns-clause-ready : goal.returns-clause-ready
returns-clause-ready c =
    let l = c.in_ok-log.log in let p = c.in_ok-log.ensures.parts in let is = c.in_ok-log.ensures.log in let xs = c.lanes_of.result in
    let rs = c.in_ok-log.parts.readers.items in let one : length rs ≡ 1 = p.all ∙ is.consumers_is in
    let new : AreNew l 0 (Rattle.std.specs.Prelude.map Rattle.speed.specs.Rounds.publisher_in xs) = subst (AreNew l 0) (sym c.lanes_of.ensures.publishers) p.publishers_are in
    let shape_is : l.identity.geometry ≡ c.args.geometry = ap (λ (i : Identity). i.geometry) is.identity_is in
    let legal : IsGeometry l.identity.geometry = subst IsGeometry (sym shape_is) c.max_position.ensures.legal in
    let there = ap (λ (v : Pass). v.keeping.there) c.set_connected.ensures.keeps.pass ∙ ap (λ (v : Pass). v.keeping.there) p.keeper_is.held.pass_is ∙ ap first_there is.consumers_is in
    let allows = opens_half l c.in_ok-log.parts.keeper c.set_connected.new.keeper c.clean_and_limit.new.keeper legal there (p.keeper_is.limit ∙ is.start_is) c.set_connected.ensures.keeps.limit c.clean_and_limit.ensures.done in record {
      shape = shape_is;
      start = is.start_is;
      lanes = new_lanes l 0 xs new c.lanes_of.ensures.none;
      none = c.lanes_of.ensures.none;
      whole = new_parts l xs new;
      keeper = kept_on l _ _ _ c.clean_and_limit.ensures.done.keeps (kept_on l _ _ _ c.set_connected.ensures.keeps (new_kept l _ p.keeper_is));
      connected = allows.connected;
      limit = (let half = allows.limit in let same : l.identity.geometry.term_length ≡ c.args.geometry.term_length = ap (λ (g : Geometry). g.term_length) shape_is in omega (arith, half, same));
      readers = p.of_log;
      one = one;
    }
