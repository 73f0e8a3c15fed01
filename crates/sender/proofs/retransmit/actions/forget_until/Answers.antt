use Rattle.std.proofs.Common.{rules, ◌≡◌, nat_le, not, ◌&&◌, filter, sym, ap, map, ◌∙◌}
use Rattle.std.proofs.lemmas.Fn.{filter_same}
use Rattle.sender.specs.Resending.Handler.{action_of}
use Rattle.sender.proofs.Resending.Due.{filter_map_of}
use Rattle.sender.proofs.retransmit.actions.forget_until.Goals as goal

pub returns-clause-kept : goal.returns-clause-kept
returns-clause-kept c =
    let e : c.retain.new.self.items ≡ filter (λ a. not (a.lingers && nat_le a.until c.args.clock)) c.args.actions.now.items = filter_same _ _ _ (λ x b f' k. search rules) _ _ c.retain.ensures.filtered in
    ap (map action_of) e ∙ sym (filter_map_of (λ a. not (a.lingers && nat_le a.until c.args.clock)) action_of c.args.actions.now.items)
