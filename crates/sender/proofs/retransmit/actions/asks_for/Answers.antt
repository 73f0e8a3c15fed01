use Rattle.std.proofs.Common.{rules, tests, ◌≡◌, nat_eq, sym, ◌∙◌}
use Rattle.std.specs.List.{list_any}
use Rattle.std.proofs.lemmas.Iterator.{YieldsList-from_slice}
use Rattle.std.proofs.lemmas.Iterator.Search.{any_from_yields_List}
use Rattle.sender.specs.Resending.Handler.{action_of}
use Rattle.sender.proofs.Resending.Due.{any_map}
use Rattle.sender.proofs.retransmit.actions.asks_for.Goals as goal

pub returns : goal.returns
returns c =
    let e : c.any.result ≡ list_any (λ a. nat_eq a.at c.args.at) c.args.actions.now = any_from_yields_List (λ a. nat_eq a.at c.args.at) _ _ _ c.any.ensures.ran (YieldsList-from_slice c.args.actions.now (cc)) (λ x b q k. search (rules, tests)) in
    e ∙ sym (any_map (λ a. nat_eq a.at c.args.at) action_of c.args.actions.now)
