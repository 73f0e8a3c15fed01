use Rattle.std.proofs.Common.{inr, ap, sym, ◌∙◌, ◌++◌, ℕ, List, ◌≡◌}
use Rattle.std.proofs.lemmas.Result.{IfErr-weaker}
use Rattle.channel.specs.Channels.{prefix}
use Rattle.channel.proofs.channel.read.Goals as goal

pub returns-clause-fault : goal.returns-clause-fault
returns-clause-fault c =
    let cut = c.in-Some.ensures.cases in
    let begins : c.args.text.now ≡ prefix ++ c.in-Some.rest.now = cut.1.1 ∙ ap (λ (r : List ℕ). prefix ++ r) (sym cut.2) in
    IfErr-weaker c.made.result _ _ (λ f w. inr (c.in-Some.rest.now, begins, inr (record { settings = c.in_ok-settings.settings; sets = c.in_ok-settings.ensures.set; wrong = w }))) c.made.ensures.fault
