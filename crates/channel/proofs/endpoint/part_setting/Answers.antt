use Rattle.std.proofs.Common.{◌∙◌, ℕ, List, ◌∷◌, ◌++◌, lit<, refl, ap, sym, Some, None}
use Rattle.channel.specs.Settings.{is_set}
use Rattle.std.proofs.lemmas.Str.Pattern.{split_parts}
use Rattle.channel.proofs.Endings.{says_it}
use Rattle.channel.proofs.endpoint.part_setting.Goals as goal

pub returns-in_default-clause-fault : goal.returns-in_default-clause-fault
returns-in_default-clause-fault c = (refl, split_parts 61 c.args.part.now None c.in_default.ensures.cases (lit< tt))

pub returns-in_default-named-clause-fault : goal.returns-in_default-named-clause-fault
returns-in_default-named-clause-fault c =
    let cut = split_parts 61 c.args.part.now (Some (c.in-Some.name, c.in-Some.value)) c.in-Some.ensures.cases (lit< tt) in
    (c.in-Some.value.now, cut.0, cut.1, c.in_default-named.ensures.none)

pub returns-then-has-clause-fault : goal.returns-then-has-clause-fault
returns-then-has-clause-fault c =
    let cut = split_parts 61 c.args.part.now (Some (c.in-Some.name, c.in-Some.value)) c.in-Some.ensures.cases (lit< tt) in
    (c.in-Some.value.now, cut.0 ∙ ap (λ (n : List ℕ). n ++ 61 ∷ c.in-Some.value.now) c.in-Some-named.ensures.found, sym c.if-has.ensures)

pub returns-in-Some-setting_in-clause-set : goal.returns-in-Some-setting_in-clause-set
returns-in-Some-setting_in-clause-set c =
    let cut = split_parts 61 c.args.part.now (Some (c.in-Some.name, c.in-Some.value)) c.in-Some.ensures.cases (lit< tt) in
    let is = c.in-Some-setting_in.ensures.set in
    (says_it c.in-Some-named.parameter _ _ _ c.in-Some-setting_in.setting cut.0 c.in-Some-named.ensures.found is.0 is.1, ap (is_set c.args.settings.now) is.0 ∙ sym c.if-has.ensures)
