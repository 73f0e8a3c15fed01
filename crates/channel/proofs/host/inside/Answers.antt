use Rattle.std.proofs.Common.{lit<, ◌∷◌, ◌++◌, [], None, Some}
use Rattle.std.proofs.lemmas.Str.Pattern.{strip_prefix_char, strip_suffix_char}
use Rattle.channel.proofs.Addresses.{if_none, within, within_none}
use Rattle.channel.proofs.host.inside.Goals as goal

pub returns-in_err-rest-clause-none : goal.returns-in_err-rest-clause-none
returns-in_err-rest-clause-none c =
    if_none c.from_residual.result _ (λ inner. strip_prefix_char 91 c.args.text.now None c.in_err-rest.ensures.cases (lit< tt) (inner ++ 93 ∷ []))

pub returns-clause-found : goal.returns-clause-found
returns-clause-found c =
    within c.args.text.now c.in_ok-rest.rest.now c.strip_suffix.result
    (strip_prefix_char 91 c.args.text.now (Some c.in_ok-rest.rest) c.in_ok-rest.ensures.cases (lit< tt))
    (strip_suffix_char 93 c.in_ok-rest.rest.now c.strip_suffix.result c.strip_suffix.ensures.cases (lit< tt))

pub returns-clause-none : goal.returns-clause-none
returns-clause-none c =
    within_none c.args.text.now c.in_ok-rest.rest.now c.strip_suffix.result
    (strip_prefix_char 91 c.args.text.now (Some c.in_ok-rest.rest) c.in_ok-rest.ensures.cases (lit< tt))
    (strip_suffix_char 93 c.in_ok-rest.rest.now c.strip_suffix.result c.strip_suffix.ensures.cases (lit< tt))
