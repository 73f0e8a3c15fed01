use Rattle.std.proofs.Common.{length, arith, lit<, ap, ◌∙◌, Some, None}
use Rattle.std.proofs.lemmas.Str.Pattern.{split_once_first, split_parts}
use Rattle.channel.specs.Channels.{parts_in}
use Rattle.channel.proofs.Cuts.{cut_first, cut_none}
use Rattle.channel.proofs.parts.PartsIterator.next.Goals as goal

pub returns-in-Some-clause-steps : goal.returns-in-Some-clause-steps
returns-in-Some-clause-steps c =
    ap parts_in c.in_ok-rest.was ∙ cut_first _ _ _ (split_once_first 124 c.in_ok-rest.rest.now (Some (c.in-Some.part, c.in-Some.after)) c.in-Some.ensures.cases (lit< tt))

pub returns-in-Some-clause-goes : goal.returns-in-Some-clause-goes
returns-in-Some-clause-goes c =
    let cut = ap parts_in c.in_ok-rest.was ∙ cut_first _ _ _ (split_once_first 124 c.in_ok-rest.rest.now (Some (c.in-Some.part, c.in-Some.after)) c.in-Some.ensures.cases (lit< tt)) in
    record { on = λ _. (tt, tt, omega (arith, ap length cut)); keeps = tt; rests = λ _. tt }

pub returns-in-None-clause-steps : goal.returns-in-None-clause-steps
returns-in-None-clause-steps c = ap parts_in c.in_ok-rest.was ∙ cut_none _ (split_parts 124 c.in_ok-rest.rest.now None c.in-None.ensures.cases (lit< tt))

pub returns-in-None-clause-goes : goal.returns-in-None-clause-goes
returns-in-None-clause-goes c =
    let cut = ap parts_in c.in_ok-rest.was ∙ cut_none _ (split_parts 124 c.in_ok-rest.rest.now None c.in-None.ensures.cases (lit< tt)) in
    record { on = λ _. (tt, tt, omega (arith, ap length cut)); keeps = tt; rests = λ _. tt }
