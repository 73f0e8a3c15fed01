use Rattle.std.proofs.Common.{◌≡◌, ◌<◌, [], ◌∷◌, length, rules, arith, sym, ap, ◌∙◌, refl}
use Rattle.std.proofs.lemmas.Bool.Decides.{nat_tests}
use Rattle.script.specs.Pieces.{lines}
use Rattle.script.proofs.Cuts.{line_cut, line_all, no_line}
use Rattle.script.proofs.pieces.LinesIterator.next.Goals as goal

pub returns-then-is_empty-clause-steps : goal.returns-then-is_empty-clause-steps
returns-then-is_empty-clause-steps c =
    let none : lines c.args.self.now.rest.now ≡ [] = no_line c.args.self.now.rest.now (grind (arith, nat_tests)) in (none, none)

pub returns-in-Some-clause-steps : goal.returns-in-Some-clause-steps
returns-in-Some-clause-steps c = line_cut c.args.self.now.rest.now c.in-Some.end (search rules) (search rules) (search rules)

pub returns-in-Some-clause-goes : goal.returns-in-Some-clause-goes
returns-in-Some-clause-goes c =
    let cut = line_cut c.args.self.now.rest.now c.in-Some.end (search rules) (search rules) (search rules) in
    record { on = λ _. (tt, tt, omega (arith, ap length cut)); keeps = tt; rests = λ _. tt }

pub returns-in-None-clause-steps : goal.returns-in-None-clause-steps
returns-in-None-clause-steps c =
    let some : 0 < length c.args.self.now.rest.now = grind (arith, nat_tests) in
    line_all c.args.self.now.rest.now some (search rules) ∙ ap (λ rest. c.args.self.now.rest.now ∷ rest) (sym (no_line [] refl))

pub returns-in-None-clause-goes : goal.returns-in-None-clause-goes
returns-in-None-clause-goes c =
    let some : 0 < length c.args.self.now.rest.now = grind (arith, nat_tests) in
    let all = line_all c.args.self.now.rest.now some (search rules) in
    record { on = λ _. (tt, tt, omega (arith, ap length all, ap length (no_line [] refl))); keeps = tt; rests = λ _. tt }
