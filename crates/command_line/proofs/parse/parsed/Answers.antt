use Rattle.std.proofs.Common.{◌≡◌, ◌∙◌, Result, Ok, ap, map, subst, sym}
use Rattle.std.specs.Prelude.{IfOk}
use Rattle.clap.specs.Words.{App, HasKind, HasMatchesOf, app_of, fault_of, is_simple_and_free}
use Rattle.clap.specs.declared.builder.command.Command.{Command}
use Rattle.command_line.proofs.Faults.{fault_in}
use Rattle.command_line.proofs.parse.parsed.Goals as goal

-- the command that was made reads so
made_so : {E : Type 0} (r : Result Command E) (command : Command) (a : App) → r ≡ Ok command → IfOk r (λ x. app_of x ≡ a) → app_of command ≡ a
made_so {E = E} r command a is reads = subst (λ (x : Result Command E). IfOk x (λ y. app_of y ≡ a)) is reads

pub returns-in-Ok-try_get_matches_from-clause-found : goal.returns-in-Ok-try_get_matches_from-clause-found
returns-in-Ok-try_get_matches_from-clause-found c = λ a reads.
    let is = made_so _ c.in-Ok.command a c.in-Ok.is reads in
    subst (λ (b : App). HasMatchesOf b (map (λ s. s.now) c.args.words.now) c.in-Ok-try_get_matches_from.matches) is c.in-Ok-try_get_matches_from.ensures.matches

pub returns-in-Ok-try_get_matches_from-clause-passed : goal.returns-in-Ok-try_get_matches_from-clause-passed
returns-in-Ok-try_get_matches_from-clause-passed c = λ a reads free.
    let is = made_so _ c.in-Ok.command a c.in-Ok.is reads in
    let words = map (λ s. s.now) c.args.words.now in
    ap (λ b. fault_of b words) (sym is) ∙ c.in-Ok-try_get_matches_from.ensures.kinds (ap is_simple_and_free is ∙ free)

pub returns-in-Err-clause-fault : goal.returns-in-Err-clause-fault
returns-in-Err-clause-fault c = λ a reads free.
    let is = made_so _ c.in-Ok.command a c.in-Ok.is reads in
    let words = map (λ s. s.now) c.args.words.now in
    let kinds = subst (λ (b : App). HasKind (fault_of b words) c.in-Err.error) is (c.in-Err.ensures.kinds (ap is_simple_and_free is ∙ free)) in
    fault_in (fault_of a words) c.in-Err.error c.fault_of.result kinds c.fault_of.ensures.shown
