use Rattle.std.proofs.Common.{◌≡◌, ◌<◌, ◌++◌, ◌∷◌, [], length, Some, subst, vec_len, arith}
use Rattle.std.proofs.lemmas.Bool.Decides.{nat_tests}
use Rattle.std.proofs.lemmas.List.{map_push}
use Rattle.std.proofs.lemmas.Result.{err_from_is_err_and}
use Rattle.script.specs.Meaning.{opened, content_of, contents_of, opening}
use Rattle.script.specs.Reading.{FailsAt, are_none, command_at}
use Rattle.script.proofs.Whole.{empty_line, log_refused, log_opened, command_fails, command_added, none_are}
use Rattle.script.proofs.read.read_line.Goals as goal

pub returns-then-is_empty-clause-ok : goal.returns-then-is_empty-clause-ok
returns-then-is_empty-clause-ok c = empty_line c.args.number c.args.line.now (opened c.args.log.now) (contents_of c.args.commands.now.items) (grind (arith, nat_tests))

pub returns-in_default-clause-err : goal.returns-in_default-clause-err
returns-in_default-clause-err c = λ rest.
    let some : 0 < length c.args.line.now = grind (arith, nat_tests) in
    rw c.in-None.is (log_refused c.args.number (are_none (contents_of c.args.commands.now.items)) c.args.line.now rest some c.in_default.ensures)

pub returns-in_err-next-in-Some-clause-err : goal.returns-in_err-next-in-Some-clause-err
returns-in_err-next-in-Some-clause-err c =
    let some : 0 < length c.args.line.now = grind (arith, nat_tests) in
    let p = err_from_is_err_and c.from_residual.result c.from_residual.ensures.1 in
    let len = c.args.commands.now.ok.0 in
    let none : c.is_empty-in-Some.result ≡ are_none (contents_of c.args.commands.now.items) = none_are c.args.commands.now.items (vec_len c.args.commands.now) c.is_empty-in-Some.result c.is_empty-in-Some.ensures (omega (arith, len)) in
    let fails = subst (λ b. FailsAt c.args.number c.in_err-next-in-Some.field-0.0 (command_at b c.args.line.now)) none c.in_err-next-in-Some.ensures in
    rw (p.1, p.2, c.in-Some.is) (command_fails c.args.number (are_none (contents_of c.args.commands.now.items)) c.args.line.now (opening c.in-Some.field-0) c.in_err-next-in-Some.field-0.0 some fails)

pub returns-in-Some-log_line-clause-ok : goal.returns-in-Some-log_line-clause-ok
returns-in-Some-log_line-clause-ok c = λ rest.
    let some : 0 < length c.args.line.now = grind (arith, nat_tests) in
    rw c.in-None.is (log_opened c.args.number c.args.line.now (opening c.in-Some-log_line.opening) (contents_of c.args.commands.now.items) some c.in-Some-log_line.ensures rest)

pub returns-in_ok-push-in-Some-clause-ok : goal.returns-in_ok-push-in-Some-clause-ok
returns-in_ok-push-in-Some-clause-ok c = λ rest.
    let some : 0 < length c.args.line.now = grind (arith, nat_tests) in
    let pushed : contents_of c.push.new.self.items ≡ contents_of c.args.commands.now.items ++ content_of c.in_ok-next-in-Some.next ∷ [] = rw c.in_ok-push-in-Some.ensures.items (map_push _ c.args.commands.now.items c.in_ok-next-in-Some.next) in
    let len = c.args.commands.now.ok.0 in
    let none : c.is_empty-in-Some.result ≡ are_none (contents_of c.args.commands.now.items) = none_are c.args.commands.now.items (vec_len c.args.commands.now) c.is_empty-in-Some.result c.is_empty-in-Some.ensures (omega (arith, len)) in
    let read = subst (λ b. command_at b c.args.line.now ≡ Some (content_of c.in_ok-next-in-Some.next)) none c.in_ok-next-in-Some.ensures in
    rw (pushed, c.in-Some.is) (command_added c.args.number c.args.line.now (opening c.in-Some.field-0) (contents_of c.args.commands.now.items) (content_of c.in_ok-next-in-Some.next) some read rest)
