use Rattle.std.proofs.Common.{◌∷◌, [], refl, sym, subst, arith, rules}
use Rattle.std.specs.Io.KnownBytes.{Consumes}
use Rattle.std.proofs.KnownBytes.{Consumes-trans}
use Rattle.std.proofs.lemmas.Nat.{le_bytes_4}
use Rattle.std.proofs.lemmas.Result.{err_from_is_err_and}
use Rattle.messages.proofs.Taking.{length_broken}
use Rattle.messages.proofs.blocks.next_length.Goals as goal

pub returns-in_err-first-clause-fault : goal.returns-in_err-first-clause-fault
returns-in_err-first-clause-fault g c =
    let e = c.in_err-first.ensures in
    let p = err_from_is_err_and c.from_residual.result c.from_residual.ensures.1 in
    rw (p.1, p.2, e.fault.1) ([], (e.kept, omega arith))

pub returns-in_err-second-clause-fault : goal.returns-in_err-second-clause-fault
returns-in_err-second-clause-fault g c =
    let e = c.from_residual-in_err-second in
    let p = err_from_is_err_and e.result e.ensures.1 in
    let one = rw c.in-Some.is at c.in_ok-first.ensures.gives in
    rw (p.1, p.2) (c.in-Some.first ∷ [], length_broken c.args.number _ _ _ _ _ (omega arith) (omega arith) one c.in_err-second.ensures.fault)

pub returns-in_err-third-clause-fault : goal.returns-in_err-third-clause-fault
returns-in_err-third-clause-fault g c =
    let e = c.from_residual-in_err-third in
    let p = err_from_is_err_and e.result e.ensures.1 in
    let one = rw c.in-Some.is at c.in_ok-first.ensures.gives in
    let two = Consumes-trans _ _ _ _ _ one c.in_ok-second.ensures.gives in
    rw (p.1, p.2) (c.in-Some.first ∷ c.in_ok-second.second ∷ [], length_broken c.args.number _ _ _ _ _ (omega arith) (omega arith) two c.in_err-third.ensures.fault)

pub returns-in_err-fourth-clause-fault : goal.returns-in_err-fourth-clause-fault
returns-in_err-fourth-clause-fault g c =
    let e = c.from_residual-in_err-fourth in
    let p = err_from_is_err_and e.result e.ensures.1 in
    let one = rw c.in-Some.is at c.in_ok-first.ensures.gives in
    let two = Consumes-trans _ _ _ _ _ one c.in_ok-second.ensures.gives in
    let three = Consumes-trans _ _ _ _ _ two c.in_ok-third.ensures.gives in
    rw (p.1, p.2) (c.in-Some.first ∷ c.in_ok-second.second ∷ c.in_ok-third.third ∷ [], length_broken c.args.number _ _ _ _ _ (omega arith) (omega arith) three c.in_err-fourth.ensures.fault)

pub returns-clause-gives : goal.returns-clause-gives
returns-clause-gives g c =
    let one = rw c.in-Some.is at c.in_ok-first.ensures.gives in
    let two = Consumes-trans _ _ _ _ _ one c.in_ok-second.ensures.gives in
    let three = Consumes-trans _ _ _ _ _ two c.in_ok-third.ensures.gives in
    let all = Consumes-trans _ _ _ _ _ three c.in_ok-fourth.ensures.gives in
    subst (Consumes _ _) (sym (le_bytes_4 (c.in-Some.first ∷ c.in_ok-second.second ∷ c.in_ok-third.third ∷ c.in_ok-fourth.fourth ∷ []) _ refl (search rules) c.from_le_bytes.ensures)) all
