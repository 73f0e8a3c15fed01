use Rattle.std.proofs.Common.{◌++◌, refl, inr, arith}
use Rattle.std.specs.Int.{w32, to_le_bytes}
use Rattle.std.proofs.KnownBytes.{Consumes-trans}
use Rattle.std.proofs.lemmas.Result.{err_from_is_err_and}
use Rattle.messages.proofs.Taking.{part_broken, without_length}
use Rattle.messages.proofs.blocks.next_block.Goals as goal

pub returns-in_err-length-clause-fault : goal.returns-in_err-length-clause-fault
returns-in_err-length-clause-fault g c =
    let p = err_from_is_err_and c.from_residual.result c.from_residual.ensures.1 in
    let h = c.in_err-length.ensures.fault in
    rw (p.1, p.2) (without_length c.args.number c.args.greatest _ _ h.0 _ _ h.1)

pub returns-in_err-next_part-clause-fault : goal.returns-in_err-next_part-clause-fault
returns-in_err-next_part-clause-fault g c =
    let p = err_from_is_err_and c.from_residual-in_err-next_part.result c.from_residual-in_err-next_part.ensures.1 in
    let taken = rw c.in-Some.is at c.in_ok-length.ensures.gives in
    rw (p.1, p.2) (part_broken c.args.number c.args.greatest c.in-Some.length _ _ _ _ _ (omega arith) taken c.in_err-next_part.ensures.fault)

pub returns-clause-fault : goal.returns-clause-fault
returns-clause-fault g c =
    let part = rw c.if-branch.false at c.in_ok-next_part.ensures.takes in (
      refl,
      (
        to_le_bytes w32 c.in-Some.length ++ c.next_part.new.message.items,
        Consumes-trans _ _ _ _ _ (rw c.in-Some.is at c.in_ok-length.ensures.gives) part.0,
        part.1,
        inr (c.in-Some.length, c.next_part.new.message.items, refl, part.2),
      ),
    )
