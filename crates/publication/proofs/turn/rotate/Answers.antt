use Rattle.std.proofs.Common.{refl, ap}
use Rattle.publication.proofs.Steppings.{goes_by, goes_further}
use Rattle.publication.specs.Claims.{exactly}
use Rattle.publication.proofs.Turned.{turn_counted, turn_left}
use Rattle.publication.specs.declared.pass.Pass.{Pass}
use Rattle.publication.proofs.turn.rotate.Goals as goal

pub returns-then-begin_next-clause-part : goal.returns-then-begin_next-clause-part
returns-then-begin_next-clause-part g c =
    goes_further g.W.WordCalls.fits g.W.WordCalls.pass_of g.W.WordCalls.name g.W.WordCalls.id g.W.WordCalls.took g.met.W.WordCalls.more _ _ _ _ _ _ (exactly 0) (exactly 0) (exactly 0)
    c.begin_next.ensures.part
    (goes_by g.W.WordCalls.fits g.W.WordCalls.pass_of g.W.WordCalls.name g.W.WordCalls.id g.W.WordCalls.took _ _ _ _ _ c.exchange_count.ensures.moved c.exchange_count.ensures.took (ap (λ (u : Pass). u.call) c.exchange_count.ensures.told.after))
    refl

pub returns-then-begin_next-clause-turns : goal.returns-then-begin_next-clause-turns
returns-then-begin_next-clause-turns g c = turn_counted _ _ _ c.args.count c.exchange_count.result c.begin_next.result c.begin_next.ensures.begins c.if-begin_next.true c.exchange_count.ensures.told

pub returns-else-begin_next-clause-turns : goal.returns-else-begin_next-clause-turns
returns-else-begin_next-clause-turns g c = turn_left _ _ c.args.count c.begin_next.result c.begin_next.ensures.begins c.if-begin_next.false
