use Rattle.std.proofs.Common.{pos, refl}
use Rattle.receiver.specs.Receiving as receiving
use Rattle.agent_tests.proofs.way.listening.Goals as goal

pub returns : goal.returns
returns c =
    let r = receiving.listening (pos 1) (pos 1001) 32768 (pos 3) 1 8192 in
    (r, c.new.ensures.shown r (c.new-core.ensures.shown 8192) refl, refl)
