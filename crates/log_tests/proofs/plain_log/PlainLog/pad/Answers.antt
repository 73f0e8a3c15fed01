use Rattle.std.proofs.Common.{◌+◌, ◌≤◌, sym, subst, arith}
use Rattle.one_hand.specs.Stream.{Stream, term_of}
use Rattle.log_tests.proofs.Plain.Parts.{pads, parts, spare}
use Rattle.log_tests.proofs.plain_log.PlainLog.pad.Goals as goal

pub push_reserved-requires : goal.push_reserved-requires
push_reserved-requires c =
    let bound = subst (λ (s : Stream). s.tail + c.args.room ≤ s.start + term_of s) (sym c.self.view_is) c.requires.bound in
    let some = c.requires.some in let len = c.self.inside.additions.ok.0 in
    spare (parts c.self.inside) c.self.invariant.0 _ _ (omega (arith, len)) c.self.invariant.1 (omega (arith, bound, some))

pub invariant_of-self : goal.invariant_of-self
invariant_of-self c =
    let reserved = c.self.invariant.1 in let capacity = c.push_reserved.ensures.capacity in (
      (pads (parts c.self.inside) c.args.self.now c.self.view_is c.self.invariant.0 c.args.publisher c.args.room c.requires.publisher c.requires.rest c.requires.some c.requires.bound c.from.result c.from-2.result c.push_reserved.new.self.items c.from.ensures c.from-2.ensures c.push_reserved.ensures.items).0,
      omega (arith, reserved, capacity),
      c.self.invariant.2,
    )

pub returns : goal.returns
returns c = (pads (parts c.self.inside) c.args.self.now c.self.view_is c.self.invariant.0 c.args.publisher c.args.room c.requires.publisher c.requires.rest c.requires.some c.requires.bound c.from.result c.from-2.result c.push_reserved.new.self.items c.from.ensures c.from-2.ensures c.push_reserved.ensures.items).1
