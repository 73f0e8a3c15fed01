use Rattle.std.proofs.Common.{None}
use Rattle.receiver.proofs.Heard.{further, gives, gives_none, goes_on, refuses, starts}
use Rattle.receiver.proofs.message_reader.MessageReader.next.Goals as goal

pub loop-self-init : goal.loop-self-init
loop-self-init c = starts c.args.self.now c.pass.new.self c.pass.ensures.passes

pub hear-requires : goal.hear-requires
hear-requires c = c.loop-self.invariant.stands

pub returns-in-None-clause-answers : goal.returns-in-None-clause-answers
returns-in-None-clause-answers c = gives_none c.args.self.now c.loop-self.self c.hear.new.self c.loop-self.invariant c.in-None.ensures.none

pub loop-self-smaller : goal.loop-self-smaller
loop-self-smaller c =
    let heard = rw (c.in-Some-Ok-None.field-0-is, c.in-Some-Ok-None.field-0-0-is) at c.in-Some-Ok-None.ensures.heard in
    further c.args.self.now c.loop-self.self c.hear.new.self c.pass-in-Some-Ok-None.new.self None c.loop-self.invariant heard c.pass-in-Some-Ok-None.ensures.passes c.pass-in-Some-Ok-None.ensures.forward

pub loop-self-preserved : goal.loop-self-preserved
loop-self-preserved c =
    let heard = rw (c.in-Some-Ok-None.field-0-is, c.in-Some-Ok-None.field-0-0-is) at c.in-Some-Ok-None.ensures.heard in
    goes_on c.args.self.now c.loop-self.self c.hear.new.self c.pass-in-Some-Ok-None.new.self c.loop-self.invariant heard c.pass-in-Some-Ok-None.ensures.passes

pub returns-in-Some-Ok-Some-clause-answers : goal.returns-in-Some-Ok-Some-clause-answers
returns-in-Some-Ok-Some-clause-answers c =
    let heard = rw (c.in-Some-Ok-Some.field-0-is, c.in-Some-Ok-Some.field-0-0-is) at c.in-Some-Ok-Some.ensures.heard in
    gives c.args.self.now c.loop-self.self c.hear.new.self c.in-Some-Ok-Some.message.bytes.items c.loop-self.invariant heard

pub returns-in-Some-Ok-Some-clause-small : goal.returns-in-Some-Ok-Some-clause-small
returns-in-Some-Ok-Some-clause-small c =
    let small = rw (c.in-Some-Ok-Some.field-0-is, c.in-Some-Ok-Some.field-0-0-is) at c.in-Some-Ok-Some.ensures.small in
    rw c.loop-self.invariant.hears.reads.greatest at small

pub returns-in-Some-Err-clause-answers : goal.returns-in-Some-Err-clause-answers
returns-in-Some-Err-clause-answers c =
    let refused = rw c.in-Some-Err.field-0-is at c.in-Some-Err.ensures.refused in
    refuses c.args.self.now c.loop-self.self c.hear.new.self c.pass-in-Some-Err.new.self c.in-Some-Err.error c.loop-self.invariant refused c.pass-in-Some-Err.ensures.passes
