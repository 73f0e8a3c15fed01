use Rattle.log_messages.proofs.Heard.{further, gives, gives_none, goes_on, refuses, starts}
use Rattle.log_messages.proofs.log_messages.LogMessages.next.Goals as goal

pub loop-message-init : goal.loop-message-init
loop-message-init c = record { heard = starts c.args.self.now; reader = c.requires; alone = λ a. a }

pub hear-requires : goal.hear-requires
hear-requires c = c.loop-message.invariant.reader

pub returns-in-None-clause-answers : goal.returns-in-None-clause-answers
returns-in-None-clause-answers c = gives_none c.args.self.now c.loop-message.self c.hear.new.self c.loop-message.invariant.heard c.in-None.ensures.none

pub loop-message-smaller : goal.loop-message-smaller
loop-message-smaller c =
    let heard = rw (c.in-Some-Ok-None.field-0-is, c.in-Some-Ok-None.field-0-0-is) at c.in-Some-Ok-None.ensures.heard in
    further c.args.self.now c.loop-message.self c.hear.new.self heard

pub loop-message-preserved : goal.loop-message-preserved
loop-message-preserved c =
    let heard = rw (c.in-Some-Ok-None.field-0-is, c.in-Some-Ok-None.field-0-0-is) at c.in-Some-Ok-None.ensures.heard in
    record { heard = goes_on c.args.self.now c.loop-message.self c.hear.new.self c.loop-message.invariant.heard heard; reader = c.hear.ensures.stays; alone = λ a. c.hear.ensures.alone (c.loop-message.invariant.alone a) }

pub returns-in-Some-Ok-Some-clause-answers : goal.returns-in-Some-Ok-Some-clause-answers
returns-in-Some-Ok-Some-clause-answers c =
    let heard = rw (c.in-Some-Ok-Some.field-0-is, c.in-Some-Ok-Some.field-0-0-is) at c.in-Some-Ok-Some.ensures.heard in
    gives c.args.self.now c.loop-message.self c.hear.new.self c.in-Some-Ok-Some.message.bytes.items c.loop-message.invariant.heard heard

pub returns-in-Some-Ok-Some-clause-small : goal.returns-in-Some-Ok-Some-clause-small
returns-in-Some-Ok-Some-clause-small c =
    let small = rw (c.in-Some-Ok-Some.field-0-is, c.in-Some-Ok-Some.field-0-0-is) at c.in-Some-Ok-Some.ensures.small in
    rw c.loop-message.invariant.heard.hears.reads.greatest at small

pub returns-in-Some-Err-clause-answers : goal.returns-in-Some-Err-clause-answers
returns-in-Some-Err-clause-answers c =
    let refused = rw c.in-Some-Err.field-0-is at c.in-Some-Err.ensures.refused in
    refuses c.args.self.now c.loop-message.self c.hear.new.self c.in-Some-Err.error c.loop-message.invariant.heard refused
