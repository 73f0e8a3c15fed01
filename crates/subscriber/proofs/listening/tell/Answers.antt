use Rattle.std.proofs.Common.{◌≡◌, OnOk, subst}
use Rattle.std.specs.Io.KnownBytes.{Appends}
use Rattle.subscriber.specs.Texts.{waiting_counts, waiting_line}
use Rattle.subscriber.specs.declared.reporting.Counts.{Counts}
use Rattle.subscriber.proofs.Due.{told_due}
use Rattle.subscriber.proofs.listening.tell.Goals as goal

pub returns-in-Some-clause-tells : goal.returns-in-Some-clause-tells
returns-in-Some-clause-tells g c =
    let s = c.args.watch.now in
    let counts : record { messages = 0; since = 0; naks = 0; lost = c.lost.result; strangers = c.strangers.result; refused = c.new.result } ≡ waiting_counts s =
    λ i. record { messages = 0; since = 0; naks = 0; lost = c.lost.ensures i; strangers = c.strangers.ensures i; refused = c.new.ensures i } in
    let told = subst (λ (x : Counts). OnOk c.tell.result (Appends (g.E.Write.contents c.args.errors.now) (g.E.Write.contents c.tell.new.errors) (waiting_line x))) counts c.tell.ensures in
    told_due c.args.plan.now 0 _ s c.tells.new.self c.tells.result _ _ c.in-Some.is c.tells.ensures.due c.tells.ensures.begins told
