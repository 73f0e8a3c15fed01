use Rattle.std.proofs.Common.{Some, None}
use Rattle.channel.proofs.Addresses.{labels}
use Rattle.channel.proofs.host.last_label.Goals as goal

pub returns-in-Some : goal.returns-in-Some
returns-in-Some c = labels c.args.text.now (Some (c.in-Some.field-0-0, c.in-Some.label)) c.in-Some.ensures.cases

pub returns-in-None : goal.returns-in-None
returns-in-None c = labels c.args.text.now None c.in-None.ensures.cases
