use Rattle.std.proofs.Common.{◌∙◌, sym, subst}
use Rattle.std.specs.Str.{IsUtf8}
use Rattle.channel.proofs.Addresses.{name_is_text, used_is}
use Rattle.channel.proofs.host.Name.text.Goals as goal

pub returns-in-Ok : goal.returns-in-Ok
returns-in-Ok c = λ text is name. c.in-Ok.ensures.cases.0 ∙ c.used.ensures ∙ used_is text c.args.self.now is name

pub returns-in-Err : goal.returns-in-Err
returns-in-Err c = λ text is name. absurd (c.in-Err.ensures.cases.0 (subst IsUtf8 (sym (c.used.ensures ∙ used_is text c.args.self.now is name)) (name_is_text text name)))
