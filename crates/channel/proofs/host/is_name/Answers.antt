use Rattle.std.proofs.Common.{◌∙◌, ap, sym, arith}
use Rattle.std.specs.Char.{is_ascii_digit}
use Rattle.std.specs.List.{list_all}
use Rattle.channel.specs.Hosts.{is_name_byte}
use Rattle.channel.proofs.Addresses.{name_made}
use Rattle.channel.proofs.host.is_name.Goals as goal

pub returns : goal.returns
returns c =
    let all = c.are_name_bytes.ensures ∙ ap (list_all is_name_byte) c.as_bytes-2.ensures.value in
    let digits = sym (c.if-are_digits.ensures ∙ ap (list_all is_ascii_digit) c.as_bytes.ensures.value) in
    (λ t. name_made c.args.text.now _ (omega (arith, c.if-text-gt253.false)) (sym all ∙ t) c.last_label.ensures digits, λ name. all ∙ name.bytes)
