use Rattle.std.proofs.Common.{◌≡◌, ◌<◌, Some, false, refl, rules}
use Rattle.std.specs.Fmt.{styled_digits_output}
use Rattle.std.proofs.Output.{displays_on_ok_of_eq}
use Rattle.std.proofs.lemmas.Fmt.{hex_byte}
use Rattle.text.specs.Digits.{two_digits}
use Rattle.text.proofs.hexadecimal.DigitsDisplay.fmt.Goals as goal

pub returns-clause-writes : goal.returns-clause-writes
returns-clause-writes g c =
    let small : c.args.self.now.0 < 256 = search rules in
    let out : styled_digits_output c.in_radix.result c.laid_out.result ≡ Some (two_digits c.args.self.now.0) = rw (c.laid_out.ensures, c.in_radix.ensures, hex_byte false c.args.self.now.0 small) refl in
    displays_on_ok_of_eq _ _ _ _ _ _ out c.write.ensures.writes
