-- Options of a command line that have a number.
use Rattle.std.specs.Prelude.{◌≡◌, ◌≤◌, ℕ, List, [], ◌∷◌, None, Some}
use Rattle.std.specs.Str.Parse.{digits_value, without_leading_plus}
use Rattle.clap.specs.Values.{IsUnsignedIn}
use Rattle.clap.specs.Words.{App, Row, Rule, Text, new_rule, one_of, with_rule}
use Rattle.clap.specs.declared.builder.value_parser.ValueParser.TheVariants.{Unsigned}
use Rattle.command_line.specs.declared.number.Number.{Number}

-- what a parse reads of an option with a value, which the help calls by one name
abbrev pub valued_rule : Text → Rule
valued_rule name = record (new_rule name) { long = Some name; value_names = 1 }

-- what a parse reads of an option with a number
abbrev pub number_rule : Text → ℕ → ℕ → Rule
number_rule name least most = record (valued_rule name) { parser = Some (Unsigned least most) }

-- a command with one option more, with a number
abbrev pub plus : Text → ℕ → ℕ → App → App
plus name least most a = with_rule a (number_rule name least most)

-- a command with options of a row
abbrev pub with_numbers : List Number → App → App
with_numbers [] a = a
with_numbers (n ∷ ns) a = with_numbers ns (plus n.name.now n.least n.most a)

-- in the range, the number is the one that the found text spells, or this one where none was found
pub record IsNumber (rows : List Row) (name : Text) (least most otherwise number : ℕ) : Type 0 where
  pub low : least ≤ number
  pub high : number ≤ most
  pub absent : one_of name rows ≡ None → number ≡ otherwise
  pub given : (text : Text) → one_of name rows ≡ Some text → IsUnsignedIn least most text → number ≡ digits_value 10 (without_leading_plus text)
