-- Flags of a command line.
use Rattle.std.specs.Prelude.{◌≡◌, Bool, List, codes, true, false, Some}
use Rattle.clap.specs.Words.{App, Row, Rule, Text, new_rule, one_of, with_rule}
use Rattle.clap.specs.declared.builder.action.ArgAction.TheVariants.{SetTrue}

-- what a parse reads of a flag
abbrev pub flag_rule : Text → Rule
flag_rule name = record (new_rule name) { long = Some name; action = Some SetTrue }

-- a command with one flag more
abbrev pub plus_flag : Text → App → App
plus_flag name a = with_rule a (flag_rule name)

-- whether the flag was found
pub record IsFlag (rows : List Row) (name : Text) (flag : Bool) : Type 0 where
  pub given : one_of name rows ≡ Some (codes "true") → flag ≡ true
  pub absent : one_of name rows ≡ Some (codes "false") → flag ≡ false
