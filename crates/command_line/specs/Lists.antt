-- Options of a command line that may stand several times.
use Rattle.std.specs.Prelude.{◌≡◌, ℕ, List, [], Some, map, unwrap_or}
use Rattle.std.specs.Borrow.{Bor}
use Rattle.clap.specs.Words.{App, Row, Rule, Text, all_of, with_rule}
use Rattle.clap.specs.declared.builder.action.ArgAction.TheVariants.{Append}
use Rattle.command_line.specs.Numbers.{valued_rule}

-- what a parse reads of such an option
abbrev pub list_rule : Text → Rule
list_rule name = record (valued_rule name) { action = Some Append }

-- a command with one such option more
abbrev pub plus_list : Text → App → App
plus_list name a = with_rule a (list_rule name)

-- the texts that were found, in order; none where it didn't stand
abbrev pub AreTold : List Row → Text → List (Bor (List ℕ)) → Type 0
AreTold rows name texts = map (λ t. t.now) texts ≡ unwrap_or (all_of name rows) []
