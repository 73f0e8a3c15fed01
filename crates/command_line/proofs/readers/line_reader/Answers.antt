use Rattle.std.proofs.Common.{◌∙◌}
use Rattle.command_line.proofs.Words.{by_first}
use Rattle.command_line.proofs.readers.line_reader.Goals as goal

pub returns-in-len2-up : goal.returns-in-len2-up
returns-in-len2-up c = c.reader_of_more.ensures ∙ by_first c.args.line.now _ _ c.in-len2-up.len_at_least
