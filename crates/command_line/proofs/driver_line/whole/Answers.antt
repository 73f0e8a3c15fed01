use Rattle.std.proofs.Common.{codes}
use Rattle.clap.specs.Words.{new_app, with_rule, with_subcommand}
use Rattle.command_line.specs.CommandLines.{bare_app, hex_rule}
use Rattle.command_line.specs.RunLines.{run_app}
use Rattle.command_line.proofs.driver_line.whole.Goals as goal

pub returns : goal.returns
returns c =
    let sim = new_app (codes "sim") in
    let decode = with_rule (new_app (codes "decode")) hex_rule in
    let with_sim = with_subcommand bare_app sim.top in
    let first = c.joined-with_sim.ensures bare_app sim c.bare_command.ensures c.sim_command.ensures.shape c.sim_command.ensures.globals in
    let second = c.joined-with_decode.ensures with_sim decode first c.decode_command.ensures.shape c.decode_command.ensures.globals in
    c.joined.ensures (with_subcommand with_sim decode.top) run_app second c.run_command.ensures.shape c.run_command.ensures.globals
