-- Lines that begin with `run`: what the parser finds in them, and that `run` alone is taken, with all as it is by default.
use Rattle.std.proofs.Common.{◌≡◌, ◌++◌, codes, refl, sym, ap, subst, List, [], ◌∷◌, drop, Some}
use Rattle.clap.specs.Walk.{Rule, Text, Walk, nothing_held, rows_after, walk, walk_from, walked}
use Rattle.clap.specs.Simple.{entered, filled_from, help_rule, names_of, subcommand_of}
use Rattle.clap.specs.Faults.{built_fault, fault_of}
use Rattle.clap.proofs.OnLiterals.{clap_on_literals}
use Rattle.clap.proofs.WalkLemmas.{walk_stopped}
use Rattle.options.specs.Run.Defaults.{IsByDefault}
use Rattle.options.specs.declared.run.options.RunOptions.{RunOptions}
use Rattle.command_line.specs.CommandLines.{AsksFor, AsksForBareRun, IsChoice, IsRunByDefault, IsRunChoice, driver_app}
use Rattle.command_line.specs.RunLines.{run_app}
use Rattle.command_line.specs.RunTold.{IsRunOf}
use Rattle.command_line.specs.declared.choice.Options.{Options}
use Rattle.command_line.specs.declared.choice.Options.TheVariants.{Sim, Decode, Run}
use Rattle.command_line.proofs.CommandLineLemmas.{app, bare}

-- the rules of the command's options and of `--help`
abbrev running : List Rule
running = filled_from 1 (run_app.top.rules ++ help_rule ∷ [])

run_met : (rest : List Text) → entered app (walk bare (names_of app) nothing_held (codes "run" ∷ rest)).stopped ≡ Some (codes "run", rows_after running [] rest)
unfolding walked
run_met rest = ap (λ (w : Walk). entered app w.stopped) (sym (walk_stopped app.top.rules (names_of app) (walk_from nothing_held) (codes "run") [] rest))

found_run : (words rest : List Text) → drop 1 words ≡ codes "run" ∷ rest → subcommand_of driver_app words ≡ Some (codes "run", rows_after running [] rest)
found_run words rest is = rw (is) (run_met rest)

told : (words rest : List Text) (o : Options) → drop 1 words ≡ codes "run" ∷ rest → IsRunChoice (rows_after running [] rest) o → AsksFor o words
told words rest Sim is t = absurd t
told words rest (Decode word) is t = absurd t
told words rest (Run o) is t = record { rest = rest; first = is; rows = rows_after running [] rest; found = found_run words rest is; told = t }

-- a line that begins with `run` asks for what was chosen
pub run_chosen : (words rest : List Text) (o : Options) → drop 1 words ≡ codes "run" ∷ rest → IsChoice (subcommand_of driver_app words) o → AsksFor o words
run_chosen words rest o is choice = told words rest o is (choice.run (rows_after running [] rest) (found_run words rest is))

nothing_told : (o : RunOptions) → IsRunOf (rows_after running [] []) o → IsByDefault o
unfolding clap_on_literals
nothing_told o t = record {
  publishers = t.publishers.absent refl;
  receivers = t.receivers.absent refl;
  messages = t.messages.absent refl;
  length = t.length.absent refl;
  loss = t.loss.absent refl;
  repeat = t.repeat.absent refl;
  hold = t.hold.absent refl;
  seed = t.seed.absent refl;
  turns = t.turns.absent refl;
  term = t.term.absent refl;
  mtu = t.mtu.absent refl;
  counters = t.counters.absent refl;
}

by_default : (o : Options) → IsRunChoice (rows_after running [] []) o → IsRunByDefault o
by_default Sim t = absurd t
by_default (Decode word) t = absurd t
by_default (Run o) t = nothing_told o t

-- `run` alone tells nothing
pub bare_chosen : (words : List Text) (o : Options) → AsksForBareRun words → IsChoice (subcommand_of driver_app words) o → IsRunByDefault o
bare_chosen words o is choice = by_default o (choice.run (rows_after running [] []) (found_run words [] is))

run_passes : built_fault app nothing_held (codes "run" ∷ []) ≡ []
unfolding clap_on_literals
run_passes = refl

-- and it is taken
pub bare_asked_passes : (words : List Text) → AsksForBareRun words → fault_of driver_app words ≡ []
bare_asked_passes words is = subst (λ (ws : List Text). built_fault app nothing_held ws ≡ []) (sym is) run_passes
