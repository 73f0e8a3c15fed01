-- The command lines that the program takes.
use Rattle.std.specs.Prelude.{◌≡◌, ◌≢◌, ◌⊎◌, ℕ, List, [], ◌∷◌, drop, codes, true, ⊤, Option, Some, option_map}
use Rattle.std.specs.Str.{chars}
use Rattle.clap.specs.Words.{App, Row, Rule, first_of, new_app, new_rule, subcommand_of, with_rule, with_subcommand}
use Rattle.options.specs.Run.Defaults.{IsByDefault}
use Rattle.options.specs.declared.run.options.RunOptions.{RunOptions}
use Rattle.command_line.specs.RunLines.{run_app}
use Rattle.command_line.specs.RunTold.{IsRunOf}
use Rattle.command_line.specs.declared.choice.Options.{Options}
use Rattle.command_line.specs.declared.choice.Options.TheVariants.{Sim, Decode, Run}

-- the words after the program's name are `sim`, and perhaps the `--` that ends the options
abbrev pub AsksForSim : List (List ℕ) → Type 0
AsksForSim words =
    (drop 1 words ≡ codes "sim" ∷ []) ⊎ (drop 1 words ≡ codes "sim" ∷ codes "--" ∷ [])

-- the word isn't a hyphen with a character behind it, as a flag and `--` are
abbrev pub IsPlainWord : List ℕ → Type 0
IsPlainWord [] = ⊤
IsPlainWord (byte ∷ rest) = (byte ≢ 45) ⊎ (chars rest ≡ [])

-- the words are this one, perhaps before a `--`; or this one behind a `--`, where it may be any
abbrev pub GiveWord : List (List ℕ) → List ℕ → Type 0
GiveWord words word =
    ((words ≡ word ∷ []) × IsPlainWord word)
    ⊎ (((words ≡ word ∷ codes "--" ∷ []) × IsPlainWord word)
    ⊎ (words ≡ codes "--" ∷ word ∷ []))

-- the words after the program's name are `decode` and those that give it its word
abbrev pub AsksForDecode : List (List ℕ) → List ℕ → Type 0
AsksForDecode words word =
    (rest : List (List ℕ)) × (drop 1 words ≡ codes "decode" ∷ rest) × GiveWord rest word

-- what a parse reads of the argument of `decode`
abbrev pub hex_rule : Rule
hex_rule = record (new_rule (codes "HEX")) { required = true }

-- what a parse reads of the program's command, by itself; without any words it is refused
abbrev pub bare_app : App
bare_app =
    let a = new_app (codes "mdriver") in
    record a { top = record a.top { subcommand_required = true; arg_required_else_help = true } }

-- and with its three subcommands, of which one has to be there
abbrev pub driver_app : App
driver_app =
    with_subcommand (with_subcommand (with_subcommand bare_app
    (new_app (codes "sim")).top)
    (with_rule (new_app (codes "decode")) hex_rule).top)
    run_app.top

-- the words after the program's name begin with `run`, and what the parse found in those behind it tells this
pub record AsksForRun (words : List (List ℕ)) (o : RunOptions) : Type 0 where
  pub rest : List (List ℕ)
  pub first : drop 1 words ≡ codes "run" ∷ rest
  pub rows : List Row
  pub found : subcommand_of driver_app words ≡ Some (codes "run", rows)
  pub told : IsRunOf rows o

-- `run` alone
abbrev pub AsksForBareRun : List (List ℕ) → Type 0
AsksForBareRun words = drop 1 words ≡ codes "run" ∷ []

abbrev pub IsRunByDefault : Options → Type 0
IsRunByDefault Sim = ⊥
IsRunByDefault (Decode word) = ⊥
IsRunByDefault (Run o) = IsByDefault o

abbrev pub AsksFor : Options → List (List ℕ) → Type 0
AsksFor Sim words = AsksForSim words
AsksFor (Decode word) words = AsksForDecode words word.now
AsksFor (Run o) words = AsksForRun words o

abbrev pub IsDecodeOf : List ℕ → Options → Type 0
IsDecodeOf word Sim = ⊥
IsDecodeOf word (Decode own) = own.now ≡ word
IsDecodeOf word (Run o) = ⊥

abbrev pub IsRunChoice : List Row → Options → Type 0
IsRunChoice rows Sim = ⊥
IsRunChoice rows (Decode word) = ⊥
IsRunChoice rows (Run o) = IsRunOf rows o

-- where it isn't `run`, the subcommand that was met, with what was found for it, asks for this
pub record IsChoiceButRun (found : Option (List ℕ × List Row)) (options : Options) : Type 0 where
  pub decode : (rows : List Row) (word : List ℕ) → found ≡ Some (codes "decode", rows) → first_of (codes "HEX") rows ≡ Some word → IsDecodeOf word options
  pub sim : option_map (λ p. p.0) found ≢ Some (codes "decode") → options ≡ Sim

-- the subcommand that was met, with what was found for it, asks for this
pub record IsChoice (found : Option (List ℕ × List Row)) (options : Options) : Type 0 where
  pub run : (rows : List Row) → found ≡ Some (codes "run", rows) → IsRunChoice rows options
  pub others : option_map (λ p. p.0) found ≢ Some (codes "run") → IsChoiceButRun found options
