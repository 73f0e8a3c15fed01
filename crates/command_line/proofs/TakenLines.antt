-- Which lines the program's command takes, and what they ask for.
use Rattle.std.proofs.Common.{true≢false, ◌≡◌, ◌∙◌, ◌⊎◌, ap, codes, true, false, refl, sym, subst, List, [], ◌∷◌, drop, Option, Some, None, inl, inr, ⊎_elim}
use Rattle.std.specs.Prelude.{option_map}
use Rattle.std.specs.Option.{option_map_or}
use Rattle.std.specs.Str.{bytes_eq}
use Rattle.clap.specs.Walk.{Text, idle, nothing_held, rows_after, subcommand_met}
use Rattle.clap.specs.Simple.{is_simple, names_of, subcommand_of}
use Rattle.clap.specs.Faults.{built_fault, fault_of, is_simple_and_free, walk_fault}
use Rattle.clap.proofs.OnLiterals.{clap_on_literals}
use Rattle.command_line.specs.CommandLines.{AsksFor, AsksForDecode, AsksForSim, GiveWord, IsChoice, IsDecodeOf, driver_app}
use Rattle.command_line.specs.declared.choice.Options.{Options}
use Rattle.command_line.specs.declared.choice.Options.TheVariants.{Sim, Decode, Run}
use Rattle.command_line.proofs.CommandLineLemmas.{IsSimLine, Refuses, app, by_word, dashes_first, eq_turned, first_refuses, help_first, nothing_refuses, refused, sim_first, turn_refuses}
use Rattle.command_line.proofs.RunMet.{run_chosen}
use Rattle.command_line.proofs.DecodeLines.{decode_first, decode_line_passes, decode_met, first_word, taking}

-- any other first word is refused
other_first : (word : Text) (rest : List Text) → bytes_eq (codes "sim") word ≡ false → bytes_eq (codes "decode") word ≡ false → bytes_eq (codes "run") word ≡ false → bytes_eq (codes "help") word ≡ false → bytes_eq (codes "--") word ≡ false
    → Refuses (built_fault app nothing_held (word ∷ rest))
unfolding walk_fault
other_first word rest a d r b other =
    let none : subcommand_met (names_of app) idle word ≡ None = rw (a, d, r, b) refl in
    first_refuses _ _ (first_refuses _ _ (turn_refuses app.top (names_of app) word none (eq_turned word other)))

-- the lines that the parser takes
abbrev IsLine : List Text → Type 0
IsLine words = IsSimLine words ⊎ (((word : Text) × (rest : List Text) × (words ≡ codes "decode" ∷ rest) × GiveWord rest word)
    ⊎ ((rest : List Text) × (words ≡ codes "run" ∷ rest)))

decode_line : (rest : List Text) → built_fault app nothing_held (codes "decode" ∷ rest) ≡ [] → IsLine (codes "decode" ∷ rest)
decode_line rest e = let given = decode_first rest e in inr (inl (given.0, rest, refl, given.1))

only_lines : (words : List Text) → built_fault app nothing_held words ≡ [] → IsLine words
only_lines [] e = absurd (refused _ nothing_refuses e)
only_lines (word ∷ rest) e = by_word (codes "sim") word
    (λ same. subst (λ (w : Text). built_fault app nothing_held (w ∷ rest) ≡ [] → IsLine (w ∷ rest)) same (λ none. inl (sim_first rest none)) e)
    (λ a. by_word (codes "decode") word
    (λ same. subst (λ (w : Text). built_fault app nothing_held (w ∷ rest) ≡ [] → IsLine (w ∷ rest)) same (decode_line rest) e)
    (λ d. by_word (codes "run") word
    (λ same. subst (λ (w : Text). IsLine (w ∷ rest)) same (inr (inr (rest, refl))))
    (λ r. by_word (codes "help") word
    (λ same. absurd (refused _ (subst (λ (w : Text). Refuses (built_fault app nothing_held (w ∷ rest))) same (help_first rest)) e))
    (λ b. by_word (codes "--") word
    (λ same. absurd (refused _ (subst (λ (w : Text). Refuses (built_fault app nothing_held (w ∷ rest))) same (dashes_first rest)) e))
    (λ other. absurd (refused _ (other_first word rest a d r b other) e))))))

-- the command is one whose refusals and matches the parser states
pub is_free : is_simple_and_free driver_app ≡ true
is_free = refl

pub simple : is_simple driver_app ≡ true
simple = refl

sim_passes : built_fault app nothing_held (codes "sim" ∷ []) ≡ []
unfolding clap_on_literals
sim_passes = refl

sim_dashes_pass : built_fault app nothing_held (codes "sim" ∷ codes "--" ∷ []) ≡ []
unfolding clap_on_literals
sim_dashes_pass = refl

-- a line that asks for the simulation is taken
pub sim_asked_passes : (words : List Text) → AsksForSim words → fault_of driver_app words ≡ []
sim_asked_passes words (inl e) = subst (λ (ws : List Text). built_fault app nothing_held ws ≡ []) (sym e) sim_passes
sim_asked_passes words (inr e) = subst (λ (ws : List Text). built_fault app nothing_held ws ≡ []) (sym e) sim_dashes_pass

-- and one that asks for the frames of a datagram
pub decode_asked_passes : (words : List Text) (word : Text) → AsksForDecode words word → fault_of driver_app words ≡ []
decode_asked_passes words word (rest, is, gives) = subst (λ (ws : List Text). built_fault app nothing_held ws ≡ []) (sym is) (decode_line_passes rest word gives)

-- the name of the subcommand that was met
abbrev met_name : List Text → Option Text
met_name words = option_map (λ p. p.0) (subcommand_of driver_app words)

sim_met : (words : List Text) → AsksForSim words → met_name words ≡ Some (codes "sim")
unfolding clap_on_literals
sim_met words (inl e) = rw (e) refl
sim_met words (inr e) = rw (e) refl

sim_is_other : Some (codes "sim") ≡ Some (codes "decode") → ⊥
sim_is_other e = cc

sim_is_no_run : Some (codes "sim") ≡ Some (codes "run") → ⊥
sim_is_no_run e = true≢false (ap (λ (o : Option Text). option_map_or (bytes_eq (codes "sim")) o false) e)

decode_is_no_run : Some (codes "decode") ≡ Some (codes "run") → ⊥
decode_is_no_run e = true≢false (ap (λ (o : Option Text). option_map_or (bytes_eq (codes "decode")) o false) e)

sim_chosen : (words : List Text) (o : Options) → AsksForSim words → IsChoice (subcommand_of driver_app words) o → AsksFor o words
sim_chosen words o asks choice =
    let but_run = choice.others (λ e. sim_is_no_run (sym (sim_met words asks) ∙ e)) in
    let is : o ≡ Sim = but_run.sim (λ e. sim_is_other (sym (sim_met words asks) ∙ e)) in
    subst (λ (x : Options). AsksFor x words) (sym is) asks

decoded : (words : List Text) (word : Text) (o : Options) → AsksForDecode words word → IsDecodeOf word o → AsksFor o words
decoded words word Sim asks is = absurd is
decoded words word (Run own) asks is = absurd is
decoded words word (Decode own) asks is = subst (λ (w : Text). AsksForDecode words w) (sym is) asks

found_decode : (words rest : List Text) → drop 1 words ≡ codes "decode" ∷ rest → subcommand_of driver_app words ≡ Some (codes "decode", rows_after taking [] rest)
found_decode words rest is = rw (is) (decode_met rest)

decode_chosen : (words : List Text) (o : Options) → (word : Text) (rest : List Text) → drop 1 words ≡ codes "decode" ∷ rest → GiveWord rest word
    → IsChoice (subcommand_of driver_app words) o → AsksFor o words
decode_chosen words o word rest is gives choice =
    let found = found_decode words rest is in
    let but_run = choice.others (λ e. decode_is_no_run (sym (ap (option_map (λ p. p.0)) found) ∙ e)) in
    decoded words word o (rest, is, gives) (but_run.decode (rows_after taking [] rest) word found (first_word rest word gives))

-- a line that is taken asks for what was chosen
pub only_asks : (words : List Text) (o : Options) → fault_of driver_app words ≡ [] → IsChoice (subcommand_of driver_app words) o → AsksFor o words
only_asks words o e choice = ⊎_elim (λ is. sim_chosen words o is choice)
    (λ others. ⊎_elim (λ line. decode_chosen words o line.0 line.1 line.2 line.3 choice)
    (λ line. run_chosen words line.0 o line.1 choice) others)
    (only_lines (drop 1 words) e)
