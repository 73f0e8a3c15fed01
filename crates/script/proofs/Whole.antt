-- Whole scripts, line after line.
use Rattle.std.proofs.Common.{◌≡◌, ℕ, ◌+◌, ◌<◌, ◌≤◌, Bool, true, false, cond, List, [], ◌∷◌, ◌++◌, length, Option, Some, None, Ok, Err, refl, sym, ap, ◌∙◌, arith, append_assoc}
use Rattle.std.specs.Prelude.{Result, ◌==◌, nat_eq}
use Rattle.std.proofs.lemmas.List.{append-nil}
use Rattle.std.specs.List.{list_any}
use Rattle.std.proofs.Common.{max}
use Rattle.std.proofs.lemmas.Bool.{cond-true, cond-false, ne_eqb}
use Rattle.script.specs.declared.fault.ScriptFault.{ScriptFault}
use Rattle.script.specs.declared.fault.ScriptFault.TheVariants.{Line, Memory}
use Rattle.script.specs.Meaning.{Opening, CommandContent, contents_of}
use Rattle.script.specs.declared.command.Command.{Command}
use Rattle.script.specs.Pieces.{with_first, lines}
use Rattle.script.specs.Reading.{with_front, behind, FailsAt, FaultIs, finished, is_log, script_of, script_from, log_of, command_at, are_none, ReadsOn}

-- no text has more lines than bytes
more_lines : (x : ℕ) (ls : List (List ℕ)) (n : ℕ) → length ls ≤ n → length (with_first x ls) ≤ n + 1
more_lines x [] n h = omega arith
more_lines x (l ∷ ls) n h = omega arith

one_more : (x : ℕ) (ls : List (List ℕ)) (n : ℕ) (t : Bool) → length ls ≤ n → length (cond t ([] ∷ ls) (with_first x ls)) ≤ n + 1
one_more x ls n true h = omega arith
one_more x ls n false h = more_lines x ls n h

pub lines_few : (xs : List ℕ) → length (lines xs) ≤ length xs
unfolding lines
lines_few [] = omega arith
lines_few (x ∷ xs) = omega (arith, one_more x (lines xs) (length xs) (x == 10) (lines_few xs))

-- an empty line does nothing
pub empty_line : (number : ℕ) (line : List ℕ) (log : Option Opening) (commands : List CommandContent) → length line ≡ 0 → ReadsOn number line log commands log commands
unfolding script_from
empty_line number [] log commands none rest = refl
empty_line number (byte ∷ line) log commands none rest = absurd (omega arith)

pub log_refused : (number : ℕ) (first : Bool) (line : List ℕ) (rest : List (List ℕ)) → 0 < length line → log_of line ≡ None → script_from number first None (line ∷ rest) ≡ Err number
unfolding script_from
log_refused number first [] rest some refused = absurd (omega arith)
log_refused number first (byte ∷ line) rest some refused = ap (λ found. behind number found (λ log. script_from (number + 1) first (Some log) rest)) refused

pub log_opened : (number : ℕ) (line : List ℕ) (log : Opening) (commands : List CommandContent) → 0 < length line → log_of line ≡ Some log → ReadsOn number line None commands (Some log) commands
unfolding script_from
log_opened number [] log commands some read rest = absurd (omega arith)
log_opened number (byte ∷ line) log commands some read rest = sym (ap (λ found. with_front commands (behind number found (λ l. script_from (number + 1) (are_none commands) (Some l) rest))) read)

pub command_refused : (number : ℕ) (first : Bool) (line : List ℕ) (log : Opening) (rest : List (List ℕ)) → 0 < length line → command_at first line ≡ None → script_from number first (Some log) (line ∷ rest) ≡ Err number
unfolding script_from
command_refused number first [] log rest some refused = absurd (omega arith)
command_refused number first (byte ∷ line) log rest some refused = ap (λ found. behind number found (λ command. with_front (command ∷ []) (script_from (number + 1) false (Some log) rest))) refused

put_first : (commands : List CommandContent) (command : CommandContent) (read : Result (Option Opening × List CommandContent) ℕ) → with_front (commands ++ command ∷ []) read ≡ with_front commands (with_front (command ∷ []) read)
put_first commands command (Err number) = refl
put_first commands command (Ok (log, rest)) = ap (λ os. Ok (log, os)) (append_assoc commands (command ∷ []) rest)

-- whether a vector's commands are none
pub none_are : (xs : List Command) (n : ℕ) (b : Bool) → b ≡ nat_eq n 0 → n ≡ length xs → b ≡ are_none (contents_of xs)
none_are [] n b e is = e ∙ ap (λ k. nat_eq k 0) is
none_are (x ∷ xs) n b e is = e ∙ ne_eqb n 0 (λ none. absurd (omega (arith, is, none)))

none_more : (commands : List CommandContent) (command : CommandContent) → are_none (commands ++ command ∷ []) ≡ false
none_more [] command = refl
none_more (o ∷ commands) command = refl

pub command_added : (number : ℕ) (line : List ℕ) (log : Opening) (commands : List CommandContent) (command : CommandContent) → 0 < length line → command_at (are_none commands) line ≡ Some command → ReadsOn number line (Some log) commands (Some log) (commands ++ command ∷ [])
unfolding script_from
command_added number [] log commands command some read rest = absurd (omega arith)
command_added number (byte ∷ line) log commands command some read rest =
    ap (λ b. with_front (commands ++ command ∷ []) (script_from (number + 1) b (Some log) rest)) (none_more commands command)
    ∙ put_first commands command (script_from (number + 1) false (Some log) rest)
    ∙ sym (ap (λ found. with_front commands (behind number found (λ o. with_front (o ∷ []) (script_from (number + 1) false (Some log) rest)))) read)

pub command_fails : (number : ℕ) (first : Bool) (line : List ℕ) (log : Opening) (fault : ScriptFault) → 0 < length line → FailsAt number fault (command_at first line) → (rest : List (List ℕ)) → FaultIs fault (script_from number first (Some log) (line ∷ rest))
command_fails number first line log (Line n) some (same, refused) rest = command_refused number first line log rest some refused ∙ ap Err (sym same)
command_fails number first line log Memory some fails rest = tt

-- behind the last line
pub at_end : (number : ℕ) (first : Bool) (log : Option Opening) (commands : List CommandContent) → with_front commands (script_from number first log []) ≡ Ok (log, commands)
unfolding script_from
at_end number first log commands = ap (λ os. Ok (log, os)) (append-nil commands)

pub no_log : (xs : List ℕ) → list_any is_log (lines xs) ≡ false → script_of xs ≡ Err (max 1 (length (lines xs)))
unfolding script_of
no_log xs none = cond-false _ _ _ none

pub with_log : (xs : List ℕ) → list_any is_log (lines xs) ≡ true → script_of xs ≡ finished (script_from 1 true None (lines xs))
unfolding script_of
with_log xs some = cond-true _ _ _ some
