-- Whole scripts: reading one, and being one, are the same.
use Rattle.std.proofs.Common.{◌≡◌, ℕ, ◌+◌, Bool, true, false, ◌||◌, ◌⊎◌, inl, inr, List, [], ◌∷◌, ◌++◌, Option, Some, None, Ok, Err, refl, sym, ap, subst, ◌∙◌}
use Rattle.std.specs.Prelude.{Result}
use Rattle.std.specs.List.{list_any, filter}
use Rattle.script.specs.Meaning.{Opening, CommandContent, ScriptContent}
use Rattle.script.specs.Pieces.{lines}
use Rattle.script.specs.Reading.{with_front, behind, finished, is_log, log_of, command_at, script_of, script_from}
use Rattle.script.specs.Language.{SaysOpening, is_full, AllSay, IsScript}
use Rattle.script.proofs.Commands.{command_at_found, command_at_only}
use Rattle.script.proofs.Openings.{log_found, log_only, begins_only, not_begun}
use Rattle.script.proofs.Whole.{no_log, with_log}

pub bool_either : (b : Bool) → (b ≡ true) ⊎ (b ≡ false)
bool_either true = inl refl
bool_either false = inr refl

ok_pair : (x y : Option Opening × List CommandContent) → ◌≡◌ {A = Result (Option Opening × List CommandContent) ℕ} (Ok x) (Ok y) → (x.0 ≡ y.0) × (x.1 ≡ y.1)
ok_pair x y e =
    let same : x ≡ y = cc in
    (ap (λ p. p.0) same, ap (λ p. p.1) same)

front_ok : (front : List CommandContent) (read : Result (Option Opening × List CommandContent) ℕ) (log : Option Opening) (commands : List CommandContent) → with_front front read ≡ Ok (log, commands) → (rest : List CommandContent) × (read ≡ Ok (log, rest)) × (commands ≡ front ++ rest)
front_ok front (Err n) log commands e = absurd (cc)
front_ok front (Ok x) log commands e =
    let pair = ok_pair (x.0, front ++ x.1) (log, commands) e in
    (x.1, ap (λ l. Ok (l, x.1)) pair.0, sym pair.1)

behind_ok : {A B : Type 0} (number : ℕ) (found : Option A) (next : A → Result B ℕ) (y : B) → behind number found next ≡ Ok y → (x : A) × (found ≡ Some x) × (next x ≡ Ok y)
behind_ok number None next y e = absurd (cc)
behind_ok number (Some x) next y e = (x, refl, e)

finished_ok : (read : Result (Option Opening × List CommandContent) ℕ) (script : ScriptContent) → finished read ≡ Ok script → read ≡ Ok (Some script.log, script.commands)
finished_ok (Err n) script e = absurd (cc)
finished_ok (Ok (None, commands)) script e = absurd (cc)
finished_ok (Ok (Some log, commands)) script e =
    let same : record { log = log; commands = commands } ≡ script = cc in
    ap (λ t. Ok (Some t.log, t.commands)) same

-- reading the lines behind the log's
says_found : (number : ℕ) (first : Bool) (log : Opening) (ls : List (List ℕ)) (last : Option Opening) (commands : List CommandContent) → script_from number first (Some log) ls ≡ Ok (last, commands) → (last ≡ Some log) × AllSay first (filter is_full ls) commands
unfolding script_from
says_found number first log [] last commands e =
    let pair = ok_pair (Some log, []) (last, commands) e in
    (sym pair.0, subst (AllSay first []) pair.1 tt)
says_found number first log ([] ∷ ls) last commands e = says_found (number + 1) first log ls last commands e
says_found number first log ((byte ∷ line) ∷ ls) last commands e =
    let read = behind_ok number (command_at first (byte ∷ line)) (λ command. with_front (command ∷ []) (script_from (number + 1) false (Some log) ls)) (last, commands) e in
    let rest = front_ok (read.0 ∷ []) (script_from (number + 1) false (Some log) ls) last commands read.2 in
    let later = says_found (number + 1) false log ls last rest.0 rest.1 in
    let says = command_at_found first (byte ∷ line) read.0 read.1 in
    (later.0, subst (AllSay first ((byte ∷ line) ∷ filter is_full ls)) (sym rest.2) (says.0, says.1, later.1))

says_only : (number : ℕ) (first : Bool) (log : Opening) (ls : List (List ℕ)) (commands : List CommandContent) → AllSay first (filter is_full ls) commands → script_from number first (Some log) ls ≡ Ok (Some log, commands)
unfolding script_from
says_only number first log [] [] says = refl
says_only number first log [] (command ∷ commands) says = absurd says
says_only number first log ([] ∷ ls) commands says = says_only (number + 1) first log ls commands says
says_only number first log ((byte ∷ line) ∷ ls) [] says = absurd says
says_only number first log ((byte ∷ line) ∷ ls) (command ∷ commands) (here, stands, later) =
    ap (λ found. behind number found (λ o. with_front (o ∷ []) (script_from (number + 1) false (Some log) ls))) (command_at_only first (byte ∷ line) command here stands)
    ∙ ap (with_front (command ∷ [])) (says_only (number + 1) false log ls commands later)

-- what a script is, over its lines
abbrev pub Tells : List (List ℕ) → Opening → List CommandContent → Type 0
Tells ls log commands = (first : List ℕ) × (rest : List (List ℕ)) × (filter is_full ls ≡ first ∷ rest) × SaysOpening first log × AllSay true rest commands

opened_found : (number : ℕ) (ls : List (List ℕ)) (log : Opening) (commands : List CommandContent) → script_from number true None ls ≡ Ok (Some log, commands) → Tells ls log commands
unfolding script_from
opened_found number [] log commands e =
    let pair = ok_pair (None, []) (Some log, commands) e in
    let wrong = pair.0 in
    absurd (cc)
opened_found number ([] ∷ ls) log commands e = opened_found (number + 1) ls log commands e
opened_found number ((byte ∷ line) ∷ ls) log commands e =
    let read = behind_ok number (log_of (byte ∷ line)) (λ l. script_from (number + 1) true (Some l) ls) (Some log, commands) e in
    let later = says_found (number + 1) true read.0 ls (Some log) commands read.2 in
    let same : read.0 ≡ log = cc in
    (byte ∷ line, filter is_full ls, refl, subst (SaysOpening (byte ∷ line)) same (log_found (byte ∷ line) read.0 read.1), later.1)

opened_only : (number : ℕ) (ls : List (List ℕ)) (log : Opening) (commands : List CommandContent) → Tells ls log commands → script_from number true None ls ≡ Ok (Some log, commands)
unfolding script_from
opened_only number [] log commands (first, rest, full, opens, says) = absurd (cc)
opened_only number ([] ∷ ls) log commands tells = opened_only (number + 1) ls log commands tells
opened_only number ((byte ∷ line) ∷ ls) log commands (first, rest, full, opens, says) =
    let here : first ≡ byte ∷ line = cc in
    let there : rest ≡ filter is_full ls = cc in
    ap (λ found. behind number found (λ l. script_from (number + 1) true (Some l) ls)) (log_only (byte ∷ line) log (subst (λ l. SaysOpening l log) here opens))
    ∙ says_only (number + 1) true log ls commands (subst (λ rest. AllSay true rest commands) there says)

or_right : (a b : Bool) → b ≡ true → (a || b) ≡ true
or_right true b e = refl
or_right false b e = e

has_log : (ls : List (List ℕ)) (log : Opening) (commands : List CommandContent) → Tells ls log commands → list_any is_log ls ≡ true
has_log [] log commands (first, rest, full, opens, says) = absurd (cc)
has_log ([] ∷ ls) log commands tells = or_right (is_log []) _ (has_log ls log commands tells)
has_log ((byte ∷ line) ∷ ls) log commands (first, rest, full, opens, says) =
    let here : first ≡ byte ∷ line = cc in
    let opened : SaysOpening (byte ∷ line) log = subst (λ l. SaysOpening l log) here opens in
    ap (λ t. t || list_any is_log ls) (begins_only (byte ∷ line) log opened)

-- a log line that isn't met leaves only empty lines
pub never_opened : (number : ℕ) (ls : List (List ℕ)) (commands : List CommandContent) → script_from number true None ls ≡ Ok (None, commands) → list_any is_log ls ≡ false
unfolding script_from
never_opened number [] commands e = refl
never_opened number ([] ∷ ls) commands e = ap (λ t. t || list_any is_log ls) not_begun ∙ never_opened (number + 1) ls commands e
never_opened number ((byte ∷ line) ∷ ls) commands e =
    let read = behind_ok number (log_of (byte ∷ line)) (λ l. script_from (number + 1) true (Some l) ls) (None, commands) e in
    let later = says_found (number + 1) true read.0 ls None commands read.2 in
    let wrong = later.0 in
    absurd (cc)

pub found : (text : List ℕ) (script : ScriptContent) → script_of text ≡ Ok script → IsScript text script
found text script e = elim (bool_either (list_any is_log (lines text))) [
  | inl some ↦ opened_found 1 (lines text) script.log script.commands (finished_ok (script_from 1 true None (lines text)) script (sym (with_log text some) ∙ e))
  | inr none ↦ let wrong = sym (no_log text none) ∙ e in absurd (cc)
]

pub only : (text : List ℕ) (script : ScriptContent) → IsScript text script → script_of text ≡ Ok script
only text script is =
    with_log text (has_log (lines text) script.log script.commands is) ∙ ap finished (opened_only 1 (lines text) script.log script.commands is)
