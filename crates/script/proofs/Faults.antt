-- A fault is the first line that doesn't fit.
use Rattle.std.proofs.Common.{◌≡◌, ℕ, zero, suc, ◌+◌, ◌<◌, max, Bool, true, false, ◌⊎◌, inl, inr, List, [], ◌∷◌, ◌++◌, length, take, drop, get_or, Option, Some, None, Ok, Err, refl, sym, ap, subst, ◌∙◌, arith}
use Rattle.std.specs.Prelude.{Result, nat_eq}
use Rattle.std.proofs.lemmas.Bool.{eq-eqb, ne_eqb}
use Rattle.std.specs.List.{list_any, filter, Any}
use Rattle.std.proofs.lemmas.List.{take_more, at_drop_more, drop_all, append-nil}
use Rattle.std.proofs.lemmas.List.Elements.{filter-append}
use Rattle.std.proofs.lemmas.List.Folds.{Any-from_list_any, list_any-from_Any}
use Rattle.std.proofs.Common.{length-append}
use borrow.Author.Count.{below_more}
use Rattle.script.specs.Meaning.{Opening, CommandContent}
use Rattle.script.specs.Pieces.{lines}
use Rattle.script.specs.Reading.{with_front, behind, finished, is_log, log_of, command_at, script_of, script_from}
use Rattle.script.specs.Language.{BeginsLog, MayStand, is_full, FitsBehind, FitsAt, IsFirstUnfit, IsFaultLine}
use Rattle.script.proofs.Options.{either}
use Rattle.script.proofs.Commands.{command_at_found, command_at_only}
use Rattle.script.proofs.Openings.{log_found, log_only, begins_found, begins_log}
use Rattle.script.proofs.Whole.{no_log, with_log}
use Rattle.script.proofs.Laws.{bool_either, never_opened}

-- what the lines above a place say of the log, and whether a command stands among them
abbrev StateIs : Bool → Option Opening → List (List ℕ) → Type 0
StateIs first None before = (filter is_full before ≡ []) × (first ≡ true)
StateIs first (Some log) before = (0 < length (filter is_full before)) × (first ≡ nat_eq (length (filter is_full before)) 1)

above_more : (ls : List (List ℕ)) (i : ℕ) → i < length ls → filter is_full (take (i + 1) ls) ≡ filter is_full (take i ls) ++ filter is_full (get_or ls i [] ∷ [])
above_more ls i inside = ap (filter is_full) (take_more ls i [] inside) ∙ filter-append is_full (take i ls) (get_or ls i [] ∷ [])

front_err : (front : List CommandContent) (read : Result (Option Opening × List CommandContent) ℕ) (n : ℕ) → with_front front read ≡ Err n → read ≡ Err n
front_err front (Err m) n e = cc
front_err front (Ok x) n e = absurd (cc)

no_opening : (before : List (List ℕ)) (byte : ℕ) (line : List ℕ) → filter is_full before ≡ [] → log_of (byte ∷ line) ≡ None → FitsBehind before (byte ∷ line) → ⊥
no_opening before byte line state none (inl empty) = cc
no_opening before byte line state none (inr (inl (first, (log, opens)))) =
    let read = log_only (byte ∷ line) log opens in cc
no_opening before byte line state none (inr (inr (some, says))) = omega (arith, ap length state)

no_command : (first : Bool) (before : List (List ℕ)) (byte : ℕ) (line : List ℕ) → 0 < length (filter is_full before) → first ≡ nat_eq (length (filter is_full before)) 1 → command_at first (byte ∷ line) ≡ None → FitsBehind before (byte ∷ line) → ⊥
no_command first before byte line state is none (inl empty) = cc
no_command first before byte line state is none (inr (inl (none_above, opens))) = omega (arith, ap length none_above)
no_command first before byte line state is none (inr (inr (some, (command, says, stands)))) =
    let read = command_at_only first (byte ∷ line) command says (subst (λ b. MayStand b command) (sym is) stands) in cc

-- behind a line that isn't empty: the log's, or a command's
opened_there : (xs ys : List (List ℕ)) (line : List ℕ) (log : Opening) (first : Bool) → ys ≡ xs ++ line ∷ [] → xs ≡ [] → first ≡ true → (0 < length ys) × (first ≡ nat_eq (length ys) 1)
opened_there xs ys line log first e none is =
    let one : length ys ≡ 1 = omega (arith, ap length e, length-append xs (line ∷ []), ap length none) in
    (omega (arith, one), is ∙ sym (eq-eqb (length ys) 1 one))

commanded_there : (xs ys : List (List ℕ)) (line : List ℕ) → ys ≡ xs ++ line ∷ [] → 0 < length xs → (0 < length ys) × (false ≡ nat_eq (length ys) 1)
commanded_there xs ys line e some =
    let more : 1 < length ys = omega (arith, ap length e, length-append xs (line ∷ []), some) in
    (omega (arith, more), sym (ne_eqb (length ys) 1 (λ is. absurd (omega (arith, is, more)))))

-- one line on, whatever the line
unfit_step : (i : ℕ) (ls : List (List ℕ)) (n : ℕ) → i < length ls → ((j : ℕ) → j < i → FitsAt ls j) → (first : Bool) (log : Option Opening) → StateIs first log (take i ls) → (line : List ℕ) → line ≡ get_or ls i [] → script_from (i + 1) first log (line ∷ drop (i + 1) ls) ≡ Err n → ((next : Bool) (later : Option Opening) → StateIs next later (take (i + 1) ls) → ((j : ℕ) → j < i + 1 → FitsAt ls j) → script_from (i + 1 + 1) next later (drop (i + 1) ls) ≡ Err n → IsFirstUnfit ls n) → IsFirstUnfit ls n
unfolding script_from
unfit_step i ls n inside above first None state [] is e next =
    next first None (above_more ls i inside ∙ ap (λ l. filter is_full (take i ls) ++ filter is_full (l ∷ [])) (sym is) ∙ append-nil (filter is_full (take i ls)) ∙ state.0, state.1) (below_more (FitsAt ls) i above (inl (sym is))) e
unfit_step i ls n inside above first (Some log) state [] is e next =
    let same : filter is_full (take (i + 1) ls) ≡ filter is_full (take i ls) = above_more ls i inside ∙ ap (λ l. filter is_full (take i ls) ++ filter is_full (l ∷ [])) (sym is) ∙ append-nil (filter is_full (take i ls)) in
    next first (Some log) (omega (arith, ap length same, state.0), state.1 ∙ ap (λ xs. nat_eq (length xs) 1) (sym same)) (below_more (FitsAt ls) i above (inl (sym is))) e
unfit_step i ls n inside above first None state (byte ∷ line) is e next = elim (either (log_of (byte ∷ line))) [
  | inl none ↦
      let here : Err (i + 1) ≡ Err n = sym (ap (λ found. behind (i + 1) found (λ log. script_from (i + 1 + 1) first (Some log) (drop (i + 1) ls))) none) ∙ e in
      let counted : n ≡ i + 1 = cc in
      record { place = i; counted = counted; inside = inside; above = above; unfit = λ fits. no_opening (take i ls) byte line state.0 none (subst (FitsBehind (take i ls)) (sym is) fits) }
  | inr some ↦
      let full : filter is_full (take (i + 1) ls) ≡ filter is_full (take i ls) ++ (byte ∷ line) ∷ [] = above_more ls i inside ∙ ap (λ l. filter is_full (take i ls) ++ filter is_full (l ∷ [])) (sym is) in
      let fits : FitsBehind (take i ls) (byte ∷ line) = inr (inl (state.0, (some.0, log_found (byte ∷ line) some.0 some.1))) in
      next first (Some some.0) (opened_there (filter is_full (take i ls)) (filter is_full (take (i + 1) ls)) (byte ∷ line) some.0 first full state.0 state.1) (below_more (FitsAt ls) i above (subst (FitsBehind (take i ls)) is fits))
      (sym (ap (λ found. behind (i + 1) found (λ log. script_from (i + 1 + 1) first (Some log) (drop (i + 1) ls))) some.1) ∙ e)
]
unfit_step i ls n inside above first (Some opened) state (byte ∷ line) is e next = elim (either (command_at first (byte ∷ line))) [
  | inl none ↦
      let here : Err (i + 1) ≡ Err n = sym (ap (λ found. behind (i + 1) found (λ o. with_front (o ∷ []) (script_from (i + 1 + 1) false (Some opened) (drop (i + 1) ls)))) none) ∙ e in
      let counted : n ≡ i + 1 = cc in
      record { place = i; counted = counted; inside = inside; above = above; unfit = λ fits. no_command first (take i ls) byte line state.0 state.1 none (subst (FitsBehind (take i ls)) (sym is) fits) }
  | inr some ↦
      let full : filter is_full (take (i + 1) ls) ≡ filter is_full (take i ls) ++ (byte ∷ line) ∷ [] = above_more ls i inside ∙ ap (λ l. filter is_full (take i ls) ++ filter is_full (l ∷ [])) (sym is) in
      let says = command_at_found first (byte ∷ line) some.0 some.1 in
      let fits : FitsBehind (take i ls) (byte ∷ line) = inr (inr (state.0, (some.0, says.0, subst (λ b. MayStand b some.0) state.1 says.1))) in
      next false (Some opened) (commanded_there (filter is_full (take i ls)) (filter is_full (take (i + 1) ls)) (byte ∷ line) full state.0) (below_more (FitsAt ls) i above (subst (FitsBehind (take i ls)) is fits))
      (front_err (some.0 ∷ []) (script_from (i + 1 + 1) false (Some opened) (drop (i + 1) ls)) n (sym (ap (λ found. behind (i + 1) found (λ o. with_front (o ∷ []) (script_from (i + 1 + 1) false (Some opened) (drop (i + 1) ls)))) some.1) ∙ e))
]

no_fault_left : (number n : ℕ) (first : Bool) (log : Option Opening) → script_from number first log [] ≡ Err n → ⊥
unfolding script_from
no_fault_left number n first log e = cc

-- from a place on, where all above it fits
first_unfit : (k i : ℕ) (ls : List (List ℕ)) (n : ℕ) (first : Bool) (log : Option Opening) → i + k ≡ length ls → ((j : ℕ) → j < i → FitsAt ls j) → StateIs first log (take i ls) → script_from (i + 1) first log (drop i ls) ≡ Err n → IsFirstUnfit ls n
first_unfit zero i ls n first log count above state e =
    absurd (no_fault_left (i + 1) n first log (sym (ap (script_from (i + 1) first log) (drop_all i ls (omega arith))) ∙ e))
first_unfit (suc k) i ls n first log count above state e =
    let inside : i < length ls = omega arith in
    unfit_step i ls n inside above first log state (get_or ls i []) refl (sym (at_drop_more (script_from (i + 1) first log) ls i [] inside) ∙ e)
    (λ next. λ later. λ known. λ fits. λ read. first_unfit k (i + 1) ls n next later (omega arith) fits known read)

-- the log is opened before the end
finished_err : (read : Result (Option Opening × List CommandContent) ℕ) (n : ℕ) → finished read ≡ Err n → (read ≡ Err n) ⊎ ((commands : List CommandContent) × (read ≡ Ok (None, commands)))
finished_err (Err m) n e = inl (let same : m ≡ n = cc in ap Err same)
finished_err (Ok (None, commands)) n e = inr (commands, refl)
finished_err (Ok (Some log, commands)) n e = absurd (cc)

pub begun : (ls : List (List ℕ)) → list_any is_log ls ≡ true → Any BeginsLog ls
begun ls some =
    let any = Any-from_list_any is_log ls some in
    (any.0, any.1, any.2, any.3, begins_found any.1 any.4)

is_begun : (ls : List (List ℕ)) → Any BeginsLog ls → list_any is_log ls ≡ true
is_begun ls (k, line, inside, is, begins) = list_any-from_Any is_log ls (k, line, inside, is, begins_log line begins)

pub fault : (text : List ℕ) (number : ℕ) → script_of text ≡ Err number → IsFaultLine text number
fault text number e = elim (bool_either (list_any is_log (lines text))) [
  | inr none ↦
      let last = sym (no_log text none) ∙ e in
      let counted : number ≡ max 1 (length (lines text)) = cc in
      inl (λ any. (let wrong = is_begun (lines text) any in cc), counted)
  | inl some ↦
      elim (finished_err (script_from 1 true None (lines text)) number (sym (with_log text some) ∙ e)) [
        | inl read ↦ inr (begun (lines text) some, first_unfit (length (lines text)) 0 (lines text) number true None (omega arith) (λ j. λ below. absurd (omega arith)) (refl, refl) read)
        | inr never ↦
            let wrong = never_opened 1 (lines text) never.0 never.1 in
            absurd (cc)
      ]
]
