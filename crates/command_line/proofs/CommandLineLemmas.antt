-- What the program's command refuses, and which lines that begin with `sim` it takes.
use Rattle.std.proofs.Common.{◌≡◌, ◌∙◌, ◌⊎◌, ℕ, Bool, cond, codes, true, false, zero, suc, refl, sym, ap, subst, List, [], ◌∷◌, length, Option, Some, None, inl, inr, ⊎_elim, true≢false}
use Rattle.std.specs.Prelude.{slice_get}
use Rattle.std.specs.Str.{bytes_eq, chars}
use Rattle.std.proofs.lemmas.Bool.{cases_Bool, false_from_ne_true}
use Rattle.std.proofs.lemmas.Slice.Eq.{bytes_eq-Decides}
use Rattle.clap.specs.Lexer.{long_of, short_of}
use Rattle.clap.specs.Walk.{bundle_step, has_long, has_short, Held, Names, Rule, Step, Text, Walk, after_flag, bundle_met, idle, long_or_other, nothing_held, plain, subcommand_met, walk_from, walked}
use Rattle.clap.specs.Simple.{App, Shape, built, filled, with_index, filled_from, help_rule, names_of, new_shape}
use Rattle.clap.specs.Kinds.{Kinds, or_else}
use Rattle.clap.specs.Faults.{built_fault, bundle_step_fault, defaults_fault, entered_fault, flag_word_fault, flags_fault, level_fault, long_fault, short_fault, step_fault, stray_fault, turn_fault, walk_fault}
use Rattle.clap.proofs.WalkLemmas.{walk_stopped}
use Rattle.command_line.specs.CommandLines.{driver_app}

-- the comparison of texts, the other way round
pub eq_turned : (word : Text) → bytes_eq (codes "--") word ≡ false → bytes_eq word (codes "--") ≡ false
eq_turned word e = false_from_ne_true _ (λ t. true≢false (sym ((bytes_eq-Decides (codes "--") word).1 (sym ((bytes_eq-Decides word (codes "--")).0 t))) ∙ e))

-- the kinds are those of a refusal
abbrev pub Refuses : Kinds → Type 0
Refuses [] = ⊥
Refuses (k ∷ ks) = Unit {0}

-- where they are, there are some
pub refused : (ks : Kinds) → Refuses ks → ks ≡ [] → ⊥
refused ks h e = subst Refuses e h

-- a step that refuses, alone or after another, refuses
pub first_refuses : (a b : Kinds) → Refuses a → Refuses (or_else a b)
first_refuses [] b h = absurd h
first_refuses (k ∷ ks) b h = h

pub second_refuses : (a b : Kinds) → Refuses b → Refuses (or_else a b)
second_refuses [] b h = h
second_refuses (k ∷ ks) b h = tt

-- a command whose one argument is `--help`
abbrev pub bare : List Rule
bare = filled_from 1 (help_rule ∷ [])

abbrev pub with_bare : Shape → Shape
with_bare s = record s { rules = bare }

-- the `--help` of a built command
abbrev pub help : Rule
help = with_index 1 (filled help_rule)

abbrev pub help_if : Bool → Option Rule
help_if b = cond b (Some help) None

-- a long flag is unknown, has a value too many, or asks for help
long_refuses : (again b : Bool) (v : Option Text) → Refuses (long_fault bare again (help_if b) v nothing_held)
long_refuses again false v = tt
long_refuses again true None = tt
long_refuses again true (Some v) = tt

-- so is a first short one
short_refuses : (again b : Bool) (rest : Text) (next : Held → Kinds) → Refuses (short_fault bare again (help_if b) rest nothing_held next)
short_refuses again false rest next = tt
short_refuses again true rest next = tt

module _ (s : Shape) where
  stray_refuses : Refuses (stray_fault (with_bare s))
  stray_refuses = go s.is_leaf
    where
      go : (leaf : Bool) → Refuses (stray_fault (record s { is_leaf = leaf }))
      go true = tt
      go false = tt

  -- what a word comes to, from the kinds of the word and from what it was met as
  abbrev word_then : Kinds → Held × Step → Kinds
  word_then ks met = or_else ks (step_fault (with_bare s) 1 met.0 met.1)

  bundle_refuses : (word flags : Text) (k : ℕ)
      → Refuses (word_then (flags_fault bare s.args_override_self k flags 0 nothing_held)
      (after_flag bare idle word (bundle_met bare k flags 0 plain nothing_held).0 (bundle_met bare k flags 0 plain nothing_held).1))
  unfolding flags_fault bundle_met
  bundle_refuses word flags zero = stray_refuses
  bundle_refuses word flags (suc k) = go (slice_get (chars flags) 0)
    where
      go : (o : Option ℕ)
          → Refuses (word_then (bundle_step_fault bare s.args_override_self o flags 0 nothing_held (flags_fault bare s.args_override_self k))
          (after_flag bare idle word (bundle_step bare o flags 0 plain nothing_held (bundle_met bare k)).0 (bundle_step bare o flags 0 plain nothing_held (bundle_met bare k)).1))
      go None = stray_refuses
      go (Some x) = first_refuses _ _ (short_refuses s.args_override_self (has_short help x) _ _)

  flag_refuses : (word : Text) (long : Option (Text × Option Text)) (short : Option Text) → short_of word ≡ short
      → Refuses (word_then (flag_word_fault bare s.args_override_self long word nothing_held) (long_or_other bare idle word long nothing_held))
  flag_refuses word (Some p) short e = first_refuses _ _ (long_refuses s.args_override_self (has_long help p.0) p.1)
  flag_refuses word None None e = rw (e) stray_refuses
  flag_refuses word None (Some flags) e = rw (e) (bundle_refuses word flags (length flags))

  -- a word that names no subcommand, and is not `--`, is refused
  pub turn_refuses : (names : Names) (word : Text) → subcommand_met names idle word ≡ None → bytes_eq word (45 ∷ 45 ∷ []) ≡ false
      → Refuses (turn_fault (with_bare s) names (walk_from nothing_held) word)
  turn_refuses names word none other = rw (none, other) (flag_refuses word (long_of word) (short_of word) refl)

-- the program's command as the parser builds it
abbrev pub app : App
app = built driver_app

abbrev sim_shape : Shape
sim_shape = with_bare (record (new_shape (codes "sim")) { is_built = true; disable_help_subcommand = true })

-- a line with no word lacks its subcommand
pub nothing_refuses : Refuses (built_fault app nothing_held [])
unfolding walk_fault defaults_fault
nothing_refuses = tt

-- what `sim` makes of the words after it
abbrev below : List Text → Kinds
below words = level_fault sim_shape [] nothing_held words false []

sim_entered : (rest : List Text) → entered_fault app (Some (codes "sim", rest)) ≡ below rest
sim_entered rest = refl

-- what `sim` refuses after it, the whole line refuses
sim_refuses : (rest : List Text) → Refuses (below rest) → Refuses (built_fault app nothing_held (codes "sim" ∷ rest))
unfolding walked walk_fault
sim_refuses rest h =
    let stops = walk_stopped app.top.rules (names_of app) (walk_from nothing_held) (codes "sim") [] rest in
    second_refuses _ _ (first_refuses _ _ (subst (λ (w : Walk). Refuses (entered_fault app w.stopped)) stops h))

-- the word, if it is `--`, and if it is not
module _ {P : Type 0} where
  pub by_word : (name word : Text) → (name ≡ word → P) → (bytes_eq name word ≡ false → P) → P
  by_word name word same other = ⊎_elim (λ e. same ((bytes_eq-Decides name word).0 e)) other (cases_Bool (bytes_eq name word))

-- kinds that are no refusal are none
pub passes : (ks : Kinds) → (Refuses ks → ⊥) → ks ≡ []
passes [] h = refl
passes (k ∷ ks) h = absurd (h tt)

-- what may follow `sim`
abbrev EndsAtOnce : List Text → Type 0
EndsAtOnce words = (words ≡ []) ⊎ (words ≡ codes "--" ∷ [])

after_dashes : (rest : List Text) → below (codes "--" ∷ rest) ≡ [] → EndsAtOnce (codes "--" ∷ rest)
unfolding walked walk_fault
after_dashes [] e = inr refl
after_dashes (word ∷ rest) e = absurd (refused (below (codes "--" ∷ word ∷ rest)) tt e)

other_after_sim : (word : Text) (rest : List Text) → bytes_eq (codes "--") word ≡ false → Refuses (below (word ∷ rest))
unfolding walk_fault
other_after_sim word rest other = first_refuses _ _ (first_refuses _ _ (turn_refuses sim_shape [] word refl (eq_turned word other)))

after_sim : (rest : List Text) → below rest ≡ [] → EndsAtOnce rest
after_sim [] e = inl refl
after_sim (word ∷ rest) e = by_word (codes "--") word
    (λ same. subst (λ (w : Text). below (w ∷ rest) ≡ [] → EndsAtOnce (w ∷ rest)) same (after_dashes rest) e)
    (λ other. absurd (refused _ (other_after_sim word rest other) e))

abbrev pub IsSimLine : List Text → Type 0
IsSimLine words = (words ≡ codes "sim" ∷ []) ⊎ (words ≡ codes "sim" ∷ codes "--" ∷ [])

pub sim_first : (rest : List Text) → built_fault app nothing_held (codes "sim" ∷ rest) ≡ [] → IsSimLine (codes "sim" ∷ rest)
sim_first rest e = ⊎_elim (λ r. inl (ap (λ (xs : List Text). codes "sim" ∷ xs) r)) (λ r. inr (ap (λ (xs : List Text). codes "sim" ∷ xs) r))
    (after_sim rest (passes (below rest) (λ h. refused _ (sim_refuses rest h) e)))

-- `help` answers with help, or refuses what follows it
pub help_first : (rest : List Text) → Refuses (built_fault app nothing_held (codes "help" ∷ rest))
unfolding walk_fault
help_first rest = tt

-- after `--` no word is a subcommand
pub dashes_first : (rest : List Text) → Refuses (built_fault app nothing_held (codes "--" ∷ rest))
unfolding walked walk_fault defaults_fault
dashes_first [] = tt
dashes_first (word ∷ rest) = tt
