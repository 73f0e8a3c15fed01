-- Which lines that begin with `decode` the program's command takes, and the word that the parser finds in them.
use Rattle.std.proofs.Common.{◌≡◌, ◌∙◌, ◌⊎◌, ◌++◌, ℕ, Bool, codes, true, false, zero, suc, refl, sym, ap, ap₂, subst, List, [], ◌∷◌, length, Option, Some, None, inl, inr, ⊎_elim, true≢false}
use Rattle.std.specs.Prelude.{◌≢◌, ◌==◌, is_some}
use Rattle.std.specs.Str.{bytes_eq, chars}
use Rattle.std.proofs.lemmas.Bool.Decides.{eqb_tells}
use Rattle.clap.specs.Lexer.{long_of, name_and_value, short_of}
use Rattle.clap.specs.Walk.{Held, Outcome, Row, after_flag, plain, Rule, Text, Walk, first_of, has_long, has_short, idle, long_or_other, nothing_held, bundle_met, rows_after, settled, finished, value, walk, walk_from, walked}
use Rattle.clap.specs.Simple.{Shape, entered, filled_from, help_rule, names_of, new_shape}
use Rattle.clap.specs.Kinds.{Kinds, or_else}
use Rattle.clap.specs.Faults.{built_fault, check_fault, defaults_fault, entered_fault, flag_word_fault, flags_fault, level_fault, long_fault, settle_fault, short_fault, turn_fault, walk_fault}
use Rattle.clap.proofs.WalkLemmas.{walk_stopped}
use Rattle.command_line.specs.CommandLines.{GiveWord, IsPlainWord, hex_rule}
use Rattle.command_line.proofs.CommandLineLemmas.{Refuses, app, bare, by_word, eq_turned, first_refuses, help, help_if, passes, refused, second_refuses}

-- the rules of the command's argument and of `--help`
abbrev pub taking : List Rule
taking = filled_from 1 (hex_rule ∷ help_rule ∷ [])

abbrev decode_shape : Shape
decode_shape = record (new_shape (codes "decode")) { rules = taking; is_built = true; disable_help_subcommand = true }

-- a byte is a hyphen, or the test says no
dash_or_other : (byte : ℕ) → (byte ≡ 45) ⊎ ((byte == 45) ≡ false)
dash_or_other byte = ⊎_elim (λ t. inl t.1) (λ f. inr f.0) (eqb_tells byte 45)

other_byte : (byte : ℕ) → byte ≢ 45 → (byte == 45) ≡ false
other_byte byte other = ⊎_elim (λ t. absurd (other t.1)) (λ f. f.0) (eqb_tells byte 45)

-- a hyphen and another byte: no long flag, and perhaps short ones
long_none : (y : ℕ) (ys : Text) → (y == 45) ≡ false → long_of (45 ∷ y ∷ ys) ≡ None
long_none y ys e = rw (e) refl

short_some : (y : ℕ) (ys : Text) → (y == 45) ≡ false → short_of (45 ∷ y ∷ ys) ≡ Some (y ∷ ys)
short_some y ys e = rw (e) refl

-- another byte: neither
no_long : (byte : ℕ) (rest : Text) → (byte == 45) ≡ false → long_of (byte ∷ rest) ≡ None
no_long byte rest e = rw (e) refl

no_short : (byte : ℕ) (rest : Text) → (byte == 45) ≡ false → short_of (byte ∷ rest) ≡ None
no_short byte rest e = rw (e) refl

-- a hyphen is a character
dash_is_one : (ys : Text) → chars (45 ∷ ys) ≡ [] → ⊥
unfolding chars
dash_is_one [] e = cc
dash_is_one (z ∷ zs) e = cc

-- what is held when a word is met: rows, and perhaps a word already
module _ (again : Bool) (rows : List Row) (pending : Option (Text × List Text)) where
  abbrev h : Held
  h = record { rows = rows; pending = pending; skip = 0 }

  long_then : (b : Bool) (v : Option Text) → Refuses (long_fault taking again (help_if b) v h)
  long_then false v = tt
  long_then true (Some v) = tt
  long_then true None = second_refuses (settle_fault taking again h) _ tt

  short_then : (b : Bool) (rest : Text) (next : Held → Kinds) → Refuses (short_fault taking again (help_if b) rest h next)
  short_then false rest next = tt
  short_then true rest next = first_refuses _ _ (second_refuses (settle_fault taking again h) _ tt)

  -- a flag is refused, and any other word is plain
  abbrev Judged : Text → Type 0
  Judged word = Refuses (flag_word_fault taking again (long_of word) word h) ⊎ IsPlainWord word

  flags_then : (k : ℕ) (flags : Text) (cs : List ℕ) → chars flags ≡ cs → Refuses (flags_fault taking again (suc k) flags 0 h) ⊎ (chars flags ≡ [])
  unfolding flags_fault
  flags_then k flags [] e = inr e
  flags_then k flags (x ∷ xs) e = inl (rw (e) (short_then (has_short help x) _ _))

  by_short : (word flags : Text) → short_of word ≡ Some flags → Refuses (flags_fault taking again (length flags) flags 0 h) → Refuses (flag_word_fault taking again None word h)
  by_short word flags e r = rw (e) r

  bundled : (y : ℕ) (ys : Text) → (y == 45) ≡ false → Judged (45 ∷ y ∷ ys)
  bundled y ys other = ⊎_elim (λ r. inl (subst (λ (l : Option (Text × Option Text)). Refuses (flag_word_fault taking again l (45 ∷ y ∷ ys) h)) (sym (long_none y ys other)) (by_short (45 ∷ y ∷ ys) (y ∷ ys) (short_some y ys other) r)))
      (λ none. inr (inr none)) (flags_then (length ys) (y ∷ ys) (chars (y ∷ ys)) refl)

  twice_dashed : (zs : Text) → bytes_eq (45 ∷ 45 ∷ zs) (45 ∷ 45 ∷ []) ≡ false → Judged (45 ∷ 45 ∷ zs)
  twice_dashed [] e = absurd (true≢false e)
  twice_dashed (z ∷ zs) e = inl (long_then (has_long help (name_and_value (z ∷ zs)).0) (name_and_value (z ∷ zs)).1)

  dashed : (rest : Text) → bytes_eq (45 ∷ rest) (45 ∷ 45 ∷ []) ≡ false → Judged (45 ∷ rest)
  unfolding chars
  dashed [] other = inr (inr refl)
  dashed (y ∷ ys) other = ⊎_elim (λ dash. subst (λ z. bytes_eq (45 ∷ z ∷ ys) (45 ∷ 45 ∷ []) ≡ false → Judged (45 ∷ z ∷ ys)) (sym dash) (twice_dashed ys) other) (bundled y ys) (dash_or_other y)

  judged : (word : Text) → bytes_eq word (45 ∷ 45 ∷ []) ≡ false → Judged word
  judged [] other = inr tt
  judged (byte ∷ rest) other = ⊎_elim (λ dash. subst (λ b. bytes_eq (b ∷ rest) (45 ∷ 45 ∷ []) ≡ false → Judged (b ∷ rest)) (sym dash) (dashed rest) other)
      (λ unlike. inr (inl (λ same. true≢false (subst (λ b. (b == 45) ≡ false) same unlike)))) (dash_or_other byte)

  -- a plain word is no flag
  record IsValue (word : Text) : Type 0 where
    name : bytes_eq word (45 ∷ 45 ∷ []) ≡ false
    fault : flag_word_fault taking again (long_of word) word h ≡ []
    met : long_or_other taking idle word (long_of word) h ≡ (h, value)

  silent_fault : (word : Text) → short_of word ≡ None → flag_word_fault taking again None word h ≡ []
  silent_fault word e = rw (e) refl

  silent_value : (word : Text) → short_of word ≡ None → long_or_other taking idle word None h ≡ (h, value)
  silent_value word e = rw (e) refl

  no_dash : (byte : ℕ) (rest : Text) → (byte == 45) ≡ false → IsValue (byte ∷ rest)
  no_dash byte rest other = record {
    name = rw (other) refl;
    fault = subst (λ (l : Option (Text × Option Text)). flag_word_fault taking again l (byte ∷ rest) h ≡ []) (sym (no_long byte rest other)) (silent_fault (byte ∷ rest) (no_short byte rest other));
    met = subst (λ (l : Option (Text × Option Text)). long_or_other taking idle (byte ∷ rest) l h ≡ (h, value)) (sym (no_long byte rest other)) (silent_value (byte ∷ rest) (no_short byte rest other));
  }

  no_flags : (k : ℕ) (flags : Text) → chars flags ≡ [] → flags_fault taking again k flags 0 h ≡ []
  unfolding flags_fault
  no_flags zero flags e = refl
  no_flags (suc k) flags e = rw (e) refl

  none_met : (k : ℕ) (flags : Text) → chars flags ≡ [] → bundle_met taking k flags 0 plain h ≡ (h, plain)
  unfolding bundle_met
  none_met zero flags e = refl
  none_met (suc k) flags e = rw (e) refl

  none_fault : (word flags : Text) → short_of word ≡ Some flags → chars flags ≡ [] → flag_word_fault taking again None word h ≡ []
  none_fault word flags e none = rw (e) (no_flags (length flags) flags none)

  none_value : (word flags : Text) → short_of word ≡ Some flags → chars flags ≡ [] → long_or_other taking idle word None h ≡ (h, value)
  none_value word flags e none = rw (e) (ap (λ (m : Held × Outcome). after_flag taking idle word m.0 m.1) (none_met (length flags) flags none))

  no_chars : (rest : Text) → chars rest ≡ [] → IsValue (45 ∷ rest)
  unfolding chars
  no_chars [] none = record { name = refl; fault = refl; met = refl }
  no_chars (y ∷ ys) none = ⊎_elim (λ dash. absurd (dash_is_one ys (subst (λ z. chars (z ∷ ys) ≡ []) dash none)))
      (λ other. record {
        name = rw (other) refl;
        fault = subst (λ (l : Option (Text × Option Text)). flag_word_fault taking again l (45 ∷ y ∷ ys) h ≡ []) (sym (long_none y ys other)) (none_fault (45 ∷ y ∷ ys) (y ∷ ys) (short_some y ys other) none);
        met = subst (λ (l : Option (Text × Option Text)). long_or_other taking idle (45 ∷ y ∷ ys) l h ≡ (h, value)) (sym (long_none y ys other)) (none_value (45 ∷ y ∷ ys) (y ∷ ys) (short_some y ys other) none);
      }) (dash_or_other y)

  plain_is : (word : Text) → IsPlainWord word → IsValue word
  plain_is [] p = record { name = refl; fault = refl; met = refl }
  plain_is (byte ∷ rest) (inl other) = no_dash byte rest (other_byte byte other)
  plain_is (byte ∷ rest) (inr none) = ⊎_elim (λ dash. subst (λ b. IsValue (b ∷ rest)) (sym dash) (no_chars rest none)) (no_dash byte rest) (dash_or_other byte)

-- the walk behind a plain word
abbrev start : Walk
start = walk_from nothing_held

abbrev given : Text → Held
given word = record { rows = []; pending = Some (codes "HEX", word ∷ []); skip = 0 }

abbrev behind : Text → Walk
behind word = record { held = given word; waiting = idle; position = 2; is_trailing = false; stopped = None }

plain_walked : (word : Text) → IsPlainWord word → walked taking [] start word ≡ behind word
unfolding walked
plain_walked word p = let is = plain_is false [] None word p in rw (is.name, is.met) refl

plain_turn : (word : Text) → IsPlainWord word → turn_fault decode_shape [] start word ≡ []
plain_turn word p = let is = plain_is false [] None word p in rw (is.name, is.fault, is.met) refl

-- a flag as the first word
flag_turn : (word : Text) → bytes_eq word (45 ∷ 45 ∷ []) ≡ false → Refuses (flag_word_fault taking false (long_of word) word nothing_held) → Refuses (turn_fault decode_shape [] start word)
flag_turn word other r = rw (other) (first_refuses _ _ r)

-- a second word
second_turn : (word other : Text) → bytes_eq other (45 ∷ 45 ∷ []) ≡ false → Refuses (turn_fault decode_shape [] (behind word) other)
second_turn word other name = ⊎_elim (λ r. rw (name) (first_refuses _ _ r))
    (λ p. let is = plain_is false [] (Some (codes "HEX", word ∷ [])) other p in rw (is.name, is.fault, is.met) tt)
    (judged false [] (Some (codes "HEX", word ∷ [])) other name)

-- what `decode` makes of the words after it
abbrev below : List Text → Kinds
below words = level_fault decode_shape [] nothing_held words false []

abbrev Given : List Text → Type 0
Given words = (word : Text) × GiveWord words word

walk_refuses : (words : List Text) → Refuses (walk_fault decode_shape [] start words) → Refuses (below words)
walk_refuses words r = first_refuses _ _ r

-- a level without words lacks its word
no_word : Refuses (below [])
unfolding walk_fault defaults_fault
no_word = tt

behind_dashes : (rest : List Text) → below (codes "--" ∷ rest) ≡ [] → Given (codes "--" ∷ rest)
unfolding walked walk_fault defaults_fault
behind_dashes [] e = absurd (refused (below (codes "--" ∷ [])) tt e)
behind_dashes (word ∷ []) e = (word, inr (inr refl))
behind_dashes (word ∷ next ∷ rest) e = absurd (refused (below (codes "--" ∷ word ∷ next ∷ rest)) tt e)

-- a walk that refuses behind a plain word
later_refuses : (word : Text) (rest : List Text) → IsPlainWord word → Refuses (walk_fault decode_shape [] (behind word) rest) → Refuses (below (word ∷ rest))
unfolding walk_fault
later_refuses word rest p r =
    walk_refuses (word ∷ rest) (second_refuses (turn_fault decode_shape [] start word) _ (subst (λ (w : Walk). Refuses (walk_fault decode_shape [] w rest)) (sym (plain_walked word p)) r))

third_word : (word next : Text) (rest : List Text) → Refuses (walk_fault decode_shape [] (behind word) (codes "--" ∷ next ∷ rest))
unfolding walked walk_fault
third_word word next rest = tt

second_word : (word next : Text) (rest : List Text) → bytes_eq next (45 ∷ 45 ∷ []) ≡ false → Refuses (walk_fault decode_shape [] (behind word) (next ∷ rest))
unfolding walk_fault
second_word word next rest name = first_refuses _ _ (second_turn word next name)

closed : (word : Text) (rest : List Text) → IsPlainWord word → below (word ∷ codes "--" ∷ rest) ≡ [] → Given (word ∷ codes "--" ∷ rest)
closed word [] p e = (word, inr (inl (refl, p)))
closed word (next ∷ rest) p e = absurd (refused _ (later_refuses word (codes "--" ∷ next ∷ rest) p (third_word word next rest)) e)

behind_plain : (word : Text) (rest : List Text) → IsPlainWord word → below (word ∷ rest) ≡ [] → Given (word ∷ rest)
behind_plain word [] p e = (word, inl (refl, p))
behind_plain word (next ∷ rest) p e = by_word (codes "--") next
    (λ same. subst (λ (w : Text). below (word ∷ w ∷ rest) ≡ [] → Given (word ∷ w ∷ rest)) same (closed word rest p) e)
    (λ other. absurd (refused _ (later_refuses word (next ∷ rest) p (second_word word next rest (eq_turned next other))) e))

flag_first : (word : Text) (rest : List Text) → bytes_eq word (45 ∷ 45 ∷ []) ≡ false → Refuses (flag_word_fault taking false (long_of word) word nothing_held) → Refuses (below (word ∷ rest))
unfolding walk_fault
flag_first word rest name r = walk_refuses (word ∷ rest) (first_refuses _ _ (flag_turn word name r))

-- what may follow `decode`
after_decode : (rest : List Text) → below rest ≡ [] → Given rest
after_decode [] e = absurd (refused _ no_word e)
after_decode (word ∷ rest) e = by_word (codes "--") word
    (λ same. subst (λ (w : Text). below (w ∷ rest) ≡ [] → Given (w ∷ rest)) same (behind_dashes rest) e)
    (λ other. ⊎_elim (λ r. absurd (refused _ (flag_first word rest (eq_turned word other) r) e))
    (λ p. behind_plain word rest p e) (judged false [] None word (eq_turned word other)))

decode_entered : (rest : List Text) → entered_fault app (Some (codes "decode", rest)) ≡ below rest
decode_entered rest = refl

-- what `decode` refuses after it, the whole line refuses
decode_refuses : (rest : List Text) → Refuses (below rest) → Refuses (built_fault app nothing_held (codes "decode" ∷ rest))
unfolding walked walk_fault
decode_refuses rest r =
    let stops = walk_stopped app.top.rules (names_of app) (walk_from nothing_held) (codes "decode") [] rest in
    second_refuses _ _ (first_refuses _ _ (subst (λ (w : Walk). Refuses (entered_fault app w.stopped)) stops r))

pub decode_first : (rest : List Text) → built_fault app nothing_held (codes "decode" ∷ rest) ≡ [] → Given rest
decode_first rest e = after_decode rest (passes (below rest) (λ r. refused _ (decode_refuses rest r) e))

-- the end of the walk over the words: the word is held
record Ends (rest : List Text) (word : Text) : Type 0 where
  end : Walk
  is : walk taking [] nothing_held rest ≡ end
  faultless : walk_fault decode_shape [] start rest ≡ []
  holds : end.held ≡ given word

ends_plain : (word : Text) → IsPlainWord word → Ends (word ∷ []) word
unfolding walk_fault
ends_plain word p = record { end = behind word; is = plain_walked word p; faultless = ap (λ ks. or_else ks []) (plain_turn word p); holds = refl }

-- behind the closing `--`
abbrev shut : Text → Walk
shut word = record { held = given word; waiting = idle; position = 2; is_trailing = true; stopped = None }

shut_walked : (word : Text) → walked taking [] (behind word) (codes "--") ≡ shut word
unfolding walked
shut_walked word = refl

shut_turn : (word : Text) → turn_fault decode_shape [] (behind word) (codes "--") ≡ []
shut_turn word = refl

ends_closed : (word : Text) → IsPlainWord word → Ends (word ∷ codes "--" ∷ []) word
unfolding walk_fault
ends_closed word p = record {
  end = shut word;
  is = ap (λ (w : Walk). walked taking [] w (codes "--")) (plain_walked word p) ∙ shut_walked word;
  faultless = ap₂ (λ ks (w : Walk). or_else ks (or_else (turn_fault decode_shape [] w (codes "--")) [])) (plain_turn word p) (plain_walked word p);
  holds = refl;
}

ends_dashed : (word : Text) → Ends (codes "--" ∷ word ∷ []) word
unfolding walked walk_fault
ends_dashed word = record { end = shut word; is = refl; faultless = refl; holds = refl }

ends : (rest : List Text) (word : Text) → GiveWord rest word → Ends rest word
ends rest word (inl (is, p)) = subst (λ r. Ends r word) (sym is) (ends_plain word p)
ends rest word (inr (inl (is, p))) = subst (λ r. Ends r word) (sym is) (ends_closed word p)
ends rest word (inr (inr is)) = subst (λ r. Ends r word) (sym is) (ends_dashed word)

-- what is left to judge at the end of a level
abbrev at_end : Held → Kinds
at_end end = or_else [] (or_else (settle_fault taking false end) (or_else (defaults_fault (settled taking end).rows taking) (check_fault decode_shape (finished taking end) false)))

word_suffices : (word : Text) → at_end (given word) ≡ []
unfolding defaults_fault
word_suffices word = refl

given_passes : (rest : List Text) (word : Text) → Ends rest word → below rest ≡ []
given_passes rest word e = ap₂ (λ ks (w : Walk). or_else ks (at_end w.held)) e.faultless e.is ∙ ap at_end e.holds ∙ word_suffices word

-- the word is found
pub first_word : (rest : List Text) (word : Text) → GiveWord rest word → first_of (codes "HEX") (rows_after taking [] rest) ≡ Some word
first_word rest word gives =
    let e = ends rest word gives in
    ap (λ (w : Walk). first_of (codes "HEX") (finished taking w.held)) e.is ∙ ap (λ held. first_of (codes "HEX") (finished taking held)) e.holds

pub decode_met : (rest : List Text) → entered app (walk bare (names_of app) nothing_held (codes "decode" ∷ rest)).stopped ≡ Some (codes "decode", rows_after taking [] rest)
unfolding walked
decode_met rest = ap (λ (w : Walk). entered app w.stopped) (sym (walk_stopped app.top.rules (names_of app) (walk_from nothing_held) (codes "decode") [] rest))

-- once a subcommand is met, no further word is judged
stopped_faultless : (w : Walk) (name : Text) (seen words : List Text) → walk_fault app.top (names_of app) (record w { stopped = Some (name, seen) }) words ≡ []
unfolding walk_fault walked
stopped_faultless w name seen [] = refl
stopped_faultless w name seen (word ∷ words) = stopped_faultless w name (seen ++ word ∷ []) words

-- what is left to judge at the end of the whole line
abbrev line_end : Walk → Kinds
line_end end = or_else (entered_fault app end.stopped) (or_else (settle_fault app.top.rules false end.held) (or_else (defaults_fault (settled app.top.rules end.held).rows app.top.rules)
    (check_fault app.top (finished app.top.rules end.held) (is_some (entered app end.stopped)))))

abbrev met : List Text → Walk
met rest = record (walk_from nothing_held) { stopped = Some (codes "decode", rest) }

line_end_is : (rest : List Text) → below rest ≡ [] → line_end (met rest) ≡ []
unfolding defaults_fault
line_end_is rest e = ap (λ ks. or_else ks []) e

pub decode_line_passes : (rest : List Text) (word : Text) → GiveWord rest word → built_fault app nothing_held (codes "decode" ∷ rest) ≡ []
unfolding walked walk_fault
decode_line_passes rest word gives =
    ap₂ (λ ks (w : Walk). or_else ks (line_end w)) (stopped_faultless (walk_from nothing_held) (codes "decode") [] rest) (sym (walk_stopped app.top.rules (names_of app) (walk_from nothing_held) (codes "decode") [] rest))
    ∙ line_end_is rest (given_passes rest word (ends rest word gives))
