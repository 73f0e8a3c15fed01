-- The lines that open a log: reading one, and being one, are the same.
use Rattle.std.proofs.Common.{◌≡◌, ℕ, ◌-◌, ◌^◌, true, false, cond, List, [], ◌∷◌, Option, Some, None, refl, sym, ap, subst, ◌∙◌}
use Rattle.std.specs.Prelude.{bytes_eq, codes}
use Rattle.script.specs.Meaning.{Opening}
use Rattle.script.specs.Pieces.{words}
use Rattle.text.specs.Decimals.{◌>>=◌}
use Rattle.script.specs.Reading.{ShapeContent, word_at, number_at, signed_at, most_wide, shape_at, opening_of, log_of, is_log, is_log_name}
use Rattle.script.specs.Language.{AreLogWords, IsUpTo, IsSigned, IsWide, SayLog, SaysOpening, BeginsLog}
use Rattle.script.proofs.Options.{bind_some, some_bind, guarded_step}
use Rattle.script.proofs.Fields.{same_name, word_found, number_at_found, number_at_only, signed_at_found, signed_at_only, whole_found, whole_only}

-- the words of a shape, with these words behind them
record AreShapeWords (ws rest : List (List ℕ)) (shape : ShapeContent) (a b c d : List ℕ) : Type 0 where
  words : ws ≡ a ∷ b ∷ c ∷ d ∷ rest
  term_length_is : IsUpTo (2 ^ 32 - 1) a shape.term_length
  mtu_is : IsUpTo (2 ^ 32 - 1) b shape.mtu
  initial_is : IsSigned c shape.initial_term_id
  start_is : IsWide d shape.start

SayShape : List (List ℕ) → ShapeContent × List (List ℕ) → Type 0
SayShape ws x = (a : List ℕ) × (b : List ℕ) × (c : List ℕ) × (d : List ℕ) × AreShapeWords ws x.1 x.0 a b c d

four : (ws b1 b2 b3 b4 : List (List ℕ)) (a b c d : List ℕ) → ws ≡ a ∷ b1 → b1 ≡ b ∷ b2 → b2 ≡ c ∷ b3 → b3 ≡ d ∷ b4 → ws ≡ a ∷ b ∷ c ∷ d ∷ b4
four ws b1 b2 b3 b4 a b c d e1 e2 e3 e4 = cc

shape_found : (ws : List (List ℕ)) (x : ShapeContent × List (List ℕ)) → shape_at ws ≡ Some x → SayShape ws x
unfolding shape_at SayShape
shape_found ws x h =
    let x1 = bind_some (number_at (2 ^ 32 - 1) ws) _ x h in
    let x2 = bind_some (number_at (2 ^ 32 - 1) x1.0.1) _ x x1.2 in
    let x3 = bind_some (signed_at x2.0.1) _ x x2.2 in
    let x4 = bind_some (number_at most_wide x3.0.1) _ x x3.2 in
    let a = number_at_found (2 ^ 32 - 1) ws x1.0 x1.1 in
    let b = number_at_found (2 ^ 32 - 1) x1.0.1 x2.0 x2.1 in
    let c = signed_at_found x2.0.1 x3.0 x3.1 in
    let d = number_at_found most_wide x3.0.1 x4.0 x4.1 in
    let same : (record { term_length = x1.0.0; mtu = x2.0.0; initial_term_id = x3.0.0; start = x4.0.0 }, x4.0.1) ≡ x = cc in
    subst (SayShape ws) same
    (a.0, b.0, c.0, d.0, record { words = four ws x1.0.1 x2.0.1 x3.0.1 x4.0.1 a.0 b.0 c.0 d.0 a.1 b.1 c.1 d.1; term_length_is = a.2; mtu_is = b.2; initial_is = c.2; start_is = d.2 })

shape_only : (shape : ShapeContent) (a b c d : List ℕ) (ws rest : List (List ℕ)) → AreShapeWords ws rest shape a b c d → shape_at (a ∷ b ∷ c ∷ d ∷ rest) ≡ Some (shape, rest)
unfolding shape_at
shape_only shape a b c d ws rest are =
    some_bind _ _ _ (number_at_only (2 ^ 32 - 1) a (b ∷ c ∷ d ∷ rest) shape.term_length are.term_length_is)
    ∙ some_bind _ _ _ (number_at_only (2 ^ 32 - 1) b (c ∷ d ∷ rest) shape.mtu are.mtu_is)
    ∙ some_bind _ _ _ (signed_at_only c (d ∷ rest) shape.initial_term_id are.initial_is)
    ∙ some_bind _ _ _ (number_at_only most_wide d rest shape.start are.start_is)

opening_found : (ws : List (List ℕ)) (log : Opening) → opening_of ws ≡ Some log → SayLog (codes "log" ∷ ws) log
unfolding opening_of SayShape
opening_found ws log h =
    let x = bind_some (shape_at ws) _ log h in
    let x5 = bind_some (signed_at x.0.1) _ log x.2 in
    let x6 = bind_some (signed_at x5.0.1) _ log x5.2 in
    let x7 = bind_some (number_at 7 x6.0.1) _ log x6.2 in
    let s = shape_found ws x.0 x.1 in
    let are = s.4 in
    let e = signed_at_found x.0.1 x5.0 x5.1 in
    let f = signed_at_found x5.0.1 x6.0 x6.1 in
    let g = number_at_found 7 x6.0.1 x7.0 x7.1 in
    let end = whole_found _ x7.0.1 log x7.2 in
    let last : x.0.1 ≡ e.0 ∷ f.0 ∷ g.0 ∷ [] = e.1 ∙ ap (λ r. e.0 ∷ r) (f.1 ∙ ap (λ r. f.0 ∷ r) (g.1 ∙ ap (λ r. g.0 ∷ r) end.0)) in
    subst (SayLog (codes "log" ∷ ws)) end.1
    (s.0, s.1, s.2, s.3, e.0, f.0, g.0, record { words = ap (λ rest. codes "log" ∷ rest) (are.words ∙ ap (λ r. s.0 ∷ s.1 ∷ s.2 ∷ s.3 ∷ r) last); term_length_is = are.term_length_is; mtu_is = are.mtu_is; initial_is = are.initial_is; start_is = are.start_is; session_is = e.2; stream_is = f.2; readers_is = g.2 })

opening_only : (log : Opening) (a b c d e f g : List ℕ) (ws : List (List ℕ)) → AreLogWords ws log a b c d e f g → opening_of (a ∷ b ∷ c ∷ d ∷ e ∷ f ∷ g ∷ []) ≡ Some log
unfolding opening_of
opening_only log a b c d e f g ws are =
    let shape : ShapeContent = record { term_length = log.term_length; mtu = log.mtu; initial_term_id = log.initial_term_id; start = log.start } in
    some_bind _ _ _ (shape_only shape a b c d (a ∷ b ∷ c ∷ d ∷ e ∷ f ∷ g ∷ []) (e ∷ f ∷ g ∷ []) (record { words = refl; term_length_is = are.term_length_is; mtu_is = are.mtu_is; initial_is = are.initial_is; start_is = are.start_is }))
    ∙ some_bind _ _ _ (signed_at_only e (f ∷ g ∷ []) log.session are.session_is)
    ∙ some_bind _ _ _ (signed_at_only f (g ∷ []) log.stream are.stream_is)
    ∙ some_bind _ _ _ (number_at_only 7 g [] log.readers are.readers_is)
    ∙ whole_only log

-- what the words of a line open
read_log : List (List ℕ) → Option Opening
read_log ws = word_at ws >>= λ name. cond (bytes_eq name.0 (codes "log")) (opening_of name.1) None

pub log_found : (line : List ℕ) (log : Opening) → log_of line ≡ Some log → SaysOpening line log
unfolding log_of
log_found line log e =
    let name = bind_some (word_at (words line)) (λ name. cond (bytes_eq name.0 (codes "log")) (opening_of name.1) None) log e in
    let read = guarded_step (bytes_eq name.0.0 (codes "log")) (opening_of name.0.1) log name.2 in
    let whole : words line ≡ codes "log" ∷ name.0.1 = word_found (words line) name.0 name.1 ∙ ap (λ w. w ∷ name.0.1) (same_name name.0.0 (codes "log") read.0) in
    subst (λ ws. SayLog ws log) (sym whole) (opening_found name.0.1 log read.1)

words_open : (ws : List (List ℕ)) (log : Opening) → SayLog ws log → read_log ws ≡ Some log
unfolding read_log word_at
words_open ws log (a, b, c, d, e, f, g, are) = ap read_log are.words ∙ opening_only log a b c d e f g ws are

pub log_only : (line : List ℕ) (log : Opening) → SaysOpening line log → log_of line ≡ Some log
unfolding log_of read_log
log_only line log opens = words_open (words line) log opens

begins_with : (ws : List (List ℕ)) → is_log_name (word_at ws) ≡ true → (rest : List (List ℕ)) × (ws ≡ codes "log" ∷ rest)
unfolding word_at
begins_with [] e = absurd (cc)
begins_with (name ∷ rest) e = (rest, ap (λ w. w ∷ rest) (same_name name (codes "log") e))

pub begins_found : (line : List ℕ) → is_log line ≡ true → BeginsLog line
unfolding is_log
begins_found line e = begins_with (words line) e

pub begins_log : (line : List ℕ) → BeginsLog line → is_log line ≡ true
unfolding is_log word_at
begins_log line (rest, is) = ap (λ ws. is_log_name (word_at ws)) is

pub not_begun : is_log [] ≡ false
unfolding is_log word_at words
not_begun = refl

pub begins_only : (line : List ℕ) (log : Opening) → SaysOpening line log → is_log line ≡ true
begins_only line log (a, b, c, d, e, f, g, opens) = begins_log line (a ∷ b ∷ c ∷ d ∷ e ∷ f ∷ g ∷ [], opens.words)
