-- Lines that are written one after the other.
use Rattle.std.proofs.Common.{◌≡◌, ◌∙◌, ℕ, ◌+◌, ◌<◌, List, [], ◌∷◌, ◌++◌, suc, length, get_or, take, sym, ap, arith, append-nil}
use Rattle.std.specs.Prelude.{flat_map}
use Rattle.std.proofs.Math.Seq.{take-suc}
use Rattle.std.proofs.lemmas.List.{map-append}
use Rattle.std.proofs.lemmas.Grind.{flat_map-append}
use Rattle.script_meaning.specs.LineContents.{LineContent}
use Rattle.simulation.specs.LineTexts.{line_text, text_of_lines}
use Rattle.simulation.specs.Lines.{line_content, line_contents}
use Rattle.simulation.specs.declared.line.Line.{Line}
use Rattle.run.specs.declared.outcome.Polled.{Polled}
use Rattle.commands.specs.Running.{polled_text}

abbrev text_of : List Line → List ℕ
text_of lines = text_of_lines (line_contents lines)

one_more : (lines : List Line) (k : ℕ) (line : Line) → k < length lines → line ≡ get_or lines k line → take (k + 1) lines ≡ take k lines ++ line ∷ []
one_more lines k line below e =
    let next : k + 1 ≡ suc k = omega arith in
    ap (λ (n : ℕ). take n lines) next ∙ take-suc lines k line below ∙ ap (λ (x : Line). take k lines ++ x ∷ []) (sym e)

-- with one line more
pub text_more : (lines : List Line) (k : ℕ) (line : Line) → k < length lines → line ≡ get_or lines k line → text_of_lines (line_contents (take k lines)) ++ (line_text (line_content line) ++ 10 ∷ []) ≡ text_of_lines (line_contents (take (k + 1) lines))
text_more lines k line below e =
    sym (ap text_of (one_more lines k line below e)
    ∙ ap text_of_lines (map-append line_content (take k lines) (line ∷ []))
    ∙ flat_map-append (λ (x : LineContent). line_text x ++ 10 ∷ []) (line_contents (take k lines)) (line_content line ∷ [])
    ∙ ap (λ (t : List ℕ). text_of (take k lines) ++ t) (append-nil (line_text (line_content line) ++ 10 ∷ [])))

-- with the lines of one receiver more
pub polled_more : (wanted : ℕ) (ps : List Polled) (k : ℕ) (none : Polled) → k < length ps → flat_map (polled_text wanted) (take k ps) ++ polled_text wanted (get_or ps k none) ≡ flat_map (polled_text wanted) (take (k + 1) ps)
polled_more wanted ps k none below =
    let next : k + 1 ≡ suc k = omega arith in
    sym (ap (λ (n : ℕ). flat_map (polled_text wanted) (take n ps)) next
    ∙ ap (flat_map (polled_text wanted)) (take-suc ps k none below)
    ∙ flat_map-append (polled_text wanted) (take k ps) (get_or ps k none ∷ [])
    ∙ ap (λ (t : List ℕ). flat_map (polled_text wanted) (take k ps) ++ t) (append-nil (polled_text wanted (get_or ps k none))))
