use Rattle.std.proofs.Common.{◌≡◌, ◌∙◌, Option, Some, None, ap, sym, codes, refl}
use Rattle.std.specs.Prelude.{option_map, unwrap_or}
use Rattle.std.specs.Borrow.{Bor}
use Rattle.clap.specs.Matches.{first_value, found_of}
use Rattle.clap.specs.Walk.{Text, first_of, rows_of}
use Rattle.clap.proofs.WalkLemmas.{first_value-rows}
use Rattle.command_line.proofs.choice.choice_but_run.Goals as goal

twice : {A B C : Type 0} (f : B → C) (g : A → B) (o : Option A) → option_map f (option_map g o) ≡ option_map (λ x. f (g x)) o
twice f g None = refl
twice f g (Some x) = refl

one_word : (found : Option (Bor Text)) (other own : Bor Text) (word : Text) → option_map (λ s. s.now) found ≡ Some word → own ≡ unwrap_or found other → own.now ≡ word
one_word None other own word e is = absurd (cc)
one_word (Some s) other own word e is = let same : own ≡ s = is in let text : s.now ≡ word = cc in ap (λ (b : Bor Text). b.now) same ∙ text

pub returns-in-Some : goal.returns-in-Some
returns-in-Some c =
    let f = found_of c.in-Some.decode.now in
    record {
      decode = λ rows word met first.
          let same : rows_of f ≡ rows = (let e : Some (rows_of f) ≡ Some rows = sym c.in-Some.ensures.rows ∙ ap (option_map (λ p. p.1)) met in cc) in
          let text : first_value f (codes "HEX") ≡ Some word = first_value-rows f (codes "HEX") ∙ ap (first_of (codes "HEX")) same ∙ first in
          one_word c.get_str.result _ c.unwrap_or.result word (c.get_str.ensures ∙ text) c.unwrap_or.ensures;
      sim = λ other. absurd (other (twice (λ p. p.0) _ _ ∙ c.in-Some.ensures.found.0 refl));
    }
