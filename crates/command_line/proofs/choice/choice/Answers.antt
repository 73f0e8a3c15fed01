use Rattle.std.proofs.Common.{◌≡◌, ◌∙◌, List, Option, Some, None, ap, sym, subst, refl, true≢false}
use Rattle.std.specs.Prelude.{option_map}
use Rattle.clap.specs.Matches.{found_of}
use Rattle.clap.specs.Walk.{Row, rows_of}
use Rattle.command_line.specs.RunTold.{IsRunOf}
use Rattle.command_line.proofs.choice.choice.Goals as goal

twice : {A B C : Type 0} (f : B → C) (g : A → B) (o : Option A) → option_map f (option_map g o) ≡ option_map (λ x. f (g x)) o
twice f g None = refl
twice f g (Some x) = refl

pub returns-in-Some : goal.returns-in-Some
returns-in-Some c = record {
  run = λ rows met.
      let f = found_of c.in-Some.run'.now in
      let same : rows_of f ≡ rows = (let e : Some (rows_of f) ≡ Some rows = sym c.in-Some.ensures.rows ∙ ap (option_map (λ p. p.1)) met in cc) in
      subst (λ (rs : List Row). IsRunOf rs c.run_of.result) same c.run_of.ensures;
  others = λ other. absurd (other (twice (λ p. p.0) _ _ ∙ c.in-Some.ensures.found.0 refl));
}

pub returns-in-None : goal.returns-in-None
returns-in-None c = record {
  run = λ rows met. absurd (true≢false (sym (c.in-None.ensures.found.1 (sym (twice (λ p. p.0) _ _) ∙ ap (option_map (λ p. p.0)) met))));
  others = λ other. c.choice_but_run.ensures;
}
