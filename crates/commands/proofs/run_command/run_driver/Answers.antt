use Rattle.commands.proofs.run_command.run_driver.Goals as goal

pub returns-clause-done : goal.returns-clause-done
returns-clause-done g c = record {
  plan = c.in_ok-plan.plan;
  planned = c.in_ok-plan.ensures.made;
  outcome = c.in_ok-outcome.outcome;
  left = c.in_ok-outcome.ensures.outcome;
  lives = c.in_ok-outcome.ensures.lives;
  published = c.in_ok-outcome.ensures.published;
  ended = c.ending.ensures;
  written = c.in_ok-show_outcome.ensures.done;
}
