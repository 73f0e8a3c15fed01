use Rattle.script_meaning.proofs.Standings.{always_again, always_there}
use Rattle.script_meaning.proofs.sends_again_what_it_sent.Goals as goal

pub returns-clause-there : goal.returns-clause-there
returns-clause-there c = always_there (record {
  tiles = c.every_run.ensures.tiles;
  bounds = c.every_run.ensures.bounds;
  prefixes = c.every_run.ensures.polled;
  entries = c.every_run.ensures.entries;
  spelled = c.every_run.ensures.spelled;
  readable = c.every_run.ensures.readable;
  passed = c.steps_keep.ensures.passed;
  reached = c.steps_keep.ensures.reached;
  short = c.messages_between.ensures.short;
  places = record { place = c.names_place.ensures.place; header = c.names_place.ensures.header };
  reading = λ a b bytes. c.one_reading.ensures bytes a b;
})

pub returns-clause-again : goal.returns-clause-again
returns-clause-again c = always_again (record {
  tiles = c.every_run.ensures.tiles;
  bounds = c.every_run.ensures.bounds;
  prefixes = c.every_run.ensures.polled;
  entries = c.every_run.ensures.entries;
  spelled = c.every_run.ensures.spelled;
  readable = c.every_run.ensures.readable;
  passed = c.steps_keep.ensures.passed;
  reached = c.steps_keep.ensures.reached;
  short = c.messages_between.ensures.short;
  places = record { place = c.names_place.ensures.place; header = c.names_place.ensures.header };
  reading = λ a b bytes. c.one_reading.ensures bytes a b;
}) c.near_starts_suffice.ensures.range
