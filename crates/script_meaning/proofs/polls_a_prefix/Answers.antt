use Rattle.script_meaning.proofs.PolledPrefixes.{always_polled, always_runs}
use Rattle.script_meaning.proofs.polls_a_prefix.Goals as goal

pub returns-clause-polled : goal.returns-clause-polled
returns-clause-polled c = always_polled (record {
  tiles = c.every_run.ensures.tiles;
  bounds = c.every_run.ensures.bounds;
  prefixes = c.every_run.ensures.polled;
  entries = c.every_run.ensures.entries;
  spelled = c.every_run.ensures.spelled;
  readable = c.every_run.ensures.readable;
  passed = c.steps_keep.ensures.passed;
  reached = c.steps_keep.ensures.reached;
  short = c.messages_between.ensures.short;
  places = record { place = c.names_place.ensures.place; header = c.names_place.ensures.header };
  reading = λ a b bytes. c.one_reading.ensures bytes a b;
})

pub returns-clause-runs : goal.returns-clause-runs
returns-clause-runs c = always_runs (record {
  tiles = c.every_run.ensures.tiles;
  bounds = c.every_run.ensures.bounds;
  prefixes = c.every_run.ensures.polled;
  entries = c.every_run.ensures.entries;
  spelled = c.every_run.ensures.spelled;
  readable = c.every_run.ensures.readable;
  passed = c.steps_keep.ensures.passed;
  reached = c.steps_keep.ensures.reached;
  short = c.messages_between.ensures.short;
  places = record { place = c.names_place.ensures.place; header = c.names_place.ensures.header };
  reading = λ a b bytes. c.one_reading.ensures bytes a b;
})
