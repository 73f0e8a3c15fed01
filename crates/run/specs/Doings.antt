-- What was done between two looks.
use Rattle.std.specs.Prelude.{ℕ, List, ◌+◌, ◌-◌, ◌%◌, ◌^◌, ◌++◌, codes, decimal}
use Rattle.counters.specs.declared.readings.Readings.{Readings}
use Rattle.run_parties.specs.declared.run_state.Done.{Done}

-- how far a count of 64 bits has come
abbrev pub grown : ℕ → ℕ → ℕ
grown before now = (now + (2 ^ 64 - before)) % 2 ^ 64

abbrev pub done_since : Done → Done → Done
done_since before done = record {
  sent = grown before.sent done.sent;
  resent = grown before.resent done.resent;
  polled = grown before.polled done.polled;
}

-- what a user reads of it
abbrev pub done_text : Done → List ℕ
done_text done = codes "sent " ++ decimal done.sent ++ codes " resent " ++ decimal done.resent ++ codes " polled " ++ decimal done.polled

-- and of a receiver's positions
abbrev pub readings_text : Readings → List ℕ
readings_text r = codes "least " ++ decimal r.least ++ codes " rebuilt " ++ decimal r.rebuilt ++ codes " high-water " ++ decimal r.high_water
