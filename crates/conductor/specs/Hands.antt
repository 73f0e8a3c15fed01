-- What passes know, and how it changes.
use Rattle.std.specs.Prelude.{◌+◌, true, false, [], ◌∷◌, ◌++◌}
use Rattle.conductor.specs.declared.command.Submitted.{Submitted}
use Rattle.conductor.specs.declared.hand.Hand.{Hand}
use Rattle.conductor.specs.declared.hand.Report.{Report}
use Rattle.conductor.specs.Commands.{as_submitted}

abbrev pub nobody : Hand
nobody = record { submits = false; takes = false; client = 0; put = []; taken = []; heard = []; known = []; made = 0; left = 0 }

abbrev pub first_taker : Hand
first_taker = record { submits = false; takes = true; client = 0; put = []; taken = []; heard = []; known = []; made = 0; left = 8 }

abbrev pub after_opening : Hand → Hand
after_opening v = record v { made = v.made + 1 }

abbrev pub new_client : Hand → Hand
new_client v = record { submits = true; takes = false; client = v.made; put = []; taken = []; heard = []; known = []; made = 0; left = 0 }

abbrev pub teller : Hand → Hand
teller v = record { submits = false; takes = false; client = v.client; put = v.put; taken = []; heard = []; known = []; made = 0; left = 0 }

abbrev pub report_of : Hand → Report
report_of w = record { client = w.client; commands = w.put }

abbrev pub after_hearing : Hand → Hand → Hand
after_hearing v w = record v { heard = report_of w ∷ v.heard }

abbrev pub after_end : Hand → Hand → Hand
after_end v w = record v { known = v.known ++ as_submitted w.client w.put; left = w.client }

abbrev pub after_submitting : Hand → Submitted → Hand
after_submitting v m = record v { put = v.put ++ m.command ∷ [] }

abbrev pub after_taking : Hand → Submitted → Hand
after_taking v m = record v { taken = v.taken ++ m ∷ [] }
