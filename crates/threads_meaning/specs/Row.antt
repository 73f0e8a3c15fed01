-- A log that opens, and steps that there are: it is connected, its limit is raised, a pass looks at the limit and the count, is
-- armed and adds, and the frame of its claim is stored and committed. So the laws speak of logs and of steps that there are.
use Rattle.std.specs.Prelude.{◌≡◌, pos, true, List, [], ◌∷◌}
use Rattle.atomic_table.specs.Table.{State}
use Rattle.theory.specs.Bytes.{IsIdentity}
use Rattle.theory.specs.Placed.{Data}
use Rattle.log_rule.specs.declared.claims.view.View.{View}
use Rattle.log_rule.specs.declared.rule.Key.{Key}
use Rattle.log_rule.specs.Table.{LogRuled, whole_seat}
use Rattle.model.specs.Log.{Add, Arm, Commit, Connect, LogEvent, Look, Raise, Store}
use Rattle.threads_meaning.specs.Law.{Steps}

-- with one consumer
abbrev pub row_key : Key
row_key = record {
  identity = record { geometry = record { term_length = 65536; mtu = 256; initial_term_id = pos 7 }; session = pos 1; stream = pos 1001 };
  start = 0;
  consumers = 1;
}

-- a message of no bytes
abbrev pub row_events : List LogEvent
row_events = Connect true ∷ Raise 0 ∷ Look ∷ Look ∷ Arm 7 32768 ∷ Add 7 0 ∷ Store ∷ Store ∷ Commit 0 (Data 192 []) ∷ []

abbrev pub ItHappens : Type 0
ItHappens = IsIdentity row_key.identity × ((s : State (Unit {0}) View) × (t : State (Unit {0}) View) × LogRuled row_key s × (s.views ≡ whole_seat row_key ∷ []) × Steps row_key [] s row_events t [])
