-- The simulation of a log that was just opened.
use Rattle.std.proofs.Common.{arith, ◌≡◌, ◌∙◌, ℕ, ◌≤◌, suc, Option, List, [], refl, sym, ap, subst}
use Rattle.std.specs.Prelude.{IfSome}
use Rattle.theory.specs.Bytes.{Identity}
use Rattle.flow_control.specs.Stream.{flow_after}
use Rattle.one_hand.specs.Stream.{opened}
use Rattle.receiver.specs.Subscribing.{Subscribing}
use Rattle.sender.specs.Sending.{begun}
use Rattle.script_meaning.specs.ScriptState.{opened_state}
use Rattle.script_meaning.proofs.PolledPrefixes.{first_seats}
use Rattle.simulation.specs.Simulated.{RepresentsState, Simulated}
use Rattle.simulation.specs.Runs.{AreListening}

-- such a simulation
pub record IsOpened (i : Identity) (group : Option ℕ) (start readers : ℕ) (v : Simulated) : Type 0 where
  pub log : v.log ≡ opened i start (suc readers)
  pub sender : v.sender ≡ begun i start (record { number = 0 }) (flow_after group start [])
  pub packets : v.packets ≡ []

abbrev staged : Identity → Option ℕ → ℕ → ℕ → List Subscribing → Simulated
staged i group start readers vs = record {
  log = opened i start (suc readers);
  sender = begun i start (record { number = 0 }) (flow_after group start []);
  subscribers = vs;
  packets = [];
}

same_stage : (i : Identity) (group : Option ℕ) (start readers : ℕ) (v : Simulated) → IsOpened i group start readers v → staged i group start readers v.subscribers ≡ v
same_stage i group start readers v h =
    ap (λ l. record (staged i group start readers v.subscribers) { log = l }) (sym h.log)
    ∙ ap (λ x. record (staged i group start readers v.subscribers) { log = v.log; sender = x }) (sym h.sender)
    ∙ ap (λ ps. record v { packets = ps }) (sym h.packets)

pub opened_shown : (i : Identity) (group : Option ℕ) (start readers : ℕ) (v : Simulated) → IfSome group (λ size. size ≤ 8) → IsOpened i group start readers v → AreListening i v.subscribers → RepresentsState v (opened_state i group start readers)
opened_shown i group start readers v small h listening = subst (λ x. RepresentsState x (opened_state i group start readers)) (same_stage i group start readers v h) (record {
  log = refl;
  sender = record { flow = refl; small = small; naming = refl; heard = refl; handler = record { clock = 0; seen = omega arith; is = refl }; last = refl; clock = refl };
  consumers = first_seats start readers;
  receivers = listening;
  packets = refl;
})
