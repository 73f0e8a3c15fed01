-- A cycle of an agent over several ways is a cycle of its core.
use Rattle.std.proofs.Common.{◌∙◌, ℕ, zero, suc, List, [], ◌∷◌, ◌++◌, Bool, Result, Ok, Err, refl, sym, ap, subst, append_assoc}
use Rattle.std.specs.Prelude.{IfOk}
use Rattle.conductor.specs.Parties.{ClientSeen}
use Rattle.endpoint.specs.Devices.{Device}
use Rattle.endpoint.specs.declared.device_error.DeviceError.{DeviceError}
use Rattle.flow_control.specs.declared.stream.StreamFlow.{StreamFlow}
use Rattle.shared_log.specs.declared.reader.source.LogFrames.{LogFrames}
use Rattle.agents.specs.Cycles.{HearsAll}
use Rattle.agents.specs.Duties.{Agent, AgentCycle}
use Rattle.agents.specs.Rounds.{HearsWays}
use Rattle.sender_meaning.specs.Moments.{CyclesAt, HearsThere, StreamCore, TicksThere}

hears_on : (now : ℕ) (s m t : StreamCore) (xs ys a b : List (List ℕ)) → HearsAll HearsThere now s xs m a → HearsAll HearsThere now m ys t b → HearsAll HearsThere now s (xs ++ ys) t (a ++ b)
hears_on now s m t [] ys a b first then = subst (λ (g : List (List ℕ)). HearsAll HearsThere now s ys t (g ++ b)) (sym first.1) (subst (λ (z : StreamCore). HearsAll HearsThere now z ys t b) first.0 then)
hears_on now s m t (x ∷ xs) ys a b first then =
    (first.0, first.1, first.2 ++ b, first.3, hears_on now first.0 m t xs ys first.2 b first.4 then, ap (λ (g : List (List ℕ)). g ++ b) first.5 ∙ append_assoc first.1 first.2 b)

-- along all ways it heard datagrams at the moment, one after the other
pub ways_heard : {D : Type 0} (now : ℕ) (device : D → Device) (tells : D → Type 0) (turned : D → ℕ → D) (ways : ℕ) (any : Bool) (s t : StreamCore) (d e : D) → HearsWays HearsThere TicksThere now device tells turned ways any s d t e → (datagrams : List (List ℕ)) × (answers : List (List ℕ)) × HearsAll HearsThere now s datagrams t answers
ways_heard now device tells turned zero any s t d e h = ([], [], (h.0, refl))
ways_heard now device tells turned (suc way) any s t d e h =
    let below = ways_heard now device tells turned way h.0 s h.2 d h.3 h.4 in
    (below.0 ++ h.5.heard, below.1 ++ h.5.given, hears_on now s h.2 t below.0 h.5.heard below.1 h.5.given below.2 h.5.all_heard)

pub ways_cycle : {D : Type 0} (now : ℕ) (device : D → Device) (tells : D → Type 0) (turned : D → ℕ → D) (ways : ℕ) (a b : Agent LogFrames StreamFlow) (c after : ClientSeen) (d e : D) (result : Result Bool DeviceError) → AgentCycle HearsThere TicksThere now device tells turned ways a c d result b after e → IfOk result (λ _. CyclesAt now a.core b.core)
ways_cycle now device tells turned ways a b c after d e (Ok busy) h =
    let w = h.cycle in
    let heard = ways_heard now device tells turned ways w.any a.core w.middle d w.between w.heard in
    record { datagrams = heard.0; answers = heard.1; heard = w.middle; all = heard.2; given = w.ticked.given; told = w.ticked.ticked }
ways_cycle now device tells turned ways a b c after d e (Err why) h = tt
