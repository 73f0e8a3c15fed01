-- The flow control of a stream, behind what the state's sender heard.
use Rattle.std.proofs.Common.{◌≡◌, ◌≤◌, ℕ, List, [], ◌∷◌, Option, None, Some, refl, ap, ◌∙◌}
use Rattle.std.specs.Prelude.{IfSome, ℤ, ◌+ℤ◌}
use Rattle.theory.specs.FlowLimit.{clipped}
use Rattle.theory.specs.GroupLimit.{GroupEvent, StatusCame, Ticked}
use Rattle.model.specs.Sender.{limit_by}
use Rattle.flow_control.specs.Group.{Group, are_heard, at_moment, group_after, inside, told}
use Rattle.flow_control.specs.Laws.{GroupKeepsEnough, OneKeepsEnough}
use Rattle.flow_control.specs.Stream.{flow_after, has_heard_of, reached_of, status_after, tick_after}
use Rattle.script_meaning.specs.Answers.{have_all_come}

pub flow_ticks : (group : Option ℕ) (start : ℕ) (heard : List GroupEvent) (now : ℕ) → tick_after (flow_after group start heard) now ≡ flow_after group start (Ticked now ∷ heard)
flow_ticks None start heard now = refl
flow_ticks (Some size) start heard now = refl

pub flow_hears : (group : Option ℕ) (start : ℕ) (heard : List GroupEvent) (position window receiver : ℤ) (now : ℕ) → status_after (flow_after group start heard) position window receiver now ≡ flow_after group start (StatusCame receiver position window now ∷ heard)
flow_hears None start heard position window receiver now = refl
flow_hears (Some size) start heard position window receiver now = refl

-- its limit is the state's
pub flow_reaches : OneKeepsEnough → GroupKeepsEnough → (group : Option ℕ) → IfSome group (λ size. size ≤ 8) → (start : ℕ) (heard : List GroupEvent) → reached_of (flow_after group start heard) ≡ limit_by group start heard
flow_reaches one all None small start heard = (one start heard).0
flow_reaches one all (Some size) small start heard = (all size start heard small).0

told_size : (f : Group) (reach : ℕ) (o : Option ℕ) → (told f reach o).size ≡ f.size
told_size f reach None = refl
told_size f reach (Some r) = refl

size_stays : (size start : ℕ) (heard : List GroupEvent) → (group_after size start heard).size ≡ size
size_stays size start [] = refl
size_stays size start (StatusCame r p w now ∷ heard) = told_size (at_moment (group_after size start heard) now) (clipped (p +ℤ w)) (inside (group_after size start heard).size r) ∙ size_stays size start heard
size_stays size start (Ticked now ∷ heard) = size_stays size start heard

pub flow_heard : OneKeepsEnough → GroupKeepsEnough → (group : Option ℕ) → IfSome group (λ size. size ≤ 8) → (start : ℕ) (heard : List GroupEvent) → has_heard_of (flow_after group start heard) ≡ have_all_come group heard
flow_heard one all None small start heard = (one start heard).1
flow_heard one all (Some size) small start heard = ap (λ n. are_heard n (group_after size start heard).members) (size_stays size start heard) ∙ (all size start heard small).1
