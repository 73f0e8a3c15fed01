-- Over any run of cycles Connect is submitted once at the most.
use Rattle.std.proofs.Common.{inl, inr, Bool, true, false, List, [], ◌∷◌, ◌++◌, refl, sym, ap, ◌∙◌, subst}
use Rattle.std.specs.List.{AllByRecursion}
use Rattle.std.specs.Prelude.{replicate}
use Rattle.atomic_table.specs.Seated.{TableId}
use Rattle.conductor.specs.Parties.{ClientSeen, WasFull}
use Rattle.conductor.specs.declared.command.Command.{Command}
use Rattle.conductor.specs.declared.command.Command.TheVariants.{Close, Connect}
use Rattle.agents.specs.Asking.{Asking, AsksOnce, Follows, HasAskedOnce, IsQuiet, IsRun}

abbrev accepted_of : ClientSeen → List Command
accepted_of c = c.accepted

still_once : (asked : Bool) (c : ClientSeen) (still : Bool) (d : ClientSeen) → HasAskedOnce asked c.accepted → IsQuiet asked c still d → HasAskedOnce still d.accepted
still_once asked c still d h q = subst (λ b. HasAskedOnce b d.accepted) (sym q.same) (subst (λ (x : ClientSeen). HasAskedOnce asked x.accepted) (sym q.client) h)

once : (asked heard : Bool) (c : ClientSeen) (still : Bool) (d : ClientSeen) → HasAskedOnce asked c.accepted → AsksOnce asked heard c still d → HasAskedOnce still d.accepted
once true heard c still d h q = still_once true c still d h q
once false false c still d h q = still_once false c still d h q
once false true c true d h q = ap accepted_of q ∙ ap (λ xs. xs ++ Connect ∷ []) h
once false true c false d h q = ap accepted_of q.0 ∙ h

-- a cycle keeps it, with a fault or without one
pub asks_at_most_once : (a b : Asking) → HasAskedOnce a.asked a.client.accepted → Follows a b → HasAskedOnce b.asked b.client.accepted
asks_at_most_once a b h (inl k) = once a.asked b.heard a.client b.asked b.client h k
asks_at_most_once a b h (inr k) = still_once a.asked a.client b.asked b.client h k

-- and so does each of a run
pub runs_ask_once : (a : Asking) (bs : List Asking) → HasAskedOnce a.asked a.client.accepted → IsRun a bs → AllByRecursion (λ b. HasAskedOnce b.asked b.client.accepted) bs
runs_ask_once a [] h r = tt
runs_ask_once a (b ∷ bs) h r = let k = asks_at_most_once a b h r.0 in (k, runs_ask_once b bs k r.1)

-- ---- a run that there is

abbrev stands : TableId → Bool → Bool → List Command → Asking
stands queue asked heard accepted = record { asked = asked; heard = heard; client = record { queue = queue; number = 0; accepted = accepted } }

-- nothing heard; a status message, but 64 commands of another client in the queue; room; another status message; a fault
pub a_run : (queue : TableId) → IsRun (stands queue false false []) (stands queue false false [] ∷ stands queue false true [] ∷ stands queue true true (Connect ∷ []) ∷ stands queue true true (Connect ∷ []) ∷ stands queue true true (Connect ∷ []) ∷ [])
a_run queue = (inl still, (inl (refl, full), (inl refl, (inl still, (inr still, tt)))))
  where
    still : {asked : Bool} {c : ClientSeen} → IsQuiet asked c asked c
    still = record { client = refl; same = refl }

    full : WasFull (record { queue = queue; number = 0; accepted = [] })
    full = record { items = replicate 64 (record { client = 1; command = Close }); full = refl; last = record { before = []; parts = refl } }
