-- Each end that a turn has announced is that of the reading by which the publisher's end is judged.
use Rattle.std.proofs.Common.{◌≡◌, ◌∙◌, ◌⊎◌, inl, inr, ℕ, zero, suc, Bool, true, false, Option, None, Some, if◌then◌else◌, ap, subst, sym}
use Rattle.std.specs.Prelude.{⊤, nat_lt}
use Rattle.options.specs.declared.ends.plans.PublishPlan.{PublishPlan}
use Rattle.peer.specs.declared.farewell.StreamEnd.{StreamEnd}
use Rattle.publisher.specs.Judging.{StaysEnded, stream_end_in}
use Rattle.publisher.specs.Progress.{end_due, is_due_since}
use Rattle.publisher.specs.Turns.{EndsBehind, Going, TurnsMany}
use Rattle.publisher.specs.declared.judging.Judged.{Judged}
use Rattle.publisher.specs.declared.offering.reading.Reading.{Reading}
use Rattle.publisher.specs.declared.sender_thread.ChannelSender.{ChannelSender}

abbrev IsSome : Option StreamEnd → Type 0
IsSome None = ⊥
IsSome (Some end) = ⊤

-- what is due is the end itself
either : (low due : Bool) (end e : StreamEnd) → (if low then None else (if due then Some end else None)) ≡ Some e → ◌≡◌ {A = Option StreamEnd} (Some end) (Some e)
either true due end e h = absurd (subst IsSome (sym h) tt)
either false true end e h = h
either false false end e h = absurd (subst IsSome (sym h) tt)

due_is : (ended : Option ℕ) (o : Option StreamEnd) (at now : ℕ) (e : StreamEnd) → end_due ended o at now ≡ Some e → o ≡ Some e
due_is ended None at now e h = absurd (subst IsSome (sym h) tt)
due_is ended (Some end) at now e h = either (nat_lt at end.position) (is_due_since ended now) end e h

-- a reading that has ended has that end still
stays : (before after : Option Reading) (e : StreamEnd) → StaysEnded before after → stream_end_in before ≡ Some e → stream_end_in after ≡ Some e
stays None after e kept h = absurd (subst IsSome (sym h) tt)
stays (Some reading) after e kept h = ap stream_end_in kept ∙ h

-- one of so many turns announced it
abbrev IsToldIn : {D : Type 0} (p : PublishPlan) (n : ℕ) (first : ChannelSender D) (going : Going) (last : ChannelSender D) → TurnsMany p n first going last → StreamEnd → Type 0
IsToldIn p zero first going last turns e = ⊥
IsToldIn p (suc n) first going last turns e = (turns.3.end ≡ Some e) ⊎ IsToldIn p n first turns.0 turns.1 turns.2 e

told_in : {D : Type 0} (p : PublishPlan) (n : ℕ) (first : ChannelSender D) (going : Going) (last : ChannelSender D) (turns : TurnsMany p n first going last) (e : StreamEnd) → IsToldIn p n first going last turns e → stream_end_in going.reading ≡ Some e
told_in p zero first going last turns e told = absurd told
told_in p (suc n) first going last turns e (inl now) = due_is turns.0.ended (stream_end_in going.reading) turns.3.beginning.agent.core.handler.at turns.3.now e (sym turns.3.due ∙ now)
told_in p (suc n) first going last turns e (inr before) = stays turns.0.reading going.reading e turns.3.stays (told_in p n first turns.0 turns.1 turns.2 e before)

pub told_is_judged : {D : Type 0} (p : PublishPlan) (first last : ChannelSender D) (judged : Judged) (ends : EndsBehind p first last judged) (e : StreamEnd) → IsToldIn p ends.count first ends.going ends.before ends.turns e → stream_end_in judged.reading ≡ Some e
told_is_judged p first last judged ends e told = stays ends.going.reading judged.reading e ends.stays (told_in p ends.count first ends.going ends.before ends.turns e told)
