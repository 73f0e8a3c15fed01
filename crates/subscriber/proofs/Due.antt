-- Counters that were told were due.
use Rattle.std.proofs.Common.{◌≡◌, ◌∙◌, ◌+◌, ◌-◌, ◌^◌, ℕ, min, Bool, true, false, List, [], ◌∷◌, Option, None, Some, ap, refl, subst}
use Rattle.std.specs.Prelude.{◌↔◌, IsSome, is_some}
use Rattle.options.specs.declared.ends.plans.SubscribePlan.{SubscribePlan}
use Rattle.subscriber.specs.Telling.{AreCounts, TellsCounters, TellsCountersOf}
use Rattle.subscriber.specs.declared.images.session.Session.{Session}
use Rattle.subscriber.specs.declared.reporting.Counts.{Counts}
use Rattle.subscriber.specs.Watches.{IsDue, TellsWhereDue, Timing, told_if}

pub told_due : (plan : SubscribePlan) (written n : ℕ) (s t : Timing) (found : Option ℕ) (told quiet : Type 0) → found ≡ Some n → (IsSome found ↔ IsDue plan s) → t ≡ told_if (is_some found) written s → told → TellsWhereDue plan written s t told quiet
told_due plan written n s t None told quiet is due begins done = absurd (cc)
told_due plan written n s t (Some m) told quiet is due begins done = record { due = λ d. (begins, done); early = λ no. absurd (no (due.0 refl)) }

-- ---- of each session

told_lost : (b : Bool) (written : ℕ) (s t : Timing) → t ≡ told_if b written s → (t.lost ≡ s.lost) × (t.strangers ≡ s.strangers)
told_lost true written s t is = (ap (λ (x : Timing). x.lost) is, ap (λ (x : Timing). x.strangers) is)
told_lost false written s t is = (ap (λ (x : Timing). x.lost) is, ap (λ (x : Timing). x.strangers) is)

counted_so : (j : Session) (s t : Timing) (written more : ℕ) (c : Counts) → t.lost ≡ s.lost → t.strangers ≡ s.strangers → AreCounts j t written more c → AreCounts j s written more c
counted_so j s t written more c lost strangers h = record {
  messages = h.messages;
  since = h.since;
  naks = h.naks;
  lost = h.lost ∙ ap (λ (n : ℕ). min (n + j.duty.device.inner.inner.lost) (2 ^ 64 - 1)) lost;
  strangers = h.strangers ∙ strangers;
  refused = h.refused;
}

counters_so : (js : List Session) (s t : Timing) (written more : ℕ) (a b : Option (List ℕ)) → t.lost ≡ s.lost → t.strangers ≡ s.strangers → TellsCountersOf js t written more a b → TellsCountersOf js s written more a b
counters_so [] s t written more a b lost strangers h = h
counters_so (j ∷ js) s t written more a b lost strangers (between, here, others) = (
  between,
  record { positions = here.positions; stands = here.stands; counts = here.counts; counted = counted_so j s t written more here.counts lost strangers here.counted; told = here.told },
  counters_so js s t written more between b lost strangers others,
)

-- the counters of each that were told behind that are those from before it
pub counters_told : (found : Bool) (js : List Session) (s t : Timing) (written more : ℕ) (a b : Option (List ℕ)) → t ≡ told_if found written s → more ≡ written - s.written → TellsCountersOf js t written more a b → TellsCounters js s written a b
counters_told found js s t written more a b begins since h =
    let same = told_lost found written s t begins in
    subst (λ (n : ℕ). TellsCountersOf js s written n a b) since (counters_so js s t written more a b same.0 same.1 h)
