-- Rows: when a subscriber has all of its stream, has enough, when all of its sessions are done, and how one ends that is quiet.
use Rattle.std.proofs.Common.{◌≡◌, ◌-◌, ◌^◌, ℕ, [], ◌∷◌, subst, Option, None, Some, true, false, inl, inr, refl, arith, lit≤}
use Rattle.options.specs.declared.ends.plans.SubscribePlan.{SubscribePlan}
use Rattle.peer.specs.declared.farewell.StreamEnd.{StreamEnd}
use Rattle.subscriber.specs.Answering.{ahead_of}
use Rattle.subscriber.specs.Watches.{Seen}
use Rattle.subscriber.specs.Endings.{AreDone, HasEnoughOfAll, IsDone, NoneCame}
use Rattle.subscriber.specs.Leavings.{HasEnough, IsEnding, IsQuietEnding}
use Rattle.subscriber.specs.Standing.{HasAll, HasAllUpTo}
use Rattle.subscriber.specs.Turning.{IsRenewed, IsUnheardYet}
use Rattle.subscriber.specs.declared.images.Loss.{Loss}
use Rattle.subscriber.specs.declared.ending.Ending.TheVariants.{Whole, Short, Lost}
use Rattle.subscriber.specs.declared.images.session.Session.{Session}
use Rattle.subscriber.specs.declared.images.session.Stand.{Stand}
use Rattle.subscriber.specs.declared.listening.setup_offer.SetupOffer.{SetupOffer}

-- an end at which both stand
abbrev ends_at : ℕ → Option StreamEnd
ends_at position = Some (record { position = position; broken = false })

all_there : HasAllUpTo (ends_at 96) 96 96
all_there = (lit≤ tt, lit≤ tt)

-- no end was told
untold : (rebuilt place : ℕ) → HasAllUpTo None rebuilt place → ⊥
untold rebuilt place h = h

-- an end below what is rebuilt isn't believed
below_rebuilt : HasAllUpTo (ends_at 64) 96 96 → ⊥
below_rebuilt h = omega (arith, h.0)

-- the consumer isn't there yet
not_there : HasAllUpTo (ends_at 96) 64 64 → ⊥
not_there h = omega (arith, h.1)

-- rebuilt, and not yet polled
not_polled : HasAllUpTo (ends_at 96) 96 64 → ⊥
not_polled h = omega (arith, h.1)

-- one message fewer than were asked for isn't enough, and as many are
one_fewer : (plan : SubscribePlan) (x : Stand) → plan.messages ≡ 3 → plan.once ≡ false → HasEnough plan 2 x → ⊥
one_fewer plan x three once (inl h) = omega (arith, h, three)
one_fewer plan x three once (inr h) = let so = h.0 in cc

as_many : (plan : SubscribePlan) (x : Stand) → plan.messages ≡ 3 → HasEnough plan 3 x
as_many plan x three = inl (omega (arith, three))

-- without an end one that is to end with the stream hasn't enough
unended : (plan : SubscribePlan) (x : Stand) → plan.messages ≡ 3 → x.end ≡ None → HasEnough plan 2 x → ⊥
unended plan x three none (inl h) = omega (arith, h, three)
unended plan x three none (inr h) = subst (λ (e : Option StreamEnd). HasAllUpTo e x.rebuilt x.place) none h.1

-- one alone may have come just now
came_alone : (j : Session) → NoneCame (j ∷ [])
came_alone j = inl refl

-- of two, one that came a nanosecond less than a second ago is waited for, and then none is
just_came : (j k : Session) → k.watch.moment ≡ 3000000000 → k.came ≡ 2000000001 → NoneCame (j ∷ k ∷ []) → ⊥
just_came j k now opened (inl one) = omega (arith, one)
just_came j k now opened (inr all) = omega (arith, all.1.0, now, opened)

came_before : (j k : Session) → j.watch.moment ≡ 3000000000 → j.came ≡ 0 → k.watch.moment ≡ 3000000000 → k.came ≡ 2000000000 → NoneCame (j ∷ k ∷ [])
came_before j k now first then second = inr (omega (arith, now, first), (omega (arith, then, second), tt))

-- the first may have come last
first_came : (j k : Session) → j.watch.moment ≡ 3000000000 → j.came ≡ 2500000000 → NoneCame (j ∷ k ∷ []) → ⊥
first_came j k now opened (inl one) = omega (arith, one)
first_came j k now opened (inr all) = omega (arith, all.0, now, opened)

-- one that took the place of an unheard one just now isn't waited for, and one that took a heard one's is
flooded : (plan : SubscribePlan) (share : ℕ) (m : SetupOffer) (loss : Option Loss) (j k l : Session) → j.watch.moment ≡ 3000000000 → j.came ≡ 0
    → k.came ≡ 0 → IsUnheardYet k → IsRenewed plan share m loss k l → l.watch.moment ≡ 3000000000 → NoneCame (j ∷ l ∷ [])
flooded plan share m loss j k l now first second unheard renewed then =
    let came = renewed.came.unheard unheard in
    inr (omega (arith, now, first), (omega (arith, then, second, came), tt))

followed_another : (plan : SubscribePlan) (share : ℕ) (m : SetupOffer) (loss : Option Loss) (j k l : Session) → k.watch.moment ≡ 3000000000
    → (IsUnheardYet k → ⊥) → IsRenewed plan share m loss k l → l.watch.moment ≡ 3000000000 → NoneCame (j ∷ l ∷ []) → ⊥
followed_another plan share m loss j k l now heard renewed then (inl one) = omega (arith, one)
followed_another plan share m loss j k l now heard renewed then (inr all) =
    let came = renewed.came.heard heard in
    omega (arith, all.1.0, now, then, came)

-- without a session none is done
nothing_done : AreDone [] → ⊥
nothing_done h = h.some tt

-- one alone that has all of its stream is done, and one that was never heard isn't
done_alone : (j : Session) → HasAll j.stood → AreDone (j ∷ [])
done_alone j all = record { each = (inl all, tt); some = λ none. none.0 all; none = inl refl }

unheard_alone : (j : Session) → (HasAll j.stood → ⊥) → AreDone (j ∷ []) → ⊥
unheard_alone j lacks h = h.some (lacks, tt)

-- beside one that has all of its stream, one that was never heard is done with, and one that was heard isn't while it lacks something
beside_unheard : (j k : Session) → HasAll j.stood → IsUnheardYet k → NoneCame (j ∷ k ∷ []) → AreDone (j ∷ k ∷ [])
beside_unheard j k all unheard none = record { each = (inl all, (inr unheard, tt)); some = λ nobody. nobody.0 all; none = none }

beside_heard : (j k : Session) → (HasAll k.stood → ⊥) → (IsUnheardYet k → ⊥) → AreDone (j ∷ k ∷ []) → ⊥
beside_heard j k lacks heard h = by_case h.each.1.0
  where
    by_case : IsDone k → ⊥
    by_case (inl all) = lacks all
    by_case (inr unheard) = heard unheard

-- where all have all of theirs, one that came just now is waited for
done_and_came : (j k : Session) → k.watch.moment ≡ 3000000000 → k.came ≡ 2000000001 → AreDone (j ∷ k ∷ []) → ⊥
done_and_came j k now opened h = just_came j k now opened h.none

-- they have enough by their messages, however many lack something
many_messages : (plan : SubscribePlan) (j k : Session) → plan.messages ≡ 3 → HasEnoughOfAll plan 3 (j ∷ k ∷ [])
many_messages plan j k three = inl (omega (arith, three))

-- quiet, one that was to end with the stream is never whole, and another never short
never_whole : (plan : SubscribePlan) → plan.once ≡ true → IsQuietEnding plan Whole → ⊥
never_whole plan once h = cc

never_short : (plan : SubscribePlan) → plan.once ≡ false → IsQuietEnding plan Short → ⊥
never_short plan once h = cc

-- one that has lost an image is never whole, and another never lost
lost_never_whole : (plan : SubscribePlan) (written : ℕ) (s : Seen) (x : Stand) → IsEnding plan written s x true (Some Whole) → ⊥
lost_never_whole plan written s x h = let not = h.0 in cc

never_lost : (plan : SubscribePlan) (written : ℕ) (s : Seen) (x : Stand) → IsEnding plan written s x false (Some Lost) → ⊥
never_lost plan written s x h = let not = h.0 in cc

-- without an image nothing is lost
none_lost : (plan : SubscribePlan) → IsQuietEnding plan Lost → ⊥
none_lost plan h = h

-- 200 ms
ahead : ahead_of 1000000000 ≡ 1200000000
ahead = refl

latest : ahead_of (2 ^ 64 - 1) ≡ 2 ^ 64 - 1
latest = refl
