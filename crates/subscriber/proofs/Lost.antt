-- When an image is newly taken for lost.
use Rattle.std.proofs.Common.{◌≡◌, ◌≢◌, ◌⊎◌, ◌∙◌, ◌-◌, ℕ, Bool, true, false, if◌then◌else◌, IsTrue, inl, inr, refl, sym, ap, subst, arith}
use Rattle.std.specs.Prelude.{nat_lt}
use Rattle.subscriber.specs.Losing.{IsLeft, LacksWhereLost}
use Rattle.subscriber.specs.Standing.{RebuiltTo, lacks}
use Rattle.subscriber.specs.Watches.{IsBehind, Seen, noting}
use Rattle.subscriber.specs.declared.images.session.Session.{Session}
use Rattle.subscriber.proofs.Looked.{same_or_not}
use Rattle.subscriber.specs.Leavings.{NotesHeard}

-- something that was lacking came at the moment, or nothing was lacking
abbrev IsKept : Seen → Type 0
IsKept s = s.kept ≡ s.moment

kept_heard : (s : Seen) (b : Bool) → IsKept s → (if b then s.kept else s.moment) ≡ s.moment
kept_heard s true k = k
kept_heard s false k = refl

-- that stays so in a turn
still_kept : (before after : ℕ) (s t : Seen) → NotesHeard before after s t → IsKept s → IsKept t
still_kept before after s t h k = by_case (same_or_not after before)
  where
    by_case : (after ≡ before) ⊎ (after ≢ before) → IsKept t
    by_case (inl same) = subst IsKept (sym (h.still same)) k
    by_case (inr other) = subst IsKept (sym (h.heard other)) (kept_heard s (nat_lt (s.moment - s.heard) 1000000000) k)

-- then it isn't behind
not_behind : (s : Seen) → IsKept s → IsBehind s → ⊥
not_behind s k b = let long = b.long in omega (arith, long, k)

kept_in : (s t : Seen) → t ≡ noting true s → IsKept t
kept_in s t is = subst IsKept (sym is) refl

pub lacking : LacksWhereLost
lacking s t old new h lost fresh = by_loss (h.judges.0 lost)
  where
    behind : IsTrue h.answered.lost ⊎ IsLeft h.answered → IsBehind h.answered.watch
    behind (inl was) = absurd (fresh (subst IsTrue (ap (λ (j : Session). j.lost) h.same ∙ ap (λ (j : Session). j.lost) h.cycle.same) was))
    behind (inr left) = left.behind

    never : IsBehind h.answered.watch → IsKept h.cycled.watch → ⊥
    never b k = not_behind h.answered.watch (still_kept _ _ h.cycled.watch h.answered.watch h.hears k) b

    by_lack : (b : Bool) → lacks h.cycled.opening.geometry h.cycled.duty.device.notes.last h.cycle.keeps.0 ≡ b → IsBehind h.answered.watch → IsTrue (lacks h.cycled.opening.geometry h.cycled.duty.device.notes.last h.cycle.keeps.0)
    by_lack true is b = is
    by_lack false is b = absurd (never b (kept_in h.cycle.heard h.cycled.watch (h.cycle.keeps.1.whole (λ so. let not = is in cc))))

    by_place : IsBehind h.answered.watch → (h.cycle.keeps.0 ≡ h.cycle.before) ⊎ (h.cycle.keeps.0 ≢ h.cycle.before) → RebuiltTo h.cycled.follower.subscriber h.cycle.before × IsTrue (lacks h.cycled.opening.geometry h.cycled.duty.device.notes.last h.cycle.before)
    by_place b (inl same) = (
      subst (RebuiltTo h.cycled.follower.subscriber) same h.cycle.keeps.1.stands,
      subst (λ (n : ℕ). IsTrue (lacks h.cycled.opening.geometry h.cycled.duty.device.notes.last n)) same (by_lack _ refl b),
    )
    by_place b (inr other) = absurd (never b (kept_in h.cycle.heard h.cycled.watch (h.cycle.keeps.1.moved other)))

    by_loss : IsTrue h.answered.lost ⊎ IsLeft h.answered → RebuiltTo h.cycled.follower.subscriber h.cycle.before × IsTrue (lacks h.cycled.opening.geometry h.cycled.duty.device.notes.last h.cycle.before)
    by_loss x = by_place (behind x) (same_or_not h.cycle.keeps.0 h.cycle.before)
