-- What holds of each session between two turns, and in a turn of one that was looked at.
use Rattle.std.proofs.Common.{◌≡◌, ◌∙◌, ◌⊎◌, ℕ, IsTrue, List, [], ◌∷◌, ◌++◌, map, Option, None, Some, inl, inr, refl, sym, ap, subst}
use Rattle.std.specs.List.{AllByRecursion, AllZip}
use Rattle.std.specs.declared.net.SocketAddr.{SocketAddr}
use Rattle.frames.specs.declared.frame.Setup.{Setup}
use Rattle.options.specs.declared.ends.plans.SubscribePlan.{SubscribePlan}
use Rattle.peer.specs.Ties.{Offer}
use Rattle.subscriber.proofs.Answered.{attended_answered, attended_once, has_judged, replaced_within, same_answered, same_within, turn_ahead, turn_judged, turned_answered, turned_within}
use Rattle.subscriber.proofs.Each.{all_append, zip_facts}
use Rattle.subscriber.specs.Answering.{HasAnswered}
use Rattle.subscriber.specs.Calls.{IsJoinedBy}
use Rattle.subscriber.specs.Choosing.{AttendsAll, AttendsOther, ChangesAt, GoesTo}
use Rattle.subscriber.specs.Endings.{HasStood}
use Rattle.subscriber.specs.Losing.{with_device}
use Rattle.subscriber.specs.Offers.{peer_of, setup_taken}
use Rattle.subscriber.specs.Sessions.{HasLooked, IsBegun, IsRouted, IsSized, news_told, share_of, turn_begun}
use Rattle.subscriber.specs.Turning.{AttendsOwn, Considers, ConsidersOwn, Passes, Renews, Replaces, Resumes, Turns, Warns}
use Rattle.subscriber.specs.Watches.{AttendsEach, IsWithinTurn, JudgesEach, looking}
use Rattle.subscriber.specs.declared.images.session.Session.{Session}
use Rattle.subscriber.specs.declared.listening.setup_offer.SetupOffer.{SetupOffer}
use Rattle.subscriber.specs.declared.subscription.offers.Chosen.{Chosen}
use Rattle.subscriber.specs.declared.subscription.offers.Chosen.TheVariants.{Own, Given as GivenTo, Further, Nowhere}

-- between two turns: where its stream has ended it has answered that, and each turn is attended and judged
pub record IsKept (j : Session) : Type 0 where
  pub answered : IsTrue j.ended → HasAnswered j.follower.subscriber
  pub attended : j.watch.turns ≡ j.watch.attended
  pub judged : JudgesEach j.watch

-- in a turn in which it was looked at: this turn isn't attended yet, and where it stands it has noted
pub record IsLookedAt (k : Session) : Type 0 where
  pub answered : IsTrue k.ended → HasAnswered k.follower.subscriber
  pub ahead : AttendsEach k.watch
  pub judged : JudgesEach k.watch
  pub stood : HasStood k

-- a turn of one that was kept began at this moment
pub record IsTurned (now : ℕ) (k : Session) : Type 0 where
  pub before : Session
  pub kept : IsKept before
  pub ended : k.ended ≡ before.ended
  pub follower : k.follower ≡ before.follower
  pub looks : k.watch ≡ looking before.watch now

-- ---- lists

pub all_mapped : {X : Type 0} (P Q : X → Type 0) (f : X → X) → ((x : X) → P x → Q (f x)) → (xs : List X) → AllByRecursion P xs → AllByRecursion Q (map f xs)
all_mapped P Q f step [] all = tt
all_mapped P Q f step (x ∷ xs) all = (step x all.0, all_mapped P Q f step xs all.1)

pub all_weaker : {X : Type 0} (P Q : X → Type 0) → ((x : X) → P x → Q x) → (xs : List X) → AllByRecursion P xs → AllByRecursion Q xs
all_weaker P Q step [] all = tt
all_weaker P Q step (x ∷ xs) all = (step x all.0, all_weaker P Q step xs all.1)

pub all_changed : {X : Type 0} (P : X → Type 0) (front back : List X) (j k : X) → (P j → P k) → AllByRecursion P (front ++ j ∷ back) → AllByRecursion P (front ++ k ∷ back)
all_changed P [] back j k step all = (step all.0, all.1)
all_changed P (x ∷ front) back j k step all = (all.0, all_changed P front back j k step all.1)

-- a fact of each stays one where one place's session becomes another
pub all_at_place : (P : Session → Type 0) (place : ℕ) (R : Session → Session → Type 0) (xs ys : List Session) → ((j k : Session) → R j k → P j → P k) → ChangesAt place R xs ys → AllByRecursion P xs → AllByRecursion P ys
all_at_place P place R xs ys step c all =
    subst (AllByRecursion P) (sym c.is) (all_changed P c.front c.back c.before c.behind (step c.before c.behind c.becomes) (subst (AllByRecursion P) c.was all))

-- a fact of each that a SETUP leaves, and that one that joins has
module _ (P : Session → Type 0)
    (turned : (plan : SubscribePlan) (share : ℕ) (m : SetupOffer) (j k : Session) → Turns plan share m j k → P j → P k)
    (replaced : (plan : SubscribePlan) (share : ℕ) (m : SetupOffer) (j k : Session) → Replaces plan share m j k → P j → P k)
    (warned : (m : SetupOffer) (j k : Session) → Warns m j k → P j → P k)
    (joined : (plan : SubscribePlan) (place share moment : ℕ) (m : SetupOffer) (j : Session) → IsJoinedBy plan place share moment m j → P j) where
  all_gone : (plan : SubscribePlan) (moment : ℕ) (m : SetupOffer) (chosen : Chosen) (xs ys : List Session) → GoesTo plan m moment chosen xs ys → AllByRecursion P xs → AllByRecursion P ys
  all_gone plan moment m (Own place) xs ys goes all =
      all_at_place P place (λ (j k : Session). Turns plan (share_of xs j) m j k) xs ys (λ j k. turned plan (share_of xs j) m j k) goes all
  all_gone plan moment m (GivenTo place) xs ys goes all =
      all_at_place P place (λ (j k : Session). Replaces plan (share_of xs j) m j k) xs ys (λ j k. replaced plan (share_of xs j) m j k) goes all
  all_gone plan moment m Further xs ys goes all =
      subst (AllByRecursion P) (sym goes.is) (all_append P xs goes.session all (joined plan _ _ moment m goes.session goes.joined))
  all_gone plan moment m Nowhere xs ys goes all = all_at_place P 0 (Warns m) xs ys (warned m) goes all

  all_attended : (plan : SubscribePlan) (moment : ℕ) (offer : Offer) (xs ys : List Session) → AttendsOther plan moment offer xs ys → AllByRecursion P xs → AllByRecursion P ys
  all_attended plan moment None xs ys same all = subst (AllByRecursion P) (sym same) all
  all_attended plan moment (Some offer) xs ys (inl p) all = subst (AllByRecursion P) (sym p.1) all
  all_attended plan moment (Some offer) xs ys (inr p) all = all_gone plan moment p.0 p.2.chosen xs ys p.2.goes all

-- ---- where it begins

pub begun_kept : (j : Session) → IsBegun j → IsKept j
begun_kept j h = record {
  answered = λ so. let not = h.going in cc;
  attended = ap (λ s. s.turns) h.fresh ∙ sym (ap (λ s. s.attended) h.fresh);
  judged = ap (λ s. s.turns) h.fresh ∙ sym (ap (λ s. s.judged) h.fresh);
}

pub all_begun_kept : (xs : List Session) → AllByRecursion IsBegun xs → AllByRecursion IsKept xs
all_begun_kept xs all = all_weaker IsBegun IsKept begun_kept xs all

pub joined_kept : (plan : SubscribePlan) (place share moment : ℕ) (m : SetupOffer) (j : Session) → IsJoinedBy plan place share moment m j → IsKept j
joined_kept plan place share moment m j h = record {
  answered = λ so. let not = h.ended in cc;
  attended = ap (λ s. s.turns) h.watch ∙ sym (ap (λ s. s.attended) h.watch);
  judged = ap (λ s. s.turns) h.watch ∙ sym (ap (λ s. s.judged) h.watch);
}

-- ---- a turn, up to where each was looked at

pub begun_turned : (now : ℕ) (j : Session) → IsKept j → IsTurned now (turn_begun now j)
begun_turned now j h = record { before = j; kept = h; ended = refl; follower = refl; looks = refl }

pub routed_turned : (now : ℕ) (j k : Session) → IsRouted j k → IsTurned now j → IsTurned now k
routed_turned now j k routed h = record {
  before = h.before;
  kept = h.kept;
  ended = ap (λ (x : Session). x.ended) routed.1 ∙ h.ended;
  follower = ap (λ (x : Session). x.follower) routed.1 ∙ h.follower;
  looks = ap (λ (x : Session). x.watch) routed.1 ∙ h.looks;
}

pub turned_looked : (now : ℕ) (j k : Session) → HasLooked j k → IsTurned now j → IsLookedAt k
turned_looked now j k looked h =
    let once = has_judged looked.before looked.behind j k looked.judges in
    let answered : IsTrue k.ended → HasAnswered k.follower.subscriber = looked.answered (same_answered h.before j h.ended (ap (λ f. f.subscriber) h.follower) h.kept.answered) in
    record {
      answered = answered;
      ahead = turn_ahead h.before.watch j.watch k.watch now h.kept.attended h.looks once;
      judged = turn_judged h.before.watch j.watch k.watch now h.kept.judged h.looks once;
      stood = record { stands = looked.stands; answered = λ all. answered (looked.still all) };
    }

pub looked_kept : (now : ℕ) (j k1 k2 k3 : Session) → IsKept j → k1 ≡ turn_begun now j → IsRouted k1 k2 → HasLooked k2 k3 → IsLookedAt k3
looked_kept now j k1 k2 k3 h begun routed looked =
    turned_looked now k2 k3 looked (routed_turned now k1 k2 routed (subst (IsTurned now) (sym begun) (begun_turned now j h)))

pub all_begun_turned : (now : ℕ) (xs ys : List Session) → AllByRecursion IsKept xs → ys ≡ map (turn_begun now) xs → AllByRecursion (IsTurned now) ys
all_begun_turned now xs ys all same = subst (AllByRecursion (IsTurned now)) (sym same) (all_mapped IsKept (IsTurned now) (turn_begun now) (begun_turned now) xs all)

pub all_routed_turned : (now : ℕ) (xs ys : List Session) → AllByRecursion (IsTurned now) xs → AllZip IsRouted xs ys → AllByRecursion (IsTurned now) ys
all_routed_turned now xs ys all routed = zip_facts IsRouted (IsTurned now) (IsTurned now) (routed_turned now) xs ys routed all

pub all_turned_looked : (now : ℕ) (xs ys : List Session) → AllByRecursion (IsTurned now) xs → AllZip HasLooked xs ys → AllByRecursion IsLookedAt ys
all_turned_looked now xs ys all looked = zip_facts HasLooked (IsTurned now) IsLookedAt (turned_looked now) xs ys looked all

pub all_looked_kept : (now : ℕ) (xs ys zs ws : List Session) → AllByRecursion IsKept xs → ys ≡ map (turn_begun now) xs → AllZip IsRouted ys zs → AllZip HasLooked zs ws → AllByRecursion IsLookedAt ws
all_looked_kept now xs ys zs ws all begun routed looked =
    all_turned_looked now zs ws (all_routed_turned now ys zs (all_begun_turned now xs ys all begun) routed) looked

pub looked_stood : (xs : List Session) → AllByRecursion IsLookedAt xs → AllByRecursion HasStood xs
looked_stood xs all = all_weaker IsLookedAt HasStood (λ j h. h.stood) xs all

pub looked_ahead : (xs : List Session) → AllByRecursion IsLookedAt xs → AllByRecursion (λ (j : Session). AttendsEach j.watch) xs
looked_ahead xs all = all_weaker IsLookedAt (λ (j : Session). AttendsEach j.watch) (λ j h. h.ahead) xs all

pub looked_judged : (xs : List Session) → AllByRecursion IsLookedAt xs → AllByRecursion (λ (j : Session). JudgesEach j.watch) xs
looked_judged xs all = all_weaker IsLookedAt (λ (j : Session). JudgesEach j.watch) (λ j h. h.judged) xs all

-- ---- what comes of SETUPs

pub own_kept : (plan : SubscribePlan) (share : ℕ) (j k : Session) → AttendsOwn plan share j k → IsLookedAt j → IsKept k
own_kept plan share j k own h =
    let once = attended_once plan share j k own in
    record {
      answered = attended_answered plan share j k own h.answered;
      attended = once.0 ∙ h.ahead ∙ sym once.1;
      judged = once.0 ∙ h.judged ∙ sym once.2;
    }

pub within_kept : (j k : Session) → IsWithinTurn j.watch k.watch → (IsTrue k.ended → HasAnswered k.follower.subscriber) → IsKept j → IsKept k
within_kept j k w answered h = record { answered = answered; attended = w.turns ∙ h.attended ∙ sym w.attended; judged = w.turns ∙ h.judged ∙ sym w.judged }

pub turned_kept : (plan : SubscribePlan) (share : ℕ) (m : SetupOffer) (j k : Session) → Turns plan share m j k → IsKept j → IsKept k
turned_kept plan share m j k turns h = within_kept j k (turned_within plan share m j k turns) (turned_answered plan share m j k turns h.answered) h

pub replaced_kept : (plan : SubscribePlan) (share : ℕ) (m : SetupOffer) (j k : Session) → Replaces plan share m j k → IsKept j → IsKept k
replaced_kept plan share m j k p h = within_kept j k (replaced_within plan share m j k p) (λ so. let not = p.renewed.ended in cc) h

pub warned_kept : (m : SetupOffer) (j k : Session) → Warns m j k → IsKept j → IsKept k
warned_kept m j k w h =
    within_kept j k (same_within j.watch k.watch (ap (λ (x : Session). x.watch) w.kept))
    (same_answered j k (ap (λ (x : Session). x.ended) w.kept) (ap (λ (x : Session). x.follower.subscriber) w.kept) h.answered) h

pub attended_kept : (plan : SubscribePlan) (moment : ℕ) (offer : Offer) (xs ys : List Session) → AllByRecursion IsLookedAt xs → AttendsAll plan moment offer xs ys → AllByRecursion IsKept ys
attended_kept plan moment offer xs ys all attends =
    all_attended IsKept turned_kept replaced_kept warned_kept joined_kept plan moment offer attends.middle ys attends.others
    (zip_facts (λ (j k : Session). AttendsOwn plan (share_of xs j) j k) IsLookedAt IsKept (λ j k. own_kept plan (share_of xs j) j k) xs attends.middle attends.own all)

-- ---- what is told

pub told_kept : (xs ys : List Session) → AllByRecursion IsKept xs → ys ≡ map news_told xs → AllByRecursion IsKept ys
told_kept xs ys all same =
    subst (AllByRecursion IsKept) (sym same)
    (all_mapped IsKept IsKept news_told (λ j h. record { answered = h.answered; attended = h.attended; judged = h.judged }) xs all)

-- ---- the size of the devices

pub opened_sized : (xs : List Session) → AllByRecursion IsBegun xs → AllByRecursion IsSized xs
opened_sized xs all = all_weaker IsBegun IsSized (λ j h. h.sized) xs all

pub begun_sized : (now : ℕ) (xs ys : List Session) → AllByRecursion IsSized xs → ys ≡ map (turn_begun now) xs → AllByRecursion IsSized ys
begun_sized now xs ys all same = subst (AllByRecursion IsSized) (sym same) (all_mapped IsSized IsSized (turn_begun now) (λ j h. h) xs all)

same_sized : (j k : Session) → k.duty.mtu ≡ j.duty.mtu → IsSized j → IsSized k
same_sized j k same h = same ∙ h

pub routed_sized : (xs ys : List Session) → AllByRecursion IsSized xs → AllZip IsRouted xs ys → AllByRecursion IsSized ys
routed_sized xs ys all routed = zip_facts IsRouted IsSized IsSized (λ j k r h. same_sized j k (ap (λ (x : Session). x.duty.mtu) r.1) h) xs ys routed all

replaced_mtu : (plan : SubscribePlan) (share : ℕ) (m : SetupOffer) (j k : Session) → Replaces plan share m j k → k.duty.mtu ≡ j.duty.mtu
replaced_mtu plan share m j k p = ap (λ d. d.mtu) p.renewed.device

warned_mtu : (m : SetupOffer) (j k : Session) → Warns m j k → k.duty.mtu ≡ j.duty.mtu
warned_mtu m j k w = ap (λ (x : Session). x.duty.mtu) w.kept

mtu_by_turn : (plan : SubscribePlan) (share : ℕ) (m : SetupOffer) (rebuilt : ℕ) (j k : Session) → Passes m rebuilt j k ⊎ Resumes m rebuilt j k ⊎ Renews plan share m rebuilt j k → k.duty.mtu ≡ j.duty.mtu
mtu_by_turn plan share m rebuilt j k (inl p) = warned_mtu m j k p.warns
mtu_by_turn plan share m rebuilt j k (inr (inl p)) = ap (λ (x : Session). x.duty.mtu) p.tied
mtu_by_turn plan share m rebuilt j k (inr (inr p)) = replaced_mtu plan share m j k p.replaced

turned_mtu : (plan : SubscribePlan) (share : ℕ) (m : SetupOffer) (j k : Session) → Turns plan share m j k → k.duty.mtu ≡ j.duty.mtu
turned_mtu plan share m j k p = mtu_by_turn plan share m p.0 j k p.2

considered_mtu : (plan : SubscribePlan) (share : ℕ) (from : SocketAddr) (f : Setup) (j k : Session) → Considers plan share from f j k → k.duty.mtu ≡ j.duty.mtu
considered_mtu plan share from f j k (inl p) = ap (λ (x : Session). x.duty.mtu) p.1
considered_mtu plan share from f j k (inr p) = turned_mtu plan share p.0 j k p.2

own_mtu : (plan : SubscribePlan) (share : ℕ) (own : Option Setup) (j k : Session) → ConsidersOwn plan share own j k → k.duty.mtu ≡ j.duty.mtu
own_mtu plan share None j k p = ap (λ (x : Session). x.duty.mtu) p
own_mtu plan share (Some f) j k (inl p) = considered_mtu plan share (peer_of j.duty.device) f j k p.1
own_mtu plan share (Some f) j k (inr p) = ap (λ (x : Session). x.duty.mtu) p.1

pub own_sized : (plan : SubscribePlan) (share : ℕ) (j k : Session) → AttendsOwn plan share j k → IsSized j → IsSized k
own_sized plan share j k p h =
    ap (λ (x : Session). x.duty.mtu) p.2 ∙ own_mtu plan share j.duty.device.notes.setup (with_device j (setup_taken j.duty.device)) p.0 p.1 ∙ h

joined_sized : (plan : SubscribePlan) (place share moment : ℕ) (m : SetupOffer) (j : Session) → IsJoinedBy plan place share moment m j → IsSized j
joined_sized plan place share moment m j h = ap (λ d. d.mtu) h.duty

pub attended_sized : (plan : SubscribePlan) (moment : ℕ) (offer : Offer) (xs ys : List Session) → AllByRecursion IsSized xs → AttendsAll plan moment offer xs ys → AllByRecursion IsSized ys
attended_sized plan moment offer xs ys all attends =
    all_attended IsSized
    (λ plan share m j k p h. same_sized j k (turned_mtu plan share m j k p) h) (λ plan share m j k p h. same_sized j k (replaced_mtu plan share m j k p) h)
    (λ m j k w h. same_sized j k (warned_mtu m j k w) h) joined_sized plan moment offer attends.middle ys attends.others
    (zip_facts (λ (j k : Session). AttendsOwn plan (share_of xs j) j k) IsSized IsSized (λ j k. own_sized plan (share_of xs j) j k) xs attends.middle attends.own all)

pub told_sized : (xs ys : List Session) → AllByRecursion IsSized xs → ys ≡ map news_told xs → AllByRecursion IsSized ys
told_sized xs ys all same = subst (AllByRecursion IsSized) (sym same) (all_mapped IsSized IsSized news_told (λ j h. h) xs all)
