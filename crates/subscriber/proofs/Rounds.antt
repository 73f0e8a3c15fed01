-- A turn of a subscriber, from its begin to its end, over all sessions.
use Rattle.std.proofs.Common.{◌≡◌, ◌∙◌, ◌<◌, ℕ, List, [], ◌∷◌, map, length, Option, None, Some, inl, inr, ap, sym, subst, arith, length-append}
use Rattle.std.proofs.lemmas.List.{length-map}
use Rattle.std.specs.List.{AllByRecursion, AllZip}
use Rattle.options.specs.declared.ends.plans.SubscribePlan.{SubscribePlan}
use Rattle.peer.specs.Ties.{Listening, Offer}
use Rattle.subscriber.proofs.Each.{zip_length}
use Rattle.subscriber.proofs.Kept.{begun_sized, routed_sized}
use Rattle.subscriber.proofs.Placed.{begun_all, routed_all}
use Rattle.subscriber.specs.Attending.{AnswersTurn}
use Rattle.subscriber.specs.Callers.{AsksCaller}
use Rattle.subscriber.specs.Choosing.{AttendsAll, AttendsOther, ChangesAt, GoesTo}
use Rattle.subscriber.specs.Living.{FollowsAll}
use Rattle.subscriber.specs.Losing.{AsksEach}
use Rattle.subscriber.specs.Receivings.{Receiving, caller_given, offer_given}
use Rattle.subscriber.specs.Sessions.{IsRouted, IsSized, news_told, share_of, turn_begun}
use Rattle.subscriber.specs.Turning.{AttendsOwn}
use Rattle.subscriber.specs.declared.images.session.Session.{Session}
use Rattle.subscriber.specs.declared.listening.setup_offer.SetupOffer.{SetupOffer}
use Rattle.subscriber.specs.declared.subscription.offers.Chosen.{Chosen}
use Rattle.subscriber.specs.declared.subscription.offers.Chosen.TheVariants as chosen

-- ---- the begin

pub read_followed : (plan : SubscribePlan) (a b : Option (List ℕ)) (n now : ℕ) (xs ys zs : List Session) → ys ≡ map (turn_begun now) xs → AllZip IsRouted ys zs → FollowsAll plan a n xs b → FollowsAll plan a n zs b
read_followed plan a b n now xs ys zs begins reads follows = routed_all plan a b n ys zs reads (begun_all plan a b n now xs ys begins follows)

pub read_sized : (now : ℕ) (xs ys zs : List Session) → ys ≡ map (turn_begun now) xs → AllZip IsRouted ys zs → AllByRecursion IsSized xs → AllByRecursion IsSized zs
read_sized now xs ys zs begins reads sized = routed_sized ys zs (begun_sized now xs ys sized begins) reads

pub read_length : (now : ℕ) (xs ys zs : List Session) → ys ≡ map (turn_begun now) xs → AllZip IsRouted ys zs → length zs ≡ length xs
read_length now xs ys zs begins reads = zip_length IsRouted ys zs reads ∙ ap length begins ∙ length-map xs (turn_begun now)

-- ---- what came of SETUPs

changed_some : (place : ℕ) (R : Session → Session → Type 0) (xs ys : List Session) → ChangesAt place R xs ys → 0 < length ys
changed_some place R xs ys h = let size = ap length h.is ∙ length-append h.front (h.behind ∷ h.back) in omega (arith, size)

goes_some : (plan : SubscribePlan) (m : SetupOffer) (moment : ℕ) (c : Chosen) (xs ys : List Session) → GoesTo plan m moment c xs ys → 0 < length ys
goes_some plan m moment (chosen.Own place) xs ys h = changed_some place _ xs ys h
goes_some plan m moment (chosen.Given place) xs ys h = changed_some place _ xs ys h
goes_some plan m moment chosen.Further xs ys h = let size = ap length h.is ∙ length-append xs (h.session ∷ []) in omega (arith, size)
goes_some plan m moment chosen.Nowhere xs ys h = changed_some 0 _ xs ys h

other_some : (plan : SubscribePlan) (moment : ℕ) (offer : Offer) (xs ys : List Session) → AttendsOther plan moment offer xs ys → 0 < length xs → 0 < length ys
other_some plan moment None xs ys h some = subst (λ (zs : List Session). 0 < length zs) (sym h) some
other_some plan moment (Some offer) xs ys (inl h) some = subst (λ (zs : List Session). 0 < length zs) (sym h.1) some
other_some plan moment (Some offer) xs ys (inr h) some = goes_some plan h.0 moment h.2.chosen xs ys h.2.goes

pub attended_some : (plan : SubscribePlan) (moment : ℕ) (offer : Offer) (xs ys : List Session) → AttendsAll plan moment offer xs ys → 0 < length xs → 0 < length ys
attended_some plan moment offer xs ys h some =
    let same = zip_length (λ (j k : Session). AttendsOwn plan (share_of xs j) j k) xs h.middle h.own in
    other_some plan moment offer h.middle ys h.others (omega (arith, same, some))

-- ---- what a turn is answered by

pub turn_answered : (plan : SubscribePlan) (moment : ℕ) (old asked placed called new : List Session) (heard between attended left : Receiving)
    → asked ≡ old → AsksEach plan old heard.socket between.socket → between ≡ record heard { socket = between.socket }
    → AttendsAll plan moment between.offer asked placed → attended ≡ offer_given between
    → AsksCaller plan attended.caller placed attended.socket called left.socket → left ≡ record (caller_given attended) { socket = left.socket }
    → new ≡ map news_told called → AnswersTurn plan moment old heard new left
turn_answered plan moment old asked placed called new heard between attended left same asks kept attends given calls gave told =
    let offer : between.offer ≡ heard.offer = ap (λ (r : Receiving). r.offer) kept in
    let caller : attended.caller ≡ heard.caller = ap (λ (r : Receiving). r.caller) given ∙ ap (λ (r : Receiving). r.caller) kept in
    let socket : attended.socket ≡ between.socket = ap (λ (r : Receiving). r.socket) given in
    let here : AttendsAll plan moment heard.offer asked placed = subst (λ (o : Offer). AttendsAll plan moment o asked placed) offer attends in
    let by : AsksCaller plan heard.caller placed attended.socket called left.socket = subst (λ c. AsksCaller plan c placed attended.socket called left.socket) caller calls in
    let through : attended ≡ offer_given (record heard { socket = between.socket }) = given ∙ ap offer_given kept in
    record {
      asked = between.socket;
      asks = asks;
      placed = placed;
      attends = subst (λ (xs : List Session). AttendsAll plan moment heard.offer xs placed) same here;
      called = called;
      calls = subst (λ (s : Listening). AsksCaller plan heard.caller placed s called left.socket) socket by;
      told = told;
      given = gave ∙ ap (λ (r : Receiving). record (caller_given r) { socket = left.socket }) through;
    }
