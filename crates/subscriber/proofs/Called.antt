-- What becomes of the sessions where the sender of a frame of a session that nobody follows is asked for a SETUP: nothing, but that it is noted
-- of whom it was told that there is no place.
use Rattle.std.proofs.Common.{◌≡◌, ◌∙◌, ◌<◌, ℕ, ℤ, suc, List, [], ◌∷◌, ◌++◌, length, take, drop, get_or, Option, None, Some, inl, inr, refl, sym, ap, arith, subst}
use Rattle.std.proofs.lemmas.List.{length-take}
use Rattle.std.specs.List.{AllByRecursion, AllZip}
use Rattle.std.specs.declared.net.SocketAddr.{SocketAddr}
use Rattle.frames.specs.declared.frame.Header.{Header}
use Rattle.options.specs.declared.ends.plans.SubscribePlan.{SubscribePlan}
use Rattle.peer.specs.Ties.{Listening}
use Rattle.subscriber.proofs.Each.{parted, zip_facts, zip_length}
use Rattle.subscriber.proofs.Kept.{IsKept, within_kept}
use Rattle.subscriber.proofs.Answered.{same_answered, same_within}
use Rattle.subscriber.proofs.Lived.{same_life}
use Rattle.subscriber.proofs.Placed.{follows_zip}
use Rattle.subscriber.specs.Callers.{AsksAt, AsksCaller, AsksOne, HasNext, Names}
use Rattle.subscriber.specs.Choosing.{ChangesAt}
use Rattle.subscriber.specs.Images.{next}
use Rattle.subscriber.specs.Living.{FollowsAll}
use Rattle.subscriber.specs.Receivings.{Caller}
use Rattle.subscriber.specs.Sessions.{IsSized}
use Rattle.subscriber.specs.declared.images.session.Session.{Session}
use Rattle.subscriber.specs.declared.subscription.offers.Chosen.{Chosen}
use Rattle.subscriber.specs.declared.subscription.offers.Chosen.TheVariants.{Own, Given, Further, Nowhere}

-- it is as it was, but for whom it was told of
abbrev pub IsNoted : Session → Session → Type 0
IsNoted j k = k ≡ record j { unheard = k.unheard }

none_noted : (xs : List Session) → AllZip IsNoted xs xs
none_noted [] = tt
none_noted (x ∷ xs) = (refl, none_noted xs)

same_noted : (xs ys : List Session) → ys ≡ xs → AllZip IsNoted xs ys
same_noted xs ys same = subst (AllZip IsNoted xs) (sym same) (none_noted xs)

one_noted : (front back : List Session) (j k : Session) → IsNoted j k → AllZip IsNoted (front ++ j ∷ back) (front ++ k ∷ back)
one_noted [] back j k noted = (noted, none_noted back)
one_noted (x ∷ front) back j k noted = (refl, one_noted front back j k noted)

named_noted : (session : ℤ) (xs ys : List Session) → ChangesAt 0 (Names session) xs ys → AllZip IsNoted xs ys
named_noted session xs ys c =
    subst (λ (zs : List Session). AllZip IsNoted zs ys) (sym c.was)
    (subst (AllZip IsNoted (c.front ++ c.before ∷ c.back)) (sym c.is) (one_noted c.front c.back c.before c.behind c.becomes.kept))

at_noted : (plan : SubscribePlan) (from : SocketAddr) (h : Header) (chosen : Chosen) (xs : List Session) (k : Listening) (ys : List Session) (l : Listening) → AsksAt plan from h chosen xs k ys l → AllZip IsNoted xs ys
at_noted plan from h (Own place) xs k ys l asks = same_noted xs ys asks.0
at_noted plan from h (Given place) xs k ys l asks = same_noted xs ys asks.0
at_noted plan from h Further xs k ys l asks = same_noted xs ys asks.0
at_noted plan from h Nowhere xs k ys l asks = named_noted h.session xs ys asks.0

one_asked : (plan : SubscribePlan) (from : SocketAddr) (h : Header) (xs : List Session) (k : Listening) (ys : List Session) (l : Listening) → AsksOne plan from h xs k ys l → AllZip IsNoted xs ys
one_asked plan from h xs k ys l (inl asks) = at_noted plan from h asks.1.chosen xs k ys l asks.1.asks
one_asked plan from h xs k ys l (inr other) = same_noted xs ys other.1

pub called_noted : (plan : SubscribePlan) (caller : Option Caller) (xs : List Session) (k : Listening) (ys : List Session) (l : Listening) → AsksCaller plan caller xs k ys l → AllZip IsNoted xs ys
called_noted plan None xs k ys l asks = same_noted xs ys asks.0
called_noted plan (Some c) xs k ys l asks = one_asked plan c.0 c.1 xs k ys l asks

pub called_length : (plan : SubscribePlan) (caller : Option Caller) (xs : List Session) (k : Listening) (ys : List Session) (l : Listening) → AsksCaller plan caller xs k ys l → length ys ≡ length xs
called_length plan caller xs k ys l asks = zip_length IsNoted xs ys (called_noted plan caller xs k ys l asks)

-- ---- the next image at a place

pub next_at : (xs : List Session) (i number : ℕ) (w : Session) → i < length xs → w ≡ get_or xs i w → number ≡ next w.images.number → HasNext xs i number
next_at xs i number w less is counts = record {
  front = take i xs;
  here = w;
  back = drop (suc i) xs;
  parts = parted xs i w less ∙ ap (λ (y : Session). take i xs ++ y ∷ drop (suc i) xs) (sym is);
  at = let long = length-take i xs in omega (arith, long, less);
  is = counts;
}

-- ---- what stays so

pub noted_followed : (plan : SubscribePlan) (a b : Option (List ℕ)) (n : ℕ) (xs ys : List Session) → AllZip IsNoted xs ys → FollowsAll plan a n xs b → FollowsAll plan a n ys b
noted_followed plan a b n xs ys zip h =
    follows_zip plan a b n xs ys IsNoted (λ places place g j k noted f. same_life plan places place g j k (ap (λ (x : Session). x.images) noted) (ap (λ (x : Session). x.follower) noted) f) zip h

noted_kept : (j k : Session) → IsNoted j k → IsKept j → IsKept k
noted_kept j k noted h =
    within_kept j k (same_within j.watch k.watch (ap (λ (x : Session). x.watch) noted))
    (same_answered j k (ap (λ (x : Session). x.ended) noted) (ap (λ (x : Session). x.follower.subscriber) noted) h.answered) h

pub all_noted_kept : (xs ys : List Session) → AllZip IsNoted xs ys → AllByRecursion IsKept xs → AllByRecursion IsKept ys
all_noted_kept xs ys zip all = zip_facts IsNoted IsKept IsKept noted_kept xs ys zip all

pub all_noted_sized : (xs ys : List Session) → AllZip IsNoted xs ys → AllByRecursion IsSized xs → AllByRecursion IsSized ys
all_noted_sized xs ys zip all = zip_facts IsNoted IsSized IsSized (λ j k noted h. ap (λ (x : Session). x.duty.mtu) noted ∙ h) xs ys zip all
