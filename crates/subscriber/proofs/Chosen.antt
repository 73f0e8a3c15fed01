-- What a subscriber lives through at all of its places where a SETUP would open an image: it goes to one of them, or to a further one.
use Rattle.std.proofs.Common.{◌≡◌, ◌<◌, ◌≤◌, ◌+◌, ℕ, not, List, [], ◌∷◌, ◌++◌, length, Option, None, Some, inl, inr, refl, sym, ap, subst, arith, length-append}
use Rattle.std.proofs.lemmas.List.Filters.{length-filter_both}
use Rattle.std.specs.declared.net.SocketAddr.{SocketAddr}
use Rattle.frames.specs.declared.frame.Setup.{Setup}
use Rattle.options.specs.declared.ends.plans.SubscribePlan.{SubscribePlan}
use Rattle.peer.specs.Ties.{Offer}
use Rattle.subscriber.proofs.Given.{below_more, none_above}
use Rattle.subscriber.proofs.Lived.{follows_more, joined_life, renewed, turned_life, warned_life}
use Rattle.subscriber.proofs.Placed.{attended_all, follows_at, length_front, share_few, share_some}
use Rattle.subscriber.specs.Calls.{IsMeeting}
use Rattle.subscriber.specs.Choosing.{AttendsAll, AttendsOther, ChangesAt, GoesTo, Joins}
use Rattle.subscriber.specs.Living.{FollowsAll, FollowsAt, FollowsEach}
use Rattle.subscriber.specs.Places.{AreBelow, Given, of_place}
use Rattle.subscriber.specs.Sessions.{open_count, share_of}
use Rattle.subscriber.specs.Turning.{Replaces, Turns, Warns}
use Rattle.subscriber.specs.declared.images.session.Session.{Session}
use Rattle.subscriber.specs.declared.listening.setup_offer.SetupOffer.{SetupOffer}
use Rattle.subscriber.specs.declared.subscription.offers.Chosen.{Chosen}
use Rattle.subscriber.specs.declared.subscription.offers.Chosen.TheVariants.{Own, Given as GivenTo, Further, Nowhere}

-- ---- one place

-- where the session at a place goes on as another with what its images gave, all do
pub changes_at : (plan : SubscribePlan) (a b : Option (List ℕ)) (n place : ℕ) (R : Session → Session → Type 0) (xs ys : List Session)
    → (0 < length xs → (at : ℕ) (g : List (List ℕ)) (j k : Session) → R j k → FollowsAt plan (length xs) at j.images j.follower g → FollowsAt plan (length xs) at k.images k.follower g)
    → ChangesAt place R xs ys → FollowsAll plan a n xs b → FollowsAll plan a n ys b
changes_at plan a b n place R xs ys step c h =
    let long : length xs ≡ length (c.front ++ c.before ∷ c.back) = ap length c.was in
    let some : 0 < length xs = omega (arith, long, length_front c.front c.back c.before) in
    subst (λ zs. FollowsAll plan a n zs b) (sym c.is)
    (follows_at plan a b n c.front c.back c.before c.behind
    (λ g f. subst (λ p. FollowsAt plan p (length c.front) c.behind.images c.behind.follower g) long
    (step some (length c.front) g c.before c.behind c.becomes
    (subst (λ p. FollowsAt plan p (length c.front) c.before.images c.before.follower g) (sym long) f)))
    (subst (λ zs. FollowsAll plan a n zs b) c.was h))

-- it turns by a SETUP
pub changed_at : (plan : SubscribePlan) (a b : Option (List ℕ)) (n place : ℕ) (from : SocketAddr) (f : Setup) (m : SetupOffer) (xs ys : List Session)
    → IsMeeting plan from f m → ChangesAt place (λ (j k : Session). Turns plan (share_of xs j) m j k) xs ys → FollowsAll plan a n xs b → FollowsAll plan a n ys b
changed_at plan a b n place from f m xs ys meeting c h =
    changes_at plan a b n place (λ (j k : Session). Turns plan (share_of xs j) m j k) xs ys
    (λ some at g j k turns follows. turned_life plan (length xs) at (share_of xs j) from f m g j k (share_some xs j) (share_few xs j some) meeting turns follows) c h

-- it is replaced
pub replaced_at : (plan : SubscribePlan) (a b : Option (List ℕ)) (n place : ℕ) (from : SocketAddr) (f : Setup) (m : SetupOffer) (xs ys : List Session)
    → IsMeeting plan from f m → ChangesAt place (λ (j k : Session). Replaces plan (share_of xs j) m j k) xs ys → FollowsAll plan a n xs b → FollowsAll plan a n ys b
replaced_at plan a b n place from f m xs ys meeting c h =
    changes_at plan a b n place (λ (j k : Session). Replaces plan (share_of xs j) m j k) xs ys
    (λ some at g j k replaces follows. renewed plan (length xs) at (share_of xs j) from f m g j k (share_some xs j) (share_few xs j some) meeting replaces follows) c h

-- another sender or session is noted
pub warned_at : (plan : SubscribePlan) (a b : Option (List ℕ)) (n place : ℕ) (m : SetupOffer) (xs ys : List Session)
    → ChangesAt place (Warns m) xs ys → FollowsAll plan a n xs b → FollowsAll plan a n ys b
warned_at plan a b n place m xs ys c h =
    changes_at plan a b n place (Warns m) xs ys (λ some at g j k warns follows. warned_life plan (length xs) at m g j k warns follows) c h

-- ---- a further place

pub open_few : (xs : List Session) → open_count xs ≤ length xs
open_few xs = omega (arith, length-filter_both (λ (j : Session). not j.ended) (λ (j : Session). not (not j.ended)) (λ j. refl) xs)

each_further : (plan : SubscribePlan) (few many place at : ℕ) (given : List Given) (xs : List Session) (k : Session) → few ≤ many → at ≡ place + length xs
    → FollowsAt plan many at k.images k.follower (of_place at given)
    → FollowsEach plan few place given xs → FollowsEach plan many place given (xs ++ k ∷ [])
each_further plan few many place at given [] k more is joined h =
    let here : at ≡ place = omega (arith, is) in
    (subst (λ n. FollowsAt plan many n k.images k.follower (of_place n given)) here joined, tt)
each_further plan few many place at given (x ∷ xs) k more is joined h =
    (follows_more plan few many place x.images x.follower (of_place place given) more h.0, each_further plan few many (place + 1) at given xs k more (omega (arith, is)) joined h.1)

pub joined_further : (plan : SubscribePlan) (a b : Option (List ℕ)) (n moment : ℕ) (from : SocketAddr) (f : Setup) (m : SetupOffer) (xs ys : List Session)
    → IsMeeting plan from f m → Joins plan m moment xs ys → FollowsAll plan a n xs b → FollowsAll plan a n ys b
joined_further plan a b n moment from f m xs ys meeting joins h =
    let long : length xs + 1 ≡ length (xs ++ joins.session ∷ []) = omega (arith, length-append xs (joins.session ∷ [])) in
    let few : length xs ≤ length xs + 1 = omega arith in
    let share : open_count xs + 1 ≤ length xs + 1 = omega (arith, open_few xs) in
    let life : FollowsAt plan (length xs + 1) (length xs) joins.session.images joins.session.follower [] =
    joined_life plan (length xs + 1) (length xs) (open_count xs + 1) moment m joins.session (omega arith) share meeting.opens joins.joined in
    let none : of_place (length xs) h.given ≡ [] = none_above (length xs) (length xs) h.given (omega arith) h.known in
    subst (λ zs. FollowsAll plan a n zs b) (sym joins.is) (record {
      given = h.given;
      each = subst (λ p. FollowsEach plan p 0 h.given (xs ++ joins.session ∷ [])) long
          (each_further plan (length xs) (length xs + 1) 0 (length xs) h.given xs joins.session few (omega arith)
          (subst (FollowsAt plan (length xs + 1) (length xs) joins.session.images joins.session.follower) (sym none) life) h.each);
      known = subst (λ p. AreBelow p h.given) long (below_more (length xs) (length xs + 1) h.given few h.known);
      counted = h.counted;
      written = h.written;
    })

-- ---- all

goes_to : (plan : SubscribePlan) (a b : Option (List ℕ)) (n moment : ℕ) (from : SocketAddr) (f : Setup) (m : SetupOffer) (chosen : Chosen) (xs ys : List Session)
    → IsMeeting plan from f m → GoesTo plan m moment chosen xs ys → FollowsAll plan a n xs b → FollowsAll plan a n ys b
goes_to plan a b n moment from f m (Own place) xs ys meeting goes h = changed_at plan a b n place from f m xs ys meeting goes h
goes_to plan a b n moment from f m (GivenTo place) xs ys meeting goes h = replaced_at plan a b n place from f m xs ys meeting goes h
goes_to plan a b n moment from f m Further xs ys meeting goes h = joined_further plan a b n moment from f m xs ys meeting goes h
goes_to plan a b n moment from f m Nowhere xs ys meeting goes h = warned_at plan a b n 0 m xs ys goes h

pub attended_other : (plan : SubscribePlan) (a b : Option (List ℕ)) (n moment : ℕ) (offer : Offer) (xs ys : List Session) → AttendsOther plan moment offer xs ys → FollowsAll plan a n xs b → FollowsAll plan a n ys b
attended_other plan a b n moment None xs ys same h = subst (λ zs. FollowsAll plan a n zs b) (sym same) h
attended_other plan a b n moment (Some offer) xs ys (inl p) h = subst (λ zs. FollowsAll plan a n zs b) (sym p.1) h
attended_other plan a b n moment (Some offer) xs ys (inr p) h = goes_to plan a b n moment offer.0 offer.1 p.0 p.2.chosen xs ys p.1 p.2.goes h

-- each session's own, and then the first that is kept of others
pub attended_everything : (plan : SubscribePlan) (a b : Option (List ℕ)) (n moment : ℕ) (offer : Offer) (xs ys : List Session) → AttendsAll plan moment offer xs ys → FollowsAll plan a n xs b → FollowsAll plan a n ys b
attended_everything plan a b n moment offer xs ys attends h =
    attended_other plan a b n moment offer attends.middle ys attends.others (attended_all plan a b n xs attends.middle attends.own h)
