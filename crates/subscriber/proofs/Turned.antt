-- A turn of the session at a place, among those of all.
use Rattle.std.proofs.Common.{◌≡◌, ◌<◌, ◌≤◌, ℕ, suc, List, length, take, drop, get_or, set, Option, sym, subst}
use Rattle.options.specs.declared.ends.plans.SubscribePlan.{SubscribePlan}
use Rattle.receiver.specs.Subscribing.{Subscribing}
use Rattle.subscriber.proofs.Each.{parted, parted_set}
use Rattle.subscriber.proofs.Placed.{broken_at, looked_at}
use Rattle.subscriber.specs.Breaking.{BreaksActs, BreaksPlaces}
use Rattle.subscriber.specs.Living.{FollowsAll, LivesOn}
use Rattle.subscriber.specs.Places.{most_places}
use Rattle.subscriber.specs.declared.images.session.Session.{Session}

-- it lived on, and what it gave is written
pub looked_on : (plan : SubscribePlan) (a b c : Option (List ℕ)) (n m i : ℕ) (xs : List Session) (d k : Session) → i < length xs → FollowsAll plan a n xs b
    → LivesOn plan.end.form n (get_or xs i d).follower b m k.follower c → k.images ≡ (get_or xs i d).images → FollowsAll plan a m (set xs i k) c
looked_on plan a b c n m i xs d k low follows lives same =
    subst (λ (zs : List Session). FollowsAll plan a m zs c) (sym (parted_set xs i k low))
    (looked_at plan a b c n m (take i xs) (drop (suc i) xs) (get_or xs i d) k (subst (λ (zs : List Session). FollowsAll plan a n zs b) (parted xs i d low) follows) lives same)

-- a fault broke it off
pub broken_on : (plan : SubscribePlan) (a b c : Option (List ℕ)) (n i : ℕ) (xs : List Session) (d : Session) (t : Subscribing) → i < length xs → length xs ≤ most_places plan → FollowsAll plan a n xs b
    → BreaksActs plan.end.form (get_or xs i d).follower.subscriber b t c → BreaksPlaces plan a c
broken_on plan a b c n i xs d t low few follows breaks =
    broken_at plan a b c n (take i xs) (drop (suc i) xs) (get_or xs i d) t (subst (λ (zs : List Session). length zs ≤ most_places plan) (parted xs i d low) few)
    (subst (λ (zs : List Session). FollowsAll plan a n zs b) (parted xs i d low) follows) breaks
