-- What sessions live through to which nothing is polled any more.
use Rattle.std.proofs.Common.{◌≡◌, ◌∙◌, ◌≤◌, ◌+◌, ℕ, List, [], ◌∷◌, refl}
use Rattle.std.specs.List.{AllZip}
use Rattle.subscriber.specs.Answering.{BidsFarewell, TellsPlace}
use Rattle.subscriber.specs.Leavings.{LivesUnpolled}
use Rattle.subscriber.specs.Sessions.{HasLeft}
use Rattle.subscriber.specs.declared.images.session.Session.{Session}
use Rattle.subscriber.proofs.Along.{each_on, each_still}
use Rattle.subscriber.proofs.Leaving.{none_lived_through, stands_still, unpolled_on}

pub has_left : (j k : Session) → LivesUnpolled j.follower.subscriber k.follower.subscriber → k.images ≡ j.images → HasLeft j k
has_left j k lives same = record { unpolled = lives; still = stands_still j.follower.subscriber k.follower.subscriber lives; images = same }

pub left_still : (j : Session) → HasLeft j j
left_still j = has_left j j (none_lived_through j.follower.subscriber) refl

pub left_on : (j k l : Session) → HasLeft j k → HasLeft k l → HasLeft j l
left_on j k l a b = has_left j l (unpolled_on j.follower.subscriber k.follower.subscriber l.follower.subscriber a.unpolled b.unpolled) (b.images ∙ a.images)

pub all_left_still : (js : List Session) → AllZip HasLeft js js
all_left_still js = each_still HasLeft left_still js

pub all_left_on : (js ks ls : List Session) → AllZip HasLeft js ks → AllZip HasLeft ks ls → AllZip HasLeft js ls
all_left_on js ks ls a b = each_on HasLeft left_on js ks ls a b

-- each has told where it stands, at a moment since
abbrev pub ToldAt : ℕ → Session → Session → Type 0
ToldAt at j k = TellsPlace at j.follower.subscriber k.follower.subscriber

abbrev pub BidsIn : ℕ → ℕ → Session → Session → Type 0
BidsIn from to j k = BidsFarewell j.follower.subscriber from k.follower.subscriber to

pub all_bid : (from at to : ℕ) (js ks ls : List Session) → AllZip HasLeft js ks → AllZip (ToldAt at) ks ls → from ≤ at → from + 1000000000 ≤ to → AllZip (BidsIn from to) js ls
all_bid from at to [] [] ls a b since lasts = b
all_bid from at to [] (k ∷ ks) ls a b since lasts = absurd a
all_bid from at to (j ∷ js) [] ls a b since lasts = absurd a
all_bid from at to (j ∷ js) (k ∷ ks) [] a b since lasts = absurd b
all_bid from at to (j ∷ js) (k ∷ ks) (l ∷ ls) a b since lasts =
    (record { middle = k.follower.subscriber; unpolled = a.0.unpolled; at = at; since = since; told = b.0; lasts = lasts }, all_bid from at to js ks ls a.1 b.1 since lasts)
