-- No two places get the same session.
use Rattle.std.proofs.Common.{◌≡◌, ◌⊎◌, ◌∙◌, ◌<◌, ℕ, ℤ, List, [], ◌∷◌, ◌++◌, length, map, get_or, set, Option, None, Some, inl, inr, refl, sym, ap, arith, subst}
use Rattle.std.specs.List.{AllZip}
use Rattle.std.specs.declared.net.SocketAddr.{SocketAddr}
use Rattle.frames.specs.declared.frame.Setup.{Setup}
use Rattle.options.specs.declared.ends.plans.SubscribePlan.{SubscribePlan}
use Rattle.peer.specs.Ties.{Offer}
use Rattle.subscriber.proofs.Called.{IsNoted, called_noted}
use Rattle.subscriber.proofs.Each.{all_append, zip_map}
use Rattle.subscriber.specs.Apart.{AreApart}
use Rattle.subscriber.specs.Attending.{AnswersTurn}
use Rattle.subscriber.specs.Choosing.{AttendsAll, AttendsOther, ChangesAt, GoesTo, IsChosen, IsFirst, IsItsOwn, IsNone, IsPlaced}
use Rattle.subscriber.specs.Losing.{with_device}
use Rattle.subscriber.specs.Offers.{peer_of, setup_taken}
use Rattle.subscriber.specs.Receivings.{Receiving}
use Rattle.subscriber.specs.Sessions.{HasLooked, IsRouted, news_told, share_of, turn_begun}
use Rattle.subscriber.specs.Turning.{AttendsOwn, Considers, ConsidersOwn, Passes, Renews, Replaces, Resumes, Turns}
use Rattle.subscriber.specs.declared.images.session.Session.{Session}
use Rattle.subscriber.specs.declared.listening.setup_offer.ImageParams.{ImageParams}
use Rattle.subscriber.specs.declared.listening.setup_offer.SetupOffer.{SetupOffer}
use Rattle.subscriber.specs.declared.subscription.offers.Chosen.{Chosen}
use Rattle.subscriber.specs.declared.subscription.offers.Chosen.TheVariants as chosen

-- it follows the same session
abbrev pub KeepsSession : Session → Session → Type 0
KeepsSession j k = k.follower.opening.session ≡ j.follower.opening.session

-- ---- where each follows the session that it followed

none_kept : (session : ℤ) (xs ys : List Session) → AllZip KeepsSession xs ys → IsNone (IsItsOwn session) xs → IsNone (IsItsOwn session) ys
none_kept session [] [] zip none = tt
none_kept session [] (y ∷ ys) zip none = absurd zip
none_kept session (x ∷ xs) [] zip none = absurd zip
none_kept session (x ∷ xs) (y ∷ ys) zip none = (λ own. none.0 (sym zip.0 ∙ own), none_kept session xs ys zip.1 none.1)

pub kept_apart : (xs ys : List Session) → AllZip KeepsSession xs ys → AreApart xs → AreApart ys
kept_apart [] [] zip apart = tt
kept_apart [] (y ∷ ys) zip apart = absurd zip
kept_apart (x ∷ xs) [] zip apart = absurd zip
kept_apart (x ∷ xs) (y ∷ ys) zip apart = (
  subst (λ (session : ℤ). IsNone (IsItsOwn session) ys) (sym zip.0) (none_kept x.follower.opening.session xs ys zip.1 apart.0),
  kept_apart xs ys zip.1 apart.1,
)

zip_weaker : {X : Type 0} (R S : X → X → Type 0) → ((x y : X) → R x y → S x y) → (xs ys : List X) → AllZip R xs ys → AllZip S xs ys
zip_weaker R S f [] [] zip = tt
zip_weaker R S f [] (y ∷ ys) zip = absurd zip
zip_weaker R S f (x ∷ xs) [] zip = absurd zip
zip_weaker R S f (x ∷ xs) (y ∷ ys) zip = (f x y zip.0, zip_weaker R S f xs ys zip.1)

-- where each becomes another one so, by which its session stays
pub zip_apart : (R : Session → Session → Type 0) → ((j k : Session) → R j k → KeepsSession j k) → (xs ys : List Session) → AllZip R xs ys → AreApart xs → AreApart ys
zip_apart R keeps xs ys zip apart = kept_apart xs ys (zip_weaker R KeepsSession keeps xs ys zip) apart

pub map_apart : (f : Session → Session) → ((j : Session) → KeepsSession j (f j)) → (xs ys : List Session) → ys ≡ map f xs → AreApart xs → AreApart ys
map_apart f keeps xs ys same apart = subst AreApart (sym same) (kept_apart xs (map f xs) (zip_map KeepsSession f keeps xs) apart)

-- ---- at one place

still : (xs : List Session) → AllZip KeepsSession xs xs
still [] = tt
still (x ∷ xs) = (refl, still xs)

one_kept : (front back : List Session) (j k : Session) → KeepsSession j k → AllZip KeepsSession (front ++ j ∷ back) (front ++ k ∷ back)
one_kept [] back j k keeps = (keeps, still back)
one_kept (x ∷ front) back j k keeps = (refl, one_kept front back j k keeps)

-- the session at a place goes on
changed_apart : (place : ℕ) (R : Session → Session → Type 0) (xs ys : List Session) → (c : ChangesAt place R xs ys) → KeepsSession c.before c.behind → AreApart xs → AreApart ys
changed_apart place R xs ys c keeps apart =
    subst AreApart (sym c.is) (kept_apart (c.front ++ c.before ∷ c.back) (c.front ++ c.behind ∷ c.back) (one_kept c.front c.back c.before c.behind keeps) (subst AreApart c.was apart))

none_given : (session : ℤ) (front back : List Session) (j k : Session) → ¬ (k.follower.opening.session ≡ session) → IsNone (IsItsOwn session) (front ++ j ∷ back) → IsNone (IsItsOwn session) (front ++ k ∷ back)
none_given session [] back j k other none = (other, none.1)
none_given session (x ∷ front) back j k other none = (none.0, none_given session front back j k other none.1)

none_behind : (session : ℤ) (front back : List Session) (j : Session) → IsNone (IsItsOwn session) (front ++ j ∷ back) → IsNone (IsItsOwn session) back
none_behind session [] back j none = none.1
none_behind session (x ∷ front) back j none = none_behind session front back j none.1

given_within : (session : ℤ) (front back : List Session) (j k : Session) → k.follower.opening.session ≡ session → IsNone (IsItsOwn session) (front ++ j ∷ back) → AreApart (front ++ j ∷ back) → AreApart (front ++ k ∷ back)
given_within session [] back j k is none apart = (subst (λ (n : ℤ). IsNone (IsItsOwn n) back) (sym is) none.1, apart.1)
given_within session (x ∷ front) back j k is none apart = (
  none_given x.follower.opening.session front back j k (λ same. none.0 (sym same ∙ is)) apart.0,
  given_within session front back j k is none.1 apart.1,
)

-- it's given to one that nobody follows
given_apart : (session : ℤ) (place : ℕ) (R : Session → Session → Type 0) (xs ys : List Session) → (c : ChangesAt place R xs ys) → c.behind.follower.opening.session ≡ session → IsNone (IsItsOwn session) xs → AreApart xs → AreApart ys
given_apart session place R xs ys c is none apart =
    subst AreApart (sym c.is) (given_within session c.front c.back c.before c.behind is (subst (IsNone (IsItsOwn session)) c.was none) (subst AreApart c.was apart))

-- a further place
further_apart : (xs : List Session) (k : Session) → IsNone (IsItsOwn k.follower.opening.session) xs → AreApart xs → AreApart (xs ++ k ∷ [])
further_apart [] k none apart = (tt, tt)
further_apart (x ∷ xs) k none apart = (
  all_append (λ (j : Session). ¬ (j.follower.opening.session ≡ x.follower.opening.session)) xs k apart.0 (λ same. none.0 (sym same)),
  further_apart xs k none.1 apart.1,
)

-- the first one goes on
pub set_apart : (xs : List Session) (w x : Session) → 0 < length xs → w ≡ get_or xs 0 w → KeepsSession w x → AreApart xs → AreApart (set xs 0 x)
set_apart [] w x some is keeps apart = absurd (omega (arith, some))
set_apart (y ∷ ys) w x some is keeps apart = (
  subst (λ (session : ℤ). IsNone (IsItsOwn session) ys) (sym (keeps ∙ ap (λ (j : Session). j.follower.opening.session) is)) apart.0,
  apart.1,
)

-- ---- what a SETUP makes of one

same_here : (front back others more : List Session) (j k : Session) → front ++ j ∷ back ≡ others ++ k ∷ more → length front ≡ length others → j ≡ k
same_here [] back [] more j k same long = cc
same_here [] back (y ∷ others) more j k same long = absurd (omega (arith, long))
same_here (x ∷ front) back [] more j k same long = absurd (omega (arith, long))
same_here (x ∷ front) back (y ∷ others) more j k same long =
    let rest : front ++ j ∷ back ≡ others ++ k ∷ more = cc in
    same_here front back others more j k rest (omega (arith, long))

replaced_session : (plan : SubscribePlan) (share : ℕ) (m : SetupOffer) (j k : Session) → Replaces plan share m j k → k.follower.opening.session ≡ m.opening.session
replaced_session plan share m j k p = ap (λ (o : ImageParams). o.session) p.renewed.fresh.own_opening

by_turn : (plan : SubscribePlan) (share : ℕ) (m : SetupOffer) (rebuilt : ℕ) (j k : Session) → m.opening.session ≡ j.follower.opening.session → Passes m rebuilt j k ⊎ Resumes m rebuilt j k ⊎ Renews plan share m rebuilt j k → KeepsSession j k
by_turn plan share m rebuilt j k own (inl p) = ap (λ (x : Session). x.follower.opening.session) p.warns.kept
by_turn plan share m rebuilt j k own (inr (inl p)) = ap (λ (x : Session). x.follower.opening.session) p.tied
by_turn plan share m rebuilt j k own (inr (inr p)) = replaced_session plan share m j k p.replaced ∙ own

turned_session : (plan : SubscribePlan) (share : ℕ) (m : SetupOffer) (j k : Session) → m.opening.session ≡ j.follower.opening.session → Turns plan share m j k → KeepsSession j k
turned_session plan share m j k own p = by_turn plan share m p.0 j k own p.2

considered_session : (plan : SubscribePlan) (share : ℕ) (from : SocketAddr) (f : Setup) (j k : Session) → f.session ≡ j.follower.opening.session → Considers plan share from f j k → KeepsSession j k
considered_session plan share from f j k own (inl p) = ap (λ (x : Session). x.follower.opening.session) p.1
considered_session plan share from f j k own (inr p) = turned_session plan share p.0 j k (p.1.opens.session ∙ ap (λ (s : Setup). s.session) p.1.told ∙ own) p.2

own_session : (plan : SubscribePlan) (share : ℕ) (setup : Option Setup) (j k : Session) → ConsidersOwn plan share setup j k → KeepsSession j k
own_session plan share None j k p = ap (λ (x : Session). x.follower.opening.session) p
own_session plan share (Some f) j k (inl p) = considered_session plan share (peer_of j.duty.device) f j k p.0 p.1
own_session plan share (Some f) j k (inr p) = ap (λ (x : Session). x.follower.opening.session) p.1

-- its own makes it none of another session
pub attended_session : (plan : SubscribePlan) (share : ℕ) (j k : Session) → AttendsOwn plan share j k → KeepsSession j k
attended_session plan share j k p =
    ap (λ (x : Session). x.follower.opening.session) p.2 ∙ own_session plan share j.duty.device.notes.setup (with_device j (setup_taken j.duty.device)) p.0 p.1

pub own_apart : (plan : SubscribePlan) (xs ys : List Session) → AllZip (λ (j k : Session). AttendsOwn plan (share_of xs j) j k) xs ys → AreApart xs → AreApart ys
own_apart plan xs ys zip apart = zip_apart (λ (j k : Session). AttendsOwn plan (share_of xs j) j k) (λ j k own. attended_session plan (share_of xs j) j k own) xs ys zip apart

-- ---- the first that is kept of others

at_its_own : (session : ℤ) (place : ℕ) (R : Session → Session → Type 0) (xs ys : List Session) → IsFirst (IsItsOwn session) xs place → (c : ChangesAt place R xs ys) → c.before.follower.opening.session ≡ session
at_its_own session place R xs ys first c =
    ap (λ (x : Session). x.follower.opening.session) (same_here c.front c.back first.front first.back c.before first.here (sym c.was ∙ first.parts) (sym c.at ∙ first.at)) ∙ first.is

placed_so : (plan : SubscribePlan) (m : SetupOffer) (moment : ℕ) (c : Chosen) (xs ys : List Session) → IsChosen plan m.opening.session xs c → GoesTo plan m moment c xs ys → AreApart xs → AreApart ys
placed_so plan m moment (chosen.Own place) xs ys is goes apart =
    changed_apart place _ xs ys goes (turned_session plan (share_of xs goes.before) m goes.before goes.behind (sym (at_its_own m.opening.session place _ xs ys is goes)) goes.becomes) apart
placed_so plan m moment (chosen.Given place) xs ys is goes apart =
    given_apart m.opening.session place _ xs ys goes (replaced_session plan (share_of xs goes.before) m goes.before goes.behind goes.becomes) is.0 apart
placed_so plan m moment chosen.Further xs ys is goes apart =
    subst AreApart (sym goes.is) (further_apart xs goes.session (subst (λ (session : ℤ). IsNone (IsItsOwn session) xs) (sym (ap (λ (o : ImageParams). o.session) goes.joined.fresh.own_opening)) is.0) apart)
placed_so plan m moment chosen.Nowhere xs ys is goes apart = changed_apart 0 _ xs ys goes (ap (λ (x : Session). x.follower.opening.session) goes.becomes.kept) apart

pub placed_apart : (plan : SubscribePlan) (m : SetupOffer) (moment : ℕ) (xs ys : List Session) → IsPlaced plan m moment xs ys → AreApart xs → AreApart ys
placed_apart plan m moment xs ys p apart = placed_so plan m moment p.chosen xs ys p.is p.goes apart

other_apart : (plan : SubscribePlan) (moment : ℕ) (offer : Offer) (xs ys : List Session) → AttendsOther plan moment offer xs ys → AreApart xs → AreApart ys
other_apart plan moment None xs ys same apart = subst AreApart (sym same) apart
other_apart plan moment (Some offer) xs ys (inl p) apart = subst AreApart (sym p.1) apart
other_apart plan moment (Some offer) xs ys (inr p) apart = placed_apart plan p.0 moment xs ys p.2 apart

pub attended_apart : (plan : SubscribePlan) (moment : ℕ) (offer : Offer) (xs ys : List Session) → AttendsAll plan moment offer xs ys → AreApart xs → AreApart ys
attended_apart plan moment offer xs ys attends apart = other_apart plan moment offer attends.middle ys attends.others (own_apart plan xs attends.middle attends.own apart)

-- ---- a turn

noted_apart : (xs ys : List Session) → AllZip IsNoted xs ys → AreApart xs → AreApart ys
noted_apart xs ys zip apart = zip_apart IsNoted (λ j k noted. ap (λ (x : Session). x.follower.opening.session) noted) xs ys zip apart

pub answered_apart : (plan : SubscribePlan) (moment : ℕ) (old : List Session) (heard : Receiving) (new : List Session) (left : Receiving) → AnswersTurn plan moment old heard new left → AreApart old → AreApart new
answered_apart plan moment old heard new left turn apart =
    map_apart news_told (λ j. refl) turn.called new turn.told
    (noted_apart turn.placed turn.called (called_noted plan heard.caller turn.placed turn.asked turn.called left.socket turn.calls)
    (attended_apart plan moment heard.offer old turn.placed turn.attends apart))

pub looked_apart : (now : ℕ) (xs ys zs ws : List Session) → ys ≡ map (turn_begun now) xs → AllZip IsRouted ys zs → AllZip HasLooked zs ws → AreApart xs → AreApart ws
looked_apart now xs ys zs ws begins reads looked apart =
    zip_apart HasLooked (λ j k h. h.session) zs ws looked
    (zip_apart IsRouted (λ j k r. ap (λ (x : Session). x.follower.opening.session) r.1) ys zs reads
    (map_apart (turn_begun now) (λ j. refl) xs ys begins apart))
