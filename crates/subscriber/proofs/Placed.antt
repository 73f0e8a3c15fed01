-- What a subscriber lives through at all of its places: from what comes to pass at one, or at each, to all that is written.
use Rattle.std.proofs.Common.{◌≡◌, ◌≢◌, ◌∙◌, ◌<◌, ◌≤◌, ◌+◌, ℕ, suc, Bool, true, false, List, [], ◌∷◌, ◌++◌, length, map, Option, Some, Result, Ok, Err, OnErr, refl, sym, ap, subst, arith, append_assoc, append-nil, length-append}
use Rattle.std.specs.Io.KnownBytes.{Appends}
use Rattle.std.specs.List.{AllByRecursion, AllZip}
use Rattle.std.proofs.KnownBytes.{Appends-nil, Appends-trans}
use Rattle.messages.specs.Forms.{spelling}
use Rattle.options.specs.declared.ends.plans.SubscribePlan.{SubscribePlan}
use Rattle.receiver.specs.Lives.{Act, Lives, given_in}
use Rattle.receiver.specs.Subscribing.{Subscribing}
use Rattle.subscriber.proofs.Given.{below_at, below_on, given_on, length-given_at, length-messages_of, messages_at, messages_more, of_place_beside, of_place_more}
use Rattle.subscriber.proofs.Lived.{attended_life, follows_lives, follows_on, joined_life, life_on, same_life, spelled_on, told_end, told_life}
use Rattle.subscriber.proofs.Told.{none_told_behind, told_behind, told_first}
use Rattle.subscriber.specs.Apart.{AreApart}
use Rattle.subscriber.specs.Breaking.{BreaksActs, BreaksPlaces, LosesOne, ToldEach, is_ticked, told_in, told_through}
use Rattle.subscriber.specs.Calls.{IsJoined}
use Rattle.subscriber.specs.Endings.{EndsEach, EndsWithSessions, HasStood, IsEndingOfAll}
use Rattle.subscriber.specs.Living.{FollowsAll, FollowsAt, FollowsEach, Life, LivesEach, LivesOn, Writes, WritesPlaces, given_through}
use Rattle.subscriber.specs.Places.{AreBelow, Given, given_at, messages_of, most_places, of_place}
use Rattle.subscriber.specs.Sessions.{IsRouted, news_told, share_of, turn_begun}
use Rattle.subscriber.specs.Offers.{news_taken}
use Rattle.subscriber.specs.Turning.{AttendsOwn}
use Rattle.subscriber.specs.declared.ending.Subscribed.{Subscribed}
use Rattle.subscriber.specs.declared.fault.SubscribeFault.{SubscribeFault}
use Rattle.subscriber.specs.declared.images.Images.{Images}
use Rattle.subscriber.specs.declared.images.follower.Follower.{Follower}
use Rattle.subscriber.specs.declared.images.session.Session.{Session}

-- ---- the first image of all

pub joined_all : (plan : SubscribePlan) (a : Option (List ℕ)) (moment : ℕ) (j : Session) → IsJoined plan 0 1 moment j → FollowsAll plan a 0 (j ∷ []) a
joined_all plan a moment j h = record {
  given = [];
  each = (joined_life plan 1 0 1 moment h.meeting j (omega arith) (omega arith) h.opens h.joined, tt);
  known = tt;
  counted = refl;
  written = Appends-nil a;
}

-- ---- at each place

pub zip_length : {X Y : Type 0} (R : X → Y → Type 0) (xs : List X) (ys : List Y) → AllZip R xs ys → length ys ≡ length xs
zip_length R [] [] h = refl
zip_length R [] (y ∷ ys) h = absurd h
zip_length R (x ∷ xs) [] h = absurd h
zip_length R (x ∷ xs) (y ∷ ys) h = ap suc (zip_length R xs ys h.1)

pub map_zip : (f : Session → Session) (xs ys : List Session) → ys ≡ map f xs → AllZip (λ (j k : Session). k ≡ f j) xs ys
map_zip f xs ys same = subst (AllZip (λ (j k : Session). k ≡ f j) xs) (sym same) (mapped xs)
  where
    mapped : (zs : List Session) → AllZip (λ (j k : Session). k ≡ f j) zs (map f zs)
    mapped [] = tt
    mapped (z ∷ zs) = (refl, mapped zs)

each_zip : (plan : SubscribePlan) (places place : ℕ) (given : List Given) (R : Session → Session → Type 0)
    → ((at : ℕ) (g : List (List ℕ)) (j k : Session) → R j k → FollowsAt plan places at j.images j.follower g → FollowsAt plan places at k.images k.follower g)
    → (xs ys : List Session) → AllZip R xs ys → FollowsEach plan places place given xs → FollowsEach plan places place given ys
each_zip plan places place given R step [] [] zip h = tt
each_zip plan places place given R step [] (y ∷ ys) zip h = absurd zip
each_zip plan places place given R step (x ∷ xs) [] zip h = absurd zip
each_zip plan places place given R step (x ∷ xs) (y ∷ ys) zip h = (step place (of_place place given) x y zip.0 h.0, each_zip plan places (place + 1) given R step xs ys zip.1 h.1)

-- where each session goes on as another with what its images gave, all do
pub follows_among : (plan : SubscribePlan) (a b : Option (List ℕ)) (n : ℕ) (xs ys : List Session) (R : Session → Session → Type 0)
    → ((place : ℕ) (g : List (List ℕ)) (j k : Session) → R j k → FollowsAt plan (length xs) place j.images j.follower g → FollowsAt plan (length xs) place k.images k.follower g)
    → AllZip R xs ys → FollowsAll plan a n xs b → FollowsAll plan a n ys b
follows_among plan a b n xs ys R step zip h =
    let long : length xs ≡ length ys = sym (zip_length R xs ys zip) in
    record {
      given = h.given;
      each = subst (λ places. FollowsEach plan places 0 h.given ys) long (each_zip plan (length xs) 0 h.given R step xs ys zip h.each);
      known = subst (λ places. AreBelow places h.given) long h.known;
      counted = h.counted;
      written = h.written;
    }

pub follows_zip : (plan : SubscribePlan) (a b : Option (List ℕ)) (n : ℕ) (xs ys : List Session) (R : Session → Session → Type 0)
    → ((places place : ℕ) (g : List (List ℕ)) (j k : Session) → R j k → FollowsAt plan places place j.images j.follower g → FollowsAt plan places place k.images k.follower g)
    → AllZip R xs ys → FollowsAll plan a n xs b → FollowsAll plan a n ys b
follows_zip plan a b n xs ys R step zip h = follows_among plan a b n xs ys R (step (length xs)) zip h

-- the share of one of some sessions is at least one and at most as many as they are
pub share_some : (xs : List Session) (j : Session) → 1 ≤ share_of xs j
share_some xs j = omega arith

pub share_few : (xs : List Session) (j : Session) → 0 < length xs → share_of xs j ≤ length xs
share_few xs j some = omega (arith, some)

-- what came of its peer's own SETUP, of each
pub attended_all : (plan : SubscribePlan) (a b : Option (List ℕ)) (n : ℕ) (xs ys : List Session) → AllZip (λ (j k : Session). AttendsOwn plan (share_of xs j) j k) xs ys → FollowsAll plan a n xs b → FollowsAll plan a n ys b
attended_all plan a b n [] [] zip h = h
attended_all plan a b n [] (y ∷ ys) zip h = absurd zip
attended_all plan a b n (x ∷ xs) [] zip h = absurd zip
attended_all plan a b n (x ∷ xs) (y ∷ ys) zip h =
    follows_among plan a b n (x ∷ xs) (y ∷ ys) (λ (j k : Session). AttendsOwn plan (share_of (x ∷ xs) j) j k)
    (λ place g j k own f. attended_life plan (length (x ∷ xs)) place (share_of (x ∷ xs) j) g j k (share_some (x ∷ xs) j) (share_few (x ∷ xs) j (omega arith)) own f)
    zip h

-- the device of each became another
pub routed_all : (plan : SubscribePlan) (a b : Option (List ℕ)) (n : ℕ) (xs ys : List Session) → AllZip IsRouted xs ys → FollowsAll plan a n xs b → FollowsAll plan a n ys b
routed_all plan a b n xs ys zip h = follows_zip plan a b n xs ys IsRouted (λ places place g j k routed f. told_life plan places place g j k routed.0 routed.1 f) zip h

-- what was new of the status messages of each was told
pub told_all : (plan : SubscribePlan) (a b : Option (List ℕ)) (n : ℕ) (xs ys : List Session) → ys ≡ map news_told xs → FollowsAll plan a n xs b → FollowsAll plan a n ys b
told_all plan a b n xs ys same h =
    follows_zip plan a b n xs ys (λ (j k : Session). k ≡ news_told j) (λ places place g j k told f. told_life plan places place g j k (news_taken j.duty.device) told f) (map_zip news_told xs ys same) h

-- a turn of each began
pub begun_all : (plan : SubscribePlan) (a b : Option (List ℕ)) (n now : ℕ) (xs ys : List Session) → ys ≡ map (turn_begun now) xs → FollowsAll plan a n xs b → FollowsAll plan a n ys b
begun_all plan a b n now xs ys same h =
    follows_zip plan a b n xs ys (λ (j k : Session). k ≡ turn_begun now j)
    (λ places place g j k begun f. same_life plan places place g j k (ap (λ (x : Session). x.images) begun) (ap (λ (x : Session). x.follower) begun) f) (map_zip (turn_begun now) xs ys same) h

-- ---- at one place

pub length_front : (front back : List Session) (j : Session) → length front < length (front ++ j ∷ back)
length_front front back j = omega (arith, length-append front (j ∷ back))

pub length_other : (front back : List Session) (j k : Session) → length (front ++ j ∷ back) ≡ length (front ++ k ∷ back)
length_other front back j k = length-append front (j ∷ back) ∙ sym (length-append front (k ∷ back))

-- behind that place nothing else became of what was given
each_behind : (plan : SubscribePlan) (places place at : ℕ) (given more : List Given) → ((other : ℕ) → other ≢ at → of_place other more ≡ of_place other given) → (xs : List Session) → at < place → FollowsEach plan places place given xs → FollowsEach plan places place more xs
each_behind plan places place at given more same [] behind h = tt
each_behind plan places place at given more same (x ∷ xs) behind h =
    (subst (FollowsAt plan places place x.images x.follower) (sym (same place (λ is. omega (arith, is, behind)))) h.0, each_behind plan places (place + 1) at given more same xs (omega (arith, behind)) h.1)

-- what becomes of one place becomes of all
pub each_at : (plan : SubscribePlan) (places place at : ℕ) (given more : List Given) (front back : List Session) (j k : Session) → at ≡ place + length front
    → ((other : ℕ) → other ≢ at → of_place other more ≡ of_place other given)
    → (FollowsAt plan places at j.images j.follower (of_place at given) → FollowsAt plan places at k.images k.follower (of_place at more))
    → FollowsEach plan places place given (front ++ j ∷ back) → FollowsEach plan places place more (front ++ k ∷ back)
each_at plan places place at given more [] back j k is same step h =
    let here : at ≡ place = omega (arith, is) in (
      subst (λ n. FollowsAt plan places n k.images k.follower (of_place n more)) here (step (subst (λ n. FollowsAt plan places n j.images j.follower (of_place n given)) (sym here) h.0)),
      each_behind plan places (place + 1) at given more same back (omega (arith, is)) h.1,
    )
each_at plan places place at given more (x ∷ front) back j k is same step h = (
  subst (FollowsAt plan places place x.images x.follower) (sym (same place (λ so. omega (arith, so, is)))) h.0,
  each_at plan places (place + 1) at given more front back j k (omega (arith, is)) same step h.1,
)

-- what the session at a place gave more is behind all that was given
pub looked_at : (plan : SubscribePlan) (a b c : Option (List ℕ)) (n m : ℕ) (front back : List Session) (j k : Session) → FollowsAll plan a n (front ++ j ∷ back) b → LivesOn plan.end.form n j.follower b m k.follower c → k.images ≡ j.images → FollowsAll plan a m (front ++ k ∷ back) c
looked_at plan a b c n m front back j k h w same =
    let at : ℕ = length front in
    let messages : List (List ℕ) = given_in w.acts.acts in
    let more : List Given = h.given ++ given_at at messages in
    let places : ℕ = length (front ++ j ∷ back) in
    let long : length (front ++ j ∷ back) ≡ length (front ++ k ∷ back) = length_other front back j k in
    record {
      given = more;
      each = subst (λ p. FollowsEach plan p 0 more (front ++ k ∷ back)) long
          (each_at plan places 0 at h.given more front back j k (omega arith) (λ other not. of_place_beside other at h.given messages not)
          (λ f. subst (FollowsAt plan places at k.images k.follower) (sym (of_place_more at h.given messages))
          (subst (λ (i : Images). FollowsAt plan places at i k.follower (of_place at h.given ++ messages)) (sym same)
          (follows_on plan places at j.images j.follower k.follower w.acts.acts (of_place at h.given) f w.acts.lived w.notes)))
          h.each);
      known = subst (λ p. AreBelow p more) long (below_on places h.given (given_at at messages) h.known (below_at places at messages (length_front front back j)));
      counted = omega (arith, h.counted, w.acts.counted, length-append h.given (given_at at messages), length-given_at at messages);
      written = subst (Appends a c) (sym (ap (spelling plan.end.form) (messages_more at h.given messages) ∙ spelled_on plan.end.form (messages_of h.given) messages)) (Appends-trans _ _ _ _ _ h.written w.acts.written);
    }

-- the session at a place goes on as another with what its images gave
pub follows_at : (plan : SubscribePlan) (a b : Option (List ℕ)) (n : ℕ) (front back : List Session) (j k : Session)
    → ((g : List (List ℕ)) → FollowsAt plan (length (front ++ j ∷ back)) (length front) j.images j.follower g → FollowsAt plan (length (front ++ j ∷ back)) (length front) k.images k.follower g)
    → FollowsAll plan a n (front ++ j ∷ back) b → FollowsAll plan a n (front ++ k ∷ back) b
follows_at plan a b n front back j k step h =
    let long : length (front ++ j ∷ back) ≡ length (front ++ k ∷ back) = length_other front back j k in
    record {
      given = h.given;
      each = subst (λ p. FollowsEach plan p 0 h.given (front ++ k ∷ back)) long
          (each_at plan (length (front ++ j ∷ back)) 0 (length front) h.given h.given front back j k (omega arith) (λ other not. refl) (step (of_place (length front) h.given)) h.each);
      known = subst (λ p. AreBelow p h.given) long h.known;
      counted = h.counted;
      written = h.written;
    }

-- ---- the whole

-- the lives at each place
lives_at : (plan : SubscribePlan) (places place : ℕ) (given : List Given) (xs : List Session) → FollowsEach plan places place given xs → List (List Life)
lives_at plan places place given [] h = []
lives_at plan places place given (x ∷ xs) h = (h.0.life.newest ∷ h.0.life.older) ∷ lives_at plan places (place + 1) given xs h.1

lives_long : (plan : SubscribePlan) (places place : ℕ) (given : List Given) (xs : List Session) → (h : FollowsEach plan places place given xs) → length xs ≡ length (lives_at plan places place given xs h)
unfolding lives_at
lives_long plan places place given [] h = refl
lives_long plan places place given (x ∷ xs) h = ap suc (lives_long plan places (place + 1) given xs h.1)

lives_each : (plan : SubscribePlan) (places place : ℕ) (given : List Given) (xs : List Session) → (h : FollowsEach plan places place given xs) → LivesEach plan places place given (lives_at plan places place given xs h)
unfolding lives_at
lives_each plan places place given [] h = tt
lives_each plan places place given (x ∷ xs) h =
    (follows_lives plan places place x.images x.follower (of_place place given) h.0, h.0.life.shared, h.0.life.gave, lives_each plan places (place + 1) given xs h.1)

pub all_written : (plan : SubscribePlan) (a b : Option (List ℕ)) (n : ℕ) (xs : List Session) → length xs ≤ most_places plan → FollowsAll plan a n xs b → WritesPlaces plan a n b
all_written plan a b n xs few h =
    let lives : List (List Life) = lives_at plan (length xs) 0 h.given xs h.each in
    let long : length xs ≡ length lives = lives_long plan (length xs) 0 h.given xs h.each in
    record {
      lives = lives;
      given = h.given;
      few = subst (λ p. p ≤ most_places plan) long few;
      each = subst (λ p. LivesEach plan p 0 h.given lives) long (lives_each plan (length xs) 0 h.given xs h.each);
      known = subst (λ p. AreBelow p h.given) long h.known;
      counted = h.counted;
      written = h.written;
    }

pub none_written : (plan : SubscribePlan) (a : Option (List ℕ)) → WritesPlaces plan a 0 a
none_written plan a = record { lives = []; given = []; few = omega arith; each = tt; known = tt; counted = refl; written = Appends-nil a }

pub writes_of : (plan : SubscribePlan) (a b : Option (List ℕ)) (n : ℕ) → WritesPlaces plan a n b → Writes plan.end.form 0 a n b
writes_of plan a b n w = record { messages = messages_of w.given; counted = omega (arith, w.counted, length-messages_of w.given); written = w.written }

ends_each : (plan : SubscribePlan) (places place : ℕ) (given : List Given) (xs : List Session) → FollowsEach plan places place given xs → AllByRecursion HasStood xs → EndsEach plan places place given xs
ends_each plan places place given [] h stood = tt
ends_each plan places place given (x ∷ xs) h stood = (
  record {
    follows = h.0;
    told = told_end plan places place x.images x.follower (of_place place given) h.0;
    stood = stood.0;
    unlost = h.0.life.uncut;
  },
  ends_each plan places (place + 1) given xs h.1 stood.1,
)

pub ends_with : (plan : SubscribePlan) (a b : Option (List ℕ)) (done : Subscribed) (xs : List Session) → 0 < length xs → length xs ≤ most_places plan → AreApart xs → FollowsAll plan a done.messages xs b → AllByRecursion HasStood xs → IsEndingOfAll plan done.messages xs (Some done.ending) → EndsWithSessions plan a done b
ends_with plan a b done xs some few apart h stood ending = record {
  sessions = xs;
  given = h.given;
  some = some;
  few = few;
  apart = apart;
  each = ends_each plan (length xs) 0 h.given xs h.each stood;
  known = h.known;
  counted = h.counted;
  written = h.written;
  ending = ending;
}

-- ---- a fault

-- what was told of a life is among what it gave, and first
told_same : (plan : SubscribePlan) (places place : ℕ) (images : Images) (f : Follower) (gave : List (List ℕ)) → (h : FollowsAt plan places place images f gave) → (rest : List (List ℕ)) × (gave ≡ told_through (h.life.newest ∷ h.life.older) ++ rest)
told_same plan places place images f gave h =
    let first = told_first h.life.newest.acts in
    (first.0, h.life.gave ∙ ap (λ ms. given_through h.life.older ++ ms) first.1 ∙ sym (append_assoc (given_through h.life.older) (told_in h.life.newest.acts) first.0))

-- places of which all is written that they gave
each_told : (plan : SubscribePlan) (places place : ℕ) (given more written : List Given)
    → ((other : ℕ) → place ≤ other → of_place other more ≡ of_place other given) → ((other : ℕ) → place ≤ other → of_place other written ≡ of_place other given)
    → (xs : List Session) → FollowsEach plan places place given xs
    → (lives : List (List Life)) × (length xs ≡ length lives) × ToldEach plan places place more written lives
each_told plan places place given more written gave wrote [] h = ([], refl, tt)
each_told plan places place given more written gave wrote (x ∷ xs) h =
    let rest = each_told plan places (place + 1) given more written (λ other less. gave other (omega (arith, less))) (λ other less. wrote other (omega (arith, less))) xs h.1 in
    let told = told_same plan places place x.images x.follower (of_place place given) h.0 in (
      (h.0.life.newest ∷ h.0.life.older) ∷ rest.0,
      ap suc rest.1,
      (
        follows_lives plan places place x.images x.follower (of_place place given) h.0,
        h.0.life.shared,
        gave place (omega arith) ∙ h.0.life.gave,
        (told.0, wrote place (omega arith) ∙ told.1),
        rest.2,
      ),
    )

-- behind all that was written before
told_more : (older : List (List ℕ)) (xs ys : List Act) (written untold : List (List ℕ)) → written ≡ told_in ys ++ untold → (rest : List (List ℕ)) × ((older ++ given_in xs) ++ written ≡ (older ++ told_in (xs ++ ys)) ++ rest)
told_more older xs ys written untold are = by_tick (is_ticked ys) refl
  where
    by_tick : (b : Bool) → is_ticked ys ≡ b → (rest : List (List ℕ)) × ((older ++ given_in xs) ++ written ≡ (older ++ told_in (xs ++ ys)) ++ rest)
    by_tick true is = (
      untold,
      ap (λ ms. (older ++ given_in xs) ++ ms) are ∙ sym (append_assoc (older ++ given_in xs) (told_in ys) untold)
          ∙ ap (λ ms. ms ++ untold) (append_assoc older (given_in xs) (told_in ys) ∙ ap (λ ms. older ++ ms) (sym (told_behind xs ys is))),
    )
    by_tick false is =
        let first = told_first xs in (
          first.0 ++ written,
          ap (λ ms. ms ++ written) (ap (λ ms. older ++ ms) (first.1 ∙ ap (λ ms. ms ++ first.0) (sym (none_told_behind xs ys is))) ∙ sym (append_assoc older (told_in (xs ++ ys)) first.0))
              ∙ append_assoc (older ++ told_in (xs ++ ys)) first.0 written,
        )

-- and one that lived on, of which not all is written
module _ (plan : SubscribePlan) (places at : ℕ) (given : List Given) (back : List Session) (j : Session) (last : Subscribing) (acts : List Act) (written untold : List (List ℕ)) (lives : Lives j.follower.subscriber acts last) (are : written ≡ told_in acts ++ untold) where
  told_here : (place : ℕ) → at ≡ place → FollowsEach plan places place given (j ∷ back)
      → (lives : List (List Life)) × (length (j ∷ back) ≡ length lives) × ToldEach plan places place (given ++ given_at at (given_in acts)) (given ++ given_at at written) lives
  unfolding life_on
  told_here place here h =
      let rest = each_told plan places (place + 1) given (given ++ given_at at (given_in acts)) (given ++ given_at at written)
      (λ other less. of_place_beside other at given (given_in acts) (λ is. omega (arith, less, is, here)))
      (λ other less. of_place_beside other at given written (λ is. omega (arith, less, is, here))) back h.1 in
      let life = life_on plan places place j.images j.follower.subscriber last acts (of_place place given) h.0.life lives in
      let told = told_more (given_through h.0.life.older) h.0.life.newest.acts acts written untold are in (
        (life.newest ∷ life.older) ∷ rest.0,
        ap suc rest.1,
        (
          (last, life.is, life.numbered, life.lives),
          life.shared,
          subst (λ n. of_place n (given ++ given_at at (given_in acts)) ≡ of_place n given ++ given_in acts) here (of_place_more at given (given_in acts)) ∙ life.gave,
          (
            told.0,
            subst (λ n. of_place n (given ++ given_at at written) ≡ of_place n given ++ written) here (of_place_more at given written) ∙ ap (λ ms. ms ++ written) h.0.life.gave ∙ told.1,
          ),
          rest.2,
        ),
      )

  told_among : (place : ℕ) (front : List Session) → at ≡ place + length front → FollowsEach plan places place given (front ++ j ∷ back)
      → (lives : List (List Life)) × (length (front ++ j ∷ back) ≡ length lives) × ToldEach plan places place (given ++ given_at at (given_in acts)) (given ++ given_at at written) lives
  told_among place [] is h = told_here place (omega (arith, is)) h
  told_among place (x ∷ front) is h =
      let rest = told_among (place + 1) front (omega (arith, is)) h.1 in
      let told = told_same plan places place x.images x.follower (of_place place given) h.0 in (
        (h.0.life.newest ∷ h.0.life.older) ∷ rest.0,
        ap suc rest.1,
        (
          follows_lives plan places place x.images x.follower (of_place place given) h.0,
          h.0.life.shared,
          of_place_beside place at given (given_in acts) (λ so. omega (arith, so, is)) ∙ h.0.life.gave,
          (told.0, of_place_beside place at given written (λ so. omega (arith, so, is)) ∙ told.1),
          rest.2,
        ),
      )

-- a fault at one place
pub broken_at : (plan : SubscribePlan) (a b c : Option (List ℕ)) (n : ℕ) (front back : List Session) (j : Session) (t : Subscribing) → length (front ++ j ∷ back) ≤ most_places plan → FollowsAll plan a n (front ++ j ∷ back) b → BreaksActs plan.end.form j.follower.subscriber b t c → BreaksPlaces plan a c
broken_at plan a b c n front back j t few h w =
    let at : ℕ = length front in
    let places : ℕ = length (front ++ j ∷ back) in
    let told = told_among plan places at h.given back j w.last w.acts w.writes.written w.writes.untold w.lived w.writes.told_are 0 front (omega arith) h.each in
    record {
      lives = told.0;
      given = h.given ++ given_at at (given_in w.acts);
      written = h.given ++ given_at at w.writes.written;
      lost = given_at at w.writes.lost;
      between = w.writes.between;
      few = subst (λ p. p ≤ most_places plan) told.1 few;
      each = subst (λ p. ToldEach plan p 0 (h.given ++ given_at at (given_in w.acts)) (h.given ++ given_at at w.writes.written) told.0) told.1 told.2;
      known = subst (λ p. AreBelow p (h.given ++ given_at at (given_in w.acts))) told.1 (below_on places h.given (given_at at (given_in w.acts)) h.known (below_at places at (given_in w.acts) (length_front front back j)));
      given_are = ap (λ ms. h.given ++ given_at at ms) w.writes.given_are ∙ ap (λ gs. h.given ++ gs) (given_on at w.writes.written w.writes.lost)
          ∙ sym (append_assoc h.given (given_at at w.writes.written) (given_at at w.writes.lost));
      whole = subst (Appends a w.writes.between) (sym (ap (spelling plan.end.form) (messages_more at h.given w.writes.written) ∙ spelled_on plan.end.form (messages_of h.given) w.writes.written)) (Appends-trans _ _ _ _ _ h.written w.writes.whole);
      part = subst (λ ms. LosesOne plan.end.form ms w.writes.between c) (sym (messages_at at w.writes.lost)) w.writes.part;
    }

-- a fault behind which all stands as it stood
pub follows_breaks : (plan : SubscribePlan) (a b : Option (List ℕ)) (n : ℕ) (xs : List Session) → length xs ≤ most_places plan → FollowsAll plan a n xs b → BreaksPlaces plan a b
follows_breaks plan a b n xs few h =
    let told = each_told plan (length xs) 0 h.given h.given h.given (λ other less. refl) (λ other less. refl) xs h.each in
    record {
      lives = told.0;
      given = h.given;
      written = h.given;
      lost = [];
      between = b;
      few = subst (λ p. p ≤ most_places plan) told.1 few;
      each = subst (λ p. ToldEach plan p 0 h.given h.given told.0) told.1 told.2;
      known = subst (λ p. AreBelow p h.given) told.1 h.known;
      given_are = sym (append-nil h.given);
      whole = h.written;
      part = refl;
    }

-- without an image
pub none_breaks : (plan : SubscribePlan) (a : Option (List ℕ)) → BreaksPlaces plan a a
none_breaks plan a = record { lives = []; given = []; written = []; lost = []; between = a; few = omega arith; each = tt; known = tt; given_are = refl; whole = Appends-nil a; part = refl }

pub before_image : (plan : SubscribePlan) (a : Option (List ℕ)) (result : Result Subscribed SubscribeFault) → OnErr result (BreaksPlaces plan a a)
before_image plan a (Ok s) = tt
before_image plan a (Err fault) = none_breaks plan a
