-- What several places come to of which there is one alone, and what each of them is by itself.
use Rattle.std.proofs.Common.{◌≡◌, ◌∙◌, ◌<◌, ◌+◌, ℕ, zero, suc, Bool, true, false, ◌||◌, List, [], ◌∷◌, ◌++◌, length, Option, Some, inl, inr, refl, sym, ap, subst, arith}
use Rattle.std.specs.Io.KnownBytes.{Appends}
use Rattle.messages.specs.Forms.{spelling}
use Rattle.options.specs.declared.ends.plans.SubscribePlan.{SubscribePlan}
use Rattle.subscriber.proofs.Given.{all_of_one, below_at, below_front, given_on, length-given_at, length-messages_of, messages_at, messages_on}
use Rattle.subscriber.proofs.Lived.{told_end, uncut_so}
use Rattle.subscriber.specs.Breaking.{BreaksOnePlace, BreaksPlaces, LosesOne, OnePlaceBreaks, ToldEach}
use Rattle.subscriber.specs.Endings.{AreDone, AreEnough, AreGivenUp, EndsEach, EndsWithImage, HasEnoughOfAll, IsDone, IsEndingOfAll, OneSessionEnds}
use Rattle.peer.specs.declared.farewell.StreamEnd.{StreamEnd}
use Rattle.subscriber.specs.Cuts.{has_lost}
use Rattle.subscriber.specs.Leavings.{HasEnough, IsEnding, IsEnough, IsGivenUp}
use Rattle.subscriber.specs.Living.{AreLives, EachPlaceWrites, FollowsAt, IsOfOnePlace, Life, LivesEach, OnePlaceWrites, WritesPlaces, given_through}
use Rattle.subscriber.specs.Places.{AreBelow, Given, given_at, messages_of, of_place}
use Rattle.subscriber.specs.Standing.{HasAll, HasAllUpTo}
use Rattle.subscriber.specs.declared.ending.Ending.{Ending}
use Rattle.subscriber.specs.declared.ending.Ending.TheVariants.{Lost, Short, Whole}
use Rattle.subscriber.specs.declared.ending.Subscribed.{Subscribed}
use Rattle.subscriber.specs.declared.images.session.Session.{Session}

-- ---- what one place gave

-- all that was given at one place alone
own_messages : (messages : List (List ℕ)) → of_place 0 (given_at 0 messages) ≡ messages
own_messages messages = all_of_one (given_at 0 messages) (below_at 1 0 messages (omega arith)) ∙ messages_at 0 messages

pub each_alone : (plan : SubscribePlan) (places place at : ℕ) (given : List Given) (lives : List (List Life)) → at < length lives → LivesEach plan places place given lives
    → (images : List Life) × AreLives plan (place + at) images × (of_place (place + at) given ≡ given_through images)
each_alone plan places place at given [] less h = absurd (omega (arith, less))
each_alone plan places place zero given (images ∷ lives) less h =
    let here : place ≡ place + 0 = omega arith in
    (images, subst (λ n. AreLives plan n images) here h.0, subst (λ n. of_place n given ≡ given_through images) here h.2)
each_alone plan places place (suc at) given (images ∷ lives) less h =
    let rest = each_alone plan places (place + 1) at given lives (omega (arith, less)) h.3 in
    let there : (place + 1) + at ≡ place + suc at = omega arith in
    (rest.0, subst (λ n. AreLives plan n rest.0) there rest.1, subst (λ n. of_place n given ≡ given_through rest.0) there rest.2)

pub each_place_writes : EachPlaceWrites
each_place_writes plan before count after w place less =
    let own = each_alone plan (length w.lives) 0 place w.given w.lives less w.each in
    let here : 0 + place ≡ place = omega arith in
    let gave : of_place place w.given ≡ given_through own.0 = subst (λ n. of_place n w.given ≡ given_through own.0) here own.2 in
    record {
      images = own.0;
      lives = subst (λ n. AreLives plan n own.0) here own.1;
      counted = ap length gave;
      written = ap (spelling plan.end.form) gave;
    }

-- ---- what one place wrote

of_one_place : (plan : SubscribePlan) (before : Option (List ℕ)) (count : ℕ) (after : Option (List ℕ)) (given : List Given) (lives : List (List Life)) → length lives ≡ 1
    → LivesEach plan (length lives) 0 given lives → AreBelow (length lives) given → count ≡ length given → Appends before after (spelling plan.end.form (messages_of given)) → IsOfOnePlace plan before count after
of_one_place plan before count after given [] one each known counted written = absurd (omega (arith, one))
of_one_place plan before count after given (images ∷ another ∷ more) one each known counted written = absurd (omega (arith, one))
of_one_place plan before count after given (images ∷ []) one each known counted written =
    let gave : messages_of given ≡ given_through images = sym (all_of_one given known) ∙ each.2 in
    record {
      one = record {
        images = images;
        lives = each.0;
        counted = counted ∙ sym (length-messages_of given) ∙ ap length gave;
        written = subst (λ ms. Appends before after (spelling plan.end.form ms)) gave written;
      };
      alone = each.1;
    }

with_one_place : (plan : SubscribePlan) (before : Option (List ℕ)) (count : ℕ) (after : Option (List ℕ)) → IsOfOnePlace plan before count after → (w : WritesPlaces plan before count after) × (length w.lives ≡ 1)
with_one_place plan before count after h =
    let messages : List (List ℕ) = given_through h.one.images in (
      record {
        lives = h.one.images ∷ [];
        given = given_at 0 messages;
        few = omega arith;
        each = (h.one.lives, h.alone, own_messages messages, tt);
        known = below_at 1 0 messages (omega arith);
        counted = h.one.counted ∙ sym (length-given_at 0 messages);
        written = subst (λ ms. Appends before after (spelling plan.end.form ms)) (sym (messages_at 0 messages)) h.one.written;
      },
      refl,
    )

pub one_place_writes : OnePlaceWrites
one_place_writes plan before count after = (
  λ h. of_one_place plan before count after h.0.given h.0.lives h.1 h.0.each h.0.known h.0.counted h.0.written,
  with_one_place plan before count after,
)

-- ---- what a fault broke off of one place

breaks_one : (plan : SubscribePlan) (before between after : Option (List ℕ)) (given written lost : List Given) (lives : List (List Life)) → length lives ≡ 1
    → ToldEach plan (length lives) 0 given written lives → AreBelow (length lives) given → given ≡ written ++ lost
    → Appends before between (spelling plan.end.form (messages_of written)) → LosesOne plan.end.form (messages_of lost) between after → BreaksOnePlace plan before after
breaks_one plan before between after given written lost [] one each known are whole part = absurd (omega (arith, one))
breaks_one plan before between after given written lost (images ∷ another ∷ more) one each known are whole part = absurd (omega (arith, one))
breaks_one plan before between after given written lost (images ∷ []) one each known are whole part =
    let front : AreBelow 1 written = below_front 1 written lost (subst (AreBelow 1) are known) in
    record {
      one = record {
        images = images;
        lives = each.0;
        writes = record {
          written = messages_of written;
          untold = each.3.0;
          lost = messages_of lost;
          between = between;
          given_are = sym each.2 ∙ all_of_one given known ∙ ap messages_of are ∙ messages_on written lost;
          told_are = sym (all_of_one written front) ∙ each.3.1;
          whole = whole;
          part = part;
        };
      };
      alone = each.1;
    }

one_breaks : (plan : SubscribePlan) (before after : Option (List ℕ)) → BreaksOnePlace plan before after → (w : BreaksPlaces plan before after) × (length w.lives ≡ 1)
one_breaks plan before after h =
    let images : List Life = h.one.images in
    let w = h.one.writes in (
      record {
        lives = images ∷ [];
        given = given_at 0 (given_through images);
        written = given_at 0 w.written;
        lost = given_at 0 w.lost;
        between = w.between;
        few = omega arith;
        each = (h.one.lives, h.alone, own_messages (given_through images), (w.untold, own_messages w.written ∙ w.told_are), tt);
        known = below_at 1 0 (given_through images) (omega arith);
        given_are = ap (given_at 0) w.given_are ∙ given_on 0 w.written w.lost;
        whole = subst (λ ms. Appends before w.between (spelling plan.end.form ms)) (sym (messages_at 0 w.written)) w.whole;
        part = subst (λ ms. LosesOne plan.end.form ms w.between after) (sym (messages_at 0 w.lost)) w.part;
      },
      refl,
    )

pub one_place_breaks : OnePlaceBreaks
one_place_breaks plan before after = (
  λ h. breaks_one plan before h.0.between after h.0.given h.0.written h.0.lost h.0.lives h.1 h.0.each h.0.known h.0.given_are h.0.whole h.0.part,
  one_breaks plan before after,
)

-- ---- how one session ends

-- one that wasn't heard doesn't have all of its stream
one_done : (j : Session) → j.stood.end ≡ j.follower.end → AreDone (j ∷ []) → HasAll j.stood
one_done j told h = by_case h.each.0
  where
    by_case : IsDone j → HasAll j.stood
    by_case (inl all) = all
    by_case (inr unheard) = absurd (h.some ((λ all. subst (λ (e : Option StreamEnd). HasAllUpTo e j.stood.rebuilt j.stood.place) (told ∙ unheard.end) all), tt))

one_enough : (plan : SubscribePlan) (written : ℕ) (j : Session) → j.stood.end ≡ j.follower.end → HasEnoughOfAll plan written (j ∷ []) → HasEnough plan written j.stood
one_enough plan written j told (inl many) = inl many
one_enough plan written j told (inr (once, done)) = inr (once, one_done j told done)

enough_one : (plan : SubscribePlan) (written : ℕ) (j : Session) → HasEnough plan written j.stood → HasEnoughOfAll plan written (j ∷ [])
enough_one plan written j (inl many) = inl many
enough_one plan written j (inr (once, all)) = inr (once, record { each = (inl all, tt); some = λ none. none.0 all; none = inl refl })

one_given_up : (plan : SubscribePlan) (written : ℕ) (j : Session) (how : Ending) → AreGivenUp plan written (j ∷ []) how → IsGivenUp plan written j.watch j.stood how
one_given_up plan written j how h = record { undone = λ enough. h.undone (enough_one plan written j enough); quiet = h.quiet.0; ending = h.ending }

one_is_enough : (plan : SubscribePlan) (written : ℕ) (j : Session) → j.stood.end ≡ j.follower.end → AreEnough plan written (j ∷ []) → IsEnough plan written j.watch j.stood
one_is_enough plan written j told (inl enough) = inl (one_enough plan written j told enough)
one_is_enough plan written j told (inr up) = inr (one_given_up plan written j Whole up)

or_false : (b : Bool) → (b || false) ≡ b
or_false true = refl
or_false false = refl

one_ending : (plan : SubscribePlan) (written : ℕ) (j : Session) (how : Ending) → j.stood.end ≡ j.follower.end → IsEndingOfAll plan written (j ∷ []) (Some how) → IsEnding plan written j.watch j.stood (has_lost j) (Some how)
one_ending plan written j Whole told h = (sym (or_false (has_lost j)) ∙ h.0, one_is_enough plan written j told h.1)
one_ending plan written j Short told h = one_given_up plan written j Short h
one_ending plan written j Lost told h = (sym (or_false (has_lost j)) ∙ h.0, one_is_enough plan written j told h.1)

whole_unlost : (plan : SubscribePlan) (written : ℕ) (j : Session) (how : Ending) → IsEnding plan written j.watch j.stood (has_lost j) (Some how) → how ≡ Whole → has_lost j ≡ false
whole_unlost plan written j Whole ending is = ending.0
whole_unlost plan written j Short ending is = absurd (cc)
whole_unlost plan written j Lost ending is = absurd (cc)

one_ends : (plan : SubscribePlan) (before : Option (List ℕ)) (done : Subscribed) (after : Option (List ℕ)) (given : List Given) (j : Session) → EndsEach plan 1 0 given (j ∷ []) → AreBelow 1 given
    → done.messages ≡ length given → Appends before after (spelling plan.end.form (messages_of given)) → IsEndingOfAll plan done.messages (j ∷ []) (Some done.ending) → EndsWithImage plan before done after j
one_ends plan before done after given j each known counted written ending =
    let e = each.0 in
    let follows : FollowsAt plan 1 0 j.images j.follower (messages_of given) = subst (FollowsAt plan 1 0 j.images j.follower) (all_of_one given known) e.follows in
    let how : IsEnding plan done.messages j.watch j.stood (has_lost j) (Some done.ending) = one_ending plan done.messages j done.ending e.stood.stands.told ending in
    record {
      given = messages_of given;
      follows = follows;
      told = told_end plan 1 0 j.images j.follower (messages_of given) follows;
      counted = counted ∙ sym (length-messages_of given);
      written = written;
      ends = record { stand = j.stood; stands = e.stood.stands; ending = how; answered = e.stood.answered };
      unlost = λ whole. follows.life.uncut (uncut_so j (whole_unlost plan done.messages j done.ending how whole));
    }

pub one_session_ends : OneSessionEnds
one_session_ends plan before done after e j alone =
    one_ends plan before done after e.given j (subst (λ xs. EndsEach plan (length xs) 0 e.given xs) alone e.each) (subst (λ xs. AreBelow (length xs) e.given) alone e.known)
    e.counted e.written (subst (λ xs. IsEndingOfAll plan done.messages xs (Some done.ending)) alone e.ending)
