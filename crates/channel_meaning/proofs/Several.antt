-- What one place of a subscriber of several sessions gave.
use Rattle.std.proofs.Common.{◌≡◌, ◌∙◌, ◌+◌, ◌≤◌, ℕ, zero, suc, List, [], ◌∷◌, length, Option, Some, refl, ap, subst, arith}
use Rattle.std.specs.Prelude.{slice_get}
use Rattle.std.specs.List.{AllByRecursion}
use Rattle.messages.specs.Forms.{spelling}
use Rattle.endpoint.specs.declared.udp.Route.{Route}
use Rattle.options.specs.declared.ends.plans.PublishPlan.{PublishPlan}
use Rattle.options.specs.declared.ends.plans.SubscribePlan.{SubscribePlan}
use Rattle.sender_meaning.specs.Lives.{IsSpelled}
use Rattle.publisher.specs.Ended.{PublishesAll}
use Rattle.subscriber.specs.Living.{AreLives, Life, LivesEach, WritesPlaces, given_through}
use Rattle.subscriber.specs.Places.{Given, of_place}
use Rattle.channel_meaning.specs.Books.{WritesAllOfIt, given_out, stream_in}
use Rattle.channel_meaning.specs.Several.{CopiesAllAtEachPlace, WritesAllAtEachPlace}
use Rattle.channel_meaning.specs.Streams.{GoesThrough, IsFromIt}
use Rattle.channel_meaning.proofs.Copies.{copies_of_one, gave_all}

-- the images at one place are lived through there, and it gave what they gave
at_place : (plan : SubscribePlan) (places first place : ℕ) (given : List Given) (lives : List (List Life)) (images : List Life) → slice_get lives place ≡ Some images → LivesEach plan places first given lives
    → AreLives plan (first + place) images × (of_place (first + place) given ≡ given_through images)
at_place plan places first place given [] images is each = absurd (cc)
at_place plan places first zero given (own ∷ lives) images is each =
    let here : first ≡ first + 0 = omega arith in
    let same : own ≡ images = cc in
    subst (λ n. AreLives plan n images × (of_place n given ≡ given_through images)) here
    (subst (λ ls. AreLives plan first ls × (of_place first given ≡ given_through ls)) same (each.0, each.2))
at_place plan places first (suc place) given (own ∷ lives) images is each =
    let there : (first + 1) + place ≡ first + suc place = omega arith in
    subst (λ n. AreLives plan n images × (of_place n given ≡ given_through images)) there
    (at_place plan places (first + 1) place given lives images is each.3)

-- and where they were handed nothing else, these are runs of what was read
goes_at : WritesAllOfIt → (p : PublishPlan) (routes : List Route) (given : Option (List ℕ)) (all : PublishesAll p routes given) → IsSpelled (stream_in all)
    → (plan : SubscribePlan) (before after : Option (List ℕ)) (count : ℕ) (w : WritesPlaces plan before count after) (place : ℕ) (images : List Life)
    → slice_get w.lives place ≡ Some images → AllByRecursion (IsFromIt (stream_in all) (given_out all)) images
    → (of_place place w.given ≡ given_through images) × GoesThrough (stream_in all) all.ends.publishes.messages plan images
goes_at law p routes given all spelled plan before after count w place images is from =
    let own = at_place plan (length w.lives) 0 place w.given w.lives images is w.each in
    let here : 0 + place ≡ place = omega arith in
    let lives : AreLives plan place images = subst (λ k. AreLives plan k images) here own.0 in
    let messages : List (List ℕ) = given_through images in (
      subst (λ k. of_place k w.given ≡ messages) here own.1,
      law p routes given all spelled plan place (Some []) (Some (spelling plan.end.form messages)) (length messages) (record { images = images; lives = lives; counted = refl; written = refl }) from,
    )

pub writes_all_at_each_place : WritesAllOfIt → WritesAllAtEachPlace
writes_all_at_each_place law p routes given all spelled plan before after count w place images is from =
    let at = goes_at law p routes given all spelled plan before after count w place images is from in
    record { gave = at.0; through = at.1 }

pub copies_all_at_each_place : WritesAllOfIt → CopiesAllAtEachPlace
copies_all_at_each_place law p routes input all spelled plan before after count w place l is from many =
    let at = goes_at law p routes (Some input) all spelled plan before after count w place (l ∷ []) is (from, tt) in
    let enough : all.reading.offered.messages ≤ length (given_through (l ∷ [])) = subst (λ (ms : List (List ℕ)). all.reading.offered.messages ≤ length ms) at.0 many in
    record {
      gave = at.0 ∙ gave_all p routes input all plan l at.1 enough;
      copies = copies_of_one p routes input all plan l (spelling plan.end.form (of_place place w.given)) at.1 enough (ap (spelling plan.end.form) at.0);
    }
