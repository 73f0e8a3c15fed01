-- What a subscriber that follows several sessions writes of what each of their publishers read.
use Rattle.std.specs.Prelude.{◌≡◌, ◌≤◌, ℕ, List, [], ◌∷◌, length, Option, Some, slice_get}
use Rattle.std.specs.List.{AllByRecursion}
use Rattle.messages.specs.Forms.{spelling}
use Rattle.endpoint.specs.declared.udp.Route.{Route}
use Rattle.options.specs.declared.ends.plans.PublishPlan.{PublishPlan}
use Rattle.options.specs.declared.ends.plans.SubscribePlan.{SubscribePlan}
use Rattle.receiver.specs.Lives.{Stream}
use Rattle.sender_meaning.specs.Lives.{IsSpelled}
use Rattle.publisher.specs.Ended.{PublishesAll}
use Rattle.subscriber.specs.Living.{Life, WritesPlaces, given_through}
use Rattle.subscriber.specs.Places.{Given, of_place}
use Rattle.channel_meaning.specs.Books.{given_out, stream_in}
use Rattle.channel_meaning.specs.Copies.{CopiesAll}
use Rattle.channel_meaning.specs.Streams.{GoesThrough, IsFromIt}

-- of all that was given, what stands there of one place is what the images at that place gave, and each gave a run of what was read
pub record GoesThroughAt (x : Stream) (read : List (List ℕ)) (plan : SubscribePlan) (place : ℕ) (given : List Given) (images : List Life) : Type 0 where
  pub gave : of_place place given ≡ given_through images
  pub through : GoesThrough x read plan images

-- where a publisher has ended whole, and each of the images at one place of a subscriber was handed nothing but what that publisher's
-- sender gave out and its farewell, what that place gave are runs of what the publisher read, whatever the other places gave
abbrev pub WritesAllAtEachPlace : Type 0
WritesAllAtEachPlace =
    (p : PublishPlan) (routes : List Route) (given : Option (List ℕ)) (all : PublishesAll p routes given) → IsSpelled (stream_in all)
    → (plan : SubscribePlan) (before after : Option (List ℕ)) (count : ℕ) (w : WritesPlaces plan before count after) (place : ℕ) (images : List Life)
    → slice_get w.lives place ≡ Some images → AllByRecursion (IsFromIt (stream_in all) (given_out all)) images
    → GoesThroughAt (stream_in all) all.ends.publishes.messages plan place w.given images

-- what one place gave is all that was read, and its spelling a copy of the input
pub record CopiesAllAt (p : PublishPlan) (routes : List Route) (input : List ℕ) (all : PublishesAll p routes (Some input)) (plan : SubscribePlan) (place : ℕ) (given : List Given) (l : Life) : Type 0 where
  pub gave : of_place place given ≡ all.ends.publishes.messages
  pub copies : CopiesAll p routes input all plan l (spelling plan.end.form (of_place place given))

-- where there was one image at that place, and it has given as many messages as were read
abbrev pub CopiesAllAtEachPlace : Type 0
CopiesAllAtEachPlace =
    (p : PublishPlan) (routes : List Route) (input : List ℕ) (all : PublishesAll p routes (Some input)) → IsSpelled (stream_in all)
    → (plan : SubscribePlan) (before after : Option (List ℕ)) (count : ℕ) (w : WritesPlaces plan before count after) (place : ℕ) (l : Life)
    → slice_get w.lives place ≡ Some (l ∷ []) → IsFromIt (stream_in all) (given_out all) l
    → all.reading.offered.messages ≤ length (of_place place w.given) → CopiesAllAt p routes input all plan place w.given l
