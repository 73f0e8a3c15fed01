-- What a publisher's closed log says of the stream that it published, and what comes of that stream.
use Rattle.std.specs.Prelude.{◌≡◌, ℕ, List, map, Option}
use Rattle.std.specs.List.{AllByRecursion}
use Rattle.theory.specs.Entry.{Entry}
use Rattle.theory.specs.Messages.{messages}
use Rattle.endpoint.specs.declared.udp.Route.{Route}
use Rattle.options.specs.declared.ends.plans.PublishPlan.{PublishPlan}
use Rattle.options.specs.declared.ends.plans.SubscribePlan.{SubscribePlan}
use Rattle.receiver.specs.Lives.{IsHonest, IsStream, Stream}
use Rattle.sender_meaning.specs.Lives.{IsSpelled}
use Rattle.sender_meaning.specs.StreamLives.{given_in_all}
use Rattle.publisher.specs.Ended.{PublishesAll}
use Rattle.subscriber.specs.Living.{WritesLives}
use Rattle.channel_meaning.specs.Streams.{GoesThrough, IsFromIt, IsItsStream, entry_of}

-- what a publisher that has ended whole has claimed, as it claimed it
abbrev pub entries_in : {p : PublishPlan} {routes : List Route} {given : Option (List ℕ)} → PublishesAll p routes given → List Entry
entries_in all = map (entry_of all.log.identity 0) all.ends.publishes.publishes.taken

-- that from its log's start to its tail
abbrev pub stream_in : {p : PublishPlan} {routes : List Route} {given : Option (List ℕ)} → PublishesAll p routes given → Stream
stream_in all = record { identity = all.log.identity; start = all.log.start; tail = all.book.tail; entries = entries_in all }

-- all that its sender gave out, in order: each of that goes to all destinations
abbrev pub given_out : {p : PublishPlan} {routes : List Route} {given : Option (List ℕ)} → PublishesAll p routes given → List (List ℕ)
given_out all = given_in_all all.sends.lived.acts

-- it is a stream, what the publisher's pass has claimed and nothing else, and its messages are those that were read
pub record IsAllOfIt (p : PublishPlan) (routes : List Route) (given : Option (List ℕ)) (all : PublishesAll p routes given) : Type 0 where
  pub stream : IsStream (stream_in all)
  pub its : IsItsStream all.first.pass all.ends.publishes.publishes.taken (stream_in all)
  pub are : messages all.log.start all.book.tail (entries_in all) ≡ all.ends.publishes.messages

abbrev pub PublishesAllOfIt : Type 0
PublishesAllOfIt = (p : PublishPlan) (routes : List Route) (given : Option (List ℕ)) (all : PublishesAll p routes given) → IsAllOfIt p routes given all

-- what its sender gave out is honest for that stream, whoever was heard, and by whatever groups it went on
abbrev pub GivesAllHonest : Type 0
GivesAllHonest =
    (p : PublishPlan) (routes : List Route) (given : Option (List ℕ)) (all : PublishesAll p routes given) → IsSpelled (stream_in all)
    → AllByRecursion (IsHonest (stream_in all)) (given_out all)

-- where a publisher has ended whole, and each image at a place of the subscriber at one of its destinations, whichever, was handed nothing
-- but what its sender gave out and its farewell, what is written of that place is what these images gave, one after the other: runs of
-- what the publisher read
abbrev pub WritesAllOfIt : Type 0
WritesAllOfIt =
    (p : PublishPlan) (routes : List Route) (given : Option (List ℕ)) (all : PublishesAll p routes given) → IsSpelled (stream_in all)
    → (plan : SubscribePlan) (place : ℕ) (before after : Option (List ℕ)) (count : ℕ) (w : WritesLives plan place before count after) → AllByRecursion (IsFromIt (stream_in all) (given_out all)) w.images
    → GoesThrough (stream_in all) all.ends.publishes.messages plan w.images
