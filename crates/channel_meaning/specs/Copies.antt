-- A subscriber's output is a copy of a publisher's input.
use Rattle.std.specs.Prelude.{◌≡◌, ◌⊎◌, ◌≤◌, ℕ, List, [], ◌∷◌, ◌++◌, Some}
use Rattle.theory.specs.Messages.{messages}
use Rattle.messages.specs.Forms.{spelling}
use Rattle.messages.specs.declared.form.Form.{Form}
use Rattle.messages.specs.declared.form.Form.TheVariants.{Lines, Blocks}
use Rattle.endpoint.specs.declared.udp.Route.{Route}
use Rattle.options.specs.declared.ends.plans.PublishPlan.{PublishPlan}
use Rattle.options.specs.declared.ends.plans.SubscribePlan.{SubscribePlan}
use Rattle.receiver.specs.Lives.{IsRunOf}
use Rattle.receiver.specs.Receiving.{Receiver}
use Rattle.receiver.specs.Subscribing.{RepresentsSubscriber, Subscribing}
use Rattle.sender_meaning.specs.Lives.{IsSpelled}
use Rattle.publisher.specs.Ended.{PublishesAll}
use Rattle.subscriber.specs.Living.{IsLife, Life, WritesLives}
use Rattle.channel_meaning.specs.Books.{entries_in, given_out, stream_in}
use Rattle.channel_meaning.specs.Streams.{IsFromIt}

-- the same bytes; lines of which the last has no line feed may have got one
abbrev pub IsCopy : Form → List ℕ → List ℕ → Type 0
IsCopy Lines input output = (output ≡ input) ⊎ (output ≡ input ++ 10 ∷ [])
IsCopy Blocks input output = output ≡ input

-- the messages of the stream are those that were read, one image has given all of them, from where it joined to where its consumer
-- stands, and the output is their spelling; in the form in which they were read it is a copy of the input
pub record CopiesAll (p : PublishPlan) (routes : List Route) (input : List ℕ) (all : PublishesAll p routes (Some input)) (plan : SubscribePlan) (l : Life) (output : List ℕ) : Type 0 where
  pub published : messages all.log.start all.book.tail (entries_in all) ≡ all.ends.publishes.messages
  pub end : Subscribing
  pub life : IsLife plan l end
  pub receiver : Receiver
  pub shown : RepresentsSubscriber end receiver
  pub run : IsRunOf (stream_in all) receiver.image all.ends.publishes.messages
  pub spelled : output ≡ spelling plan.end.form all.ends.publishes.messages
  pub copy : plan.end.form ≡ p.end.form → IsCopy p.end.form input output

-- where a publisher that has read this input has ended whole, and the subscriber at one of its destinations, whichever, wrote this of a
-- place and had one image there, which was handed nothing but what the publisher's sender gave out and its farewell, and has given as
-- many messages as were read
abbrev pub CopiesAllOfIt : Type 0
CopiesAllOfIt =
    (p : PublishPlan) (routes : List Route) (input : List ℕ) (all : PublishesAll p routes (Some input)) → IsSpelled (stream_in all)
    → (plan : SubscribePlan) (place : ℕ) (output : List ℕ) (count : ℕ) (w : WritesLives plan place (Some []) count (Some output)) (l : Life) → w.images ≡ l ∷ [] → IsFromIt (stream_in all) (given_out all) l
    → all.reading.offered.messages ≤ count → CopiesAll p routes input all plan l output
