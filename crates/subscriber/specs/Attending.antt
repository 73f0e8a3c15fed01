-- What a turn is answered by, once all that its images gave is written.
use Rattle.std.specs.Prelude.{◌≡◌, ℕ, List, map}
use Rattle.options.specs.declared.ends.plans.SubscribePlan.{SubscribePlan}
use Rattle.peer.specs.Ties.{Listening}
use Rattle.subscriber.specs.Callers.{AsksCaller}
use Rattle.subscriber.specs.Choosing.{AttendsAll}
use Rattle.subscriber.specs.Losing.{AsksEach}
use Rattle.subscriber.specs.Receivings.{Receiving, caller_given, offer_given}
use Rattle.subscriber.specs.Sessions.{news_told}
use Rattle.subscriber.specs.declared.images.session.Session.{Session}

-- SETUPs are asked for where an image lacks what doesn't come; each session's own, and the first that is kept of others, finds its place; the
-- sender of the last frame of a session that nobody follows is asked for one, where there is a place for it; and what is new of status
-- messages is told to the thread that repeats them
pub record AnswersTurn (plan : SubscribePlan) (moment : ℕ) (old : List Session) (heard : Receiving) (new : List Session) (left : Receiving) : Type 0 where
  pub asked : Listening
  pub asks : AsksEach plan old heard.socket asked
  pub placed : List Session
  pub attends : AttendsAll plan moment heard.offer old placed
  pub called : List Session
  pub calls : AsksCaller plan heard.caller placed asked called left.socket
  pub told : new ≡ map news_told called
  pub given : left ≡ record (caller_given (offer_given heard)) { socket = left.socket }
