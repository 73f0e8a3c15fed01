-- What the tally of a run's subscriber says of a stream.
use Rattle.std.specs.Prelude.{◌≡◌, ◌≤◌, ℤ, pos, List, length}
use Rattle.std.specs.List.{AllByRecursion}
use Rattle.theory.specs.Messages.{messages}
use Rattle.theory.specs.Position.{Geometry}
use Rattle.receiver.specs.CoreLives.{CoreAct, CoreLives, heard_in}
use Rattle.receiver.specs.Lives.{IsHonest, IsStream, Stream}
use Rattle.receiver.specs.Representing.{Core, Represents}
use Rattle.run_parties.specs.Receivers.{new_receiver}
use Rattle.run_parties.specs.Receptions.{PolledOf}
use Rattle.run_parties.specs.Tallies.{Counted, IsTallyOf}
use Rattle.options.specs.declared.run.made.Plan.{Plan}
use Rattle.run.specs.Outcomes.{PublishersPublish}
use Rattle.run.specs.Streams.{IsRunStream, stream_of}
use Rattle.run.specs.declared.outcome.Outcome.{Outcome}

-- a tally of as many messages as the stream has is of all of them, in their order
abbrev pub IsWholeTally : Stream → Counted → Type 0
IsWholeTally x t = length (messages x.start x.tail x.entries) ≤ t.polled → IsTallyOf (messages x.start x.tail x.entries) t

-- where a run's receiver was handed datagrams alone that are honest for a stream, and its subscriber refused no message and has
-- tallied as many as the stream has, these are the stream's messages, all of them, in their order
abbrev pub TalliesAll : Type 0
TalliesAll =
    (x : Stream) → IsStream x → x.identity.session ≡ pos 1 → x.identity.stream ≡ pos 1001
    → (g : Geometry) (id : ℤ) (first core : Core) (acts : List CoreAct) → Represents first (new_receiver g id) → CoreLives first acts core → AllByRecursion (IsHonest x) (heard_in acts)
    → (t : Counted) → PolledOf core.image t 0 → IsWholeTally x t

-- the log of a run that has ended is a stream of what its publishers have claimed; and a receiver that was handed datagrams alone that
-- are honest for it, whose subscriber refused no message and has tallied as many as it has, has tallied all of its messages, in their
-- order
pub record TalliesItsRun (plan : Plan) (o : Outcome) (p : PublishersPublish plan o) : Type 0 where
  pub is : IsRunStream plan o p
  pub all : let x = stream_of p.log o.book is.closes.entries in
      (g : Geometry) (id : ℤ) (first core : Core) (acts : List CoreAct) → Represents first (new_receiver g id) → CoreLives first acts core → AllByRecursion (IsHonest x) (heard_in acts)
      → (t : Counted) → PolledOf core.image t 0 → IsWholeTally x t

abbrev pub TalliesAllOfARun : Type 0
TalliesAllOfARun = (plan : Plan) (o : Outcome) (p : PublishersPublish plan o) → TalliesItsRun plan o p
