-- The stream of a run's log: what its publishers have claimed, with all their frames.
use Rattle.std.specs.Prelude.{ℕ, ℤ, ◌+◌, true, cond, List, [], ◌∷◌, ◌++◌, length, map}
use Rattle.std.specs.List.{AllByRecursion}
use Rattle.theory.specs.Bytes.{Identity}
use Rattle.theory.specs.Entry.{Entry, pieces_of}
use Rattle.theory.specs.Placed.{Pad}
use Rattle.theory.specs.Position.{Geometry, cuts_of}
use Rattle.publication.specs.declared.pass.ClaimRange.{ClaimRange}
use Rattle.shared_log.specs.Steps.Handles.{LogValue, PublisherValue}
use Rattle.shared_log.specs.declared.book.Book.{Book}
use Rattle.log_messages.specs.Closed.{ClosesAsStream}
use Rattle.receiver.specs.CoreLives.{CoreAct, CoreLives, heard_in}
use Rattle.receiver.specs.Lives.{IsHonest, IsStream, Stream}
use Rattle.receiver.specs.Representing.{Core, Represents}
use Rattle.options.specs.declared.run.made.Plan.{Plan}
use Rattle.run_parties.specs.Messages.{message_in, message_of}
use Rattle.run_parties.specs.Receivers.{new_receiver}
use Rattle.run_parties.specs.Receptions.{PolledOf}
use Rattle.run_parties.specs.Runs.{TalliesARun}
use Rattle.run_parties.specs.Tallies.{Counted}
use Rattle.run.specs.Outcomes.{PublishersPublish}
use Rattle.run.specs.declared.outcome.Outcome.{Outcome}

-- a claim with all its frames: those of a message, or a padding
abbrev pub entry_with : Identity → List ℕ → ClaimRange → Entry
entry_with i message c = record { start = c.start; owner = c.owner; padding = c.padding; cuts = c.cuts; frames = cond c.padding (map Pad c.cuts) (pieces_of true (cuts_of i.geometry (length message)) message) }

-- those of claims in order, of which the messages are a publisher's from this count on
abbrev pub entries_from : Identity → ℕ → ℕ → ℕ → List ClaimRange → List Entry
entries_from i length number count [] = []
entries_from i length number count (c ∷ cs) = entry_with i (message_of length number count) c ∷ entries_from i length number (count + message_in c) cs

abbrev pub its_entries : Identity → ℕ → PublisherValue → List Entry
its_entries i length q = entries_from i length q.pass.number 0 q.pass.right.claims

-- entries of a log that was closed, as a stream
abbrev pub stream_of : LogValue → Book → List Entry → Stream
stream_of l book es = record { identity = l.identity; start = l.start; tail = book.tail; entries = es }

-- where a receiver of a run was handed datagrams alone that are honest for this stream, and its subscriber refused no message, that has
-- tallied a run of the stream's messages
abbrev pub TalliesRuns : Stream → Type 0
TalliesRuns x =
    (g : Geometry) (id : ℤ) (first core : Core) (acts : List CoreAct) → Represents first (new_receiver g id) → CoreLives first acts core → AllByRecursion (IsHonest x) (heard_in acts)
    → (t : Counted) → PolledOf core.image t 0 → TalliesARun x core.image t

-- the log of a run that has ended is a stream of what its publishers have claimed, each one's messages 0, 1, 2 and so on, and paddings,
-- in its order; and that is what its receivers tally
pub record IsRunStream (plan : Plan) (o : Outcome) (p : PublishersPublish plan o) : Type 0 where
  pub closes : ClosesAsStream p.log (p.back ++ p.others) o.book (map (its_entries p.log.identity plan.length) p.back)
  pub stream : IsStream (stream_of p.log o.book closes.entries)
  pub tallies : TalliesRuns (stream_of p.log o.book closes.entries)

abbrev pub RunIsAStream : Type 0
RunIsAStream = (plan : Plan) (o : Outcome) (p : PublishersPublish plan o) → IsRunStream plan o p
