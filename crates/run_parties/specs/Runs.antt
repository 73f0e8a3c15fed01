-- What a subscriber of a run polls of its stream.
use Rattle.std.specs.Prelude.{◌≡◌, ℕ, ℤ, pos, List, [], Option, None, Some}
use Rattle.std.specs.List.{AllByRecursion}
use Rattle.theory.specs.Messages.{messages}
use Rattle.theory.specs.Position.{Geometry}
use Rattle.image.specs.Rebuilding.{Inserting, join_of}
use Rattle.receiver.specs.CoreLives.{CoreAct, CoreLives, heard_in}
use Rattle.receiver.specs.Lives.{IsHonest, IsStream, Stream}
use Rattle.receiver.specs.Representing.{Core, Represents}
use Rattle.run_parties.specs.Receivers.{new_receiver}
use Rattle.run_parties.specs.Receptions.{PolledOf}
use Rattle.run_parties.specs.Tallies.{Counted, IsTallyOf}

-- the tally of the stream's messages from the image's join to somewhere; of none without an image
abbrev pub TalliesARun : Stream → Option Inserting → Counted → Type 0
TalliesARun x None t = IsTallyOf [] t
TalliesARun x (Some i) t = (at : ℕ) × IsTallyOf (messages (join_of i) at x.entries) t

-- where each datagram that a receiver of a run heard is honest for a stream of the run's ids, and no message was refused, what its
-- subscriber has tallied are the messages of the stream from the image's join to where they end
abbrev pub GivesARun : Type 0
GivesARun =
    (x : Stream) → IsStream x → x.identity.session ≡ pos 1 → x.identity.stream ≡ pos 1001
    → (g : Geometry) (id : ℤ) (first core : Core) (acts : List CoreAct) → Represents first (new_receiver g id) → CoreLives first acts core → AllByRecursion (IsHonest x) (heard_in acts)
    → (t : Counted) → PolledOf core.image t 0 → TalliesARun x core.image t
