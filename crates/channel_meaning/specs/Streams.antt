-- The stream that a publisher's pass has published, and what goes through it.
use Rattle.std.specs.Prelude.{◌≡◌, ◌≤◌, ℕ, true, false, List, [], ◌∷◌, ◌++◌, length, map, Option, None, Some}
use Rattle.std.specs.List.{AllByRecursion}
use Rattle.theory.specs.Bytes.{Identity}
use Rattle.theory.specs.Entry.{Entry, committed, pieces_of}
use Rattle.theory.specs.Messages.{messages}
use Rattle.theory.specs.Placed.{AllAmong, Among, Pad}
use Rattle.theory.specs.Position.{cuts_of}
use Rattle.theory.specs.Wire.{SETUP, spelling}
use Rattle.publication.specs.declared.pass.Pass.{Pass}
use Rattle.publisher.specs.Offers.{Publishes, Taken}
use Rattle.publisher.specs.Offers.Taken.{Message, Padding}
use Rattle.options.specs.declared.ends.plans.SubscribePlan.{SubscribePlan}
use Rattle.peer.specs.Farewells.{farewell_fields}
use Rattle.receiver.specs.Receiving.{Opened, Receiver}
use Rattle.receiver.specs.Subscribing.{RepresentsSubscriber, Subscribing}
use Rattle.receiver.specs.Lives as meant
use Rattle.receiver.specs.Lives.{IsStream, Stream}
use Rattle.sender_meaning.specs.Lives.{IsSpelled, SendsStream, source_in}
use Rattle.sender_meaning.specs.Moments.{StreamCore}
use Rattle.sender_meaning.specs.StreamLives.{StreamAct, StreamLives, given_in_all}
use Rattle.subscriber.specs.Living.{IsLife, Life, WritesLives}

-- a claim with all its frames, as an entry of its log
abbrev pub entry_of : Identity → ℕ → Taken → Entry
entry_of i number (Message start message) =
    record { start = start; owner = number; padding = false; cuts = cuts_of i.geometry (length message); frames = pieces_of true (cuts_of i.geometry (length message)) message }
entry_of i number (Padding start bytes) = record { start = start; owner = number; padding = true; cuts = bytes ∷ []; frames = Pad bytes ∷ [] }

-- what a pass has claimed since is the stream, whole
pub record IsItsStream (p : Pass) (taken : List Taken) (x : Stream) : Type 0 where
  pub identity : x.identity ≡ p.identity
  pub entries : x.entries ≡ map (entry_of p.identity p.number) taken

-- these messages, each once and whole, in their order, are those of the stream
abbrev pub PublishesItsStream : Type 0
PublishesItsStream =
    (p q : Pass) (tail to : ℕ) (read : List (List ℕ)) (h : Publishes p tail read q to) (x : Stream)
    → IsStream x → IsItsStream p h.taken x → messages x.start x.tail x.entries ≡ read

-- ---- both ends

-- the stream's farewell, which tells where it ends, whole
abbrev pub farewell : Stream → List ℕ
farewell x = spelling (SETUP (farewell_fields (record { geometry = x.identity.geometry; session = x.identity.session; stream = x.identity.stream }) (record { position = x.tail; broken = false })))

-- this image's SETUP is among these datagrams, and so is all that its subscriber was handed, but for the farewell, in any order, and
-- each any number of times
pub record IsFromIt (x : Stream) (sent : List (List ℕ)) (l : Life) : Type 0 where
  pub session : l.setup.session ≡ x.identity.session
  pub stream : l.setup.stream ≡ x.identity.stream
  pub setup : Among (spelling (SETUP l.setup)) sent
  pub heard : AllByRecursion (λ bytes. Among bytes (farewell x ∷ sent)) (meant.heard_in l.acts)

-- these stand among all of them in one piece, with others before and behind; at the start nothing stands before them
pub record StandsIn (all given : List (List ℕ)) (AtStart : Type 0) : Type 0 where
  pub before : List (List ℕ)
  pub behind : List (List ℕ)
  pub parts : all ≡ before ++ (given ++ behind)
  pub first : AtStart → before ≡ []

-- by where the image joined
abbrev pub StandsFrom : Stream → List (List ℕ) → Option Opened → List (List ℕ) → Type 0
StandsFrom x read None given = given ≡ []
StandsFrom x read (Some o) given = StandsIn read given (o.image.join ≤ x.start)

-- what an image gave are the stream's messages from its join to where its consumer stands, and a run of what was read, and its
-- beginning where it joined at the stream's start
pub record GivesRun (x : Stream) (read : List (List ℕ)) (plan : SubscribePlan) (l : Life) : Type 0 where
  pub end : Subscribing
  pub life : IsLife plan l end
  pub receiver : Receiver
  pub shown : RepresentsSubscriber end receiver
  pub run : meant.IsRunOf x receiver.image (meant.given_in l.acts)
  pub stands : StandsFrom x read receiver.image (meant.given_in l.acts)

-- the messages of the stream are those that were read, and what each image of a subscriber gave is a run of them
pub record GoesThrough (x : Stream) (read : List (List ℕ)) (plan : SubscribePlan) (images : List Life) : Type 0 where
  pub published : messages x.start x.tail x.entries ≡ read
  pub runs : AllByRecursion (GivesRun x read plan) images

-- where a pass has published what was read, a sender of that stream lives, to whatever destinations, and each image at a place of a
-- subscriber was handed nothing but what that sender gave out, what is written of that place is what these images gave, one after the
-- other: runs of what was read
abbrev pub WritesWhatIsRead : Type 0
WritesWhatIsRead =
    (x : Stream) → IsStream x → IsSpelled x
    → (p q : Pass) (tail to : ℕ) (read : List (List ℕ)) (h : Publishes p tail read q to) → IsItsStream p h.taken x
    → (destinations : ℕ) (s t : StreamCore) (sent : List StreamAct) → SendsStream x s → StreamLives destinations s sent t → AllAmong (committed x.entries) (source_in t.reads).frames
    → (plan : SubscribePlan) (place : ℕ) (before after : Option (List ℕ)) (count : ℕ) (w : WritesLives plan place before count after) → AllByRecursion (IsFromIt x (given_in_all sent)) w.images
    → GoesThrough x read plan w.images
