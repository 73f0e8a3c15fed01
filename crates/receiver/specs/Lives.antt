-- A subscriber's life: what it meets, one thing after the other, and the messages that its polls give.
use Rattle.std.specs.Prelude.{◌≡◌, ◌⊎◌, ◌≤◌, ⊤, ℕ, ℤ, List, [], ◌∷◌, Option, None, Some, Ok, Err}
use Rattle.std.specs.List.{AllByRecursion}
use Rattle.theory.specs.Position.{IsGeometry, max_position}
use Rattle.theory.specs.Wire.{Setup, Wire, DATA, PAD, HEARTBEAT, NAK, SM, SETUP, SpellsDatagram}
use Rattle.theory.specs.Bytes.{Identity, wire_at}
use Rattle.theory.specs.Placed.{Among, Placed}
use Rattle.theory.specs.Entry.{Entry, IsEntry, committed}
use Rattle.theory.specs.Tiling.{Tiles}
use Rattle.theory.specs.Messages.{messages}
use Rattle.theory.specs.Consumer.{Consumer}
use Rattle.theory.specs.Control.{setup_fields}
use Rattle.receiver.specs.Receiving.{Opened, Receiver, TakesDatagram, listening, ticked}
use Rattle.receiver.specs.Subscribing.{RepresentsSubscriber, Subscribing, SubscriberBecomes}
use Rattle.receiver.specs.Polling.{Polls}
use Rattle.receiver.specs.declared.receiver_core.Outcome.{Outcome}
use Rattle.receiver.specs.declared.poll_error.PollError.TheVariants.{NoImage}

-- ---- a stream, and what is honest for it

-- the entries of a log, as they stand at its end
pub record Stream : Type 0 where
  pub identity : Identity
  pub start : ℕ
  pub tail : ℕ
  pub entries : List Entry

pub record IsStream (x : Stream) : Type 0 where
  pub geometry : IsGeometry x.identity.geometry
  pub tiles : Tiles x.identity.geometry.term_length x.start x.tail x.entries
  pub entries : AllByRecursion IsEntry x.entries
  pub tail_low : x.tail ≤ max_position x.identity.geometry

-- these are the stream's ids
abbrev pub IsIts : Stream → ℤ → ℤ → Type 0
IsIts x session stream = (session ≡ x.identity.session) × (stream ≡ x.identity.stream)

-- a committed frame of the stream, in its place
abbrev pub WasCommitted : Stream → Wire → Type 0
WasCommitted x w = (s : Placed) × Among s (committed x.entries) × (w ≡ wire_at x.identity s.at s.frame)

-- it names the stream's shape and a position of it, with whatever time to live: a farewell's is -1
abbrev pub NamesIt : Stream → Setup → Type 0
NamesIt x f = (p : ℕ) × (p ≤ max_position x.identity.geometry) × (f ≡ record (setup_fields x.identity p) { ttl = f.ttl })

-- what a frame must be, if it has the stream's ids
abbrev pub IsHonestFrame : Stream → Wire → Type 0
IsHonestFrame x (DATA h flags payload) = IsIts x h.session h.stream → WasCommitted x (DATA h flags payload)
IsHonestFrame x (PAD h n) = IsIts x h.session h.stream → WasCommitted x (PAD h n)
IsHonestFrame x (HEARTBEAT h) = ⊤
IsHonestFrame x (NAK f) = ⊤
IsHonestFrame x (SM asks f) = ⊤
IsHonestFrame x (SETUP f) = IsIts x f.session f.stream → NamesIt x f

-- each frame of a datagram; bytes that are none are refused, and so honest
abbrev pub IsHonest : Stream → List ℕ → Type 0
IsHonest x bytes = (frames : List Wire) → SpellsDatagram frames bytes → AllByRecursion (IsHonestFrame x) frames

-- ---- a life

pub data Act : Type 0 where
  Hears : (now : ℕ) (bytes : List ℕ) → Act
  Ticks : (now : ℕ) → Act
  Gives : (message : List ℕ) → Act
  GivesNone : Act

abbrev pub ActsSo : Subscribing → Act → Subscribing → Type 0
ActsSo s (Hears now bytes) t = (outcomes : List Outcome) × SubscriberBecomes s t (λ r q. TakesDatagram r now bytes outcomes q)
ActsSo s (Ticks now) t = (r : Receiver) → RepresentsSubscriber s r → RepresentsSubscriber t (ticked r now)
ActsSo s (Gives message) t = SubscriberBecomes s t (λ r q. Polls r (Ok (Some message)) q)
ActsSo s GivesNone t = SubscriberBecomes s t (λ r q. Polls r (Ok None) q) ⊎ SubscriberBecomes s t (λ r q. Polls r (Err NoImage) q)

abbrev pub Lives : Subscribing → List Act → Subscribing → Type 0
Lives s [] t = t ≡ s
Lives s (act ∷ acts) t = (u : Subscribing) × ActsSo s act u × Lives u acts t

-- the datagrams that it was handed, and the messages that its polls gave
abbrev pub heard_in : List Act → List (List ℕ)
heard_in [] = []
heard_in (Hears now bytes ∷ acts) = bytes ∷ heard_in acts
heard_in (Ticks now ∷ acts) = heard_in acts
heard_in (Gives message ∷ acts) = heard_in acts
heard_in (GivesNone ∷ acts) = heard_in acts

abbrev pub given_in : List Act → List (List ℕ)
given_in [] = []
given_in (Hears now bytes ∷ acts) = given_in acts
given_in (Ticks now ∷ acts) = given_in acts
given_in (Gives message ∷ acts) = message ∷ given_in acts
given_in (GivesNone ∷ acts) = given_in acts

-- ---- the law

-- these are the stream's messages from the image's join to where its one consumer stands; none without an image
abbrev pub IsRunOf : Stream → Option Opened → List (List ℕ) → Type 0
IsRunOf x None given = given ≡ []
IsRunOf x (Some o) given = (c : Consumer) × (o.image.consumers ≡ c ∷ []) × (c.join ≡ o.image.join) × (given ≡ messages c.join c.at x.entries)

-- a subscriber that was handed a datagram and lives on from there, all of them honest
abbrev pub PollsARun : Type 0
PollsARun =
    (x : Stream) → IsStream x → (window greatest moment : ℕ) (id : ℤ) (first : List ℕ) (outcomes : List Outcome) (r : Receiver)
    → TakesDatagram (listening x.identity.session x.identity.stream window id 1 greatest) moment first outcomes r → IsHonest x first
    → (s t : Subscribing) (acts : List Act) → RepresentsSubscriber s r → Lives s acts t → AllByRecursion (IsHonest x) (heard_in acts)
    → (q : Receiver) × RepresentsSubscriber t q × IsRunOf x q.image (given_in acts)
