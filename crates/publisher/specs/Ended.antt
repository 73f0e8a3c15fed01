-- What a publisher that has ended whole has read and published, and what was heard of that.
use Rattle.std.specs.Prelude.{◌≡◌, ◌<◌, ℕ, true, List, [], ◌∷◌, ◌++◌, length, map, Option, None, Some, Ok, IfSome}
use Rattle.std.specs.List.{AllByRecursion}
use Rattle.std.specs.declared.net.SocketAddr.{SocketAddr}
use Rattle.position.specs.Openings.{IsStart}
use Rattle.shared_log.specs.Steps.Handles.{LogValue, PublisherValue}
use Rattle.flow_control.specs.Stream.{flow_after, group_of}
use Rattle.shared_log.specs.Books.{IsCommittedBy, IsDone, ShowsBook}
use Rattle.shared_log.specs.Readers.{IsReaderOf, ReaderValue, known_of}
use Rattle.shared_log.specs.Handles.{IsNew}
use Rattle.shared_log.specs.declared.book.Book.{Book}
use Rattle.endpoint.specs.Fans.{Fanned}
use Rattle.endpoint.specs.declared.udp.Route.{Route}
use Rattle.agents.specs.LogSenders.{IsNewSenderBy}
use Rattle.sender_meaning.specs.Moments.{StreamCore}
use Rattle.sender_meaning.specs.StreamLives.{IsNewStreamCore, StreamLived}
use Rattle.options.specs.declared.ends.plans.PublishPlan.{PublishPlan}
use Rattle.peer.specs.Ties.{Tied}
use Rattle.peer.specs.declared.attendance.Attendance.{Attendance}
use Rattle.peer.specs.Endings.{is_whole}
use Rattle.peer.specs.declared.attended.ToldEnds.{ToldEnds}
use Rattle.publisher.specs.InputEnds.{EndsInput}
use Rattle.publisher.specs.declared.offering.reader.InputEnd.{InputEnd}
use Rattle.publisher.specs.declared.offering.reading.Reading.{Reading}
use Rattle.publisher.specs.declared.offering.reading.ReadingEnd.TheVariants.{All}
use Rattle.publisher.specs.Destinations.{AreDestinationsAlong}
use Rattle.publisher.specs.Endings.{heard_along}
use Rattle.publisher.specs.Farewells.{TellsFarewell, are_told_alone, ends_along}
use Rattle.publisher.specs.Judging.{stream_end_in}
use Rattle.publisher.specs.Openings.{AreOthers, IsKept, IsPlanned}
use Rattle.publisher.specs.Seeing.{ChannelDestination}
use Rattle.publisher.specs.Turns.{EndsBehind}
use Rattle.publisher.specs.declared.judging.Judged.{Judged}
use Rattle.publisher.specs.declared.log_end.LogEnd.{LogEnd}
use Rattle.publisher.specs.declared.sender_thread.ChannelSender.{ChannelSender}
use Rattle.publisher.specs.declared.sender_thread.SenderPasses.{SenderPasses}

-- nothing of the input is left; what was accepted of it was nothing, or one receiver was heard from the start to where that
-- ends, and no other
pub record HasArrived (r : Reading) (a : Attendance) : Type 0 where
  pub all : r.ended ≡ Ok All
  pub heard : is_whole a (Some r.offered.tail) ≡ true

abbrev pub reading_left : {I : Type 0} → Option (InputEnd I) → Option Reading
reading_left None = None
reading_left (Some left) = Some left.reading

abbrev pub AllArrived : Option Reading → Attendance → Type 0
AllArrived None a = ⊥
AllArrived (Some r) a = HasArrived r a

-- ---- the end of the log

-- a sender of this log's stream, to so many destinations, has lived from the log's start on, and this was its reader
pub record HasSent (l : LogValue) (destinations : ℕ) (r : ReaderValue) : Type 0 where
  pub first : StreamCore
  pub last : StreamCore
  pub begun : IsNewStreamCore (flow_after (group_of destinations) l.start []) l first
  pub start : IsStart l.identity.geometry l.start
  pub lived : StreamLived destinations first last
  pub reader : last.reads.reader ≡ r

-- a sender of this log's stream, to so many destinations, has lived, and knew no frames but such as these publishers have committed
pub record SendsCommitted (l : LogValue) (destinations : ℕ) (publishers : List PublisherValue) : Type 0 where
  pub first : StreamCore
  pub last : StreamCore
  pub begun : IsNewStreamCore (flow_after (group_of destinations) l.start []) l first
  pub start : IsStart l.identity.geometry l.start
  pub lived : StreamLived destinations first last
  pub known : AllByRecursion (IsCommittedBy publishers) (known_of last.reads.reader)

-- of this log the others and the keeper came back, with a reader of it, and the log, unless a thread still has it
pub record LeavesPasses (l : LogValue) (e : LogEnd) : Type 0 where
  pub log : IfSome e.log (λ m. m ≡ l)
  pub others : AreOthers l e.others.items
  pub keeper : IsKept l e.keeper
  pub reader : IsReaderOf l e.reader

-- of this log all passes came back but its first publisher's, and the log, unless a thread still has it; its reader is the one by which
-- it was sent to so many destinations
pub record LeavesLog (l : LogValue) (destinations : ℕ) (e : LogEnd) : Type 0 where
  pub passes : LeavesPasses l e
  pub sent : HasSent l destinations e.reader

-- the first publisher came back too, where the reading has ended
pub record CanClose {I : Type 0} (left : Option (InputEnd I)) (e : LogEnd) : Type 0 where
  pub log : LogValue
  pub leaves : LeavesPasses log e
  pub first : IfSome left (λ l. IsDone log l.publisher × (l.publisher.pass.right.parts ≡ 176))

-- it was closed, with this book
abbrev pub ShowsAll : Option LogValue → List PublisherValue → PublisherValue → Book → Type 0
ShowsAll None others p book = ⊥
ShowsAll (Some l) others p book = ShowsBook l (others ++ p ∷ []) book

abbrev pub IsClosed : {I : Type 0} → Option (InputEnd I) → LogEnd → Type 0
IsClosed None e = ⊥
IsClosed (Some left) e = (book : Book) × ShowsAll e.log e.others.items left.publisher book × AllByRecursion (IsCommittedBy (e.others.items ++ left.publisher ∷ [])) (known_of e.reader)

-- ---- what its devices have noted

-- a sender of this log's stream with these passes, from the log's start on, and whom its lines name
pub record IsBegun {D : Type 0} (l : LogValue) (passes : SenderPasses (Fanned (ChannelDestination D))) (peer : SocketAddr) (first : ChannelSender D) : Type 0 where
  pub reader : ReaderValue
  pub begun : IsNewSenderBy (flow_after (group_of (length passes.duty.device.ways)) l.start []) l reader first.agent
  pub passes_are : first.passes ≡ passes
  pub peer_is : first.peer ≡ peer

-- whom the device of each destination has heard, and the ends that it was given to tell, as it notes them itself: it has lived on from
-- the one that was handed in, through all cycles and the farewell, which tells the reading's end
pub record HasNoted {D : Type 0} (p : PublishPlan) (first : ChannelSender D) (r : Option Reading) (heard : List Attendance) (told : List (Option ToldEnds)) : Type 0 where
  pub last : ChannelSender D
  pub judged : Judged
  pub ends : EndsBehind p first last judged
  pub after : List (ChannelDestination D)
  pub farewell : TellsFarewell (stream_end_in r) last.passes.duty.device.ways after
  pub heard_are : heard ≡ map heard_along after
  pub told_are : told ≡ map ends_along after
  pub many : length heard ≡ length first.passes.duty.device.ways

-- by that each has received all
pub record AllHaveArrived {D : Type 0} (p : PublishPlan) (first : ChannelSender D) (r : Option Reading) (heard : List Attendance) (told : List (Option ToldEnds)) : Type 0 where
  pub noted : HasNoted p first r heard told
  pub arrived : AllByRecursion (AllArrived r) heard

abbrev pub ArrivesAt : {D : Type 0} → LogValue → SenderPasses (Fanned (ChannelDestination D)) → SocketAddr → PublishPlan → Option Reading → List Attendance → List (Option ToldEnds) → Type 0
ArrivesAt {D} l passes peer p r heard told = (first : ChannelSender D) × IsBegun l passes peer first × AllHaveArrived p first r heard told

-- ---- in all

-- for the plan all that the input had was read, and it was published, each message once and whole, in their order, by the first
-- publisher of a log of the plan, which had just been opened; and that has arrived at the peer of each of these routes, by what the device
-- of that one's own socket has noted, which was given no other end to tell than where its messages end, and none at which the stream is
-- broken off. The log was closed: the others have claimed nothing, so what the first has claimed, in the order of the stream, tiles it from
-- its start to its tail, and each frame of that is committed; and the sender has sent nothing else
pub record PublishesAll (p : PublishPlan) (routes : List Route) (old : Option (List ℕ)) : Type 0 where
  pub log : LogValue
  pub log_is : IsPlanned p log
  pub first : PublisherValue
  pub opened : IsNew log 0 first
  pub new : Option (List ℕ)
  pub last : PublisherValue
  pub reading : Reading
  pub ends : EndsInput p.end.form log old new first.pass last reading
  pub some : 0 < length routes
  pub passes : SenderPasses (Fanned (ChannelDestination Tied))
  pub destinations_are : AreDestinationsAlong p routes passes.duty.device.ways
  pub peer : SocketAddr
  pub heard : List Attendance
  pub told : List (Option ToldEnds)
  pub arrived : ArrivesAt log passes peer p (Some reading) heard told
  pub alone : are_told_alone p.geometry (stream_end_in (Some reading)) told ≡ true
  pub others : List PublisherValue
  pub others_are : AreOthers log others
  pub book : Book
  pub shows : ShowsBook log (others ++ last ∷ []) book
  pub sends : SendsCommitted log (length routes) (others ++ last ∷ [])
