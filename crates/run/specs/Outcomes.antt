-- What a run leaves.
use Rattle.std.specs.Prelude.{◌≡◌, ◌*◌, ◌<◌, ◌≤◌, ◌==◌, ◌&&◌, ◌++◌, ℕ, Bool, not, cond, List, count_by, length, map, slice_index, sum, sum_by, take, nat_le, if◌then◌else◌}
use Rattle.std.specs.List.{AllByRecursion, list_all}
use Rattle.theory.specs.Position.{Geometry, framed_length}
use Rattle.theory.specs.Entry.{Entry, length_of}
use Rattle.theory.specs.Tiling.{Tiles, share_of}
use Rattle.shared_log.specs.Steps.Handles.{LogValue, PublisherValue}
use Rattle.shared_log.specs.Books.{ShowsBook}
use Rattle.shared_log.specs.declared.book.Book.{Book}
use Rattle.options.specs.declared.run.made.Plan.{Plan}
use Rattle.endpoint.specs.Devices.{Device}
use Rattle.endpoint.specs.Udp.{Udp}
use Rattle.loss_injector.specs.Losing.{Losing}
use Rattle.run_parties.specs.Devices.{AreLossy}
use Rattle.run_parties.specs.Passes.{HasNone}
use Rattle.run_parties.specs.RunLogs.{IsRunLog}
use Rattle.run_parties.specs.Tallies.{Counted, IsTally}
use Rattle.run_parties.specs.declared.reception.Received.{Received}
use Rattle.run.specs.Threads.{AreCounted, HavePublished, HaveReceivedFrom, IsWaiting}
use Rattle.run.specs.declared.passes.Size.{Size}
use Rattle.run.specs.declared.outcome.Outcome.{Outcome}
use Rattle.run.specs.declared.outcome.Polled.{Polled}
use Rattle.run.specs.declared.outcome.Ending.{Ending}
use Rattle.run.specs.declared.outcome.Ending.TheVariants.{Broken, Short, Whole}

-- a message of the publisher with this number, and no padding
abbrev pub is_message_of : ℕ → Entry → Bool
is_message_of number e = (e.owner == number) && not e.padding

-- how many there are of them, and how many bytes they cover
abbrev pub messages_of : ℕ → List Entry → ℕ
messages_of number log = count_by (is_message_of number) log

abbrev pub message_bytes : ℕ → List Entry → ℕ
message_bytes number log = sum_by (λ e. cond (is_message_of number e) (length_of e) 0) log

-- entries tile the stream from 0 to the tail. Each publisher has the share of those that it owns, and so many messages among
-- them as were accepted of it, of this length; those from this number on have none
pub record IsBook (g : Geometry) (length publishers : ℕ) (accepted : List ℕ) (book : Book) : Type 0 where
  pub start : book.start ≡ 0
  pub shares : sum book.shares ≡ book.tail
  pub log : List Entry
  pub tiles : Tiles g.term_length 0 book.tail log
  pub owned : (n : ℕ) → n < 8 → slice_index book.shares n ≡ share_of n log
  pub messages : (n : ℕ) → n < 8 → messages_of n log ≡ slice_index accepted n
  pub bytes : (n : ℕ) → n < 8 → message_bytes n log ≡ slice_index accepted n * framed_length g length
  pub others : (n : ℕ) → publishers ≤ n → n < 8 → slice_index book.shares n ≡ 0

-- what is told of a subscriber's tally
abbrev pub polled_of : Counted → Polled
polled_of t = record { polled = t.polled; kept = t.kept }

-- of a tally of some messages, no more than were wanted
pub record IsPolled (wanted : ℕ) (p : Polled) : Type 0 where
  pub most : p.polled ≤ wanted
  pub counts : List ℕ
  pub tally : IsTally (record { polled = p.polled; kept = p.kept; counts = counts })

-- a run of this size over a log of this shape left this: each receiver has its tally
pub record IsLeft (g : Geometry) (size : Size) (o : Outcome) : Type 0 where
  pub publishers : o.publishers ≡ size.publishers
  pub messages : o.messages ≡ size.task.messages
  pub wanted : o.wanted ≡ size.wanted
  pub receivers : length o.tallies.items ≡ size.receivers
  pub tallies : AllByRecursion (IsPolled o.wanted) o.tallies.items
  pub book : IsBook g size.task.length size.publishers o.accepted o.book

-- of each publisher all messages were accepted
abbrev pub all_accepted : Outcome → Bool
all_accepted o = list_all (λ n. n == o.messages) (take o.publishers o.accepted)

-- each subscriber polled all
abbrev pub all_polled : Outcome → Bool
all_polled o = list_all (λ p. nat_le o.wanted p.polled) o.tallies.items

-- and at each the order was kept
abbrev pub all_kept : Outcome → Bool
all_kept o = list_all (λ p. p.kept) o.tallies.items

-- a broken order comes first, then a message that wasn't accepted or polled
abbrev pub ending_of : Outcome → Ending
ending_of o = if all_kept o then (if all_polled o && all_accepted o then Whole else Short) else Broken

-- ---- of a plan

-- what it asks for
abbrev pub size_of : Plan → Size
size_of plan = record {
  task = record { messages = plan.messages; length = plan.length; turns = plan.turns };
  publishers = plan.publishers;
  receivers = plan.receivers;
  wanted = plan.publishers * plan.messages;
}

-- a run of this plan left this
abbrev pub IsOutcome : Plan → Outcome → Type 0
IsOutcome plan o = IsLeft plan.geometry (size_of plan) o

-- ---- what receivers lived through

abbrev pub device_in : {D : Type 0} → Received D → D
device_in r = r.device

abbrev pub told_of : {D : Type 0} → Received D → Polled
told_of r = polled_of r.tally

-- each receiver of a run of this plan has lived over its device, from these on up to those; and what is told of it is the tally of
-- the messages of frames that its subscriber read
pub record ReceiversLive {D : Type 0} (device : D → Device) (tells : D → Type 0) (plan : Plan) (before after : List D) (told : List Polled) : Type 0 where
  pub received : List (Received D)
  pub devices : after ≡ map device_in received
  pub tallies : told ≡ map told_of received
  pub lived : HaveReceivedFrom device tells plan.geometry (size_of plan) 0 before received

-- publishers of a run's log, which had claimed nothing, have each claimed their messages 0, 1, 2 and so on, of the plan's length,
-- each committed whole, and paddings, so many as are told were accepted; others have claimed nothing, and the book is of them all
pub record PublishersPublish (plan : Plan) (o : Outcome) : Type 0 where
  pub log : LogValue
  pub log_is : IsRunLog log
  pub shape : log.identity.geometry ≡ plan.geometry
  pub waiting : List PublisherValue
  pub back : List PublisherValue
  pub others : List PublisherValue
  pub many : length waiting ≡ plan.publishers
  pub new : AllByRecursion (IsWaiting log plan.publishers) waiting
  pub published : HavePublished log plan.length waiting back
  pub counted : AreCounted o.accepted back
  pub unclaimed : AllByRecursion HasNone others
  pub book : ShowsBook log (back ++ others) o.book

-- receivers live so over devices that lose as the plan says; one over UDP doesn't tell what it handed over
abbrev pub udp_device : Losing Udp → Device
udp_device l = l.inner.device

abbrev pub udp_tells : Losing Udp → Type 0
udp_tells l = ⊥

pub record ReceiversLiveLossily (plan : Plan) (told : List Polled) : Type 0 where
  pub ways : List (Losing Udp)
  pub before : List (Losing Udp)
  pub after : List (Losing Udp)
  pub lossy : AreLossy plan.rates plan.seed plan.receivers ways before
  pub lived : ReceiversLive udp_device udp_tells plan before after told
