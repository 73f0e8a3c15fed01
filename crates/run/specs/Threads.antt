-- What a run's threads have, and what they give back.
use Rattle.std.specs.Prelude.{◌≡◌, ◌≤◌, ◌<◌, ◌^◌, ◌==◌, ℕ, suc, ⊤, cond, List, [], ◌∷◌, length, map, slice_index}
use Rattle.std.specs.List.{AllByRecursion}
use Rattle.std.specs.Arc.{arc_value}
use Rattle.theory.specs.Position.{Geometry, max_message}
use Rattle.atomic_table.specs.Seated.{TableId}
use Rattle.shared_log.specs.Steps.Handles.{LogValue, PublisherValue, parts_in}
use Rattle.log_rule.specs.Claims.Sums.{total}
use Rattle.shared_log.specs.Books.{IsDone}
use Rattle.shared_log.specs.Parts.{IsNewReader}
use Rattle.endpoint.specs.Devices.{Device}
use Rattle.run_parties.specs.Messages.{HasPublished, IsRunClaim, message_in}
use Rattle.run_parties.specs.Passes.{HasNone, IsKept}
use Rattle.run_parties.specs.Receivers.{HasReceived, IsWaitingReceiver}
use Rattle.run_parties.specs.RunLogs.{IsRunLog}
use Rattle.run_parties.specs.declared.reception.Received.{Received}
use Rattle.run.specs.declared.passes.Parties.{Parties}
use Rattle.run.specs.declared.passes.Passes.{Passes}
use Rattle.run.specs.declared.passes.Publications.{Publications}
use Rattle.run.specs.declared.passes.Returned.{Returned}
use Rattle.run.specs.declared.passes.Size.{Size}
use Rattle.run_parties.specs.declared.receiver_threads.Waiting.{Waiting}
use Rattle.run.specs.declared.watch.Shown.{Shown}

-- a log that a run begins with, and no more to be done than it has room for
pub record IsSet (l : LogValue) (size : Size) : Type 0 where
  pub log : IsRunLog l
  pub whole : 8 ≤ size.task.length
  pub short : size.task.length ≤ max_message l.identity.geometry
  pub publishers : size.publishers ≤ 8
  pub receivers : size.receivers ≤ 8
  pub messages : size.task.messages < 2 ^ 32
  pub wanted : size.wanted < 2 ^ 63

-- ---- publishers

-- one of so many publishers, those with the lowest numbers, which has claimed nothing yet
pub record IsWaiting (l : LogValue) (publishers : ℕ) (p : PublisherValue) : Type 0 where
  pub done : IsDone l p
  pub none : HasNone p
  pub low : p.pass.number < publishers

-- one of them, which has claimed messages of this length, and paddings, and has nothing open
pub record IsBack (l : LogValue) (size : Size) (p : PublisherValue) : Type 0 where
  pub done : IsDone l p
  pub claims : AllByRecursion (IsRunClaim l.identity.geometry size.task.length p.pass.number) p.pass.right.claims
  pub few : total message_in p.pass.right.claims ≤ size.task.messages
  pub low : p.pass.number < size.publishers

-- how many messages it has claimed, if it has this number
abbrev pub accepted_as : ℕ → PublisherValue → ℕ
accepted_as number p = cond (p.pass.number == number) (total message_in p.pass.right.claims) 0

-- by their numbers, how many messages were accepted of publishers
pub record AreCounted (accepted : List ℕ) (publishers : List PublisherValue) : Type 0 where
  pub long : length accepted ≡ 8
  pub each : (n : ℕ) → n < 8 → slice_index accepted n ≡ total (accepted_as n) publishers

-- publishers that waited, and those that came back: each has claimed its messages 0, 1, 2 and so on, each committed whole, and paddings
abbrev pub HavePublished : LogValue → ℕ → List PublisherValue → List PublisherValue → Type 0
HavePublished l length [] [] = ⊤
HavePublished l length [] (q ∷ qs) = ⊥
HavePublished l length (p ∷ ps) [] = ⊥
HavePublished l length (p ∷ ps) (q ∷ qs) = HasPublished l length (total message_in q.pass.right.claims) p q × HavePublished l length ps qs

-- these publishers came back with the parts that they had, and what was accepted of them was counted
pub record HaveCome (l : LogValue) (size : Size) (waiting : List PublisherValue) (p : Publications) : Type 0 where
  pub published : HavePublished l size.task.length waiting p.publishers.items
  pub back : AllByRecursion (IsBack l size) p.publishers.items
  pub parts : map parts_in p.publishers.items ≡ map parts_in waiting
  pub counted : AreCounted p.accepted p.publishers.items

-- ---- receivers

-- its device; and the name of its counters, also of those that are shown
abbrev pub device_of : {D : Type 0} → Waiting D → D
device_of w = w.device

abbrev pub counters_of : {D : Type 0} → Waiting D → TableId
counters_of w = arc_value w.counters

abbrev pub shown_of : Shown → TableId
shown_of s = arc_value s.counters

-- some of so many receivers, by their numbers, which they have from this one on
abbrev pub AreWaitingFrom : {D : Type 0} → Geometry → ℕ → ℕ → List (Waiting D) → Type 0
AreWaitingFrom g count n [] = ⊤
AreWaitingFrom g count n (w ∷ ws) = IsWaitingReceiver g count n w × AreWaitingFrom g count (suc n) ws

-- receivers that had these devices have lived, by their numbers, which they have from this one on
abbrev pub HaveReceivedFrom : {D : Type 0} → (D → Device) → (D → Type 0) → Geometry → Size → ℕ → List D → List (Received D) → Type 0
HaveReceivedFrom device tells g size n [] [] = ⊤
HaveReceivedFrom device tells g size n [] (r ∷ rs) = ⊥
HaveReceivedFrom device tells g size n (d ∷ ds) [] = ⊥
HaveReceivedFrom device tells g size n (d ∷ ds) (r ∷ rs) = HasReceived device tells g size.receivers size.wanted n d r × HaveReceivedFrom device tells g size (suc n) ds rs

-- publishers came back, and receivers, which had these devices
pub record HaveEnded {D : Type 0} (device : D → Device) (tells : D → Type 0) (l : LogValue) (size : Size) (waiting : List PublisherValue) (before : List D) (p : Parties D) : Type 0 where
  pub published : HaveCome l size waiting p.published
  pub received : HaveReceivedFrom device tells l.identity.geometry size 0 before p.received.items

-- ---- all threads

-- so many publishers, a reader and the keeper of a log, clients and the taker of a queue, and so many receivers with as many
-- ways to them
pub record ArePasses {D : Type 0} (l : LogValue) (queue : TableId) (size : Size) (p : Passes D) : Type 0 where
  pub many : length p.publishers.items ≡ size.publishers
  pub publishers : AllByRecursion (IsWaiting l size.publishers) p.publishers.items
  pub reader : IsNewReader l 0 p.reader
  pub keeper : IsKept l p.keeper
  pub asking : p.asking.queue ≡ queue
  pub closing : p.closing.queue ≡ queue
  pub taker : p.taker.queue ≡ queue
  pub ways : length p.sends.ways ≡ size.receivers
  pub receivers_many : length p.receivers.items ≡ size.receivers
  pub receivers : AreWaitingFrom l.identity.geometry size.receivers 0 p.receivers.items

-- what the publishers have published is counted; and each receiver has lived over its device, and its subscriber has tallied what it
-- read
pub record AreReturned {D : Type 0} (device : D → Device) (tells : D → Type 0) (l : LogValue) (size : Size) (p : Passes D) (r : Returned D) : Type 0 where
  pub parties : HaveEnded device tells l size p.publishers.items (map device_of p.receivers.items) r.parties
  pub keeper : IsKept l r.keeper
