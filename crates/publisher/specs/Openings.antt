-- The log of a publisher, and the passes of its threads.
use Rattle.std.specs.Prelude.{◌≡◌, List, []}
use Rattle.std.specs.List.{AllByRecursion}
use Rattle.atomic_table.specs.Seated.{TableId}
use Rattle.theory.specs.Bytes.{Identity}
use Rattle.shared_log.specs.Steps.Handles.{LogValue, PublisherValue, parts_in}
use Rattle.log_rule.specs.Claims.Sums.{total}
use Rattle.shared_log.specs.Books.{IsDone}
use Rattle.shared_log.specs.Keepers.{KeeperValue}
use Rattle.options.specs.declared.ends.plans.PublishPlan.{PublishPlan}
use Rattle.publisher.specs.declared.sender_thread.SenderPasses.{SenderPasses}

abbrev pub identity_of : PublishPlan → Identity
identity_of p = record { geometry = p.geometry; session = p.session; stream = p.end.stream }

-- a log of this plan, with one consumer
pub record IsPlanned (p : PublishPlan) (l : LogValue) : Type 0 where
  pub identity : l.identity ≡ identity_of p
  pub start : l.start ≡ p.start
  pub consumers : l.consumers ≡ 1

-- a publisher that has claimed and committed nothing
abbrev pub HasNone : PublisherValue → Type 0
HasNone p = (p.pass.right.claims ≡ []) × (p.pass.work.frames ≡ [])

-- the publishers of this log beside the first, none of which publishes
pub record AreOthers (l : LogValue) (others : List PublisherValue) : Type 0 where
  pub done : AllByRecursion (IsDone l) others
  pub unclaimed : AllByRecursion HasNone others
  pub parts : total parts_in others ≡ 840

-- the log's keeper, which has claimed nothing
pub record IsKept (l : LogValue) (k : KeeperValue) : Type 0 where
  pub done : IsDone l k.held
  pub unclaimed : k.held.pass.right.claims ≡ []
  pub parts : k.held.pass.right.parts ≡ 8

-- the duty has the log's MTU, the passes are those of the log and the queue
pub record ArePasses {D : Type 0} (l : LogValue) (queue : TableId) (p : SenderPasses D) : Type 0 where
  pub size : p.duty.mtu ≡ l.identity.geometry.mtu
  pub client : p.client.queue ≡ queue
  pub taker : p.taker.queue ≡ queue
  pub keeper : IsKept l p.keeper
