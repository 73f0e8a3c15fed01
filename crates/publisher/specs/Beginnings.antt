-- What a publisher begins with.
use Rattle.std.specs.Prelude.{ℕ, ◌+◌, ◌*◌, ◌/◌, ◌%◌, ◌^◌, Option, None, Some}
use Rattle.loss_injector.specs.Losing.{Losing, begun}
use Rattle.peer.specs.Patience.{Patient, patient}
use Rattle.peer.specs.Watching.{Watching, watching}
use Rattle.shared_log.specs.Books.{IsDone}
use Rattle.shared_log.specs.Handles.{IsNew}
use Rattle.shared_log.specs.Parts.{IsNewReader}
use Rattle.options.specs.declared.ends.plans.PublishPlan.{PublishPlan}
use Rattle.publisher.specs.Openings.{AreOthers, ArePasses, IsPlanned, identity_of}
use Rattle.publisher.specs.declared.beginning.PublisherParts.{PublisherParts}

-- each of several destinations loses by a seed of its own
abbrev pub number_of : Option ℕ → ℕ
number_of None = 0
number_of (Some number) = number

abbrev pub seed_of : PublishPlan → Option ℕ → ℕ
seed_of p place = (p.end.seed + number_of place) % 2 ^ 64

-- three quarters of a term can be sent again; the only destination is never left behind
abbrev pub reach_of : PublishPlan → Option ℕ → Option ℕ
reach_of p None = None
reach_of p (Some number) = Some (3 * p.geometry.term_length / 4)

-- what fails is lost, datagrams get lost by the plan's rates and seed, and what comes of its stream is screened and noted, which
-- starts where the plan says
abbrev pub device_of : {D : Type 0} → PublishPlan → Option ℕ → D → Watching (Losing (Patient D))
device_of p place device = watching (begun (patient device) p.end.rates (seed_of p place)) (identity_of p) p.start (reach_of p place)

-- a log of the plan with its passes, a queue and a device
pub record ArePublisherParts {D : Type 0} (p : PublishPlan) (b : PublisherParts D) : Type 0 where
  pub log_is : IsPlanned p b.state.log
  pub publisher : IsDone b.state.log b.publisher
  pub new : IsNew b.state.log 0 b.publisher
  pub others : AreOthers b.state.log b.others.items
  pub reader : IsNewReader b.state.log 0 b.reader
  pub passes : ArePasses b.state.log b.conductor b.passes
