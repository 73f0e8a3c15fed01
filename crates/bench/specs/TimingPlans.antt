-- What the plan of a measurement is made of.
use Rattle.std.specs.Prelude.{◌≡◌, ◌/◌, pos}
use Rattle.theory.specs.Position.{Geometry}
use Rattle.theory.specs.Loss as losses
use Rattle.latency.specs.declared.plan.Plan.{Plan}
use Rattle.bench.specs.declared.timing.TimingOptions.{TimingOptions}

abbrev pub geometry_of : TimingOptions → Geometry
geometry_of o = record { term_length = o.term; mtu = o.mtu; initial_term_id = pos 7 }

-- datagrams are lost, and none is repeated or held back
abbrev pub rates_of : TimingOptions → losses.Rates
rates_of o = record { drop = o.loss; repeat = 0; hold = 0 }

pub record IsTimingPlan (o : TimingOptions) (p : Plan) : Type 0 where
  pub geometry : p.geometry ≡ geometry_of o
  pub publishers : p.load.publishers ≡ o.publishers
  pub length : p.load.length ≡ o.length
  pub messages : p.load.messages ≡ o.messages / o.publishers
  pub rate : p.load.rate ≡ o.rate
  pub loss : p.loss ≡ o.loss
  pub rates : p.rates ≡ rates_of o
  pub seed : p.seed ≡ o.seed
