-- What a plan is made of, and why what a run is told makes none.
use Rattle.std.specs.Prelude.{◌≡◌, ◌+◌, ◌<◌, ◌≤◌, pos}
use Rattle.theory.specs.Loss as loss
use Rattle.theory.specs.Position.{Geometry, IsMtu, IsTermLength, max_message}
use Rattle.options.specs.declared.run.fault.PlanFault.{PlanFault}
use Rattle.options.specs.declared.run.fault.PlanFault.TheVariants.{TermLength, Mtu, Length, Rates}
use Rattle.options.specs.declared.run.options.RunOptions.{RunOptions}
use Rattle.options.specs.declared.run.made.Plan.{Plan}

abbrev pub geometry_of : RunOptions → Geometry
geometry_of o = record { term_length = o.term; mtu = o.mtu; initial_term_id = pos 7 }

abbrev pub rates_of : RunOptions → loss.Rates
rates_of o = record { drop = o.loss; repeat = o.repeat; hold = o.hold }

-- this shape and these rates, and all else as it was told
pub record IsPlanWith (geometry : Geometry) (rates : loss.Rates) (o : RunOptions) (p : Plan) : Type 0 where
  pub shape : p.geometry ≡ geometry
  pub chances : p.rates ≡ rates
  pub publishers : p.publishers ≡ o.publishers
  pub receivers : p.receivers ≡ o.receivers
  pub messages : p.messages ≡ o.messages
  pub length : p.length ≡ o.length
  pub seed : p.seed ≡ o.seed
  pub turns : p.turns ≡ o.turns
  pub counters : p.counters ≡ o.counters

abbrev pub IsPlanOf : RunOptions → Plan → Type 0
IsPlanOf o = IsPlanWith (geometry_of o) (rates_of o) o

-- the message fits the geometry
abbrev pub Fits : RunOptions → Type 0
Fits o = o.length ≤ max_message (geometry_of o)

pub record IsFaultless (o : RunOptions) : Type 0 where
  pub term : IsTermLength o.term
  pub mtu : IsMtu o.term o.mtu
  pub length : Fits o
  pub rates : loss.IsRates (rates_of o)

-- the fault holds, and none that is judged before it
abbrev pub IsFirstFault : RunOptions → PlanFault → Type 0
IsFirstFault o TermLength = ¬ IsTermLength o.term
IsFirstFault o Mtu = IsTermLength o.term × (¬ IsMtu o.term o.mtu)
IsFirstFault o Length = IsTermLength o.term × IsMtu o.term o.mtu × (max_message (geometry_of o) < o.length)
IsFirstFault o Rates = IsTermLength o.term × IsMtu o.term o.mtu × Fits o × (1000 < o.loss + o.repeat + o.hold)
