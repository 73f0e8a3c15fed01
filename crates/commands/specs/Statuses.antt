-- The statuses that a command line ends with.
use Rattle.std.specs.Prelude.{◌≡◌, ◌≢◌, ◌≤◌, ◌↔◌, ◌⊎◌, ℕ, List, [], codes, drop, Result, Ok, Err}
use Rattle.clap.specs.Words.{Kinds, Text, fault_of, matches_of}
use Rattle.peer.specs.declared.attendance.Ending.{Ending as Published}
use Rattle.peer.specs.declared.attendance.Ending.TheVariants as published
use Rattle.subscriber.specs.declared.ending.Ending.{Ending as EndedAs}
use Rattle.subscriber.specs.declared.ending.Ending.TheVariants as subscribed
use Rattle.subscriber.specs.declared.ending.Subscribed.{Subscribed}
use Rattle.run.specs.declared.outcome.Ending.{Ending as Ran}
use Rattle.run.specs.declared.outcome.Ending.TheVariants as ran
use Rattle.std.specs.Borrow.{Bor}
use Rattle.options.specs.Ends.Ways.{ExplainsNoWays}
use Rattle.options.specs.declared.ends.way_fault.WayFault.{WayFault}
use Rattle.options.specs.declared.ends.way_fault.WayFault.TheVariants as ways
use Rattle.options.specs.Ends.Plans.{ExplainsNoPublishPlan, ExplainsNoSubscribePlan, IsPublishPlanOf, IsSubscribePlanOf}
use Rattle.options.specs.declared.ends.ids.Drawn.{Drawn}
use Rattle.options.specs.declared.ends.fault.EndFault.{EndFault}
use Rattle.options.specs.declared.ends.options.PublishOptions.{PublishOptions}
use Rattle.options.specs.declared.ends.options.SubscribeOptions.{SubscribeOptions}
use Rattle.options.specs.declared.ends.plans.PublishPlan.{PublishPlan}
use Rattle.options.specs.declared.ends.plans.SubscribePlan.{SubscribePlan}
use Rattle.command_line.specs.CommandLines.{driver_app}
use Rattle.command_line.specs.Lines.{IsPublishOf, IsSubscribeOf, publish_app, subscribe_app}
use Rattle.command_line.specs.Readers.{help_line, reader_of}
use Rattle.command_line.specs.Refusals.{AreRefused, AskForHelp, HoldRefusal, IsRefusal}
use Rattle.command_line.specs.declared.fault.LineFault.{LineFault}
use Rattle.command_line.specs.declared.fault.LineFault.TheVariants.{Memory}
use Rattle.command_line.specs.declared.readers.Reader.{Reader}
use Rattle.command_line.specs.declared.readers.Reader.TheVariants.{Version, PublishHelp, SubscribeHelp, Publish, Subscribe, DecodeInput, Driver}

-- all was done, or a fault came
abbrev pub done_status : {T F : Type 0} → Result T F → ℕ
done_status (Ok done) = 0
done_status (Err fault) = 1

-- a run ended; a broken order is a fault
abbrev pub ran_status : {F : Type 0} → Result Ran F → ℕ
ran_status (Ok ran.Whole) = 0
ran_status (Ok ran.Short) = 3
ran_status (Ok ran.Broken) = 1
ran_status (Err fault) = 1

-- a publisher ended: by what its receivers had received, or by a fault
abbrev pub published_status : {F : Type 0} → Result Published F → ℕ
published_status (Ok published.Whole) = 0
published_status (Ok published.Short) = 3
published_status (Err fault) = 1

abbrev pub subscribed_as : EndedAs → ℕ
subscribed_as subscribed.Whole = 0
subscribed_as subscribed.Short = 3
subscribed_as subscribed.Lost = 3

-- a subscriber ended: as it was told to, or behind a silence before the stream's end, or with a stream cut off; or by a fault
abbrev pub subscribed_status : {F : Type 0} → Result Subscribed F → ℕ
subscribed_status (Ok done) = subscribed_as done.ending
subscribed_status (Err fault) = 1

-- a line isn't carried out: 2 where it was refused, 1 where memory was, else 0, or 1 where the help couldn't be written
pub record IsLineStatus (fault : LineFault) (status : ℕ) : Type 0 where
  pub most : status ≤ 2
  pub refused : (status ≡ 2) ↔ IsRefusal fault
  pub memory : fault ≡ Memory → status ≡ 1

-- a line of words against which the parser holds these: 2 where they are refused and 0 where they ask for help, or else 1, for
-- want of memory or where the help couldn't be written; 3 only where nothing is held against them
pub record IsStatusOf (faults : Kinds) (status : ℕ) : Type 0 where
  pub most : status ≤ 3
  pub refused : AreRefused faults → (status ≡ 2) ⊎ (status ≡ 1)
  pub help : AskForHelp faults → (status ≡ 0) ⊎ (status ≡ 1)
  pub short : status ≡ 3 → faults ≡ []

-- ---- why a line ends with 2

-- there are no ways to the endpoints of a plan's channel and these
abbrev pub NoWays : PublishPlan → List (Bor (List ℕ)) → Type 0
NoWays p to = (f : WayFault) × ExplainsNoWays p.end.transport to f × (f ≢ ways.Memory)

-- what an end is told makes no plan, for its channel or its rates, or there are no ways to its endpoints
abbrev pub NoPublishPlan : PublishOptions → Type 0
NoPublishPlan o =
    ((d : Drawn) × (f : EndFault) × ExplainsNoPublishPlan o d f)
    ⊎ ((d : Drawn) × (p : PublishPlan) × IsPublishPlanOf o d p × NoWays p o.to.items)

abbrev pub NoSubscribePlan : SubscribeOptions → Type 0
NoSubscribePlan o = (f : EndFault) × ExplainsNoSubscribePlan o f

-- it makes one
abbrev pub HasPublishPlan : PublishOptions → Type 0
HasPublishPlan o = (d : Drawn) × (p : PublishPlan) × IsPublishPlanOf o d p

abbrev pub HasSubscribePlan : SubscribeOptions → Type 0
HasSubscribePlan o = (d : Drawn) × (p : SubscribePlan) × IsSubscribePlanOf o d p

-- the parser holds something against the words, or what they tell makes no plan
abbrev pub RefusesPublish : List Text → Type 0
RefusesPublish words =
    HoldRefusal (fault_of publish_app words)
    ⊎ ((o : PublishOptions) × IsPublishOf (matches_of publish_app words) o × NoPublishPlan o)

abbrev pub RefusesSubscribe : List Text → Type 0
RefusesSubscribe words =
    HoldRefusal (fault_of subscribe_app words)
    ⊎ ((o : SubscribeOptions) × IsSubscribeOf (matches_of subscribe_app words) o × NoSubscribePlan o)

-- by who reads a line; its first word is the program's name
abbrev pub RefusesBy : Reader → List Text → Type 0
RefusesBy Version words = ⊥
RefusesBy PublishHelp words = RefusesPublish (help_line (codes "publish"))
RefusesBy SubscribeHelp words = RefusesSubscribe (help_line (codes "subscribe"))
RefusesBy Publish words = RefusesPublish (drop 1 words)
RefusesBy Subscribe words = RefusesSubscribe (drop 1 words)
RefusesBy DecodeInput words = ⊥
RefusesBy Driver words = HoldRefusal (fault_of driver_app words)

abbrev pub RefusesLine : List Text → Type 0
RefusesLine words = RefusesBy (reader_of (drop 1 words)) words
