-- What a command line has done that ends with 0, or with 3, where the input and the output tell their bytes.
use Rattle.std.specs.Prelude.{◌≡◌, ◌⊎◌, ◌≤◌, ℕ, List, codes, drop, Option}
use Rattle.std.specs.Borrow.{Bor}
use Rattle.std.specs.Io.KnownBytes.{Appends}
use Rattle.clap.specs.Words.{Text, matches_of}
use Rattle.theory.specs.Wire.{Wire}
use Rattle.channel.specs.declared.channel.Transport.{Transport}
use Rattle.endpoint.specs.declared.udp.Route.{Route}
use Rattle.options.specs.Ends.Plans.{IsPublishPlanOf, IsSubscribePlanOf}
use Rattle.options.specs.Ends.Ways.{AreWays}
use Rattle.options.specs.declared.ends.ids.Drawn.{Drawn}
use Rattle.options.specs.declared.ends.options.PublishOptions.{PublishOptions}
use Rattle.options.specs.declared.ends.options.SubscribeOptions.{SubscribeOptions}
use Rattle.options.specs.declared.ends.plans.PublishPlan.{PublishPlan}
use Rattle.options.specs.declared.ends.plans.SubscribePlan.{SubscribePlan}
use Rattle.run.specs.declared.outcome.Ending.TheVariants as ran
use Rattle.publisher.specs.Ended.{PublishesAll}
use Rattle.subscriber.specs.Endings.{HasEnded}
use Rattle.subscriber.specs.Living.{Writes, WritesPlaces}
use Rattle.subscriber.specs.declared.ending.Ending.{Ending as EndedAs}
use Rattle.subscriber.specs.declared.ending.Ending.TheVariants as subscribed
use Rattle.subscriber.specs.declared.ending.Subscribed.{Subscribed}
use Rattle.command_line.specs.CommandLines.{AsksFor}
use Rattle.command_line.specs.Lines.{IsPublishOf, IsSubscribeOf, publish_app, subscribe_app}
use Rattle.command_line.specs.Readers.{help_line, reader_of}
use Rattle.command_line.specs.declared.choice.Options.{Options}
use Rattle.command_line.specs.declared.choice.Options.TheVariants.{Sim, Decode, Run}
use Rattle.command_line.specs.declared.readers.Reader.{Reader}
use Rattle.command_line.specs.declared.readers.Reader.TheVariants.{Version, PublishHelp, SubscribeHelp, Publish, Subscribe, DecodeInput, Driver}
use Rattle.commands.specs.DecodedInput.{DecodesInput}
use Rattle.commands.specs.Decoding.{SaysFrames}
use Rattle.commands.specs.FrameLines.{frame_lines}
use Rattle.commands.specs.Routes.{ArePeersApart, AreRoutesAlong}
use Rattle.commands.specs.Running.{IsLeftBy}
use Rattle.commands.specs.Scripting.{PlaysInput}
use Rattle.commands.specs.Statuses.{HasPublishPlan}

-- ---- sim, decode and run

-- a line was written for each frame of the datagram that a word spells
abbrev pub DecodesWord : List ℕ → Option (List ℕ) → Option (List ℕ) → Type 0
DecodesWord word before after = (frames : List Wire) × SaysFrames word frames × Appends before after (frame_lines frames)

-- all that is asked for is done
abbrev pub IsDriven : Options → Option (List ℕ) → Option (List ℕ) → Option (List ℕ) → Type 0
IsDriven Sim input before after = PlaysInput input before after
IsDriven (Decode word) input before after = DecodesWord word.now before after
IsDriven (Run o) input before after = IsLeftBy o before after ran.Whole

-- less is done: a run was short
abbrev pub IsDrivenShort : Options → Option (List ℕ) → Option (List ℕ) → Type 0
IsDrivenShort Sim before after = ⊥
IsDrivenShort (Decode word) before after = ⊥
IsDrivenShort (Run o) before after = IsLeftBy o before after ran.Short

abbrev pub DrivesBy : List Text → Option (List ℕ) → Option (List ℕ) → Option (List ℕ) → Type 0
DrivesBy words input before after = (o : Options) × AsksFor o words × IsDriven o input before after

abbrev pub DrivesShortBy : List Text → Option (List ℕ) → Option (List ℕ) → Type 0
DrivesShortBy words before after = (o : Options) × AsksFor o words × IsDrivenShort o before after

-- ---- publish

-- all of the input was published along a route along each of these ways, in order, to peers of which no two are one
pub record PublishesAlong (p : PublishPlan) (ways : List Transport) (input : Option (List ℕ)) : Type 0 where
  pub routes : List Route
  pub along : AreRoutesAlong ways routes
  pub apart : ArePeersApart routes
  pub published : PublishesAll p routes input

-- along the ways to the channel's endpoint and to these
pub record PublishesTo (p : PublishPlan) (to : List (Bor (List ℕ))) (input : Option (List ℕ)) : Type 0 where
  pub ways : List Transport
  pub lead : AreWays p.end.transport to ways
  pub published : PublishesAlong p ways input

-- by a plan of what was told
pub record PublishesTold (o : PublishOptions) (input : Option (List ℕ)) : Type 0 where
  pub drawn : Drawn
  pub plan : PublishPlan
  pub planned : IsPublishPlanOf o drawn plan
  pub published : PublishesTo plan o.to.items input

abbrev pub PublishesBy : List Text → Option (List ℕ) → Type 0
PublishesBy words input = (o : PublishOptions) × IsPublishOf (matches_of publish_app words) o × PublishesTold o input

-- it had a plan to publish by
abbrev pub HasPlanBy : List Text → Type 0
HasPlanBy words = (o : PublishOptions) × IsPublishOf (matches_of publish_app words) o × HasPublishPlan o

-- ---- subscribe

-- a subscriber of this plan has ended so: what was written are whole messages, which the polls of its images gave, of each session its own,
-- in their order
pub record IsSubscribed (p : SubscribePlan) (before after : Option (List ℕ)) (ending : EndedAs) : Type 0 where
  pub done : Subscribed
  pub ended_as : done.ending ≡ ending
  pub few : done.messages ≤ p.messages
  pub writes : Writes p.end.form 0 before done.messages after
  pub lives : WritesPlaces p before done.messages after
  pub ended : HasEnded p before done after

-- by a plan of what was told
pub record IsSubscribedTold (o : SubscribeOptions) (before after : Option (List ℕ)) (ending : EndedAs) : Type 0 where
  pub drawn : Drawn
  pub plan : SubscribePlan
  pub planned : IsSubscribePlanOf o drawn plan
  pub subscribed : IsSubscribed plan before after ending

abbrev pub SubscribesBy : List Text → Option (List ℕ) → Option (List ℕ) → EndedAs → Type 0
SubscribesBy words before after ending = (o : SubscribeOptions) × IsSubscribeOf (matches_of subscribe_app words) o × IsSubscribedTold o before after ending

-- it wasn't told each stream's end, or a stream of it was cut off
abbrev pub SubscribesShortBy : List Text → Option (List ℕ) → Option (List ℕ) → Type 0
SubscribesShortBy words before after = SubscribesBy words before after subscribed.Short ⊎ SubscribesBy words before after subscribed.Lost

-- ---- any line, by who reads it; its first word is the program's name

abbrev pub IsDoneBy : Reader → List Text → Option (List ℕ) → Option (List ℕ) → Option (List ℕ) → Type 0
IsDoneBy Version words input before after = ⊥
IsDoneBy PublishHelp words input before after = PublishesBy (help_line (codes "publish")) input
IsDoneBy SubscribeHelp words input before after = SubscribesBy (help_line (codes "subscribe")) before after subscribed.Whole
IsDoneBy Publish words input before after = PublishesBy (drop 1 words) input
IsDoneBy Subscribe words input before after = SubscribesBy (drop 1 words) before after subscribed.Whole
IsDoneBy DecodeInput words input before after = DecodesInput input before after
IsDoneBy Driver words input before after = DrivesBy words input before after

-- all that such a line asks for is done
abbrev pub IsDone : List Text → Option (List ℕ) → Option (List ℕ) → Option (List ℕ) → Type 0
IsDone words input before after = IsDoneBy (reader_of (drop 1 words)) words input before after

abbrev pub IsShortBy : Reader → List Text → Option (List ℕ) → Option (List ℕ) → Type 0
IsShortBy Version words before after = ⊥
IsShortBy PublishHelp words before after = HasPlanBy (help_line (codes "publish"))
IsShortBy SubscribeHelp words before after = SubscribesShortBy (help_line (codes "subscribe")) before after
IsShortBy Publish words before after = HasPlanBy (drop 1 words)
IsShortBy Subscribe words before after = SubscribesShortBy (drop 1 words) before after
IsShortBy DecodeInput words before after = ⊥
IsShortBy Driver words before after = DrivesShortBy words before after

-- a run was short, or a subscriber wasn't told each stream's end, or a stream of it was cut off; a publisher has a plan, and more isn't said
abbrev pub IsShort : List Text → Option (List ℕ) → Option (List ℕ) → Type 0
IsShort words before after = IsShortBy (reader_of (drop 1 words)) words before after
