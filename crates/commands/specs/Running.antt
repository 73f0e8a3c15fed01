-- What a run's command writes.
use Rattle.std.specs.Prelude.{◌≡◌, ⊤, ℕ, List, [], ◌∷◌, ◌++◌, Option, codes, decimal, flat_map, if◌then◌else◌}
use Rattle.std.specs.Io.KnownBytes.{Appends}
use Rattle.simulation.specs.LineTexts.{shares_text}
use Rattle.options.specs.Run.Plans.{IsFirstFault, IsPlanOf}
use Rattle.options.specs.declared.run.made.Plan.{Plan}
use Rattle.options.specs.declared.run.options.RunOptions.{RunOptions}
use Rattle.run.specs.Outcomes.{IsOutcome, PublishersPublish, ReceiversLiveLossily, ending_of}
use Rattle.run.specs.declared.outcome.Ending.{Ending}
use Rattle.run.specs.declared.outcome.Outcome.{Outcome}
use Rattle.run.specs.declared.outcome.Polled.{Polled}
use Rattle.commands.specs.declared.fault.Fault.{Fault}
use Rattle.commands.specs.declared.fault.Fault.TheVariants.{Line, Input, Memory, Hex, Frame, Read, Write, Plan as Unplanned, Order, Device}

-- the two lines of a receiver, of so many messages that were to be polled
abbrev pub polled_text : ℕ → Polled → List ℕ
polled_text wanted p =
    (codes "polled " ++ decimal p.polled ++ codes " of " ++ decimal wanted ++ 10 ∷ [])
    ++ (codes "order " ++ (if p.kept then codes "kept" else codes "broken") ++ 10 ∷ [])

-- those of each receiver, in order, and the line of the book
abbrev pub outcome_text : Outcome → List ℕ
outcome_text o =
    flat_map (polled_text o.wanted) o.tallies.items
    ++ (codes "book " ++ decimal o.book.start ++ codes " " ++ decimal o.book.tail ++ shares_text o.book.shares ++ 10 ∷ [])

-- what a run of what was told left was written, and this is how it ended
pub record IsLeftBy (options : RunOptions) (before after : Option (List ℕ)) (ending : Ending) : Type 0 where
  pub plan : Plan
  pub planned : IsPlanOf options plan
  pub outcome : Outcome
  pub left : IsOutcome plan outcome
  -- whose receivers lived so, and whose publishers published that
  pub lives : ReceiversLiveLossily plan outcome.tallies.items
  pub published : PublishersPublish plan outcome
  pub ended : ending ≡ ending_of outcome
  pub written : Appends before after (outcome_text outcome)

-- why it isn't: what was told makes no plan, for this first fault; or the system or memory refused, or the lines couldn't be written
abbrev pub ExplainsRun : RunOptions → Fault → Type 0
ExplainsRun options (Line n) = ⊥
ExplainsRun options Input = ⊥
ExplainsRun options Memory = ⊤
ExplainsRun options Hex = ⊥
ExplainsRun options (Frame fault) = ⊥
ExplainsRun options Read = ⊥
ExplainsRun options Write = ⊤
ExplainsRun options (Unplanned fault) = IsFirstFault options fault
ExplainsRun options Order = ⊥
ExplainsRun options Device = ⊤
