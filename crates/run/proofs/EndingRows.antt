-- Rows: how a run ended. Two publishers with three messages each, and two receivers.
use Rattle.std.specs.Prelude.{◌≡◌, ℕ, Bool, true, false, List, [], ◌∷◌}
use Rattle.run.specs.Outcomes.{ending_of}
use Rattle.run.specs.declared.outcome.Ending.TheVariants.{Broken, Short, Whole}
use Rattle.run.specs.declared.outcome.Outcome.{Outcome}
use Rattle.run.specs.declared.outcome.Polled.{Polled}

-- so many messages of the second publisher were accepted, and of each other all
abbrev of_two : Outcome → ℕ → Outcome
of_two o last = record o { publishers = 2; messages = 3; wanted = 6; accepted = 3 ∷ last ∷ 0 ∷ 0 ∷ 0 ∷ 0 ∷ 0 ∷ 0 ∷ [] }

-- the first receiver polled so many in this order, and the second so many
abbrev polled : ℕ → Bool → ℕ → Bool → List Polled
polled first kept second other = record { polled = first; kept = kept } ∷ record { polled = second; kept = other } ∷ []

whole : (o : Outcome) → o.tallies.items ≡ polled 6 true 6 true → ending_of (of_two o 3) ≡ Whole
whole o told = rw told

-- one message less was polled, or accepted
one_polled_less : (o : Outcome) → o.tallies.items ≡ polled 6 true 5 true → ending_of (of_two o 3) ≡ Short
one_polled_less o told = rw told

first_polled_less : (o : Outcome) → o.tallies.items ≡ polled 5 true 6 true → ending_of (of_two o 3) ≡ Short
first_polled_less o told = rw told

one_accepted_less : (o : Outcome) → o.tallies.items ≡ polled 6 true 6 true → ending_of (of_two o 2) ≡ Short
one_accepted_less o told = rw told

-- or one more than there are
one_accepted_more : (o : Outcome) → o.tallies.items ≡ polled 6 true 6 true → ending_of (of_two o 4) ≡ Short
one_accepted_more o told = rw told

-- a broken order at one receiver, also where all was polled
broken : (o : Outcome) → o.tallies.items ≡ polled 6 true 6 false → ending_of (of_two o 3) ≡ Broken
broken o told = rw told

first_broken : (o : Outcome) → o.tallies.items ≡ polled 6 false 6 true → ending_of (of_two o 3) ≡ Broken
first_broken o told = rw told

-- and where less was
broken_and_short : (o : Outcome) → o.tallies.items ≡ polled 6 false 5 true → ending_of (of_two o 2) ≡ Broken
broken_and_short o told = rw told
