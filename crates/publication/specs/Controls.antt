-- What steps find and leave of a log's control words, where nobody else changes them.
use Rattle.std.specs.Prelude.{◌≡◌, ℕ, ◌+◌, ◌%◌, ◌^◌, List, [], ◌∷◌, nat_eq, if◌then◌else◌, slice_index, slice_set}
use Rattle.publication.specs.declared.pass.Controls.{Controls}
use Rattle.publication.specs.declared.step.WordStep.{WordStep}
use Rattle.publication.specs.declared.step.WordStep.TheVariants as steps

abbrev pub tail_in : Controls → ℕ → ℕ
tail_in c partition = slice_index c.tails partition

abbrev pub with_tail : Controls → ℕ → ℕ → Controls
with_tail c partition word = record c { tails = slice_set c.tails partition word }

-- the step answered the word that stands there
abbrev pub FindsWord : Controls → WordStep → Type 0
FindsWord c (steps.Limit word) = word ≡ c.limit
FindsWord c (steps.Count count) = count ≡ c.count
FindsWord c (steps.Tail partition word) = word ≡ tail_in c partition
FindsWord c (steps.Addition partition taken word) = word ≡ tail_in c partition
FindsWord c (steps.NextTail partition word) = word ≡ tail_in c partition
FindsWord c (steps.TailExchange partition from to word) = word ≡ tail_in c partition
FindsWord c (steps.CountExchange from count) = count ≡ c.count

-- what it leaves
abbrev pub left : Controls → WordStep → Controls
left c (steps.Limit word) = c
left c (steps.Count count) = c
left c (steps.Tail partition word) = c
left c (steps.Addition partition taken word) = with_tail c partition ((tail_in c partition + taken) % 2 ^ 64)
left c (steps.NextTail partition word) = c
left c (steps.TailExchange partition from to word) = with_tail c partition (if nat_eq (tail_in c partition) from then to else tail_in c partition)
left c (steps.CountExchange from count) = record c { count = if nat_eq c.count from then from + 1 else c.count }

-- these steps, one behind the other, lead from the one to the other
abbrev pub Leads : Controls → List WordStep → Controls → Type 0
Leads c [] d = d ≡ c
Leads c (s ∷ ss) d = FindsWord c s × Leads (left c s) ss d
