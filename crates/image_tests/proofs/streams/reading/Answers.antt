use Rattle.std.proofs.Common.{◌≡◌, ◌≤◌, ℕ, List, length, replicate, ap, ◌∙◌, arith}
use Rattle.std.proofs.lemmas.List.{length-replicate}
use Rattle.image_tests.proofs.streams.reading.Goals as goal

long : (block : List ℕ) (n : ℕ) → block ≡ replicate n 0 → 65472 ≤ n → 65472 ≤ length block
long block n e le = let l : length block ≡ n = ap length e ∙ length-replicate n 0 in omega arith

pub returns : goal.returns
returns c = (c.requires, long c.in_ok-block.block 65472 c.in_ok-block.ensures (omega arith))
