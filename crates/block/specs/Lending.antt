-- What is written through a block's bytes stands in the block.
use Rattle.std.specs.Prelude.{ℕ, List}
use Rattle.std.specs.Borrow.{Lends, MutBor, Fml, u8, Array}
use Rattle.block.specs.Bytes.{with_front}
use Rattle.block.specs.contracts.block.Block.{the_row}

abbrev pub LendsBytes : MutBor (List ℕ) → MutBor (List ℕ) → Fml
LendsBytes block bytes = Lends the_row (Array u8 0) block bytes (with_front block.now)
