-- The numbers that are written in front of a message.
use Rattle.std.proofs.Common.{◌≡◌, ℕ, ◌^◌, ◌<◌, List, ◌++◌, append_assoc, ap, ◌∙◌, arith}
use Rattle.byteorder.specs.Endian.{little_bytes}
use Rattle.byteorder.specs.Numbers.{little_number-reads_back}
use Rattle.run_parties.specs.Tallies.{number_of, publisher_of}

pub first_number : (number count : ℕ) (rest : List ℕ) → number < 2 ^ 32 → publisher_of ((little_bytes 4 number ++ little_bytes 4 count) ++ rest) ≡ number
first_number number count rest low = ap publisher_of (append_assoc (little_bytes 4 number) (little_bytes 4 count) rest) ∙ little_number-reads_back 4 number (little_bytes 4 count ++ rest) (omega arith)

pub second_number : (number count : ℕ) (rest : List ℕ) → count < 2 ^ 32 → number_of ((little_bytes 4 number ++ little_bytes 4 count) ++ rest) ≡ count
second_number number count rest low = little_number-reads_back 4 count rest (omega arith)
