-- A stamp that was written reads back.
use Rattle.std.proofs.Common.{◌≡◌, ℕ, ◌<◌, ◌^◌, List, ◌++◌, length, drop, ap, ◌∙◌}
use Rattle.std.proofs.lemmas.List.{drop_at}
use Rattle.byteorder.specs.Endian.{little_bytes, little_number}
use Rattle.byteorder.specs.Numbers.{little_number-reads_back}

pub reads_back : (front rest : List ℕ) (stamp : ℕ) → length front ≡ 8 → stamp < 2 ^ 64 → little_number 8 (drop 8 (front ++ (little_bytes 8 stamp ++ rest))) ≡ stamp
reads_back front rest stamp e fits = ap (little_number 8) (drop_at front (little_bytes 8 stamp ++ rest) 8 e) ∙ little_number-reads_back 8 stamp rest fits
