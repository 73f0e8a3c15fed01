use Rattle.log_memory.proofs.Looked.{looked_back, looked_part, reread_back, reread_part}
use Rattle.log_memory.proofs.law.parts_are_found.Goals as goal

pub returns : goal.returns
returns c = record {
  look = λ t place r m is low n m' told pos. record { part = looked_part t place r m is low n m' told pos; back = looked_back t place r m is low n m' told pos };
  reread = λ t place r f m may n m' told. record { part = reread_part t place r f m may n m' told; back = reread_back t place r f m may n m' told };
}
