-- Each kind of step keeps the rule.
use Rattle.log_memory.specs.Law.{StepsKeep}
use Rattle.log_memory.proofs.Beginning.{begins}
use Rattle.log_memory.proofs.Claiming.{add}
use Rattle.log_memory.proofs.Cleaning.{clean_to}
use Rattle.log_memory.proofs.Committing.{commit}
use Rattle.log_memory.proofs.Freeing.{take_back}
use Rattle.log_memory.proofs.Giving.{give_room}
use Rattle.log_memory.proofs.Keeping.{join, leave, raise, sweep}
use Rattle.log_memory.proofs.Looking.{consume, give, look, reread}
use Rattle.log_memory.proofs.Parking.{fetch, park}
use Rattle.log_memory.proofs.Publishing.{exchange_count, exchange_next, load_count, load_limit, load_next, load_tail}

pub steps_keep : StepsKeep
steps_keep = record {
  begins = begins;
  load_limit = load_limit;
  load_count = load_count;
  load_tail = load_tail;
  load_next = load_next;
  exchange_next = exchange_next;
  exchange_count = exchange_count;
  add = add;
  commit = commit;
  look = look;
  reread = reread;
  give = give;
  move = consume;
  take_back = take_back;
  give_room = give_room;
  park = park;
  fetch = fetch;
  clean_to = clean_to;
  sweep = sweep;
  join = join;
  leave = leave;
  raise = raise;
}
