use Rattle.log_rule.proofs.Looked.{others_are_looks}
use Rattle.threads_meaning.proofs.BoardCleanings as cleanings
use Rattle.threads_meaning.proofs.BoardRuns.{begins_a_run, runs_are_honest, runs_go_on, tables_are_streams, tables_run}
use Rattle.threads_meaning.proofs.BoardSteps as kinds
use Rattle.threads_meaning.proofs.running_log.running_log_is_a_model.Goals as goal

pub returns-clause-streams : goal.returns-clause-streams
returns-clause-streams c = tables_are_streams

pub returns-clause-leads : goal.returns-clause-leads
returns-clause-leads c = tables_run

pub returns-clause-begins : goal.returns-clause-begins
returns-clause-begins c = begins_a_run c.steps_keep.ensures

pub returns-clause-goes_on : goal.returns-clause-goes_on
returns-clause-goes_on c = runs_go_on

pub returns-clause-honest : goal.returns-clause-honest
returns-clause-honest c = runs_are_honest

pub returns-clause-steps : goal.returns-clause-steps
returns-clause-steps c = let k = c.steps_keep.ensures in record {
  load_limit = λ t gone id m idle. kinds.load_limit k t gone id m idle;
  load_count = λ t gone id m idle. kinds.load_count k t gone id m idle;
  load_tail = λ t gone id m idle parts numbers living. kinds.load_tail k t gone id m idle parts numbers living;
  load_next = λ t gone id m idle n full low. kinds.load_next k t gone id m idle n full low;
  exchange_next = λ t gone id m idle n from parts full low before. kinds.exchange_next k t gone id m idle n from parts full low before;
  exchange_count = λ t gone id m idle n parts begun. kinds.exchange_count k t gone id m idle n parts begun;
  add = λ t gone id size m idle parts armed le. kinds.add k t gone id m idle size parts armed le;
  spells = λ t p ws m may. kinds.spells t p ws m may;
  commit = λ t gone id p ws m idle may start f words next. kinds.commit k t gone id p ws m idle may start f words next;
  abort = λ t gone id p ws m idle may cut words one. kinds.abort k t gone id p ws m idle may cut words one;
  look = λ t gone id place r m is low idle. kinds.look k t gone id m place r is low idle;
  reread = λ t gone id place r f m may idle. kinds.reread k t gone id m place r f may idle;
  give = λ t gone id i r f m may. kinds.give k t gone id m i r f may;
  move = λ t gone id place r end m is may low idle. kinds.move k t gone id m place r end is may low idle;
  take_back = λ t gone id m may. kinds.take_back k t gone id m may;
  give_room = λ t gone id m may. kinds.give_room k t gone id m may;
  park = λ t gone id i m idle holds. kinds.park k t gone id m i idle holds;
  fetch = λ t gone id i m none apart. kinds.fetch k t gone id m i none apart;
  clean_to = λ t gone id i end m may idle. cleanings.clean_to others_are_looks k t gone id i end m may idle;
  sweep = λ t gone id j m right there low idle. kinds.sweep k t gone id m idle j right there low;
  join = λ t gone id number place n m may idle least. kinds.join k t gone id m idle number place n may least;
  leave = λ t gone id place number m may idle. kinds.leave k t gone id m idle place number may;
  raise = λ t gone id word least m may parts idle is. kinds.raise k t gone id m idle word may parts least is;
  connect = λ t gone id word on m may parts idle is. kinds.connect k t gone id m idle word may parts on is;
  close = λ t gone id word m may parts idle is. kinds.close k t gone id m idle word may parts is;
}
