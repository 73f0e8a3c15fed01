use Rattle.std.proofs.Common.{◌≡◌, ◌≤◌, [], true, vec_capacity}
use Rattle.crossbeam_queue.specs.Passes.{view, IsPassOf, ruled_capacity}
use Rattle.conductor.specs.Parties.{AreFirst, AreFresh}
use Rattle.conductor.proofs.queue.Conductor.new.Given as goal

abbrev pub invariant-loop-number : goal.invariant-loop-number
invariant-loop-number l = record {
  pass : IsPassOf l.line l.seat;
  takes : (view l.seat).takes ≡ true;
  made : (view l.seat).made ≡ l.number;
  left : (view l.seat).left ≡ 8;
  taken : (view l.seat).taken ≡ [];
  heard : (view l.seat).heard ≡ [];
  known : (view l.seat).known ≡ [];
  capacity : ruled_capacity l.line ≡ 64;
  room : 8 ≤ vec_capacity l.clients;
  first : AreFirst l.line.table.shared.table_id l.number l.clients.items;
  fresh : AreFresh l.clients.items;
}
