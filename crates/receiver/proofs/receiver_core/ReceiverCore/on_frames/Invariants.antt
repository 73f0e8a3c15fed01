use Rattle.std.proofs.Common.{◌≡◌, ◌+◌, ◌-◌, ◌≤◌, List, length, take, drop, vec_len}
use Rattle.std.specs.Prelude.{vec_capacity}
use Rattle.std.specs.List.{flat_map}
use Rattle.theory.specs.Wire.{Wire, SpellsDatagram, spelling}
use Rattle.receiver.specs.Representing.{MeetsEach}
use Rattle.receiver.proofs.receiver_core.ReceiverCore.on_frames.Given as goal

-- the frames so far were taken, and the others are left
abbrev pub invariant-loop-turn : goal.invariant-loop-turn
invariant-loop-turn l = record {
  taken : (frames : List Wire) → SpellsDatagram frames l.datagram → length frames ≡ l.count
      → (l.rest ≡ flat_map spelling (drop l._turn frames)) × MeetsEach l.fn.self (take l._turn frames) l.outcomes.items l.self;
  room : vec_len l.outcomes + (l.count - l._turn) ≤ vec_capacity l.outcomes;
  fresh : l._turn ≡ 0 → l.self ≡ l.fn.self;
  consumers : l.self.consumers ≡ l.fn.self.consumers;
}
