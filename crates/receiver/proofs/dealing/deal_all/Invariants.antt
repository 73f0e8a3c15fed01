use Rattle.std.proofs.Common.{◌≡◌, ◌+◌, ◌≤◌, length, vec_len}
use Rattle.std.specs.Prelude.{vec_capacity}
use Rattle.image.specs.Rebuilding.{join_of}
use Rattle.receiver.specs.Dealt.{AreDealt}
use Rattle.receiver.proofs.dealing.deal_all.Given as goal

-- the last readers were dealt
abbrev pub invariant-loop-number : goal.invariant-loop-number
invariant-loop-number l = record {
  left : l.inserter ≡ record l.fn.inserter { undealt = l.number };
  dealt : AreDealt l.image (join_of l.fn.inserter) l.number l.readers.items;
  count : length l.readers.items + l.number ≡ l.count;
  room : vec_len l.readers + l.number ≤ vec_capacity l.readers;
}

abbrev pub decreases-loop-number : goal.decreases-loop-number
decreases-loop-number l = l.number
