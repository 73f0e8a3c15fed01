use Rattle.std.proofs.Common.{rules, ◌≤◌}
use Rattle.peer.proofs.Passing.{put_back_same}
use Rattle.peer.proofs.attended.Attended.look.Goals as goal

pub returns-in_default-screen-clause-filled : goal.returns-in_default-screen-clause-filled
returns-in_default-screen-clause-filled g c =
    let short : c.in-Some.size ≤ 40 = search rules in
    put_back_same c.in-Some.size c.args.buffer.now c.recv.new.buffer c.front_of-front.result c.put_back.new.buffer (search rules) short c.front_of-front.ensures (search rules) c.put_back.ensures.front c.put_back.ensures.rest

pub returns-in_default-screen-clause-looks : goal.returns-in_default-screen-clause-looks
returns-in_default-screen-clause-looks g c = (
  record {
    room = c.requires.room;
    size = c.in-Some.size;
    arrived = c.recv.new.buffer;
    counts = search rules;
    receives = search rules;
    still_tells = search rules;
    screens = search rules;
    counted = search rules;
  },
  returns-in_default-screen-clause-filled g c,
)
