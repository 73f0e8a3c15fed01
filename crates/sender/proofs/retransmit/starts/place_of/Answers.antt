use Rattle.std.proofs.Common.{Ok, Err}
use Rattle.std.proofs.lemmas.List.Sorted.{searched}
use Rattle.sender.proofs.Resending.Ascending.{parts_at, sorted}
use Rattle.sender.proofs.retransmit.starts.place_of.Goals as goal

pub returns-in-Ok : goal.returns-in-Ok
returns-in-Ok c =
    let xs = c.args.starts.now.items in
    let s = c.requires.2 in
    parts_at c.requires.0 c.requires.1 xs c.args.position (Ok c.in-Ok.place) s (searched xs c.args.position (Ok c.in-Ok.place) c.in-Ok.ensures.ok (λ i j. sorted c.requires.0 c.requires.1 xs s i j 0))

pub returns-in-Err : goal.returns-in-Err
returns-in-Err c =
    let xs = c.args.starts.now.items in
    let s = c.requires.2 in
    parts_at c.requires.0 c.requires.1 xs c.args.position (Err c.in-Err.place) s (searched xs c.args.position (Err c.in-Err.place) c.in-Err.ensures.position (λ i j. sorted c.requires.0 c.requires.1 xs s i j 0))
