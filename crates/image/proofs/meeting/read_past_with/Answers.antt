use Rattle.std.proofs.Common.{[]}
use Rattle.image.proofs.OneHand.{alone_at_end, alone_past, passes_frame, stands_at_end}
use Rattle.image.proofs.meeting.read_past_with.Goals as goal

pub returns-in_default-clause-none : goal.returns-in_default-clause-none
returns-in_default-clause-none g c =
    (stands_at_end c.args.image.now c.args.inserter.now c.args.reader.now c.requires.alone c.meet.new.inserter c.meet.new.reader c.read_with.new.reader c.rebuilt.result [] [] c.meet.ensures.met c.in_default.ensures.none.0 c.rebuilt.ensures.value c.rebuilt.ensures.behind, c.in_default.ensures.none.1)

pub returns-in_default-clause-alone : goal.returns-in_default-clause-alone
returns-in_default-clause-alone g c = alone_at_end c.args.image.now c.args.inserter.now c.args.reader.now c.requires.alone c.meet.new.inserter c.meet.new.reader c.read_with.new.reader [] [] c.meet.ensures.met c.in_default.ensures.none.0 c.read_with.ensures.fits

pub returns-clause-read : goal.returns-clause-read
returns-clause-read g c =
    let f = c.in-Some.ensures.found in
    (f.0, passes_frame c.args.image.now c.args.inserter.now c.args.reader.now c.requires.alone c.meet.new.inserter c.meet-2.new.inserter c.meet.new.reader c.read_with.new.reader c.advance.new.reader c.meet-2.new.reader c.in-Some.head f.0 c.meet.ensures.met f.1 c.advance.ensures.passed c.meet-2.ensures.met, f.2)

pub returns-clause-alone : goal.returns-clause-alone
returns-clause-alone g c =
    let f = c.in-Some.ensures.found in
    alone_past c.args.image.now c.args.inserter.now c.args.reader.now c.requires.alone c.meet.new.inserter c.meet-2.new.inserter c.meet.new.reader c.read_with.new.reader c.advance.new.reader c.meet-2.new.reader c.in-Some.head f.0 c.meet.ensures.met f.1 c.advance.ensures.passed c.meet-2.ensures.met c.meet-2.ensures.fits
