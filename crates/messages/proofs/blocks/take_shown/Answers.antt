use Rattle.std.proofs.Common.{◌≤◌, length, subst, rules}
use Rattle.std.specs.Io.KnownBytes.{Consumes}
use Rattle.std.specs.Io.BufRead.{FillKeeps}
use Rattle.std.proofs.BufReadLemmas.{Consumes_shown}
use Rattle.messages.proofs.Shown.{front_shown}
use Rattle.messages.proofs.blocks.take_shown.Goals as goal

pub returns-then-is_err-clause-fault : goal.returns-then-is_err-clause-fault
returns-then-is_err-clause-fault g c =
    let rested = c.fill_buf.follows.lender-at-none in
    let filled = subst (FillKeeps _ (g.R.Read.remaining rested) (g.R.BufRead.consumable_len rested)) c.in-Ok.is c.fill_buf.follows.holds-at-none in
    let within : 1 ≤ length c.in-Ok.shown.now = search rules in
    let moved = Consumes_shown _ _ _ _ c.in-Ok.shown.now 1 within c.in-Ok.ensures.front c.in-Ok.ensures.end filled.0 filled.1 c.consume.ensures.bytes in
    let first = front_shown c.in-Ok.shown.now within in
    (first.0, subst (Consumes _ _) first.1 moved.0, search rules)
