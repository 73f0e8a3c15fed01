use Rattle.std.proofs.Common.{◌≡◌, ◌≤◌, ◌<◌, ◌+◌, ◌-◌, length, take, refl, subst, arith, rules, length-take-le}
use Rattle.std.specs.Io.BufRead.{FillKeeps}
use Rattle.std.proofs.BufReadLemmas.{Consumes_shown}
use Rattle.messages.specs.Inputs.{IsOneLine}
use Rattle.messages.proofs.Shown.{before_feed, first_taken, one_line_front}
use Rattle.messages.proofs.lines.take_shown.Goals as goal

pub returns-then-size-room-clause-fault : goal.returns-then-size-room-clause-fault
returns-then-size-room-clause-fault g c =
    let rested = c.fill_buf.follows.lender-at-none in
    let filled = subst (FillKeeps _ (g.R.Read.remaining rested) (g.R.BufRead.consumable_len rested)) c.in-Ok.is c.fill_buf.follows.holds-at-none in
    let inside : c.unwrap_or-size.result ≤ length c.in-Ok.shown.now = search rules in
    let one_line : IsOneLine (take c.unwrap_or-size.result c.in-Ok.shown.now) = rw c.unwrap_or-size.ensures (before_feed c.in-Ok.shown.now c.memchr-feed.result c.memchr-feed.ensures) in
    let held : c.len.result ≡ length c.args.line.now.items = search rules in
    let n = c.args.greatest - c.len.result + 1 in
    let within : n ≤ length c.in-Ok.shown.now = omega (arith, inside, c.if-size-room.true) in
    let moved = Consumes_shown _ _ _ _ c.in-Ok.shown.now n within c.in-Ok.ensures.front c.in-Ok.ensures.end filled.0 filled.1 c.consume.ensures.bytes in
    let long = length-take-le n c.in-Ok.shown.now within in
    let whole : length c.args.line.now.items + length (take n c.in-Ok.shown.now) ≡ c.args.greatest + 1 = omega (arith, long, held, c.requires) in
    (refl, refl, (take n c.in-Ok.shown.now, moved.0, one_line_front c.in-Ok.shown.now c.unwrap_or-size.result n (omega (arith, c.if-size-room.true)) one_line, whole))

pub returns-then-is_err-clause-fault : goal.returns-then-is_err-clause-fault
returns-then-is_err-clause-fault g c =
    let rested = c.fill_buf.follows.lender-at-none in
    let filled = subst (FillKeeps _ (g.R.Read.remaining rested) (g.R.BufRead.consumable_len rested)) c.in-Ok.is c.fill_buf.follows.holds-at-none in
    let inside : c.unwrap_or-size.result ≤ length c.in-Ok.shown.now = search rules in
    let one_line : IsOneLine (take c.unwrap_or-size.result c.in-Ok.shown.now) = rw c.unwrap_or-size.ensures (before_feed c.in-Ok.shown.now c.memchr-feed.result c.memchr-feed.ensures) in
    let held : c.len.result ≡ length c.args.line.now.items = search rules in
    let some : 0 < c.unwrap_or-size.result = search rules in
    let within : 1 ≤ length c.in-Ok.shown.now = omega (arith, some, inside) in
    let moved = Consumes_shown _ _ _ _ c.in-Ok.shown.now 1 within c.in-Ok.ensures.front c.in-Ok.ensures.end filled.0 filled.1 c.consume-then-is_err.ensures.bytes in
    let first = first_taken _ _ c.in-Ok.shown.now c.unwrap_or-size.result some within one_line moved.0 in
    (first.0, first.1, first.2, search rules, omega (arith, some, held, c.if-size-room.false))
