use Rattle.std.proofs.Common.{◌≡◌, ◌+◌, ℕ, get_or, length, subst, if◌then◌else◌}
use Rattle.std.specs.Prelude.{max, min}
use Rattle.subscriber.proofs.Shares.{share_is}
use Rattle.subscriber.proofs.images.sessions.share_at.Goals as goal

pub returns : goal.returns
returns c =
    let d = c.index-sessions-place.result in
    share_is c.args.sessions.now c.args.place c.share_among.result d
    (subst (λ (n : ℕ). c.share_among.result ≡ max 1 (min (length c.args.sessions.now) (if (get_or c.args.sessions.now c.args.place d).ended then n + 1 else n))) c.open_count.ensures c.share_among.ensures)
