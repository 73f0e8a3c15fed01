-- What the model's log says of the passes.
use Rattle.std.proofs.Common.{ℕ, ◌≤◌, cond, eqb, map, sym, ◌∙◌, subst}
use Rattle.theory.specs.Position.{span}
use Rattle.log_rule.specs.Claims.Plays.{pass_in}
use Rattle.log_rule.specs.Shares.{owner_bytes}
use Rattle.log_rule.proofs.Known.{is_among}
use Rattle.log_rule.proofs.Shares.{share_is}
use Rattle.threads_meaning.specs.Law.{FramesAreCommitted, SharesAreClaimed}
use Rattle.theory.specs.Entry.{committed}
use Rattle.threads_meaning.proofs.Alike.{alike_total}
use Rattle.threads_meaning.proofs.Found.{counted}

pub shares_are_claimed : SharesAreClaimed
shares_are_claimed key gone s l k number = sym (share_is number l.entries) ∙ sym (alike_total (owner_bytes number) (λ a e is. λ i. cond (eqb (sym is.owner i) number) (span (sym is.cuts i)) 0) k.entries.log l.entries k.entries.alike) ∙ sym (k.entries.claimed (owner_bytes number))

pub frames_are_committed : FramesAreCommitted
frames_are_committed key gone s l k id v f at among = counted key.identity (committed l.entries) f (λ h. subst (λ (n : ℕ). h f ≤ n) (k.entries.frames h) (is_among (map pass_in s.views) id v f at among h))
