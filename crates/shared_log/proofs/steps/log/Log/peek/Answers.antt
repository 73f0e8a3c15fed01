use Rattle.std.proofs.Common.{◌≡◌, ℕ, ◌+◌, ◌*◌, ◌/◌, ◌<◌, ap, sym, subst, ◌∙◌}
use Rattle.theory.specs.Bytes.{Identity}
use Rattle.log_memory.specs.Places.{units}
use Rattle.shared_log.specs.Steps.Handles.{LogValue}
use Rattle.shared_log.proofs.steps.log.Log.peek.Goals as goal

pub peek-requires : goal.peek-requires
unfolding units
peek-requires c = subst (λ (i : Identity). c.args.index < 3 * (i.geometry.term_length / 32) + 13) (sym (c.self.invariant.identity_is ∙ ap (λ (l : LogValue). l.identity) c.self.view_is)) c.requires
