use Rattle.std.proofs.Common.{rules, pos, ℤ, w32, FitsSigned, subst}
use Rattle.std.specs.Prelude.{◌<ℤ◌}
use Rattle.std.proofs.lemmas.Int.{to_z-of_z}
use Rattle.frames.specs.Frames.{setup_of}
use Rattle.receiver.proofs.Named.{no_mtu, no_term_length}
use Rattle.receiver.proofs.setup.judgement.geometry_of.Goals as goal

pub returns-in_default-clause-none : goal.returns-in_default-clause-none
returns-in_default-clause-none c =
    let fits : FitsSigned w32 c.args.setup.now.term_length = search rules in
    no_term_length (setup_of c.args.setup.now) (subst (λ (z : ℤ). z <ℤ pos 0) (to_z-of_z w32 c.args.setup.now.term_length fits) c.in_default.ensures.none)

pub returns-in_default-unsigned-clause-none : goal.returns-in_default-unsigned-clause-none
returns-in_default-unsigned-clause-none c =
    let fits : FitsSigned w32 c.args.setup.now.mtu = search rules in
    no_mtu (setup_of c.args.setup.now) (subst (λ (z : ℤ). z <ℤ pos 0) (to_z-of_z w32 c.args.setup.now.mtu fits) c.in_default-unsigned.ensures.none)
