use Rattle.std.proofs.Common.{Bool, OnOk, rules, subst, sym}
use Rattle.std.proofs.lemmas.Int.{to_z-of_z}
use Rattle.std.specs.Int.{w32}
use Rattle.std.specs.Io.KnownBytes.{Appends}
use Rattle.std.specs.Prelude.{FitsSigned}
use Rattle.subscriber.specs.Texts.{silence_line}
use Rattle.subscriber.proofs.images.session.tell_change.Goals as goal

pub returns-then-silent : goal.returns-then-silent
returns-then-silent g c =
    let session : FitsSigned w32 c.args.session = search rules in
    let told = simp to_z-of_z at c.tell.ensures in
    subst (λ (b : Bool). OnOk c.tell.result (Appends (g.E.Write.contents c.args.errors.now) (g.E.Write.contents c.tell.new.errors) (silence_line b c.args.session c.args.place))) (sym c.if-silent.true) told
