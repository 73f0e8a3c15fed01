use Rattle.std.proofs.Common.{Bool, OnOk, rules, subst, sym}
use Rattle.std.proofs.lemmas.Int.{to_z-of_z}
use Rattle.std.specs.Int.{w32}
use Rattle.std.specs.Io.KnownBytes.{Appends}
use Rattle.std.specs.Prelude.{FitsSigned}
use Rattle.subscriber.specs.Texts.{ended_line}
use Rattle.subscriber.proofs.images.session.tell_end.Goals as goal

pub returns-then-broken : goal.returns-then-broken
returns-then-broken g c =
    let session : FitsSigned w32 c.args.session = search rules in
    let told = simp to_z-of_z at c.tell.ensures in
    subst (λ (b : Bool). OnOk c.tell.result (Appends (g.E.Write.contents c.args.errors.now) (g.E.Write.contents c.tell.new.errors) (ended_line b c.args.session c.args.place))) (sym c.if-broken.true) told

pub returns-else-broken : goal.returns-else-broken
returns-else-broken g c =
    let session : FitsSigned w32 c.args.session = search rules in
    let told = simp to_z-of_z at c.tell-else-broken.ensures in
    subst (λ (b : Bool). OnOk c.tell-else-broken.result (Appends (g.E.Write.contents c.args.errors.now) (g.E.Write.contents c.tell-else-broken.new.errors) (ended_line b c.args.session c.args.place))) (sym c.if-broken.false) told
