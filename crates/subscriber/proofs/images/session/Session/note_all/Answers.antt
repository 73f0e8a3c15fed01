use Rattle.std.proofs.Common.{Bool, OnOk, rules, subst}
use Rattle.std.proofs.lemmas.Int.{to_z-of_z}
use Rattle.std.specs.Int.{w32}
use Rattle.std.specs.Io.KnownBytes.{Appends}
use Rattle.std.specs.Prelude.{FitsSigned}
use Rattle.subscriber.specs.Texts.{ended_line}
use Rattle.subscriber.proofs.images.session.Session.note_all.Goals as goal

pub returns-clause-told : goal.returns-clause-told
returns-clause-told g c =
    let session : FitsSigned w32 c.args.self.now.opening.session = search rules in
    let told = simp to_z-of_z at c.tell_end.ensures in
    λ _ _. subst (λ (b : Bool). OnOk c.tell_end.result (Appends (g.E.Write.contents c.args.errors.now) (g.E.Write.contents c.tell_end.new.errors) (ended_line b c.args.self.now.opening.session c.args.stand.now.place))) c.is_broken.ensures told
