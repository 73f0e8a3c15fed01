use Rattle.std.proofs.Common.{◌≡◌, None, Some, length, arith, ap, sym, subst, ◌∙◌}
use Rattle.std.specs.Prelude.{Option}
use Rattle.image.specs.Handles.{ReaderSeat}
use Rattle.image.specs.Rebuilding.{Inserting}
use Rattle.receiver.specs.Representing.{Core, IsCore}
use Rattle.receiver.specs.Seating.{MaySit}
use Rattle.receiver.proofs.receiver_core.ReceiverCore.sit.Goals as goal

-- the image has one reader, and has seen one
one : (v w : Core) (i : Inserting) → IsCore v → v ≡ w → w.consumers ≡ 1 → v.image ≡ Some i → (i.key.consumers ≡ 1) × (length i.seen ≡ 1)
one v w i is same wanted some =
    let s = is.seats i some in
    let count = ap (λ (x : Core). x.consumers) same ∙ wanted in
    (s.0 ∙ count, s.1 ∙ count)

may : (v w : Core) (i : Inserting) (r q : Option ReaderSeat) → v ≡ w → v.image ≡ Some i → r ≡ q → MaySit w.image r → MaySit (Some i) q
may v w i r q same some told h =
    let there : MaySit v.image r = subst (λ (x : Core). MaySit x.image r) (sym same) h in
    subst (MaySit (Some i)) told (subst (λ (x : Option Inserting). MaySit x r) some there)

pub unreachable-requires : goal.unreachable-requires
unreachable-requires c =
    let its = may _ _ c.in-Some.opened c.args.reader.now None c.self.view_is c.in-Some.is c.in_default-reader.is c.requires.may in
    let none = c.in_default-take_readers.ensures.none.1 in
    let all = (one _ _ c.in-Some.opened c.self.invariant c.self.view_is c.requires.one c.in-Some.is).0 in
    omega (arith, its, none, all)

pub only_reader-first-requires : goal.only_reader-first-requires
only_reader-first-requires c = c.in-Some-take_readers.ensures.taken.count ∙ (one _ _ c.in-Some.opened c.self.invariant c.self.view_is c.requires.one c.in-Some.is).0
