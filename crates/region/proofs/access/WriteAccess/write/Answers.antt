use Rattle.std.proofs.Common.{◌≡◌, ℕ, ◌++◌, List, [], length, drop, sym, ap, ◌∙◌}
use Rattle.std.proofs.lemmas.Bool.{eqb-true}
use Rattle.std.proofs.lemmas.List.{nil_from_length}
use Rattle.region.proofs.access.WriteAccess.write.Goals as goal

-- no byte written changes nothing
pub returns-then-is_empty-clause-written : goal.returns-then-is_empty-clause-written
returns-then-is_empty-clause-written c =
    let none : c.args.bytes.now ≡ [] = nil_from_length c.args.bytes.now (eqb-true (length c.args.bytes.now) 0 (sym c.is_empty.ensures ∙ c.if-is_empty.true)) in
    ap (λ (bs : List ℕ). record c.args.self { items = bs ++ drop (length bs) c.args.self.items }) (sym none)
