use Rattle.std.proofs.Common.{◌≡◌, ◌<◌, ℕ, List, [], length, replicate, sym, ◌∙◌, ap, arith}
use Rattle.std.proofs.lemmas.List.{nil_from_length}
use Rattle.region.specs.declared.access.WriteAccess.{WriteAccess}
use Rattle.region.proofs.access.WriteAccess.clear.Goals as goal

pub returns-then-len-eq0-clause-cleared : goal.returns-then-len-eq0-clause-cleared
returns-then-len-eq0-clause-cleared c =
    let none : length c.args.self.items ≡ 0 = sym c.requires.place.2 ∙ c.if-len-eq0.true in
    λ i. record c.args.self { items = (nil_from_length c.args.self.items none ∙ ap (λ (n : ℕ). replicate {A = ℕ} n 0) (sym none)) i }

pub lend-bytes-requires-clause-some : goal.lend-bytes-requires-clause-some
lend-bytes-requires-clause-some c = (let e = c.if-len-eq0.false in omega arith, c.requires.short)
