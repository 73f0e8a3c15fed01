use Rattle.std.proofs.Common.{◌∙◌, ℕ, ◌+◌, ap, arith}
use Rattle.log_tests.proofs.Plain.Ending.{abort_plain, end_low, place_low, size_low}
use Rattle.log_tests.proofs.Plain.Parts.{aborts, held_there, parts}
use Rattle.log_tests.proofs.plain_log.PlainLogClaims.abort.Goals as goal

pub index_mut-requires : goal.index_mut-requires
index_mut-requires c =
    let low = place_low (parts c.self.inside) c.self.invariant.0 c.args.publisher c.requires.publisher c.in-Some.held (held_there c.self.inside.held c.args.publisher c.in-Some.held c.in-Some.is) in let len = c.self.inside.additions.ok.0 in omega (arith, low, len)

pub overflow_add-held-2 : goal.overflow_add-held-2
overflow_add-held-2 c = let low = size_low (parts c.self.inside) c.self.invariant.0 c.args.publisher c.requires.publisher c.in-Some.held (held_there c.self.inside.held c.args.publisher c.in-Some.held c.in-Some.is) in omega (arith, low)

pub align32-requires : goal.align32-requires
align32-requires c = let low = size_low (parts c.self.inside) c.self.invariant.0 c.args.publisher c.requires.publisher c.in-Some.held (held_there c.self.inside.held c.args.publisher c.in-Some.held c.in-Some.is) in omega (arith, low)

pub overflow_add-result : goal.overflow_add-result
overflow_add-result c =
    let low = end_low (parts c.self.inside) c.self.invariant.0 c.args.publisher c.requires.publisher c.in-Some.held (held_there c.self.inside.held c.args.publisher c.in-Some.held c.in-Some.is) in
    let e = c.from.ensures in let f = c.align32.ensures in omega (arith, low, e, f)

pub invariant_of-self : goal.invariant_of-self
invariant_of-self c = (abort_plain (parts c.self.inside) c.self.invariant.0 c.args.publisher c.requires.publisher c.in-Some.held (held_there c.self.inside.held c.args.publisher c.in-Some.held c.in-Some.is), c.self.invariant.1, c.self.invariant.2)

pub returns : goal.returns
returns c = aborts (parts c.self.inside) c.args.self.now c.self.view_is c.self.invariant.0 c.args.publisher c.requires.publisher c.in-Some.held (held_there c.self.inside.held c.args.publisher c.in-Some.held c.in-Some.is) _ (ap (λ (n : ℕ). c.in-Some.held.start + n) (c.from.ensures ∙ c.align32.ensures))
