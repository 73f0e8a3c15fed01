use Rattle.std.proofs.Common.{◌∙◌, ℕ, ◌+◌, length, refl, ap, arith}
use Rattle.log_tests.proofs.Plain.Ending.{end_low, place_low, size_low}
use Rattle.log_tests.proofs.Plain.Parts.{commit_fits, commits, extended, has_size, held_there, parts}
use Rattle.log_tests.proofs.plain_log.PlainLogClaims.commit.Goals as goal

pub index_mut-requires : goal.index_mut-requires
index_mut-requires c =
    let low = place_low (parts c.self.inside) c.self.invariant.0 c.args.publisher c.requires.publisher c.in-Some.held (held_there c.self.inside.held c.args.publisher c.in-Some.held c.in-Some.is) in let len = c.self.inside.additions.ok.0 in omega (arith, low, len)

pub unwrap-requires : goal.unwrap-requires
unwrap-requires c =
    let p = parts c.self.inside in let at = held_there c.self.inside.held c.args.publisher c.in-Some.held c.in-Some.is in
    let size = has_size p c.args.self.now c.self.view_is c.self.invariant.0 c.args.publisher c.requires.publisher c.in-Some.held at _ refl (length c.args.payload.now) c.requires.claimed in
    let len = c.self.inside.bytes.ok.0 in
    c.extend_from_slice.ensures.succeeds (commit_fits p c.self.invariant.0 c.args.publisher c.requires.publisher c.in-Some.held at c.args.payload.now size _ _ (omega (arith, len)) c.self.invariant.2)

pub overflow_add-held : goal.overflow_add-held
overflow_add-held c = let low = size_low (parts c.self.inside) c.self.invariant.0 c.args.publisher c.requires.publisher c.in-Some.held (held_there c.self.inside.held c.args.publisher c.in-Some.held c.in-Some.is) in omega (arith, low)

pub align32-requires : goal.align32-requires
align32-requires c = let low = size_low (parts c.self.inside) c.self.invariant.0 c.args.publisher c.requires.publisher c.in-Some.held (held_there c.self.inside.held c.args.publisher c.in-Some.held c.in-Some.is) in omega (arith, low)

pub overflow_add-result : goal.overflow_add-result
overflow_add-result c =
    let low = end_low (parts c.self.inside) c.self.invariant.0 c.args.publisher c.requires.publisher c.in-Some.held (held_there c.self.inside.held c.args.publisher c.in-Some.held c.in-Some.is) in
    let e = c.from.ensures in let f = c.align32.ensures in omega (arith, low, e, f)

pub invariant_of-self : goal.invariant_of-self
invariant_of-self c =
    let p = parts c.self.inside in let at = held_there c.self.inside.held c.args.publisher c.in-Some.held c.in-Some.is in
    let end = ap (λ (n : ℕ). c.in-Some.held.start + n) (c.from.ensures ∙ c.align32.ensures) in
    let size = has_size p c.args.self.now c.self.view_is c.self.invariant.0 c.args.publisher c.requires.publisher c.in-Some.held at _ end (length c.args.payload.now) c.requires.claimed in
    let len = c.self.inside.bytes.ok.0 in let place = c.len.ensures in let bytes = c.self.invariant.2 in let more = c.extend_from_slice.ensures.capacity in (
      (commits p c.args.self.now c.self.view_is c.self.invariant.0 c.args.publisher c.requires.publisher c.in-Some.held at _ end c.args.payload.now size c.len.result c.extend_from_slice.new.self.items (omega (arith, place, len)) (extended c.extend_from_slice.result _ _ _ (c.extend_from_slice.ensures.succeeds (commit_fits p c.self.invariant.0 c.args.publisher c.requires.publisher c.in-Some.held at c.args.payload.now size _ _ (omega (arith, len)) c.self.invariant.2)) c.extend_from_slice.ensures.items)).0,
      c.self.invariant.1,
      omega (arith, bytes, more),
    )

pub returns : goal.returns
returns c =
    let p = parts c.self.inside in let at = held_there c.self.inside.held c.args.publisher c.in-Some.held c.in-Some.is in
    let end = ap (λ (n : ℕ). c.in-Some.held.start + n) (c.from.ensures ∙ c.align32.ensures) in
    let size = has_size p c.args.self.now c.self.view_is c.self.invariant.0 c.args.publisher c.requires.publisher c.in-Some.held at _ end (length c.args.payload.now) c.requires.claimed in
    let len = c.self.inside.bytes.ok.0 in let place = c.len.ensures in
    (commits p c.args.self.now c.self.view_is c.self.invariant.0 c.args.publisher c.requires.publisher c.in-Some.held at _ end c.args.payload.now size c.len.result c.extend_from_slice.new.self.items (omega (arith, place, len)) (extended c.extend_from_slice.result _ _ _ (c.extend_from_slice.ensures.succeeds (commit_fits p c.self.invariant.0 c.args.publisher c.requires.publisher c.in-Some.held at c.args.payload.now size _ _ (omega (arith, len)) c.self.invariant.2)) c.extend_from_slice.ensures.items)).1
