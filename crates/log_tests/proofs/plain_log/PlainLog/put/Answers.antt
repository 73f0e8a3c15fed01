use Rattle.std.proofs.Common.{◌≡◌, ◌∙◌, length, sym, subst, arith}
use Rattle.one_hand.specs.Stream.{Fits, Stream, case_of}
use Rattle.log_tests.proofs.Plain.Parts.{extended, message_fits, parts, puts, spare, tail_low}
use Rattle.log_tests.proofs.plain_log.PlainLog.put.Goals as goal

pub push_reserved-requires : goal.push_reserved-requires
push_reserved-requires c =
    let fits = subst (λ (s : Stream). case_of s (length c.args.message.now) ≡ Fits) (sym c.self.view_is) c.requires.fits in
    let len = c.self.inside.additions.ok.0 in
    spare (parts c.self.inside) c.self.invariant.0 _ _ (omega (arith, len)) c.self.invariant.1 (tail_low (parts c.self.inside) c.self.invariant.0 _ fits)

pub unwrap-requires : goal.unwrap-requires
unwrap-requires c =
    let len = c.self.inside.bytes.ok.0 in
    c.extend_from_slice.ensures.succeeds (message_fits (parts c.self.inside) c.args.self.now c.self.view_is c.self.invariant.0 c.args.message.now c.requires.short c.requires.fits _ _ (omega (arith, len)) c.self.invariant.2)

pub invariant_of-self : goal.invariant_of-self
invariant_of-self c =
    let reserved = c.self.invariant.1 in let capacity = c.push_reserved.ensures.capacity in let bytes = c.self.invariant.2 in let more = c.extend_from_slice.ensures.capacity in
    let len = c.self.inside.bytes.ok.0 in let at = c.len.ensures in (
      (puts (parts c.self.inside) c.args.self.now c.self.view_is c.self.invariant.0 c.args.publisher c.args.message.now c.requires.publisher c.requires.short c.requires.fits c.from-covered.result c.len.result c.push_reserved.new.self.items c.extend_from_slice.new.self.items (c.from-covered.ensures ∙ c.framed_length.ensures) (omega (arith, at, len)) c.push_reserved.ensures.items (extended c.extend_from_slice.result _ _ _ (c.extend_from_slice.ensures.succeeds (message_fits (parts c.self.inside) c.args.self.now c.self.view_is c.self.invariant.0 c.args.message.now c.requires.short c.requires.fits _ _ (omega (arith, len)) c.self.invariant.2)) c.extend_from_slice.ensures.items)).0,
      omega (arith, reserved, capacity),
      omega (arith, bytes, more),
    )

pub returns : goal.returns
returns c =
    let len = c.self.inside.bytes.ok.0 in let at = c.len.ensures in
    (puts (parts c.self.inside) c.args.self.now c.self.view_is c.self.invariant.0 c.args.publisher c.args.message.now c.requires.publisher c.requires.short c.requires.fits c.from-covered.result c.len.result c.push_reserved.new.self.items c.extend_from_slice.new.self.items (c.from-covered.ensures ∙ c.framed_length.ensures) (omega (arith, at, len)) c.push_reserved.ensures.items (extended c.extend_from_slice.result _ _ _ (c.extend_from_slice.ensures.succeeds (message_fits (parts c.self.inside) c.args.self.now c.self.view_is c.self.invariant.0 c.args.message.now c.requires.short c.requires.fits _ _ (omega (arith, len)) c.self.invariant.2)) c.extend_from_slice.ensures.items)).1
