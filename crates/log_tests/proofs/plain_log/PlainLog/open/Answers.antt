use Rattle.std.proofs.Common.{◌≡◌, ◌∙◌, ◌/◌, ◌%◌, ◌<◌, ap, subst, sym, rules, arith}
use Rattle.std.proofs.lemmas.Int.{to_z-of_z}
use Rattle.std.specs.Int.{w32}
use Rattle.std.specs.Prelude.{FitsSigned}
use Rattle.theory.specs.Position.{max_position}
use Rattle.log_tests.proofs.Plain.Opening.{opens}
use Rattle.log_tests.proofs.plain_log.PlainLog.open.Goals as goal

pub invariant_of-result : goal.invariant_of-result
invariant_of-result c =
    let unit : c.args.start % 32 ≡ 0 = search rules in
    let below : c.args.start < max_position c.args.geometry = search rules in
    let session = subst (FitsSigned w32) (sym (to_z-of_z w32 c.args.session c.ranges.session)) c.ranges.session in
    let stream = subst (FitsSigned w32) (sym (to_z-of_z w32 c.args.stream c.ranges.stream)) c.ranges.stream in
    let additions = c.in_ok-additions.ensures.capacity in let bytes = c.in_ok-bytes.ensures.capacity in let term = c.term_length-term.ensures.value in (
      opens _ c.args.start _ _ _ c.term_length-term.ensures.legal (record { session = session; stream = stream }) unit below (ap (λ n. c.args.start / n) (c.from.ensures ∙ term)) c.in_ok-additions.ensures.items c.in_ok-bytes.ensures.items,
      omega (arith, additions, term),
      omega (arith, bytes, term),
    )
