use Rattle.std.proofs.Common.{◌≡◌, ◌∙◌, ◌≤◌, ℕ, ap, sym, subst, arith}
use Rattle.std.specs.Prelude.{max, min, unwrap_or}
use Rattle.std.specs.Str.Parse.{ExplainsUnsignedError, HasUnsignedDigitsIfOk, ParsesUnsigned, digits_value, without_leading_plus}
use Rattle.clap.specs.Matches.{found_of}
use Rattle.clap.proofs.WalkLemmas.{one_text-rows}
use Rattle.command_line.proofs.NumberTexts.{cut_high, cut_low, kept, reads}
use Rattle.command_line.proofs.number.number_of.Goals as goal

pub returns : goal.returns
returns c =
    let n = c.args.number in
    let rows = one_text-rows (found_of c.args.matches.now) n.name.now in
    let is : (v : ℕ) → c.unwrap_or.result ≡ v → n.least ≤ v → v ≤ n.most → c.clamp.result ≡ v =
    λ v e low high. c.clamp.ensures ∙ ap (λ x. max n.least (min x n.most)) e ∙ kept n.least n.most v low high in
    let some : n.least ≤ n.most = omega (arith, c.requires.low, c.requires.high) in
    record {
      low = subst (λ x. n.least ≤ x) (sym c.clamp.ensures) (cut_low n.least n.most c.unwrap_or.result);
      high = subst (λ x. x ≤ n.most) (sym c.clamp.ensures) (cut_high n.least n.most c.unwrap_or.result some);
      absent = λ none. is n.otherwise (c.unwrap_or.ensures ∙ ap (λ o. unwrap_or o n.otherwise) (c.get_one-found.ensures.none (rows ∙ none))) c.requires.low c.requires.high;
      given = λ text found passed.
          let read = reads _ (λ bs r. ParsesUnsigned 64 10 bs r × ExplainsUnsignedError 10 bs r × HasUnsignedDigitsIfOk bs r) n.least n.most text c.get_one-found.result
          (c.get_one-found.ensures.value text (rows ∙ found)) (λ t x g. g.0) passed in
          is (digits_value 10 (without_leading_plus text)) (c.unwrap_or.ensures ∙ ap (λ o. unwrap_or o n.otherwise) read) passed.2 passed.3;
    }
