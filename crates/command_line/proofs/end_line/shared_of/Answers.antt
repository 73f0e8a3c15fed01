use Rattle.std.proofs.Common.{◌≡◌, ◌∙◌, Option, Some, None, ap, codes}
use Rattle.std.specs.Prelude.{option_map, unwrap_or}
use Rattle.std.specs.Borrow.{Bor}
use Rattle.clap.specs.Matches.{found_of}
use Rattle.clap.specs.Walk.{Text}
use Rattle.clap.proofs.WalkLemmas.{first_value-rows}
use Rattle.command_line.proofs.end_line.shared_of.Goals as goal

one_word : (found : Option (Bor Text)) (other own : Bor Text) (word : Text) → option_map (λ s. s.now) found ≡ Some word → own ≡ unwrap_or found other → own.now ≡ word
one_word None other own word e is = absurd (cc)
one_word (Some s) other own word e is = let same : own ≡ s = is in let text : s.now ≡ word = cc in ap (λ (b : Bor Text). b.now) same ∙ text

pub returns : goal.returns
returns c =
    let f = found_of c.args.matches.now in
    record {
      channel = λ text met. one_word c.get_str.result _ c.unwrap_or.result text (c.get_str.ensures ∙ (first_value-rows f (codes "CHANNEL") ∙ met)) c.unwrap_or.ensures;
      stream = c.number_of.ensures;
      loss = c.number_of-2.ensures;
      repeat = c.number_of-3.ensures;
      hold = c.number_of-4.ensures;
      seed = c.number_of-5.ensures;
      blocks = c.flag_of.ensures;
      counters = c.flag_of-2.ensures;
    }
