use Rattle.std.proofs.Common.{rules, ◌≡◌, slice_index_or, length, List, [], ◌∷◌, subst, sym, ◌∙◌, arith}
use Rattle.shared_log.specs.Steps.Handles.{LogValue}
use Rattle.shared_log.specs.Parts.{AreReaders, IsNewReader}
use Rattle.shared_log.specs.Readers.{ReaderValue}
use Rattle.agents.proofs.passes.open_log.Goals as goal

first_new : (l : LogValue) (rs : List ReaderValue) (r : ReaderValue) → AreReaders l 0 rs → length rs ≡ 1 → r ≡ slice_index_or rs 0 r → IsNewReader l 0 r
first_new l [] r are one is = absurd (omega (arith, one))
first_new l (x ∷ xs) r are one is = subst (IsNewReader l 0) (sym is) are.0

pub returns : goal.returns
returns c = let e = c.in-Ok.ensures in record {
  log_is = search rules;
  many = search rules;
  publishers_are = search rules;
  reader_is = first_new _ _ _ e.parts.readers_are (e.parts.all ∙ e.log.consumers_is) c.remove.ensures.value;
  keeper_is = e.parts.keeper_is;
}
