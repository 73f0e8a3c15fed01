use Rattle.std.proofs.Common.{rules, List, ℕ, ap, ◌∙◌, SFits, to_z}
use Rattle.std.specs.Int.{w64}
use Rattle.std.proofs.lemmas.Int.{to_z-of_z}
use Rattle.std.proofs.lemmas.List.{take_rest}
use Rattle.byteorder.specs.Endian.{little_number}
use Rattle.frames.proofs.fields.i64_at.Goals as goal

pub returns : goal.returns
returns c =
    let f : SFits w64 c.read_i64.result = search rules in
    to_z-of_z w64 c.read_i64.result f ∙ c.read_i64.ensures ∙ ap (λ (l : List ℕ). to_z w64 (little_number 8 l)) (take_rest c.args.bytes.now c.args.place)
