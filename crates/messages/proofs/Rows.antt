-- A few messages, spelled.
use Rattle.std.proofs.Common.{◌≡◌, [], ◌∷◌, refl}
use Rattle.messages.specs.Forms.{spelling}
use Rattle.messages.specs.declared.form.Form.TheVariants.{Lines, Blocks}

two_lines : spelling Lines ((97 ∷ 13 ∷ []) ∷ [] ∷ []) ≡ 97 ∷ 13 ∷ 10 ∷ 10 ∷ []
two_lines = refl

two_blocks : spelling Blocks ((97 ∷ 10 ∷ []) ∷ [] ∷ []) ≡ 2 ∷ 0 ∷ 0 ∷ 0 ∷ 97 ∷ 10 ∷ 0 ∷ 0 ∷ 0 ∷ 0 ∷ []
two_blocks = refl
