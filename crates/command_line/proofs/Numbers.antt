-- Options of a row, one after the other.
use Rattle.std.proofs.Common.{◌≡◌, ◌∙◌, ◌<◌, ◌+◌, ℕ, suc, List, ◌∷◌, length, get_or, drop, drop-cons, sym, ap, arith}
use Rattle.clap.specs.Words.{App}
use Rattle.command_line.specs.Numbers.{plus, with_numbers}
use Rattle.command_line.specs.declared.number.Number.{Number}

-- the option at a place, and those behind it
at_place : (ns : List Number) (i : ℕ) (d : Number) → i < length ns → drop i ns ≡ get_or ns i d ∷ drop (i + 1) ns
at_place ns i d below =
    let next : suc i ≡ i + 1 = omega arith in
    drop-cons ns i d below ∙ ap (λ k. get_or ns i d ∷ drop k ns) next

pub one_more : (ns : List Number) (i : ℕ) (d : Number) (a b : App) → i < length ns → b ≡ plus (get_or ns i d).name.now (get_or ns i d).least (get_or ns i d).most a → with_numbers (drop (i + 1) ns) b ≡ with_numbers (drop i ns) a
one_more ns i d a b below more = ap (with_numbers (drop (i + 1) ns)) more ∙ ap (λ ms. with_numbers ms a) (sym (at_place ns i d below))
