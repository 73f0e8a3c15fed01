-- An input has one reading: which message comes next, and what is left behind it, is settled by its bytes.
use Rattle.std.specs.Prelude.{◌≡◌, ◌<◌, ◌^◌, ℕ, Bool, true, List, Option, Some}
use Rattle.messages.specs.Inputs.{Gives}
use Rattle.messages.specs.declared.form.Form.{Form}

-- two answers of one input are the same, and leave the same
pub record AreSame (a b : Option (List ℕ)) (any other : Bool) (m n : List ℕ) : Type 0 where
  pub found : any ≡ other
  pub left : a ≡ b
  pub message : any ≡ true → m ≡ n

abbrev pub HaveOneReading : Type 0
HaveOneReading =
    (form : Form) (greatest : ℕ) (bytes : List ℕ) (a b : Option (List ℕ)) (any other : Bool) (m n : List ℕ) → greatest < 2 ^ 32
    → Gives form greatest (Some bytes) a any m → Gives form greatest (Some bytes) b other n → AreSame a b any other m n
