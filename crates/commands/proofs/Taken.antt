-- Bytes that were taken of an input, one part after the other.
use Rattle.std.proofs.Common.{ℕ, ◌+◌, ◌<◌, ◌≤◌, List, [], ◌++◌, length, length-append, take, length-take-le, Option, subst, arith, append-nil}
use Rattle.std.specs.Io.KnownBytes.{Consumes}
use Rattle.std.proofs.KnownBytes.{Consumes-trans}
use Rattle.commands.specs.Scripting.{TakesBytes}

pub taken_no_more : (a b c : Option (List ℕ)) (text : List ℕ) → Consumes a b text → Consumes b c [] → Consumes a c text
taken_no_more a b c text h none = subst (Consumes a c) (append-nil text) (Consumes-trans a b c text [] h none)

-- a part that is too long behind what was taken
pub takes_many : (a b c : Option (List ℕ)) (text buffer : List ℕ) (count : ℕ) → count ≤ length buffer → 1048576 < length text + count → Consumes a b text → Consumes b c (take count buffer) → TakesBytes a c (λ n. 1048576 < n)
takes_many a b c text buffer count there many h more =
    (text ++ take count buffer, Consumes-trans a b c text (take count buffer) h more, omega (arith, many, length-append text (take count buffer), length-take-le count buffer there))

pub takes_few : (a b c : Option (List ℕ)) (text buffer : List ℕ) (count : ℕ) → count ≤ length buffer → length text + count ≤ 1048576 → Consumes a b text → Consumes b c (take count buffer) → TakesBytes a c (λ n. n ≤ 1048576)
takes_few a b c text buffer count there few h more =
    (text ++ take count buffer, Consumes-trans a b c text (take count buffer) h more, omega (arith, few, length-append text (take count buffer), length-take-le count buffer there))
