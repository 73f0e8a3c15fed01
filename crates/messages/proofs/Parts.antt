-- Parts of bytes that are written one behind the other.
use Rattle.std.proofs.Common.{◌≡◌, ◌∙◌, ℕ, ◌+◌, ◌-◌, ◌<◌, ◌≤◌, List, ◌++◌, length, length-append, length-drop, take, drop, Option, Result, Ok, Err, sym, ap, subst, arith, take-add}
use Rattle.std.proofs.lemmas.List.{take_rest, take-append-le}
use Rattle.std.proofs.Math.Seq.{take-append-add}
use Rattle.std.specs.Prelude.{OnErr}
use Rattle.std.specs.Io.KnownBytes.{Appends, Keeps}
use Rattle.std.proofs.KnownBytes.{Appends-kept, Appends-trans}
use Rattle.messages.specs.Forms.{AppendsPart}

-- so many more of them
more_of : (all : List ℕ) (at count : ℕ) → take at all ++ take count (take (length all - at) (drop at all)) ≡ take (at + count) all
more_of all at count = ap (λ (l : List ℕ). take at all ++ take count l) (take_rest all at) ∙ sym (take-add at count all)

-- the output took so many, and fewer than it was given
pub more_written : (a b c : Option (List ℕ)) (all : List ℕ) (at count next : ℕ) → next ≡ at + count → Appends a b (take at all) → Appends b c (take count (take (length all - at) (drop at all))) → Appends a c (take next all)
more_written a b c all at count next is first then = subst (λ (n : ℕ). Appends a c (take n all)) (sym is) (subst (Appends a c) (more_of all at count) (Appends-trans a b c _ _ first then))

pub some_left : (all : List ℕ) (at count next : ℕ) → next ≡ at + count → at < length all → count ≤ length (take (length all - at) (drop at all)) → (count ≡ length (take (length all - at) (drop at all)) → ⊥) → next < length all
some_left all at count next is low few other =
    let left : length (take (length all - at) (drop at all)) ≡ length all - at = ap length (take_rest all at) ∙ length-drop at all in
    omega (arith, is, low, few, other, left)

-- it took none
pub still_written : (a b c : Option (List ℕ)) (all : List ℕ) (at next : ℕ) → next ≡ at → Appends a b (take at all) → Keeps b c → Appends a c (take next all)
still_written a b c all at next is first kept = subst (λ (n : ℕ). Appends a c (take n all)) (sym is) (Appends-kept a b c _ first kept)

-- a part of the first of them
pub part_of_first : (a b : Option (List ℕ)) (first second : List ℕ) → AppendsPart a b first → AppendsPart a b (first ++ second)
part_of_first a b first second (number, low, written) =
    (number, omega (arith, low, length-append first second), subst (Appends a b) (sym (take-append-le number first second (omega (arith, low)))) written)

-- the first, and a part of the second
pub part_of_second : (a b c : Option (List ℕ)) (first second : List ℕ) → Appends a b first → AppendsPart b c second → AppendsPart a c (first ++ second)
part_of_second a b c first second whole (number, low, written) =
    (length first + number, omega (arith, low, length-append first second), subst (Appends a c) (sym (take-append-add first second number)) (Appends-trans a b c _ _ whole written))

pub part_then : {T E : Type 0} (r : Result T E) (a b c : Option (List ℕ)) (first second : List ℕ) → Appends a b first → OnErr r (AppendsPart b c second) → OnErr r (AppendsPart a c (first ++ second))
part_then (Ok x) a b c first second whole part = tt
part_then (Err e) a b c first second whole part = part_of_second a b c first second whole part
