-- What a getter reads of a text that passed a range.
use Rattle.std.proofs.Common.{◌≡◌, ◌≤◌, ℕ, List, Option, Some, None, ap, arith}
use Rattle.std.specs.Prelude.{Ok, Err, Result, max, min}
use Rattle.std.specs.Str.Parse.{ParsesUnsigned, digits_value, without_leading_plus}
use Rattle.clap.specs.Matches.{ReadsOne}
use Rattle.clap.specs.Values.{IsUnsignedIn}

pub reads : (E : Type 0) (G : List ℕ → Result ℕ E → Type 0) (least most : ℕ) (text : List ℕ) (r : Option ℕ) → ReadsOne G text r
    → ((t : List ℕ) (x : Result ℕ E) → G t x → ParsesUnsigned 64 10 t x) → IsUnsignedIn least most text → r ≡ Some (digits_value 10 (without_leading_plus text))
reads E G least most text (Some v) h only passed = let parsed = only text (Ok v) h in ap Some parsed.1
reads E G least most text None h only passed = absurd (only text (Err h.0) h.1 (passed.0, passed.1))

-- a range cuts nothing off a number in it
pub kept : (least most number : ℕ) → least ≤ number → number ≤ most → max least (min number most) ≡ number
kept least most number low high = grind (arith, low, high)

-- and gives one in it
pub cut_low : (least most number : ℕ) → least ≤ max least (min number most)
cut_low least most number = grind arith

pub cut_high : (least most number : ℕ) → least ≤ most → max least (min number most) ≤ most
cut_high least most number some = grind (arith, some)
