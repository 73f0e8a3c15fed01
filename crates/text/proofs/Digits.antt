-- Numbers, read from the front.
use Rattle.std.proofs.Common.{◌≡◌, ℕ, ◌+◌, ◌*◌, ◌<◌, ◌≤◌, Bool, true, false, ◌&&◌, List, [], ◌∷◌, length, get_or, drop, Some, None, sym, ap, ◌∙◌, arith}
use Rattle.std.specs.List.{list_all}
use Rattle.std.specs.Char.{is_ascii_digit, digit_value}
use Rattle.std.specs.Str.Parse.{digits_value, digits_value_after}
use Rattle.std.proofs.lemmas.Bool.{and_left, and_right, and_from, le-ltb, lt-ltb, cond-true, cond-false}
use Rattle.std.proofs.lemmas.List.{at_drop_more}
use Rattle.std.proofs.Common.{pos, ◌-ℤ◌, rules}
use Rattle.std.specs.Prelude.{neg_ℤ}
use Rattle.std.specs.Int.{w32, w64}
use Rattle.std.proofs.lemmas.Int.{ints, to_z-of_z}
use mir.Val.{to_z, of_z, SFits}
use Rattle.text.specs.Decimals.{is_number, number_of}

-- further digits make no number smaller
pub after_le : (n : ℕ) (ds : List ℕ) → n ≤ digits_value_after 10 n ds
after_le n [] = omega arith
after_le n (d ∷ ds) = omega (arith, after_le (n * 10 + digit_value d) ds)

-- one digit on
pub value_step : (ds : List ℕ) (i v w : ℕ) → i < length ds → digits_value_after 10 v (drop i ds) ≡ w → digits_value_after 10 (v * 10 + digit_value (get_or ds i 0)) (drop (i + 1) ds) ≡ w
value_step ds i v w inside h = sym (at_drop_more (digits_value_after 10 v) ds i 0 inside) ∙ h

pub value_least : (ds : List ℕ) (i v w : ℕ) → i < length ds → digits_value_after 10 v (drop i ds) ≡ w → v * 10 + digit_value (get_or ds i 0) ≤ w
value_least ds i v w inside h = omega (arith, value_step ds i v w inside h, after_le (v * 10 + digit_value (get_or ds i 0)) (drop (i + 1) ds))

pub all_step : (ds : List ℕ) (i : ℕ) (b t : Bool) → i < length ds → list_all is_ascii_digit (drop i ds) ≡ b → is_ascii_digit (get_or ds i 0) ≡ t → (t && list_all is_ascii_digit (drop (i + 1) ds)) ≡ b
all_step ds i b t inside h test = ap (λ x. x && list_all is_ascii_digit (drop (i + 1) ds)) (sym test) ∙ sym (at_drop_more (list_all is_ascii_digit) ds i 0 inside) ∙ h

refused : (most : ℕ) (ds : List ℕ) → is_number most ds ≡ false → None ≡ number_of most ds
unfolding number_of
refused most ds e = sym (cond-false _ _ _ e)

pub no_digit : (most : ℕ) (ds : List ℕ) → length ds ≡ 0 → None ≡ number_of most ds
no_digit most ds e = refused most ds (and_left _ _ (le-ltb 0 (length ds) (omega arith)))

pub not_all_digits : (most : ℕ) (ds : List ℕ) → list_all is_ascii_digit ds ≡ false → None ≡ number_of most ds
not_all_digits most ds e = refused most ds (and_right _ _ (and_left _ _ e))

pub too_large : (most : ℕ) (ds : List ℕ) → most < digits_value 10 ds → None ≡ number_of most ds
too_large most ds h = refused most ds (and_right _ _ (and_right _ _ (le-ltb (digits_value 10 ds) (most + 1) (omega arith))))

pub a_number : (most : ℕ) (ds : List ℕ) → 0 < length ds → list_all is_ascii_digit ds ≡ true → digits_value 10 ds ≤ most → Some (digits_value 10 ds) ≡ number_of most ds
unfolding number_of
a_number most ds some all small = sym (cond-true _ _ _ (and_from _ _ (lt-ltb _ _ some) (and_from _ _ all (lt-ltb (digits_value 10 ds) (most + 1) (omega arith)))))

-- signed numbers are what they are
pub plus : (n : ℕ) → n ≤ 2147483647 → to_z w32 n ≡ pos n
plus n small = search rules

pub minus : (n : ℕ) → n ≤ 2147483648 → to_z w32 (of_z w32 (to_z w64 (of_z w64 (pos 0 -ℤ to_z w64 n)))) ≡ neg_ℤ (pos n)
minus n small =
    let here : to_z w64 n ≡ pos n = search rules in
    let fits : SFits w64 (pos 0 -ℤ pos n) = search rules in
    let fits32 : SFits w32 (pos 0 -ℤ pos n) = search rules in
    rw here (rw (to_z-of_z w64 (pos 0 -ℤ pos n) fits) (rw (to_z-of_z w32 (pos 0 -ℤ pos n) fits32) (omega (arith, ints))))
