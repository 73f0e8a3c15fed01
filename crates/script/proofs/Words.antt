-- The values of words: reading one, and being its spelling, are the same.
use Rattle.std.proofs.Common.{◌≡◌, ℕ, ◌+◌, ◌-◌, ◌^◌, ◌<◌, ◌≤◌, ℤ, pos, Bool, true, false, inl, inr, List, [], ◌∷◌, length, drop, Option, Some, None, Result, Ok, Err, refl, sym, ap, subst, ◌∙◌, arith}
use Rattle.std.specs.Prelude.{neg_ℤ, IfOk, IfSome, option_map}
use Rattle.std.specs.List.{list_all}
use Rattle.std.specs.Char.{is_ascii_digit}
use Rattle.std.specs.Str.Parse.{digits_value, starts_with_minus}
use Rattle.std.specs.Prelude.{◌==◌}
use Rattle.std.proofs.lemmas.Bool.{cond-true, cond-false, and_parts, ltb-true, eqb-true}
use Rattle.std.proofs.lemmas.List.Sums.{AllPass-from_list_all, list_all-from_AllPass}
use Rattle.std.proofs.lemmas.Option.{cond_some}
use Rattle.hex.specs.Hex.{decode_of}
use Rattle.hex.specs.declared.error.FromHexError.{FromHexError}
use Rattle.hex.proofs.HexLemmas.{decode_of-ok}
use Rattle.text.specs.Decimals.{◌>>=◌, is_number, number_of, signed_of}
use Rattle.script.specs.Values.{read_bytes, hex_of}
use Rattle.script.specs.Language.{IsUpTo, IsSigned, SpellsBytes, IsHex}
use Rattle.script.proofs.Options.{bind_some, some_bind, chosen}
use Rattle.text.proofs.Digits.{a_number}

pub number_found : (most : ℕ) (word : List ℕ) (n : ℕ) → number_of most word ≡ Some n → IsUpTo most word n
unfolding number_of
number_found most word n e =
    let parts = cond_some (is_number most word) (digits_value 10 word) n e in
    let first = and_parts _ _ parts.0 in
    let second = and_parts _ _ first.1 in
    let small : digits_value 10 word < most + 1 = ltb-true _ _ second.1 in
    (record { some = ltb-true _ _ first.0; digits = AllPass-from_list_all is_ascii_digit word second.0; value = sym parts.1 }, omega arith)

pub number_only : (most : ℕ) (word : List ℕ) (n : ℕ) → IsUpTo most word n → number_of most word ≡ Some n
number_only most word n (is, small) =
    let fits : digits_value 10 word ≤ most = omega (arith, is.value) in
    sym (a_number most word is.some (list_all-from_AllPass is_ascii_digit word is.digits) fits) ∙ ap Some (sym is.value)

minus_is : (word : List ℕ) → starts_with_minus word ≡ true → word ≡ 45 ∷ drop 1 word
minus_is [] e = absurd (cc)
minus_is (x ∷ xs) e = ap (λ b. b ∷ xs) (eqb-true x 45 e)

no_minus : (x : ℕ) (t : Bool) → (x == 45) ≡ t → is_ascii_digit x ≡ true → t ≡ false
no_minus x false e digit = refl
no_minus x true e digit =
    let same : x ≡ 45 = eqb-true x 45 e in
    let wrong : is_ascii_digit 45 ≡ true = subst (λ b. is_ascii_digit b ≡ true) same digit in
    absurd (cc)

not_minus : (word : List ℕ) → list_all is_ascii_digit word ≡ true → starts_with_minus word ≡ false
not_minus [] all = refl
not_minus (x ∷ xs) all = no_minus x (x == 45) refl (and_parts _ _ all).0

pub signed_found : (word : List ℕ) (z : ℤ) → signed_of word ≡ Some z → IsSigned word z
unfolding signed_of
signed_found word z e = elim (chosen (starts_with_minus word) _ _ _ e) [
  | inl minus ↦
      let read = bind_some (number_of (2 ^ 31) (drop 1 word)) (λ n. Some (neg_ℤ (pos n))) z minus.1 in
      let value : z ≡ neg_ℤ (pos read.0) = cc in
      inr (drop 1 word, read.0, minus_is word minus.0, number_found (2 ^ 31) (drop 1 word) read.0 read.1, value)
  | inr plain ↦
      let read = bind_some (number_of (2 ^ 31 - 1) word) (λ n. Some (pos n)) z plain.1 in
      let value : z ≡ pos read.0 = cc in
      inl (read.0, number_found (2 ^ 31 - 1) word read.0 read.1, value)
]

pub signed_only : (word : List ℕ) (z : ℤ) → IsSigned word z → signed_of word ≡ Some z
unfolding signed_of
signed_only word z (inl (n, is, value)) =
    cond-false _ _ _ (not_minus word (list_all-from_AllPass is_ascii_digit word is.0.digits))
    ∙ some_bind (number_of (2 ^ 31 - 1) word) (λ n. Some (pos n)) n (number_only (2 ^ 31 - 1) word n is) ∙ ap Some (sym value)
signed_only word z (inr (digits, n, minus, is, value)) =
    let here : starts_with_minus word ≡ true = rw minus refl in
    let rest : drop 1 word ≡ digits = rw minus refl in
    cond-true _ _ _ here
    ∙ ap (λ ds. number_of (2 ^ 31) ds >>= λ n. Some (neg_ℤ (pos n))) rest
    ∙ some_bind (number_of (2 ^ 31) digits) (λ n. Some (neg_ℤ (pos n))) n (number_only (2 ^ 31) digits n is) ∙ ap Some (sym value)

-- what no error stands in place of is what was read
bytes_read : (read : Result (List ℕ) FromHexError) (bytes : List ℕ) → read_bytes read ≡ Some bytes → read ≡ Ok bytes
bytes_read (Ok xs) bytes e = let same : xs ≡ bytes = cc in ap Ok same
bytes_read (Err fault) bytes e = absurd (cc)

some_bytes : (digit : ℕ) (text bytes : List ℕ) → SpellsBytes (digit ∷ text) bytes → 0 < length bytes
some_bytes digit text bytes spells =
    let twice = (decode_of-ok (digit ∷ text) bytes spells).2 in
    omega (arith, twice)

found_is : {V : Type 0} (items : V → List ℕ) (text : List ℕ) (found : Option V) (read : Result (List ℕ) FromHexError) → decode_of text ≡ read
    → IfSome found (λ bytes. SpellsBytes text (items bytes))
    → ((bytes : List ℕ) → SpellsBytes text bytes → option_map items found ≡ Some bytes)
    → option_map items found ≡ read_bytes read
found_is items text found (Ok bytes) is spelled only = only bytes is
found_is items text None (Err fault) is spelled only = refl
found_is items text (Some bytes) (Err fault) is spelled only = absurd (cc)

-- the bytes of a text that has some
pub message_read : {V E : Type 0} (items : V → List ℕ) (text : List ℕ) (read : Result (Option V) E) → 0 < length text
    → IfOk read (λ found. IfSome found (λ bytes. SpellsBytes text (items bytes)))
    → ((bytes : List ℕ) → SpellsBytes text bytes → IfOk read (λ found. option_map items found ≡ Some bytes))
    → IfOk read (λ found. option_map items found ≡ hex_of text)
unfolding hex_of
message_read items text (Err fault) some found only = tt
message_read items [] (Ok none) some found only = absurd (omega arith)
message_read items (digit ∷ text) (Ok read) some found only = found_is items (digit ∷ text) read (decode_of (digit ∷ text)) refl found only

pub none_read : (text : List ℕ) → length text ≡ 0 → None ≡ hex_of text
unfolding hex_of
none_read [] none = refl
none_read (digit ∷ text) none = absurd (omega arith)

pub hex_found : (word bytes : List ℕ) → hex_of word ≡ Some bytes → IsHex word bytes
unfolding hex_of
hex_found [] bytes e = absurd (cc)
hex_found (digit ∷ text) bytes e =
    let spells = bytes_read (decode_of (digit ∷ text)) bytes e in
    (some_bytes digit text bytes spells, spells)

pub hex_only : (word bytes : List ℕ) → IsHex word bytes → hex_of word ≡ Some bytes
unfolding hex_of
hex_only [] bytes (some, spells) =
    let twice = (decode_of-ok [] bytes spells).2 in
    absurd (omega (arith, some, twice))
hex_only (digit ∷ text) bytes (some, spells) = ap read_bytes spells
