-- Which region, and where it lies. Two regions that live at once differ in `life`.
use Rattle.std.specs.Prelude.{refl, ℕ, ◌+◌, List}
use Rattle.std.specs.Coded.{Coded, code_by, coded×, coded_list, coded_ℕ}
use denote.RawPtr.{Ptr, block_ptr}

-- its first byte is the byte `first` of the memory `block`, its bytes are lent for `life`, and each has a name
pub record Identity : Type 0 where
  pub life : ℕ
  pub names : List ℕ
  pub block : ℕ
  pub first : ℕ

abbrev pub identity_code : Coded Identity
identity_code =
    code_by (ℕ × (List ℕ × (ℕ × ℕ))) (coded× coded_ℕ (coded× (coded_list coded_ℕ) (coded× coded_ℕ coded_ℕ))) (λ i. (i.life, (i.names, (i.block, i.first))))
    (λ p. record { life = p.0; names = p.1.0; block = p.1.1.0; first = p.1.1.1 }) (λ _. refl)

-- the address of the byte with this number
abbrev pub byte_address : Identity → ℕ → Ptr
byte_address i at = block_ptr i.block (i.first + at)

-- where a region begins
abbrev pub start_address : Identity → Ptr
start_address i = block_ptr i.block i.first

-- A round of reading: it lasts for `life`, and who holds all parts of `book` may end it. No two rounds are the same.
pub record Round : Type 0 where
  pub life : ℕ
  pub book : ℕ

abbrev pub round_code : Coded Round
round_code = code_by (ℕ × ℕ) (coded× coded_ℕ coded_ℕ) (λ r. (r.life, r.book)) (λ p. record { life = p.0; book = p.1 }) (λ _. refl)

-- which bytes of which region are out as a `Vec`
pub record Stretch : Type 0 where
  pub identity : Identity
  pub at : ℕ
  pub len : ℕ

abbrev pub stretch_code : Coded Stretch
stretch_code =
    code_by (Identity × (ℕ × ℕ)) (coded× identity_code (coded× coded_ℕ coded_ℕ)) (λ s. (s.identity, (s.at, s.len))) (λ p. record { identity = p.0; at = p.1.0; len = p.1.1 }) (λ _. refl)
