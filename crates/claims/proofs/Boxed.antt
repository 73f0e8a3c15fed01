-- What holds of a publisher in its box holds of it by a borrow.
use Rattle.std.proofs.Common.{◌≡◌, ℕ, subst, sym, ap, ◌∙◌}
use Rattle.std.specs.Prelude.{vec_capacity, vec_len}
use Rattle.shared_log.specs.Steps.Handles.{PublisherValue}
use Rattle.claims.specs.declared.equipped.Equipped.{Equipped}
use Rattle.claims.specs.Holdings.{ArmedValue, ClaimValue, HasOpen, MayAdd}

module _ {x y : Equipped} (is : x ≡ y) where
  pub publisher_is : {p : PublisherValue} → y.publisher ≡ p → x.publisher ≡ p
  publisher_is e = ap (λ (z : Equipped). z.publisher) is ∙ e

  pub armed_is : {count size : ℕ} {a : ArmedValue} → record { publisher = y.publisher; count = count; size = size } ≡ a → record { publisher = x.publisher; count = count; size = size } ≡ a
  armed_is {count} {size} e = ap (λ (z : Equipped). record { publisher = z.publisher; count = count; size = size }) is ∙ e

  pub claim_is : {start : ℕ} {c : ClaimValue} → record { publisher = y.publisher; start = start; bytes = y.bytes.items } ≡ c → record { publisher = x.publisher; start = start; bytes = x.bytes.items } ≡ c
  claim_is {start} e = ap (λ (z : Equipped). record { publisher = z.publisher; start = start; bytes = z.bytes.items }) is ∙ e

  pub may_add : {count size : ℕ} → MayAdd y.publisher count size (vec_capacity y.bytes) → MayAdd x.publisher count size (vec_capacity x.bytes)
  may_add {count} {size} h = subst (λ (z : Equipped). MayAdd z.publisher count size (vec_capacity z.bytes)) (sym is) h

  pub has_open : {start end : ℕ} → HasOpen y.publisher start end (vec_len y.bytes) (vec_capacity y.bytes) → HasOpen x.publisher start end (vec_len x.bytes) (vec_capacity x.bytes)
  has_open {start} {end} h = subst (λ (z : Equipped). HasOpen z.publisher start end (vec_len z.bytes) (vec_capacity z.bytes)) (sym is) h
