-- The least of positions that are told by units.
use Rattle.std.proofs.Common.{◌≡◌, ℕ, zero, suc, ◌*◌, ◌<◌, ◌≤◌, List, [], ◌∷◌, length, map, refl, ap, arith}
use Rattle.std.specs.Prelude.{replicate, slice_index, slice_set}
use Rattle.std.specs.List.{AllByRecursion}
use Rattle.theory.proofs.Tables.{all_index}
use Rattle.image.proofs.Lists.{all_least, least_each}
use Rattle.image.specs.Seen.{least}

abbrev pub bytes_of : List ℕ → List ℕ
bytes_of xs = map (λ u. 32 * u) xs

pub length_bytes : (xs : List ℕ) → length (bytes_of xs) ≡ length xs
length_bytes [] = refl
length_bytes (x ∷ xs) = ap suc (length_bytes xs)

-- the same past the end
pub index_bytes : (xs : List ℕ) (j : ℕ) → slice_index (bytes_of xs) j ≡ 32 * slice_index xs j
index_bytes [] j = refl
index_bytes (x ∷ xs) zero = refl
index_bytes (x ∷ xs) (suc j) = index_bytes xs j

pub all_bytes_of : (P : ℕ → Type 0) (xs : List ℕ) → ((j : ℕ) → j < length xs → P (32 * slice_index xs j)) → AllByRecursion P (bytes_of xs)
all_bytes_of P [] each = tt
all_bytes_of P (x ∷ xs) each = (each 0 (omega arith), all_bytes_of P xs (λ j lt. each (suc j) (omega arith)))

pub replicate_bytes : (n unit join : ℕ) → 32 * unit ≡ join → bytes_of (replicate n unit) ≡ replicate n join
replicate_bytes zero unit join e = refl
replicate_bytes (suc n) unit join e = (λ j. e j ∷ replicate_bytes n unit join e j)

pub set_bytes : (xs : List ℕ) (k unit : ℕ) → bytes_of (slice_set xs k unit) ≡ slice_set (bytes_of xs) k (32 * unit)
set_bytes [] k unit = refl
set_bytes (x ∷ xs) zero unit = refl
set_bytes (x ∷ xs) (suc k) unit = ap (λ (ys : List ℕ). 32 * x ∷ ys) (set_bytes xs k unit)

-- one of them, and none is below it
pub least_is : (xs : List ℕ) (m j : ℕ) → ((k : ℕ) → k < length xs → m ≤ slice_index xs k) → j < length xs → slice_index xs j ≡ m → least (bytes_of xs) ≡ 32 * m
least_is xs m j low lt at =
    let long = length_bytes xs in
    let above : 32 * m ≤ least (bytes_of xs) = all_least (λ q. 32 * m ≤ q) (bytes_of xs) (omega arith) (all_bytes_of (λ q. 32 * m ≤ q) xs (λ k less. let l = low k less in omega arith)) in
    let below : least (bytes_of xs) ≤ slice_index (bytes_of xs) j = all_index (λ q. least (bytes_of xs) ≤ q) (bytes_of xs) j (omega arith) (least_each (bytes_of xs)) in
    let here = index_bytes xs j in
    omega arith
