-- A window that the socket's buffer holds is one that the rules allow.
use Rattle.std.proofs.Common.{◌≡◌, ◌∙◌, ◌≤◌, ℕ, ◌*◌, ◌/◌, ◌%◌, max, min, refl, ap, arith}
use Rattle.std.proofs.Math.Nat.{div-le_self}
use Rattle.std.proofs.lemmas.Nat.{mul-mod}
use Rattle.theory.specs.Image.{IsWindow}
use Rattle.theory.specs.Position.{IsMtu, IsTermLength}
use Rattle.position.proofs.Numbers.{whole_power}
use Rattle.subscriber.specs.Windows.{AloneGetsAll, datagrams_of, whole_window, window_of}

-- one alone: half a term, where that is less
least_row : window_of 1 65536 1408 ≡ 32768
least_row = refl

-- as much as the buffer holds, at the terms and the MTU of a channel that names none
default_row : window_of 1 1048576 1408 ≡ 84480
default_row = refl

-- at the greatest terms with the smallest datagrams, with some of 7,680 and 8,192 bytes, and with the greatest
great_rows : (window_of 1 16777216 256 ≡ 27904) × (window_of 1 16777216 7680 ≡ 122880) × (window_of 1 16777216 8192 ≡ 65536) × (window_of 1 16777216 65504 ≡ 65504)
great_rows = (refl, refl, refl, refl)

-- one of 4, and of 3, in whole units of 32 bytes
shared_rows : (window_of 4 1048576 1408 ≡ 21120) × (window_of 3 1048576 1408 ≡ 28160) × (window_of 16 1048576 1408 ≡ 5280) × (window_of 3 65536 1408 ≡ 10912)
shared_rows = (refl, refl, refl, refl)

-- a datagram at the least
datagram_rows : (window_of 16 1048576 8192 ≡ 8192) × (window_of 2 16777216 65504 ≡ 65504) × (window_of 0 1048576 1408 ≡ 84480)
datagram_rows = (refl, refl, refl)

whole_rows : (k mtu : ℕ) → mtu % 32 ≡ 0 → (k * mtu) % 32 ≡ 0
whole_rows k mtu unit = mul-mod k mtu 32 ∙ ap (λ (n : ℕ). (k % 32 * n) % 32) unit ∙ omega arith

greater_unit : (a b : ℕ) → a % 32 ≡ 0 → b % 32 ≡ 0 → max a b % 32 ≡ 0
greater_unit a b x y = grind (arith, x, y)

less_unit : (a b : ℕ) → a % 32 ≡ 0 → b % 32 ≡ 0 → min a b % 32 ≡ 0
less_unit a b x y = grind (arith, x, y)

whole_unit : (term mtu : ℕ) → IsTermLength term → IsMtu term mtu → whole_window term mtu % 32 ≡ 0
whole_unit term mtu t m =
    let whole : term % 65536 ≡ 0 = whole_power term t.power t.least in
    less_unit (term / 2) (datagrams_of mtu * mtu) (omega (arith, whole)) (whole_rows (datagrams_of mtu) mtu m.unit)

units : (n : ℕ) → (n / 32 * 32) % 32 ≡ 0
units n = omega arith

within : (n m : ℕ) → n ≤ m → n / 32 * 32 ≤ m
within n m h = omega arith

-- whatever its share
pub allowed : (share term mtu : ℕ) → IsTermLength term → IsMtu term mtu → IsWindow term mtu (window_of share term mtu)
allowed share term mtu t m =
    let n = whole_window term mtu in
    let shared : n / max 1 share ≤ n = div-le_self n (max 1 share) in
    let below : n / max 1 share / 32 * 32 ≤ n = within (n / max 1 share) n shared in
    let half : n ≤ term / 2 = omega arith in
    record {
      unit = greater_unit mtu (n / max 1 share / 32 * 32) m.unit (units (n / max 1 share));
      least = omega arith;
      greatest = omega (arith, m.within);
    }

divided : (n : ℕ) → n % 32 ≡ 0 → n / max 1 1 / 32 * 32 ≡ n
divided n unit = omega (arith, unit)

pub alone : AloneGetsAll
alone term mtu t m = ap (max mtu) (divided (whole_window term mtu) (whole_unit term mtu t m))
