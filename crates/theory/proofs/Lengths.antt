-- How long a data frame's spelling is.
use Rattle.std.proofs.Common.{◌≡◌, ℕ, ◌+◌, ◌-◌, List, ◌++◌, length, length-append, arith}
use Rattle.std.proofs.lemmas.List.{length-replicate}
use Rattle.theory.specs.Position.{aligned}
use Rattle.theory.specs.Wire.{DATA, Header, front, header_bytes, spelling, zeros_after}

pub payload_length : (h : Header) (n flags : ℕ) (payload : List ℕ) → length ((front n flags 1 ++ header_bytes h) ++ payload) ≡ 32 + length payload
payload_length h n flags payload = omega (arith, length-append (front n flags 1 ++ header_bytes h) payload)

pub data_size : (h : Header) (flags : ℕ) (payload : List ℕ) → length (spelling (DATA h flags payload)) ≡ aligned (32 + length payload)
data_size h flags payload =
    let all : length (spelling (DATA h flags payload)) ≡ length ((front (32 + length payload) flags 1 ++ header_bytes h) ++ payload) + length (zeros_after (32 + length payload)) = length-append ((front (32 + length payload) flags 1 ++ header_bytes h) ++ payload) (zeros_after (32 + length payload)) in
    omega (arith, all, payload_length h (32 + length payload) flags payload, length-replicate {A = ℕ} (aligned (32 + length payload) - (32 + length payload)) 0)
