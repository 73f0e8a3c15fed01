-- A data frame written part by part.
use Rattle.std.proofs.Common.{◌≡◌, ℕ, ◌+◌, ◌-◌, List, ◌++◌, length, take, drop, refl, ap, ◌∙◌, arith}
use Rattle.std.proofs.lemmas.List.{length-replicate}
use Rattle.theory.specs.Position.{aligned}
use Rattle.theory.specs.Wire.{DATA, Header, front, header_bytes, zeros_after, spelling}
use Rattle.theory.proofs.Lengths.{data_size, payload_length}
use Rattle.frames.proofs.Puts.{put_behind}

pub data_written : (h : Header) (flags : ℕ) (payload old first second third head zeros : List ℕ) → head ≡ front (32 + length payload) flags 1 ++ header_bytes h → first ≡ take 0 old ++ (head ++ drop (0 + length head) old)
    → second ≡ take 32 first ++ (payload ++ drop (32 + length payload) first) → zeros ≡ zeros_after (32 + length payload) → third ≡ take (32 + length payload) second ++ (zeros ++ drop (32 + length payload + length zeros) second)
    → third ≡ spelling (DATA h flags payload) ++ drop (length (spelling (DATA h flags payload))) old
data_written h flags payload old first second third head zeros head-is e1 e2 zeros-is e3 =
    let n : ℕ = 32 + length payload in
    let top : List ℕ = front n flags 1 ++ header_bytes h in
    let s1 : first ≡ top ++ drop 32 old = e1 ∙ ap (λ (x : List ℕ). take 0 old ++ (x ++ drop (0 + length x) old)) head-is in
    let s2 : second ≡ (top ++ payload) ++ drop n old = put_behind top payload old first second 32 refl s1 e2 in
    let e4 : third ≡ take n second ++ (zeros_after n ++ drop (n + length (zeros_after n)) second) = e3 ∙ ap (λ (z : List ℕ). take n second ++ (z ++ drop (n + length z) second)) zeros-is in
    let s3 : third ≡ ((top ++ payload) ++ zeros_after n) ++ drop (n + length (zeros_after n)) old = put_behind (top ++ payload) (zeros_after n) old second third n (payload_length h n flags payload) s2 e4 in
    let size : n + length (zeros_after n) ≡ length (spelling (DATA h flags payload)) = omega (arith, data_size h flags payload, length-replicate {A = ℕ} (aligned n - n) 0) in
    s3 ∙ ap (λ (k : ℕ). spelling (DATA h flags payload) ++ drop k old) size
