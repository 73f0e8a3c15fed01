-- The fields of a header as words, and bytes.
use Rattle.std.proofs.Common.{◌≡◌, ℕ, suc, ◌<◌, get_or, List, [], ◌∷◌, ◌++◌, sym, ap, ◌∙◌}
use Rattle.std.specs.Int.{w32, w64, cast_unsigned, from_le_bytes, to_le_bytes}
use Rattle.std.specs.List.{AllByRecursion}
use Rattle.theory.specs.Bytes.{Identity}
use Rattle.theory.specs.Position.{id_of, place_of}
use Rattle.position.specs.Words.{header_words}

-- bytes, by their places
pub all_bytes : (xs : List ℕ) → ((i : ℕ) → get_or xs i 0 < 256) → AllByRecursion (λ b. b < 256) xs
all_bytes [] small = tt
all_bytes (x ∷ xs) small = (small 0, all_bytes xs (λ i. small (suc i)))

-- a header's words by its fields
pub header_is : (i : Identity) (p offset session stream id : ℕ) → offset ≡ (place_of i.geometry p).offset → session ≡ cast_unsigned w32 i.session → stream ≡ cast_unsigned w32 i.stream → id ≡ cast_unsigned w32 (id_of i.geometry (place_of i.geometry p).count)
    → header_words i p ≡ from_le_bytes w64 (to_le_bytes w32 offset ++ to_le_bytes w32 session) ∷ from_le_bytes w64 (to_le_bytes w32 stream ++ to_le_bytes w32 id) ∷ 0 ∷ []
header_is i p offset session stream id o s t d =
    let there : ℕ = cast_unsigned w32 (id_of i.geometry (place_of i.geometry p).count) in
    ap (λ (n : ℕ). from_le_bytes w64 (to_le_bytes w32 n ++ to_le_bytes w32 (cast_unsigned w32 i.session)) ∷ from_le_bytes w64 (to_le_bytes w32 (cast_unsigned w32 i.stream) ++ to_le_bytes w32 there) ∷ 0 ∷ []) (sym o)
    ∙ ap (λ (n : ℕ). from_le_bytes w64 (to_le_bytes w32 offset ++ to_le_bytes w32 n) ∷ from_le_bytes w64 (to_le_bytes w32 (cast_unsigned w32 i.stream) ++ to_le_bytes w32 there) ∷ 0 ∷ []) (sym s)
    ∙ ap (λ (n : ℕ). from_le_bytes w64 (to_le_bytes w32 offset ++ to_le_bytes w32 session) ∷ from_le_bytes w64 (to_le_bytes w32 n ++ to_le_bytes w32 there) ∷ 0 ∷ []) (sym t)
    ∙ ap (λ (n : ℕ). from_le_bytes w64 (to_le_bytes w32 offset ++ to_le_bytes w32 session) ∷ from_le_bytes w64 (to_le_bytes w32 stream ++ to_le_bytes w32 n) ∷ 0 ∷ []) (sym d)
