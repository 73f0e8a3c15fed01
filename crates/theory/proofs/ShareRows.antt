-- Shares of entries at worked examples.
use Rattle.std.proofs.Common.{◌≡◌, ℕ, false, List, [], ◌∷◌, refl}
use Rattle.theory.specs.Entry.{Entry}
use Rattle.theory.specs.Tiling.{all_shares, share_of}

-- a message of 128 bytes in one frame
entry_of : ℕ → Entry
entry_of owner = record { start = 0; owner = owner; padding = false; cuts = 128 ∷ []; frames = [] }

-- each of the eight has a share
of_the_eight : (all_shares (entry_of 0 ∷ []) ≡ 128) × (all_shares (entry_of 7 ∷ entry_of 3 ∷ []) ≡ 256)
unfolding entry_of
of_the_eight = (refl, refl)

-- and nobody else: what another owner claims is in no share
of_another : (all_shares (entry_of 8 ∷ entry_of 1 ∷ []) ≡ 128) × (share_of 8 (entry_of 8 ∷ []) ≡ 128)
unfolding entry_of
of_another = (refl, refl)
