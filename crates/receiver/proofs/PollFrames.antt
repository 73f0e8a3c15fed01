-- Where a consumer stands behind frames that a poll read.
use Rattle.std.proofs.Common.{◌≡◌, ℕ, List, [], ◌∷◌, true, refl, sym}
use Rattle.theory.specs.Placed.{Chain, Placed}
use Rattle.theory.specs.Consumer.{Consumer, moved, passed_by}
use Rattle.receiver.specs.Polling.{moved_all, passed_all}

pub moved_at : (c : Consumer) (frames : List Placed) (q : ℕ) → Chain c.at q frames → (moved_all c frames).at ≡ q
moved_at c [] q h = sym h
moved_at c (s ∷ ss) q h = moved_at (moved c s) ss q h.1

pub passed_lost : (c : Consumer) (frames : List Placed) → c.lost ≡ true → (passed_all c frames).lost ≡ true
passed_lost c [] h = h
passed_lost c (s ∷ ss) h = passed_lost (passed_by c s) ss refl
