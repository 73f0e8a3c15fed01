-- What a consumer or the keeper comes to know leaves claims and memory.
use Rattle.std.proofs.Common.{◌≡◌, ℕ, ◌<◌, ◌≤◌, List, set, length-set, get_or-set_other, refl, subst, arith}
use mathlib.Core.Option.{some}
use lib.ListN.{get_elem?}
use Rattle.std.specs.Prelude.{slice_index}
use Rattle.std.proofs.lemmas.List.{set-get_or}
use Rattle.publication.specs.declared.pass.Keeping.{Keeping}
use Rattle.publication.specs.declared.pass.Pass.{Pass}
use Rattle.publication.specs.declared.pass.Reading.{Reading}
use Rattle.log_rule.specs.Claims.Rule.{Bounds, first_of, shape_of, weight}
use Rattle.log_rule.specs.Claims.Memory.{Ruled}
use Rattle.log_rule.specs.Claims.Events.{IsLook, committed_weight}
use Rattle.log_rule.proofs.Claimed.Accounts.{moved, same_over, same_room, unchanged}
use Rattle.log_rule.proofs.Claimed.Tails.{elsewhere}
use Rattle.log_rule.proofs.Claimed.Memories.{stayed}
use Rattle.log_rule.proofs.Growing.{same_sum}

abbrev pub attending : Pass → List Reading → Keeping → Pass
attending v rs k = record v { reading = rs; keeping = k }

-- a word of a consumer's position may change too
pub rested : (b : Bounds) (ws : List ℕ) (ps : List Pass) → Ruled b ws ps → (id i n : ℕ) (v : Pass) (rs : List Reading) (k : Keeping) → 80 ≤ i → i < 208 → get_elem? ps id ≡ some v → Ruled b (set ws i n) (set ps id (attending v rs k))
rested b ws ps r id i n v rs k far low at = let t = r.claims.terms in let c = r.claims.each id v at in let w : Pass = attending v rs k in record {
  claims = moved b ws ps r.claims id v w (set ws i n) r.claims.log t at (unchanged (shape_of b) t) (elsewhere (shape_of b) (first_of b) t ws (set ws i n) (λ j some' lt. get_or-set_other ws i j n 0 (λ e. omega arith)) r.claims.tailed)
      (record { identity = c.identity; start = c.start; number = c.number; right = c.right; entries = c.entries; seen = c.seen }) refl (length-set ws i n) (get_or-set_other ws i 0 n 0 (λ e. omega arith)) (same_over b ws ps r.claims id v w at refl refl) r.claims.tiles (λ h. refl) (same_room b ws ps r.claims id v w at refl) r.claims.reached;
  memory = stayed b ws ps r.memory id i n v w low at record { claims = refl; work = refl };
}

-- no word changes
pub rested_here : (b : Bounds) (ws : List ℕ) (ps : List Pass) → Ruled b ws ps → (id : ℕ) (v : Pass) (rs : List Reading) (k : Keeping) → get_elem? ps id ≡ some v → Ruled b ws (set ps id (attending v rs k))
rested_here b ws ps r id v rs k at = subst (λ (l : List ℕ). Ruled b l (set ps id (attending v rs k))) (set-get_or ws 80 0) (rested b ws ps r id 80 (slice_index ws 80) v rs k (omega arith) (omega arith) at)

pub rest_looks : (ps : List Pass) (id : ℕ) (v : Pass) (rs : List Reading) (k : Keeping) → get_elem? ps id ≡ some v → IsLook ps (set ps id (attending v rs k))
rest_looks ps id v rs k at = record {
  claimed = λ h. same_sum (weight h) ps id v (attending v rs k) at refl;
  committed = λ h. same_sum (committed_weight h) ps id v (attending v rs k) at refl;
}
