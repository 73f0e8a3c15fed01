-- The limit of a log that opens for a round.
use Rattle.std.proofs.Common.{◌≡◌, ◌∙◌, ℕ, ◌+◌, ◌/◌, ◌%◌, ◌≤◌, max, min, true, List, inl, refl, ap, subst, sym, arith}
use Rattle.std.specs.Prelude.{nat_eq, slice_index}
use Rattle.theory.specs.Position.{IsGeometry}
use Rattle.theory.specs.Refusal.{is_connected, limit_in}
use Rattle.theory.proofs.Places.{power_half}
use Rattle.theory.specs.Placed.{Among}
use Rattle.log_rule.specs.Keepings.{least_there, numbered}
use Rattle.log_rule.specs.Table.{first_there}
use Rattle.shared_log.specs.Steps.Handles.{LogValue}
use Rattle.shared_log.specs.Keepers.{CleansAndLimits, KeeperValue, connected_word, raised, seen_positions, there_of}

-- a limit word that is connected, with the limit there or further
pub record Allows (from word : ℕ) : Type 0 where
  pub connected : is_connected word ≡ true
  pub limit : from ≤ limit_in word

-- of one consumer its position is the least
only : (there positions : List ℕ) → there ≡ first_there 1 → least_there there positions ≡ slice_index positions 0
only there positions one = ap (λ (t : List ℕ). least_there t positions) one ∙ same (slice_index positions 0)
  where
    same : (n : ℕ) → min n n ≡ n
    same n = grind arith

among_one : (there : List ℕ) → there ≡ first_there 1 → Among 0 (numbered 0 there)
among_one there one = subst (λ (t : List ℕ). Among 0 (numbered 0 t)) (sym one) (inl refl)

above : (least half word : ℕ) → least % 32 ≡ 0 → half % 4 ≡ 0 → word ≡ max 0 (least + half) + 1 → Allows half word
above least half word unit four is = record {
  connected = let odd : word % 2 ≡ 1 = omega (arith, unit, four, is) in ap (λ (n : ℕ). nat_eq n 1) odd;
  limit = omega (arith, unit, four, is);
}

raised_first : (least length_of first word : ℕ) → first ≡ 1 → least % 32 ≡ 0 → length_of % 64 ≡ 0 → word ≡ raised first least length_of → Allows (length_of / 2) word
raised_first least length_of first word one unit half is = above least (length_of / 2) word unit (omega (arith, half)) (is ∙ ap (λ (n : ℕ). raised n least length_of) one)

-- once it is connected and the keeper has seen the one reader, half a term may be claimed
pub opens_half : (l : LogValue) (first k q : KeeperValue) → IsGeometry l.identity.geometry → there_of k ≡ first_there 1 → first.limit ≡ 0 → k.limit ≡ connected_word true first.limit → CleansAndLimits l k q → Allows (l.identity.geometry.term_length / 2) q.limit
opens_half l first k q legal one zero_at connected cleans =
    let least = least_there (there_of k) (seen_positions q) in
    let unit : least % 32 ≡ 0 = ap (λ (n : ℕ). n % 32) (only (there_of k) (seen_positions q) one) ∙ (cleans.reads 0 (among_one (there_of k) one)).stands.unit in
    raised_first least l.identity.geometry.term_length k.limit q.limit (connected ∙ ap (connected_word true) zero_at) unit (power_half l.identity.geometry.term_length legal.term.power legal.term.least) cleans.keeps.limit
