-- What holds of a handler's parts once a frame more is noted.
use Rattle.std.proofs.Common.{◌≡◌, ℕ, ◌+◌, ◌-◌, ◌*◌, ◌/◌, ◌≤◌, List, [], ◌∷◌, ◌++◌, filter, max, nat_le, arith, subst, sym, ◌∙◌}
use Rattle.theory.specs.Position.{Geometry, max_position}
use Rattle.sender.specs.declared.retransmit.action.Action.{Action}
use Rattle.sender.specs.Resending.Handler.{IsHandler, is_near}
use Rattle.sender.specs.Resending.Spaced.{AreSpaced}
use Rattle.sender.proofs.Resending.Ascending.{one_more, kept_spaced, same_near}

pub still_spaced : (start at end reach : ℕ) (xs : List ℕ) → start ≤ at → at + 32 ≤ end → AreSpaced (max start (at - reach)) at xs → AreSpaced (max start (end - reach)) end (filter (nat_le (end - reach)) (xs ++ at ∷ []))
still_spaced start at end reach xs from far h =
    kept_spaced (max start (at - reach)) end (end - reach) (max start (end - reach)) (xs ++ at ∷ []) (one_more (max start (at - reach)) at end xs h far) (omega arith) (λ p a b. omega (arith, a, b))

pub still_kept : (g : Geometry) (start at end room room' places : ℕ) (xs ys : List ℕ) (actions : List Action) → IsHandler g start at xs room actions places → at + 32 ≤ end → end ≤ max_position g → ys ≡ filter (is_near g end) (xs ++ at ∷ []) → room' ≡ room → IsHandler g start end ys room' actions places
still_kept g start at end room room' places xs ys actions k far within e same =
    let reach = 3 * g.term_length / 4 in
    let fits = k.starts_fit in
    let begun = k.from in
    record {
      geometry = k.geometry;
      from = omega (arith, begun, far);
      in_stream = within;
      spaced = subst (AreSpaced (max start (end - reach)) end) (sym (e ∙ same_near reach end (xs ++ at ∷ []))) (still_spaced start at end reach xs begun far k.spaced);
      starts_fit = subst (λ (r : ℕ). 3 * g.term_length / 4 ≤ 32 * r) (sym same) fits;
      actions_fit = k.actions_fit;
    }
