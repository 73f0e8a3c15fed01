-- What the loads of the limit, the count and its tail show.
use Rattle.std.proofs.Common.{◌≡◌, ℕ, ◌%◌, ◌<◌, ◌≤◌, true, false, List, [], ◌∷◌, ◌++◌, refl, ap, ◌∙◌, subst}
use Rattle.theory.specs.Refusal.{is_closed, is_connected, limit_in}
use Rattle.theory.specs.Words.{offset_in}
use Rattle.publication.specs.declared.pass.Pass.{Pass}
use Rattle.publication.specs.declared.refusal.Refusal.TheVariants.{NotConnected, BackPressured, AdminAction}
use Rattle.publication.specs.declared.looking.Look.{Look}
use Rattle.publication.specs.declared.looking.Look.TheVariants as looks
use Rattle.publication.specs.declared.step.WordStep.{WordStep}
use Rattle.publication.specs.declared.step.WordStep.TheVariants as steps
use Rattle.publication.specs.Steps.{Arms, Counts, IsTerm, Keeps, Names, Sees, noted, term_of, with_armed, with_count, with_full, with_limit}
use Rattle.publication.specs.Claims.{Shut, position_in}
use Rattle.publication.specs.Looks.{LookCause, LookedAt}
use Rattle.publication.proofs.Adding.{keeps_by}

pub shut : (p x : Pass) (limit : ℕ) → Sees p limit x → is_closed limit ≡ true → Shut p x
shut p x limit e closed = record {
  limit = limit;
  call = ap (λ (u : Pass). u.call) e;
  closed = closed;
  after = keeps_by p (noted (steps.Limit limit) (with_limit p limit)) x e refl;
  armed = ap (λ (u : Pass). u.right.armed) e;
}

module _ (p x y z : Pass) (limit count tail : ℕ) (sees : Sees p limit x) (unclosed : is_closed limit ≡ false) (counts : Counts x count y) (arms : Arms y tail z) where
  abbrev seen_limit : Pass
  seen_limit = noted (steps.Limit limit) (with_limit p limit)

  abbrev seen_count : Pass
  seen_count = noted (steps.Count count) (with_count seen_limit count)

  count_is : y ≡ seen_count
  count_is = counts.after ∙ ap (λ (u : Pass). noted (steps.Count count) (with_count u count)) sees

  term : IsTerm p count
  term = subst (λ (u : Pass). IsTerm u count) sees counts.term

  told : Arms seen_count tail z
  told = subst (λ (u : Pass). Arms u tail z) count_is arms

  -- of what was made of it by the tail
  looked_at : (look : Look) (e : Pass) → z ≡ noted (steps.Tail (count % 3) tail) e → e.call ≡ seen_count.call → Keeps p (noted (steps.Tail (count % 3) tail) e) → LookCause p limit count tail look z → LookedAt p look z
  looked_at look e is call keeps cause = record {
    limit = limit;
    unclosed = unclosed;
    count = count;
    tail = tail;
    saw = ap (λ (u : Pass). u.call) is ∙ ap (λ (c : List WordStep). c ++ steps.Tail (count % 3) tail ∷ []) call;
    term = term;
    cause = cause;
    after = keeps_by p (noted (steps.Tail (count % 3) tail) e) z is keeps;
  }

  pub looked_stale : ¬ Names p tail count → LookedAt p (looks.Refused AdminAction) z
  looked_stale other =
      let e : z ≡ noted (steps.Tail (count % 3) tail) seen_count = told.other other in
      looked_at (looks.Refused AdminAction) seen_count e refl refl (other, ap (λ (u : Pass). u.right.armed) e)

  module _ (id : Names p tail count) where
    pub looked_used_up : term_of p ≤ offset_in tail → LookedAt p (looks.UsedUp count) z
    looked_used_up over =
        let e : z ≡ noted (steps.Tail (count % 3) tail) (with_full seen_count count) = told.used_up id over in
        looked_at (looks.UsedUp count) (with_full seen_count count) e refl refl (refl, id, over, ap (λ (u : Pass). u.seen.full) e, ap (λ (u : Pass). u.right.armed) e)

    module _ (room : offset_in tail < term_of p) where
      pub looked_open : position_in p count tail < limit_in limit → LookedAt p (looks.Open count) z
      looked_open below =
          let e : z ≡ noted (steps.Tail (count % 3) tail) (with_armed seen_count) = told.below id room below in
          looked_at (looks.Open count) (with_armed seen_count) e refl refl (refl, id, room, below, ap (λ (u : Pass). u.right.armed) e, ap (λ (u : Pass). u.seen.term) e)

      module _ (reached : limit_in limit ≤ position_in p count tail) where
        limited_is : z ≡ noted (steps.Tail (count % 3) tail) seen_count
        limited_is = told.limited id room reached

        pub looked_pressed : is_connected limit ≡ true → LookedAt p (looks.Refused BackPressured) z
        looked_pressed connected = looked_at (looks.Refused BackPressured) seen_count limited_is refl refl ((id, room, reached), connected, ap (λ (u : Pass). u.right.armed) limited_is)

        pub looked_unconnected : is_connected limit ≡ false → LookedAt p (looks.Refused NotConnected) z
        looked_unconnected connected = looked_at (looks.Refused NotConnected) seen_count limited_is refl refl ((id, room, reached), connected, ap (λ (u : Pass). u.right.armed) limited_is)
