-- A claim's answer, by what the pass saw and what its addition gave.
use Rattle.std.proofs.Common.{◌≡◌, ℕ, ◌%◌, ◌⊎◌, inl, inr, ⊎_elim, List, [], ◌∷◌, ◌++◌, sym, refl, ap, ◌∙◌, subst}
use Rattle.theory.specs.Position.{Geometry, framed_length}
use Rattle.theory.specs.Refusal.{IsLast, IsNotLast}
use Rattle.publication.specs.declared.pass.Pass.{Pass}
use Rattle.publication.specs.declared.refusal.Refusal.{Refusal}
use Rattle.publication.specs.declared.refusal.Refusal.TheVariants.{NotConnected, BackPressured, AdminAction, Closed, MaxPositionExceeded}
use Rattle.publication.specs.declared.looking.Look.{Look}
use Rattle.publication.specs.declared.looking.Look.TheVariants as looks
use Rattle.publication.specs.declared.step.WordStep.{WordStep}
use Rattle.publication.specs.declared.step.WordStep.TheVariants as steps
use Rattle.publication.specs.Steps.{Keeps, geometry_of, seeing}
use Rattle.publication.specs.Claims.{Cause, Claimed, IsTurn, Justified, Leaves, Refused, Takes, TurnsFrom}
use Rattle.publication.specs.Looks.{EndsTerm, Granted, Looked, LookedAt, Tripping}

pub keeps : (p q r : Pass) → Keeps p q → Keeps q r → Keeps p r
keeps p q r a b = b ∙ ap (λ (u : Pass). seeing u r) a

-- a look leaves the pass what it has
pub looked_keeps : (p : Pass) (look : Look) (q : Pass) → Looked p look q → Keeps p q
looked_keeps p (looks.Refused NotConnected) q h = h.after
looked_keeps p (looks.Refused BackPressured) q h = h.after
looked_keeps p (looks.Refused AdminAction) q h = h.after
looked_keeps p (looks.Refused Closed) q h = h.after
looked_keeps p (looks.Refused MaxPositionExceeded) q h = h.after
looked_keeps p (looks.UsedUp k) q h = h.after
looked_keeps p (looks.Open k) q h = h.after

-- without an addition nothing is left
turn_leaves : (p q : Pass) (g : Geometry) (k : ℕ) (taken : List WordStep) → IsTurn g k taken → Keeps p q → Leaves p taken q
turn_leaves p q g k taken h same = subst (λ (xs : List WordStep). Leaves p xs q) (sym h.load) same

turns_leave : (p q : Pass) (g : Geometry) (k : ℕ) (taken : List WordStep) → IsLast k ⊎ IsNotLast k → TurnsFrom g k taken → Keeps p q → Leaves p taken q
turns_leave p q g k taken which h same = ⊎_elim (λ last. subst (λ (xs : List WordStep). Leaves p xs q) (sym (h.ends last)) same) (λ not. turn_leaves p q g k taken (h.turns not) same) which

module _ (p : Pass) (size : ℕ) where
  -- ---- what was looked at alone

  looked : (q : Pass) (why : Refusal) (look : Look) (h : LookedAt p look q) → Cause p size h.limit h.count h.tail [] why → q.right.armed ≡ p.right.armed → Refused p size why q
  looked q why look h cause armed = record {
    limit = h.limit;
    unclosed = h.unclosed;
    count = h.count;
    tail = h.tail;
    rest = [];
    saw = h.saw;
    cause = cause;
    leaves = h.after;
    idle = λ e. armed ∙ e;
  }

  pub refused_looking : (q : Pass) (why : Refusal) → Looked p (looks.Refused why) q → Justified p size why q
  refused_looking q NotConnected h = looked q NotConnected (looks.Refused NotConnected) h (h.cause.0, h.cause.1, refl) h.cause.2
  refused_looking q BackPressured h = looked q BackPressured (looks.Refused BackPressured) h (h.cause.0, h.cause.1, refl) h.cause.2
  refused_looking q AdminAction h = looked q AdminAction (looks.Refused AdminAction) h (inl (h.cause.0, refl)) h.cause.1
  refused_looking q Closed h = h
  refused_looking q MaxPositionExceeded h = absurd h.cause

  -- ---- the term was used up

  used_up : (x q : Pass) (why : Refusal) (k : ℕ) (h : LookedAt p (looks.UsedUp k) x) (t : Takes (TurnsFrom (geometry_of p) h.count) x q) → IsLast h.count ⊎ IsNotLast h.count → Cause p size h.limit h.count h.tail t.taken why → Refused p size why q
  used_up x q why k h t which cause = record {
    limit = h.limit;
    unclosed = h.unclosed;
    count = h.count;
    tail = h.tail;
    rest = t.taken;
    saw = t.call ∙ ap (λ (c : List WordStep). c ++ t.taken) h.saw;
    cause = cause;
    leaves = turns_leave p q (geometry_of p) h.count t.taken which t.such (keeps p x q h.after t.after);
    idle = λ e. t.armed ∙ (h.cause.4 ∙ e);
  }

  turned : (x q : Pass) (k : ℕ) (h : LookedAt p (looks.UsedUp k) x) → Takes (TurnsFrom (geometry_of x) k) x q → Takes (TurnsFrom (geometry_of p) h.count) x q
  turned x q k h t = subst (λ (u : Geometry × ℕ). Takes (TurnsFrom u.0 u.1) x q) (λ j. (ap (λ (v : Pass). geometry_of v) h.after j, h.cause.0 j)) t

  pub refused_at_end : (x q : Pass) (why : Refusal) (k : ℕ) → Looked p (looks.UsedUp k) x → Takes (TurnsFrom (geometry_of x) k) x q → EndsTerm k why → Justified p size why q
  refused_at_end x q NotConnected k h t w = absurd w
  refused_at_end x q BackPressured k h t w = absurd w
  refused_at_end x q AdminAction k h t w = let u = turned x q k h t in let not = subst IsNotLast h.cause.0 w in used_up x q AdminAction k h u (inr not) (inr (inl (record { id = h.cause.1; over = h.cause.2; which = not; turns = u.such })))
  refused_at_end x q Closed k h t w = absurd w
  refused_at_end x q MaxPositionExceeded k h t w = let u = turned x q k h t in let last = subst IsLast h.cause.0 w in used_up x q MaxPositionExceeded k h u (inl last) (inl (record { id = h.cause.1; over = h.cause.2; which = last; turns = u.such }))

  -- ---- the addition passed the end of its term

  tripped_by : (x q : Pass) (why : Refusal) (k : ℕ) (h : LookedAt p (looks.Open k) x) (t : Tripping (seeing p x) h.count size why q) → Cause p size h.limit h.count h.tail (steps.Addition (h.count % 3) (framed_length (geometry_of p) size) t.word ∷ t.more) why → Refused p size why q
  tripped_by x q why k h t cause = record {
    limit = h.limit;
    unclosed = h.unclosed;
    count = h.count;
    tail = h.tail;
    rest = steps.Addition (h.count % 3) (framed_length (geometry_of p) size) t.word ∷ t.more;
    saw = t.call ∙ ap (λ (c : List WordStep). (c ++ steps.Addition (h.count % 3) (framed_length (geometry_of p) size) t.word ∷ []) ++ t.more) h.saw;
    cause = cause;
    leaves = record { below = t.leaves.below; over = t.leaves.over; behind = t.leaves.behind };
    idle = λ e. t.idle;
  }

  tripped_why : (x q : Pass) (why : Refusal) (k : ℕ) (h : LookedAt p (looks.Open k) x) (t : Tripping (seeing p x) h.count size why q) → Justified p size why q
  tripped_why x q NotConnected k h t = absurd t.why_is
  tripped_why x q BackPressured k h t = absurd t.why_is
  tripped_why x q AdminAction k h t = tripped_by x q AdminAction k h t (inr (inr (record { id = h.cause.1; room = h.cause.2; below = h.cause.3; word = t.word; more = t.more; added = refl; turns = t.turns; over = t.over; term = t.term; which = t.why_is })))
  tripped_why x q Closed k h t = absurd t.why_is
  tripped_why x q MaxPositionExceeded k h t = tripped_by x q MaxPositionExceeded k h t (inr (record { id = h.cause.1; room = h.cause.2; below = h.cause.3; word = t.word; more = t.more; added = refl; turns = t.turns; over = t.over; term = t.term; which = t.why_is }))

  pub refused_tripping : (x q : Pass) (why : Refusal) (k : ℕ) → Looked p (looks.Open k) x → Tripping x k size why q → Justified p size why q
  refused_tripping x q why k h t =
      tripped_why x q why k h
      (subst (λ (c : ℕ). Tripping (seeing p x) c size why q) h.cause.0 (subst (λ (y : Pass). Tripping y k size why q) h.after t))

  -- ---- the addition fitted

  claimed_by : (x q : Pass) (start k : ℕ) (h : LookedAt p (looks.Open k) x) → Granted (seeing p x) h.count size start q → Claimed p size start q
  claimed_by x q start k h t = record {
    limit = h.limit;
    count = h.count;
    tail = h.tail;
    word = t.word;
    call = t.call ∙ ap (λ (c : List WordStep). c ++ steps.Addition (h.count % 3) (framed_length (geometry_of p) size) t.word ∷ []) h.saw;
    unclosed = h.unclosed;
    id = h.cause.1;
    room = h.cause.2;
    below = h.cause.3;
    term = t.term;
    inside = t.inside;
    from = t.from;
    in_stream = t.in_stream;
    behind = t.behind;
    after = t.after;
    idle = t.idle;
  }

  pub claimed : (x q : Pass) (start k : ℕ) → Looked p (looks.Open k) x → Granted x k size start q → Claimed p size start q
  claimed x q start k h t =
      claimed_by x q start k h
      (subst (λ (c : ℕ). Granted (seeing p x) c size start q) h.cause.0 (subst (λ (y : Pass). Granted y k size start q) h.after t))
