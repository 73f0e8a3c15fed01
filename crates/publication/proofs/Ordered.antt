-- Claims stay in the order of the stream, whatever a pass is answered.
use Rattle.std.proofs.Common.{ℕ, ◌<◌, ◌≤◌, ⊎_elim, List, [], ◌∷◌, ◌++◌, length, sym, ap, subst}
use Rattle.std.proofs.lemmas.Bool.{cases_lt}
use Rattle.theory.specs.Words.{offset_in}
use Rattle.theory.proofs.Lists.{all_pushed}
use Rattle.publication.specs.declared.pass.ClaimRange.{ClaimRange}
use Rattle.publication.specs.declared.pass.Pass.{Pass}
use Rattle.publication.specs.declared.refusal.Refusal.{Refusal}
use Rattle.publication.specs.declared.refusal.Refusal.TheVariants.{NotConnected, BackPressured, AdminAction, Closed, MaxPositionExceeded}
use Rattle.publication.specs.declared.step.WordStep.{WordStep}
use Rattle.publication.specs.declared.step.WordStep.TheVariants as steps
use Rattle.publication.specs.Orders.{AreInOrder, EndBelow, claim_end}
use Rattle.publication.specs.Steps.{Keeps, message_at, padding_at, term_of}
use Rattle.publication.specs.Claims.{Claimed, Justified, Leaves, LeavesPadding}
use Rattle.publication.specs.Offers.{Offered, StayInOrder}

-- one more, behind all of them
pub pushed : (cs : List ClaimRange) (c : ClaimRange) → AreInOrder cs → EndBelow c.start cs → AreInOrder (cs ++ c ∷ [])
pushed [] c order below = (tt, tt)
pushed (d ∷ cs) c order below = (all_pushed (λ (x : ClaimRange). claim_end d ≤ x.start) cs c order.0 below.0, pushed cs c order.1 below.1)

module _ (p q : Pass) (order : AreInOrder p.right.claims) where
  keeps : Keeps p q → AreInOrder q.right.claims
  keeps same = subst AreInOrder (sym (ap (λ (v : Pass). v.right.claims) same)) order

  pub claimed : (size start : ℕ) → Claimed p size start q → AreInOrder q.right.claims
  claimed size start h =
      subst AreInOrder (sym (ap (λ (v : Pass). v.right.claims) h.after))
      (pushed p.right.claims (message_at p h.word size) order (subst (λ (n : ℕ). EndBelow n p.right.claims) h.from h.behind))

  pub padded : (word : ℕ) → LeavesPadding p word q → AreInOrder q.right.claims
  padded word h =
      ⊎_elim
      (λ (low : offset_in word < term_of p). subst AreInOrder (sym (ap (λ (v : Pass). v.right.claims) (h.below low))) (pushed p.right.claims (padding_at p word) order (h.behind low)))
      (λ (over : term_of p ≤ offset_in word). keeps (h.over over))
      (cases_lt (offset_in word) (term_of p))

  leaves : (rest : List WordStep) → Leaves p rest q → AreInOrder q.right.claims
  leaves [] h = keeps h
  leaves (steps.Limit word ∷ more) h = keeps h
  leaves (steps.Count count ∷ more) h = keeps h
  leaves (steps.Tail partition word ∷ more) h = keeps h
  leaves (steps.Addition partition taken word ∷ more) h = padded word h
  leaves (steps.NextTail partition word ∷ more) h = keeps h
  leaves (steps.TailExchange partition from to word ∷ more) h = keeps h
  leaves (steps.CountExchange from count ∷ more) h = keeps h

  pub refused : (size : ℕ) (why : Refusal) → Justified p size why q → AreInOrder q.right.claims
  refused size NotConnected h = leaves h.rest h.leaves
  refused size BackPressured h = leaves h.rest h.leaves
  refused size AdminAction h = leaves h.rest h.leaves
  refused size Closed h = keeps h.after
  refused size MaxPositionExceeded h = leaves h.rest h.leaves

pub offered : (p q : Pass) (message : List ℕ) (end : ℕ) → Offered p message end q → AreInOrder p.right.claims → AreInOrder q.right.claims
offered p q message end h order = subst AreInOrder (sym (ap (λ (v : Pass). v.right.claims) h.after)) (claimed p h.between order (length message) h.start h.claimed)

pub stay_in_order : StayInOrder
stay_in_order = record {
  offered = offered;
  opened = λ p q size start h order. claimed p q order size start h.claimed;
  refused = λ p q size why h order. refused p q order size why h;
  ended = λ p q start f blank fills order. subst AreInOrder (sym (ap (λ (v : Pass). v.right.claims) (fills blank.front blank.behind blank.parts))) order;
}
