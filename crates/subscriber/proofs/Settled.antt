-- Whether all sessions are settled.
use Rattle.std.proofs.Math.Seq.{take-length}
use Rattle.std.proofs.Common.{◌≡◌, ◌∙◌, ◌-◌, ◌↔◌, ◌<◌, ℕ, take, ap, IsTrue, Bool, true, false, ◌&&◌, List, [], ◌∷◌, length, drop, get_or, subst, arith}
use Rattle.options.specs.declared.ends.plans.SubscribePlan.{SubscribePlan}
use Rattle.subscriber.specs.Sessions.{AreSettled, IsSettledSo, StandsSo}
use Rattle.subscriber.specs.declared.images.session.Session.{Session}
use Rattle.subscriber.specs.declared.images.session.Stand.{Stand}

both : (a b : Bool) → IsTrue (a && b) → IsTrue a × IsTrue b
both true true so = (so, so)
both true false so = absurd (cc)
both false b so = absurd (cc)

one : (a b : Bool) → IsTrue a → IsTrue b → IsTrue (a && b)
one true true x y = x
one true false x y = y
one false b x y = x

pub settled_more : (plan : SubscribePlan) (j : Session) (others : List Session) (x : Stand) (here rest : Bool) → (IsTrue here ↔ IsSettledSo plan j x) → StandsSo j x → AreSettled plan others rest → AreSettled plan (j ∷ others) (here && rest)
settled_more plan j others x here rest is stands h = record {
  stands = x ∷ h.stands;
  are = (stands, h.are);
  is = (λ so. (is.0 (both here rest so).0, h.is.0 (both here rest so).1), λ all. one here rest (is.1 all.0) (h.is.1 all.1));
}

pub settled_at : (plan : SubscribePlan) (sessions : List Session) (j : Session) (x : Stand) (here rest : Bool) → 0 < length sessions → j ≡ get_or sessions 0 j → (IsTrue here ↔ IsSettledSo plan j x) → StandsSo j x → AreSettled plan (take (length sessions - 1) (drop 1 sessions)) rest → AreSettled plan sessions (here && rest)
settled_at plan [] j x here rest some first is stands h = absurd (omega (arith, some))
settled_at plan (k ∷ others) j x here rest some first is stands h =
    let same : take (length (k ∷ others) - 1) others ≡ others = ap (λ (n : ℕ). take n others) (omega arith) ∙ take-length others in
    subst (λ (z : Session). AreSettled plan (z ∷ others) (here && rest)) first
    (settled_more plan j others x here rest is stands (subst (λ (zs : List Session). AreSettled plan zs rest) same h))
