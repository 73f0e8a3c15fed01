-- What the two halves of a claim come to together.
use Rattle.std.proofs.Common.{◌≡◌, ℕ, ◌+◌, ◌≤◌, List, [], ◌∷◌, ◌++◌, length, length-append, replicate, refl, sym, subst, ap, ◌∙◌, arith}
use Rattle.std.specs.Prelude.{IfErr, IfOk, Result, Ok, Err}
use Rattle.theory.specs.Bytes.{Identity}
use Rattle.theory.specs.Position.{max_payload}
use Rattle.publication.specs.declared.pass.Pass.{Pass}
use Rattle.publication.specs.declared.refusal.Refusal.{Refusal}
use Rattle.publication.specs.declared.step.WordStep.{WordStep}
use Rattle.theory.specs.Placed.{Frame}
use Rattle.publication.specs.Frames.{frame_at}
use Rattle.publication.specs.Steps.{Keeps, geometry_of, with_work}
use Rattle.publication.specs.Claims.{Claimed, Justified, Takes, TurnsFrom, offer_stores, padding_stores}
use Rattle.publication.specs.Looks.{EndsTerm, Granted, Looked, LookedAt, Tripping}
use Rattle.publication.specs.Offers.{Offered}
use Rattle.publication.specs.declared.looking.Look.TheVariants as looks
use Rattle.publication.proofs.Justifying.{few, justified}
use Rattle.publication.proofs.Offering.{claimed_nothing, opened_one}
use Rattle.publication.proofs.Refusing.{claimed, keeps, looked_keeps, refused_at_end, refused_looking, refused_tripping}
use Rattle.publication.proofs.Steppings.{frames_kept, padded_behind}
use Rattle.shared_log.specs.Steps.Handles.{IsOf, LogValue, PublisherValue, Took}
use Rattle.shared_log.specs.Steps.Leading.{took_more}
use Rattle.claims.specs.Holdings.{ArmedValue, ClaimValue}
use Rattle.claims.specs.Claimings.{AcceptsMessage, AddsRange, ArmsFor, DeniesMessage, EndsClaim, GoesOn, IsCall, OpensClaim, TripsTerm}
use Rattle.claims.proofs.Rests.{granted_nothing, granted_same, offered_same, refused_still, same_on, still, still_padding}

-- more of a call
pub call_on : (l : LogValue) (p x q : PublisherValue) (a b : ℕ) → IsCall l p a x → GoesOn l x b q → length q.pass.call ≤ 7 → IsCall l p (a + b) q
call_on l p x q a b h g few = record {
  of = g.of;
  same = same_on p.pass x.pass q.pass h.same g.same;
  few = few;
  took = subst (λ (xs : List WordStep). Took p xs (a + b) q) (sym g.call) (took_more p x q x.pass.call g.noted a b h.took g.took);
}

module _ (l : LogValue) (p : PublisherValue) (size : ℕ) (a : ArmedValue) (arms : ArmsFor l p size a) where
  kept : Keeps p.pass a.publisher.pass
  kept = arms.looked.after

  sized : (q : PublisherValue) (n : ℕ) → GoesOn l a.publisher n q → length q.pass.call ≤ 7 → 0 + n ≡ padding_stores p.pass q.pass → IsCall l p (padding_stores p.pass q.pass) q
  sized q n g few e = subst (λ (k : ℕ). IsCall l p k q) e (call_on l p a.publisher q 0 n arms.call g few)

  pub opens : (c : ClaimValue) → a.size ≤ max_payload (geometry_of a.publisher.pass) → AddsRange l a c → OpensClaim l p size c
  opens c short h =
      let claim : Claimed p.pass size c.start c.publisher.pass = claimed p.pass size a.publisher.pass c.publisher.pass c.start a.count arms.looked (subst (λ (n : ℕ). Granted a.publisher.pass a.count n c.start c.publisher.pass) arms.size_is h.granted) in
      let four = ap (λ (xs : List WordStep). length xs) claim.call in
      let none = claimed_nothing p.pass c.publisher.pass size c.start claim in
      record {
        call = subst (λ (k : ℕ). IsCall l p k c.publisher) none (sized c.publisher 0 h.more (omega (arith, four)) (sym none));
        opened = opened_one p.pass c.publisher.pass size c.start claim (subst (λ (x : ℕ × Identity). x.0 ≤ max_payload x.1.geometry) (λ i. (arms.size_is i, ap (λ (v : Pass). v.identity) kept i)) short);
        zeros = h.zeros ∙ ap (λ (n : ℕ). replicate n 0) arms.size_is;
      }

  pub denies : (q : PublisherValue) (why : Refusal) → TripsTerm l a why q → DeniesMessage l p size why q
  denies q why h =
      let refused : Justified p.pass size why q.pass = refused_tripping p.pass size a.publisher.pass q.pass why a.count arms.looked (subst (λ (n : ℕ). Tripping a.publisher.pass a.count n why q.pass) arms.size_is h.tripped) in
      record {
        call = sized q (padding_stores a.publisher.pass q.pass) h.more (few p.pass q.pass size why refused) (padded_behind p.pass a.publisher.pass q.pass kept);
        refused = refused;
        justified = justified p.pass q.pass size why refused;
      }

-- ---- an addition

pub trips : (l m : LogValue) (a : ArmedValue) (q : PublisherValue) (why : Refusal) → m ≡ l → IsOf m q → (noted : List WordStep) → Took a.publisher noted (padding_stores a.publisher.pass q.pass) q → q.pass.call ≡ a.publisher.pass.call ++ noted → Tripping a.publisher.pass a.count a.size why q.pass → TripsTerm l a why q
trips l m a q why e of noted took call h = record { more = record { of = subst (λ (x : LogValue). IsOf x q) e of; same = (still_padding a.publisher.pass h.word q.pass h.leaves).same; noted = noted; took = took; call = call }; tripped = h }

pub adds : (l m : LogValue) (a : ArmedValue) (c : ClaimValue) → m ≡ l → IsOf m c.publisher → (noted : List WordStep) → Took a.publisher noted (padding_stores a.publisher.pass c.publisher.pass) c.publisher → c.publisher.pass.call ≡ a.publisher.pass.call ++ noted → Granted a.publisher.pass a.count a.size c.start c.publisher.pass → c.bytes ≡ replicate a.size 0 → AddsRange l a c
adds l m a c e of noted took call h zeros = record {
  more = record {
    of = subst (λ (x : LogValue). IsOf x c.publisher) e of;
    same = granted_same a.publisher.pass a.count a.size c.start c.publisher.pass h;
    noted = noted;
    took = subst (λ (n : ℕ). Took a.publisher noted n c.publisher) (granted_nothing a.publisher.pass a.count a.size c.start c.publisher.pass h) took;
    call = call;
  };
  granted = h;
  zeros = zeros;
}

-- ---- an open claim ends

none_noted : (xs ys : List WordStep) → xs ++ ys ≡ xs → ys ≡ []
none_noted xs [] e = refl
none_noted xs (y ∷ ys) e = let n = ap (λ (zs : List WordStep). length zs) e in let m = length-append xs (y ∷ ys) in absurd (omega (arith, n, m))

pub ends : (l : LogValue) (c : ClaimValue) (f : Frame) (q : PublisherValue) (noted : List WordStep) → IsOf l q → Took c.publisher noted 1 q → q.pass.call ≡ c.publisher.pass.call ++ noted
    → q.pass ≡ with_work (c.publisher.pass.work.frames ++ frame_at c.publisher.pass.identity c.start f ∷ []) [] c.publisher.pass → EndsClaim l c f q
ends l c f q noted of took call is = record {
  of = of;
  took = subst (λ (xs : List WordStep). Took c.publisher xs 1 q) (none_noted c.publisher.pass.call noted (sym call ∙ ap (λ (v : Pass). v.call) is)) took;
  pass = is;
}

-- ---- a refusal

pub denied : (l : LogValue) (p q : PublisherValue) (size : ℕ) (why : Refusal) → IsOf l q → length q.pass.call ≤ 7 → Took p q.pass.call (padding_stores p.pass q.pass) q → Justified p.pass size why q.pass → DeniesMessage l p size why q
denied l p q size why of few took h = record { call = record { of = of; same = (refused_still p.pass size why q.pass h).same; few = few; took = took }; refused = h; justified = justified p.pass q.pass size why h }

-- ---- an offer, by its answer

pub offer_accepted : (l : LogValue) (p q : PublisherValue) (message : List ℕ) (answer : Result ℕ Refusal) → IsOf l q → length q.pass.call ≤ 7 → Took p q.pass.call (offer_stores (length message) answer p.pass q.pass) q → IfOk answer (λ end. Offered p.pass message end q.pass) → IfOk answer (λ end. AcceptsMessage l p message end q)
offer_accepted l p q message (Ok end) of few took h = record { call = record { of = of; same = offered_same p.pass message end q.pass h; few = few; took = took }; offered = h }
offer_accepted l p q message (Err why) of few took h = tt

pub offer_refused : (l : LogValue) (p q : PublisherValue) (message : List ℕ) (answer : Result ℕ Refusal) → IsOf l q → length q.pass.call ≤ 7 → Took p q.pass.call (offer_stores (length message) answer p.pass q.pass) q → IfErr answer (λ why. Justified p.pass (length message) why q.pass) → IfErr answer (λ why. DeniesMessage l p (length message) why q)
offer_refused l p q message (Ok end) of few took h = tt
offer_refused l p q message (Err why) of few took h = denied l p q (length message) why of few took h

-- ---- a look

-- nothing was committed
none_padded : (p q : Pass) → Keeps p q → 0 ≡ padding_stores p q
none_padded p q k = let e = frames_kept p q k in omega (arith, e)

pub armed_by : (l : LogValue) (p q : PublisherValue) (count size : ℕ) → IsOf l q → length q.pass.call ≤ 7 → Took p q.pass.call 0 q → LookedAt p.pass (looks.Open count) q.pass → ArmsFor l p size (record { publisher = q; count = count; size = size })
armed_by l p q count size of few took h = record { call = record { of = of; same = (still p.pass q.pass h.after).same; few = few; took = took }; looked = h; size_is = refl }

pub refused_looking_at : (l : LogValue) (p q : PublisherValue) (size : ℕ) (why : Refusal) → IsOf l q → length q.pass.call ≤ 7 → Took p q.pass.call 0 q → Looked p.pass (looks.Refused why) q.pass → DeniesMessage l p size why q
refused_looking_at l p q size why of few took h = denied l p q size why of few (subst (λ (n : ℕ). Took p q.pass.call n q) (none_padded p.pass q.pass (looked_keeps p.pass (looks.Refused why) q.pass h)) took) (refused_looking p.pass size q.pass why h)

-- the term was used up
pub refused_turning : (l : LogValue) (p x q : PublisherValue) (size count : ℕ) (why : Refusal) → Took p x.pass.call 0 x → Looked p.pass (looks.UsedUp count) x.pass → GoesOn l x 0 q → Takes (TurnsFrom (geometry_of x.pass) count) x.pass q.pass → EndsTerm count why → DeniesMessage l p size why q
refused_turning l p x q size count why took h g t w =
    let refused : Justified p.pass size why q.pass = refused_at_end p.pass size x.pass q.pass why count h t w in
    denied l p q size why g.of (few p.pass q.pass size why refused)
    (subst (λ (n : ℕ). Took p q.pass.call n q) (none_padded p.pass q.pass (keeps p.pass x.pass q.pass (looked_keeps p.pass (looks.UsedUp count) x.pass h) t.after)) (subst (λ (xs : List WordStep). Took p xs 0 q) (sym g.call) (took_more p x q x.pass.call g.noted 0 0 took g.took)))
    refused
