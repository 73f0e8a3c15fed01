-- What the calls of the pass that has all publishers come to in one hand.
use Rattle.std.proofs.Common.{Bool, List, None, Some, [], ap, arith, get_or, length, map, max, refl, subst, suc, sym, zero, ℕ, ◌++◌, ◌+◌, ◌-◌, ◌<◌, ◌∙◌, ◌∷◌, ◌≡◌, ◌≤◌}
use Rattle.std.specs.Prelude.{IfErr, IfOk, Option, Result, Ok, Err, slice_get, slice_index_or, slice_set}
use Rattle.std.specs.List.{AllByRecursion}
use Rattle.theory.proofs.Lists.{all_weaker}
use Rattle.theory.specs.Position.{aligned, max_message, max_payload}
use Rattle.theory.specs.Placed.{Data, Frame, Pad, frame_length}
use Rattle.publication.specs.declared.refusal.Refusal.{Refusal}
use Rattle.publication.specs.declared.pass.Controls.{Controls}
use Rattle.publication.specs.declared.pass.Keeping.{Keeping}
use Rattle.publication.specs.declared.pass.Pass.{Pass}
use Rattle.publication.specs.declared.pass.Reading.{Reading}
use Rattle.publication.specs.declared.refusal.Refusal.TheVariants.{NotConnected, BackPressured, AdminAction, Closed, MaxPositionExceeded}
use Rattle.publication.specs.Controls.{Leads}
use Rattle.publication.specs.Steps.{blank}
use Rattle.std.proofs.Common.{Fits, w8}
use Rattle.theory.specs.Bytes.{Identity}
use Rattle.publication.specs.declared.step.WordStep.{WordStep}
use Rattle.publication.specs.Claims.{Fills, Justified}
use Rattle.publication.specs.Offers.{Offered, Opened}
use Rattle.publication.proofs.Alone as alone
use Rattle.shared_log.specs.Steps.Handles.{IsOf, LogValue, PublisherValue, Took}
use Rattle.log_rule.specs.Shares.{claimed_bytes}
use Rattle.shared_log.specs.Readers.{positions_of}
use Rattle.one_hand.specs.Entries.{with_share}
use Rattle.one_hand.specs.Legal.{IsStream}
use Rattle.one_hand.specs.Stream.{Aborts, Commits, OpenClaim, Stream, after_claim, after_offer, standing, with_claim, with_message}
use Rattle.one_hand.specs.declared.log_hand.held.Held.{Held}
use Rattle.one_hand.specs.Shown.{IsWhole, consumers_of, kept, shares_of, stream_of}
use Rattle.log_rule.specs.Kept.{IsThere}
use Rattle.log_rule.specs.Keepings.{numbered}
use Rattle.shared_log.specs.Keepers.{KnowsWho}
use Rattle.one_hand.specs.Hands.{HasAll, Shares, AbortsClaim, Claims, ClaimsNone, CommitsClaim, IsFree, IsInHand, MayEnd, Offers, range, stream_in}
use Rattle.position.proofs.Contents.{IsSmall}
use Rattle.one_hand.proofs.Answered as answered
use Rattle.one_hand.proofs.Answered.{Rests}
use Rattle.one_hand.proofs.Entries.{from_among}
use Rattle.one_hand.proofs.Forgetting.{Grew, claim_grew, kept_aborts, kept_claim, kept_commits, kept_is, kept_offer, offer_grew}
use Rattle.one_hand.proofs.Ended as ended
use Rattle.one_hand.proofs.Seats.{standing_seated}

-- ---- what is cleaned lies below

below : (start z t x : ℕ) (ps : List ℕ) → AllByRecursion (λ p. z ≤ max start (p - t)) ps → AllByRecursion (λ p. p ≤ x) ps → 0 < length ps → start ≤ x → z ≤ x
below start z t x [] a b some le = absurd (omega arith)
below start z t x (p ∷ ps) a b some le = let u = a.0 in let v = b.0 in omega arith

pub mapped : {X : Type 0} (f : X → ℕ) (xs : List X) → length (map f xs) ≡ length xs
mapped f [] = refl
mapped f (x ∷ xs) = ap suc (mapped f xs)

-- a pass that keeps the same knows the same of who is there
pub knows_by : (v w : Pass) (there : List Bool) → w.keeping.there ≡ v.keeping.there → length w.keeping.positions ≡ 8 → KnowsWho v there → KnowsWho w there
knows_by v w there same eight k = record { many = k.many; flags = same ∙ k.flags; eight = eight; one = k.one; low = k.low; any = subst (λ (l : List ℕ). IsThere l k.one) (sym same) k.any }

pub knows_on : (v w : Pass) (there : List Bool) → w.keeping ≡ v.keeping → KnowsWho v there → KnowsWho w there
knows_on v w there same k = knows_by v w there (ap (λ (x : Keeping). x.there) same) (ap (λ (x : Keeping). length x.positions) same ∙ k.eight) k

-- who is there stands where the pass's consumers do, and somebody is
pub stand : (v : Pass) (c : Controls) → HasAll v c → standing (consumers_of v) ≡ positions_of v
stand v c all = standing_seated v.keeping.there v.reading 0 all.numbers

pub somebody : (v : Pass) (c : Controls) → HasAll v c → 0 < length (standing (consumers_of v))
somebody v c all = let e = ap length (stand v c all) ∙ mapped (λ (r : Reading). r.position) v.reading in let any = all.some in omega (arith, e, any)

module _ (l : LogValue) (p : PublisherValue) (held : List (Option Held)) (hand : IsInHand l p held) where
  full : Stream
  full = stream_of p.pass p.controls held

  some : 0 < length (standing (consumers_of p.pass))
  some = somebody p.pass p.controls hand.all

  pub tail_above : p.pass.keeping.cleaned ≤ p.pass.start + claimed_bytes p.pass
  tail_above = below p.pass.start p.pass.keeping.cleaned p.pass.identity.geometry.term_length (p.pass.start + claimed_bytes p.pass) (standing (consumers_of p.pass)) hand.whole.stream.readable
      (all_weaker (λ x. (p.pass.start ≤ x) × (x ≤ p.pass.start + claimed_bytes p.pass)) (λ x. x ≤ p.pass.start + claimed_bytes p.pass) (λ x h. h.1) (standing (consumers_of p.pass)) hand.whole.reached) some (omega arith)

  pub is_stream : IsStream (stream_in p held)
  is_stream = kept_is (stream_of p.pass p.controls held) hand.whole.stream (λ by c e. let h = ended.get_back held by c e in
      subst (λ (o : OpenClaim). p.pass.keeping.cleaned ≤ o.start) h.2 (below p.pass.start p.pass.keeping.cleaned p.pass.identity.geometry.term_length h.0.start (standing (consumers_of p.pass)) hand.whole.stream.readable (hand.whole.above by h.0 h.1) some
      (let from = from_among p.pass.work.frames p.pass.start p.pass.right.claims _ hand.whole.follow (hand.whole.stream.claims by c e).entry in subst (λ (o : OpenClaim). p.pass.start ≤ o.start) (sym h.2) from)))

idle_after : (p q : Pass) (size : ℕ) (why : Refusal) → Justified p size why q → p.right.armed ≡ 0 → q.right.armed ≡ 0
idle_after p q size NotConnected h e = h.idle e
idle_after p q size BackPressured h e = h.idle e
idle_after p q size AdminAction h e = h.idle e
idle_after p q size Closed h e = h.armed ∙ e
idle_after p q size MaxPositionExceeded h e = h.idle e

module _ (l : LogValue) (p q : PublisherValue) (number : ℕ) (low : number < 8) (free : IsFree l p) (of : IsOf l q) (sure : q.sure ≡ 1) where
  abbrev acting : Pass
  acting = record p.pass { number = number }

  in_hand : (held : List (Option Held)) → q.pass.right.armed ≡ 0 → IsWhole q.pass q.controls held → HasAll p.pass p.controls → Rests acting p.controls q.pass q.controls → IsInHand l q held
  in_hand held idle whole all r = record {
    free = record { of = of; sure = sure; parts = r.parts ∙ all.parts; idle = idle };
    whole = whole;
    all = record {
      parts = r.parts ∙ all.parts;
      numbers = ap (λ (rs : List Reading). map (λ x. x.number) rs) r.reading ∙ all.numbers ∙ ap (λ (k : Keeping). numbered 0 k.there) (sym r.keeping);
      eight = ap (λ (k : Keeping). length k.there) r.keeping ∙ all.eight;
      some = subst (λ (rs : List Reading). 0 < length rs) (sym r.reading) all.some;
      keeper = ap (λ (k : Keeping). k.right) r.keeping ∙ all.keeper;
      limit = ap (λ (k : Keeping). k.limit) r.keeping ∙ all.limit ∙ sym r.limit;
    };
  }

  begins : q.pass.start ≡ p.pass.start
  begins = of.start ∙ sym free.of.start

  grown : Rests acting p.controls q.pass q.controls → (m n : Stream) → Grew m number n → m.shares ≡ shares_of p.pass.right.claims → m.tail ≡ p.pass.start + claimed_bytes p.pass → shares_of q.pass.right.claims ≡ n.shares → q.pass.start + claimed_bytes q.pass ≡ n.tail → Shares p number q
  grown r m n g was stood is stands = let e = begins in let t = g.tail in record {
    rest = record { reading = r.reading; keeping = r.keeping };
    more = omega arith;
    shares = is ∙ g.shares ∙ (λ j. with_share (was j) number (differs n.tail m.tail p.pass.start q.pass.start (claimed_bytes p.pass) (claimed_bytes q.pass) stands stood e j));
  }
    where
      differs : (n m s s' a b : ℕ) → s' + b ≡ n → m ≡ s + a → s' ≡ s → n - m ≡ b - a
      differs n m s s' a b e f g = omega arith

  module _ (leads : Leads p.controls q.pass.call q.controls) where
    pub offers : (message : List ℕ) (end : ℕ) → IsSmall message → length message < 2147483648 → Offered acting message end q.pass → Offers l p number message (Ok end) q
    offers message end small short h held hand =
        let w = hand.whole in
        let call : q.pass.call ≡ h.between.call = ap (λ (x : Pass). x.call) h.after in
        let t = alone.accepted acting (length message) h.start (stream_in p held).tail p.controls.count h.between p.controls q.controls w.stream.geometry w.settled h.claimed (subst (λ xs. Leads p.controls xs q.controls) call leads) in
        let r = answered.offered acting p.controls held w low message h.start end h.between q.pass q.controls small short t t.after h.after h.end_is in
        let k = answered.takes_rests acting (length message) (stream_in p held).tail p.controls.count p.controls q.controls h.start h.between t in
        let full = stream_of p.pass p.controls held in
        let after : stream_in q held ≡ after_offer (stream_in p held) number message = ap kept r.1.0 ∙ kept_offer full number message (tail_above l p held hand) in
        record { answered = r.0; after = after; shares = grown (record { parts = ap (λ (x : Pass). x.right.parts) h.after ∙ k.parts; reading = ap (λ (x : Pass). x.reading) h.after ∙ k.reading; keeping = ap (λ (x : Pass). x.keeping) h.after ∙ k.keeping; limit = k.limit }) full (after_offer full number message) (offer_grew full number message) refl refl (ap (λ (x : Stream). x.shares) r.1.0) (ap (λ (x : Stream). x.tail) r.1.0); hand = in_hand held (ap (λ (x : Pass). x.right.armed) h.after ∙ h.claimed.idle) r.1.1 hand.all record { parts = ap (λ (x : Pass). x.right.parts) h.after ∙ k.parts; reading = ap (λ (x : Pass). x.reading) h.after ∙ k.reading; keeping = ap (λ (x : Pass). x.keeping) h.after ∙ k.keeping; limit = k.limit } }

    pub offers_none : (message : List ℕ) (why : Refusal) → length message ≤ max_message p.pass.identity.geometry → Justified acting (length message) why q.pass → Offers l p number message (Err why) q
    offers_none message why short h held hand =
        let w = hand.whole in
        let t = alone.refused acting (length message) (stream_in p held).tail p.controls.count q.pass p.controls q.controls w.stream.geometry w.settled why short h leads in
        let r = answered.refused acting p.controls held w low (length message) (with_message (stream_of p.pass p.controls held) number message) q.pass q.controls why t in
        let full = stream_of p.pass p.controls held in
        let after : stream_in q held ≡ after_offer (stream_in p held) number message = ap kept r.1.0 ∙ kept_offer full number message (tail_above l p held hand) in
        record { answered = r.0; after = after; shares = grown (answered.refused_rests acting (length message) (stream_in p held).tail p.controls.count p.controls q.controls why q.pass t) full (after_offer full number message) (offer_grew full number message) refl refl (ap (λ (x : Stream). x.shares) r.1.0) (ap (λ (x : Stream). x.tail) r.1.0); hand = in_hand held (idle_after acting q.pass (length message) why h free.idle) r.1.1 hand.all (answered.refused_rests acting (length message) (stream_in p held).tail p.controls.count p.controls q.controls why q.pass t) }

    pub claims : (size start : ℕ) → size ≤ max_payload p.pass.identity.geometry → Opened acting size start q.pass → Claims l p number size start q
    claims size start short h held hand =
        let w = hand.whole in
        let t = alone.accepted acting size start (stream_in p held).tail p.controls.count q.pass p.controls q.controls w.stream.geometry w.settled h.claimed leads in
        let r = answered.opens acting p.controls held w low size start (range start size) q.pass q.controls short t h.one refl refl in
        let full = stream_of p.pass p.controls held in
        let after : stream_in q (slice_set held number (Some (range start size))) ≡ after_claim (stream_in p held) number size = ap kept r.2.0 ∙ kept_claim full number size (tail_above l p held hand) in
        record { begins = r.1; answered = sym r.0; after = after; shares = grown (answered.takes_rests acting size (stream_in p held).tail p.controls.count p.controls q.controls start q.pass t) full (after_claim full number size) (claim_grew full number size) refl refl (ap (λ (x : Stream). x.shares) r.2.0) (ap (λ (x : Stream). x.tail) r.2.0); hand = in_hand (slice_set held number (Some (range start size))) h.claimed.idle r.2.1 hand.all (answered.takes_rests acting size (stream_in p held).tail p.controls.count p.controls q.controls start q.pass t) }

    pub claims_none : (size : ℕ) (why : Refusal) → size ≤ max_payload p.pass.identity.geometry → Justified acting size why q.pass → ClaimsNone l p number size why q
    claims_none size why short h held hand =
        let w = hand.whole in
        let t = alone.refused acting size (stream_in p held).tail p.controls.count q.pass p.controls q.controls w.stream.geometry w.settled why (let a = w.stream.geometry.mtu.within in let b = w.stream.geometry.mtu.greatest in omega (arith, short, a, b)) h leads in
        let r = answered.refused acting p.controls held w low size (with_claim (stream_of p.pass p.controls held) number size) q.pass q.controls why t in
        let full = stream_of p.pass p.controls held in
        let after : stream_in q held ≡ after_claim (stream_in p held) number size = ap kept r.1.0 ∙ kept_claim full number size (tail_above l p held hand) in
        record { answered = sym r.0; after = after; shares = grown (answered.refused_rests acting size (stream_in p held).tail p.controls.count p.controls q.controls why q.pass t) full (after_claim full number size) (claim_grew full number size) refl refl (ap (λ (x : Stream). x.shares) r.1.0) (ap (λ (x : Stream). x.tail) r.1.0); hand = in_hand held (idle_after acting q.pass size why h free.idle) r.1.1 hand.all (answered.refused_rests acting size (stream_in p held).tail p.controls.count p.controls q.controls why q.pass t) }

  -- no step on a control word
  module _ (leads : Leads p.controls [] q.controls) where
    pub commits : (h : Held) (payload : List ℕ) (end : ℕ) → IsSmall payload → length payload ≡ h.size → Fills acting h.start (Data 192 payload) q.pass → end ≡ h.start + aligned (32 + length payload) → CommitsClaim l p number h payload end q
    commits h payload end small size fills ends held hand holds =
        let r = ended.committed acting p.controls held hand.whole low h holds payload q.pass end small size fills ends in
        record {
          same = r.4;
          rest = record { reading = r.3.reading; keeping = r.3.keeping };
          ends = subst (λ c. Commits (stream_in p held) number payload end (kept (stream_of q.pass c (slice_set held number None)))) (sym leads) (kept_commits (stream_of p.pass p.controls held) number payload end (stream_of q.pass p.controls (slice_set held number None)) r.0);
          hand = in_hand (slice_set held number None) (r.2 ∙ free.idle) (subst (λ c. IsWhole q.pass c (slice_set held number None)) (sym leads) r.1) hand.all (subst (Rests acting p.controls q.pass) (sym leads) r.3);
        }

    pub aborts : (h : Held) (end : ℕ) → Fills acting h.start (Pad (32 + h.size)) q.pass → end ≡ h.start + aligned (32 + h.size) → AbortsClaim l p number h end q
    aborts h end fills ends held hand holds =
        let r = ended.aborted acting p.controls held hand.whole low h holds q.pass end fills ends in
        record {
          same = r.4;
          rest = record { reading = r.3.reading; keeping = r.3.keeping };
          ends = subst (λ c. Aborts (stream_in p held) number end (kept (stream_of q.pass c (slice_set held number None)))) (sym leads) (kept_aborts (stream_of p.pass p.controls held) number end (stream_of q.pass p.controls (slice_set held number None)) r.0);
          hand = in_hand (slice_set held number None) (r.2 ∙ free.idle) (subst (λ c. IsWhole q.pass c (slice_set held number None)) (sym leads) r.1) hand.all (subst (Rests acting p.controls q.pass) (sym leads) r.3);
        }

-- ---- from what the calls of the pass with another number ensure

abbrev renumbered : PublisherValue → ℕ → PublisherValue
renumbered p number = record p { pass = record p.pass { number = number } }

module _ (l m : LogValue) (p r q : PublisherValue) (number : ℕ) (low : number < 8) (free : IsFree l p) (is : r ≡ record p { pass = record p.pass { number = number } }) (still : IsOf m q) (same : m ≡ l) where
  of_log : IsOf l q
  of_log = subst (λ (v : LogValue). IsOf v q) same still

  module _ (noted : List WordStep) (stored : ℕ) (took : Took r noted stored q) where
    took_is : Took (renumbered p number) noted stored q
    took_is = subst (λ (x : PublisherValue). Took x noted stored q) is took

    sure_is : q.sure ≡ 1
    sure_is = took_is.sure ∙ free.sure

    leads_is : Leads p.controls noted q.controls
    leads_is = took_is.leads free.sure

  abbrev acting_pass : Pass
  acting_pass = record p.pass { number = number }

  shape : p.pass.identity.geometry ≡ l.identity.geometry
  shape = ap (λ (i : Identity). i.geometry) free.of.identity

  module _ (stored : ℕ) (took : Took r q.pass.call stored q) where
    pub offer_ok : (message : List ℕ) (end : ℕ) → ((i : ℕ) → Fits w8 (get_or message i 0)) → length message ≤ max_message l.identity.geometry → Offered r.pass message end q.pass → Offers l p number message (Ok end) q
    offer_ok message end bytes short h = offers l p q number low free of_log (sure_is q.pass.call stored took) (leads_is q.pass.call stored took) message end (λ i. (bytes i).fits) (omega (arith, short)) (subst (λ (x : PublisherValue). Offered x.pass message end q.pass) is h)

    pub offer_err : (message : List ℕ) (why : Refusal) → length message ≤ max_message l.identity.geometry → Justified r.pass (length message) why q.pass → Offers l p number message (Err why) q
    offer_err message why short h =
        (offers_none l p q number low free of_log (sure_is q.pass.call stored took) (leads_is q.pass.call stored took) message why (subst (λ g. length message ≤ max_message g) (sym shape) short) (subst (λ (x : PublisherValue). Justified x.pass (length message) why q.pass) is h))

    pub claim_ok : (size start : ℕ) → size ≤ max_payload l.identity.geometry → Opened r.pass size start q.pass → Claims l p number size start q
    claim_ok size start short h = claims l p q number low free of_log (sure_is q.pass.call stored took) (leads_is q.pass.call stored took) size start (subst (λ g. size ≤ max_payload g) (sym shape) short) (subst (λ (x : PublisherValue). Opened x.pass size start q.pass) is h)

    pub claim_err : (size : ℕ) (why : Refusal) → size ≤ max_payload l.identity.geometry → Justified r.pass size why q.pass → ClaimsNone l p number size why q
    claim_err size why short h =
        (claims_none l p q number low free of_log (sure_is q.pass.call stored took) (leads_is q.pass.call stored took) size why
        (subst (λ g. size ≤ max_payload g) (sym shape) short) (subst (λ (x : PublisherValue). Justified x.pass size why q.pass) is h))

  pub offer_is : (message : List ℕ) (answer : Result ℕ Refusal) (a : ℕ) → Took r q.pass.call a q → ((i : ℕ) → Fits w8 (get_or message i 0)) → length message ≤ max_message l.identity.geometry → IfOk answer (λ end. Offered r.pass message end q.pass) → IfErr answer (λ why. Justified r.pass (length message) why q.pass) → Offers l p number message answer q
  offer_is message (Ok end) a took bytes short good bad = offer_ok a took message end bytes short good
  offer_is message (Err why) a took bytes short good bad = offer_err a took message why short bad

  pub claim_accepts : (size : ℕ) (answer : Result ℕ Refusal) (a : ℕ) → Took r q.pass.call a q → size ≤ max_payload l.identity.geometry → IfOk answer (λ start. Opened r.pass size start q.pass) → IfOk answer (λ start. Claims l p number size start q)
  claim_accepts size (Ok start) a took short good = claim_ok a took size start short good
  claim_accepts size (Err why) a took short good = tt

  pub claim_refuses : (size : ℕ) (answer : Result ℕ Refusal) (a : ℕ) → Took r q.pass.call a q → size ≤ max_payload l.identity.geometry → IfErr answer (λ why. Justified r.pass size why q.pass) → IfErr answer (λ why. ClaimsNone l p number size why q)
  claim_refuses size (Ok start) a took short bad = tt
  claim_refuses size (Err why) a took short bad = claim_err a took size why short bad

  -- an end of an open claim notes nothing
  module _ (stored : ℕ) (noted : List WordStep) (took : Took r noted stored q) (call : q.pass.call ≡ r.pass.call ++ noted) (h : Held) (f : Frame) (size : frame_length f ≡ 32 + h.size) (fills : Fills r.pass h.start f q.pass) (may : MayEnd p.pass h (32 + h.size)) where
    filled_as : Fills acting_pass h.start f q.pass
    filled_as = subst (λ (x : PublisherValue). Fills x.pass h.start f q.pass) is fills

    quiet : q.pass.call ≡ p.pass.call
    quiet = ap (λ (x : Pass). x.call) (filled_as may.blank.front may.blank.behind (may.blank.parts ∙ ap (λ (k : ℕ). may.blank.front ++ blank h.start k ∷ may.blank.behind) (sym size)))

    none_noted : noted ≡ []
    none_noted = behind_none p.pass.call noted (ap (λ (x : PublisherValue). x.pass.call ++ noted) (sym is) ∙ sym call ∙ quiet)
      where
        behind_none : (xs ys : List WordStep) → xs ++ ys ≡ xs → ys ≡ []
        behind_none [] ys e = e
        behind_none (x ∷ xs) ys e = behind_none xs ys (cc)

    stays : Leads p.controls [] q.controls
    stays = subst (λ (xs : List WordStep). Leads p.controls xs q.controls) none_noted (leads_is noted stored took)

  pub commit_ok : (stored : ℕ) (noted : List WordStep) → Took r noted stored q → q.pass.call ≡ r.pass.call ++ noted → (h : Held) (payload : List ℕ) (end : ℕ) → MayEnd p.pass h (32 + h.size) → ((i : ℕ) → Fits w8 (get_or payload i 0)) → length payload ≡ h.size → Fills r.pass h.start (Data 192 payload) q.pass → end ≡ h.start + aligned (32 + length payload) → CommitsClaim l p number h payload end q
  commit_ok stored noted took call h payload end may bytes size fills ends =
      let whole : 32 + length payload ≡ 32 + h.size = ap (λ (k : ℕ). 32 + k) size in
      commits l p q number low free of_log (sure_is noted stored took) (stays stored noted took call h (Data 192 payload) whole fills may) h payload end (λ i. (bytes i).fits) size (filled_as stored noted took call h (Data 192 payload) whole fills may) ends

  pub abort_ok : (stored : ℕ) (noted : List WordStep) → Took r noted stored q → q.pass.call ≡ r.pass.call ++ noted → (h : Held) (end : ℕ) → MayEnd p.pass h (32 + h.size) → Fills r.pass h.start (Pad (32 + h.size)) q.pass → end ≡ h.start + aligned (32 + h.size) → AbortsClaim l p number h end q
  abort_ok stored noted took call h end may fills ends = aborts l p q number low free of_log (sure_is noted stored took) (stays stored noted took call h (Pad (32 + h.size)) refl fills may) h end (filled_as stored noted took call h (Pad (32 + h.size)) refl fills may) ends

-- ---- a claim that a publisher holds

pub held_at : (held : List (Option Held)) (by : ℕ) (h : Held) → slice_index_or held by None ≡ Some h → slice_get held by ≡ Some (Some h)
held_at [] by h e = absurd (cc)
held_at (x ∷ xs) zero h e = ap (λ y. Some y) e
held_at (x ∷ xs) (suc by) h e = held_at xs by h e

pub may_end : (l : LogValue) (p : PublisherValue) (held : List (Option Held)) (number : ℕ) (h : Held) → number < 8 → IsInHand l p held → slice_get held number ≡ Some (Some h) → MayEnd p.pass h (32 + h.size)
may_end l p held number h low hand holds = let v : Pass = record p.pass { number = number } in let b = ended.has_blank v p.controls held hand.whole low h holds in record {
  blank = record { front = b.front; behind = b.behind; parts = b.parts };
  in_stream = ended.in_stream v p.controls held hand.whole low h holds;
  short = ended.short v p.controls held hand.whole low h holds;
}
