-- What a publisher has published behind an offer.
use Rattle.std.proofs.Common.{◌≡◌, ℕ, ◌+◌, ◌-◌, ◌<◌, ◌≤◌, ⊎_elim, false, true, List, [], ◌∷◌, ◌++◌, append-nil, append_assoc, add-zero, add_assoc, length, subst, sym, refl, ap, ◌∙◌, arith}
use Rattle.std.proofs.lemmas.Bool.{cases_lt}
use Rattle.theory.specs.Bytes.{Identity}
use Rattle.theory.specs.Placed.{Pad}
use Rattle.theory.specs.Position.{cuts_of}
use Rattle.theory.specs.Words.{offset_in}
use Rattle.theory.proofs.Lists.{all_pushed}
use Rattle.publication.specs.declared.pass.ClaimRange.{ClaimRange}
use Rattle.publication.specs.declared.pass.FrameWords.{FrameWords}
use Rattle.publication.specs.declared.pass.Pass.{Pass}
use Rattle.publication.specs.declared.refusal.Refusal.{Refusal}
use Rattle.publication.specs.declared.refusal.Refusal.TheVariants.{NotConnected, BackPressured, AdminAction, Closed, MaxPositionExceeded}
use Rattle.publication.specs.declared.step.WordStep.{WordStep}
use Rattle.publication.specs.declared.step.WordStep.TheVariants as steps
use Rattle.publication.specs.Steps.{Keeps, geometry_of, message_at, padding_at, start_in, term_of}
use Rattle.publication.specs.Claims.{Justified, Leaves, LeavesPadding}
use Rattle.publication.specs.Frames.{frame_at, message_frames}
use Rattle.publication.specs.Offers.{Offered}
use Rattle.publication.specs.Orders.{AreInOrder}
use Rattle.publication.proofs.Ordered as ordered
use Rattle.shared_log.specs.Steps.Handles.{IsOf, LogValue, PublisherValue}
use Rattle.log_rule.specs.Claims.Sums.{total}
use Rattle.log_rule.proofs.Claimed.Totals.{total_append}
use Rattle.shared_log.specs.Books.{IsDone}
use Rattle.run_parties.specs.Messages.{HasPublished, IsRunClaim, frames_from, frames_in, message_in, message_of}
use Rattle.run_parties.specs.Passes.{Ends}

-- ---- frames

-- one claim more
frames_more : (i : Identity) (length number count : ℕ) (cs : List ClaimRange) (c : ClaimRange)
    → frames_from i length number count (cs ++ c ∷ []) ≡ frames_from i length number count cs ++ frames_in i (message_of length number (count + total message_in cs)) c
frames_more i length number count [] c = append-nil (frames_in i (message_of length number count) c) ∙ ap (λ (n : ℕ). frames_in i (message_of length number n) c) (sym (add-zero count))
frames_more i length number count (x ∷ cs) c =
    let front = frames_in i (message_of length number count) x in
    let last : ℕ → List FrameWords = λ n. frames_in i (message_of length number n) c in
    ap (λ (fs : List FrameWords). front ++ fs) (frames_more i length number (count + message_in x) cs c)
    ∙ sym (append_assoc front (frames_from i length number (count + message_in x) cs) (last (count + message_in x + total message_in cs)))
    ∙ ap (λ (n : ℕ). (front ++ frames_from i length number (count + message_in x) cs) ++ last n) (add_assoc count (message_in x) (total message_in cs))

-- ---- one claim more

count_more : (cs : List ClaimRange) (c : ClaimRange) → total message_in (cs ++ c ∷ []) ≡ total message_in cs + message_in c
count_more cs c = total_append message_in cs (c ∷ []) ∙ ap (λ (n : ℕ). total message_in cs + n) (add-zero (message_in c))

ends_on : (l : LogValue) (p q r : PublisherValue) → Ends l p q → Ends l q r → Ends l p r
ends_on l p q r a b = record { done = b.done; parts = b.parts ∙ a.parts; number = b.number ∙ a.number }

one_more : (l : LogValue) (length n : ℕ) (p q r : PublisherValue) (c : ClaimRange) (fs : List FrameWords) → HasPublished l length n p q → Ends l q r
    → IsRunClaim l.identity.geometry length p.pass.number c → fs ≡ frames_in l.identity (message_of length p.pass.number n) c
    → r.pass.right.claims ≡ q.pass.right.claims ++ c ∷ [] → r.pass.work.frames ≡ q.pass.work.frames ++ fs → (AreInOrder q.pass.right.claims → AreInOrder r.pass.right.claims) → HasPublished l length (n + message_in c) p r
one_more l length n p q r c fs is ends claim same claims frames order =
    let old = p.pass.work.frames in let number = p.pass.number in let here = frames_from l.identity length number 0 is.more in
    let told : frames_in l.identity (message_of length number n) c ≡ frames_in l.identity (message_of length number (0 + total message_in is.more)) c = ap (λ (k : ℕ). frames_in l.identity (message_of length number k) c) (let e = is.messages in omega arith) in
    record {
      ends = ends_on l p q r is.ends ends;
      more = is.more ++ c ∷ [];
      claims = claims ∙ ap (λ (cs : List ClaimRange). cs ++ c ∷ []) is.claims ∙ append_assoc p.pass.right.claims is.more (c ∷ []);
      each = all_pushed (IsRunClaim l.identity.geometry length number) is.more c is.each claim;
      messages = count_more is.more c ∙ ap (λ (k : ℕ). k + message_in c) is.messages;
      frames = frames ∙ (λ j. is.frames j ++ (same ∙ told) j) ∙ append_assoc old here (frames_in l.identity (message_of length number (0 + total message_in is.more)) c)
          ∙ ap (λ (fs : List FrameWords). old ++ fs) (sym (frames_more l.identity length number 0 is.more c));
      ordered = λ o. order (is.ordered o);
    }

-- ---- nothing more

none_more : (l : LogValue) (length n : ℕ) (p q r : PublisherValue) → HasPublished l length n p q → Ends l q r → Keeps q.pass r.pass → HasPublished l length n p r
none_more l length n p q r is ends k = record {
  ends = ends_on l p q r is.ends ends;
  more = is.more;
  claims = ap (λ (v : Pass). v.right.claims) k ∙ is.claims;
  each = is.each;
  messages = is.messages;
  frames = ap (λ (v : Pass). v.work.frames) k ∙ is.frames;
  ordered = λ o. subst AreInOrder (sym (ap (λ (v : Pass). v.right.claims) k)) (is.ordered o);
}

-- ---- an offer that was accepted

pub accepted : (l : LogValue) (n end : ℕ) (message : List ℕ) (p q r : PublisherValue) → HasPublished l (length message) n p q → Ends l q r → message ≡ message_of (length message) p.pass.number n
    → Offered q.pass message end r.pass → HasPublished l (length message) (n + 1) p r
accepted l n end message p q r is ends says h =
    let c = message_at q.pass h.claimed.word (length message) in let at = is.ends.done.idle.of.identity in
    one_more l (length message) n p q r c (message_frames q.pass.identity true h.start message) is ends
    (record { owner = is.ends.number; message = λ _. ap (λ (i : Identity). cuts_of i.geometry (length message)) at })
    (λ j. message_frames (at j) true (h.claimed.from j) (says j))
    (ap (λ (x : Pass). x.right.claims) h.after ∙ ap (λ (x : Pass). x.right.claims) h.claimed.after)
    (ap (λ (x : Pass). x.work.frames) h.after)
    (λ o. ordered.offered q.pass r.pass message end h o)

-- ---- a refusal

padded : (l : LogValue) (length n word : ℕ) (p q r : PublisherValue) → HasPublished l length n p q → Ends l q r → LeavesPadding q.pass word r.pass → HasPublished l length n p r
padded l length n word p q r is ends h =
    let at = is.ends.done.idle.of.identity in let c = padding_at q.pass word in
    ⊎_elim
    (λ (low : offset_in word < term_of q.pass). let e = h.below low in
    subst (λ (k : ℕ). HasPublished l length k p r) (add-zero n)
    (one_more l length n p q r c (frame_at q.pass.identity (start_in (geometry_of q.pass) word) (Pad (term_of q.pass - offset_in word)) ∷ []) is ends
    (record { owner = is.ends.number; message = λ (no : true ≡ false). absurd (cc) })
    (λ j. frame_at (at j) c.start (Pad (term_of q.pass - offset_in word)) ∷ [])
    (ap (λ (v : Pass). v.right.claims) e) (ap (λ (v : Pass). v.work.frames) e) (λ o. ordered.padded q.pass r.pass o word h)))
    (λ (high : term_of q.pass ≤ offset_in word). none_more l length n p q r is ends (h.over high))
    (cases_lt (offset_in word) (term_of q.pass))

left : (l : LogValue) (length n : ℕ) (p q r : PublisherValue) (rest : List WordStep) → HasPublished l length n p q → Ends l q r → Leaves q.pass rest r.pass → HasPublished l length n p r
left l length n p q r [] is ends h = none_more l length n p q r is ends h
left l length n p q r (steps.Limit word ∷ more) is ends h = none_more l length n p q r is ends h
left l length n p q r (steps.Count count ∷ more) is ends h = none_more l length n p q r is ends h
left l length n p q r (steps.Tail partition word ∷ more) is ends h = none_more l length n p q r is ends h
left l length n p q r (steps.Addition partition taken word ∷ more) is ends h = padded l length n word p q r is ends h
left l length n p q r (steps.NextTail partition word ∷ more) is ends h = none_more l length n p q r is ends h
left l length n p q r (steps.TailExchange partition from to word ∷ more) is ends h = none_more l length n p q r is ends h
left l length n p q r (steps.CountExchange from count ∷ more) is ends h = none_more l length n p q r is ends h

pub refused : (l : LogValue) (length n size : ℕ) (why : Refusal) (p q r : PublisherValue) → HasPublished l length n p q → Ends l q r → Justified q.pass size why r.pass → HasPublished l length n p r
refused l length n size NotConnected p q r is ends h = left l length n p q r h.rest is ends h.leaves
refused l length n size BackPressured p q r is ends h = left l length n p q r h.rest is ends h.leaves
refused l length n size AdminAction p q r is ends h = left l length n p q r h.rest is ends h.leaves
refused l length n size Closed p q r is ends h = none_more l length n p q r is ends h.after
refused l length n size MaxPositionExceeded p q r is ends h = left l length n p q r h.rest is ends h.leaves

-- ---- before the first offer

pub none_yet : (l : LogValue) (length : ℕ) (p : PublisherValue) → IsDone l p → HasPublished l length 0 p p
none_yet l length p done = record {
  ends = record { done = done; parts = refl; number = refl };
  more = [];
  claims = sym (append-nil p.pass.right.claims);
  each = tt;
  messages = refl;
  frames = sym (append-nil p.pass.work.frames);
  ordered = λ o. o;
}

-- ---- what an offer leaves besides

pub record Still (p q : Pass) : Type 0 where
  pub number : q.number ≡ p.number
  pub parts : q.right.parts ≡ p.right.parts
  pub drafts : q.work.drafts ≡ p.work.drafts

keeps_still : (p q : Pass) → Keeps p q → Still p q
keeps_still p q k = record { number = ap (λ (v : Pass). v.number) k; parts = ap (λ (v : Pass). v.right.parts) k; drafts = ap (λ (v : Pass). v.work.drafts) k }

padded_still : (p : Pass) (word : ℕ) (q : Pass) → LeavesPadding p word q → Still p q
padded_still p word q h =
    ⊎_elim
    (λ (low : offset_in word < term_of p). let e = h.below low in record { number = ap (λ (v : Pass). v.number) e; parts = ap (λ (v : Pass). v.right.parts) e; drafts = ap (λ (v : Pass). v.work.drafts) e })
    (λ (high : term_of p ≤ offset_in word). keeps_still p q (h.over high))
    (cases_lt (offset_in word) (term_of p))

left_still : (p : Pass) (rest : List WordStep) (q : Pass) → Leaves p rest q → Still p q
left_still p [] q h = keeps_still p q h
left_still p (steps.Limit word ∷ more) q h = keeps_still p q h
left_still p (steps.Count count ∷ more) q h = keeps_still p q h
left_still p (steps.Tail partition word ∷ more) q h = keeps_still p q h
left_still p (steps.Addition partition taken word ∷ more) q h = padded_still p word q h
left_still p (steps.NextTail partition word ∷ more) q h = keeps_still p q h
left_still p (steps.TailExchange partition from to word ∷ more) q h = keeps_still p q h
left_still p (steps.CountExchange from count ∷ more) q h = keeps_still p q h

refused_still : (p : Pass) (size : ℕ) (why : Refusal) (q : Pass) → Justified p size why q → Still p q
refused_still p size NotConnected q h = left_still p h.rest q h.leaves
refused_still p size BackPressured q h = left_still p h.rest q h.leaves
refused_still p size AdminAction q h = left_still p h.rest q h.leaves
refused_still p size Closed q h = keeps_still p q h.after
refused_still p size MaxPositionExceeded q h = left_still p h.rest q h.leaves

refused_idle : (p : Pass) (size : ℕ) (why : Refusal) (q : Pass) → Justified p size why q → p.right.armed ≡ 0 → q.right.armed ≡ 0
refused_idle p size NotConnected q h off = h.idle off
refused_idle p size BackPressured q h off = h.idle off
refused_idle p size AdminAction q h off = h.idle off
refused_idle p size Closed q h off = h.armed ∙ off
refused_idle p size MaxPositionExceeded q h off = h.idle off

still_ends : (l m : LogValue) (p q : PublisherValue) → IsDone l p → m ≡ l → IsOf m q → q.pass.right.armed ≡ 0 → Still p.pass q.pass → Ends l p q
still_ends l m p q done same of off still = record {
  done = record { idle = record { of = subst (λ (x : LogValue). IsOf x q) same of; unarmed = off }; ended = still.drafts ∙ done.ended };
  parts = still.parts;
  number = still.number;
}

pub accepted_ends : (l m : LogValue) (p q : PublisherValue) (message : List ℕ) (end : ℕ) → IsDone l p → m ≡ l → IsOf m q → Offered p.pass message end q.pass → Ends l p q
accepted_ends l m p q message end done same of h =
    still_ends l m p q done same of (ap (λ (v : Pass). v.right.armed) h.after ∙ h.claimed.idle) (record {
      number = ap (λ (v : Pass). v.number) h.after ∙ ap (λ (v : Pass). v.number) h.claimed.after;
      parts = ap (λ (v : Pass). v.right.parts) h.after ∙ ap (λ (v : Pass). v.right.parts) h.claimed.after;
      drafts = ap (λ (v : Pass). v.work.drafts) h.after;
    })

pub refused_ends : (l m : LogValue) (p q : PublisherValue) (size : ℕ) (why : Refusal) → IsDone l p → m ≡ l → IsOf m q → Justified p.pass size why q.pass → Ends l p q
refused_ends l m p q size why done same of h = still_ends l m p q done same of (refused_idle p.pass size why q.pass h done.idle.unarmed) (refused_still p.pass size why q.pass h)
