-- What a publisher has open, and knows of its stream, over a call.
use Rattle.std.proofs.Common.{◌≡◌, ℕ, ◌+◌, ◌*◌, ◌/◌, ◌%◌, ◌<◌, ◌≤◌, ⊎_elim, List, [], ◌∷◌, ◌++◌, length, true, subst, sym, refl, ap, ◌∙◌, arith}
use Rattle.std.proofs.lemmas.Bool.{cases_lt, cond-true, le-leb}
use Rattle.std.specs.Prelude.{IfErr, IfOk, Result, Ok, Err, nat_le}
use Rattle.theory.specs.Bytes.{Identity}
use Rattle.theory.specs.Placed.{Frame, frame_length}
use Rattle.theory.specs.Position.{Geometry, aligned, cuts_of, framed_length, max_payload, max_position, rest_length}
use Rattle.theory.specs.Words.{offset_in}
use Rattle.theory.proofs.Cuts.{short_cuts}
use Rattle.publication.specs.declared.pass.FrameWords.{FrameWords}
use Rattle.publication.specs.declared.pass.Pass.{Pass}
use Rattle.publication.specs.declared.refusal.Refusal.{Refusal}
use Rattle.publication.specs.declared.refusal.Refusal.TheVariants.{NotConnected, BackPressured, AdminAction, Closed, MaxPositionExceeded}
use Rattle.publication.specs.declared.looking.Look.TheVariants as looks
use Rattle.publication.specs.declared.step.WordStep.{WordStep}
use Rattle.publication.specs.declared.step.WordStep.TheVariants as steps
use Rattle.publication.specs.Steps.{Keeps, blank, blanks, geometry_of, message_at, opened, seeing, start_in, term_of, with_work}
use Rattle.publication.specs.Frames.{frame_at, message_frames}
use Rattle.publication.specs.Claims.{Claimed, Fills, HasBlank, Justified, Leaves, LeavesPadding, padded, padding_stores}
use Rattle.publication.specs.Looks.{Granted, LookedAt, Tripping}
use Rattle.publication.specs.Offers.{Offered}
use Rattle.log_rule.specs.Claims.Admits.{Same}
use Rattle.shared_log.specs.Steps.Handles.{PublisherValue}
use Rattle.claims.specs.Holdings.{HasOpen, IsClaimant, MayAdd}

-- nothing was opened or ended
pub record IsStill (p q : Pass) : Type 0 where
  pub drafts : q.work.drafts ≡ p.work.drafts
  pub same : Same p q

pub same_on : (p x q : Pass) → Same p x → Same x q → Same p q
same_on p x q a b = record {
  identity = b.identity ∙ a.identity;
  start = b.start ∙ a.start;
  number = b.number ∙ a.number;
  parts = b.parts ∙ a.parts;
  numbers = b.numbers ∙ a.numbers;
  reading = b.reading ∙ a.reading;
  keeping = b.keeping ∙ a.keeping;
}

-- another pass that has the same, but for its call, its work, its claims, and what it has seen
alike : (p e q : Pass) → q ≡ e → Same p e → Same p q
alike p e q is same = subst (Same p) (sym is) same

pub still : (p q : Pass) → Keeps p q → IsStill p q
still p q h = record { drafts = ap (λ (v : Pass). v.work.drafts) h; same = alike p (seeing p q) q h (record { identity = refl; start = refl; number = refl; parts = refl; numbers = refl; reading = refl; keeping = refl }) }

pub still_padding : (p : Pass) (word : ℕ) (q : Pass) → LeavesPadding p word q → IsStill p q
still_padding p word q h =
    ⊎_elim
    (λ (low : offset_in word < term_of p). let e = h.below low in let s : IsStill p q = record { drafts = ap (λ (v : Pass). v.work.drafts) e; same = alike p (seeing (padded p word) q) q e (record { identity = refl; start = refl; number = refl; parts = refl; numbers = refl; reading = refl; keeping = refl }) } in s)
    (λ (high : term_of p ≤ offset_in word). still p q (h.over high))
    (cases_lt (offset_in word) (term_of p))

still_leaving : (p : Pass) (rest : List WordStep) (q : Pass) → Leaves p rest q → IsStill p q
still_leaving p [] q h = still p q h
still_leaving p (steps.Limit word ∷ more) q h = still p q h
still_leaving p (steps.Count count ∷ more) q h = still p q h
still_leaving p (steps.Tail partition word ∷ more) q h = still p q h
still_leaving p (steps.Addition partition taken word ∷ more) q h = still_padding p word q h
still_leaving p (steps.NextTail partition word ∷ more) q h = still p q h
still_leaving p (steps.TailExchange partition from to word ∷ more) q h = still p q h
still_leaving p (steps.CountExchange from count ∷ more) q h = still p q h

pub refused_still : (p : Pass) (size : ℕ) (why : Refusal) (q : Pass) → Justified p size why q → IsStill p q
refused_still p size NotConnected q h = still_leaving p h.rest q h.leaves
refused_still p size BackPressured q h = still_leaving p h.rest q h.leaves
refused_still p size AdminAction q h = still_leaving p h.rest q h.leaves
refused_still p size Closed q h = still p q h.after
refused_still p size MaxPositionExceeded q h = still_leaving p h.rest q h.leaves

pub refused_idle : (p : Pass) (size : ℕ) (why : Refusal) (q : Pass) → Justified p size why q → p.right.armed ≡ 0 → q.right.armed ≡ 0
refused_idle p size NotConnected q h off = h.idle off
refused_idle p size BackPressured q h off = h.idle off
refused_idle p size AdminAction q h off = h.idle off
refused_idle p size Closed q h off = h.armed ∙ off
refused_idle p size MaxPositionExceeded q h off = h.idle off

pub claimed_same : (p : Pass) (size start : ℕ) (q : Pass) → Claimed p size start q → Same p q
claimed_same p size start q h = alike p (seeing (opened p (message_at p h.word size)) q) q h.after (record { identity = refl; start = refl; number = refl; parts = refl; numbers = refl; reading = refl; keeping = refl })

pub granted_same : (p : Pass) (count size start : ℕ) (q : Pass) → Granted p count size start q → Same p q
granted_same p count size start q h = alike p (seeing (opened p (message_at p h.word size)) q) q h.after (record { identity = refl; start = refl; number = refl; parts = refl; numbers = refl; reading = refl; keeping = refl })

-- it committed nothing
pub granted_nothing : (p : Pass) (count size start : ℕ) (q : Pass) → Granted p count size start q → padding_stores p q ≡ 0
granted_nothing p count size start q h = let e = ap (λ (v : Pass). length v.work.frames) h.after in omega (arith, e)

pub offered_same : (p : Pass) (message : List ℕ) (end : ℕ) (q : Pass) → Offered p message end q → Same p q
offered_same p message end q h = same_on p h.between q (claimed_same p (length message) h.start h.between h.claimed) (alike h.between (with_work (p.work.frames ++ message_frames p.identity true h.start message) p.work.drafts h.between) q h.after (record { identity = refl; start = refl; number = refl; parts = refl; numbers = refl; reading = refl; keeping = refl }))

-- ---- what the types keep

-- the open claim is committed
pub filled : (v w : Pass) (start size : ℕ) (f : Frame) → frame_length f ≡ 32 + size → v.work.drafts ≡ blank start (32 + size) ∷ [] → Fills v start f w → w ≡ with_work (v.work.frames ++ frame_at v.identity start f ∷ []) [] v
filled v w start size f long one h = h [] [] (one ∙ ap (λ (k : ℕ). blank start k ∷ []) (sym long))

room_on : (p q : Pass) (capacity : ℕ) → q.identity ≡ p.identity → (geometry_of p).mtu ≤ capacity → (geometry_of q).mtu ≤ capacity
room_on p q capacity e h = subst (λ (i : Identity). i.geometry.mtu ≤ capacity) (sym e) h

-- a claimant is one yet
pub rests_on : (p q : PublisherValue) (capacity : ℕ) → IsClaimant p capacity → q.pass.right.armed ≡ 0 → IsStill p.pass q.pass → IsClaimant q capacity
rests_on p q capacity c off s = record { resting = record { unarmed = off; ended = s.drafts ∙ c.resting.ended }; room = room_on p.pass q.pass capacity s.same.identity c.room }

pub refused_rests : (p q : PublisherValue) (capacity : ℕ) (size : ℕ) (why : Refusal) → IsClaimant p capacity → Justified p.pass size why q.pass → IsClaimant q capacity
refused_rests p q capacity size why c h = rests_on p q capacity c (refused_idle p.pass size why q.pass h c.resting.unarmed) (refused_still p.pass size why q.pass h)

pub offered_rests : (p q : PublisherValue) (capacity : ℕ) (message : List ℕ) (end : ℕ) → IsClaimant p capacity → Offered p.pass message end q.pass → IsClaimant q capacity
offered_rests p q capacity message end c h = rests_on p q capacity c (ap (λ (v : Pass). v.right.armed) h.after ∙ h.claimed.idle) (record { drafts = ap (λ (v : Pass). v.work.drafts) h.after; same = offered_same p.pass message end q.pass h })

pub offer_rests : (p q : PublisherValue) (capacity : ℕ) (message : List ℕ) (answer : Result ℕ Refusal) → IsClaimant p capacity → IfOk answer (λ end. Offered p.pass message end q.pass) → IfErr answer (λ why. Justified p.pass (length message) why q.pass) → IsClaimant q capacity
offer_rests p q capacity message (Ok end) c accepted refused = offered_rests p q capacity message end c accepted
offer_rests p q capacity message (Err why) c accepted refused = refused_rests p q capacity (length message) why c refused

-- who has looked may add
pub looked_may : (p q : PublisherValue) (capacity : ℕ) (count size : ℕ) → IsClaimant p capacity → LookedAt p.pass (looks.Open count) q.pass → size ≤ max_payload (geometry_of q.pass) → MayAdd q count size capacity
looked_may p q capacity count size c h short = let s = still p.pass q.pass h.after in record {
  armed = h.cause.4;
  term = h.cause.5 ∙ sym h.cause.0;
  ended = s.drafts ∙ c.resting.ended;
  short = short;
  room = room_on p.pass q.pass capacity s.same.identity c.room;
}

-- an addition that passed its term leaves a claimant
pub tripped_rests : (a q : PublisherValue) (capacity : ℕ) (count size : ℕ) (why : Refusal) → MayAdd a count size capacity → Tripping a.pass count size why q.pass → IsClaimant q capacity
tripped_rests a q capacity count size why m h = let s = still_padding a.pass h.word q.pass h.leaves in record { resting = record { unarmed = h.idle; ended = s.drafts ∙ m.ended }; room = room_on a.pass q.pass capacity s.same.identity m.room }

-- and one that fitted, a claim
pub granted_open : (a q : PublisherValue) (capacity capacity' count size start end : ℕ) → MayAdd a count size capacity → Granted a.pass count size start q.pass → end ≡ start + framed_length (geometry_of a.pass) size → capacity ≤ capacity' → HasOpen q start end size capacity'
granted_open a q capacity capacity' count size start end m h is more =
    let g = geometry_of a.pass in let i : q.pass.identity ≡ a.pass.identity = ap (λ (v : Pass). v.identity) h.after in
    let cut : cuts_of g size ≡ (32 + size) ∷ [] = short_cuts g size m.short ∙ ap (λ (k : ℕ). k ∷ []) (let e : size + 32 ≡ 32 + size = omega arith in e) in
    let room = room_on a.pass q.pass capacity i m.room in
    record {
      unarmed = h.idle;
      one = ap (λ (v : Pass). v.work.drafts) h.after ∙ ap (λ (ds : List FrameWords). ds ++ blanks (start_in g h.word) (cuts_of g size)) m.ended ∙ (λ j. blanks (sym h.from j) (cut j));
      short = subst (λ (k : Identity). size ≤ max_payload k.geometry) (sym i) m.short;
      end_is = is ∙ ap (λ (n : ℕ). start + n) (covered g size m.short);
      in_stream = subst (λ (x : Identity × ℕ). x.1 ≤ max_position x.0.geometry) (λ j. (sym i j, sym is j)) h.in_stream;
      room = omega (arith, room, more);
    }
  where
    covered : (g : Geometry) (size : ℕ) → size ≤ max_payload g → framed_length g size ≡ aligned (32 + size)
    covered g size low = cond-true (nat_le size (max_payload g)) (aligned (size + 32)) (size / max_payload g * g.mtu + rest_length (size % max_payload g)) (le-leb size (max_payload g) low) ∙ ap aligned (let e : size + 32 ≡ 32 + size = omega arith in e)

-- ended, it leaves a claimant
pub filled_rests : (c q : PublisherValue) (capacity start end size : ℕ) (f : Frame) → frame_length f ≡ 32 + size → HasOpen c start end size capacity → Fills c.pass start f q.pass → IsClaimant q capacity
filled_rests c q capacity start end size f long o h =
    let e = filled c.pass q.pass start size f long o.one h in
    record { resting = record { unarmed = ap (λ (v : Pass). v.right.armed) e ∙ o.unarmed; ended = ap (λ (v : Pass). v.work.drafts) e }; room = room_on c.pass q.pass capacity (ap (λ (v : Pass). v.identity) e) o.room }

pub open_blank : (p : PublisherValue) (start end size capacity : ℕ) → HasOpen p start end size capacity → HasBlank p.pass start (32 + size)
open_blank p start end size capacity o = record { front = []; behind = []; parts = o.one }
