-- Whatever bytes its receiver was handed, an image is in bounds.
use Rattle.std.proofs.Common.{◌≡◌, ℕ, ◌+◌, ◌*◌, ◌/◌, ◌<◌, ◌≤◌, max, min, List, [], ◌∷◌, ◌++◌, map, true, false, Option, None, Some, Result, Ok, Err, inl, inr, ⊎_elim, refl, sym, ap, subst, arith}
use Rattle.std.specs.Prelude.{⊤, ℤ, pos, negsuc, nat_le, nat_lt, slice_get, slice_set}
use Rattle.std.specs.List.{AllByRecursion, list_any}
use Rattle.std.proofs.lemmas.Bool.{and_parts, cases_Bool, cond-false, cond-true, ltb-true}
use Rattle.theory.specs.Position.{Geometry, max_position}
use Rattle.theory.specs.Wire.{DATA, HEARTBEAT, Header, NAK, PAD, SETUP, SM, Setup, Wire}
use Rattle.theory.specs.Placed.{Data, Frame, IsReached, Pad, Placed, end_of}
use Rattle.theory.specs.Consumer.{Consumer, consumer_at, least_from, least_of}
use Rattle.theory.specs.Control.{named_by}
use Rattle.theory.specs.Insert.{AreApart, Below, CrossesTerm, Duplicate, Insert, OverWindow, Overlap, Stored, head_of, overlaps}
use Rattle.theory.specs.Image.{Image, after_heartbeat, after_insert, image_at, is_accepted}
use Rattle.theory.specs.Units.{IsContiguous, contiguous}
use Rattle.theory.proofs.Contiguous.{chain_bound, contiguous_is, end_below}
use Rattle.theory.proofs.Follow.{one_end, passed_along, passed_more}
use Rattle.theory.proofs.Frames.{AllBelow}
use Rattle.theory.proofs.Held.{stored_apart}
use Rattle.theory.proofs.Lists.{all_get, all_replicate, all_set, all_weaker}
use Rattle.model.specs.Headline.{StayWithin}
use Rattle.receiver.specs.declared.receiver_core.Outcome.{Outcome}
use Rattle.receiver.specs.declared.poll_error.PollError.TheVariants as polls
use Rattle.receiver.specs.declared.positions.Positions as places
use Rattle.receiver.specs.Polling.{Answer, PollsImage, PollsOf, ReadsFrames, TellsOf}
use Rattle.receiver.specs.Receiving.{Meets, MeetsAll, MeetsFrame, MeetsHeartbeat, MeetsSetup, Opened, PassesBy, Receiver, TakesDatagram, answer_at, at_moment, given_at, ticked}
use Rattle.publication.specs.declared.refusal.Refusal.{Refusal}
use Rattle.one_hand.specs.Stream.{answer_of}
use Rattle.sender.specs.Cycling.{AsksSetup, Misses, NewsContent, Says, TellsNothing, Unreadable}
use Rattle.script.specs.Meaning as commands
use Rattle.script.specs.Meaning.{CommandContent}
use Rattle.script_meaning.specs.Answers.{Answers, Claims, Offered, SenderHears, GetsDatagram}
use Rattle.script_meaning.specs.Bounds.{AreInBounds, IsInBounds, IsInOrder, TellsInOrder}
use Rattle.script_meaning.specs.LineContents.{LineContent, positions_line}
use Rattle.script_meaning.specs.Output.{AlwaysInBounds, AnswersAll, identity_of}
use Rattle.script_meaning.specs.Published.{Played}
use Rattle.script_meaning.specs.ScriptState.{ScriptState, opened_state}

-- ---- an image

record IsKept (i : Image) : Type 0 where
  apart : AreApart (map head_of i.stored)
  below : AllBelow i.high i.stored
  low : i.join ≤ i.high
  reached : AllByRecursion (λ c. IsReached i.stored i.join c.at) i.consumers

after_any : (i : Image) (s : Placed) (a : Insert) → (a ≡ Stored → list_any (overlaps (head_of s)) (map head_of i.stored) ≡ false) → IsKept i → IsKept (after_insert i s a)
after_any i s CrossesTerm apart k = k
after_any i s Below apart k = k
after_any i s OverWindow apart k = k
after_any i s Duplicate apart k = k
after_any i s Overlap apart k = k
after_any i s Stored apart k = record {
  apart = (apart refl, k.apart);
  below = (omega arith, all_weaker (λ x. end_of x ≤ i.high) (λ x. end_of x ≤ max i.high (end_of s)) (λ x h. omega arith) i.stored k.below);
  low = omega (arith, k.low);
  reached = all_weaker (λ c. IsReached i.stored i.join c.at) (λ c. IsReached (s ∷ i.stored) i.join c.at) (λ c r. passed_more i.stored (s ∷ i.stored) (λ x h. inr h) i.join c.at r) i.consumers k.reached;
}

given_kept : (o : Opened) (z : ℤ) (f : Frame) → IsKept o.image → IsKept (given_at o z f).image
given_kept o (negsuc n) f k = k
given_kept o (pos p) f k =
    let s : Placed = record { at = p; frame = f } in
    after_any o.image s (answer_at o (pos p) f) (λ e. stored_apart o.geometry (map head_of o.image.stored) (least_of o.image.consumers) o.image.window (head_of s) e) k

beat_kept : (g : Geometry) (i : Image) (least : ℕ) (p : ℤ) → IsKept i → IsKept (after_heartbeat g i least p)
beat_kept g i least (negsuc n) k = k
beat_kept g i least (pos p) k =
    ⊎_elim
    (λ (t : is_accepted g i.high least p ≡ true).
    let above : i.high < p = ltb-true i.high p (and_parts (nat_lt i.high p) (nat_le p (min (least + 3 * g.term_length / 4) (max_position g))) t).0 in
    subst IsKept (sym (cond-true (is_accepted g i.high least p) (record i { high = p }) i t)) (record {
      apart = k.apart;
      below = all_weaker (λ x. end_of x ≤ i.high) (λ x. end_of x ≤ p) (λ x h. omega arith) i.stored k.below;
      low = omega (arith, k.low);
      reached = k.reached;
    }))
    (λ (f : is_accepted g i.high least p ≡ false). subst IsKept (sym (cond-false (is_accepted g i.high least p) (record i { high = p }) i f)) k)
    (cases_Bool (is_accepted g i.high least p))

fresh_kept : (join window consumers : ℕ) → IsKept (image_at join window consumers)
fresh_kept join window consumers = record {
  apart = tt;
  below = tt;
  low = omega arith;
  reached = all_replicate (λ c. IsReached [] join c.at) consumers (consumer_at join) (record { read = []; chain = refl; among = tt });
}

-- ---- a datagram

abbrev KeptOf : Option Opened → Type 0
KeptOf None = ⊤
KeptOf (Some o) = IsKept o.image

same_kept : (r s : Receiver) → s.image ≡ r.image → KeptOf r.image → KeptOf s.image
same_kept r s e k = subst KeptOf (sym e) k

frame_kept : (image : Option Opened) (r s : Receiver) (h : Header) (f : Frame) (out : Outcome) → KeptOf r.image → KeptOf image → MeetsFrame image r h f out s → KeptOf s.image
frame_kept None r s h f out k here m = same_kept r s (ap (λ x. x.image) m.1) k
frame_kept (Some o) r s h f out k here m = subst KeptOf (sym (ap (λ x. x.image) m.3)) (given_kept o (named_by o.geometry h) f here)

heartbeat_kept : (image : Option Opened) (r s : Receiver) (h : Header) (out : Outcome) → KeptOf r.image → KeptOf image → MeetsHeartbeat image r h out s → KeptOf s.image
heartbeat_kept None r s h out k here m = same_kept r s (ap (λ x. x.image) m.1) k
heartbeat_kept (Some o) r s h out k here m = subst KeptOf (sym (ap (λ x. x.image) m.1)) (beat_kept o.geometry o.image (least_of o.image.consumers) (named_by o.geometry h) here)

setup_kept : (image : Option Opened) (r s : Receiver) (f : Setup) (out : Outcome) → KeptOf r.image → MeetsSetup image r f out s → KeptOf s.image
setup_kept None r s f out k (inl m) = subst KeptOf (sym (ap (λ x. x.image) m.4)) (fresh_kept m.1 r.window r.consumers)
setup_kept None r s f out k (inr m) = same_kept r s (ap (λ x. x.image) m.3) k
setup_kept (Some o) r s f out k m = same_kept r s (ap (λ x. x.image) m.1) k

passes_kept : (r s : Receiver) (out : Outcome) → KeptOf r.image → PassesBy r out s → KeptOf s.image
passes_kept r s out k m = same_kept r s (ap (λ x. x.image) m.1) k

meets_kept : (r s : Receiver) (w : Wire) (out : Outcome) → KeptOf r.image → Meets r w out s → KeptOf s.image
meets_kept r s (DATA h flags payload) out k (inl m) = frame_kept r.image r s h (Data flags payload) out k k m.1
meets_kept r s (DATA h flags payload) out k (inr m) = passes_kept r s out k m.1
meets_kept r s (PAD h n) out k (inl m) = frame_kept r.image r s h (Pad n) out k k m.1
meets_kept r s (PAD h n) out k (inr m) = passes_kept r s out k m.1
meets_kept r s (HEARTBEAT h) out k (inl m) = heartbeat_kept r.image r s h out k k m.1
meets_kept r s (HEARTBEAT h) out k (inr m) = passes_kept r s out k m.1
meets_kept r s (NAK f) out k m = passes_kept r s out k m
meets_kept r s (SM asks f) out k m = passes_kept r s out k m
meets_kept r s (SETUP f) out k (inl m) = setup_kept r.image r s f out k m.1
meets_kept r s (SETUP f) out k (inr m) = passes_kept r s out k m.1

all_kept : (r s : Receiver) (ws : List Wire) (outs : List Outcome) → KeptOf r.image → MeetsAll r ws outs s → KeptOf s.image
all_kept r s [] outs k m = same_kept r s (ap (λ x. x.image) m.1) k
all_kept r s (w ∷ ws) outs k m = all_kept m.1 s ws m.2 (meets_kept r m.1 w m.0 k m.3) m.5

takes_kept : (r s : Receiver) (now : ℕ) (bytes : List ℕ) (outs : List Outcome) → KeptOf r.image → TakesDatagram r now bytes outs s → KeptOf s.image
takes_kept r s now bytes outs k (inl m) = all_kept (at_moment r now) s m.0 outs k m.2
takes_kept r s now bytes outs k (inr m) = same_kept (at_moment r now) s (ap (λ x. x.image) m.3) k

-- ---- a poll

reads_of : (greatest : ℕ) (i : Image) (c d : Consumer) (answer : Answer) → PollsImage greatest i c answer d → (frames : List Placed) × ReadsFrames i c frames d.at
reads_of greatest i c d answer (inr m) = (m.1.frames, m.1.reads)
reads_of greatest i c d (Ok None) (inl m) = (m.1.frames, m.1.reads)
reads_of greatest i c d (Ok (Some bytes)) (inl m) = (m.1.earlier ++ m.1.last ∷ [], m.1.reads)
reads_of greatest i c d (Err polls.NoImage) (inl m) = absurd m.1
reads_of greatest i c d (Err (polls.Unassembled fault)) (inl m) = (m.1.earlier ++ m.1.last ∷ [], m.1.reads)

poll_kept : (image : Option Opened) (r s : Receiver) (answer : Answer) → KeptOf r.image → KeptOf image → PollsOf image r answer s → KeptOf s.image
poll_kept None r s answer k here m = same_kept r s (ap (λ x. x.image) m.1) k
poll_kept (Some o) r s answer k here m =
    let i = o.image in
    let c = m.0 in
    let d = m.1 in
    let read = reads_of r.greatest i c d answer m.3 in
    let was : AllByRecursion (λ x. IsReached i.stored i.join x.at) (c ∷ []) = subst (AllByRecursion (λ x. IsReached i.stored i.join x.at)) m.2 here.reached in
    subst KeptOf (sym (ap (λ x. x.image) m.4)) (record {
      apart = here.apart;
      below = here.below;
      low = here.low;
      reached = (passed_along i.stored i.join c.at d.at read.0 was.0 read.1.chain read.1.among, tt);
    })

-- ---- a line

abbrev AllKept : ScriptState → Type 0
AllKept s = AllByRecursion (λ r. KeptOf r.image) s.receivers

same_receivers : (s t : ScriptState) → t.receivers ≡ s.receivers → AllKept s → AllKept t
same_receivers s t e k = subst (AllByRecursion (λ r. KeptOf r.image)) (sym e) k

another : (s t : ScriptState) (n : ℕ) (r : Receiver) → t.receivers ≡ slice_set s.receivers n r → KeptOf r.image → AllKept s → AllKept t
another s t n r e own k = subst (AllByRecursion (λ r. KeptOf r.image)) (sym e) (all_set (λ r. KeptOf r.image) s.receivers n r own k)

kept_at : (s : ScriptState) (n : ℕ) (r : Receiver) → slice_get s.receivers n ≡ Some r → AllKept s → KeptOf r.image
kept_at s n r there k = all_get (λ r. KeptOf r.image) s.receivers n r there k

taken_kept : (s t : ScriptState) (n now : ℕ) (bytes : List ℕ) (lines : List LineContent) → AllKept s → GetsDatagram s n now bytes lines t → AllKept t
taken_kept s t n now bytes lines k m = another s t n m.2 (ap (λ x. x.receivers) m.6) (takes_kept m.1 m.2 now bytes m.0 (kept_at s n m.1 m.3 k) m.4) k

offer_stays : (s t : ScriptState) (by : ℕ) (m : List ℕ) (answer : Result ℕ Refusal) (lines : List LineContent) → Offered s by m answer lines t → t.receivers ≡ s.receivers
offer_stays s t by m (Ok end) lines h = ap (λ x. x.receivers) h.1
offer_stays s t by m (Err refusal) lines h = ap (λ x. x.receivers) h.1

claim_stays : (s t : ScriptState) (by size : ℕ) (answer : Result ℕ Refusal) (lines : List LineContent) → Claims s by size answer lines t → t.receivers ≡ s.receivers
claim_stays s t by size (Ok end) lines h = ap (λ x. x.receivers) h.1
claim_stays s t by size (Err refusal) lines h = ap (λ x. x.receivers) h.1

news_stays : (s t : ScriptState) (now : ℕ) (news : NewsContent) (lines : List LineContent) → SenderHears s now news lines t → t.receivers ≡ s.receivers
news_stays s t now (Says f) lines h = ap (λ x. x.receivers) h.1
news_stays s t now AsksSetup lines h = ap (λ x. x.receivers) h.1
news_stays s t now (Misses f) lines h = ap (λ x. x.receivers) h.3
news_stays s t now TellsNothing lines h = ap (λ x. x.receivers) h.1
news_stays s t now (Unreadable fault) lines h = ap (λ x. x.receivers) h.1

line_kept : (s t : ScriptState) (command : CommandContent) (lines : List LineContent) → AllKept s → Answers s command lines t → AllKept t
line_kept s t (commands.Group size) lines k m = same_receivers s t (ap (λ x. x.receivers) m.1) k
line_kept s t commands.Connect lines k m = same_receivers s t (ap (λ x. x.receivers) m.1) k
line_kept s t commands.Disconnect lines k m = same_receivers s t (ap (λ x. x.receivers) m.1) k
line_kept s t commands.Close lines k m = same_receivers s t (ap (λ x. x.receivers) m.1) k
line_kept s t commands.Limit lines k m = same_receivers s t (ap (λ x. x.receivers) m.new_is) k
line_kept s t (commands.Offer by message) lines k (inl m) = same_receivers s t (ap (λ x. x.receivers) m.1.1) k
line_kept s t (commands.Offer by message) lines k (inr m) = same_receivers s t (offer_stays s t by _ (answer_of s.log _) lines m.2) k
line_kept s t (commands.OfferSize by size) lines k (inl m) = same_receivers s t (ap (λ x. x.receivers) m.1.1) k
line_kept s t (commands.OfferSize by size) lines k (inr m) = same_receivers s t (offer_stays s t by _ (answer_of s.log _) lines m.2) k
line_kept s t (commands.Claim by size) lines k (inl m) = same_receivers s t (ap (λ x. x.receivers) m.1.1) k
line_kept s t (commands.Claim by size) lines k (inr m) = same_receivers s t (claim_stays s t by size (answer_of s.log size) lines m.2) k
line_kept s t (commands.Commit by) lines k (inl m) = same_receivers s t (ap (λ x. x.receivers) m.1.1) k
line_kept s t (commands.Commit by) lines k (inr m) = same_receivers s t (ap (λ x. x.receivers) m.3) k
line_kept s t (commands.Abort by) lines k (inl m) = same_receivers s t (ap (λ x. x.receivers) m.1.1) k
line_kept s t (commands.Abort by) lines k (inr m) = same_receivers s t (ap (λ x. x.receivers) m.3) k
line_kept s t (commands.Read r) lines k (inl m) = same_receivers s t (ap (λ x. x.receivers) m.1.1) k
line_kept s t (commands.Read r) lines k (inr (inl m)) = same_receivers s t (ap (λ x. x.receivers) m.4) k
line_kept s t (commands.Read r) lines k (inr (inr m)) = same_receivers s t (ap (λ x. x.receivers) m.6) k
line_kept s t (commands.Join r) lines k (inl m) = same_receivers s t (ap (λ x. x.receivers) m.1.1) k
line_kept s t (commands.Join r) lines k (inr m) = same_receivers s t (ap (λ x. x.receivers) m.new_is) k
line_kept s t (commands.Leave r) lines k (inl m) = same_receivers s t (ap (λ x. x.receivers) m.1.1) k
line_kept s t (commands.Leave r) lines k (inr m) = same_receivers s t (ap (λ x. x.receivers) m.3) k
line_kept s t (commands.Send now) lines k m = same_receivers s t (ap (λ x. x.receivers) m.3) k
line_kept s t (commands.Deliver number n now) lines k (inl m) = same_receivers s t (ap (λ x. x.receivers) m.2) k
line_kept s t (commands.Deliver number n now) lines k (inr m) = taken_kept s t n now m.0 lines k m.2
line_kept s t (commands.Raw n now bytes) lines k m = taken_kept s t n now bytes lines k m
line_kept s t (commands.Tick n now) lines k m = another s t n (ticked m.0 now) (ap (λ x. x.receivers) m.4) (kept_at s n m.0 m.1 k) k
line_kept s t (commands.Reply number now) lines k (inl m) = same_receivers s t (ap (λ x. x.receivers) m.2) k
line_kept s t (commands.Reply number now) lines k (inr m) = same_receivers s t (news_stays s t now m.2.0 lines m.2.2) k
line_kept s t (commands.RawBack now bytes) lines k m = same_receivers s t (news_stays s t now m.0 lines m.2) k
line_kept s t (commands.Poll n) lines k m = another s t n m.2 (ap (λ x. x.receivers) m.6) (poll_kept m.1.image m.1 m.2 m.0 (kept_at s n m.1 m.3 k) (kept_at s n m.1 m.3 k) m.4) k
line_kept s t (commands.Image n) lines k m = same_receivers s t (ap (λ x. x.receivers) m.5) k

-- ---- its bounds

all_bound : (frames : List Placed) (join q : ℕ) (cs : List Consumer) → IsContiguous frames join q → AllByRecursion (λ c. IsReached frames join c.at) cs → AllByRecursion (λ p. p ≤ q) (map (λ c. c.at) cs)
all_bound frames join q [] end r = tt
all_bound frames join q (c ∷ cs) end r = (chain_bound frames join q c.at r.0.read end r.0.chain r.0.among, all_bound frames join q cs end r.1)

within : (i : Image) → IsKept i → StayWithin i.stored i.join i.high (map (λ c. c.at) i.consumers)
within i k =
    let q = contiguous i.stored i.join i.high in
    let end : IsContiguous i.stored i.join q = contiguous_is i.stored i.join i.high k.below in
    (q, end, end_below i.stored i.join q i.high k.below k.low end, all_bound i.stored i.join q i.consumers end k.reached)

in_bounds : (o : Option Opened) → KeptOf o → IsInBounds o
in_bounds None k = tt
in_bounds (Some o) k = (k.apart, within o.image k)

all_in_bounds : (rs : List Receiver) → AllByRecursion (λ r. KeptOf r.image) rs → AllByRecursion (λ r. IsInBounds r.image) rs
all_in_bounds rs k = all_weaker (λ r. KeptOf r.image) (λ r. IsInBounds r.image) (λ r h. in_bounds r.image h) rs k

-- ---- positions in order

from_low : (p : ℕ) (cs : List Consumer) → least_from p cs ≤ p
from_low p [] = omega arith
from_low p (c ∷ cs) = omega (arith, from_low p cs)

least_low : (q : ℕ) (cs : List Consumer) → AllByRecursion (λ p. p ≤ q) (map (λ c. c.at) cs) → least_of cs ≤ q
least_low q [] h = omega arith
least_low q (c ∷ cs) h = omega (arith, from_low c.at cs, h.0)

told_in_order : (o : Option Opened) (told : Option places.Positions) → KeptOf o → TellsOf o told → IsInOrder (positions_line told)
told_in_order None told k m = subst (λ x. IsInOrder (positions_line x)) (sym m) tt
told_in_order (Some o) told k m =
    let i = o.image in
    let w = within i k in
    let same : m.0 ≡ w.0 = one_end i.stored i.join m.0 w.0 m.1 w.1 in
    subst (λ x. IsInOrder (positions_line x)) (sym m.2) (omega (arith, same, least_low w.0 i.consumers w.3), omega (arith, same, w.2))

tells_in_order : (s t : ScriptState) (command : CommandContent) (lines : List LineContent) → AllKept s → Answers s command lines t → TellsInOrder command lines
tells_in_order s t (commands.Group size) lines k m = tt
tells_in_order s t commands.Connect lines k m = tt
tells_in_order s t commands.Disconnect lines k m = tt
tells_in_order s t commands.Close lines k m = tt
tells_in_order s t commands.Limit lines k m = tt
tells_in_order s t (commands.Offer by message) lines k m = tt
tells_in_order s t (commands.OfferSize by size) lines k m = tt
tells_in_order s t (commands.Claim by size) lines k m = tt
tells_in_order s t (commands.Commit by) lines k m = tt
tells_in_order s t (commands.Abort by) lines k m = tt
tells_in_order s t (commands.Read r) lines k m = tt
tells_in_order s t (commands.Join r) lines k m = tt
tells_in_order s t (commands.Leave r) lines k m = tt
tells_in_order s t (commands.Send now) lines k m = tt
tells_in_order s t (commands.Deliver number n now) lines k m = tt
tells_in_order s t (commands.Raw n now bytes) lines k m = tt
tells_in_order s t (commands.Tick n now) lines k m = tt
tells_in_order s t (commands.Reply number now) lines k m = tt
tells_in_order s t (commands.RawBack now bytes) lines k m = tt
tells_in_order s t (commands.Poll n) lines k m = tt
tells_in_order s t (commands.Image n) lines k m = subst (AllByRecursion IsInOrder) (sym m.4) (told_in_order m.1.image m.0 (kept_at s n m.1 m.2 k) m.3, tt)

-- ---- all lines

always : (s last : ScriptState) (played : List Played) → AllKept s → AnswersAll s played last → AreInBounds last × AllByRecursion (λ p. TellsInOrder p.command p.lines) played
always s last [] k m = (all_in_bounds last.receivers (same_receivers s last (ap (λ x. x.receivers) m) k), tt)
always s last (p ∷ ps) k m =
    let later = always m.0 last ps (line_kept s m.0 p.command p.lines k m.1) m.2 in
    (later.0, (tells_in_order s m.0 p.command p.lines k m.1, later.1))

pub always_in_bounds : AlwaysInBounds
always_in_bounds o group played last m = always (opened_state (identity_of o) group o.start o.readers) last played (tt, (tt, (tt, (tt, (tt, (tt, (tt, (tt, tt)))))))) m
