-- A reader alone, told by positions.
use Rattle.std.proofs.Common.{◌≡◌, ℕ, ◌*◌, ◌≤◌, List, [], ◌++◌, Option, None, Some, drop, length, length-append, length-drop, inl, inr, refl, sym, ap, ◌∙◌, subst, arith}
use Rattle.std.specs.Prelude.{IfNone, IfSome}
use Rattle.block.specs.Bytes.{with_front}
use Rattle.theory.specs.Placed as placed
use Rattle.theory.specs.Placed.{Among, Data, Pad, Placed, frame_length, payload_of}
use Rattle.position.specs.declared.head.FrameHead.{FrameHead}
use Rattle.image.specs.Kinds.{head_at}
use Rattle.image_rule.specs.declared.view.Frame.{Frame}
use Rattle.image_rule.specs.declared.view.View.{View}
use Rattle.image_rule.specs.Frames as units
use Rattle.image_rule.specs.Frames.{IsContent, end_of, placed_all, placed_of}
use Rattle.image_rule.specs.Steps.{with_known}
use Rattle.image_rule.proofs.Units.{among_placed, placed_among}
use Rattle.image.specs.Handles.{ReaderSeat, known_by, position_of}
use Rattle.image.specs.Reading.{Advances, LiesInFront, MayAdvance, ReadsNone, ShowsFrame}
use Rattle.image.specs.Finding.{FindsFrame, FindsHere, FindsNothing, PassesOn, StaysThere}
use Rattle.image.proofs.Judged.{head_shown}
use Rattle.image.proofs.OneHand.{in_front, payload_short, read_short}

-- its number and its place are what its view says
stays_by : (r q : ReaderSeat) → q.of ≡ r.of → q.view.reading.number ≡ r.view.reading.number → q.view.reading.unit ≡ r.view.reading.unit → ((s : Placed) → Among s (known_by r) → Among s (known_by q)) → StaysThere r q
stays_by r q of number unit keeps = record { of = of; number = number; stands = ap (λ (u : ℕ). 32 * u) unit; keeps = keeps }

content_long : (c : placed.Frame) → IsContent c → 32 ≤ frame_length c
content_long (Data flags payload) is = omega arith
content_long (Pad n) is = is.0

pub finds_frame : (r q : ReaderSeat) (head : FrameHead) (payload : List ℕ) → ShowsFrame r head payload q → FindsFrame r head payload q
finds_frame r q head payload reads =
    let f : Frame = reads.finds.frame in let s : Placed = placed_of f in
    let here : s.at ≡ position_of r = ap (λ (u : ℕ). 32 * u) reads.finds.here in
    let known : q.view.reading.known ≡ (with_known r.view f).reading.known = ap (λ (v : View). v.reading.known) reads.finds.after in
    let end = reads.read_to in let size = reads.covers in
    record {
      reads = reads;
      frame = s;
      here = here;
      known = among_placed f q.view.reading.known (subst (units.Among f) (sym known) (inl refl));
      only = λ t a at.
          let p = placed_among t r.view.reading.known a in
          let e : t.at ≡ 32 * p.frame.unit = ap (λ (x : Placed). x.at) p.is in
          p.is ∙ ap placed_of (reads.finds.only p.frame p.among (omega (arith, e, at)));
      head_is = reads.finds.shown ∙ head_shown (32 * r.view.reading.unit) s.frame ∙ ap (λ (p : ℕ). head_at p s.frame) (sym here);
      payload_is = reads.payload_is;
      small = subst (λ (xs : List ℕ). length xs ≤ 65472) (sym reads.payload_is) (payload_short s.frame reads.finds.content);
      short = read_short r head payload q reads;
      long = content_long s.frame reads.finds.content;
      ends = omega (arith, end, size);
      stays = stays_by r q (ap (λ (x : ReaderSeat). x.of) reads.same) (ap (λ (v : View). v.reading.number) reads.finds.after) (ap (λ (v : View). v.reading.unit) reads.finds.after) (λ t a. subst (λ k. Among t (placed_all k)) (sym known) (inr a));
      misses = ap (λ (v : View). v.reading.misses) reads.finds.after;
    }

-- its payload copied to the front of a block that has room for each
pub finds_here : (r q : ReaderSeat) (head : FrameHead) (payload before after : List ℕ) → FindsFrame r head payload q → LiesInFront before payload after → 65472 ≤ length before → FindsHere r before head q after
finds_here r q head payload before after f lies room =
    let small = f.small in
    let copied : after ≡ payload ++ drop (length payload) before = lies.fits (omega arith) in
    record {
      reads = record {
        finds = f.reads.finds;
        copied = copied ∙ ap (λ (xs : List ℕ). xs ++ drop (length xs) before) f.reads.payload_is;
        read_to = f.reads.read_to;
        covers = f.reads.covers;
        same = f.reads.same;
      };
      frame = f.frame;
      here = f.here;
      known = f.known;
      only = f.only;
      head_is = f.head_is;
      payload = in_front before payload after (omega arith) copied ∙ ap (with_front before) f.payload_is;
      short = f.short;
      long = f.long;
      ends = f.ends;
      stays = f.stays;
      misses = f.misses;
    }

-- whether it found one or not
pub found_block : (r q : ReaderSeat) (before after : List ℕ) (found : Option FrameHead) → IfSome found (λ head. (payload : List ℕ) × FindsFrame r head payload q × LiesInFront before payload after) → 65472 ≤ length before → IfSome found (λ head. FindsHere r before head q after)
found_block r q before after None f room = f
found_block r q before after (Some head) (payload, finds, lies) room = finds_here r q head payload before after finds lies room

pub missed_block : (r q : ReaderSeat) (before after : List ℕ) (found : Option FrameHead) → IfNone found (FindsNothing r [] q [] × (after ≡ before)) → IfNone found (FindsNothing r before q after)
missed_block r q before after None f = record { reads = record { finds = f.0.reads.finds; same = f.0.reads.same; untouched = f.1 }; none = f.0.none; untouched = f.1; stays = f.0.stays; misses = f.0.misses }
missed_block r q before after (Some head) f = f

-- the block is as long as it was
pub same_length : (r q : ReaderSeat) (before after : List ℕ) (found : Option FrameHead) → IfSome found (λ head. (payload : List ℕ) × FindsFrame r head payload q × LiesInFront before payload after) → IfNone found (FindsNothing r [] q [] × (after ≡ before)) → 65472 ≤ length before → length after ≡ length before
same_length r q before after None f none room = ap length none.1
same_length r q before after (Some head) (payload, finds, lies) none room =
    let small = finds.small in
    let e : after ≡ payload ++ drop (length payload) before = lies.fits (omega arith) in
    let a = length-append payload (drop (length payload) before) in let d = length-drop (length payload) before in let n = ap length e in
    omega arith

pub finds_nothing : (r q : ReaderSeat) (before after : List ℕ) → ReadsNone r before q after → FindsNothing r before q after
finds_nothing r q before after reads =
    let known : q.view.reading.known ≡ r.view.reading.known = ap (λ (v : View). v.reading.known) reads.finds.after in
    let more = ap (λ (v : View). v.reading.misses) reads.finds.after in
    record {
      reads = reads;
      none = λ t a at.
          let p = placed_among t r.view.reading.known (subst (λ k. Among t (placed_all k)) known a) in
          let e : t.at ≡ 32 * p.frame.unit = ap (λ (x : Placed). x.at) p.is in
          reads.finds.none p.frame p.among (omega (arith, e, at));
      untouched = reads.untouched;
      stays = stays_by r q (ap (λ (x : ReaderSeat). x.of) reads.same) (ap (λ (v : View). v.reading.number) reads.finds.after) (ap (λ (v : View). v.reading.unit) reads.finds.after) (λ t a. subst (λ k. Among t (placed_all k)) (sym known) a);
      misses = omega (arith, more);
    }

-- it goes past what it has read
pub passes_on : (r q : ReaderSeat) → MayAdvance r → Advances r q → PassesOn r q
passes_on r q may a =
    let unit : q.view.reading.unit ≡ end_of a.past = ap (λ (x : ReaderSeat). x.view.reading.unit) a.same in let ends = a.ends in
    let known : q.view.reading.known ≡ r.view.reading.known = ap (λ (x : ReaderSeat). x.view.reading.known) a.same in
    record {
      advances = a;
      of = ap (λ (x : ReaderSeat). x.of) a.same;
      number = ap (λ (x : ReaderSeat). x.view.reading.number) a.same;
      stands = omega (arith, unit, ends);
      forward = omega (arith, unit, ends, may);
      keeps = λ s k. subst (λ fs. Among s (placed_all fs)) (sym known) k;
      misses = ap (λ (x : ReaderSeat). x.view.reading.misses) a.same;
    }
