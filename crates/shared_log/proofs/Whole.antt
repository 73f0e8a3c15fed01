-- A reader that has found a frame and not read it stays the reader that it was.
use Rattle.std.proofs.Common.{◌≡◌, ℕ, ◌+◌, ◌<◌, ◌≤◌, List, [], ◌∷◌, length, sym, ap, ◌∙◌, subst}
use Rattle.theory.specs.Placed.{Among}
use Rattle.theory.specs.Position.{aligned, max_position}
use Rattle.theory.proofs.Lists.{among_left}
use Rattle.position.specs.declared.head.FrameHead.{FrameHead}
use Rattle.position.specs.declared.head.FrameKind.TheVariants as kinds
use Rattle.publication.specs.declared.pass.Pass.{Pass}
use Rattle.publication.specs.declared.pass.Reading.{Reading}
use Rattle.shared_log.specs.Steps.Handles.{LogValue}
use Rattle.shared_log.specs.Readers.{Finds, FindsPart, IsReading, ReaderValue, known_of}
use Rattle.shared_log.specs.Whole.{FindsLonger}
use Rattle.shared_log.proofs.Finding.{unfit}
use Rattle.shared_log.proofs.Looking.{known_is}
use mathlib.Core.Option.{some-injective}

-- it still knows the frame that it read before, if it read one
pub unread_reading : (l : LogValue) (r q : ReaderValue) (head : FrameHead) → Finds l r head q → IsReading r.held.pass r.place r.number r.position r.read_to → IsReading q.held.pass q.place q.number q.position q.read_to → IsReading q.held.pass q.place q.number q.position r.read_to
unread_reading l r q head f was is =
    let place : q.place ≡ r.place = ap (λ (x : ReaderValue). x.place) f.stays.same in let position : q.position ≡ r.position = ap (λ (x : ReaderValue). x.position) f.stays.same in record {
      consumer = is.consumer;
      is = is.is;
      number_is = is.number_is;
      position_is = is.position_is;
      read = λ lt. (let m = was.read (subst (λ (n : ℕ). n < r.read_to) position lt) in record {
        consumer = is.consumer;
        is = is.is;
        frame = m.frame;
        known = subst (Among m.frame) (known_is q.held.pass.reading q.place is.consumer is.is)
            (subst (Among m.frame) (sym f.known) (among_left m.frame (known_of r) (f.frame ∷ []) (subst (Among m.frame) (sym (known_is r.held.pass.reading r.place m.consumer m.is)) m.known)));
        here = m.here ∙ ap (λ (x : Reading). x.position) (some-injective m.consumer was.consumer (sym m.is ∙ was.is)) ∙ was.position_is ∙ sym position ∙ sym is.position_is;
        ends = m.ends;
      });
      low = is.low;
      low_end = subst (λ (v : Pass). r.read_to ≤ max_position v.identity.geometry) (sym f.stays.pass.rest) was.low_end;
    }

pub finds_longer : (l : LogValue) (r : ReaderValue) (head : FrameHead) (before : List ℕ) (q s : ReaderValue) (after : List ℕ) → (f : FindsPart l r head before q after) → head.kind ≡ kinds.Data → 32 + length before < head.frame_length → s ≡ record q { read_to = r.read_to } → q.read_to ≡ r.position + aligned head.frame_length → FindsLonger l r head before s after
finds_longer l r head before q s after f kind long same end = record {
  finds = subst (Finds l r head) (ap (λ (n : ℕ). record q { read_to = n }) end ∙ ap (λ (x : ReaderValue). record x { read_to = r.position + aligned head.frame_length }) (sym same)) f.finds;
  kind = kind;
  longer = long;
  read_to = ap (λ (x : ReaderValue). x.read_to) same;
  untouched = unfit head f.finds.frame before after kind long f.copied;
}
