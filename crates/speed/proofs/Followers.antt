-- The keeper and the readers of a round.
use Rattle.std.proofs.Common.{◌≡◌, ℕ, suc, ◌+◌, ◌<◌, ◌≤◌, List, [], ◌∷◌, ◌++◌, length, refl, ap, ◌∙◌, arith}
use Rattle.std.specs.List.{AllByRecursion}
use Rattle.theory.specs.Placed.{Data, Frame, Pad}
use Rattle.position.specs.declared.head.FrameHead.{FrameHead}
use Rattle.position.specs.declared.head.FrameKind.TheVariants as kinds
use Rattle.position.specs.Heads.{head_of}
use Rattle.publication.specs.declared.pass.FrameWords.{FrameWords}
use Rattle.publication.specs.Contents.{frame_in}
use Rattle.log_rule.specs.Claims.Sums.{total}
use Rattle.log_rule.proofs.Claimed.Totals.{total_append}
use Rattle.publication.specs.declared.pass.Keeping.{Keeping}
use Rattle.publication.specs.declared.pass.Pass.{Pass}
use Rattle.shared_log.specs.Steps.Handles.{LogValue}
use Rattle.shared_log.specs.Readers.{Advances, Finds, IsReaderOf, ReaderValue, known_of}
use Rattle.shared_log.specs.Keepers.{KeeperValue, KeepsAs}
use Rattle.shared_log.specs.Parts.{AreReaders, IsNewKeeper}
use Rattle.speed.specs.Rounds.{IsKept, one_for, one_in, read_by}

pub new_kept : (l : LogValue) (k : KeeperValue) → IsNewKeeper l k → IsKept l k
new_kept l k new = record {
  done = record { idle = record { of = new.held.of; unarmed = ap (λ (v : Pass). v.right.armed) new.held.pass_is }; ended = ap (λ (v : Pass). v.work.drafts) new.held.pass_is };
  unclaimed = ap (λ (v : Pass). v.right.claims) new.held.pass_is;
  parts = ap (λ (v : Pass). v.right.parts) new.held.pass_is;
}

-- it stays so when it keeps something else
pub kept_on : (l : LogValue) (k : KeeperValue) (kept : Keeping) (q : KeeperValue) → KeepsAs k kept q → IsKept l k → IsKept l q
kept_on l k kept q keeps is = record {
  done = record {
    idle = record {
      of = record { table = keeps.of ∙ is.done.idle.of.table; identity = ap (λ (v : Pass). v.identity) keeps.pass ∙ is.done.idle.of.identity; start = ap (λ (v : Pass). v.start) keeps.pass ∙ is.done.idle.of.start };
      unarmed = ap (λ (v : Pass). v.right.armed) keeps.pass ∙ is.done.idle.unarmed;
    };
    ended = ap (λ (v : Pass). v.work.drafts) keeps.pass ∙ is.done.ended;
  };
  unclaimed = ap (λ (v : Pass). v.right.claims) keeps.pass ∙ is.unclaimed;
  parts = ap (λ (v : Pass). v.right.parts) keeps.pass ∙ is.parts;
}

-- ---- reading

-- a frame that is found is counted by its kind
frame_counts : (start : ℕ) (f : Frame) (head : FrameHead) → head ≡ head_of start f → ((head.kind ≡ kinds.Data) → one_for f ≡ 1) × ((head.kind ≡ kinds.Pad) → one_for f ≡ 0)
frame_counts start (Data flags payload) head e = (λ is. refl, λ (is : head.kind ≡ kinds.Pad). let k : head.kind ≡ kinds.Data = ap (λ (h : FrameHead). h.kind) e in cc)
frame_counts start (Pad n) head e = (λ (is : head.kind ≡ kinds.Data). let k : head.kind ≡ kinds.Pad = ap (λ (h : FrameHead). h.kind) e in cc, λ is. refl)

one_known : (r s : ReaderValue) (f : FrameWords) (n : ℕ) → known_of s ≡ known_of r ++ f ∷ [] → one_in f ≡ n → read_by s ≡ read_by r + n
one_known r s f n known one = ap (total one_in) known ∙ total_append one_in (known_of r) (f ∷ []) ∙ (let e : one_in f + 0 ≡ n = omega arith in ap (λ (k : ℕ). read_by r + k) e)

pub read_message : (l : LogValue) (r : ReaderValue) (head : FrameHead) (q s : ReaderValue) → Finds l r head q → Advances q s → head.kind ≡ kinds.Data → read_by s ≡ read_by r + 1
read_message l r head q s found on is = one_known r s found.frame 1 (on.known ∙ found.known) ((frame_counts r.position (frame_in found.frame) head found.shown).0 is)

pub read_padding : (l : LogValue) (r : ReaderValue) (head : FrameHead) (q s : ReaderValue) → Finds l r head q → Advances q s → head.kind ≡ kinds.Pad → read_by s ≡ read_by r + 0
read_padding l r head q s found on is = one_known r s found.frame 0 (on.known ∙ found.known) ((frame_counts r.position (frame_in found.frame) head found.shown).1 is)
