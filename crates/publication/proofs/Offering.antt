-- A claim whose frames are written, and one of one frame.
use Rattle.std.proofs.Common.{◌≡◌, ℕ, ◌+◌, ◌≤◌, true, List, [], ◌∷◌, ◌++◌, length, append-nil, sym, ap, ◌∙◌, subst, arith}
use Rattle.theory.specs.Bytes.{Identity}
use Rattle.theory.specs.Position.{cuts_of, framed_length, max_payload}
use Rattle.theory.proofs.Cuts.{short_cuts}
use Rattle.publication.specs.declared.pass.FrameWords.{FrameWords}
use Rattle.publication.specs.declared.pass.Pass.{Pass}
use Rattle.publication.specs.Steps.{blanks, geometry_of, with_work, works}
use Rattle.publication.specs.Frames.{message_frames}
use Rattle.publication.specs.Claims.{Claimed, padding_stores}
use Rattle.publication.specs.Offers.{FillsAll, HasBlanks, Offered, Opened}

module _ (p v : Pass) (n start : ℕ) (h : Claimed p n start v) where
  pub claimed_identity : v.identity ≡ p.identity
  claimed_identity = ap (λ (u : Pass). u.identity) h.after

  claimed_frames : v.work.frames ≡ p.work.frames
  claimed_frames = ap (λ (u : Pass). u.work.frames) h.after

  claimed_drafts : v.work.drafts ≡ p.work.drafts ++ blanks start (cuts_of (geometry_of p) n)
  claimed_drafts = ap (λ (u : Pass). u.work.drafts) h.after ∙ ap (λ (s : ℕ). p.work.drafts ++ blanks s (cuts_of (geometry_of p) n)) (sym h.from)

  pub claimed_nothing : padding_stores p v ≡ 0
  claimed_nothing = let e : length v.work.frames ≡ length p.work.frames = ap (λ (fs : List FrameWords). length fs) claimed_frames in omega arith

  claimed_parts : v.work.drafts ≡ p.work.drafts ++ (blanks start (cuts_of (geometry_of v) n) ++ [])
  claimed_parts =
      claimed_drafts
      ∙ ap (λ (i : Identity). p.work.drafts ++ blanks start (cuts_of i.geometry n)) (sym claimed_identity)
      ∙ ap (λ (ds : List FrameWords). p.work.drafts ++ ds) (sym (append-nil (blanks start (cuts_of (geometry_of v) n))))

  pub claimed_blanks : HasBlanks v start (cuts_of (geometry_of v) n)
  claimed_blanks = record { front = p.work.drafts; behind = []; parts = claimed_parts }

  pub offered : (q : Pass) (message : List ℕ) (end : ℕ) → n ≡ length message → FillsAll v true start message q → end ≡ start + framed_length (geometry_of p) (length message) → Offered p message end q
  offered q message end size fills end_is = record {
    start = start;
    between = v;
    claimed = subst (λ (k : ℕ). Claimed p k start v) size h;
    end_is = end_is;
    after =
        fills p.work.drafts [] (subst (λ (k : ℕ). v.work.drafts ≡ p.work.drafts ++ (blanks start (cuts_of (geometry_of v) k) ++ [])) size claimed_parts)
        ∙ ap (λ (ds : List FrameWords). with_work (v.work.frames ++ message_frames v.identity true start message) ds v) (append-nil p.work.drafts)
        ∙ ap (λ (fs : List FrameWords). with_work (fs ++ message_frames v.identity true start message) p.work.drafts v) claimed_frames
        ∙ ap (λ (i : Identity). with_work (p.work.frames ++ message_frames i true start message) p.work.drafts v) claimed_identity;
  }

  pub opened_one : n ≤ max_payload (geometry_of p) → Opened p n start v
  opened_one low = record {
    claimed = h;
    one =
        ap (λ (fs : List FrameWords). works fs v.work.drafts) claimed_frames
        ∙ ap (λ (ds : List FrameWords). works p.work.frames ds) (claimed_drafts ∙ ap (λ (cs : List ℕ). p.work.drafts ++ blanks start cs) (short_cuts (geometry_of p) n low ∙ ap (λ (k : ℕ). k ∷ []) (let e : n + 32 ≡ 32 + n = omega arith in e)));
  }

-- the words that are stored are noted in no call
pub filled_call : (v q : Pass) (start : ℕ) (message : List ℕ) → HasBlanks v start (cuts_of (geometry_of v) (length message)) → FillsAll v true start message q → q.call ≡ v.call
filled_call v q start message b fills = ap (λ (u : Pass). u.call) (fills b.front b.behind b.parts)
