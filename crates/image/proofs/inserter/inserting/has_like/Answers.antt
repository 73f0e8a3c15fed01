use Rattle.std.proofs.Common.{◌≡◌, ℕ, refl, subst, ◌∙◌}
use Rattle.theory.specs.Placed.{Among, Placed}
use Rattle.position.specs.declared.head.FrameHead.{FrameHead}
use Rattle.image.specs.Kinds.{head_at, is_pad}
use Rattle.image.specs.Handles.{InserterSeat, stored_by}
use Rattle.image.specs.Looking.{IsHeadOf}
use Rattle.image.proofs.Judged.{head_shown, like, unlike}
use Rattle.image.proofs.inserter.inserting.has_like.Goals as goal

pub returns-in_default-clause-like : goal.returns-in_default-clause-like
returns-in_default-clause-like c = unlike c.args.start (is_pad c.args.kind) c.args.frame_length (stored_by c.args.words.now) c.in_default.ensures.none

shown : (n m : InserterSeat) (p : ℕ) (head : FrameHead) → n ≡ m → IsHeadOf n p head → (s : Placed) → Among s (stored_by m) → s.at ≡ p → head ≡ head_at p s.frame
shown n m p head same is s a e = (subst (λ (x : InserterSeat). IsHeadOf x p head) same is) s a e ∙ head_shown p s.frame

pub returns-clause-like : goal.returns-clause-like
returns-clause-like c =
    let at = c.in-Some.ensures.head in
    c.is_like.ensures ∙ like c.args.start (is_pad c.args.kind) c.args.frame_length (stored_by c.args.words.now) c.in-Some.head c.requires.laid at.0 (shown c.args.words.now c.args.words.now c.args.start c.in-Some.head refl at.1)
