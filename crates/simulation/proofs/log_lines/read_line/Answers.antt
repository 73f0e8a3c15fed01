use Rattle.std.proofs.Common.{◌≡◌, ◌∙◌, ℕ, List, inr, refl, ap, subst}
use Rattle.theory.specs.Placed.{Placed}
use Rattle.position.specs.Heads.{frame_in, head_of}
use Rattle.position.specs.declared.head.FrameHead.{FrameHead}
use Rattle.position.proofs.Heads.{frame_again, start_in}
use Rattle.one_hand.specs.Reads.{Advances, ShowsFrame}
use Rattle.one_hand.specs.Stream.{Stream, position_of, with_consumer}
use Rattle.simulation.specs.Lines.{line_content}
use Rattle.script_meaning.specs.Answers.{frame_line}
use Rattle.script_meaning.specs.LineContents.{LineContent}
use Rattle.simulation.specs.Reading.{ReadsLine}
use Rattle.simulation.proofs.log_lines.read_line.Goals as goal

reads_frame : (l n m : Stream) (r end : ℕ) (head : FrameHead) (before after : List ℕ) (line : LineContent) → ShowsFrame l (position_of l r) head before after → line ≡ frame_line head.start (frame_in head.kind head.flags head.frame_length after) → n ≡ l → Advances n r end m → ReadsLine l r line m
reads_frame l n m r end head before after line h told same goes =
    let at = position_of l r in
    let here : Placed = record { at = at; frame = h.frame } in
    let a : Advances l r end m = subst (λ x. Advances x r end m) same goes in
    let frame : frame_in head.kind head.flags head.frame_length after ≡ h.frame =
    ap (λ (x : FrameHead). frame_in x.kind x.flags x.frame_length after) h.shown
    ∙ ap (frame_in (head_of at h.frame).kind (head_of at h.frame).flags (head_of at h.frame).frame_length) h.copied
    ∙ frame_again at h.frame before in
    inr (
      here,
      h.among,
      refl,
      told ∙ ap (λ x. frame_line x (frame_in head.kind head.flags head.frame_length after)) (ap (λ (x : FrameHead). x.start) h.shown ∙ start_in at h.frame) ∙ ap (frame_line at) frame,
      a.after ∙ ap (with_consumer l r) (a.passes.behind here h.among refl),
    )

pub returns-clause-reads : goal.returns-clause-reads
returns-clause-reads c =
    reads_frame c.args.log.now c.next.new.self c.advance.new.self c.args.reader c.advance.result c.in-Some.head c.args.block.now c.next.new.block (line_content c.in_ok-line.line) c.in-Some.ensures.found c.in_ok-line.ensures c.in-Some.ensures.same c.advance.ensures
