use Rattle.std.proofs.Common.{◌≡◌, ℕ, suc, ◌+◌, ◌*◌, ◌<◌, List, [], ◌∷◌, ◌++◌, length, length-append, sym, ap, ◌∙◌, subst, arith}
use Rattle.theory.specs.Bytes.{Identity}
use Rattle.theory.proofs.Lists.{all_append}
use Rattle.publication.specs.declared.pass.FrameWords.{FrameWords}
use Rattle.log_rule.specs.Claims.Memory.{IsCommittedFrame}
use Rattle.log_rule.specs.Readings.{end_of}
use Rattle.log_rule.specs.declared.claims.view.View.{View}
use Rattle.log_memory.specs.declared.view.Room.{Room}
use Rattle.log_memory.specs.Frames.{Follow}
use Rattle.log_memory.proofs.frames.free_to.Goals as goal

-- one frame more
follow_on : (i : Identity) (fs : List FrameWords) (p q : ℕ) (f : FrameWords) → Follow i p fs q → f.start ≡ q → IsCommittedFrame i f → (e : ℕ) → e ≡ end_of f → Follow i p (fs ++ f ∷ []) e
follow_on i [] p q f a at done e is = (at ∙ sym a, done, sym is)
follow_on i (g ∷ gs) p q f a at done e is = (a.0, a.1, follow_on i gs (end_of g) q f a.2 at done e is)

more : (n : ℕ) (fs : List FrameWords) (f : FrameWords) → suc (suc (n + 2 * length fs)) ≡ n + 2 * length (fs ++ f ∷ [])
more n fs f = go n (length fs) (length (fs ++ f ∷ [])) (length-append fs (f ∷ []))
  where
    go : (n k l : ℕ) → l ≡ k + 1 → suc (suc (n + 2 * k)) ≡ n + 2 * l
    go n k l e = omega arith

pub loop-at-preserved : goal.loop-at-preserved
loop-at-preserved c =
    let i : Identity = c.args.memory.now.table.shared.key.key.identity in let v = c.loop-at.invariant in let f = c.free_frame-back.ensures.frees in let fs = v.7 in
    let at : f.frame.start ≡ c.loop-at.at = f.here ∙ ap (λ (r : Room). r.freed) v.5 in (
      c.free_frame-back.ensures.home ∙ v.0,
      c.free_frame-back.ensures.seat.0 ∙ v.1,
      c.free_frame-back.ensures.seat.1 ∙ v.2,
      f.carried,
      f.part ∙ v.4,
      f.room ∙ (λ j. record { freed = (v.5 j).freed + c.free_frame-back.result.1; out = 0 }),
      f.parked ∙ v.6,
      fs ++ f.frame ∷ [],
      follow_on i fs c.args.seat.now.me.0.room.freed c.loop-at.at f.frame v.8 at f.done (c.loop-at.at + c.free_frame-back.result.1) (λ j. sym at j + f.long j),
      all_append (λ (g : FrameWords). g.start < c.args.end) fs (f.frame ∷ []) v.9 (subst (λ (x : ℕ). x < c.args.end) (sym at) c.loop-at-test.true, tt),
      f.rests ∙ ap (λ (w : View). record w { steps = suc (suc w.steps) }) v.10 ∙ ap (λ (n : ℕ). record c.args.seat.now.me.0.view { steps = n }) (more c.args.seat.now.me.0.view.steps fs f.frame),
    )
