-- Which consumer and which frame a call picks.
use Rattle.std.proofs.Common.{◌≡◌, ◌==◌, ◌+◌, ◌<◌, ◌≤◌, ℕ, zero, suc, Bool, true, cond, inl, inr, ⊎_elim, List, [], ◌∷◌, ◌++◌, sym, ap, ◌∙◌, subst}
use Rattle.std.proofs.lemmas.Bool.{eqb-false, ne_eqb, true_from_ne_false}
use mathlib.Core.Option.{some, some-injective, some-ne-none}
use mathlib.Core.Logic.{dite}
use native.Mathlib.Decide.{ℕ_discrete}
use lib.ListN.{get_elem?}
use Rattle.theory.specs.Placed.{Among}
use Rattle.theory.proofs.Lists.{among_cases, among_left, among_right}
use Rattle.publication.specs.declared.pass.FrameWords.{FrameWords}
use Rattle.publication.specs.declared.pass.Pass.{Pass}
use Rattle.publication.specs.declared.pass.Reading.{Reading}
use Rattle.publication.specs.Steps.{term_of}
use Rattle.log_rule.specs.Readings.{Has, IsConsumer}
use Rattle.log_memory.specs.Steps.{MayReread}
use Rattle.log_memory.specs.declared.reader.Consumer.{Consumer}
use Rattle.shared_log.specs.Steps.Readers.{IsAt, MayRereadAt, frame_from, had_at, reading_at}

pub reading_is : (rs : List Reading) (place : ℕ) (r : Reading) → get_elem? rs place ≡ some r → reading_at place rs ≡ r
reading_is [] place r e = absurd (some-ne-none r (sym e))
reading_is (x ∷ xs) zero r e = some-injective x r e
reading_is (x ∷ xs) (suc place) r e = reading_is xs place r e

pub picked_reading : (v : Pass) (c : Consumer) (at : IsAt v c) → reading_at c.place v.reading ≡ at.reading
picked_reading v c at = reading_is v.reading c.place at.reading at.is

pub picked_is : (v : Pass) (c : Consumer) (at : IsAt v c) → IsConsumer v c.place (reading_at c.place v.reading)
picked_is v c at = subst (IsConsumer v c.place) (sym (picked_reading v c at)) at.is

-- the first frame that begins there is one that does
frame_is : (p : ℕ) (fs : List FrameWords) (f : FrameWords) → Among f fs → f.start ≡ p → Among (frame_from p fs) fs × ((frame_from p fs).start ≡ p)
frame_is p [] f a at = absurd a
frame_is p (g ∷ gs) f a at = dite (ℕ_discrete g.start p)
    (λ e. let yes : (g.start == p) ≡ true = true_from_ne_false (g.start == p) (λ z. eqb-false g.start p z e) in let is : frame_from p (g ∷ gs) ≡ g = ap (λ (b : Bool). cond b g (frame_from p gs)) yes in (inl is, ap (λ (x : FrameWords). x.start) is ∙ e))
    (λ ne. let is : frame_from p (g ∷ gs) ≡ frame_from p gs = ap (λ (b : Bool). cond b g (frame_from p gs)) (ne_eqb g.start p ne) in
    let rest : Among f gs = ⊎_elim (λ (same : f ≡ g). absurd (ne (sym (ap (λ (x : FrameWords). x.start) same) ∙ at))) (λ b. b) a in let r = frame_is p gs f rest at in
    (inr (subst (λ (x : FrameWords). Among x gs) (sym is) r.0), ap (λ (x : FrameWords). x.start) is ∙ r.1))

among_of : (v : Pass) (r : Reading) (f : FrameWords) → Has v r f → Among f (r.known ++ v.work.frames)
among_of v r f (inl k) = among_left f r.known v.work.frames k
among_of v r f (inr a) = among_right f r.known v.work.frames a

-- the frame that a call reads again
pub picked_frame : (v : Pass) (c : Consumer) (start : ℕ) (may : MayRereadAt v c start) → Has v may.at.reading (frame_from start (had_at c.place v)) × ((frame_from start (had_at c.place v)).start ≡ start)
picked_frame v c start may =
    let e : had_at c.place v ≡ may.at.reading.known ++ v.work.frames = ap (λ (r : Reading). r.known ++ v.work.frames) (picked_reading v c may.at) in
    let r = frame_is start (may.at.reading.known ++ v.work.frames) may.frame (among_of v may.at.reading may.frame may.has) may.here in
    subst (λ (fs : List FrameWords). Has v may.at.reading (frame_from start fs) × ((frame_from start fs).start ≡ start)) (sym e) (among_cases (frame_from start (may.at.reading.known ++ v.work.frames)) may.at.reading.known v.work.frames r.0, r.1)

pub picked_reread : (v : Pass) (c : Consumer) (start : ℕ) → MayRereadAt v c start → MayReread c.place (reading_at c.place v.reading) (frame_from start (had_at c.place v)) v
picked_reread v c start may = let f = picked_frame v c start may in let e = picked_reading v c may.at in record {
  is = picked_is v c may.at;
  low = subst (λ (n : ℕ). n < 8) (sym (ap (λ (r : Reading). r.number) e ∙ may.at.number_is)) may.at.low;
  has = subst (λ (r : Reading). Has v r (frame_from start (had_at c.place v))) (sym e) f.0;
  near = subst (λ (x : ℕ × ℕ). x.0 ≤ x.1 + term_of v) (λ j. (sym (ap (λ (r : Reading). r.position) e ∙ may.at.position_is) j, sym f.1 j)) may.near;
}
