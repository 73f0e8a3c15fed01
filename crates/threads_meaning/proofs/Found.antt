-- A frame that a pass committed is one of the model's, and which of those it is.
use Rattle.std.proofs.Common.{◌≡◌, ◌≢◌, ◌⊎◌, inl, inr, ⊎_elim, ℕ, ◌+◌, ◌*◌, ◌/◌, ◌<◌, ◌≤◌, List, [], ◌∷◌, length, map, sym, refl, ap, ◌∙◌, subst, arith}
use Rattle.std.specs.List.{AllByRecursion}
use Rattle.theory.specs.Bytes.{Identity}
use Rattle.theory.specs.Entry.{Entry, committed}
use Rattle.theory.specs.Placed.{Among, Frame, Placed, end_of, frame_length, place_all}
use Rattle.theory.specs.Position.{IsGeometry, aligned}
use Rattle.theory.proofs.Lists.{all_append}
use Rattle.position.specs.Contents.{frame_of}
use Rattle.position.specs.Words.{IsLegal, frame_words}
use Rattle.position.proofs.Contents.{legal_said}
use Rattle.position.proofs.Wordings.{words_length}
use Rattle.publication.specs.declared.pass.FrameWords.{FrameWords}
use Rattle.log_rule.specs.Claims.Sums.{total}
use Rattle.log_rule.proofs.Known.{either_frame}
use Rattle.log_rule.proofs.Sums.{has_some}
use Rattle.threads_meaning.specs.Modelled.{spelled}
use Rattle.threads_meaning.proofs.Looking.{among_here}

-- 1 for this frame, else 0
is_frame : FrameWords → FrameWords → ℕ
is_frame f g = ⊎_elim (λ (_ : f ≡ g). 1) (λ (_ : f ≢ g). 0) (either_frame f g)

abbrev IsOne : ℕ → Type 0
IsOne n = n ≡ 1

is_itself : (f : FrameWords) → is_frame f f ≡ 1
unfolding is_frame
is_itself f = go (either_frame f f)
  where
    go : (d : (f ≡ f) ⊎ (f ≢ f)) → IsOne (⊎_elim (λ (_ : f ≡ f). 1) (λ (_ : f ≢ f). 0) d)
    go (inl e) = refl
    go (inr n) = absurd (n refl)

is_same : (f g : FrameWords) → 0 < is_frame f g → f ≡ g
unfolding is_frame
is_same f g = go (either_frame f g)
  where
    go : (d : (f ≡ g) ⊎ (f ≢ g)) → 0 < ⊎_elim (λ (_ : f ≡ g). 1) (λ (_ : f ≢ g). 0) d → f ≡ g
    go (inl e) pos = e
    go (inr n) pos = absurd (omega arith)

among_mapped : {A B : Type 0} (f : A → B) (xs : List A) (y : B) → Among y (map f xs) → (x : A) × Among x xs × (f x ≡ y)
among_mapped f [] y a = absurd a
among_mapped f (x ∷ xs) y (inl e) = (x, inl refl, sym e)
among_mapped f (x ∷ xs) y (inr a) = let r = among_mapped f xs y a in (r.0, inr r.1, r.2)

-- what each sum counts is there
pub counted : (i : Identity) (frames : List Placed) (f : FrameWords) → ((h : FrameWords → ℕ) → h f ≤ total h (map (spelled i) frames)) → (s : Placed) × Among s frames × (spelled i s ≡ f)
counted i frames f among =
    let one = among (is_frame f) in let self = is_itself f in let h = has_some (is_frame f) (map (spelled i) frames) (omega arith) in
    among_mapped (spelled i) frames f (subst (λ (x : FrameWords). Among x (map (spelled i) frames)) (sym (is_same f h.one h.some)) (among_here (map (spelled i) frames) h.place h.one h.at))

-- legal frames of one spelling are one
pub one_spelled : (i : Identity) (r s : Placed) → IsGeometry i.geometry → IsLegal i.geometry r.frame → IsLegal i.geometry s.frame → spelled i r ≡ spelled i s → r ≡ s
one_spelled i r s is legal_r legal_s e =
    let at : r.at ≡ s.at = ap (λ (f : FrameWords). f.start) e in
    let words : frame_words i r.at r.frame ≡ frame_words i s.at s.frame = ap (λ (f : FrameWords). f.words) e in
    let frame : r.frame ≡ s.frame = sym (legal_said i r.at r.frame is legal_r) ∙ ap frame_of words ∙ legal_said i s.at s.frame is legal_s in
    (λ k. record { at = at k; frame = frame k })

-- each committed frame is legal
placed_legal : (P : Frame → Type 0) (p : ℕ) (fs : List Frame) → AllByRecursion P fs → AllByRecursion (λ s. P s.frame) (place_all p fs)
placed_legal P p [] a = tt
placed_legal P p (f ∷ fs) a = (a.0, placed_legal P (p + aligned (frame_length f)) fs a.1)

pub all_legal : (P : Frame → Type 0) (es : List Entry) → AllByRecursion (λ e. AllByRecursion P e.frames) es → AllByRecursion (λ s. P s.frame) (committed es)
all_legal P [] a = tt
all_legal P (e ∷ es) a = all_append (λ (s : Placed). P s.frame) (place_all e.start e.frames) (committed es) (placed_legal P e.start e.frames a.0) (all_legal P es a.1)

-- where it ends
pub ends_there : (i : Identity) (s : Placed) → s.at + 8 * length (frame_words i s.at s.frame) ≡ end_of s
unfolding frame_words
ends_there i s = ap (λ (n : ℕ). s.at + 8 * n) (words_length (aligned (frame_length s.frame) / 8) _) ∙ whole s.at (frame_length s.frame)
  where
    whole : (p n : ℕ) → p + 8 * (aligned n / 8) ≡ p + aligned n
    whole p n = omega arith
