-- The room of open frames in a row of slots.
use Rattle.std.proofs.Common.{◌≡◌, ◌==◌, ℕ, zero, suc, Bool, true, false, cond, inl, inr, ◌+◌, ◌*◌, ◌/◌, List, [], ◌∷◌, ◌++◌, length, length-append, sym, refl, ap, ◌∙◌, subst}
use Rattle.std.proofs.lemmas.Bool.{eqb-false, ne_eqb, true_from_ne_false}
use Rattle.std.proofs.lemmas.List.{append_assoc}
use Rattle.theory.specs.Placed.{Among}
use Rattle.publication.specs.declared.pass.FrameWords.{FrameWords}
use Rattle.region.specs.declared.access.Access.{Access}
use Rattle.log_memory.specs.declared.view.Site.{Site}
use Rattle.log_memory.specs.Open.{HoldsRooms, front_of, others_of, slots_in}
use Rattle.log_memory.specs.Order.{rotated}
use Rattle.log_memory.specs.Places.{slot_of}
use Rattle.log_memory.specs.Rule.{ring}
use Rattle.log_memory.specs.Steps.{AreApart, Carries, IsRoomAt}
use Rattle.log_memory.proofs.Rounds.{carries_more, rotated_all}

-- a row, and what it is carried over
pub carries_apart : (is : ℕ → Access → Type 0) (k count : ℕ) (before mine : List (ℕ × Access)) → Carries is k count before mine → (xs : List (ℕ × Access)) × (mine ≡ xs ++ before) × (length xs ≡ count) × Carries is k count [] xs
carries_apart is k zero before mine c = ([], c, refl, refl)
carries_apart is k (suc count) before mine c = let r = carries_apart is (suc k) count before c.1 c.4 in ((k, c.0) ∷ r.0, c.2 ∙ ap (λ (l : List (ℕ × Access)). (k, c.0) ∷ l) r.1, ap suc r.2, (c.0, r.0, refl, c.3, r.3))

pub holds_more : (t : Site) (fs : List FrameWords) (before mine more : List (ℕ × Access)) → HoldsRooms t fs before mine → HoldsRooms t fs (before ++ more) (mine ++ more)
holds_more t [] before mine more h = ap (λ (l : List (ℕ × Access)). l ++ more) h
holds_more t (f ∷ fs) before mine more h = (h.0 ++ more, carries_more (IsRoomAt t) (slot_of (ring t) f.start 0) (8 * length f.words / 4) h.0 mine more h.1, holds_more t fs before h.0 more h.2)

pub holds_apart : (t : Site) (fs : List FrameWords) (before mine : List (ℕ × Access)) → HoldsRooms t fs before mine → (xs : List (ℕ × Access)) × (mine ≡ xs ++ before) × (length xs ≡ slots_in fs) × HoldsRooms t fs [] xs
holds_apart t [] before mine h = ([], h, refl, refl)
holds_apart t (f ∷ fs) before mine h =
    let r = holds_apart t fs before h.0 h.2 in let c = carries_apart (IsRoomAt t) (slot_of (ring t) f.start 0) (8 * length f.words / 4) h.0 mine h.1 in (
      c.0 ++ r.0,
      c.1 ∙ ap (λ (l : List (ℕ × Access)). c.0 ++ l) r.1 ∙ sym (append_assoc c.0 r.0 before),
      length-append c.0 r.0 ∙ (λ j. c.2 j + r.2 j),
      (r.0, carries_more (IsRoomAt t) (slot_of (ring t) f.start 0) (8 * length f.words / 4) [] c.0 r.0 c.3, r.3),
    )

pub holds_both : (t : Site) (fs gs : List FrameWords) (before mid mine : List (ℕ × Access)) → HoldsRooms t fs mid mine → HoldsRooms t gs before mid → HoldsRooms t (fs ++ gs) before mine
holds_both t [] gs before mid mine h k = subst (HoldsRooms t gs before) (sym h) k
holds_both t (f ∷ fs) gs before mid mine h k = (h.0, h.1, holds_both t fs gs before mid h.0 h.2 k)

pub holds_cut : (t : Site) (fs gs : List FrameWords) (before mine : List (ℕ × Access)) → HoldsRooms t (fs ++ gs) before mine → (mid : List (ℕ × Access)) × HoldsRooms t fs mid mine × HoldsRooms t gs before mid
holds_cut t [] gs before mine h = (mine, refl, h)
holds_cut t (f ∷ fs) gs before mine h = let r = holds_cut t fs gs before h.0 h.2 in (r.0, (h.0, h.1, r.1), r.2)

-- those in front go behind
pub holds_turned : (t : Site) (fs gs : List FrameWords) (mine : List (ℕ × Access)) → HoldsRooms t (fs ++ gs) [] mine → HoldsRooms t (gs ++ fs) [] (rotated (slots_in fs) mine)
holds_turned t fs gs mine h =
    let c = holds_cut t fs gs [] mine h in let a = holds_apart t fs c.0 mine c.1 in
    let is : rotated (slots_in fs) mine ≡ c.0 ++ a.0 = ap (λ (n : ℕ). rotated n mine) (sym a.2) ∙ ap (rotated (length a.0)) a.1 ∙ rotated_all a.0 c.0 in
    subst (HoldsRooms t (gs ++ fs) []) (sym is) (holds_both t gs fs [] a.0 (c.0 ++ a.0) (holds_more t gs [] c.0 a.0 c.2) a.3)

-- ---- which frame begins at a position

among_mid : (front : List FrameWords) (f : FrameWords) (others : List FrameWords) → Among f (front ++ f ∷ others)
among_mid [] f others = inl refl
among_mid (g ∷ front) f others = inr (among_mid front f others)

picked_of : (front : List FrameWords) (f : FrameWords) (others : List FrameWords) → AreApart (front ++ f ∷ others) → (front_of f.start (front ++ f ∷ others) ≡ front) × (others_of f.start (front ++ f ∷ others) ≡ others)
picked_of [] f others apart =
    (ap (λ (b : Bool). cond b [] (f ∷ front_of f.start others)) (same f.start), ap (λ (b : Bool). cond b others (others_of f.start others)) (same f.start))
  where
    same : (n : ℕ) → (n == n) ≡ true
    same n = true_from_ne_false (n == n) (λ e. eqb-false n n e refl)
picked_of (g ∷ front) f others apart =
    let r = picked_of front f others apart.1 in let no : (g.start == f.start) ≡ false = ne_eqb g.start f.start (λ e. apart.0 f (among_mid front f others) (sym e)) in
    (ap (λ (b : Bool). cond b [] (g ∷ front_of f.start (front ++ f ∷ others))) no ∙ ap (λ (l : List FrameWords). g ∷ l) r.0, ap (λ (b : Bool). cond b (front ++ f ∷ others) (others_of f.start (front ++ f ∷ others))) no ∙ r.1)

pub picked : (fs front : List FrameWords) (f : FrameWords) (others : List FrameWords) → AreApart fs → fs ≡ front ++ f ∷ others → (front_of f.start fs ≡ front) × (others_of f.start fs ≡ others)
picked fs front f others apart e = subst (λ (l : List FrameWords). (front_of f.start l ≡ front) × (others_of f.start l ≡ others)) (sym e) (picked_of front f others (subst AreApart e apart))
