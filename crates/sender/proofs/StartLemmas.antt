-- Where frames start that can be asked for again, when one more is sent or others are added.
use Rattle.std.proofs.Common.{◌≡◌, ℕ, ◌+◌, ◌*◌, ◌/◌, ◌≤◌, ⊎_elim, inl, inr, Bool, true, false, List, [], ◌∷◌, ◌++◌, refl, sym, ◌∙◌, subst, arith}
use Rattle.std.specs.List.{filter}
use Rattle.std.proofs.lemmas.Bool.{cases_Bool, both_ways, cond-true, cond-false, le-leb, leb-true}
use Rattle.theory.specs.Position.{Geometry}
use Rattle.theory.specs.Placed.{Among, Placed, end_of}
use Rattle.theory.proofs.Lists.{among_cases, among_left, among_right}
use Rattle.sender.specs.Resending.Handler.{Handler, after_note, is_near}
use Rattle.sender.specs.Sending.{AreThere}

among_kept : (test : ℕ → Bool) (p : ℕ) (xs : List ℕ) → Among p xs → test p ≡ true → Among p (filter test xs)
among_kept test p [] h t = absurd h
among_kept test p (x ∷ xs) h t =
    ⊎_elim
    (λ (y : test x ≡ true). subst (Among p) (sym (cond-true (test x) (x ∷ filter test xs) (filter test xs) y)) (⊎_elim (λ (e : p ≡ x). inl e) (λ (k : Among p xs). inr (among_kept test p xs k t)) h))
    (λ (n : test x ≡ false). subst (Among p) (sym (cond-false (test x) (x ∷ filter test xs) (filter test xs) n)) (⊎_elim (λ (e : p ≡ x). absurd (both_ways (test x) n (subst (λ (q : ℕ). test q ≡ true) e t))) (λ (k : Among p xs). among_kept test p xs k t) h))
    (cases_Bool (test x))

kept_among : (test : ℕ → Bool) (p : ℕ) (xs : List ℕ) → Among p (filter test xs) → Among p xs × (test p ≡ true)
kept_among test p [] h = absurd h
kept_among test p (x ∷ xs) h =
    ⊎_elim
    (λ (y : test x ≡ true).
    ⊎_elim
    (λ (e : p ≡ x). (inl e, subst (λ (q : ℕ). test q ≡ true) (sym e) y))
    (λ (k : Among p (filter test xs)). let r = kept_among test p xs k in (inr r.0, r.1))
    (subst (Among p) (cond-true (test x) (x ∷ filter test xs) (filter test xs) y) h))
    (λ (n : test x ≡ false). let r = kept_among test p xs (subst (Among p) (cond-false (test x) (x ∷ filter test xs) (filter test xs) n) h) in (inr r.0, r.1))
    (cases_Bool (test x))

near_from : (g : Geometry) (end p : ℕ) → end ≤ p + 3 * g.term_length / 4 → is_near g end p ≡ true
near_from g end p h = le-leb end (p + 3 * g.term_length / 4) h

near_is : (g : Geometry) (end p : ℕ) → is_near g end p ≡ true → end ≤ p + 3 * g.term_length / 4
near_is g end p t = leb-true end (p + 3 * g.term_length / 4) t

-- nothing is asked for of a sender that has sent nothing
pub none_there : (frames : List Placed) (h : Handler) → h.starts ≡ [] → AreThere frames h
none_there frames h e p among = absurd (subst (Among p) e among)

pub there_in_more : (old new : List Placed) (h : Handler) → ((f : Placed) → Among f old → Among f new) → AreThere old h → AreThere new h
there_in_more old new h keeps there p among = let r = there p among in record { frame = r.frame; among = keeps r.frame r.among; here = r.here; below = r.below; near = r.near; on = r.on }

pub there_after_note : (frames : List Placed) (h : Handler) (s : Placed) → AreThere frames h → Among s frames → s.at ≡ h.at → AreThere frames (after_note h s.at (end_of s))
there_after_note frames h s there among here p kept =
    let near = is_near h.geometry (end_of s) in
    let both = kept_among near p (h.starts ++ s.at ∷ []) kept in
    let close = near_is h.geometry (end_of s) p both.1 in
    ⊎_elim
    (λ (old : Among p h.starts).
    let r = there p old in
    let later : p ≤ end_of r.frame = omega (arith, r.here) in
    let stays : is_near h.geometry (end_of s) (end_of r.frame) ≡ true = near_from h.geometry (end_of s) (end_of r.frame) (omega (arith, close, later)) in
    record {
      frame = r.frame;
      among = r.among;
      here = r.here;
      below = omega (arith, r.below, here);
      near = close;
      on = inr (among_kept near (end_of r.frame) (h.starts ++ s.at ∷ []) (⊎_elim (λ (e : end_of r.frame ≡ h.at). among_right (end_of r.frame) h.starts (s.at ∷ []) (inl (e ∙ sym here))) (λ (a : Among (end_of r.frame) h.starts). among_left (end_of r.frame) h.starts (s.at ∷ []) a) r.on) stays);
    })
    (λ (new : Among p (s.at ∷ [])).
    let e : p ≡ s.at = ⊎_elim (λ (f : p ≡ s.at). f) (λ (k : ⊥). absurd k) new in
    record { frame = s; among = among; here = sym e; below = omega arith; near = close; on = inl refl })
    (among_cases p h.starts (s.at ∷ []) both.0)
