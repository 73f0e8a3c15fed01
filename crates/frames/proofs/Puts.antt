-- What writing into the rest of a buffer leaves.
use Rattle.std.proofs.Common.{◌≡◌, ℕ, ℤ, ◌+◌, ◌-◌, ◌≤◌, List, [], ◌++◌, length, take, drop, refl, sym, ap, ◌∙◌, append_assoc, arith}
use Rattle.std.specs.Int.{w32, w64}
use Rattle.std.proofs.lemmas.Int.{to_z-of_z}
use Rattle.theory.specs.Wire.{le32, le64}
use mir.Val.{to_z, of_z, SFits}
use Rattle.std.proofs.lemmas.List.{take_rest, take_at, drop_at, drop-drop, drop_all, append-nil, length-append, length-drop}
use Rattle.std.proofs.lemmas.List.Edits.{paste_all}
use Rattle.std.proofs.lemmas.Slice.{put_mid-paste}
use borrow.Rule.Slice.PartMut.{put_mid}

-- some bytes written at a place, behind which the rest of the list was given
pub put_rest : (xs ws ys : List ℕ) (a : ℕ) → a + length ws ≤ length xs → ys ≡ ws ++ drop (length ws) (take (length xs - a) (drop a xs)) → put_mid a (length xs - a) xs ys ≡ take a xs ++ (ws ++ drop (a + length ws) xs)
put_rest xs ws ys a room e =
    let rest : drop (length ws) (take (length xs - a) (drop a xs)) ≡ drop (a + length ws) xs = rw take_rest (drop-drop (length ws) a xs) in
    let part : ys ≡ ws ++ drop (a + length ws) xs = e ∙ ap (λ (r : List ℕ). ws ++ r) rest in
    let long : length xs - a ≡ length (ws ++ drop (a + length ws) xs) = omega (arith, length-append ws (drop (a + length ws) xs), length-drop (a + length ws) xs) in
    let end : drop (a + (length xs - a)) xs ≡ [] = drop_all (a + (length xs - a)) xs (omega arith) in
    put_mid-paste a (length xs - a) xs ys (ws ++ drop (a + length ws) xs) (length xs - a) part refl long
    ∙ paste_all xs a (ws ++ drop (a + length ws) xs) (length xs - a) long
    ∙ ap (λ (r : List ℕ). take a xs ++ ((ws ++ drop (a + length ws) xs) ++ r)) end
    ∙ ap (λ (r : List ℕ). take a xs ++ r) (append-nil (ws ++ drop (a + length ws) xs))

-- a signed number of four or eight bytes written into what is known
pub put_signed : (place next : ℕ) (old new known : List ℕ) (x : ℤ) → SFits w32 x → old ≡ known → new ≡ take place old ++ (le32 (to_z w32 (of_z w32 x)) ++ drop next old) → new ≡ take place known ++ (le32 x ++ drop next known)
put_signed place next old new known x fits was e =
    e ∙ ap (λ z. take place old ++ (le32 z ++ drop next old)) (to_z-of_z w32 x fits) ∙ ap (λ (b : List ℕ). take place b ++ (le32 x ++ drop next b)) was

pub put_signed_long : (place next : ℕ) (old new known : List ℕ) (x : ℤ) → SFits w64 x → old ≡ known → new ≡ take place old ++ (le64 (to_z w64 (of_z w64 x)) ++ drop next old) → new ≡ take place known ++ (le64 x ++ drop next known)
put_signed_long place next old new known x fits was e =
    e ∙ ap (λ z. take place old ++ (le64 z ++ drop next old)) (to_z-of_z w64 x fits) ∙ ap (λ (b : List ℕ). take place b ++ (le64 x ++ drop next b)) was

-- bytes written behind those that were written before
pub put_behind : (before ws orig old new : List ℕ) (place : ℕ) → length before ≡ place → old ≡ before ++ drop place orig → new ≡ take place old ++ (ws ++ drop (place + length ws) old) → new ≡ (before ++ ws) ++ drop (place + length ws) orig
put_behind before ws orig old new place size was e =
    let front : take place old ≡ before = ap (take place) was ∙ take_at before (drop place orig) place size in
    let here : drop place old ≡ drop place orig = ap (drop place) was ∙ drop_at before (drop place orig) place size in
    let back : drop (place + length ws) old ≡ drop (place + length ws) orig = sym (drop-drop (length ws) place old) ∙ ap (drop (length ws)) here ∙ drop-drop (length ws) place orig in
    e ∙ ap (λ (f : List ℕ). f ++ (ws ++ drop (place + length ws) old)) front ∙ ap (λ (r : List ℕ). before ++ (ws ++ r)) back ∙ sym (append_assoc before ws (drop (place + length ws) orig))
