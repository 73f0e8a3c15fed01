-- Commits and aborts of entries by their starts, and the pieces of a message.
use Rattle.std.proofs.Common.{◌≡◌, ℕ, zero, suc, ◌+◌, ◌-◌, ◌<◌, ◌≤◌, inl, inr, List, [], ◌∷◌, ◌++◌, map, length, take, drop, Bool, true, false, Some, refl, sym, ap, ◌∙◌, subst, arith, append_assoc, length-take, length-drop}
use Rattle.std.specs.Prelude.{slice_get, slice_index_or, slice_set, ⊤}
use Rattle.std.specs.List.{AllByRecursion, sum_by}
use Rattle.std.proofs.lemmas.List.Sums.{sum_by-cons}
use Rattle.theory.specs.Position.{Geometry, IsGeometry, cuts_of}
use Rattle.theory.specs.Placed.{Among, Frame, payload_of}
use Rattle.theory.specs.Entry.{ArePieces, Entry, HaveFrames, IsEntry, entry_end, pieces_of}
use Rattle.theory.specs.Tiling.{Tiles}
use Rattle.theory.proofs.Cuts.{cut_units}
use Rattle.theory.proofs.Holds.{holds_bytes}
use Rattle.model.proofs.LogSteps.{entry_from}
use Rattle.theory.proofs.Lists.{all_at, among_right}
use Rattle.theory.proofs.Pieces.{payload_in}

-- ---- the pieces of a message

payload_sum : (cuts : List ℕ) → payload_in cuts ≡ sum_by (λ cut. cut - 32) cuts
payload_sum [] = refl
payload_sum (cut ∷ cuts) = omega (arith, sum_by-cons (λ x. x - 32) cut cuts, payload_sum cuts)

-- the frames of a message hold its bytes
pub payload_cuts : (g : Geometry) (n : ℕ) → IsGeometry g → payload_in (cuts_of g n) ≡ n
payload_cuts g n legal = payload_sum (cuts_of g n) ∙ holds_bytes g n legal

pieces_fit : (first : Bool) (cuts m : List ℕ) → AllByRecursion (λ cut. 32 ≤ cut) cuts → payload_in cuts ≡ length m → ArePieces first cuts (pieces_of first cuts m)
pieces_fit first [] m large full = tt
pieces_fit first (cut ∷ cuts) m large full =
    let sum : cut - 32 + payload_in cuts ≡ length m = full in
    ((refl, omega (arith, length-take (cut - 32) m, large.0, sum)), pieces_fit false cuts (drop (cut - 32) m) large.1 (omega (arith, length-drop (cut - 32) m, sum)))

pub pieces_are : (g : Geometry) (m : List ℕ) → IsGeometry g → ArePieces true (cuts_of g (length m)) (pieces_of true (cuts_of g (length m)) m)
pieces_are g m legal = pieces_fit true (cuts_of g (length m)) m (cut_units g (length m) (omega (arith, legal.mtu.least))) (payload_cuts g (length m) legal)

pub pieces_length : (first : Bool) (cuts m : List ℕ) → length (pieces_of first cuts m) ≡ length cuts
pieces_length first [] m = refl
pieces_length first (cut ∷ cuts) m = ap suc (pieces_length false cuts (drop (cut - 32) m))

abbrev pub AreBytes : List ℕ → Type 0
AreBytes bytes = AllByRecursion (λ b. b < 256) bytes

bytes_take : (n : ℕ) (m : List ℕ) → AreBytes m → AreBytes (take n m)
bytes_take zero m h = tt
bytes_take (suc n) [] h = tt
bytes_take (suc n) (b ∷ m) h = (h.0, bytes_take n m h.1)

bytes_drop : (n : ℕ) (m : List ℕ) → AreBytes m → AreBytes (drop n m)
bytes_drop zero m h = h
bytes_drop (suc n) [] h = tt
bytes_drop (suc n) (b ∷ m) h = bytes_drop n m h.1

pub pieces_bytes : (first : Bool) (cuts m : List ℕ) → AreBytes m → AllByRecursion (λ f. AreBytes (payload_of f)) (pieces_of first cuts m)
pieces_bytes first [] m h = tt
pieces_bytes first (cut ∷ cuts) m h = (bytes_take (cut - 32) m h, pieces_bytes false cuts (drop (cut - 32) m) (bytes_drop (cut - 32) m h))

pieces_front : (first : Bool) (cuts : List ℕ) (front more : List Frame) → ArePieces first cuts (front ++ more) → ArePieces first cuts front
pieces_front first cuts [] more h = tt
pieces_front first [] (f ∷ front) more h = absurd h
pieces_front first (cut ∷ cuts) (f ∷ front) more h = (h.0, pieces_front false cuts front more h.1)

-- each of these frames may be the next behind those before it
abbrev pub HaveAll : Bool → List ℕ → List Frame → List Frame → Type 0
HaveAll padding cuts done [] = ⊤
HaveAll padding cuts done (f ∷ fs) = (HaveFrames padding cuts (done ++ f ∷ []) × AreBytes (payload_of f)) × HaveAll padding cuts (done ++ f ∷ []) fs

pub have_pieces : (cuts : List ℕ) (done more : List Frame) → ArePieces true cuts (done ++ more) → AllByRecursion (λ f. AreBytes (payload_of f)) more → HaveAll false cuts done more
have_pieces cuts done [] h bytes = tt
have_pieces cuts done (f ∷ fs) h bytes =
    let next : ArePieces true cuts ((done ++ f ∷ []) ++ fs) = subst (ArePieces true cuts) (sym (append_assoc done (f ∷ []) fs)) h in
    ((pieces_front true cuts (done ++ f ∷ []) fs next, bytes.0), have_pieces cuts (done ++ f ∷ []) fs next bytes.1)

-- ---- entries by their starts

pub among_get : {X : Type 0} (xs : List X) (k : ℕ) (x : X) → slice_get xs k ≡ Some x → Among x xs
among_get [] k x h = absurd (cc)
among_get (y ∷ ys) zero x h = let same : y ≡ x = cc in inl (sym same)
among_get (y ∷ ys) (suc k) x h = inr (among_get ys k x h)

pub index_get : {X : Type 0} (xs : List X) (k : ℕ) (x d : X) → slice_get xs k ≡ Some x → slice_index_or xs k d ≡ x
index_get [] k x d h = absurd (cc)
index_get (y ∷ ys) zero x d h = let same : y ≡ x = cc in same
index_get (y ∷ ys) (suc k) x d h = index_get ys k x d h

-- entries with one end are one
pub one_end : (term p tail : ℕ) (es : List Entry) (a b : Entry) → Tiles term p tail es → AllByRecursion IsEntry es → Among a es → Among b es → entry_end a ≡ entry_end b → a ≡ b
one_end term p tail [] a b t k h j s = absurd h
one_end term p tail (e ∷ es) a b t k (inl x) (inl y) s = x ∙ sym y
one_end term p tail (e ∷ es) a b t k (inl x) (inr y) s =
    let same : entry_end a ≡ entry_end e = ap entry_end x in
    absurd (omega (arith, same, s, entry_from term (entry_end e) tail es b t.2 y, (all_at IsEntry b es k.1 y).long))
one_end term p tail (e ∷ es) a b t k (inr x) (inl y) s =
    let same : entry_end b ≡ entry_end e = ap entry_end y in
    absurd (omega (arith, same, s, entry_from term (entry_end e) tail es a t.2 x, (all_at IsEntry a es k.1 x).long))
one_end term p tail (e ∷ es) a b t k (inr x) (inr y) s = one_end term (entry_end e) tail es a b t.2 k.1 x y s

-- it changes only what starts here
abbrev pub IsOnlyAt : ℕ → (Entry → Entry) → Type 0
IsOnlyAt start g = (x : Entry) → (x.start ≡ start → ⊥) → g x ≡ x

above_stay : (g : Entry → Entry) (start term p tail : ℕ) (es : List Entry) → IsOnlyAt start g → start < p → Tiles term p tail es → map g es ≡ es
above_stay g start term p tail [] only low t = refl
above_stay g start term p tail (e ∷ es) only low t =
    ap (λ x. x ∷ map g es) (only e (λ same. absurd (omega (arith, same, low, t.0))))
    ∙ ap (λ xs. e ∷ xs) (above_stay g start term (entry_end e) tail es only (omega (arith, low, t.0)) t.2)

put_map : (g : Entry → Entry) (term p tail : ℕ) (es : List Entry) (k : ℕ) (e : Entry) → IsOnlyAt e.start g → Tiles term p tail es → AllByRecursion IsEntry es → slice_get es k ≡ Some e → slice_set es k (g e) ≡ map g es
put_map g term p tail [] k e only t all h = absurd (cc)
put_map g term p tail (x ∷ xs) zero e only t all h =
    let same : x ≡ e = cc in
    let here : x.start ≡ e.start = ap (λ y. y.start) same in
    ap (λ y. g y ∷ xs) (sym same) ∙ ap (λ ys. g x ∷ ys) (sym (above_stay g e.start term (entry_end x) tail xs only (omega (arith, here, all.0.long)) t.2))
put_map g term p tail (x ∷ xs) (suc k) e only t all h =
    ap (λ y. y ∷ slice_set xs k (g e)) (sym (only x (λ same. absurd (omega (arith, same, all.0.long, entry_from term (entry_end x) tail xs e t.2 (among_get xs k e h))))))
    ∙ ap (λ ys. g x ∷ ys) (put_map g term (entry_end x) tail xs k e only t.2 all.1 h)

-- where others come before
pub put_maps : (g : Entry → Entry) (term p tail : ℕ) (past es : List Entry) (k : ℕ) (e : Entry) → IsOnlyAt e.start g → Tiles term p tail (past ++ es) → AllByRecursion IsEntry (past ++ es) → slice_get es k ≡ Some e → past ++ slice_set es k (g e) ≡ map g (past ++ es)
put_maps g term p tail [] es k e only t all h = put_map g term p tail es k e only t all h
put_maps g term p tail (x ∷ xs) es k e only t all h =
    let there : Among e (xs ++ es) = among_right e xs es (among_get es k e h) in
    ap (λ y. y ∷ (xs ++ slice_set es k (g e))) (sym (only x (λ same. absurd (omega (arith, same, all.0.long, entry_from term (entry_end x) tail (xs ++ es) e t.2 there)))))
    ∙ ap (λ ys. g x ∷ ys) (put_maps g term (entry_end x) tail xs es k e only t.2 all.1 h)
