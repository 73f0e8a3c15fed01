-- The entries of a log, and the ranges that a script's lines tell.
use Rattle.std.proofs.Common.{◌≡◌, ◌⊎◌, ℕ, ◌+◌, inl, inr, ⊎_elim, List, [], ◌∷◌, ◌++◌, map, length, Bool, true, false, cond, not, None, Some, refl, sym, ap, ◌∙◌, subst, arith, append-nil}
use Rattle.std.specs.Prelude.{nat_eq, nat_le, ◌&&◌, replicate}
use Rattle.std.specs.Option.{option_to_list}
use Rattle.std.specs.List.{AllByRecursion, filter, flat_map}
use Rattle.std.proofs.lemmas.Bool.{cases_eq, cond-true, cond-false, eq-eqb, ne_eqb}
use Rattle.theory.specs.Position.{Geometry, IsGeometry, aligned, cuts_of, framed_length, span}
use Rattle.theory.specs.Placed.{Among, Data, Frame, Pad, payload_of}
use Rattle.theory.specs.Entry.{Entry, IsEntry, entry_end, pieces_of}
use Rattle.theory.specs.Messages.{is_between, is_whole, message_of, messages}
use Rattle.theory.specs.Tiling.{Tiles}
use Rattle.model.specs.Log.{aborted_at, with_frame}
use Rattle.theory.proofs.Claims.{covers_framed}
use Rattle.model.proofs.LogSteps.{one_entry}
use Rattle.theory.proofs.Pieces.{payload_in, pieces_join}
use Rattle.one_hand.specs.Entries.{padded, published}
use Rattle.script_meaning.specs.Published.{Range, between, filled_at, offered_at}
use Rattle.script_meaning.proofs.OfferRuns.{frame_put}
use Rattle.model.proofs.Commits.{IsOnlyAt, one_end, payload_cuts, pieces_length}

-- the range that the entry took, with its message once it is committed
pub record SameRange (e : Entry) (r : Range) : Type 0 where
  pub start : r.start ≡ e.start
  pub end : r.end ≡ entry_end e
  pub size : r.size ≡ payload_in e.cuts
  pub message : r.message ≡ cond (not e.padding && is_whole e) (Some (message_of e)) None

-- in order; a padding may have no range
abbrev pub Matches : List Entry → List Range → Type 0
Matches [] rs = rs ≡ []
Matches (e ∷ es) rs = ((e.padding ≡ true) × Matches es rs) ⊎ ((r : Range) × (ss : List Range) × (rs ≡ r ∷ ss) × SameRange e r × Matches es ss)

-- ---- what is published between two positions

bools : (p w a b : Bool) (x : List ℕ) (ys : List (List ℕ)) → cond (not p && w && a && b) (x ∷ ys) ys ≡ cond (a && b) (option_to_list (cond (not p && w) (Some x) None) ++ ys) ys
bools true true true true x ys = refl
bools true true true false x ys = refl
bools true true false true x ys = refl
bools true true false false x ys = refl
bools true false true true x ys = refl
bools true false true false x ys = refl
bools true false false true x ys = refl
bools true false false false x ys = refl
bools false true true true x ys = refl
bools false true true false x ys = refl
bools false true false true x ys = refl
bools false true false false x ys = refl
bools false false true true x ys = refl
bools false false true false x ys = refl
bools false false false true x ys = refl
bools false false false false x ys = refl

of_entry : (b : Bool) (e : Entry) (es : List Entry) → map message_of (cond b (e ∷ es) es) ≡ cond b (message_of e ∷ map message_of es) (map message_of es)
of_entry true e es = refl
of_entry false e es = refl

of_range : (b : Bool) (r : Range) (rs : List Range) → flat_map (λ r. option_to_list r.message) (cond b (r ∷ rs) rs) ≡ cond b (option_to_list r.message ++ flat_map (λ r. option_to_list r.message) rs) (flat_map (λ r. option_to_list r.message) rs)
of_range true r rs = refl
of_range false r rs = refl

in_window : (j q : ℕ) (e : Entry) (r : Range) (ms : List (List ℕ)) → SameRange e r → cond (is_between j q e) (message_of e ∷ ms) ms ≡ cond (nat_le j r.start && nat_le r.end q) (option_to_list r.message ++ ms) ms
in_window j q e r ms h =
    bools e.padding (is_whole e) (nat_le j e.start) (nat_le (entry_end e) q) (message_of e) ms
    ∙ ap (λ x. cond (nat_le j x && nat_le (entry_end e) q) (option_to_list (cond (not e.padding && is_whole e) (Some (message_of e)) None) ++ ms) ms) (sym h.start)
    ∙ ap (λ x. cond (nat_le j r.start && nat_le x q) (option_to_list (cond (not e.padding && is_whole e) (Some (message_of e)) None) ++ ms) ms) (sym h.end)
    ∙ ap (λ x. cond (nat_le j r.start && nat_le r.end q) (option_to_list x ++ ms) ms) (sym h.message)

pub matched : (j q : ℕ) (es : List Entry) (rs : List Range) → Matches es rs → messages j q es ≡ between j q rs
matched j q [] rs h = ap (between j q) (sym h)
matched j q (e ∷ es) rs (inl h) =
    ap (λ p. map message_of (cond (not p && is_whole e && nat_le j e.start && nat_le (entry_end e) q) (e ∷ filter (is_between j q) es) (filter (is_between j q) es))) h.0 ∙ matched j q es rs h.1
matched j q (e ∷ es) rs (inr h) =
    let r = h.0 in
    let ss = h.1 in
    of_entry (is_between j q e) e (filter (is_between j q) es)
    ∙ in_window j q e r (messages j q es) h.3
    ∙ ap (λ ms. cond (nat_le j r.start && nat_le r.end q) (option_to_list r.message ++ ms) ms) (matched j q es ss h.4)
    ∙ sym (of_range (nat_le j r.start && nat_le r.end q) r (filter (λ r. nat_le j r.start && nat_le r.end q) ss))
    ∙ ap (between j q) (sym h.2)

-- ---- one entry more

pub matches_more : (es : List Entry) (rs : List Range) (e : Entry) (r : Range) → SameRange e r → Matches es rs → Matches (es ++ e ∷ []) (rs ++ r ∷ [])
matches_more [] rs e r same h = inr (r, [], ap (λ xs. xs ++ r ∷ []) h, same, refl)
matches_more (x ∷ es) rs e r same (inl h) = inl (h.0, matches_more es rs e r same h.1)
matches_more (x ∷ es) rs e r same (inr h) = inr (h.0, h.1 ++ r ∷ [], ap (λ xs. xs ++ r ∷ []) h.2, h.3, matches_more es h.1 e r same h.4)

pub matches_padding : (es : List Entry) (rs : List Range) (e : Entry) → e.padding ≡ true → Matches es rs → Matches (es ++ e ∷ []) rs
matches_padding [] rs e pad h = inl (pad, h)
matches_padding (x ∷ es) rs e pad (inl h) = inl (h.0, matches_padding es rs e pad h.1)
matches_padding (x ∷ es) rs e pad (inr h) = inr (h.0, h.1, h.2, h.3, matches_padding es h.1 e pad h.4)

-- a message that is committed whole
pub same_offered : (g : Geometry) (tail by : ℕ) (m : List ℕ) (end : ℕ) → IsGeometry g → end ≡ tail + framed_length g (length m) → SameRange (published g tail by m) (offered_at g m end)
same_offered g tail by m end legal e =
    let n = length m in
    let cuts = cuts_of g n in
    let frames = pieces_of true cuts m in
    let covers : span cuts ≡ framed_length g n = covers_framed g n legal in
    let payload : payload_in cuts ≡ n = payload_cuts g n legal in
    record {
      start = omega (arith, e);
      end = omega (arith, e, covers);
      size = sym payload;
      message = ap Some (sym (pieces_join true cuts m (omega (arith, payload)))) ∙ sym (cond-true (nat_eq (length frames) (length cuts)) (Some (flat_map payload_of frames)) None (eq-eqb (length frames) (length cuts) (pieces_length true cuts m)));
    }

abbrev pub one_cut : ℕ → ℕ → ℕ → List Frame → Entry
one_cut start by size frames = record { start = start; owner = by; padding = false; cuts = (size + 32) ∷ []; frames = frames }

abbrev pub claimed_at : ℕ → ℕ → ℕ → Range
claimed_at start end size = record { start = start; end = end; size = size; message = None }

one_payload : (size : ℕ) → size ≡ payload_in ((size + 32) ∷ [])
one_payload size = omega arith

-- a claim of which nothing is committed
pub same_claimed : (tail by size end : ℕ) → end ≡ tail + aligned (size + 32) → SameRange (one_cut tail by size []) (claimed_at tail end size)
same_claimed tail by size end e = record { start = refl; end = omega (arith, e); size = one_payload size; message = refl }

-- ---- a commit or an abort

pub matches_map : (g : Entry → Entry) (f : Range → Range) (es : List Entry) (rs : List Range) → ((e : Entry) → e.padding ≡ true → (g e).padding ≡ true) → ((e : Entry) (r : Range) → Among e es → SameRange e r → SameRange (g e) (f r)) → Matches es rs → Matches (map g es) (map f rs)
matches_map g f [] rs pads same h = ap (map f) h
matches_map g f (e ∷ es) rs pads same (inl h) = inl (pads e h.0, matches_map g f es rs pads (λ x r a. same x r (inr a)) h.1)
matches_map g f (e ∷ es) rs pads same (inr h) = inr (f h.0, map f h.1, ap (map f) h.2, same e h.0 (inl refl) h.3, matches_map g f es h.1 pads (λ x r a. same x r (inr a)) h.4)

matches_left : (g : Entry → Entry) (es : List Entry) (rs : List Range) → ((e : Entry) → e.padding ≡ true → (g e).padding ≡ true) → ((e : Entry) (r : Range) → Among e es → SameRange e r → SameRange (g e) r) → Matches es rs → Matches (map g es) rs
matches_left g [] rs pads same h = h
matches_left g (e ∷ es) rs pads same (inl h) = inl (pads e h.0, matches_left g es rs pads (λ x r a. same x r (inr a)) h.1)
matches_left g (e ∷ es) rs pads same (inr h) = inr (h.0, h.1, h.2, same e h.0 (inl refl) h.3, matches_left g es h.1 pads (λ x r a. same x r (inr a)) h.4)

-- an entry that starts elsewhere stays
pub frame_only : (start : ℕ) (f : Frame) → IsOnlyAt start (with_frame start f)
frame_only start f e other = ap (λ fs. record e { frames = fs }) (cond-false (nat_eq e.start start) (e.frames ++ f ∷ []) e.frames (ne_eqb e.start start other))

pub abort_only : (start : ℕ) → IsOnlyAt start (aborted_at start)
abort_only start e other =
    let apart = ne_eqb e.start start other in
    ap (λ p. record e { padding = p; frames = cond (nat_eq e.start start) (map Pad e.cuts) e.frames }) (cond-false (nat_eq e.start start) true e.padding apart)
    ∙ ap (λ fs. record e { frames = fs }) (cond-false (nat_eq e.start start) (map Pad e.cuts) e.frames apart)

pub abort_put : (start by size : ℕ) → aborted_at start (one_cut start by size []) ≡ padded start by (size + 32)
abort_put start by size =
    let here = eq-eqb start start refl in
    ap (λ p. record (one_cut start by size []) { padding = p; frames = cond (nat_eq start start) (Pad (size + 32) ∷ []) [] }) (cond-true (nat_eq start start) true false here)
    ∙ ap (λ fs. record (one_cut start by size []) { padding = true; frames = fs }) (cond-true (nat_eq start start) (Pad (size + 32) ∷ []) [] here)

other_range : (end : ℕ) (r : Range) → (r.end ≡ end → ⊥) → filled_at end r ≡ r
other_range end r other = ap (λ m. record r { message = m }) (cond-false (nat_eq r.end end) (Some (replicate r.size 97)) r.message (ne_eqb r.end end other))

filled_range : (end size : ℕ) (r : Range) → r.end ≡ end → r.size ≡ size → filled_at end r ≡ record r { message = Some (replicate size 97) }
filled_range end size r here is = ap (λ m. record r { message = m }) (cond-true (nat_eq r.end end) (Some (replicate r.size 97)) r.message (eq-eqb r.end end here) ∙ ap (λ n. Some (replicate n 97)) is)

same_filled : (start by size : ℕ) (r : Range) → SameRange (one_cut start by size []) r → SameRange (with_frame start (Data 192 (replicate size 97)) (one_cut start by size [])) (filled_at (entry_end (one_cut start by size [])) r)
same_filled start by size r h =
    let is : r.size ≡ size = h.size ∙ sym (one_payload size) in
    subst (λ e. SameRange e (filled_at (entry_end (one_cut start by size [])) r)) (sym (frame_put start by false ((size + 32) ∷ []) [] (Data 192 (replicate size 97))))
    (subst (λ x. SameRange (one_cut start by size (Data 192 (replicate size 97) ∷ [])) x) (sym (filled_range (entry_end (one_cut start by size [])) size r h.end is))
    (record { start = h.start; end = h.end; size = h.size; message = ap Some (sym (append-nil (replicate size 97))) }))

pub matches_commit : (term p tail : ℕ) (es : List Entry) (rs : List Range) (start by size : ℕ) → Tiles term p tail es → AllByRecursion IsEntry es → Among (one_cut start by size []) es → Matches es rs → Matches (map (with_frame start (Data 192 (replicate size 97))) es) (map (filled_at (start + aligned (size + 32))) rs)
matches_commit term p tail es rs start by size t all there h =
    let claim = one_cut start by size [] in
    let f = Data 192 (replicate size 97) in
    let end : entry_end claim ≡ start + aligned (size + 32) = omega arith in
    subst (λ z. Matches (map (with_frame start f) es) (map (filled_at z) rs)) end
    (matches_map (with_frame start f) (filled_at (entry_end claim)) es rs (λ e pad. pad) (λ e r a same.
    ⊎_elim
    (λ (here : e.start ≡ start).
    let is : e ≡ claim = one_entry term p tail es e claim t all a there here in
    subst (λ x. SameRange (with_frame start f x) (filled_at (entry_end claim) r)) (sym is) (same_filled start by size r (subst (λ x. SameRange x r) is same)))
    (λ (other : e.start ≡ start → ⊥).
    subst (λ x. SameRange x (filled_at (entry_end claim) r)) (sym (frame_only start f e other))
    (subst (λ x. SameRange e x) (sym (other_range (entry_end claim) r (λ z. other (ap (λ (x : Entry). x.start) (one_end term p tail es e claim t all a there (sym same.end ∙ z)))))) same))
    (cases_eq e.start start)) h)

aborted_pads : (start : ℕ) (e : Entry) → e.padding ≡ true → (aborted_at start e).padding ≡ true
aborted_pads start e pad = both (nat_eq e.start start)
  where
    both : (b : Bool) → cond b true e.padding ≡ true
    both true = refl
    both false = pad

same_aborted : (start by size : ℕ) (r : Range) → SameRange (one_cut start by size []) r → SameRange (aborted_at start (one_cut start by size [])) r
same_aborted start by size r h = subst (λ e. SameRange e r) (sym (abort_put start by size)) (record { start = h.start; end = h.end; size = h.size; message = h.message })

pub matches_abort : (term p tail : ℕ) (es : List Entry) (rs : List Range) (start by size : ℕ) → Tiles term p tail es → AllByRecursion IsEntry es → Among (one_cut start by size []) es → Matches es rs → Matches (map (aborted_at start) es) rs
matches_abort term p tail es rs start by size t all there h =
    let claim = one_cut start by size [] in
    matches_left (aborted_at start) es rs (aborted_pads start) (λ e r a same.
    ⊎_elim
    (λ (here : e.start ≡ start).
    let is : e ≡ claim = one_entry term p tail es e claim t all a there here in
    subst (λ x. SameRange (aborted_at start x) r) (sym is) (same_aborted start by size r (subst (λ x. SameRange x r) is same)))
    (λ (other : e.start ≡ start → ⊥). subst (λ x. SameRange x r) (sym (abort_only start e other)) same)
    (cases_eq e.start start)) h
