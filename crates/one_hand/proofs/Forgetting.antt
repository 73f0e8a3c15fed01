-- What a stream is without the entries that are forgotten.
use Rattle.std.proofs.Common.{◌≡◌, ◌∙◌, ℕ, ◌+◌, ◌-◌, ◌≤◌, inl, inr, Bool, true, false, cond, List, [], ◌∷◌, ◌++◌, map, length, Some, refl, sym, ap, subst, arith}
use Rattle.std.specs.Prelude.{nat_eq, nat_le, slice_get, slice_index, slice_set}
use Rattle.std.specs.List.{AllByRecursion}
use Rattle.std.proofs.lemmas.Bool.{cond-true, le-leb, leb-true}
use Rattle.std.proofs.lemmas.List.{set-get_or}
use Rattle.std.proofs.lemmas.List.Elements.{filter-append}
use Rattle.theory.specs.Placed.{Among, Data}
use Rattle.theory.specs.Entry.{Entry, IsEntry, entry_end}
use Rattle.theory.specs.Tiling.{Tiles}
use Rattle.one_hand.specs.Entries.{claim_of, with_share}
use Rattle.one_hand.specs.Legal.{IsStream}
use Rattle.one_hand.specs.Stream.{Aborts, Commits, Fits, IsClosed, IsLimited, IsUsedUp, OfferCase, OpenClaim, Stream, Trips, after, after_claim, after_offer, case_of, kept_from, aborted_at, covered, room, term_of, turned, with_abort, with_commit, with_frame, with_claim, with_entry, with_message, with_padding}
use Rattle.one_hand.specs.Shown.{kept}

-- ---- entries

kept_more : (z : ℕ) (es : List Entry) (e : Entry) → z ≤ e.start → kept_from z (es ++ e ∷ []) ≡ kept_from z es ++ e ∷ []
kept_more z es e le = filter-append (λ (x : Entry). nat_le z x.start) es (e ∷ []) ∙ ap (λ (xs : List Entry). kept_from z es ++ xs) (cond-true (nat_le z e.start) (e ∷ []) [] (le-leb z e.start le))

one_by : (g : Entry → Entry) (b : Bool) (e : Entry) (xs ys : List Entry) → xs ≡ map g ys → cond b (g e ∷ xs) xs ≡ map g (cond b (e ∷ ys) ys)
one_by g true e xs ys h = ap (λ zs. g e ∷ zs) h
one_by g false e xs ys h = h

pub kept_map : (z : ℕ) (g : Entry → Entry) → ((e : Entry) → (g e).start ≡ e.start) → (es : List Entry) → kept_from z (map g es) ≡ map g (kept_from z es)
kept_map z g starts [] = refl
kept_map z g starts (e ∷ es) = ap (λ (n : ℕ). cond (nat_le z n) (g e ∷ kept_from z (map g es)) (kept_from z (map g es))) (starts e) ∙ one_by g (nat_le z e.start) e (kept_from z (map g es)) (kept_from z es) (kept_map z g starts es)

tiled_up : (term p tail : ℕ) (es : List Entry) → Tiles term p tail es → AllByRecursion IsEntry es → (z : ℕ) → z ≤ p → kept_from z es ≡ es
tiled_up term p tail [] t k z le = refl
tiled_up term p tail (e ∷ es) t k z le = let at : e.start ≡ p = t.0 in cond-true (nat_le z e.start) (e ∷ kept_from z es) (kept_from z es) (le-leb z e.start (omega (arith, le, at))) ∙ ap (λ xs. e ∷ xs) (tiled_up term (entry_end e) tail es t.2 k.1 z (omega (arith, le, at)))

record Tail (term tail : ℕ) (es : List Entry) : Type 0 where
  first : ℕ
  tiles : Tiles term first tail es

kept_tiles : (term p tail z : ℕ) (es : List Entry) → Tiles term p tail es → AllByRecursion IsEntry es → Tail term tail (kept_from z es)
kept_tiles term p tail z [] t k = record { first = p; tiles = t }
kept_tiles term p tail z (e ∷ es) t k = by (kept_tiles term (entry_end e) tail z es t.2 k.1) (nat_le z e.start) refl
  where
    by : Tail term tail (kept_from z es) → (b : Bool) → nat_le z e.start ≡ b → Tail term tail (cond b (e ∷ kept_from z es) (kept_from z es))
    by h true is = record { first = p; tiles = subst (λ (xs : List Entry). Tiles term p tail (e ∷ xs)) (sym (tiled_up term (entry_end e) tail es t.2 k.1 z (let l : z ≤ e.start = leb-true z e.start is in omega (arith, l)))) t }
    by h false is = h

pub among_kept : (z : ℕ) (es : List Entry) (e : Entry) → Among e es → z ≤ e.start → Among e (kept_from z es)
among_kept z [] e a le = a
among_kept z (d ∷ es) e (inl same) le = subst (λ (b : Bool). Among e (cond b (d ∷ kept_from z es) (kept_from z es))) (sym (le-leb z d.start (subst (λ (x : Entry). z ≤ x.start) same le))) (inl same)
among_kept z (d ∷ es) e (inr a) le = more (nat_le z d.start) (among_kept z es e a le)
  where
    more : (b : Bool) → Among e (kept_from z es) → Among e (cond b (d ∷ kept_from z es) (kept_from z es))
    more true h = inr h
    more false h = h

pub kept_among : (z : ℕ) (es : List Entry) (e : Entry) → Among e (kept_from z es) → Among e es
kept_among z [] e a = a
kept_among z (d ∷ es) e a = by (kept_among z es e) (nat_le z d.start) a
  where
    by : (Among e (kept_from z es) → Among e es) → (b : Bool) → Among e (cond b (d ∷ kept_from z es) (kept_from z es)) → Among e (d ∷ es)
    by more true (inl same) = inl same
    by more true (inr h) = inr (more h)
    by more false h = inr (more h)

pub all_kept : (P : Entry → Type 0) (z : ℕ) (es : List Entry) → AllByRecursion P es → AllByRecursion P (kept_from z es)
all_kept P z [] h = tt
all_kept P z (e ∷ es) h = by (all_kept P z es h.1) (nat_le z e.start)
  where
    by : AllByRecursion P (kept_from z es) → (b : Bool) → AllByRecursion P (cond b (e ∷ kept_from z es) (kept_from z es))
    by rest true = (h.0, rest)
    by rest false = rest

-- ---- streams

pub kept_is : (l : Stream) → IsStream l → ((by : ℕ) (c : OpenClaim) → slice_get l.claims by ≡ Some (Some c) → l.cleaned ≤ c.start) → IsStream (kept l)
kept_is l is above = let t = kept_tiles (term_of l) is.first l.tail l.cleaned l.entries is.tiles is.entries in record {
  geometry = is.geometry;
  identity = is.identity;
  unit = is.unit;
  below = is.below;
  from = is.from;
  to = is.to;
  last = is.last;
  first = t.first;
  tiles = t.tiles;
  entries = all_kept IsEntry l.cleaned l.entries is.entries;
  eight = is.eight;
  shares = is.shares;
  numbers = is.numbers;
  claims = λ by c h. (let o = is.claims by c h in record { entry = among_kept l.cleaned l.entries _ o.entry (above by c h); short = o.short });
  word = is.word;
  consumer_units = is.consumer_units;
  readable = is.readable;
}

kept_entry : (l : Stream) (e : Entry) (bytes : ℕ) → l.cleaned ≤ e.start → kept (with_entry l e bytes) ≡ with_entry (kept l) e bytes
kept_entry l e bytes le = λ j. record (with_entry (kept l) e bytes) { entries = kept_more l.cleaned l.entries e le j }

turn_by : (l : Stream) (b : Bool) → kept (cond b l (record l { active = l.active + 1 })) ≡ cond b (kept l) (record (kept l) { active = l.active + 1 })
turn_by l true = refl
turn_by l false = refl

kept_after : (l : Stream) (by : ℕ) (x : OfferCase) (f f' : Stream) → l.cleaned ≤ l.tail → kept f ≡ f' → kept (after l by x f) ≡ after (kept l) by x f'
kept_after l by IsClosed f f' le e = refl
kept_after l by IsUsedUp f f' le e = turn_by l (nat_eq l.active 2147483647)
kept_after l by IsLimited f f' le e = refl
kept_after l by Fits f f' le e = e
kept_after l by Trips f f' le e = let m : Stream = with_padding l by (room l) in turn_by m (nat_eq m.active 2147483647) ∙ ap turned (kept_entry l _ _ le)

pub kept_offer : (l : Stream) (by : ℕ) (message : List ℕ) → l.cleaned ≤ l.tail → kept (after_offer l by message) ≡ after_offer (kept l) by message
kept_offer l by message le = kept_after l by (case_of l (length message)) (with_message l by message) (with_message (kept l) by message) le (kept_entry l _ _ le)

pub kept_claim : (l : Stream) (by size : ℕ) → l.cleaned ≤ l.tail → kept (after_claim l by size) ≡ after_claim (kept l) by size
kept_claim l by size le = kept_after l by (case_of l size) (with_claim l by size) (with_claim (kept l) by size) le (λ j. record (kept_entry l (claim_of l.identity.geometry l.tail by false size) (covered l size) le j) { claims = (with_claim l by size).claims })

pub kept_commits : (l : Stream) (by : ℕ) (payload : List ℕ) (end : ℕ) (m : Stream) → Commits l by payload end m → Commits (kept l) by payload end (kept m)
kept_commits l by payload end m r = record { claim = r.claim; open_claim = r.open_claim; ends = r.ends; after = ap kept r.after ∙ (λ j. record (kept (with_commit l by r.claim payload)) { entries = kept_map l.cleaned (with_frame r.claim.start (Data 192 payload)) (λ e. refl) l.entries j }) }

pub kept_aborts : (l : Stream) (by end : ℕ) (m : Stream) → Aborts l by end m → Aborts (kept l) by end (kept m)
kept_aborts l by end m r = record { claim = r.claim; open_claim = r.open_claim; ends = r.ends; after = ap kept r.after ∙ (λ j. record (kept (with_abort l by r.claim)) { entries = kept_map l.cleaned (aborted_at r.claim.start) (λ e. refl) l.entries j }) }

-- ---- shares

same_share : (xs : List ℕ) (by n : ℕ) → xs ≡ with_share xs by (n - n)
same_share xs by n = sym (ap (λ (k : ℕ). slice_set xs by k) (none (slice_index xs by) n) ∙ set-get_or xs by 0)
  where
    none : (a n : ℕ) → a + (n - n) ≡ a
    none a n = omega arith

more_share : (xs : List ℕ) (by n bytes : ℕ) → with_share xs by bytes ≡ with_share xs by (n + bytes - n)
more_share xs by n bytes = ap (λ (k : ℕ). with_share xs by k) (left n bytes)
  where
    left : (n k : ℕ) → k ≡ n + k - n
    left n k = omega arith

-- the publisher's share grew as the tail did
pub record Grew (l : Stream) (by : ℕ) (m : Stream) : Type 0 where
  pub shares : m.shares ≡ with_share l.shares by (m.tail - l.tail)
  pub tail : l.tail ≤ m.tail

turn_grew : (l : Stream) (by : ℕ) (m : Stream) (b : Bool) → Grew l by m → Grew l by (cond b m (record m { active = m.active + 1 }))
turn_grew l by m true h = h
turn_grew l by m false h = record { shares = h.shares; tail = h.tail }

stays_grew : (l : Stream) (by : ℕ) → Grew l by l
stays_grew l by = record { shares = same_share l.shares by l.tail; tail = omega arith }

after_grew : (l : Stream) (by : ℕ) (x : OfferCase) (f : Stream) → Grew l by f → Grew l by (after l by x f)
after_grew l by IsClosed f h = stays_grew l by
after_grew l by IsUsedUp f h = turn_grew l by l (nat_eq l.active 2147483647) (stays_grew l by)
after_grew l by IsLimited f h = stays_grew l by
after_grew l by Fits f h = h
after_grew l by Trips f h = let m : Stream = with_padding l by (room l) in turn_grew l by m (nat_eq m.active 2147483647) record { shares = more_share l.shares by l.tail _; tail = omega arith }

pub offer_grew : (l : Stream) (by : ℕ) (message : List ℕ) → Grew l by (after_offer l by message)
offer_grew l by message = after_grew l by (case_of l (length message)) (with_message l by message) record { shares = more_share l.shares by l.tail _; tail = omega arith }

pub claim_grew : (l : Stream) (by size : ℕ) → Grew l by (after_claim l by size)
claim_grew l by size = after_grew l by (case_of l size) (with_claim l by size) record { shares = more_share l.shares by l.tail _; tail = omega arith }
