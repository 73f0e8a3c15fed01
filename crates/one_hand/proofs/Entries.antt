-- What claims and frames that come to a pass make of its entries.
use Rattle.std.proofs.Common.{◌≡◌, ℕ, zero, suc, ◌+◌, ◌<◌, ◌≤◌, inl, inr, Bool, true, false, cond, List, [], ◌∷◌, ◌++◌, map, append-nil, add-zero, sym, refl, ap, ◌∙◌, subst, arith}
use Rattle.std.specs.Prelude.{◌&&◌, ◌||◌, nat_eq, nat_le}
use Rattle.std.specs.List.{AllByRecursion, filter, list_any}
use Rattle.std.proofs.lemmas.Bool.{cond-false, cond-true, eq-eqb, eqb-true, le-leb, lt-leb, ne_eqb}
use Rattle.std.proofs.lemmas.List.{map-append}
use Rattle.std.proofs.lemmas.List.Elements.{filter-append}
use Rattle.std.proofs.lemmas.List.Folds.{list_any-append}
use Rattle.theory.specs.Position.{span}
use Rattle.theory.specs.Placed.{Among, Data, Frame, Pad, is_padding}
use Rattle.theory.specs.Entry.{Entry}
use Rattle.one_hand.specs.Entries.{with_share}
use Rattle.theory.proofs.Lists.{all_append}
use Rattle.publication.specs.declared.pass.ClaimRange.{ClaimRange}
use Rattle.publication.specs.declared.pass.FrameWords.{FrameWords}
use Rattle.one_hand.specs.Stream.{aborted_at, with_frame}
use Rattle.publication.specs.Contents.{frame_in}
use Rattle.one_hand.specs.Shown.{Chained, Follow, end_of, entry_in, frames_in, lies_in, share, shares_of, spans}

-- ---- tests on frames

starts_before : (c : ClaimRange) (f : FrameWords) → f.start < c.start → lies_in c f ≡ false
starts_before c f low = ap (λ (b : Bool). b && nat_le (f.start + 1) (end_of c)) (lt-leb c.start f.start low)

starts_behind : (c : ClaimRange) (f : FrameWords) → end_of c ≤ f.start → lies_in c f ≡ false
starts_behind c f high = ap (λ (b : Bool). nat_le c.start f.start && b) (lt-leb (f.start + 1) (end_of c) (omega (arith, high))) ∙ never (nat_le c.start f.start)
  where
    never : (b : Bool) → (b && false) ≡ false
    never true = refl
    never false = refl

starts_inside : (c : ClaimRange) (f : FrameWords) → c.start ≤ f.start → f.start < end_of c → lies_in c f ≡ true
starts_inside c f low high = (λ j. le-leb c.start f.start low j && le-leb (f.start + 1) (end_of c) (omega (arith, high)) j)

keeps_none : {X : Type 0} (test : X → Bool) (xs : List X) → AllByRecursion (λ x. test x ≡ false) xs → filter test xs ≡ []
keeps_none test [] h = refl
keeps_none test (x ∷ xs) h = cond-false (test x) (x ∷ filter test xs) (filter test xs) h.0 ∙ keeps_none test xs h.1

keeps_every : {X : Type 0} (test : X → Bool) (xs : List X) → AllByRecursion (λ x. test x ≡ true) xs → filter test xs ≡ xs
keeps_every test [] h = refl
keeps_every test (x ∷ xs) h = cond-true (test x) (x ∷ filter test xs) (filter test xs) h.0 ∙ ap (λ ys. x ∷ ys) (keeps_every test xs h.1)

each : {X : Type 0} (P Q : X → Type 0) (xs : List X) → ((x : X) → P x → Q x) → AllByRecursion P xs → AllByRecursion Q xs
each P Q [] f h = tt
each P Q (x ∷ xs) f h = (f x h.0, each P Q xs f h.1)

-- ---- claims that follow each other

spans_more : (cs ds : List ClaimRange) → spans (cs ++ ds) ≡ spans cs + spans ds
spans_more [] ds = omega arith
spans_more (c ∷ cs) ds = let h = spans_more cs ds in omega (arith, h)

ends_within : (p : ℕ) (cs : List ClaimRange) → Follow p cs → AllByRecursion (λ c. end_of c ≤ p + spans cs) cs
ends_within p [] h = tt
ends_within p (c ∷ cs) h =
    let first : c.start ≡ p = h.0 in
    (omega (arith, first), each (λ d. end_of d ≤ p + span c.cuts + spans cs) (λ d. end_of d ≤ p + (span c.cuts + spans cs)) cs (λ d e. omega (arith, e)) (ends_within (p + span c.cuts) cs h.2))

begins_from : (p : ℕ) (cs : List ClaimRange) → Follow p cs → AllByRecursion (λ c. p ≤ c.start) cs
begins_from p [] h = tt
begins_from p (c ∷ cs) h = let first : c.start ≡ p = h.0 in (omega (arith, first), each (λ d. p + span c.cuts ≤ d.start) (λ d. p ≤ d.start) cs (λ d e. omega (arith, e)) (begins_from (p + span c.cuts) cs h.2))

pub follow_more : (p : ℕ) (cs : List ClaimRange) (c : ClaimRange) → Follow p cs → c.start ≡ p + spans cs → 0 < span c.cuts → Follow p (cs ++ c ∷ [])
follow_more p [] c h at long = let e : c.start ≡ p + 0 = at in (omega (arith, e), long, tt)
follow_more p (d ∷ cs) c h at long = let e : c.start ≡ p + (span d.cuts + spans cs) = at in (h.0, h.1, follow_more (p + span d.cuts) cs c h.2 (omega (arith, e)) long)

pub sum_more : (cs : List ClaimRange) (c : ClaimRange) → spans (cs ++ c ∷ []) ≡ spans cs + span c.cuts
sum_more cs c = let h = spans_more cs (c ∷ []) in omega (arith, h)

-- ---- a claim more, with its frames

-- frames behind a claim aren't its
past_stay : (frames new : List FrameWords) (c : ClaimRange) (tail : ℕ) → end_of c ≤ tail → AllByRecursion (λ f. tail ≤ f.start) new → entry_in (frames ++ new) c ≡ entry_in frames c
past_stay frames new c tail below from =
    let none : filter (lies_in c) new ≡ [] = keeps_none (lies_in c) new (each (λ f. tail ≤ f.start) (λ f. lies_in c f ≡ false) new (λ f e. starts_behind c f (omega (arith, below, e))) from) in
    let same : frames_in (frames ++ new) c ≡ frames_in frames c = ap (map frame_in) (filter-append (lies_in c) frames new ∙ ap (λ fs. filter (lies_in c) frames ++ fs) none ∙ append-nil (filter (lies_in c) frames)) in
    ap (λ (fs : List Frame). record { start = c.start; owner = c.owner; padding = list_any is_padding fs; cuts = c.cuts; frames = fs }) same

pasts_stay : (frames new : List FrameWords) (cs : List ClaimRange) (tail : ℕ) → AllByRecursion (λ c. end_of c ≤ tail) cs → AllByRecursion (λ f. tail ≤ f.start) new → map (entry_in (frames ++ new)) cs ≡ map (entry_in frames) cs
pasts_stay frames new [] tail below from = refl
pasts_stay frames new (c ∷ cs) tail below from = (λ j. past_stay frames new c tail below.0 from j ∷ pasts_stay frames new cs tail below.1 from j)

-- the entry of a claim of which these are the frames
abbrev pub entry_by : ClaimRange → List Frame → Entry
entry_by c fs = record { start = c.start; owner = c.owner; padding = list_any is_padding fs; cuts = c.cuts; frames = fs }

new_there : (frames new : List FrameWords) (c : ClaimRange) → AllByRecursion (λ f. f.start < c.start) frames → AllByRecursion (λ f. (c.start ≤ f.start) × (f.start < end_of c)) new → entry_in (frames ++ new) c ≡ entry_by c (map frame_in new)
new_there frames new c before inside =
    let none : filter (lies_in c) frames ≡ [] = keeps_none (lies_in c) frames (each (λ f. f.start < c.start) (λ f. lies_in c f ≡ false) frames (λ f e. starts_before c f e) before) in
    let all : filter (lies_in c) new ≡ new = keeps_every (lies_in c) new (each (λ f. (c.start ≤ f.start) × (f.start < end_of c)) (λ f. lies_in c f ≡ true) new (λ f e. starts_inside c f e.0 e.1) inside) in
    ap (λ (fs : List FrameWords). entry_by c (map frame_in fs)) (filter-append (lies_in c) frames new ∙ (λ j. none j ++ all j))

pub entry_more : (p : ℕ) (frames new : List FrameWords) (cs : List ClaimRange) (c : ClaimRange) → Follow p cs → c.start ≡ p + spans cs → AllByRecursion (λ f. f.start < p + spans cs) frames → AllByRecursion (λ f. (c.start ≤ f.start) × (f.start < end_of c)) new
    → map (entry_in (frames ++ new)) (cs ++ c ∷ []) ≡ map (entry_in frames) cs ++ entry_by c (map frame_in new) ∷ []
entry_more p frames new cs c follow at before inside =
    map-append (entry_in (frames ++ new)) cs (c ∷ [])
    ∙ (λ j. pasts_stay frames new cs (p + spans cs) (ends_within p cs follow) (each (λ f. (c.start ≤ f.start) × (f.start < end_of c)) (λ f. p + spans cs ≤ f.start) new (λ f e. omega (arith, at, e.0)) inside) j
    ++ new_there frames new c (subst (λ (n : ℕ). AllByRecursion (λ f. f.start < n) frames) (sym at) before) inside j ∷ [])

-- ---- a frame more of a claim that is there

-- the claim that begins there, and no other, has a frame that begins there; and its entry is this one
abbrev IsItsOnly : List FrameWords → ℕ → Entry → ClaimRange → Type 0
IsItsOnly frames s e c = ((f : FrameWords) → f.start ≡ s → lies_in c f ≡ nat_eq c.start s) × (c.start ≡ s → entry_in frames c ≡ e)

apart_after : (frames : List FrameWords) (s : ℕ) (e : Entry) (c : ClaimRange) → s < c.start → IsItsOnly frames s e c
apart_after frames s e c low = ((λ f at. starts_before c f (omega (arith, at, low)) ∙ sym (ne_eqb c.start s (λ same. omega (arith, same, low)))), (λ same. absurd (omega (arith, same, low))))

pub from_among : (frames : List FrameWords) (p : ℕ) (cs : List ClaimRange) (e : Entry) → Follow p cs → Among e (map (entry_in frames) cs) → p ≤ e.start
from_among frames p [] e h a = absurd a
from_among frames p (c ∷ cs) e h (inl same) = let first : c.start ≡ p = h.0 in let at : e.start ≡ c.start = ap (λ (x : Entry). x.start) same in omega (arith, first, at)
from_among frames p (c ∷ cs) e h (inr a) = let q = from_among frames (p + span c.cuts) cs e h.2 a in omega (arith, q)

its_only : (frames : List FrameWords) (p : ℕ) (cs : List ClaimRange) (e : Entry) → Follow p cs → Among e (map (entry_in frames) cs) → AllByRecursion (IsItsOnly frames e.start e) cs
its_only frames p [] e h a = tt
its_only frames p (c ∷ cs) e h (inl same) =
    let at : e.start ≡ c.start = ap (λ (x : Entry). x.start) same in let first : c.start ≡ p = h.0 in let long = h.1 in (
      ((λ f q. starts_inside c f (omega (arith, at, q)) (omega (arith, at, q, long)) ∙ sym (eq-eqb c.start e.start (sym at))), (λ _. sym same)),
      each (λ d. p + span c.cuts ≤ d.start) (IsItsOnly frames e.start e) cs (λ d from. apart_after frames e.start e d (omega (arith, at, first, long, from))) (begins_from (p + span c.cuts) cs h.2),
    )
its_only frames p (c ∷ cs) e h (inr a) =
    let first : c.start ≡ p = h.0 in let long = h.1 in let from = from_among frames (p + span c.cuts) cs e h.2 a in (
      ((λ f q. starts_behind c f (omega (arith, first, from, q)) ∙ sym (ne_eqb c.start e.start (λ same. omega (arith, same, first, from, long)))), (λ same. absurd (omega (arith, same, first, from, long)))),
      its_only frames (p + span c.cuts) cs e h.2 a,
    )

kept_last : {X : Type 0} (test : X → Bool) (xs : List X) (x : X) (b : Bool) → test x ≡ b → filter test (xs ++ x ∷ []) ≡ filter test xs ++ cond b (x ∷ []) []
kept_last test xs x b is = filter-append test xs (x ∷ []) ∙ ap (λ (c : Bool). filter test xs ++ cond c (x ∷ []) []) is

-- a data frame
data_by : (b : Bool) (c : ClaimRange) (fs : List FrameWords) (x : FrameWords) (flags : ℕ) (payload : List ℕ) → frame_in x ≡ Data flags payload
    → entry_by c (map frame_in (fs ++ cond b (x ∷ []) [])) ≡ record (entry_by c (map frame_in fs)) { frames = cond b (map frame_in fs ++ Data flags payload ∷ []) (map frame_in fs) }
data_by true c fs x flags payload is =
    let all : map frame_in (fs ++ x ∷ []) ≡ map frame_in fs ++ Data flags payload ∷ [] = map-append frame_in fs (x ∷ []) ∙ ap (λ (f : Frame). map frame_in fs ++ f ∷ []) is in
    ap (entry_by c) all ∙ ap (λ (b : Bool). record { start = c.start; owner = c.owner; padding = b; cuts = c.cuts; frames = map frame_in fs ++ Data flags payload ∷ [] }) (list_any-append is_padding (map frame_in fs) (Data flags payload ∷ []) ∙ or_false (list_any is_padding (map frame_in fs)))
  where
    or_false : (b : Bool) → (b || false) ≡ b
    or_false true = refl
    or_false false = refl
data_by false c fs x flags payload is = ap (λ (gs : List FrameWords). entry_by c (map frame_in gs)) (append-nil fs)

data_one : (frames : List FrameWords) (x : FrameWords) (flags : ℕ) (payload : List ℕ) (e : Entry) (c : ClaimRange) → frame_in x ≡ Data flags payload → x.start ≡ e.start → IsItsOnly frames e.start e c → entry_in (frames ++ x ∷ []) c ≡ with_frame e.start (Data flags payload) (entry_in frames c)
data_one frames x flags payload e c is at only =
    ap (λ (fs : List FrameWords). entry_by c (map frame_in fs)) (kept_last (lies_in c) frames x (nat_eq c.start e.start) (only.0 x at))
    ∙ data_by (nat_eq c.start e.start) c (filter (lies_in c) frames) x flags payload is

data_each : (frames : List FrameWords) (x : FrameWords) (flags : ℕ) (payload : List ℕ) (e : Entry) (cs : List ClaimRange) → frame_in x ≡ Data flags payload → x.start ≡ e.start → AllByRecursion (IsItsOnly frames e.start e) cs → map (entry_in (frames ++ x ∷ [])) cs ≡ map (with_frame e.start (Data flags payload)) (map (entry_in frames) cs)
data_each frames x flags payload e [] is at only = refl
data_each frames x flags payload e (c ∷ cs) is at only = (λ j. data_one frames x flags payload e c is at only.0 j ∷ data_each frames x flags payload e cs is at only.1 j)

pub data_more : (p : ℕ) (frames : List FrameWords) (x : FrameWords) (flags : ℕ) (payload : List ℕ) (e : Entry) (cs : List ClaimRange) → Follow p cs → Among e (map (entry_in frames) cs) → frame_in x ≡ Data flags payload → x.start ≡ e.start
    → map (entry_in (frames ++ x ∷ [])) cs ≡ map (with_frame e.start (Data flags payload)) (map (entry_in frames) cs)
data_more p frames x flags payload e cs follow among is at = data_each frames x flags payload e cs is at (its_only frames p cs e follow among)

-- a padding, of a claim that has no frame
pad_by : (b : Bool) (c : ClaimRange) (fs : List FrameWords) (x : FrameWords) (n : ℕ) → frame_in x ≡ Pad n → (b ≡ true → (map frame_in fs ≡ []) × (c.cuts ≡ n ∷ []))
    → entry_by c (map frame_in (fs ++ cond b (x ∷ []) [])) ≡ record (entry_by c (map frame_in fs)) { padding = cond b true (list_any is_padding (map frame_in fs)); frames = cond b (map Pad c.cuts) (map frame_in fs) }
pad_by true c fs x n is none =
    let h = none refl in
    let all : map frame_in (fs ++ x ∷ []) ≡ Pad n ∷ [] = map-append frame_in fs (x ∷ []) ∙ (λ j. h.0 j ++ is j ∷ []) in
    ap (entry_by c) all ∙ ap (λ (cuts : List ℕ). record { start = c.start; owner = c.owner; padding = true; cuts = c.cuts; frames = map Pad cuts }) (sym h.1)
pad_by false c fs x n is none = ap (λ (gs : List FrameWords). entry_by c (map frame_in gs)) (append-nil fs)

pad_one : (frames : List FrameWords) (x : FrameWords) (n : ℕ) (e : Entry) (c : ClaimRange) → frame_in x ≡ Pad n → x.start ≡ e.start → e.frames ≡ [] → e.cuts ≡ n ∷ [] → IsItsOnly frames e.start e c → entry_in (frames ++ x ∷ []) c ≡ aborted_at e.start (entry_in frames c)
pad_one frames x n e c is at none cuts only =
    ap (λ (fs : List FrameWords). entry_by c (map frame_in fs)) (kept_last (lies_in c) frames x (nat_eq c.start e.start) (only.0 x at))
    ∙ pad_by (nat_eq c.start e.start) c (filter (lies_in c) frames) x n is (λ yes'. let same = only.1 (eqb-true c.start e.start yes') in (ap (λ (y : Entry). y.frames) same ∙ none, ap (λ (y : Entry). y.cuts) same ∙ cuts))

pad_each : (frames : List FrameWords) (x : FrameWords) (n : ℕ) (e : Entry) (cs : List ClaimRange) → frame_in x ≡ Pad n → x.start ≡ e.start → e.frames ≡ [] → e.cuts ≡ n ∷ [] → AllByRecursion (IsItsOnly frames e.start e) cs → map (entry_in (frames ++ x ∷ [])) cs ≡ map (aborted_at e.start) (map (entry_in frames) cs)
pad_each frames x n e [] is at none cuts only = refl
pad_each frames x n e (c ∷ cs) is at none cuts only = (λ j. pad_one frames x n e c is at none cuts only.0 j ∷ pad_each frames x n e cs is at none cuts only.1 j)

-- the frames of each claim are still its first ones
chained_stays : (frames new : List FrameWords) (c : ClaimRange) → filter (lies_in c) new ≡ [] → Chained c.start (filter (lies_in c) frames) → Chained c.start (filter (lies_in c) (frames ++ new))
chained_stays frames new c none h = subst (Chained c.start) (sym (filter-append (lies_in c) frames new ∙ ap (λ fs. filter (lies_in c) frames ++ fs) none ∙ append-nil (filter (lies_in c) frames))) h

pasts_chained : (frames new : List FrameWords) (cs : List ClaimRange) (tail : ℕ) → AllByRecursion (λ c. end_of c ≤ tail) cs → AllByRecursion (λ f. tail ≤ f.start) new → AllByRecursion (λ c. Chained c.start (filter (lies_in c) frames)) cs → AllByRecursion (λ c. Chained c.start (filter (lies_in c) (frames ++ new))) cs
pasts_chained frames new [] tail below from h = tt
pasts_chained frames new (c ∷ cs) tail below from h = (chained_stays frames new c (keeps_none (lies_in c) new (each (λ f. tail ≤ f.start) (λ f. lies_in c f ≡ false) new (λ f e. starts_behind c f (omega (arith, below.0, e))) from)) h.0, pasts_chained frames new cs tail below.1 from h.1)

pub chained_more : (p : ℕ) (frames new : List FrameWords) (cs : List ClaimRange) (c : ClaimRange) → Follow p cs → c.start ≡ p + spans cs → AllByRecursion (λ f. f.start < p + spans cs) frames → AllByRecursion (λ f. (c.start ≤ f.start) × (f.start < end_of c)) new
    → Chained c.start new → AllByRecursion (λ d. Chained d.start (filter (lies_in d) frames)) cs → AllByRecursion (λ d. Chained d.start (filter (lies_in d) (frames ++ new))) (cs ++ c ∷ [])
chained_more p frames new cs c follow at before inside mine h =
    let none : filter (lies_in c) frames ≡ [] = keeps_none (lies_in c) frames (each (λ f. f.start < p + spans cs) (λ f. lies_in c f ≡ false) frames (λ f e. starts_before c f (omega (arith, at, e))) before) in
    let all : filter (lies_in c) new ≡ new = keeps_every (lies_in c) new (each (λ f. (c.start ≤ f.start) × (f.start < end_of c)) (λ f. lies_in c f ≡ true) new (λ f e. starts_inside c f e.0 e.1) inside) in
    all_append (λ (d : ClaimRange). Chained d.start (filter (lies_in d) (frames ++ new))) cs (c ∷ [])
    (pasts_chained frames new cs (p + spans cs) (ends_within p cs follow) (each (λ f. (c.start ≤ f.start) × (f.start < end_of c)) (λ f. p + spans cs ≤ f.start) new (λ f e. omega (arith, at, e.0)) inside) h)
    (subst (Chained c.start) (sym (filter-append (lies_in c) frames new ∙ (λ j. none j ++ all j))) mine, tt)

chained_by : (b : Bool) (c : ClaimRange) (fs : List FrameWords) (x : FrameWords) → (b ≡ true → (map frame_in fs ≡ []) × (x.start ≡ c.start)) → Chained c.start fs → Chained c.start (fs ++ cond b (x ∷ []) [])
chained_by false c fs x first h = subst (Chained c.start) (sym (append-nil fs)) h
chained_by true c [] x first h = ((first refl).1, tt)
chained_by true c (f ∷ fs) x first h = absurd (let e = (first refl).0 in cc)

chained_one : (frames : List FrameWords) (x : FrameWords) (e : Entry) (cs : List ClaimRange) → x.start ≡ e.start → e.frames ≡ [] → AllByRecursion (IsItsOnly frames e.start e) cs → AllByRecursion (λ c. Chained c.start (filter (lies_in c) frames)) cs → AllByRecursion (λ c. Chained c.start (filter (lies_in c) (frames ++ x ∷ []))) cs
chained_one frames x e [] at none only h = tt
chained_one frames x e (c ∷ cs) at none only h = (
  subst (Chained c.start) (sym (kept_last (lies_in c) frames x (nat_eq c.start e.start) (only.0.0 x at)))
      (chained_by (nat_eq c.start e.start) c (filter (lies_in c) frames) x (λ yes'. let same = eqb-true c.start e.start yes' in (ap (λ (y : Entry). y.frames) (only.0.1 same) ∙ none, at ∙ sym same)) h.0),
  chained_one frames x e cs at none only.1 h.1,
)

-- behind the first frame of a claim that had none
pub chained_first : (p : ℕ) (frames : List FrameWords) (x : FrameWords) (e : Entry) (cs : List ClaimRange) → Follow p cs → Among e (map (entry_in frames) cs) → x.start ≡ e.start → e.frames ≡ [] → AllByRecursion (λ c. Chained c.start (filter (lies_in c) frames)) cs → AllByRecursion (λ c. Chained c.start (filter (lies_in c) (frames ++ x ∷ []))) cs
chained_first p frames x e cs follow among at none h = chained_one frames x e cs at none (its_only frames p cs e follow among) h

pub pad_more : (p : ℕ) (frames : List FrameWords) (x : FrameWords) (n : ℕ) (e : Entry) (cs : List ClaimRange) → Follow p cs → Among e (map (entry_in frames) cs) → frame_in x ≡ Pad n → x.start ≡ e.start → e.frames ≡ [] → e.cuts ≡ n ∷ []
    → map (entry_in (frames ++ x ∷ [])) cs ≡ map (aborted_at e.start) (map (entry_in frames) cs)
pad_more p frames x n e cs follow among is at none cuts = pad_each frames x n e cs is at none cuts (its_only frames p cs e follow among)

-- ---- shares

share_more : (cs : List ClaimRange) (c : ClaimRange) (k : ℕ) → share (cs ++ c ∷ []) k ≡ share cs k + cond (nat_eq c.owner k) (span c.cuts) 0
share_more cs c k =
    ap (λ (xs : List ClaimRange). spans xs) (filter-append (λ (d : ClaimRange). nat_eq d.owner k) cs (c ∷ []))
    ∙ spans_more (filter (λ d. nat_eq d.owner k) cs) (filter (λ d. nat_eq d.owner k) (c ∷ []))
    ∙ ap (λ (n : ℕ). share cs k + n) (one (nat_eq c.owner k))
  where
    one : (b : Bool) → spans (cond b (c ∷ []) []) ≡ cond b (span c.cuts) 0
    one true = omega arith
    one false = refl

abbrev eight : (ℕ → ℕ) → List ℕ
eight f = f 0 ∷ f 1 ∷ f 2 ∷ f 3 ∷ f 4 ∷ f 5 ∷ f 6 ∷ f 7 ∷ []

one_grows : (f : ℕ → ℕ) (owner n : ℕ) → owner < 8 → eight (λ k. f k + cond (nat_eq owner k) n 0) ≡ with_share (eight f) owner n
one_grows f zero n low = (λ j. (f 0 + n) ∷ add-zero (f 1) j ∷ add-zero (f 2) j ∷ add-zero (f 3) j ∷ add-zero (f 4) j ∷ add-zero (f 5) j ∷ add-zero (f 6) j ∷ add-zero (f 7) j ∷ [])
one_grows f (suc zero) n low = (λ j. add-zero (f 0) j ∷ (f 1 + n) ∷ add-zero (f 2) j ∷ add-zero (f 3) j ∷ add-zero (f 4) j ∷ add-zero (f 5) j ∷ add-zero (f 6) j ∷ add-zero (f 7) j ∷ [])
one_grows f (suc (suc zero)) n low = (λ j. add-zero (f 0) j ∷ add-zero (f 1) j ∷ (f 2 + n) ∷ add-zero (f 3) j ∷ add-zero (f 4) j ∷ add-zero (f 5) j ∷ add-zero (f 6) j ∷ add-zero (f 7) j ∷ [])
one_grows f (suc (suc (suc zero))) n low = (λ j. add-zero (f 0) j ∷ add-zero (f 1) j ∷ add-zero (f 2) j ∷ (f 3 + n) ∷ add-zero (f 4) j ∷ add-zero (f 5) j ∷ add-zero (f 6) j ∷ add-zero (f 7) j ∷ [])
one_grows f (suc (suc (suc (suc zero)))) n low = (λ j. add-zero (f 0) j ∷ add-zero (f 1) j ∷ add-zero (f 2) j ∷ add-zero (f 3) j ∷ (f 4 + n) ∷ add-zero (f 5) j ∷ add-zero (f 6) j ∷ add-zero (f 7) j ∷ [])
one_grows f (suc (suc (suc (suc (suc zero))))) n low = (λ j. add-zero (f 0) j ∷ add-zero (f 1) j ∷ add-zero (f 2) j ∷ add-zero (f 3) j ∷ add-zero (f 4) j ∷ (f 5 + n) ∷ add-zero (f 6) j ∷ add-zero (f 7) j ∷ [])
one_grows f (suc (suc (suc (suc (suc (suc zero)))))) n low = (λ j. add-zero (f 0) j ∷ add-zero (f 1) j ∷ add-zero (f 2) j ∷ add-zero (f 3) j ∷ add-zero (f 4) j ∷ add-zero (f 5) j ∷ (f 6 + n) ∷ add-zero (f 7) j ∷ [])
one_grows f (suc (suc (suc (suc (suc (suc (suc zero))))))) n low = (λ j. add-zero (f 0) j ∷ add-zero (f 1) j ∷ add-zero (f 2) j ∷ add-zero (f 3) j ∷ add-zero (f 4) j ∷ add-zero (f 5) j ∷ add-zero (f 6) j ∷ (f 7 + n) ∷ [])
one_grows f (suc (suc (suc (suc (suc (suc (suc (suc owner)))))))) n low = absurd (omega (arith, low))

pub shares_more : (cs : List ClaimRange) (c : ClaimRange) → c.owner < 8 → shares_of (cs ++ c ∷ []) ≡ with_share (shares_of cs) c.owner (span c.cuts)
shares_more cs c low = (λ j. share_more cs c 0 j ∷ share_more cs c 1 j ∷ share_more cs c 2 j ∷ share_more cs c 3 j ∷ share_more cs c 4 j ∷ share_more cs c 5 j ∷ share_more cs c 6 j ∷ share_more cs c 7 j ∷ []) ∙ one_grows (share cs) c.owner (span c.cuts) low
