-- A hand's calls keep what holds of its stream.
use Rattle.std.proofs.Common.{◌≡◌, ◌∙◌, ℕ, zero, suc, ◌+◌, ◌-◌, ◌*◌, ◌/◌, ◌<◌, ◌≤◌, ◌⊎◌, inl, inr, ⊎_elim, List, [], ◌∷◌, ◌++◌, map, length, length-set, length-take, length-drop, drop, Bool, true, false, Some, None, refl, sym, ap, subst, arith}
use Rattle.std.specs.Prelude.{Option, nat_eq, slice_get, slice_index, slice_set}
use Rattle.std.specs.List.{AllByRecursion, sum_by}
use Rattle.std.proofs.lemmas.Bool.{cases_Bool, eq-eqb, eqb-true, false≢true}
use Rattle.std.proofs.lemmas.List.Sums.{sum_by-cons}
use Rattle.std.proofs.lemmas.Nat.{div-mul-add}
use Rattle.theory.specs.Position.{Geometry, IsGeometry, aligned, cuts_of, max_payload, span}
use Rattle.theory.specs.Placed.{Among}
use Rattle.theory.specs.Entry.{ArePieces, Entry, IsEntry, entry_end, length_of, pieces_of}
use Rattle.theory.specs.Tiling.{InOneTerm, Tiles}
use Rattle.theory.proofs.Claims.{covers_framed}
use Rattle.theory.proofs.Cuts.{cut_units, long_cuts}
use Rattle.theory.proofs.Holds.{holds_bytes}
use Rattle.theory.proofs.Lists.{all_append, all_map, all_weaker, among_left, among_right}
use Rattle.theory.proofs.Pieces.{payload_in}
use Rattle.theory.proofs.Tables.{sum_set}
use Rattle.theory.proofs.Tiling.{Tiles-map, Tiles-push}
use Rattle.one_hand.specs.Entries.{claim_of, padded, published}
use Rattle.one_hand.specs.Legal.{IsOpenClaim, IsStream}
use Rattle.one_hand.specs.Stream.{OpenClaim, Stream, covered, room, term_of, with_claim, with_entry, with_message, with_padding, without_claim}

-- ---- entries

pub payload_sum : (cuts : List ℕ) → payload_in cuts ≡ sum_by (λ cut. cut - 32) cuts
payload_sum [] = refl
payload_sum (cut ∷ cuts) = omega (arith, sum_by-cons (λ x. x - 32) cut cuts, payload_sum cuts)

pieces_fit : (first : Bool) (cuts m : List ℕ) → AllByRecursion (λ cut. 32 ≤ cut) cuts → payload_in cuts ≡ length m → ArePieces first cuts (pieces_of first cuts m)
pieces_fit first [] m large full = tt
pieces_fit first (cut ∷ cuts) m large full =
    let sum : cut - 32 + payload_in cuts ≡ length m = full in
    ((refl, omega (arith, length-take (cut - 32) m, large.0, sum)), pieces_fit false cuts (drop (cut - 32) m) large.1 (omega (arith, length-drop (cut - 32) m, sum)))

positive : (g : Geometry) (n : ℕ) → IsGeometry g → AllByRecursion (λ cut. 0 < cut) (cuts_of g n)
positive g n is = all_weaker (λ cut. 32 ≤ cut) (λ cut. 0 < cut) (λ cut h. omega (arith, h)) (cuts_of g n) (cut_units g n (let b = is.mtu.least in omega (arith, b)))

long : (g : Geometry) (n : ℕ) → IsGeometry g → 0 < span (cuts_of g n)
long g n is = long_cuts g n (let b = is.mtu.least in omega (arith, b))

pub published_is : (g : Geometry) (start by : ℕ) (message : List ℕ) → IsGeometry g → by < 8 → IsEntry (published g start by message)
published_is g start by message is low = record {
  owner = low;
  cuts = positive g (length message) is;
  long = long g (length message) is;
  frames = pieces_fit true (cuts_of g (length message)) message (cut_units g (length message) (let b = is.mtu.least in omega (arith, b))) (payload_sum (cuts_of g (length message)) ∙ holds_bytes g (length message) is);
}

pub claim_is : (g : Geometry) (start by size : ℕ) → IsGeometry g → by < 8 → IsEntry (claim_of g start by false size)
claim_is g start by size is low = record { owner = low; cuts = positive g size is; long = long g size is; frames = tt }

pub padded_is : (start by n : ℕ) → by < 8 → 0 < n → IsEntry (padded start by n)
padded_is start by n low some = record { owner = low; cuts = (some, tt); long = (let q : 0 < (n + 31) / 32 * 32 + 0 = omega (arith, some) in q); frames = refl }

-- ---- an entry more

pub open_there : (l m : Stream) (by : ℕ) (c : OpenClaim) → m.identity ≡ l.identity → ((e : Entry) → Among e l.entries → Among e m.entries) → IsOpenClaim l by c → IsOpenClaim m by c
open_there l m by c same more h = record {
  entry = subst (λ i. Among (claim_of i.geometry c.start by false c.size) m.entries) (sym same) (more (claim_of l.identity.geometry c.start by false c.size) h.entry);
  short = subst (λ i. c.size ≤ max_payload i.geometry) (sym same) h.short;
}

unfoldable pub entry_keeps : (l : Stream) (e : Entry) (bytes : ℕ) → IsStream l → IsEntry e → e.start ≡ l.tail → length_of e ≡ bytes → l.tail < (l.active + 1) * term_of l → l.tail + bytes ≤ (l.active + 1) * term_of l → IsStream (with_entry l e bytes)
entry_keeps l e bytes is legal at size some fits =
    let t : ℕ = term_of l in let x : ℕ = l.active * t in let from = is.from in
    let next : (l.active + 1) * t ≡ x + t = omega arith in
    let offset : ℕ = l.tail - x in
    let here : l.tail ≡ x + offset = omega arith in
    let whole : l.tail / t ≡ l.active = ap (λ (z : ℕ). z / t) here ∙ div-mul-add l.active t offset (omega (arith, some, next, from)) in
    let end : entry_end e ≡ l.tail + bytes = omega (arith, at, size) in
    let one : InOneTerm t l.tail (entry_end e) = subst (λ (z : ℕ). entry_end e ≤ z * t + t) (sym whole) (let q : entry_end e ≤ x + t = omega (arith, end, fits, next) in q) in
    let eight = is.eight in let shares = is.shares in
    record {
      geometry = is.geometry;
      identity = is.identity;
      unit = is.unit;
      below = is.below;
      from = omega (arith, from);
      to = fits;
      last = is.last;
      first = is.first;
      tiles = subst (λ (z : ℕ). Tiles t is.first z (l.entries ++ e ∷ [])) end (Tiles-push t is.first l.tail l.entries e is.tiles at one);
      entries = all_append IsEntry l.entries (e ∷ []) is.entries (legal, tt);
      eight = length-set l.shares e.owner (slice_index l.shares e.owner + bytes) ∙ is.eight;
      shares = (let s = sum_set l.shares e.owner bytes (let o = legal.owner in omega (arith, o, eight)) in omega (arith, s, shares));
      numbers = is.numbers;
      claims = λ by c h. open_there l (with_entry l e bytes) by c refl (λ d a. among_left d l.entries (e ∷ []) a) (is.claims by c h);
      word = is.word;
      consumer_units = is.consumer_units;
      readable = is.readable;
    }

unfoldable pub message_keeps : (l : Stream) (by : ℕ) (message : List ℕ) → IsStream l → by < 8 → l.tail < (l.active + 1) * term_of l → l.tail + covered l (length message) ≤ (l.active + 1) * term_of l → IsStream (with_message l by message)
message_keeps l by message is low some fits = entry_keeps l (published l.identity.geometry l.tail by message) (covered l (length message)) is (published_is l.identity.geometry l.tail by message is.geometry low) refl (covers_framed l.identity.geometry (length message) is.geometry) some fits

pub set_get : {X : Type 0} (xs : List X) (i k : ℕ) (x y : X) → slice_get (slice_set xs i x) k ≡ Some y → ((k ≡ i) × (x ≡ y)) ⊎ (slice_get xs k ≡ Some y)
set_get [] i k x y h = inr h
set_get (z ∷ zs) zero zero x y h = let same : x ≡ y = cc in inl (refl, same)
set_get (z ∷ zs) zero (suc k) x y h = inr h
set_get (z ∷ zs) (suc i) zero x y h = inr h
set_get (z ∷ zs) (suc i) (suc k) x y h = ⊎_elim (λ q. inl (ap suc q.0, q.1)) (λ q. inr q) (set_get zs i k x y h)

unfoldable pub claim_keeps : (l : Stream) (by size : ℕ) → IsStream l → by < 8 → size ≤ max_payload l.identity.geometry → l.tail < (l.active + 1) * term_of l → l.tail + covered l size ≤ (l.active + 1) * term_of l → IsStream (with_claim l by size)
claim_keeps l by size is low short some fits =
    let e : Entry = claim_of l.identity.geometry l.tail by false size in
    let m : Stream = with_entry l e (covered l size) in
    let k = entry_keeps l e (covered l size) is (claim_is l.identity.geometry l.tail by size is.geometry low) refl (covers_framed l.identity.geometry size is.geometry) some fits in
    let c : OpenClaim = record { start = l.tail; size = size } in
    record {
      geometry = k.geometry;
      identity = k.identity;
      unit = k.unit;
      below = k.below;
      from = k.from;
      to = k.to;
      last = k.last;
      first = k.first;
      tiles = k.tiles;
      entries = k.entries;
      eight = k.eight;
      shares = k.shares;
      numbers = length-set l.claims by (Some c) ∙ k.numbers;
      claims = λ b d h. ⊎_elim
          (λ (q : (b ≡ by) × (Some c ≡ Some d)). let same : c ≡ d = (let o = q.1 in cc) in
          subst (IsOpenClaim (with_claim l by size) b) same (record { entry = subst (λ n. Among (claim_of l.identity.geometry l.tail n false size) (l.entries ++ e ∷ [])) (sym q.0) (among_right e l.entries (e ∷ []) (inl refl)); short = short }))
          (λ (q : slice_get l.claims b ≡ Some (Some d)). (let o = k.claims b d q in record { entry = o.entry; short = o.short }))
          (set_get l.claims by b (Some c) (Some d) h);
      word = k.word;
      consumer_units = k.consumer_units;
      readable = k.readable;
    }

unfoldable pub padding_keeps : (l : Stream) (by : ℕ) → IsStream l → by < 8 → l.tail < (l.active + 1) * term_of l → aligned (room l) ≡ room l → IsStream (with_padding l by (room l))
padding_keeps l by is low some unit = entry_keeps l (padded l.tail by (room l)) (aligned (room l)) is (padded_is l.tail by (room l) low (omega (arith, some))) refl (let q : aligned (room l) + 0 ≡ aligned (room l) = omega arith in q) some (omega (arith, unit, some))

unfoldable pub turn_keeps : (l : Stream) → IsStream l → l.tail ≡ (l.active + 1) * term_of l → l.active + 1 < 2147483648 → IsStream (record l { active = l.active + 1 })
turn_keeps l is end low = record {
  geometry = is.geometry;
  identity = is.identity;
  unit = is.unit;
  below = is.below;
  from = omega (arith, end);
  to = (let n : (l.active + 1 + 1) * term_of l ≡ (l.active + 1) * term_of l + term_of l = omega arith in omega (arith, end, n));
  last = low;
  first = is.first;
  tiles = is.tiles;
  entries = is.entries;
  eight = is.eight;
  shares = is.shares;
  numbers = is.numbers;
  claims = λ by c h. open_there l (record l { active = l.active + 1 }) by c refl (λ d a. a) (is.claims by c h);
  word = is.word;
  consumer_units = is.consumer_units;
  readable = is.readable;
}

-- ---- an open claim ends

entry_from : (term p tail : ℕ) (es : List Entry) (a : Entry) → Tiles term p tail es → Among a es → p ≤ a.start
entry_from term p tail [] a t h = absurd h
entry_from term p tail (e ∷ es) a t (inl same) = omega (arith, ap (λ (x : Entry). x.start) same, t.0)
entry_from term p tail (e ∷ es) a t (inr h) = omega (arith, entry_from term (entry_end e) tail es a t.2 h, t.0)

pub one_entry : (term p tail : ℕ) (es : List Entry) (a b : Entry) → Tiles term p tail es → AllByRecursion IsEntry es → Among a es → Among b es → a.start ≡ b.start → a ≡ b
one_entry term p tail [] a b t k x y s = absurd x
one_entry term p tail (e ∷ es) a b t k (inl x) (inl y) s = x ∙ sym y
one_entry term p tail (e ∷ es) a b t k (inl x) (inr y) s = absurd (let from = entry_from term (entry_end e) tail es b t.2 y in let at : a.start ≡ e.start = ap (λ (z : Entry). z.start) x in let l = k.0.long in omega (arith, from, at, s, l))
one_entry term p tail (e ∷ es) a b t k (inr x) (inl y) s = absurd (let from = entry_from term (entry_end e) tail es a t.2 x in let at : b.start ≡ e.start = ap (λ (z : Entry). z.start) y in let l = k.0.long in omega (arith, from, at, s, l))
one_entry term p tail (e ∷ es) a b t k (inr x) (inr y) s = one_entry term (entry_end e) tail es a b t.2 k.1 x y s

pub none_get : (cs : List (Option OpenClaim)) (i k : ℕ) (c : OpenClaim) → slice_get (slice_set cs i None) k ≡ Some (Some c) → slice_get cs k ≡ Some (Some c) × ((k ≡ i) → ⊥)
none_get [] i k c h = absurd (cc)
none_get (z ∷ zs) zero zero c h = absurd (cc)
none_get (z ∷ zs) zero (suc k) c h = (h, λ e. omega (arith, e))
none_get (z ∷ zs) (suc i) zero c h = (h, λ e. omega (arith, e))
none_get (z ∷ zs) (suc i) (suc k) c h = let q = none_get zs i k c h in (q.0, λ e. q.1 (let o : k ≡ i = omega (arith, e) in o))

pub map_among : (g : Entry → Entry) (es : List Entry) (e : Entry) → Among e es → Among (g e) (map g es)
map_among g [] e h = h
map_among g (d ∷ es) e (inl same) = inl (ap g same)
map_among g (d ∷ es) e (inr h) = inr (map_among g es e h)

-- a change of the claim's entry alone
unfoldable pub ends_keeps : (l : Stream) (by : ℕ) (c : OpenClaim) (g : Entry → Entry) → IsStream l → IsOpenClaim l by c → ((e : Entry) → entry_end (g e) ≡ entry_end e) → ((e : Entry) → (g e).start ≡ e.start)
    → ((e : Entry) → (e.start ≡ c.start → ⊥) → g e ≡ e) → IsEntry (g (claim_of l.identity.geometry c.start by false c.size)) → IsStream (without_claim l by (map g l.entries))
ends_keeps l by c g is open' ends starts only legal =
    let e : Entry = claim_of l.identity.geometry c.start by false c.size in
    let unique : (x : Entry) → Among x l.entries → x.start ≡ c.start → x ≡ e = λ x a at. one_entry (term_of l) is.first l.tail l.entries x e is.tiles is.entries a open'.entry at in
    record {
      geometry = is.geometry;
      identity = is.identity;
      unit = is.unit;
      below = is.below;
      from = is.from;
      to = is.to;
      last = is.last;
      first = is.first;
      tiles = Tiles-map g ends starts (term_of l) is.first l.tail l.entries is.tiles;
      entries = all_map IsEntry g l.entries
          (λ x a h. ⊎_elim
          (λ (same : nat_eq x.start c.start ≡ true). subst (λ (y : Entry). IsEntry (g y)) (sym (unique x a (eqb-true x.start c.start same))) legal)
          (λ (other : nat_eq x.start c.start ≡ false). subst IsEntry (sym (only x (λ at. apart x.start c.start other at))) h)
          (cases_Bool (nat_eq x.start c.start)))
          is.entries;
      eight = is.eight;
      shares = is.shares;
      numbers = length-set l.claims by None ∙ is.numbers;
      claims = λ b d h. (let q = none_get l.claims by b d h in let o = is.claims b d q.0 in let f : Entry = claim_of l.identity.geometry d.start b false d.size in record {
        entry = subst (λ (x : Entry). Among x (map g l.entries)) (only f (λ at. q.1 (let same : f ≡ e = unique f o.entry at in ap (λ (x : Entry). x.owner) same))) (map_among g l.entries f o.entry);
        short = o.short;
      });
      word = is.word;
      consumer_units = is.consumer_units;
      readable = is.readable;
    }
  where
    apart : (a b : ℕ) → nat_eq a b ≡ false → a ≡ b → ⊥
    apart a b no' at = false_true (sym no' ∙ eq_true a b at)
      where
        eq_true : (a b : ℕ) → a ≡ b → nat_eq a b ≡ true
        eq_true a b e = eq-eqb a b e

        false_true : false ≡ true → ⊥
        false_true e = false≢true e
