-- What a raw tail shows: nothing that was claimed in a term of its partition passes that position, and no two claims overlap.
use Rattle.std.proofs.Common.{◌≡◌, ◌≢◌, ◌⊎◌, inl, inr, ℕ, zero, suc, ◌+◌, ◌-◌, ◌*◌, ◌/◌, ◌%◌, ◌^◌, ◌<◌, ◌≤◌, max, min, Bool, true, List, [], ◌∷◌, ◌++◌, map, set, sym, refl, ap, ◌∙◌, subst, ⊎_elim, lt_of_not-le, mod-lt, mul-le-mul_right, div-add-mod', arith}
use mathlib.Core.Option.{some}
use mathlib.Core.Logic.{dite}
use native.Mathlib.Decide.{ℕ_discrete, dec_le}
use lib.ListN.{get_elem?}
use Rattle.std.specs.Prelude.{slice_index}
use Rattle.std.specs.List.{AllByRecursion}
use Rattle.std.proofs.Math.Nat.{div-mul-le_self}
use Rattle.std.proofs.lemmas.List.{map-set, set-get_or}
use Rattle.std.proofs.lemmas.Nat.{le-div}
use Rattle.atomic_table.specs.Table.{Allows, State, keeps}
use Rattle.atomic_table.proofs.Lists.{at_map}
use Rattle.theory.specs.Bytes.{Identity}
use Rattle.theory.specs.Entry.{Entry, entry_end, length_of}
use Rattle.theory.specs.Placed.{Among}
use Rattle.theory.specs.Position.{span}
use Rattle.theory.specs.Tiling.{InOneTerm, Tiles}
use Rattle.theory.proofs.Lists.{all_at, among_left, among_right}
use Rattle.publication.specs.declared.pass.ClaimRange.{ClaimRange}
use Rattle.publication.specs.declared.pass.Controls.{Controls}
use Rattle.publication.specs.declared.pass.Pass.{Pass}
use Rattle.publication.specs.Controls.{with_tail}
use Rattle.publication.specs.Steps.{geometry_of, shown_position}
use Rattle.log_rule.specs.declared.claims.view.View.{View}
use Rattle.log_rule.specs.Claims.Packs.{limit_place, tail_place}
use Rattle.log_rule.specs.Claims.Sums.{covers, total}
use Rattle.log_rule.specs.Claims.Terms.{claimed_to}
use Rattle.log_rule.specs.Claims.Events.{IsLook, committed_weight}
use Rattle.log_rule.specs.Claims.Rule.{Bounds, IsClaimEntry, Knows, entry_of, first_of, shape_of, size_of, weight}
use Rattle.log_rule.specs.Claims.Memory.{Ruled, tail_of}
use Rattle.log_rule.specs.Claims.Plays.{Mine, pass_in}
use Rattle.log_rule.specs.Claims.Sure.{controls_in}
use Rattle.log_rule.proofs.Claimed.Accounts.{saw_more, sighted}
use Rattle.log_rule.proofs.Claimed.Shown.{count_is, position_is, tail_shows}
use Rattle.log_rule.proofs.Claimed.Sures.{load_leaves, sure_on}
use Rattle.log_rule.proofs.Claimed.Looks.{narrow, tail_low}
use Rattle.log_rule.proofs.Claimed.Memories.{cover_passes, held_by, stayed, tail_is}
use Rattle.log_rule.proofs.Claimed.Tails.{shows}
use Rattle.log_rule.proofs.Claimed.Totals.{total_append, total_at, total_map}
use Rattle.log_rule.specs.declared.rule.Key.{Key}
use Rattle.log_rule.specs.Kept.{Kept}
use Rattle.log_rule.specs.Numbers.{AreNumbered}
use Rattle.log_rule.proofs.Growing.{grows, kept_on, same_sum}
use Rattle.log_rule.proofs.Lifting.{load_spares}
use Rattle.log_rule.proofs.Owning.{numbered_on, single_at}
use Rattle.log_rule.specs.Table.{LogRuled, now_at}
use Rattle.publication.specs.Orders.{claim_end}
use Rattle.log_rule.specs.Meetings.{AreApart, ShowsTail, showing, was_shown}
use Rattle.log_rule.proofs.InTerm.{entry_ends}
use Rattle.log_rule.proofs.Known.{among_total}

-- the end of a term isn't inside a claim
crosses : ℕ → Entry → ℕ
crosses x e = min (covers x e.start (length_of e)) (covers (x - 1) e.start (length_of e))

none_cross : (t k p q : ℕ) (es : List Entry) → Tiles t p q es → 0 < k * t → total (crosses (k * t)) es ≡ 0
unfolding crosses
none_cross t k p q [] tiles pos = refl
none_cross t k p q (e ∷ es) tiles pos =
    let r = none_cross t k (entry_end e) q es tiles.2 pos in let z = entry_ends t k e.start (length_of e) (subst (λ (s : ℕ). InOneTerm t s (entry_end e)) (sym tiles.0) tiles.1) pos in omega arith

module _ (b : Bounds) (ws : List ℕ) (ps : List Pass) (r : Ruled b ws ps) (id : ℕ) (v : Pass) (at : get_elem? ps id ≡ some v) where
  -- ---- where a claim lies

  -- what counts a claim is counted
  counted : (h : Entry → ℕ) (c : ClaimRange) → Among c v.right.claims → h (entry_of c) ≤ total (weight h) ps
  counted h c among =
      let a = among_total (λ (d : ClaimRange). h (entry_of d)) v.right.claims c among in let e = total_map h entry_of v.right.claims in let up = total_at (weight h) ps id v at in
      through (h (entry_of c)) (total (λ (d : ClaimRange). h (entry_of d)) v.right.claims) (weight h v) (total (weight h) ps) a e up
    where
      through : (x y w z : ℕ) → x ≤ y → w ≡ y → w ≤ z → x ≤ z
      through x y w z a e up = omega arith

  long : (c : ClaimRange) → Among c v.right.claims → 0 < span c.cuts
  long c among = (all_at (λ (d : ClaimRange). IsClaimEntry (entry_of d)) c v.right.claims (entries v.right.claims (r.claims.each id v at).entries) among).entry.long
    where
      entries : (cs : List ClaimRange) → AllByRecursion IsClaimEntry (map entry_of cs) → AllByRecursion (λ (d : ClaimRange). IsClaimEntry (entry_of d)) cs
      entries [] a = tt
      entries (d ∷ ds) a = (a.0, entries ds a.1)

  inside : (c : ClaimRange) → Among c v.right.claims → (b.start ≤ c.start) × (claim_end c ≤ tail_of b ps)
  inside c among =
      let n : ℕ = span c.cuts in let some = long c among in
      let first = counted (λ e. covers c.start e.start (length_of e)) c among in let last = counted (λ e. covers (c.start + n - 1) e.start (length_of e)) c among in
      let f = cover_passes b ws ps r.claims c.start in let l = cover_passes b ws ps r.claims (c.start + n - 1) in
      (low c.start n b.start (tail_of b ps - c.start) (total (held_by c.start) ps) some first f, high c.start n b.start (tail_of b ps) (total (held_by (c.start + n - 1)) ps) some last l)
    where
      low : (x n s q t : ℕ) → 0 < n → covers x x n ≤ t → t ≡ min 1 (min (x + 1 - s) q) → s ≤ x
      low x n s q t pos le e = omega arith

      high : (x n s q t : ℕ) → 0 < n → covers (x + n - 1) x n ≤ t → t ≡ min 1 (min (x + n - 1 + 1 - s) (q - (x + n - 1))) → x + n ≤ q
      high x n s q t pos le e = omega arith

  in_term : (c : ClaimRange) → Among c v.right.claims → 0 < size_of b → claim_end c ≤ suc (c.start / size_of b) * size_of b
  unfolding crosses
  in_term c among pos =
      let k : ℕ = suc (c.start / size_of b) in let q : ℕ = c.start / size_of b in
      let up : k * size_of b ≡ q * size_of b + size_of b = (let z : suc q * size_of b ≡ q * size_of b + size_of b = omega arith in z) in
      let some : 0 < k * size_of b = more (k * size_of b) (q * size_of b) (size_of b) up pos in
      let none = r.claims.fair (crosses (k * size_of b)) ∙ none_cross (size_of b) k b.start (claimed_to (shape_of b) r.claims.terms) r.claims.log r.claims.tiles some in
      let mine = counted (crosses (k * size_of b)) c among in
      ends (k * size_of b) (q * size_of b) (size_of b) (c.start % size_of b) c.start (span c.cuts) (total (weight (crosses (k * size_of b))) ps) up (div-add-mod' c.start (size_of b)) (Rattle.std.proofs.Common.mod-lt c.start pos) mine none
    where
      more : (x y t : ℕ) → x ≡ y + t → 0 < t → 0 < x
      more x y t e pos = omega arith

      ends : (x y t m s n all : ℕ) → x ≡ y + t → y + m ≡ s → m < t → min (covers x s n) (covers (x - 1) s n) ≤ all → all ≡ 0 → s + n ≤ x
      ends x y t m s n all up e lt le z = omega arith

  -- ---- what the word of a partition shows

  module _ (p : ℕ) where
    n : ℕ
    n = slice_index ws (tail_place p)

    record Reaches (k : ℕ) : Type 0 where
      begins : k * size_of b ≤ shown_position (shape_of b) n
      newest : k ≡ r.claims.terms.newest → claimed_to (shape_of b) r.claims.terms ≤ shown_position (shape_of b) n
      full : k < r.claims.terms.newest → suc k * size_of b ≤ shown_position (shape_of b) n

    reaches : (k : ℕ) → first_of b ≤ k → k ≤ r.claims.terms.newest → k % 3 ≡ p % 3 → Reaches k
    unfolding n
    reaches k from le same =
        let t = r.claims.terms in let to = r.claims.tailed.turns.to in
        let sh = shows (shape_of b) (first_of b) t ws r.claims.sound.geometry.initial r.claims.tailed (narrow b ws ps r.claims) k le in
        let place : tail_place k ≡ tail_place p = ap (λ (x : ℕ). x * 16 + 32) same in
        let low = sh.low in let small : sh.k < 2 ^ 31 = omega arith in
        let is : shown_position (shape_of b) (slice_index ws (tail_place p)) ≡ sh.k * size_of b + min (t.offset sh.k) (size_of b) = subst (λ (x : ℕ). shown_position (shape_of b) (slice_index ws x) ≡ sh.k * size_of b + min (t.offset sh.k) (size_of b)) place
        (position_is (shape_of b) (slice_index ws (tail_place k)) sh.k (t.offset sh.k) (count_is (shape_of b) (slice_index ws (tail_place k)) sh.k r.claims.sound.geometry small sh.id) small sh.off) in
        let rise : k * size_of b ≤ sh.k * size_of b = mul-le-mul_right (size_of b) sh.up in record {
          begins = up (k * size_of b) (sh.k * size_of b) (min (t.offset sh.k) (size_of b)) (shown_position (shape_of b) (slice_index ws (tail_place p))) rise is;
          newest = λ e. (let one : sh.k ≡ t.newest = (let a = sh.up in both sh.k t.newest k low a e) in same_end (shown_position (shape_of b) (slice_index ws (tail_place p))) (claimed_to (shape_of b) t) (is ∙ (λ i. one i * size_of b + min (t.offset (one i)) (size_of b))));
          full = λ lt. dite (ℕ_discrete sh.k k)
              (λ e. (let done = r.claims.tailed.turns.done k from lt in let here : shown_position (shape_of b) (slice_index ws (tail_place p)) ≡ k * size_of b + min (t.offset k) (size_of b) = is ∙ (λ i. e i * size_of b + min (t.offset (e i)) (size_of b)) in
              let z : suc k * size_of b ≡ k * size_of b + size_of b = omega arith in whole (suc k * size_of b) (k * size_of b) (size_of b) (t.offset k) (shown_position (shape_of b) (slice_index ws (tail_place p))) z done here))
              (λ ne. (let more : suc k ≤ sh.k = (let a = sh.up in omega (arith, a, ne)) in let rise' : suc k * size_of b ≤ sh.k * size_of b = mul-le-mul_right (size_of b) more in up (suc k * size_of b) (sh.k * size_of b) (min (t.offset sh.k) (size_of b)) (shown_position (shape_of b) (slice_index ws (tail_place p))) rise' is));
        }
      where
        up : (a c m x : ℕ) → a ≤ c → x ≡ c + m → a ≤ x
        up a c m x le e = omega arith

        both : (s newest k : ℕ) → s ≤ newest → k ≤ s → k ≡ newest → s ≡ newest
        both s newest k a c e = omega arith

        same_end : (x e : ℕ) → x ≡ e → e ≤ x
        same_end x e eq = omega arith

        whole : (s y t o x : ℕ) → s ≡ y + t → t ≤ o → x ≡ y + min o t → s ≤ x
        whole s y t o x e le f = omega arith

    newest_or : (k : ℕ) → k * size_of b < claimed_to (shape_of b) r.claims.terms → k ≤ r.claims.terms.newest
    newest_or k under = let t = r.claims.terms in dite (dec_le k t.newest) (λ y. y) (λ no. (let lt = lt_of_not-le no in let rise : suc t.newest * size_of b ≤ k * size_of b = mul-le-mul_right (size_of b) lt in let z : suc t.newest * size_of b ≡ t.newest * size_of b + size_of b = omega arith in
        absurd (over (suc t.newest * size_of b) (k * size_of b) (t.newest * size_of b) (size_of b) (t.offset t.newest) (claimed_to (shape_of b) t) rise under z refl)))
      where
        over : (s k y t o end : ℕ) → s ≤ k → k < end → s ≡ y + t → end ≡ y + min o t → ⊥
        over s k y t o end le lt e f = omega arith

    -- a position above the start that was reached lies in a term that has begun, or at the end of one
    reached : (x : ℕ) → b.start < x → x ≤ claimed_to (shape_of b) r.claims.terms → (x - 1) / size_of b % 3 ≡ p % 3 → x ≤ shown_position (shape_of b) n
    reached x above up same =
        let t = r.claims.terms in let y : ℕ = x - 1 in let k : ℕ = y / size_of b in let least = r.claims.sound.geometry.term.least in let pos : 0 < size_of b = omega arith in
        let from : first_of b ≤ k = le-div (b.start / size_of b) y (size_of b) pos (let below = div-mul-le_self b.start (size_of b) in before (b.start / size_of b * size_of b) b.start x below above) in
        let parts : k * size_of b + y % size_of b ≡ y = div-add-mod' y (size_of b) in let inside = mod-lt y pos in
        let under : k * size_of b < claimed_to (shape_of b) t = begun (k * size_of b) (y % size_of b) x (claimed_to (shape_of b) t) b.start parts above up in
        let le : k ≤ t.newest = newest_or k under in
        let z = reaches k from le same in dite (ℕ_discrete k t.newest)
        (λ e. let top = z.newest e in through x (claimed_to (shape_of b) t) (shown_position (shape_of b) n) up top)
        (λ ne. let full = z.full (omega (arith, le, ne)) in let q : suc k * size_of b ≡ k * size_of b + size_of b = omega arith in
        ends x b.start (k * size_of b) (y % size_of b) (size_of b) (suc k * size_of b) (shown_position (shape_of b) n) above parts inside q full)
      where
        before : (y s x : ℕ) → y ≤ s → s < x → y ≤ x - 1
        before y s x le lt = omega arith

        begun : (y m x end s : ℕ) → y + m ≡ x - 1 → s < x → x ≤ end → y < end
        begun y m x end s e lt le = omega arith

        through : (a c d : ℕ) → a ≤ c → c ≤ d → a ≤ d
        through a c d x y = omega arith

        ends : (x s y m l next top : ℕ) → s < x → y + m ≡ x - 1 → m < l → next ≡ y + l → next ≤ top → x ≤ top
        ends x s y m l next top above e lt f le = omega arith

    start_below : first_of b % 3 ≡ p % 3 → b.start ≤ shown_position (shape_of b) n
    start_below same =
        let t = r.claims.terms in let from = r.claims.tailed.turns.from in let least = r.claims.sound.geometry.term.least in let pos : 0 < size_of b = omega arith in
        let z = reaches (first_of b) (same_le (first_of b)) from same in let tail = tail_is b ws ps r.claims in let inside = mod-lt b.start pos in
        dite (ℕ_discrete (first_of b) t.newest)
        (λ e. let top = z.newest e in past b.start (total (weight length_of) ps) (claimed_to (shape_of b) t) (shown_position (shape_of b) n) tail top)
        (λ ne. let full = z.full (omega (arith, from, ne)) in let q : suc (first_of b) * size_of b ≡ first_of b * size_of b + size_of b = omega arith in
        within b.start (first_of b * size_of b) (b.start % size_of b) (size_of b) (suc (first_of b) * size_of b) (shown_position (shape_of b) n) (div-add-mod' b.start (size_of b)) inside q full)
      where
        same_le : (k : ℕ) → k ≤ k
        same_le k = omega arith

        past : (s m end top : ℕ) → s + m ≡ end → end ≤ top → s ≤ top
        past s m end top e le = omega arith

        within : (s y m l next top : ℕ) → y + m ≡ s → m < l → next ≡ y + l → next ≤ top → s ≤ top
        within s y m l next top e lt f le = omega arith

    claim_below : (c : ClaimRange) → Among c v.right.claims → c.start / size_of b % 3 ≡ p % 3 → claim_end c ≤ shown_position (shape_of b) n
    claim_below c among same =
        let t = r.claims.terms in let k : ℕ = c.start / size_of b in let lies = inside c among in let some = long c among in let least = r.claims.sound.geometry.term.least in let pos : 0 < size_of b = omega arith in
        let tail = tail_is b ws ps r.claims in let within = in_term c among pos in
        let from : first_of b ≤ k = le-div (b.start / size_of b) c.start (size_of b) pos (let below = div-mul-le_self b.start (size_of b) in let x = lies.0 in less (b.start / size_of b * size_of b) b.start c.start below x) in
        let under : k * size_of b < claimed_to (shape_of b) t = begun (k * size_of b) (c.start % size_of b) c.start (span c.cuts) (tail_of b ps) (claimed_to (shape_of b) t) (div-add-mod' c.start (size_of b)) some lies.1 tail in
        let le : k ≤ t.newest = dite (dec_le k t.newest) (λ y. y) (λ no. (let lt = lt_of_not-le no in let rise : suc t.newest * size_of b ≤ k * size_of b = mul-le-mul_right (size_of b) lt in let z : suc t.newest * size_of b ≡ t.newest * size_of b + size_of b = omega arith in
        absurd (over (suc t.newest * size_of b) (k * size_of b) (t.newest * size_of b) (size_of b) (t.offset t.newest) (claimed_to (shape_of b) t) rise under z refl))) in
        let x = reaches k from le same in dite (ℕ_discrete k t.newest)
        (λ e. (let top = x.newest e in let up = lies.1 in through (claim_end c) (tail_of b ps) (claimed_to (shape_of b) t) (shown_position (shape_of b) n) up tail top))
        (λ ne. (let full = x.full (omega (arith, le, ne)) in less (claim_end c) (suc k * size_of b) (shown_position (shape_of b) n) within full))
      where
        begun : (y m x len tail end : ℕ) → y + m ≡ x → 0 < len → x + len ≤ tail → tail ≡ end → y < end
        begun y m x len tail end e pos le f = omega arith

        over : (s k y t o end : ℕ) → s ≤ k → k < end → s ≡ y + t → end ≡ y + min o t → ⊥
        over s k y t o end le lt e f = omega arith

        through : (a tail end x : ℕ) → a ≤ tail → tail ≡ end → end ≤ x → a ≤ x
        through a tail end x up e le = omega arith

        less : (a c d : ℕ) → a ≤ c → c ≤ d → a ≤ d
        less a c d x y = omega arith

  apart : (front behind : List ClaimRange) → v.right.claims ≡ front ++ behind → (c d : ClaimRange) → Among c front → Among d behind → AreApart c d
  apart front behind parts c d here there = dite (dec_le (claim_end c) d.start) (λ le. inl le) (λ no. dite (dec_le (claim_end d) c.start) (λ le. inr le) (λ other. (let x : ℕ = max c.start d.start in let h : Entry → ℕ = λ e. covers x e.start (length_of e) in
      let g : ClaimRange → ℕ = λ e. h (entry_of e) in let some = long c (subst (Among c) (sym parts) (among_left c front behind here)) in let more = long d (subst (Among d) (sym parts) (among_right d front behind there)) in
      let a = among_total g front c here in let e = among_total g behind d there in
      let sum : total g v.right.claims ≡ total g front + total g behind = ap (total g) parts ∙ total_append g front behind in
      let mine = total_map h entry_of v.right.claims in let up = total_at (weight h) ps id v at in let one = cover_passes b ws ps r.claims x in
      absurd (twice c.start (span c.cuts) d.start (span d.cuts) (total g front) (total g behind) (total g v.right.claims) (weight h v) (total (weight h) ps) (x + 1 - b.start) (tail_of b ps - x) some more (lt_of_not-le no) (lt_of_not-le other) a e sum mine up one))))
    where
      twice : (c len d m f g all w t q z : ℕ) → 0 < len → 0 < m → d < c + len → c < d + m → covers (max c d) c len ≤ f → covers (max c d) d m ≤ g → all ≡ f + g → w ≡ all → w ≤ t → t ≡ min 1 (min q z) → ⊥
      twice c len d m f g all w t q z pos pos' lt gt a e sum mine up one = omega arith

  shows_tail : AreNumbered ps → (p : ℕ) → ShowsTail v (p % 3) (slice_index ws (tail_place p)) (was_shown (shown_position (geometry_of v) (slice_index ws (tail_place p))) v)
  unfolding n
  shows_tail a p =
      let k = r.claims.each id v at in let word : ℕ = slice_index ws (tail_place p) in
      let shape : (P : Identity → ℕ → Type 0) → P b.identity b.start → P v.identity v.start = λ P x. subst (λ (y : Identity × ℕ). P y.0 y.1) (λ i. (sym k.identity i, sym k.start i)) x in record {
        claims = λ c among e. shape (λ i s. c.start / i.geometry.term_length % 3 ≡ p % 3 → claim_end c ≤ shown_position i.geometry word) (λ e'. claim_below p c among e') e;
        terms = shape (λ i s. (j : ℕ) → s / i.geometry.term_length ≤ j → j ≤ max v.seen.count v.seen.begun → j % 3 ≡ p % 3 → j * i.geometry.term_length ≤ shown_position i.geometry word)
            (λ j from le same. (reaches p j from (let a = k.seen.count.1 in let c = k.seen.begun in low j v.seen.count v.seen.begun r.claims.terms.newest le a c) same).begins);
        shown = shape (λ i s. (x : ℕ) → x ≤ v.seen.shown → s < x → (x - 1) / i.geometry.term_length % 3 ≡ p % 3 → x ≤ shown_position i.geometry word)
            (λ x le above same. reached p x above (up x v.seen.shown (claimed_to (shape_of b) r.claims.terms) le k.seen.shown) same);
        from = shape (λ i s. s / i.geometry.term_length % 3 ≡ p % 3 → s ≤ shown_position i.geometry word) (λ same. start_below p same);
        apart = apart;
        single = single_at ps id v at a;
        after = refl;
      }
    where
      low : (j a c n : ℕ) → j ≤ max a c → a ≤ n → c ≤ n → j ≤ n
      low j a c n le x y = omega arith

      up : (a c d : ℕ) → a ≤ c → c ≤ d → a ≤ d
      up a c d x y = omega arith

-- ---- the word is noted

-- the seat once it has noted the raw tail of a partition
noting : ℕ → List ℕ → View → View
noting p ws v = let n : ℕ = slice_index ws (tail_place p) in record { pass = was_shown (shown_position (geometry_of v.pass) n) v.pass; steps = suc v.steps; controls = with_tail v.controls (p % 3) n; sure = v.sure }

-- who is sure of the control words knows it
known_tail : (ws : List ℕ) (p : ℕ) → with_tail (controls_in ws) (p % 3) (slice_index ws (tail_place p)) ≡ controls_in ws
known_tail ws p = go (p % 3) (mod-lt p (omega arith))
  where
    go : (k : ℕ) → k < 3 → with_tail (controls_in ws) k (slice_index ws (k * 16 + 32)) ≡ controls_in ws
    go zero low = refl
    go (suc zero) low = refl
    go (suc (suc zero)) low = refl
    go (suc (suc (suc k))) low = absurd (omega arith)

-- the load of a raw tail that a seat notes keeps the rule
noted_ruled : (key : Key) (id p : ℕ) (v : View) (s : State (Unit {0}) View) (q : LogRuled key s) → get_elem? s.views id ≡ some v
    → LogRuled key record { words = set s.words (tail_place p) (slice_index s.words (tail_place p)); homes = s.homes; views = set s.views id (noting p s.words v) }
unfolding noting
noted_ruled key id p v s q at =
    let ws : List ℕ = s.words in let ps : List Pass = map pass_in s.views in let i : ℕ = tail_place p in let n : ℕ = slice_index ws i in let ws' : List ℕ = set ws i n in
    let b : Bounds = now_at key (slice_index ws limit_place) q.cleaned in let c = q.ruled.claims in let here = at_map pass_in s.views id v at in
    let k = c.each id v.pass here in let sure = q.sure.each id v at in
    let x : ℕ = shown_position (geometry_of v.pass) n in let u : Pass = was_shown x v.pass in let w : View = noting p ws v in
    let low : x ≤ claimed_to (shape_of b) c.terms = subst (λ (y : Identity). shown_position y.geometry n ≤ claimed_to (shape_of b) c.terms) (sym k.identity) (tail_shows (shape_of b) (first_of b) c.terms ws c.sound.geometry c.tailed (narrow b ws ps c) p) in
    let knows : Knows b c.terms u = record { identity = k.identity; start = k.start; number = k.number; right = k.right; entries = k.entries; seen = saw_more (shape_of b) (first_of b) c.terms v.pass.seen x low k.seen } in
    let ruled : Ruled b ws' (set ps id u) = record { claims = sighted b ws ps c id i v.pass u here knows refl refl refl refl; memory = stayed b ws ps q.ruled.memory id i n v.pass u (tail_low p) here record { claims = refl; work = refl } } in
    let look : IsLook ps (set ps id u) = record { claimed = λ h. same_sum (weight h) ps id v.pass u here refl; committed = λ h. same_sum (committed_weight h) ps id v.pass u here refl } in
    let spared = load_spares i ws in
    let kept : Kept b q.there ws' (set ps id u) = kept_on b q.there ws ws' ps id v.pass u here record { identity = refl; start = refl; number = refl; parts = refl; numbers = refl; reading = refl; keeping = refl } (grows b ws ws' ps (set ps id u) q.ruled ruled (inl look)) spared q.kept in
    let is : map pass_in (set s.views id w) ≡ set ps id u = map-set pass_in s.views id w in
    let known : v.sure ≡ 1 → with_tail v.controls (p % 3) n ≡ v.controls = λ one. ap (λ (y : Controls). with_tail y (p % 3) n) (sure.exact one) ∙ known_tail ws p ∙ sym (sure.exact one) in record {
      cleaned = q.cleaned;
      there = q.there;
      ruled = subst (λ (y : ℕ × List Pass). Ruled (now_at key y.0 q.cleaned) ws' y.1) (λ j. (sym spared.limit j, sym is j)) ruled;
      kept = subst (λ (y : ℕ × List Pass). Kept (now_at key y.0 q.cleaned) q.there ws' y.1) (λ j. (sym spared.limit j, sym is j)) kept;
      sure = sure_on b ws s.views q.ruled q.sure id v w at i (λ m. m) (inr (load_leaves i)) record { whole = sure.whole; exact = λ one. known one ∙ sure.exact one ∙ ap controls_in (sym (set-get_or ws i 0)) };
      numbered = subst AreNumbered (sym is) (numbered_on ps id v.pass u here record { numbers = refl; owns = λ o. record { claims = o.claims; armed = o.armed } } q.numbered);
    }

pub shown : (key : Key) (slots id p : ℕ) (m : Mine) → Allows (LogRuled key) slots id m (tail_place p) (λ n. n) (λ n m'. showing (p % 3) m n m')
unfolding noting
shown key slots id p m s q homes at small =
    let v : View = m.0 in let ws : List ℕ = s.words in let n : ℕ = slice_index ws (tail_place p) in let bs : Bounds = now_at key (slice_index ws limit_place) q.cleaned in let k = q.sure.each id v at in
    let known : v.sure ≡ 1 → with_tail v.controls (p % 3) n ≡ v.controls = λ one. ap (λ (c : Controls). with_tail c (p % 3) n) (k.exact one) ∙ known_tail ws p ∙ sym (k.exact one) in (
      noting p ws v,
      keeps,
      tt,
      noted_ruled key id p v s q at,
      ((refl, refl, record { sure = refl; leads = known }, shows_tail bs ws (map pass_in s.views) q.ruled id v.pass (at_map pass_in s.views id v at) q.numbered p), refl, small),
    )
