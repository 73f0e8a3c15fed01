-- The steps that load a word keep the claims' rule.
use Rattle.std.proofs.Common.{◌≡◌, ℕ, ◌+◌, ◌*◌, ◌/◌, ◌%◌, ◌<◌, ◌≤◌, min, List, length, zero-le, set, sym, refl, ap, ◌∙◌, subst, lt_of_not-le, mul-le-mul_left, arith}
use mathlib.Core.Option.{some}
use mathlib.Core.Logic.{dite}
use native.Mathlib.Decide.{dec_le, ℕ_discrete}
use lib.ListN.{get_elem?}
use lib.IntN.{ℤ_discrete}
use Rattle.std.specs.Prelude.{slice_index}
use Rattle.theory.specs.Position.{Geometry, id_of}
use Rattle.theory.specs.Refusal.{limit_in}
use Rattle.theory.specs.Words.{id_in, offset_in}
use Rattle.theory.proofs.Claims.{claim_bounded}
use Rattle.publication.specs.declared.pass.Pass.{Pass}
use Rattle.publication.specs.declared.step.WordStep.TheVariants as steps
use Rattle.publication.specs.Steps.{Arms, Counts, Names, Sees, noted, shown_position, tail_step, with_armed, with_count, with_full, with_limit}
use Rattle.log_rule.specs.Claims.Packs.{count_place, limit_place, tail_place}
use Rattle.log_rule.specs.Claims.Sums.{total}
use Rattle.log_rule.specs.Claims.Terms.{Full, Terms, Turns, claimed_to}
use Rattle.log_rule.specs.Claims.Rule.{Bounds, ClaimsHold, Entitled, Knows, Sound, armed_of, armed_on, first_of, parts_of, shape_of, size_of}
use Rattle.log_rule.specs.Claims.Admits.{Admits}
use Rattle.log_rule.proofs.Claimed.Packs.{one_count}
use Rattle.log_rule.proofs.Claimed.Totals.{total_set}
use Rattle.log_rule.proofs.Claimed.Tails.{Narrow, shows}
use Rattle.log_rule.proofs.Claimed.Accounts.{Over, Room, armed_elsewhere, each_set, few, knows_noted, on_le, peeked, read_off, reads, reads_back, saw_more, sighted, unchanged}
use Rattle.log_rule.proofs.Claimed.Shown.{active_shows, tail_shows}

-- ---- the numbers of a log

pub term_short : (b : Bounds) → Sound b → (size_of b ≤ 16777216) × (65536 ≤ size_of b) × (b.greatest ≤ size_of b / 7 + 63)
term_short b so = (so.geometry.term.greatest, so.geometry.term.least, subst (λ (n : ℕ). n ≤ size_of b / 7 + 63) (sym so.greatest) (claim_bounded (shape_of b) 0 so.geometry (omega arith)).1)

pub narrow : (b : Bounds) (ws : List ℕ) (ps : List Pass) (r : ClaimsHold b ws ps) → Narrow r.terms
narrow b ws ps r k x y = let s = term_short b r.sound in bound (r.terms.offset k) (b.greatest * total (armed_on (k % 3)) ps) (size_of b) b.greatest (r.over k x y) s.0 s.2
  where
    bound : (o x t c : ℕ) → o + x < t + c * 8 → t ≤ 16777216 → c ≤ t / 7 + 63 → o < 4294967296
    bound o x t c over most few = omega arith

-- a control word is one of the table
pub inside : (b : Bounds) (ws : List ℕ) (ps : List Pass) → ClaimsHold b ws ps → (i : ℕ) → i < 208 → i < length ws
inside b ws ps r i low = let e = r.wide in omega arith

pub tail_low : (k : ℕ) → tail_place k < 208
tail_low k = omega arith

-- a step may be shown with the numbers that the pass knows
pub by_pass : (id : ℕ) (v : Pass) (i : ℕ) (f : ℕ → ℕ) (told : ℕ → Pass → Type 0) → ((b : Bounds) → Admits (ClaimsHold (read_off b v)) id v i f told) → (b : Bounds) → Admits (ClaimsHold b) id v i f told
by_pass id v i f told go b ws ps r at = let k = r.each id v at in let g = go b ws ps (reads b v k.identity k.start ws ps r) at in (g.0, reads_back b v k.identity k.start _ _ g.1, g.2)

-- ---- the limit

pub see : (b : Bounds) (id : ℕ) (v : Pass) → Admits (ClaimsHold b) id v limit_place (λ n. n) (λ n w. Sees v n w)
see b id v ws ps r at = let n : ℕ = slice_index ws 0 in let w = noted (steps.Limit n) (with_limit v n) in let k = r.each id v at in (
  w,
  sighted b ws ps r id 0 v w at
      record { identity = k.identity; start = k.start; number = k.number; right = record { capped = (let e : limit_in n ≡ b.limit = ap limit_in r.limit ∙ r.sound.limit in omega arith); able = k.right.able; once = k.right.once; idle = k.right.idle }; entries = k.entries; seen = saw_more (shape_of b) (first_of b) r.terms v.seen 0 zero-le k.seen } refl refl refl refl,
  refl,
)

-- ---- the active count

count_at : (id : ℕ) (v : Pass) (b : Bounds) → Admits (ClaimsHold (read_off b v)) id v count_place (λ n. n) (λ n w. Counts v n w)
count_at id v b ws ps r at = let n : ℕ = slice_index ws count_place in let g : Geometry = v.identity.geometry in let first : ℕ = first_of (read_off b v) in let x = with_count v n in let w = noted (steps.Count n) x in let k = r.each id v at in let a = r.tailed.active in let to = r.tailed.turns.to in (
  w,
  sighted (read_off b v) ws ps r id count_place v w at
      record { identity = k.identity; start = k.start; number = k.number; right = k.right; entries = k.entries; seen = saw_more g first r.terms x.seen (n * g.term_length) (active_shows g first r.terms ws r.sound.geometry r.tailed (narrow (read_off b v) ws ps r)) record { count = a; term = k.seen.term; full = k.seen.full; begun = k.seen.begun; shown = k.seen.shown } } refl refl refl refl,
  record { term = record { begun = a.0; small = omega arith }; after = refl },
)

pub count : (b : Bounds) (id : ℕ) (v : Pass) → Admits (ClaimsHold b) id v count_place (λ n. n) (λ n w. Counts v n w)
count b id v = by_pass id v count_place (λ n. n) (λ n w. Counts v n w) (count_at id v) b

-- ---- a tail

pub min_of_le : (a b : ℕ) → a ≤ b → min a b ≡ a
min_of_le a b le = omega arith

pub ends_at : (g : Geometry) (t : Terms) (p off : ℕ) → p ≡ t.newest → off ≡ t.offset p → off < g.term_length → claimed_to g t ≡ p * g.term_length + off
ends_at g t p off e o lt = let o' : t.offset t.newest ≡ off = ap t.offset (sym e) ∙ sym o in let mm : min (t.offset t.newest) g.term_length ≡ off = omega arith in
    (λ i. sym e i * g.term_length + mm i)

-- the count is the newest, since its term isn't full
pub newest_of : (g : Geometry) (first : ℕ) (t : Terms) → Turns g first t → (p : ℕ) → first ≤ p → p ≤ t.newest → t.offset p < g.term_length → p ≡ t.newest
newest_of g first t u p from to low = dite (dec_le t.newest p) (λ le. omega arith) (λ no. let d = u.done p from (lt_of_not-le no) in absurd (omega arith))

-- the sums of those armed, where one more is
record Arming (b : Bounds) (t : Terms) (ps : List Pass) (id : ℕ) (w : Pass) : Type 0 where
  pub over : Over b t (set ps id w)
  pub room : Room b t (set ps id w)

arming : (b : Bounds) (ws : List ℕ) (ps : List Pass) (r : ClaimsHold b ws ps) (id : ℕ) (v w : Pass) → get_elem? ps id ≡ some v → Knows b r.terms w → w.right.parts ≡ v.right.parts
    → w.seen.term ≡ r.terms.newest → r.terms.offset r.terms.newest < size_of b → claimed_to (shape_of b) r.terms < b.limit → Arming b r.terms ps id w
arming b ws ps r id v w at knows same top low below =
    let t = r.terms in let p : ℕ = t.newest in let c : ℕ = b.greatest in
    let each = each_set b t t ps id w (unchanged (shape_of b) t) r.each knows in
    let parted : total parts_of (set ps id w) ≡ 1024 = (let a = total_set parts_of ps id v w at in let e = r.parted in omega arith) in
    let able : (j : ℕ) (u : Pass) → get_elem? (set ps id w) j ≡ some u → 120 * u.right.armed ≤ u.right.parts = λ j u e. (each j u e).right.able in record {
      over = λ k x y. dite (ℕ_discrete (p % 3) (k % 3))
          (λ there. let one : k ≡ p = one_count p k p x y (omega arith) (omega arith) (omega arith) in
          let z : ℕ = c * total (armed_on (k % 3)) (set ps id w) in let m : ℕ = c * 8 in let le : z ≤ m = few c (set ps id w) (armed_on (k % 3)) (on_le (k % 3)) able parted in
          let o : t.offset k ≡ t.offset p = ap t.offset one in (let q : t.offset k + z < size_of b + m = omega arith in q))
          (λ other. let s = total_set (armed_on (k % 3)) ps id v w at in let none_here : armed_on (k % 3) w ≡ 0 = armed_elsewhere (k % 3) w (λ e. other (ap (λ (n : ℕ). n % 3) (sym top) ∙ e)) in
          let less : total (armed_on (k % 3)) (set ps id w) ≤ total (armed_on (k % 3)) ps = omega arith in
          let z : ℕ = c * total (armed_on (k % 3)) (set ps id w) in let y' : ℕ = c * total (armed_on (k % 3)) ps in let m : ℕ = c * 8 in
          let le : z ≤ y' = mul-le-mul_left c less in let old : t.offset k + y' < size_of b + m = r.over k x y in (let q : t.offset k + z < size_of b + m = omega arith in q));
      room = (let z : ℕ = c * total armed_of (set ps id w) in let m : ℕ = c * 8 in let le : z ≤ m = few c (set ps id w) armed_of (λ u. omega arith) able parted in
          let e : ℕ = claimed_to (shape_of b) t in let below' : e < b.limit = below in (let q : e + z ≤ b.limit + m = omega arith in q));
    }

arm_at : (id : ℕ) (v : Pass) → 120 ≤ v.right.parts → (b : Bounds) → Admits (ClaimsHold (read_off b v)) id v (tail_place v.seen.count) (λ n. n) (λ n w. Arms v n w)
arm_at id v able b' ws ps r at =
    let b : Bounds = read_off b' v in let g : Geometry = v.identity.geometry in let size : ℕ = g.term_length in
    let p : ℕ = v.seen.count in let i : ℕ = tail_place p in let n : ℕ = slice_index ws i in let t = r.terms in let k = r.each id v at in let seen_count = k.seen.count in let so = r.sound in
    let nar = narrow b ws ps r in let sh = shows g (first_of b) t ws so.geometry.initial r.tailed nar p seen_count.1 in let to = r.tailed.turns.to in
    let found : Names v n p → sh.k ≡ p = λ e. sh.only p (omega arith) e in
    let off : ℕ = offset_in n in let off_of : Names v n p → off ≡ t.offset p = λ e. sh.off ∙ ap t.offset (found e) in
    let same : Pass = noted (tail_step v n) v in let there = tail_shows g (first_of b) t ws so.geometry r.tailed nar p in
    dite (ℤ_discrete (id_in n) (id_of g p))
    (λ named. dite (dec_le size off)
    (λ full. let w = noted (tail_step v n) (with_full v p) in let o = off_of named in
    let whole : Full g (first_of b) t p = (seen_count.0, seen_count.1, (let q : size ≤ t.offset p = omega arith in q)) in (
      w,
      sighted b ws ps r id i v w at
          record { identity = k.identity; start = k.start; number = k.number; right = k.right; entries = k.entries; seen = saw_more g (first_of b) t (with_full v p).seen (shown_position g n) there record { count = k.seen.count; term = k.seen.term; full = λ j e. subst (Full g (first_of b) t) (let q : p ≡ j = omega arith in q) whole; begun = k.seen.begun; shown = k.seen.shown } } refl refl refl refl,
      record { below = λ _ lt _. absurd (omega arith); limited = λ _ lt _. absurd (omega arith); used_up = λ _ _. refl; other = λ no. absurd (no named) },
    ))
    (λ not_full. let lt = lt_of_not-le not_full in dite (dec_le (limit_in v.right.limit) (p * size + off))
    (λ past. (same, sighted b ws ps r id i v same at (knows_noted b t (tail_step v n) v there k) refl refl refl refl, record { below = λ _ _ low. absurd (omega arith); limited = λ _ _ _. refl; used_up = λ _ le. absurd (not_full le); other = λ no. absurd (no named) }))
    (λ not_past. let below = lt_of_not-le not_past in let w = noted (tail_step v n) (with_armed v) in let o = off_of named in
    let right : Entitled b w.right = record { capped = k.right.capped; able = able; once = omega arith; idle = k.right.idle } in
    let knows : Knows b t w = record { identity = k.identity; start = k.start; number = k.number; right = right; entries = k.entries; seen = saw_more g (first_of b) t (with_armed v).seen (shown_position g n) there record { count = k.seen.count; term = k.seen.count; full = k.seen.full; begun = k.seen.begun; shown = k.seen.shown } } in
    let top : p ≡ t.newest = newest_of g (first_of b) t r.tailed.turns p seen_count.0 seen_count.1 (let q : t.offset p < size = omega arith in q) in
    let ends : claimed_to g t ≡ p * size + off = ends_at g t p off top o lt in let cap = k.right.capped in
    let a = arming b ws ps r id v w at knows refl top (subst (λ (z : ℕ). t.offset z < size) top (let q : t.offset p < size = omega arith in q)) (let z : ℕ = claimed_to g t in let y : ℕ = p * size in let e : z ≡ y + off = ends in let l : y + off < limit_in v.right.limit = below in let q : z < b.limit = omega arith in q) in (
      w,
      peeked b ws ps r id i v w at knows refl refl a.over a.room,
      record { below = λ _ _ _. refl; limited = λ _ _ le. absurd (not_past le); used_up = λ _ le. absurd (not_full le); other = λ no. absurd (no named) },
    ))))
    (λ other. (same, sighted b ws ps r id i v same at (knows_noted b t (tail_step v n) v there k) refl refl refl refl, record { below = λ e. absurd (other e); limited = λ e. absurd (other e); used_up = λ e. absurd (other e); other = λ _. refl }))

pub arm : (b : Bounds) (id : ℕ) (v : Pass) → 120 ≤ v.right.parts → Admits (ClaimsHold b) id v (tail_place v.seen.count) (λ n. n) (λ n w. Arms v n w)
arm b id v able = by_pass id v (tail_place v.seen.count) (λ n. n) (λ n w. Arms v n w) (arm_at id v able) b
