-- The steps that turn to the next term keep the claims' rule.
use Rattle.std.proofs.Common.{◌≡◌, ℕ, suc, ◌+◌, ◌*◌, ◌%◌, ◌^◌, ◌<◌, ◌≤◌, eqb, min, List, set, sym, refl, ap, ◌∙◌, subst, ⊎_elim, suc-mul, length-set, get_or-set_other, arith}
use mathlib.Core.Option.{some}
use mathlib.Core.Logic.{dite}
use native.Mathlib.Decide.{ℕ_discrete}
use lib.ListN.{get_elem?}
use lib.IntN.{ℤ_discrete}
use prog.Atomic.{either}
use Rattle.std.specs.Prelude.{slice_index}
use Rattle.atomic_table.proofs.Lists.{exchanged}
use Rattle.theory.specs.Position.{Geometry, id_of}
use Rattle.theory.specs.Bytes.{Identity}
use Rattle.theory.specs.Tiling.{Tiles}
use Rattle.theory.specs.Words.{id_before, id_in, tail_word}
use Rattle.publication.specs.declared.pass.Pass.{Pass}
use Rattle.publication.specs.declared.pass.Right.{Right}
use Rattle.publication.specs.declared.step.WordStep.{WordStep}
use Rattle.publication.specs.declared.step.WordStep.TheVariants as steps
use Rattle.publication.specs.Steps.{ExchangesCount, Names, Nexts, Rotates, noted, shown_in, shown_position, tail_exchange, with_begun}
use Rattle.log_rule.specs.Claims.Packs.{count_place, tail_place}
use Rattle.log_rule.specs.Claims.Sums.{total}
use Rattle.log_rule.specs.Claims.Terms.{Tailed, Terms, claimed_to}
use Rattle.log_rule.specs.Claims.Rule.{Bounds, ClaimsHold, Knows, armed_of, armed_on, first_of, parts_of, shape_of}
use Rattle.log_rule.specs.Claims.Admits.{Admits}
use Rattle.log_rule.proofs.Claimed.Totals.{total_set}
use Rattle.log_rule.proofs.Claimed.Tails.{counted, next_named, next_old, term_begun, turned}
use Rattle.log_rule.proofs.Claimed.Accounts.{Later, Over, each_set, few, knows_noted, moved, on_le, read_off, same_over, same_room, saw_more, saw_on, sighted, unchanged}
use Rattle.log_rule.proofs.Claimed.Shown.{active_shows, tail_shows}
use Rattle.log_rule.proofs.Claimed.Looks.{by_pass, inside, narrow, tail_low, term_short}

-- ---- the next tail

-- the pass after a look at the next tail, by the word that was found
record Begins (b : Bounds) (t : Terms) (v : Pass) (k n : ℕ) (x : WordStep) : Type 0 where
  pub w : Pass
  pub knows : Knows b t w
  pub right : w.right ≡ v.right
  pub term : w.seen.term ≡ v.seen.term
  pub begun : Names v n (k + 1) → w ≡ noted x (with_begun v (k + 1))
  pub other : ¬ Names v n (k + 1) → w ≡ noted x v

begins : (b' : Bounds) (id : ℕ) (v : Pass) (ws : List ℕ) (ps : List Pass) (r : ClaimsHold (read_off b' v) ws ps) → get_elem? ps id ≡ some v → (k : ℕ) (x : WordStep) → shown_in v.identity.geometry x ≤ claimed_to v.identity.geometry r.terms → v.seen.full ≡ suc k → k + 1 < 2 ^ 31
    → Begins (read_off b' v) r.terms v k (slice_index ws (tail_place (k + 1))) x
begins b' id v ws ps r at k x shown full low =
    let b : Bounds = read_off b' v in let g : Geometry = v.identity.geometry in let n : ℕ = slice_index ws (tail_place (k + 1)) in let t = r.terms in let kn = r.each id v at in
    dite (ℤ_discrete (id_in n) (id_of g (k + 1)))
    (λ named. record {
      w = noted x (with_begun v (k + 1));
      knows = record { identity = kn.identity; start = kn.start; number = kn.number; right = kn.right; entries = kn.entries; seen = saw_more g (first_of b) t (with_begun v (k + 1)).seen (shown_in g x) shown record { count = kn.seen.count; term = kn.seen.term; full = kn.seen.full; begun = next_named g (first_of b) t ws r.sound.geometry.initial r.tailed (narrow b ws ps r) k (kn.seen.full k full).1 low named; shown = kn.seen.shown } };
      right = refl;
      term = refl;
      begun = λ _. refl;
      other = λ no. absurd (no named);
    })
    (λ other. record { w = noted x v; knows = knows_noted b t x v shown kn; right = refl; term = refl; begun = λ e. absurd (other e); other = λ _. refl })

-- the next tail shows nothing above what was claimed
next_shows : (b' : Bounds) (v : Pass) (ws : List ℕ) (ps : List Pass) (r : ClaimsHold (read_off b' v) ws ps) (k : ℕ) → shown_position v.identity.geometry (slice_index ws (tail_place (k + 1))) ≤ claimed_to v.identity.geometry r.terms
next_shows b' v ws ps r k = let b : Bounds = read_off b' v in tail_shows v.identity.geometry (first_of b) r.terms ws r.sound.geometry r.tailed (narrow b ws ps r) (k + 1)

begun_sight : (b : Bounds) (ws : List ℕ) (ps : List Pass) (r : ClaimsHold b ws ps) (id i : ℕ) (v : Pass) (k n : ℕ) (x : WordStep) → get_elem? ps id ≡ some v → (g : Begins b r.terms v k n x) → ClaimsHold b (set ws i (slice_index ws i)) (set ps id g.w)
begun_sight b ws ps r id i v k n x at g = sighted b ws ps r id i v g.w at g.knows (ap (λ (y : Right). y.parts) g.right) (ap (λ (y : Right). y.claims) g.right) (ap (λ (y : Right). y.armed) g.right) g.term

next_at : (id : ℕ) (v : Pass) (k : ℕ) → v.seen.full ≡ suc k → k + 1 < 2 ^ 31 → (b : Bounds) → Admits (ClaimsHold (read_off b v)) id v (tail_place (k + 1)) (λ n. n) (λ n w. Nexts v k n w)
next_at id v k full low b ws ps r at = let i : ℕ = tail_place (k + 1) in let n : ℕ = slice_index ws i in let g = begins b id v ws ps r at k (steps.NextTail ((k + 1) % 3) n) (next_shows b v ws ps r k) full low in (
  g.w,
  begun_sight (read_off b v) ws ps r id i v k n (steps.NextTail ((k + 1) % 3) n) at g,
  record { begun = g.begun; other = g.other },
)

pub next : (b : Bounds) (id : ℕ) (v : Pass) (k : ℕ) → v.seen.full ≡ suc k → k + 1 < 2 ^ 31 → Admits (ClaimsHold b) id v (tail_place (k + 1)) (λ n. n) (λ n w. Nexts v k n w)
next b id v k full low = by_pass id v (tail_place (k + 1)) (λ n. n) (λ n w. Nexts v k n w) (next_at id v k full low) b

-- ---- its exchange

min_of_ge : (a c : ℕ) → c ≤ a → min a c ≡ c
min_of_ge a c le = omega arith

-- a full term ends where the next one begins
turn_ends : (g : Geometry) (t : Terms) → g.term_length ≤ t.offset t.newest → t.offset (t.newest + 1) ≡ 0 → claimed_to g (turned t) ≡ claimed_to g t
turn_ends g t full empty = let k : ℕ = t.newest in let size : ℕ = g.term_length in
    let a : claimed_to g (turned t) ≡ (k + 1) * size = (λ i. (k + 1) * size + min (empty i) size) ∙ (let x : ℕ = (k + 1) * size in let q : x + min 0 size ≡ x = omega arith in q) in
    let c : claimed_to g t ≡ k * size + size = ap (λ (z : ℕ). k * size + z) (min_of_ge (t.offset k) size full) in
    let d : (k + 1) * size ≡ k * size + size = ap (λ (z : ℕ). z * size) (let q : k + 1 ≡ suc k = omega arith in q) ∙ suc-mul k size in a ∙ d ∙ sym c

rotated : (b' : Bounds) (id : ℕ) (v : Pass) (ws : List ℕ) (ps : List Pass) (r : ClaimsHold (read_off b' v) ws ps) → get_elem? ps id ≡ some v → (k : ℕ) (x : WordStep) → shown_in v.identity.geometry x ≤ claimed_to v.identity.geometry r.terms → v.seen.full ≡ suc k → k + 1 < 2 ^ 31 → id_in (slice_index ws (tail_place (k + 1))) ≡ id_before v.identity.geometry k 2
    → ClaimsHold (read_off b' v) (set ws (tail_place (k + 1)) (tail_word (id_of v.identity.geometry (k + 1)) 0)) (set ps id (noted x (with_begun v (k + 1))))
rotated b' id v ws ps r at k x shown full low named =
    let b : Bounds = read_off b' v in let g : Geometry = v.identity.geometry in let size : ℕ = g.term_length in let t = r.terms in let kn = r.each id v at in let whole = kn.seen.full k full in
    let top : k ≡ t.newest = next_old g (first_of b) t ws r.sound.geometry.initial r.tailed (narrow b ws ps r) k whole.1 named in
    let u : Terms = turned t in let w = noted x (with_begun v (k + 1)) in let i : ℕ = tail_place (k + 1) in let new : ℕ = tail_word (id_of g (k + 1)) 0 in
    let spot : tail_place (t.newest + 1) ≡ i = ap (λ (z : ℕ). tail_place (z + 1)) (sym top) in
    let filled : size ≤ t.offset t.newest = subst (λ (z : ℕ). size ≤ t.offset z) top whole.2 in let empty : t.offset (t.newest + 1) ≡ 0 = r.tailed.turns.after (t.newest + 1) (omega arith) in
    let ends : claimed_to g u ≡ claimed_to g t = turn_ends g t filled empty in
    let later : Later g t u = record { grows = omega arith; fills = λ j le. le; rises = equal (claimed_to g t) (claimed_to g u) ends } in let saw = saw_on g (first_of b) t u later v.seen kn.seen in
    let mine : Knows b u w = record { identity = kn.identity; start = kn.start; number = kn.number; right = kn.right; entries = kn.entries; seen = saw_more g (first_of b) u (with_begun v (k + 1)).seen (shown_in g x) (subst (λ (z : ℕ). shown_in g x ≤ z) (sym ends) shown) record { count = saw.count; term = saw.term; full = saw.full; begun = (let q : k + 1 ≤ t.newest + 1 = omega arith in q); shown = saw.shown } } in
    let tailed : Tailed g (first_of b) u (set ws i new) = subst (λ (z : ℕ × ℕ). Tailed g (first_of b) u (set ws z.0 (tail_word (id_of g z.1) 0))) (λ j. (spot j, (let q : t.newest + 1 ≡ k + 1 = omega arith in q) j))
    (term_begun g (first_of b) t ws r.sound.geometry.initial r.tailed filled (omega arith) (inside b ws ps r (tail_place (t.newest + 1)) (tail_low (t.newest + 1)))) in
    let parted : total parts_of (set ps id w) ≡ 1024 = (let a = total_set parts_of ps id v w at in let e = r.parted in omega arith) in let each = each_set b t u ps id w later r.each mine in
    let over : Over b u (set ps id w) = λ j y z. dite (ℕ_discrete j (t.newest + 1))
    (λ e. let le = few b.greatest (set ps id w) (armed_on (j % 3)) (on_le (j % 3)) (λ a q f. (each a q f).right.able) parted in
    let s = term_short b r.sound in let m : ℕ = b.greatest * total (armed_on (j % 3)) (set ps id w) in let c : ℕ = b.greatest * 8 in let le' : m ≤ c = le in let o : t.offset j ≡ t.offset (t.newest + 1) = ap t.offset e in let q : t.offset j + m < size + c = omega arith in q)
    (λ ne. same_over b ws ps r id v w at refl refl j (omega arith) (omega arith)) in
    moved b ws ps r id v w (set ws i new) r.log u at later tailed mine refl (length-set ws i new) (get_or-set_other ws i 0 new 0 (λ e. omega arith)) over
    (subst (λ (z : ℕ). Tiles size b.start z r.log) (sym ends) r.tiles) (λ h. refl)
    (subst (λ (z : ℕ). z + b.greatest * total armed_of (set ps id w) ≤ b.limit + b.greatest * 8) (sym ends) (same_room b ws ps r id v w at refl))
    (subst (λ (z : ℕ). b.floor ≤ z) (sym ends) r.reached)
  where
    equal : (a c : ℕ) → c ≡ a → a ≤ c
    equal a c e = omega arith

-- the step is admitted where the word becomes n
abbrev Goes : (List ℕ → List Pass → Type 0) → List ℕ → List Pass → ℕ → ℕ → (Pass → Type 0) → ℕ → Type 0
Goes rule ws ps id i told n = (w : Pass) × rule (set ws i n) (set ps id w) × told w

rotate_at : (id : ℕ) (v : Pass) (k from to : ℕ) → v.seen.full ≡ suc k → k + 1 < 2 ^ 31 → id_in from ≡ id_before v.identity.geometry k 2 → to ≡ tail_word (id_of v.identity.geometry (k + 1)) 0 → (b : Bounds)
    → Admits (ClaimsHold (read_off b v)) id v (tail_place (k + 1)) (λ n. either (eqb n from) to n) (λ n w. Rotates v k from n w)
rotate_at id v k from to full low named goes b ws ps r at = let i : ℕ = tail_place (k + 1) in let n : ℕ = slice_index ws i in let x = tail_exchange v k from n in
    let shown = next_shows b v ws ps r k in
    exchanged n from to (Goes (ClaimsHold (read_off b v)) ws ps id i (λ w. Rotates v k from n w))
    (λ hit. (
      noted x (with_begun v (k + 1)),
      subst (λ (z : ℕ). ClaimsHold (read_off b v) (set ws i z) (set ps id (noted x (with_begun v (k + 1))))) (sym goes) (rotated b id v ws ps r at k x shown full low (ap id_in hit ∙ named)),
      record { begun = λ _. refl; other = λ miss _. absurd (miss hit) },
    ))
    (λ miss. let g = begins b id v ws ps r at k x shown full low in (
      g.w,
      begun_sight (read_off b v) ws ps r id i v k n x at g,
      record { begun = λ or. g.begun (⊎_elim (λ (h : n ≡ from). absurd (miss h)) (λ (q : Names v n (k + 1)). q) or); other = λ _ no. g.other no },
    ))

pub rotate : (b : Bounds) (id : ℕ) (v : Pass) (k from to : ℕ) → v.seen.full ≡ suc k → k + 1 < 2 ^ 31 → id_in from ≡ id_before v.identity.geometry k 2 → to ≡ tail_word (id_of v.identity.geometry (k + 1)) 0
    → Admits (ClaimsHold b) id v (tail_place (k + 1)) (λ n. either (eqb n from) to n) (λ n w. Rotates v k from n w)
rotate b id v k from to full low named goes = by_pass id v (tail_place (k + 1)) (λ n. either (eqb n from) to n) (λ n w. Rotates v k from n w) (rotate_at id v k from to full low named goes) b

-- ---- the active count

-- it goes to one that was begun
pub advance : (b : Bounds) (id : ℕ) (v : Pass) (old : ℕ) → v.seen.begun ≡ old + 1 → Admits (ClaimsHold b) id v count_place (λ n. either (eqb n old) (old + 1) n) (λ n w. ExchangesCount v old n w)
advance b id v old began ws ps r at = let n : ℕ = slice_index ws count_place in let w = noted (steps.CountExchange old n) v in let k = r.each id v at in let t = r.terms in let a = r.tailed.active in let to = r.tailed.turns.to in
    let told : ExchangesCount v old n w = record { small = omega arith; after = refl } in
    let shown : n * v.identity.geometry.term_length ≤ claimed_to (shape_of b) t = subst (λ (i : Identity). n * i.geometry.term_length ≤ claimed_to (shape_of b) t) (sym k.identity) (active_shows (shape_of b) (first_of b) t ws r.sound.geometry r.tailed (narrow b ws ps r)) in
    exchanged n old (old + 1) (Goes (ClaimsHold b) ws ps id count_place (λ w. ExchangesCount v old n w))
    (λ hit. let e = k.seen.begun in (
      w,
      moved b ws ps r id v w (set ws count_place (old + 1)) r.log t at (unchanged (shape_of b) t)
          (counted (shape_of b) (first_of b) t ws r.tailed (old + 1) (let q : first_of b ≤ old + 1 = omega arith in q) (let q : old + 1 ≤ t.newest = omega arith in q) (inside b ws ps r count_place (omega arith)))
          (knows_noted b t (steps.CountExchange old n) v shown k) refl (length-set ws count_place (old + 1)) (get_or-set_other ws count_place 0 (old + 1) 0 (λ e. omega arith)) (same_over b ws ps r id v w at refl refl) r.tiles (λ h. refl) (same_room b ws ps r id v w at refl) r.reached,
      told,
    ))
    (λ miss. (w, sighted b ws ps r id count_place v w at (knows_noted b t (steps.CountExchange old n) v shown k) refl refl refl refl, told))
