-- What passes know goes on being true, and their claims go on tiling the stream.
use Rattle.std.proofs.Common.{◌≡◌, ◌≢◌, ℕ, suc, ◌+◌, ◌*◌, ◌%◌, ◌<◌, ◌≤◌, max, Bool, true, false, cond, List, [], ◌∷◌, map, length, set, sym, refl, ap, ◌∙◌, subst, ⊎_elim, mul-le-mul_left, mul-suc, eq-eqb, ne_eqb, arith}
use mathlib.Core.Option.{some}
use lib.ListN.{get_elem?}
use Rattle.std.specs.Prelude.{slice_index, nat_eq}
use Rattle.std.proofs.lemmas.List.{set-get_or}
use Rattle.atomic_table.proofs.Lists.{at_set}
use Rattle.theory.specs.Position.{Geometry}
use Rattle.theory.specs.Entry.{Entry}
use Rattle.theory.specs.Tiling.{Tiles}
use Rattle.theory.specs.Bytes.{Identity}
use Rattle.publication.specs.declared.pass.Pass.{Pass}
use Rattle.publication.specs.declared.pass.Seen.{Seen}
use Rattle.publication.specs.declared.step.WordStep.{WordStep}
use Rattle.publication.specs.Steps.{noted, shown_in}
use Rattle.log_rule.specs.Claims.Sums.{total}
use Rattle.log_rule.specs.Claims.Terms.{Tailed, Terms, claimed_to}
use Rattle.log_rule.specs.Claims.Rule.{Bounds, ClaimsHold, HasSeen, Knows, armed_of, armed_on, entry_of, first_of, parts_of, shape_of, size_of, weight}
use Rattle.log_rule.proofs.Claimed.Totals.{total_le, total_set}

-- ---- what no step takes back

pub record Later (g : Geometry) (t u : Terms) : Type 0 where
  pub grows : t.newest ≤ u.newest
  pub fills : (k : ℕ) → g.term_length ≤ t.offset k → g.term_length ≤ u.offset k
  pub rises : claimed_to g t ≤ claimed_to g u

pub unchanged : (g : Geometry) (t : Terms) → Later g t t
unchanged g t = record { grows = omega arith; fills = λ k le. le; rises = same (claimed_to g t) }
  where
    same : (n : ℕ) → n ≤ n
    same n = omega arith

pub saw_on : (g : Geometry) (first : ℕ) (t u : Terms) → Later g t u → (s : Seen) → HasSeen g first t s → HasSeen g first u s
saw_on g first t u l s w = let rise = l.grows in record {
  count = (let c = w.count in (c.0, omega arith));
  term = (let c = w.term in (c.0, omega arith));
  full = λ k e. (let f = w.full k e in (f.0, omega arith, l.fills k f.2));
  begun = (let b = w.begun in omega arith);
  shown = through s.shown (claimed_to g t) (claimed_to g u) w.shown l.rises;
}
  where
    through : (a c d : ℕ) → a ≤ c → c ≤ d → a ≤ d
    through a c d x y = omega arith

-- a position more was shown
pub saw_more : (g : Geometry) (first : ℕ) (t : Terms) (s : Seen) (n : ℕ) → n ≤ claimed_to g t → HasSeen g first t s → HasSeen g first t (record s { shown = max s.shown n })
saw_more g first t s n le w = record { count = w.count; term = w.term; full = w.full; begun = w.begun; shown = most s.shown n (claimed_to g t) w.shown le }
  where
    most : (a c d : ℕ) → a ≤ d → c ≤ d → max a c ≤ d
    most a c d x y = omega arith

pub knows_on : (b : Bounds) (t u : Terms) → Later (shape_of b) t u → (v : Pass) → Knows b t v → Knows b u v
knows_on b t u l v k = record { identity = k.identity; start = k.start; number = k.number; right = k.right; entries = k.entries; seen = saw_on (shape_of b) (first_of b) t u l v.seen k.seen }

pub knows_noted : (b : Bounds) (t : Terms) (x : WordStep) (v : Pass) → shown_in v.identity.geometry x ≤ claimed_to (shape_of b) t → Knows b t v → Knows b t (noted x v)
knows_noted b t x v low k = record { identity = k.identity; start = k.start; number = k.number; right = k.right; entries = k.entries; seen = saw_more (shape_of b) (first_of b) t v.seen (shown_in v.identity.geometry x) low k.seen }

pub each_set : (b : Bounds) (t u : Terms) (ps : List Pass) (id : ℕ) (w : Pass) → Later (shape_of b) t u → ((j : ℕ) (v : Pass) → get_elem? ps j ≡ some v → Knows b t v) → Knows b u w
    → (j : ℕ) (v : Pass) → get_elem? (set ps id w) j ≡ some v → Knows b u v
each_set b t u ps id w later each mine j x e = ⊎_elim
    (λ (y : (j ≡ id) × (w ≡ x)). subst (Knows b u) y.1 mine)
    (λ (y : (j ≢ id) × (get_elem? ps j ≡ some x)). knows_on b t u later x (each j x y.1))
    (at_set ps id j w x e)

-- ---- how many are armed

pub on_le : (p : ℕ) (v : Pass) → armed_on p v ≤ v.right.armed
on_le p v = go (nat_eq (v.seen.term % 3) p)
  where
    go : (b : Bool) → cond b v.right.armed 0 ≤ v.right.armed
    go true = omega arith
    go false = omega arith

total_scaled : (f : Pass → ℕ) (vs : List Pass) → total (λ v. 120 * f v) vs ≡ 120 * total f vs
total_scaled f [] = refl
total_scaled f (v ∷ vs) = let e = total_scaled f vs in omega arith

-- at most eight
pub few : (c : ℕ) (vs : List Pass) (f : Pass → ℕ) → ((v : Pass) → f v ≤ v.right.armed) → ((j : ℕ) (v : Pass) → get_elem? vs j ≡ some v → 120 * v.right.armed ≤ v.right.parts) → total parts_of vs ≡ 1024 → c * total f vs ≤ c * 8
few c vs f small able parted =
    let l : total (λ v. 120 * f v) vs ≤ total parts_of vs = total_le (λ v. 120 * f v) parts_of vs (λ j v e. let a = able j v e in let s = small v in omega arith) in
    let s = total_scaled f vs in mul-le-mul_left c (let q : total f vs ≤ 8 = omega arith in q)

pub armed_here : (p : ℕ) (v : Pass) → v.right.armed ≡ 1 → v.seen.term % 3 ≡ p → armed_on p v ≡ 1
armed_here p v one e = ap (λ (b : Bool). cond b v.right.armed 0) (eq-eqb (v.seen.term % 3) p e) ∙ one

pub none_armed : (p : ℕ) (v : Pass) → v.right.armed ≡ 0 → armed_on p v ≡ 0
none_armed p v z = let l = on_le p v in omega arith

pub armed_elsewhere : (p : ℕ) (v : Pass) → v.seen.term % 3 ≢ p → armed_on p v ≡ 0
armed_elsewhere p v ne = ap (λ (b : Bool). cond b v.right.armed 0) (ne_eqb (v.seen.term % 3) p ne)

-- the sums of those armed, after an addition
pub record Disarms (c : ℕ) (ps : List Pass) (id : ℕ) (v w : Pass) : Type 0 where
  pub all : c * total armed_of (set ps id w) + c ≡ c * total armed_of ps
  pub here : (p : ℕ) → v.seen.term % 3 ≡ p → c * total (armed_on p) (set ps id w) + c ≡ c * total (armed_on p) ps
  pub there : (p : ℕ) → c * total (armed_on p) (set ps id w) ≤ c * total (armed_on p) ps

pub disarms : (c : ℕ) (ps : List Pass) (id : ℕ) (v w : Pass) → get_elem? ps id ≡ some v → v.right.armed ≡ 1 → w.right.armed ≡ 0 → Disarms c ps id v w
disarms c ps id v w at one off = record {
  all = one_less armed_of one off;
  here = λ p e. one_less (armed_on p) (armed_here p v one e) (none_armed p w off);
  there = λ p. (let a = total_set (armed_on p) ps id v w at in let z = none_armed p w off in mul-le-mul_left c (let q : total (armed_on p) (set ps id w) ≤ total (armed_on p) ps = omega arith in q));
}
  where
    one_less : (f : Pass → ℕ) → f v ≡ 1 → f w ≡ 0 → c * total f (set ps id w) + c ≡ c * total f ps
    one_less f a z = let s = total_set f ps id v w at in let e : suc (total f (set ps id w)) ≡ total f ps = omega arith in sym (mul-suc c (total f (set ps id w))) ∙ ap (λ (n : ℕ). c * n) e

-- ---- one step for all

abbrev pub Over : Bounds → Terms → List Pass → Type 0
Over b u ps = (k : ℕ) → k ≤ u.newest → u.newest ≤ k + 2 → u.offset k + b.greatest * total (armed_on (k % 3)) ps < size_of b + b.greatest * 8

abbrev pub Room : Bounds → Terms → List Pass → Type 0
Room b u ps = claimed_to (shape_of b) u + b.greatest * total armed_of ps ≤ b.limit + b.greatest * 8

pub moved : (b : Bounds) (ws : List ℕ) (ps : List Pass) (r : ClaimsHold b ws ps) (id : ℕ) (v w : Pass) (ws' : List ℕ) (log' : List Entry) (u : Terms)
    → get_elem? ps id ≡ some v → Later (shape_of b) r.terms u → Tailed (shape_of b) (first_of b) u ws' → Knows b u w → w.right.parts ≡ v.right.parts
    → length ws' ≡ length ws → slice_index ws' 0 ≡ slice_index ws 0 → Over b u (set ps id w)
    → Tiles (size_of b) b.start (claimed_to (shape_of b) u) log' → ((h : Entry → ℕ) → weight h w + total h r.log ≡ weight h v + total h log') → Room b u (set ps id w) → b.floor ≤ claimed_to (shape_of b) u
    → ClaimsHold b ws' (set ps id w)
moved b ws ps r id v w ws' log' u at later tailed mine same wide limit over tiles fair room reached = record {
  sound = r.sound;
  wide = wide ∙ r.wide;
  limit = limit ∙ r.limit;
  terms = u;
  tailed = tailed;
  log = log';
  tiles = tiles;
  fair = λ h. (let a = total_set (weight h) ps id v w at in let c = r.fair h in let d = fair h in sums (total (weight h) (set ps id w)) (weight h v) (total (weight h) ps) (weight h w) (total h r.log) (total h log') a c d);
  reached = reached;
  parted = (let a = total_set parts_of ps id v w at in let c = r.parted in omega arith);
  over = over;
  room = room;
  each = each_set b r.terms u ps id w later r.each mine;
}
  where
    sums : (now v old w log log' : ℕ) → now + v ≡ old + w → old ≡ log → w + log ≡ v + log' → now ≡ log'
    sums now v old w log log' a c d = omega arith

pub same_room : (b : Bounds) (ws : List ℕ) (ps : List Pass) (r : ClaimsHold b ws ps) (id : ℕ) (v w : Pass) → get_elem? ps id ≡ some v → w.right.armed ≡ v.right.armed → Room b r.terms (set ps id w)
same_room b ws ps r id v w at e = let a = total_set armed_of ps id v w at in
    subst (λ (n : ℕ). claimed_to (shape_of b) r.terms + b.greatest * n ≤ b.limit + b.greatest * 8) (let q : total armed_of ps ≡ total armed_of (set ps id w) = omega arith in q) r.room

pub same_over : (b : Bounds) (ws : List ℕ) (ps : List Pass) (r : ClaimsHold b ws ps) (id : ℕ) (v w : Pass) → get_elem? ps id ≡ some v → w.right.armed ≡ v.right.armed → w.seen.term ≡ v.seen.term → Over b r.terms (set ps id w)
same_over b ws ps r id v w at e e' k x y = let c = total_set (armed_on (k % 3)) ps id v w at in
    let same : armed_on (k % 3) w ≡ armed_on (k % 3) v = λ i. cond (nat_eq (e' i % 3) (k % 3)) (e i) 0 in
    subst (λ (n : ℕ). r.terms.offset k + b.greatest * n < size_of b + b.greatest * 8) (let q : total (armed_on (k % 3)) ps ≡ total (armed_on (k % 3)) (set ps id w) = omega arith in q) (r.over k x y)

-- a step that leaves the words and the claims
pub peeked : (b : Bounds) (ws : List ℕ) (ps : List Pass) (r : ClaimsHold b ws ps) (id i : ℕ) (v w : Pass) → get_elem? ps id ≡ some v → Knows b r.terms w → w.right.parts ≡ v.right.parts → w.right.claims ≡ v.right.claims
    → Over b r.terms (set ps id w) → Room b r.terms (set ps id w) → ClaimsHold b (set ws i (slice_index ws i)) (set ps id w)
peeked b ws ps r id i v w at knows same claims over room = subst (λ (l : List ℕ). ClaimsHold b l (set ps id w)) (sym (set-get_or ws i 0))
    (moved b ws ps r id v w ws r.log r.terms at (unchanged (shape_of b) r.terms) r.tailed knows same refl refl over r.tiles (λ h. ap (λ l. total h (map entry_of l) + total h r.log) claims) room r.reached)

-- and also who is armed
pub sighted : (b : Bounds) (ws : List ℕ) (ps : List Pass) (r : ClaimsHold b ws ps) (id i : ℕ) (v w : Pass) → get_elem? ps id ≡ some v → Knows b r.terms w → w.right.parts ≡ v.right.parts → w.right.claims ≡ v.right.claims → w.right.armed ≡ v.right.armed → w.seen.term ≡ v.seen.term
    → ClaimsHold b (set ws i (slice_index ws i)) (set ps id w)
sighted b ws ps r id i v w at knows same claims armed term = peeked b ws ps r id i v w at knows same claims (same_over b ws ps r id v w at armed term) (same_room b ws ps r id v w at armed)

-- ---- the numbers of a log, read off a pass

abbrev pub read_off : Bounds → Pass → Bounds
read_off b v = record b { identity = v.identity; start = v.start }

pub reads : (b : Bounds) (v : Pass) → v.identity ≡ b.identity → v.start ≡ b.start → (ws : List ℕ) (ps : List Pass) → ClaimsHold b ws ps → ClaimsHold (read_off b v) ws ps
reads b v e s ws ps r = subst (λ (x : Identity × ℕ). ClaimsHold (record b { identity = x.0; start = x.1 }) ws ps) (λ i. (sym e i, sym s i)) r

pub reads_back : (b : Bounds) (v : Pass) → v.identity ≡ b.identity → v.start ≡ b.start → (ws : List ℕ) (ps : List Pass) → ClaimsHold (read_off b v) ws ps → ClaimsHold b ws ps
reads_back b v e s ws ps r = subst (λ (x : Identity × ℕ). ClaimsHold (record b { identity = x.0; start = x.1 }) ws ps) (λ i. (e i, s i)) r
