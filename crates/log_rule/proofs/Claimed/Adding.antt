-- An addition to a raw tail keeps the claims' rule: it takes one entry at the end of the stream, or nothing.
use Rattle.std.proofs.Common.{◌≡◌, ℕ, suc, ◌+◌, ◌-◌, ◌*◌, ◌/◌, ◌%◌, ◌^◌, ◌<◌, ◌≤◌, max, min, List, [], ◌∷◌, ◌++◌, map, set, sym, refl, ap, ◌∙◌, subst, lt_of_not-le, mul_assoc, length-set, get_or-set_other, arith}
use mathlib.Core.Option.{some}
use mathlib.Core.Logic.{dite}
use native.Mathlib.Decide.{dec_le, ℕ_discrete}
use lib.ListN.{get_elem?}
use Rattle.std.specs.Prelude.{slice_index}
use Rattle.std.specs.List.{AllByRecursion}
use Rattle.std.proofs.lemmas.Nat.{div-mul-add}
use Rattle.theory.specs.Position.{Geometry, IsGeometry, cuts_of, framed_length, max_message, span}
use Rattle.theory.specs.Entry.{Entry, entry_end, length_of}
use Rattle.theory.specs.Tiling.{InOneTerm, Tiles}
use Rattle.theory.specs.Refusal.{limit_in}
use Rattle.theory.specs.Words.{offset_in}
use Rattle.theory.proofs.Claims.{claim_bounded, span_is}
use Rattle.theory.proofs.Cuts.{cut_units, long_cuts, span_unit}
use Rattle.theory.proofs.Lists.{all_append, all_weaker}
use Rattle.theory.proofs.Places.{power_unit}
use Rattle.theory.proofs.Tiling.{Tiles-push}
use Rattle.publication.specs.declared.pass.ClaimRange.{ClaimRange}
use Rattle.publication.specs.declared.pass.Pass.{Pass}
use Rattle.publication.specs.Orders.{EndBelow, claim_end}
use Rattle.publication.specs.Steps.{Adds, IsTerm, addition, count_in, disarmed, message_at, noted, opened, padding_at, shown_position, start_in, with_full}
use Rattle.log_rule.specs.Claims.Packs.{tail_place}
use Rattle.log_rule.specs.Claims.Sums.{total}
use Rattle.log_rule.specs.Claims.Terms.{Full, Terms, claimed_to}
use Rattle.log_rule.specs.Claims.Rule.{Bounds, ClaimsHold, IsClaimEntry, Knows, armed_of, armed_on, entries_of, entry_of, first_of, shape_of, size_of, weight}
use Rattle.log_rule.specs.Claims.Admits.{Admits}
use Rattle.log_rule.proofs.Claimed.Packs.{at_put, put, put_else, put_here}
use Rattle.log_rule.proofs.Claimed.Totals.{none_behind, total_append, total_at}
use Rattle.log_rule.proofs.Claimed.Tails.{Shows, added, raised, shows}
use Rattle.log_rule.proofs.Claimed.Accounts.{Later, disarms, moved, read_off, saw_on}
use Rattle.log_rule.proofs.Claimed.Shown.{count_is, tail_shows}
use Rattle.log_rule.proofs.Claimed.Looks.{by_pass, ends_at, inside, narrow, newest_of, tail_low, term_short}

-- ---- the entries that it takes

maps_append : {A B : Type 0} (f : A → B) (xs ys : List A) → map f (xs ++ ys) ≡ map f xs ++ map f ys
maps_append f [] ys = refl
maps_append f (x ∷ xs) ys = ap (λ l. f x ∷ l) (maps_append f xs ys)

message_claim : (v : Pass) (n size : ℕ) → IsGeometry v.identity.geometry → v.number < 8 → start_in v.identity.geometry n % 32 ≡ 0 → IsClaimEntry (entry_of (message_at v n size))
message_claim v n size is number unit = let g : Geometry = v.identity.geometry in let least = is.mtu.least in record {
  entry = record {
    owner = number;
    cuts = all_weaker (λ cut. 32 ≤ cut) (λ cut. 0 < cut) (λ cut le. omega arith) (cuts_of g size) (cut_units g size (omega arith));
    long = long_cuts g size (omega arith);
    frames = tt;
  };
  unit = unit;
}

padding_claim : (v : Pass) (n : ℕ) → v.number < 8 → start_in v.identity.geometry n % 32 ≡ 0 → offset_in n < v.identity.geometry.term_length → IsClaimEntry (entry_of (padding_at v n))
padding_claim v n number unit low = record {
  entry = record {
    owner = number;
    cuts = ((let q : 0 < v.identity.geometry.term_length - offset_in n = omega arith in q), tt);
    long = positive (v.identity.geometry.term_length - offset_in n) (omega arith);
    frames = tt;
  };
  unit = unit;
}
  where
    positive : (cut : ℕ) → 0 < cut → 0 < span (cut ∷ [])
    positive cut p = omega arith

-- ---- the stream after it

raised_later : (g : Geometry) (t : Terms) (k n : ℕ) → Later g t (raised t k n)
raised_later g t k n = record { grows = omega arith; fills = λ j le. at_put t.offset k (t.offset k + n) (λ x. g.term_length ≤ x) j (λ e. let e' : t.offset j ≡ t.offset k = ap t.offset e in omega arith) (λ _. le); rises = ends (t.newest * g.term_length) (t.offset t.newest) (put t.offset k (t.offset k + n) t.newest) g.term_length (at_put t.offset k (t.offset k + n) (λ x. t.offset t.newest ≤ x) t.newest (λ e. let e' : t.offset t.newest ≡ t.offset k = ap t.offset e in omega arith) (λ _. same (t.offset t.newest))) }
  where
    same : (o : ℕ) → o ≤ o
    same o = omega arith

    ends : (y o o' l : ℕ) → o ≤ o' → y + min o l ≤ y + min o' l
    ends y o o' l le = omega arith

-- what an addition makes of the stream: the end goes on by what is taken
record Grown (b : Bounds) (t u : Terms) (n : ℕ) (log more : List Entry) : Type 0 where
  pub tiles : Tiles (size_of b) b.start (claimed_to (shape_of b) u) (log ++ more)
  pub rises : claimed_to (shape_of b) t ≤ claimed_to (shape_of b) u
  pub ends : claimed_to (shape_of b) u ≤ claimed_to (shape_of b) t + n

append_none : {A : Type 0} (xs : List A) → xs ++ [] ≡ xs
append_none [] = refl
append_none (x ∷ xs) = ap {B = List _} (λ l. x ∷ l) (append_none xs)

grows_none : (b : Bounds) (t u : Terms) (n : ℕ) (log : List Entry) → Tiles (size_of b) b.start (claimed_to (shape_of b) t) log → claimed_to (shape_of b) u ≡ claimed_to (shape_of b) t → Grown b t u n log []
grows_none b t u n log tiles same = record {
  tiles = subst (λ (l : List Entry). Tiles (size_of b) b.start (claimed_to (shape_of b) u) l) (sym (append_none log)) (subst (λ (z : ℕ). Tiles (size_of b) b.start z log) (sym same) tiles);
  rises = omega arith;
  ends = omega arith;
}

-- the entry at the end of the stream, which stays within the term
grows_one : (b : Bounds) (t u : Terms) (n k o : ℕ) (log : List Entry) (e : Entry) → Tiles (size_of b) b.start (claimed_to (shape_of b) t) log → claimed_to (shape_of b) t ≡ k * size_of b + o → o < size_of b → e.start ≡ k * size_of b + o → o + length_of e ≤ size_of b → length_of e ≤ n
    → claimed_to (shape_of b) u ≡ claimed_to (shape_of b) t + length_of e → Grown b t u n log (e ∷ [])
grows_one b t u n k o log e tiles here low begins fit le ends =
    let size : ℕ = size_of b in let tail : ℕ = claimed_to (shape_of b) t in let x : ℕ = k * size in let m : ℕ = length_of e in let s : ℕ = e.start in
    let s_is : s ≡ x + o = begins in let tail_is : tail ≡ x + o = here in
    let whole : tail / size ≡ k = ap (λ (z : ℕ). z / size) here ∙ div-mul-add k size o low in
    let one : InOneTerm size tail (s + m) = subst (λ (z : ℕ). s + m ≤ z * size + size) (sym whole) (let q : s + m ≤ x + size = omega arith in q) in
    record {
      tiles = subst (λ (z : ℕ). Tiles size b.start z (log ++ e ∷ [])) (let q : s + m ≡ claimed_to (shape_of b) u = ap (λ (z : ℕ). z + m) (begins ∙ sym here) ∙ sym ends in q) (Tiles-push size b.start tail log e tiles (begins ∙ sym here) one);
      rises = (let a : claimed_to (shape_of b) u ≡ tail + m = ends in omega arith);
      ends = (let a : claimed_to (shape_of b) u ≡ tail + m = ends in omega arith);
    }

-- ---- the step

-- all that an addition of n bytes at the tail of the count for which the pass is armed changes
record Adding (b : Bounds) (ws : List ℕ) (ps : List Pass) (r : ClaimsHold b ws ps) (id : ℕ) (v : Pass) (n : ℕ) : Type 0 where
  pub sh : Shows (shape_of b) r.terms ws v.seen.term
  pub fits : r.terms.offset sh.k + n < 4294967296
  pub build : (w : Pass) (more : List Entry) → Knows b (raised r.terms sh.k n) w → w.right.armed ≡ 0 → w.right.parts ≡ v.right.parts → entries_of w ≡ entries_of v ++ more → Grown b r.terms (raised r.terms sh.k n) n r.log more
      → ClaimsHold b (set ws (tail_place v.seen.term) ((slice_index ws (tail_place v.seen.term) + n) % 2 ^ 64)) (set ps id w)

adding : (b : Bounds) (ws : List ℕ) (ps : List Pass) (r : ClaimsHold b ws ps) (id : ℕ) (v : Pass) (n : ℕ) → get_elem? ps id ≡ some v → v.right.armed ≡ 1 → n % 32 ≡ 0 → n ≤ b.greatest → Adding b ws ps r id v n
adding b ws ps r id v n at armed unit le =
    let g = shape_of b in let t = r.terms in let p : ℕ = v.seen.term in let kn = r.each id v at in let so = r.sound in
    let sh = shows g (first_of b) t ws so.geometry.initial r.tailed (narrow b ws ps r) p kn.seen.term.1 in let k : ℕ = sh.k in let low = sh.low in let high = sh.high in
    let there : k % 3 * 16 + 32 ≡ p % 3 * 16 + 32 = sh.there in let on_it : p % 3 ≡ k % 3 = omega arith in
    let idle : Pass = disarmed v in
    let fits : t.offset k + n < 4294967296 = (let h = (disarms b.greatest ps id v idle at armed refl).here (k % 3) on_it in let s = term_short b so in
    bound (t.offset k) n (b.greatest * total (armed_on (k % 3)) (set ps id idle)) (b.greatest * total (armed_on (k % 3)) ps) (size_of b) b.greatest h (r.over k low high) le s.0 s.2) in record {
      sh = sh;
      fits = fits;
      build = λ w more knows off parts entries grown. (let u : Terms = raised t k n in let d = disarms b.greatest ps id v w at armed off in let i : ℕ = tail_place p in let ws' : List ℕ = set ws i ((slice_index ws i + n) % 2 ^ 64) in
          moved b ws ps r id v w ws' (r.log ++ more) u at (raised_later g t k n)
          (added g (first_of b) t ws r.tailed p n sh unit fits (inside b ws ps r i (tail_low p))) knows parts (length-set ws i ((slice_index ws i + n) % 2 ^ 64)) (get_or-set_other ws i 0 ((slice_index ws i + n) % 2 ^ 64) 0 (λ e. omega arith))
          (λ j x y. dite (ℕ_discrete j k)
          (λ e. less_here (u.offset j) (t.offset j) n (b.greatest * total (armed_on (j % 3)) (set ps id w)) (b.greatest * total (armed_on (j % 3)) ps) (size_of b) b.greatest
          (d.here (j % 3) (on_it ∙ ap (λ (z : ℕ). z % 3) (sym e))) (r.over j x y) le (ap u.offset e ∙ put_here t.offset k (t.offset k + n) ∙ ap (λ (z : ℕ). t.offset z + n) (sym e)))
          (λ ne. less_there (u.offset j) (t.offset j) (b.greatest * total (armed_on (j % 3)) (set ps id w)) (b.greatest * total (armed_on (j % 3)) ps) (size_of b) b.greatest (d.there (j % 3)) (r.over j x y) (put_else t.offset k (t.offset k + n) j ne)))
          grown.tiles
          (λ h. sums (weight h w) (weight h v) (total h more) (total h r.log) (total h (r.log ++ more)) (ap (total h) entries ∙ total_append h (entries_of v) more) (total_append h r.log more))
          (roomy (claimed_to g u) (claimed_to g t) n (b.greatest * total armed_of (set ps id w)) (b.greatest * total armed_of ps) b.limit b.greatest d.all r.room grown.ends le)
          (let a = r.reached in let c = grown.rises in past b.floor (claimed_to g t) (claimed_to g u) a c));
    }
  where
    bound : (o n x x' size c : ℕ) → x + c ≡ x' → o + x' < size + c * 8 → n ≤ c → size ≤ 16777216 → c ≤ size / 7 + 63 → o + n < 4294967296
    bound o n x x' size c h over le most few = omega arith

    less_here : (new o n x x' size c : ℕ) → x + c ≡ x' → o + x' < size + c * 8 → n ≤ c → new ≡ o + n → new + x < size + c * 8
    less_here new o n x x' size c h over le e = omega arith

    less_there : (new o x x' size c : ℕ) → x ≤ x' → o + x' < size + c * 8 → new ≡ o → new + x < size + c * 8
    less_there new o x x' size c h over e = omega arith

    sums : (w v more log both : ℕ) → w ≡ v + more → both ≡ log + more → w + log ≡ v + both
    sums w v more log both a c = omega arith

    roomy : (new old n x x' limit c : ℕ) → x + c ≡ x' → old + x' ≤ limit + c * 8 → new ≤ old + n → n ≤ c → new + x ≤ limit + c * 8
    roomy new old n x x' limit c h room ends le = omega arith

    past : (floor old new : ℕ) → floor ≤ old → old ≤ new → floor ≤ new
    past floor old new a c = omega arith

-- what a pass knows that has added, and is armed no more
knows_added : (b : Bounds) (t u : Terms) → Later (shape_of b) t u → (v w : Pass) → Knows b t v → w.identity ≡ v.identity → w.start ≡ v.start → w.number ≡ v.number → w.right.limit ≡ v.right.limit → w.right.armed ≡ 0 → w.right.parts ≡ v.right.parts → 0 < v.right.parts
    → w.seen.count ≡ v.seen.count → w.seen.term ≡ v.seen.term → w.seen.begun ≡ v.seen.begun → ((k : ℕ) → w.seen.full ≡ suc k → Full (shape_of b) (first_of b) u k) → w.seen.shown ≤ claimed_to (shape_of b) u → AllByRecursion IsClaimEntry (entries_of w) → Knows b u w
knows_added b t u later v w k identity start number limit off parts able count term begun full shown entries = let saw = saw_on (shape_of b) (first_of b) t u later v.seen k.seen in record {
  identity = identity ∙ k.identity;
  start = start ∙ k.start;
  number = (let n = k.number in omega arith);
  right = record { capped = subst (λ (n : ℕ). limit_in n ≤ b.limit) (sym limit) k.right.capped; able = omega arith; once = omega arith; idle = λ z. absurd (omega arith) };
  entries = entries;
  seen = record {
    count = subst (λ (n : ℕ). (first_of b ≤ n) × (n ≤ u.newest)) (sym count) saw.count;
    term = subst (λ (n : ℕ). (first_of b ≤ n) × (n ≤ u.newest)) (sym term) saw.term;
    full = full;
    begun = subst (λ (n : ℕ). n ≤ u.newest) (sym begun) saw.begun;
    shown = shown;
  };
}

-- ---- what the pass has claimed

all_behind_none : (q : ℕ) (cs : List ClaimRange) → total (λ e. entry_end e - q) (map entry_of cs) ≡ 0 → EndBelow q cs
all_behind_none q [] none = tt
all_behind_none q (c ∷ cs) none = let parts = no_parts (claim_end c - q) (total (λ e. entry_end e - q) (map entry_of cs)) none in (within (claim_end c) q parts.0, all_behind_none q cs parts.1)
  where
    no_parts : (a d : ℕ) → a + d ≡ 0 → (a ≡ 0) × (d ≡ 0)
    no_parts a d e = (omega arith, omega arith)

    within : (a d : ℕ) → a - d ≡ 0 → a ≤ d
    within a d e = omega arith

-- it ends at the tail of the stream, or below
claims_end : (b : Bounds) (ws : List ℕ) (ps : List Pass) (r : ClaimsHold b ws ps) (id : ℕ) (v : Pass) → get_elem? ps id ≡ some v → EndBelow (claimed_to (shape_of b) r.terms) v.right.claims
claims_end b ws ps r id v at =
    let q : ℕ = claimed_to (shape_of b) r.terms in let past : Entry → ℕ = λ e. entry_end e - q in
    all_behind_none q v.right.claims (least (weight past v) (total (weight past) ps) (total_at (weight past) ps id v at) (r.fair past ∙ none_behind (size_of b) b.start q r.log r.tiles))
  where
    least : (a n : ℕ) → a ≤ n → n ≡ 0 → a ≡ 0
    least a n le e = omega arith

-- ---- where it stands

unit_times : (k size : ℕ) → size % 32 ≡ 0 → (k * size) % 32 ≡ 0
unit_times k size e =
    let parts : size ≡ size / 32 * 32 = omega arith in
    let product : k * size ≡ k * (size / 32) * 32 = ap (λ (z : ℕ). k * z) parts ∙ sym (mul_assoc k (size / 32) 32) in
    let x : ℕ = k * (size / 32) in let product' : k * size ≡ x * 32 = product in omega arith

-- what the addition found: the count of the partition's term and the offset in it
record Found (b : Bounds) (t : Terms) (v : Pass) (n y k o : ℕ) : Type 0 where
  pub low : k ≤ t.newest
  pub from : first_of b ≤ k
  pub small : k < 2 ^ 31
  pub offset : t.offset k ≡ o
  pub off : offset_in y ≡ o
  pub count : count_in (shape_of b) y ≡ k
  pub start : start_in (shape_of b) y ≡ k * size_of b + o
  pub unit : o % 32 ≡ 0
  pub start_unit : start_in (shape_of b) y % 32 ≡ 0
  pub size_unit : size_of b % 32 ≡ 0

finding : (b : Bounds) (ws : List ℕ) (ps : List Pass) (r : ClaimsHold b ws ps) (v : Pass) (n : ℕ) → Knows b r.terms v → (sh : Shows (shape_of b) r.terms ws v.seen.term) → Found b r.terms v n (slice_index ws (tail_place v.seen.term)) sh.k (r.terms.offset sh.k)
finding b ws ps r v n kn sh =
    let g = shape_of b in let t = r.terms in let y : ℕ = slice_index ws (tail_place v.seen.term) in let k : ℕ = sh.k in let o : ℕ = t.offset k in let low = sh.low in let up = sh.up in let to = r.tailed.turns.to in let seen = kn.seen.term in let is = r.sound.geometry in
    let small : k < 2147483648 = omega arith in
    let count_k : count_in g y ≡ k = count_is g y k is small sh.id in
    let whole : size_of b % 32 ≡ 0 = power_unit (size_of b) is.term.power is.term.least in
    let unit : o % 32 ≡ 0 = r.tailed.turns.units k in
    let start_is : start_in g y ≡ k * size_of b + o = (λ i. count_k i * size_of b + sh.off i) in
    let product : (k * size_of b) % 32 ≡ 0 = unit_times k (size_of b) whole in let x : ℕ = k * size_of b in
    record {
      low = low;
      from = omega arith;
      small = small;
      offset = refl;
      off = sh.off;
      count = count_k;
      start = start_is;
      unit = unit;
      start_unit = ap (λ (z : ℕ). z % 32) start_is ∙ (let xu : x % 32 ≡ 0 = product in let q : (x + o) % 32 ≡ 0 = omega arith in q);
      size_unit = whole;
    }

full_after : (b : Bounds) (t : Terms) (k n : ℕ) → first_of b ≤ k → k ≤ t.newest → size_of b ≤ t.offset k + n → (c j : ℕ) → c ≡ k → suc c ≡ suc j → Full (shape_of b) (first_of b) (raised t k n) j
full_after b t k n from low le c j is e = subst (Full (shape_of b) (first_of b) (raised t k n)) (let q : k ≡ j = omega arith in q) (from, low, subst (λ (z : ℕ). size_of b ≤ z) (sym (put_here t.offset k (t.offset k + n))) le)

-- a full term's end stays where it is
ends_full : (g : Geometry) (t : Terms) (k n : ℕ) → g.term_length ≤ t.offset k → claimed_to g (raised t k n) ≡ claimed_to g t
ends_full g t k n le = ap (λ (z : ℕ). t.newest * g.term_length + z) (at_put t.offset k (t.offset k + n) (λ (z : ℕ). min z g.term_length ≡ min (t.offset t.newest) g.term_length) t.newest
    (λ e. let o : t.offset t.newest ≡ t.offset k = ap t.offset e in capped (t.offset t.newest) (t.offset k) n g.term_length o le) (λ _. refl))
  where
    capped : (a o n size : ℕ) → a ≡ o → size ≤ o → min (o + n) size ≡ min a size
    capped a o n size e le = omega arith

-- and that of one that isn't full goes on
ends_more : (g : Geometry) (t : Terms) (k n m : ℕ) → k ≡ t.newest → t.offset k < g.term_length → min (t.offset k + n) g.term_length ≡ t.offset k + m → claimed_to g (raised t k n) ≡ claimed_to g t + m
ends_more g t k n m top low e =
    let x : ℕ = k * g.term_length in
    let after : claimed_to g (raised t k n) ≡ k * g.term_length + (t.offset k + m) = ap (λ (z : ℕ). z * g.term_length + min (put t.offset k (t.offset k + n) z) g.term_length) (sym top) ∙ ap (λ (z : ℕ). k * g.term_length + min z g.term_length) (put_here t.offset k (t.offset k + n)) ∙ ap (λ (z : ℕ). k * g.term_length + z) e in
    let before : claimed_to g t ≡ k * g.term_length + t.offset k = ends_at g t k (t.offset k) top refl low in
    let after' : claimed_to g (raised t k n) ≡ x + (t.offset k + m) = after in let before' : claimed_to g t ≡ x + t.offset k = before in omega arith

add_at : (id : ℕ) (v : Pass) (size : ℕ) → 120 ≤ v.right.parts → v.right.armed ≡ 1 → size ≤ max_message v.identity.geometry → (b : Bounds)
    → Admits (ClaimsHold (read_off b v)) id v (tail_place v.seen.term) (λ y. (y + framed_length v.identity.geometry size) % 2 ^ 64) (λ y w. Adds v size y w)
add_at id v size able armed short b' ws ps r at =
    let b : Bounds = read_off b' v in let g : Geometry = v.identity.geometry in let long : ℕ = g.term_length in let n : ℕ = framed_length g size in let t = r.terms in let kn = r.each id v at in let so = r.sound in let is = so.geometry in
    let y : ℕ = slice_index ws (tail_place v.seen.term) in let x = addition v size y in
    let taken : span (cuts_of g size) ≡ n = span_is g is.mtu.unit is.mtu.least size in
    let unit_n : n % 32 ≡ 0 = subst (λ (z : ℕ). z % 32 ≡ 0) taken (span_unit (cuts_of g size)) in
    let le : n ≤ b.greatest = subst (λ (z : ℕ). n ≤ z) (sym so.greatest) (claim_bounded g size is short).0 in
    let ad = adding b ws ps r id v n at armed unit_n le in let k : ℕ = ad.sh.k in let o : ℕ = t.offset k in let u : Terms = raised t k n in let later = raised_later g t k n in
    let f = finding b ws ps r v n kn ad.sh in let off_is : offset_in y ≡ o = f.off in
    let term : IsTerm v (count_in g y) = subst (IsTerm v) (sym f.count) record { begun = f.from; small = f.small } in
    let unit_y : offset_in y % 32 ≡ 0 = ap (λ (z : ℕ). z % 32) off_is ∙ f.unit in
    let fits = ad.fits in let thin : offset_in y + n < 4294967296 = subst (λ (z : ℕ). z + n < 4294967296) (sym off_is) fits in
    let shown : max v.seen.shown (shown_position g y) ≤ claimed_to g u = most v.seen.shown (shown_position g y) (claimed_to g t) (claimed_to g u) kn.seen.shown (tail_shows g (first_of b) t ws is r.tailed (narrow b ws ps r) v.seen.term) later.rises in
    let some_parts : 0 < v.right.parts = omega arith in let some_n : 0 < n = subst (λ (z : ℕ). 0 < z) taken (long_cuts g size (let q = is.mtu.least in omega arith)) in
    dite (dec_le long o)
    (λ (full : long ≤ o). let w = noted x (with_full (disarmed v) (count_in g y)) in (
      w,
      ad.build w [] (knows_added b t u later v w kn refl refl refl refl refl refl some_parts refl refl refl (λ j e. full_after b t k n f.from f.low (let q : long ≤ o + n = omega arith in q) (count_in g y) j f.count e) shown kn.entries) refl refl (sym (append_none (entries_of v)))
          (grows_none b t u n r.log r.tiles (ends_full g t k n full)),
      record { term = term; unit = unit_y; narrow = thin; fits = λ q. absurd (let z : offset_in y + n ≤ long = q in omega arith); trips = λ q _. absurd (omega arith); over = λ _. refl; behind = λ q. absurd (let z : offset_in y < long = q in omega arith) },
    ))
    (λ not_full. let lt : o < long = lt_of_not-le not_full in let top = newest_of g (first_of b) t r.tailed.turns k f.from f.low lt in
    let behind : offset_in y < long → EndBelow (start_in g y) v.right.claims = λ _. subst (λ (z : ℕ). EndBelow z v.right.claims) (ends_at g t k o top refl lt ∙ sym f.start) (claims_end b ws ps r id v at) in
    dite (dec_le (o + n) long)
    (λ (le' : o + n ≤ long). let c = message_at v y size in let e = entry_of c in let w = noted x (opened v c) in (
      w,
      ad.build w (e ∷ []) (knows_added b t u later v w kn refl refl refl refl refl refl some_parts refl refl refl (saw_on g (first_of b) t u later v.seen kn.seen).full shown
          (subst (AllByRecursion IsClaimEntry) (sym (maps_append entry_of v.right.claims (c ∷ []))) (all_append IsClaimEntry (entries_of v) (e ∷ []) kn.entries (message_claim v y size is kn.number f.start_unit, tt)))) refl refl (maps_append entry_of v.right.claims (c ∷ []))
          (grows_one b t u n k o r.log e r.tiles (ends_at g t k o top refl lt) lt f.start (subst (λ (z : ℕ). o + z ≤ long) (sym taken) le') (let q : span (cuts_of g size) ≤ n = omega arith in q)
          (ends_more g t k n n top lt (let q : min (o + n) long ≡ o + n = omega arith in q) ∙ ap (λ (z : ℕ). claimed_to g t + z) (sym taken))),
      record { term = term; unit = unit_y; narrow = thin; fits = λ _. refl; trips = λ _ q. absurd (omega arith); over = λ q. absurd (omega arith); behind = behind },
    ))
    (λ not_fits. let past : long < o + n = lt_of_not-le not_fits in let c = padding_at v y in let e = entry_of c in let w = noted x (with_full (opened v c) (count_in g y)) in
    let rest : ℕ = long - o in let room : offset_in y < long = subst (λ (z : ℕ). z < long) (sym off_is) lt in
    let padded : length_of e ≡ rest = (let cut : long - offset_in y ≡ rest = ap (λ (z : ℕ). long - z) off_is in ap (λ (z : ℕ). span (z ∷ [])) cut ∙ rest_span rest (let a = f.unit in let d = f.size_unit in let q : rest % 32 ≡ 0 = omega arith in q)) in (
      w,
      ad.build w (e ∷ []) (knows_added b t u later v w kn refl refl refl refl refl refl some_parts refl refl refl (λ j q. full_after b t k n f.from f.low (let z : long ≤ o + n = omega arith in z) (count_in g y) j f.count q) shown
          (subst (AllByRecursion IsClaimEntry) (sym (maps_append entry_of v.right.claims (c ∷ []))) (all_append IsClaimEntry (entries_of v) (e ∷ []) kn.entries (padding_claim v y kn.number f.start_unit room, tt)))) refl refl (maps_append entry_of v.right.claims (c ∷ []))
          (grows_one b t u n k o r.log e r.tiles (ends_at g t k o top refl lt) lt f.start (subst (λ (z : ℕ). o + z ≤ long) (sym padded) (let q : o + rest ≤ long = omega arith in q)) (subst (λ (z : ℕ). z ≤ n) (sym padded) (let q : rest ≤ n = omega arith in q))
          (ends_more g t k n rest top lt (let q : min (o + n) long ≡ o + rest = omega arith in q) ∙ ap (λ (z : ℕ). claimed_to g t + z) (sym padded))),
      record { term = term; unit = unit_y; narrow = thin; fits = λ q. absurd (omega arith); trips = λ _ _. refl; over = λ q. absurd (omega arith); behind = behind },
    )))
  where
    most : (a c d e : ℕ) → a ≤ d → c ≤ d → d ≤ e → max a c ≤ e
    most a c d e x y z = omega arith

    rest_span : (n : ℕ) → n % 32 ≡ 0 → span (n ∷ []) ≡ n
    rest_span n e = omega arith

pub add : (b : Bounds) (id : ℕ) (v : Pass) (size : ℕ) → 120 ≤ v.right.parts → v.right.armed ≡ 1 → size ≤ max_message v.identity.geometry
    → Admits (ClaimsHold b) id v (tail_place v.seen.term) (λ y. (y + framed_length v.identity.geometry size) % 2 ^ 64) (λ y w. Adds v size y w)
add b id v size able armed short = by_pass id v (tail_place v.seen.term) (λ y. (y + framed_length v.identity.geometry size) % 2 ^ 64) (λ y w. Adds v size y w) (add_at id v size able armed short) b
