-- The words of a log that opens obey the rule, and so do its first passes.
use Rattle.std.proofs.Common.{zero-le, ◌≡◌, ◌≢◌, ℕ, zero, suc, ◌+◌, ◌-◌, ◌*◌, ◌/◌, ◌%◌, ◌<◌, ◌≤◌, min, List, [], ◌∷◌, ◌++◌, map, replicate, length, set, length-set, get_or-set_same, get_or-set_other, sym, refl, ap, ◌∙◌, subst, ⊎_elim, suc-ne-zero, mul-zero, mul-le-mul_left, mul_comm, mod-lt, lt_of_not-le, div-add-mod', arith}
use mathlib.Core.Option.{some, some-injective, some-ne-none}
use mathlib.Core.Logic.{dite}
use native.Mathlib.Decide.{dec_le, ℕ_discrete}
use lib.ListN.{get_elem?}
use Rattle.std.specs.Prelude.{slice_index}
use Rattle.std.proofs.lemmas.List.{length-replicate}
use Rattle.atomic_table.proofs.Lists.{at_set, at_snoc}
use Rattle.theory.specs.Position.{Geometry, IsGeometry, id_of, max_position}
use Rattle.theory.specs.Entry.{Entry, length_of}
use Rattle.theory.specs.Refusal.{limit_in}
use Rattle.theory.specs.Words.{id_before, tail_word}
use Rattle.theory.proofs.Places.{mod_unit, power_half, power_unit}
use Rattle.publication.specs.declared.pass.Pass.{Pass}
use Rattle.log_rule.specs.declared.claims.view.Origin.{Origin}
use Rattle.log_rule.specs.Claims.Packs.{count_place, data_place, slot, table_length, tail_place}
use Rattle.log_rule.specs.Claims.Sums.{total}
use Rattle.log_rule.specs.Claims.Terms.{Tailed, Terms, claimed_to}
use Rattle.log_rule.specs.Claims.Rule.{Bounds, Knows, Sound, armed_of, armed_on, first_of, parts_of, shape_of, size_of, weight}
use Rattle.log_rule.specs.Claims.Memory.{Ruled, Stored}
use Rattle.log_rule.specs.Claims.Openings.{Fresh}
use Rattle.log_rule.specs.Claims.Plays.{bounds_of, dealer, dealt, first_seat, newcomer, pass_in}
use Rattle.publication.proofs.Packed.{before_count}
use Rattle.log_rule.proofs.Claimed.Packs.{put, at_put, put_else, put_here}
use Rattle.log_rule.proofs.Claimed.Totals.{total_append, total_set}
use Rattle.log_rule.proofs.Claimed.Accounts.{each_set, none_armed, unchanged}
use Rattle.log_rule.specs.Claims.Sure.{controls_in, fresh_controls}
use Rattle.log_rule.proofs.Claimed.Looks.{min_of_le, term_short}

-- ---- the words of a log that opens

pub first_low : (b : Bounds) → Sound b → first_of b < 2147483648
first_low b so = low b.start (size_of b) (first_of b) (b.start % size_of b) (div-add-mod' b.start (size_of b)) so.below
  where
    low : (s t q m : ℕ) → q * t + m ≡ s → s < t * 2147483648 → q < 2147483648
    low s t q m e lt = dite (dec_le 2147483648 q) (λ le. absurd (let a : t * 2147483648 ≤ t * q = mul-le-mul_left t le in let x : ℕ = q * t in let c : t * q ≡ x = mul_comm t q in omega arith)) (λ no. let a = lt_of_not-le no in a)

abbrev fresh_terms : Bounds → Terms
fresh_terms b = record { newest = first_of b; offset = put (λ _. 0) (first_of b) (b.start % size_of b) }

fresh_tailed : (b : Bounds) (ws : List ℕ) → Sound b → Fresh b ws → Tailed (shape_of b) (first_of b) (fresh_terms b) ws
fresh_tailed b ws so f =
    let g = shape_of b in let k : ℕ = first_of b in let off : ℕ = b.start % size_of b in let t = fresh_terms b in let low = first_low b so in
    let at : t.offset k ≡ off = put_here (λ _. 0) k off in
    let none : (j : ℕ) → j ≢ k → t.offset j ≡ 0 = λ j ne. put_else (λ _. 0) k off j ne in
    let is = so.geometry in let s = term_short b so in let unit : size_of b % 32 ≡ 0 = power_unit (size_of b) is.term.power is.term.least in
    let back_word : (back : ℕ) → 0 < back → back < 3 → slice_index ws (tail_place (k + 3 - back)) ≡ tail_word (id_before g k back) 0 = λ back pos lt. dite (ℕ_discrete back 1)
    (λ one. (λ i. slice_index ws (tail_place (k + 3 - one i))) ∙ (let q : tail_place (k + 3 - 1) ≡ tail_place (k + 2) = ap tail_place (let z : k + 3 - 1 ≡ k + 2 = omega arith in z) in ap (slice_index ws) q) ∙ f.last ∙ (λ i. tail_word (id_before g k (sym one i)) 0))
    (λ more. let two : back ≡ 2 = omega arith in (λ i. slice_index ws (tail_place (k + 3 - two i))) ∙ (let q : tail_place (k + 3 - 2) ≡ tail_place (k + 1) = ap tail_place (let z : k + 3 - 2 ≡ k + 1 = omega arith in z) in ap (slice_index ws) q) ∙ f.next ∙ (λ i. tail_word (id_before g k (sym two i)) 0)) in
    record {
      turns = record {
        from = omega arith;
        to = low;
        done = λ j a c. absurd (omega arith);
        after = λ j lt. none j (λ e. omega arith);
        units = λ j. at_put (λ _. 0) k off (λ (x : ℕ). x % 32 ≡ 0) j (λ _. mod_unit b.start (size_of b) (omega arith) unit so.unit) (λ _. refl);
      };
      active = (let e = f.count in let a : k ≤ slice_index ws count_place = omega arith in let c : slice_index ws count_place ≤ k = omega arith in (a, c));
      tails = λ j a c. dite (ℕ_discrete j k)
          (λ e. subst (λ (z : ℕ). slice_index ws (tail_place z) ≡ tail_word (id_of g z) (t.offset z)) (sym e) (f.here ∙ ap (tail_word (id_of g k)) (sym at)))
          (λ ne. let back : ℕ = k - j in let le : back ≤ k = omega arith in let is_j : k - back ≡ j = omega arith in
          let spot : tail_place j ≡ tail_place (k + 3 - back) = omega arith in
          ap (slice_index ws) spot ∙ back_word back (omega arith) (omega arith) ∙ (λ i. tail_word (before_count g is.initial k back (omega arith) le (omega arith) i) 0) ∙ (λ i. tail_word (id_of g (is_j i)) (sym (none j ne) i)));
      unused = λ back a c. back_word back (omega arith) c;
    }

zero_at : (n i : ℕ) → slice_index (replicate {A = ℕ} n 0) i ≡ 0
zero_at zero i = refl
zero_at (suc n) zero = refl
zero_at (suc n) (suc i) = zero_at n i

limit_is : (start size : ℕ) → start % 32 ≡ 0 → size % 64 ≡ 0 → limit_in (start + size / 2 + 1) ≡ start + size / 2
limit_is start size a c = omega arith

pub sound_key : (key : Origin) → IsGeometry key.identity.geometry → key.start % 32 ≡ 0 → key.start < max_position key.identity.geometry → Sound (bounds_of key)
sound_key key is unit below = record { geometry = is; unit = unit; below = below; greatest = refl; limit = limit_is key.start key.identity.geometry.term_length unit (power_half key.identity.geometry.term_length is.term.power is.term.least) }

-- the words, as they are set
pub fresh_words : (key : Origin) → Sound (bounds_of key) → (n i j k x y z : ℕ) → n ≡ table_length key.identity.geometry → i ≡ tail_place (first_of (bounds_of key)) → j ≡ tail_place (first_of (bounds_of key) + 1) → k ≡ tail_place (first_of (bounds_of key) + 2)
    → x ≡ tail_word (id_of key.identity.geometry (first_of (bounds_of key))) (key.start % key.identity.geometry.term_length) → y ≡ tail_word (id_before key.identity.geometry (first_of (bounds_of key)) 2) 0 → z ≡ tail_word (id_before key.identity.geometry (first_of (bounds_of key)) 1) 0
    → Fresh (bounds_of key) (set (set (set (set (set (replicate {A = ℕ} n 0) 0 (key.start + key.identity.geometry.term_length / 2 + 1)) 16 (first_of (bounds_of key))) i x) j y) k z)
fresh_words key so n i j k x y z wide ei ej ek ex ey ez =
    let b = bounds_of key in let c : ℕ = first_of b in let l : ℕ = key.start + key.identity.geometry.term_length / 2 + 1 in
    let w0 : List ℕ = replicate {A = ℕ} n 0 in let w1 : List ℕ = set w0 0 l in let w2 : List ℕ = set w1 16 c in let w3 : List ℕ = set w2 i x in let w4 : List ℕ = set w3 j y in let w5 : List ℕ = set w4 k z in
    let long0 : length w0 ≡ n = length-replicate {A = ℕ} n 0 in let long1 : length w1 ≡ n = length-set w0 0 l ∙ long0 in let long2 : length w2 ≡ n = length-set w1 16 c ∙ long1 in let long3 : length w3 ≡ n = length-set w2 i x ∙ long2 in let long4 : length w4 ≡ n = length-set w3 j y ∙ long3 in let long5 : length w5 ≡ n = length-set w4 k z ∙ long4 in
    let li : (i < 208) × (32 ≤ i) = (omega arith, omega arith) in let lj : (j < 208) × (32 ≤ j) = (omega arith, omega arith) in let lk : (k < 208) × (32 ≤ k) = (omega arith, omega arith) in
    let ij : i ≢ j = (λ e. apart c 1 (omega arith) (omega arith) (sym ei ∙ e ∙ ej)) in let ik : i ≢ k = (λ e. apart c 2 (omega arith) (omega arith) (sym ei ∙ e ∙ ek)) in let jk : j ≢ k = (λ e. apart_next c (sym ej ∙ e ∙ ek)) in
    let low : 208 ≤ n = omega arith in
    let else_is : (m : ℕ) → m ≢ i → m ≢ j → m ≢ k → slice_index w5 m ≡ slice_index w2 m = λ m a d e. get_or-set_other w4 k m z 0 e ∙ get_or-set_other w3 j m y 0 d ∙ get_or-set_other w2 i m x 0 a in
    record {
      wide = long5 ∙ wide;
      limit = else_is 0 (λ e. omega arith) (λ e. omega arith) (λ e. omega arith) ∙ get_or-set_other w1 16 0 c 0 (λ e. omega arith) ∙ get_or-set_same w0 0 l 0 (let q : 0 < length w0 = omega arith in q);
      count = else_is 16 (λ e. omega arith) (λ e. omega arith) (λ e. omega arith) ∙ get_or-set_same w1 16 c 0 (let q : 16 < length w1 = omega arith in q);
      here = ap (slice_index w5) (sym ei) ∙ get_or-set_other w4 k i z 0 ik ∙ get_or-set_other w3 j i y 0 ij ∙ get_or-set_same w2 i x 0 (let q : i < length w2 = omega arith in q) ∙ ex;
      next = ap (slice_index w5) (sym ej) ∙ get_or-set_other w4 k j z 0 jk ∙ get_or-set_same w3 j y 0 (let q : j < length w3 = omega arith in q) ∙ ey;
      last = ap (slice_index w5) (sym ek) ∙ get_or-set_same w4 k z 0 (let q : k < length w4 = omega arith in q) ∙ ez;
      others = λ m o. else_is m (λ e. o.here (e ∙ ei)) (λ e. o.next (e ∙ ej)) (λ e. o.last (e ∙ ek)) ∙ get_or-set_other w1 16 m c 0 o.count ∙ get_or-set_other w0 0 m l 0 o.limit ∙ zero_at n m;
    }
  where
    apart : (c d : ℕ) → 0 < d → d < 3 → tail_place c ≡ tail_place (c + d) → ⊥
    apart c d p q e = omega arith

    apart_next : (c : ℕ) → tail_place (c + 1) ≡ tail_place (c + 2) → ⊥
    apart_next c e = omega arith

-- the words of the stream are zero
pub fresh_zeros : (b : Bounds) (ws : List ℕ) → Fresh b ws → (i : ℕ) → data_place ≤ i → slice_index ws i ≡ 0
fresh_zeros b ws f i far = f.others i (record { limit = λ e. omega (arith, e, far); count = λ e. omega (arith, e, far); here = past (first_of b) i far; next = past (first_of b + 1) i far; last = past (first_of b + 2) i far })
  where
    past : (c i : ℕ) → data_place ≤ i → i ≢ tail_place c
    past c i far e = omega (arith, e, far)

-- ---- the first pass

first_knows : (key : Origin) → Sound (bounds_of key) → (t : Terms) → t.newest ≡ first_of (bounds_of key) → Knows (bounds_of key) t (newcomer key.identity key.start 7 1024)
first_knows key so t e = record {
  identity = refl;
  start = refl;
  number = omega arith;
  right = record { capped = omega arith; able = omega arith; once = omega arith; idle = λ z. refl };
  entries = tt;
  seen = record { count = (omega arith, omega arith); term = (omega arith, omega arith); full = λ k z. absurd (suc-ne-zero k (sym z)); begun = omega arith; shown = zero-le };
}

one_pass : (P : Pass → Type 0) (p : Pass) → P p → (j : ℕ) (v : Pass) → get_elem? (p ∷ []) j ≡ some v → P v
one_pass P p a zero v e = subst P (some-injective _ v e) a
one_pass P p a (suc j) v e = absurd (some-ne-none v (sym e))

-- the first seat knows the control words
pub fresh_is : (key : Origin) (ws : List ℕ) → Fresh (bounds_of key) ws → fresh_controls key.identity key.start ≡ controls_in ws
fresh_is key ws f = λ i. record { limit = sym f.limit i; count = sym f.count i; tails = placed (first_of b) (tail_word (id_of g (first_of b)) (key.start % g.term_length)) (tail_word (id_before g (first_of b) 2) 0) (tail_word (id_before g (first_of b) 1) 0) f.here f.next f.last i }
  where
    b : Bounds
    b = bounds_of key

    g : Geometry
    g = key.identity.geometry

    placed : (c x y z : ℕ) → slice_index ws (tail_place c) ≡ x → slice_index ws (tail_place (c + 1)) ≡ y → slice_index ws (tail_place (c + 2)) ≡ z
        → set (set (set (0 ∷ 0 ∷ 0 ∷ []) (c % 3) x) ((c + 1) % 3) y) ((c + 2) % 3) z ≡ slice_index ws 32 ∷ slice_index ws 48 ∷ slice_index ws 64 ∷ []
    placed c x y z ex ey ez = by_part (c % 3) ((c + 1) % 3) ((c + 2) % 3) (omega arith) (omega arith) (omega arith) ex ey ez
      where
        by_part : (p q r : ℕ) → p < 3 → q ≡ (p + 1) % 3 → r ≡ (p + 2) % 3 → slice_index ws (p * 16 + 32) ≡ x → slice_index ws (q * 16 + 32) ≡ y → slice_index ws (r * 16 + 32) ≡ z
            → set (set (set (0 ∷ 0 ∷ 0 ∷ []) p x) q y) r z ≡ slice_index ws 32 ∷ slice_index ws 48 ∷ slice_index ws 64 ∷ []
        by_part zero (suc zero) (suc (suc zero)) low eq er ex ey ez = λ i. sym ex i ∷ sym ey i ∷ sym ez i ∷ []
        by_part (suc zero) (suc (suc zero)) zero low eq er ex ey ez = λ i. sym ez i ∷ sym ex i ∷ sym ey i ∷ []
        by_part (suc (suc zero)) zero (suc zero) low eq er ex ey ez = λ i. sym ey i ∷ sym ez i ∷ sym ex i ∷ []
        by_part p q r low eq er ex ey ez = absurd (omega arith)

pub ruled_first : (key : Origin) (ws : List ℕ) → Sound (bounds_of key) → Fresh (bounds_of key) ws → Ruled (bounds_of key) ws (map pass_in (first_seat key ∷ []))
ruled_first key ws so f =
    let b = bounds_of key in let g = shape_of b in let k : ℕ = first_of b in let off : ℕ = b.start % size_of b in let t = fresh_terms b in let s = term_short b so in let p : Pass = newcomer key.identity key.start 7 1024 in
    let low : off ≤ size_of b = (let m : off < size_of b = mod-lt b.start (omega arith) in omega arith) in
    let ends : claimed_to g t ≡ b.start = ap (λ (z : ℕ). k * size_of b + z) (ap (λ (z : ℕ). min z (size_of b)) (put_here (λ _. 0) k off) ∙ min_of_le off (size_of b) low) ∙ div-add-mod' b.start (size_of b) in
    let none_there : b.greatest * 0 ≡ 0 = mul-zero b.greatest in record {
      claims = record {
        sound = so;
        wide = f.wide;
        limit = f.limit;
        terms = t;
        tailed = fresh_tailed b ws so f;
        log = [];
        tiles = ends;
        fair = λ h. refl;
        reached = (let q : b.start ≤ claimed_to g t = omega arith in q);
        parted = refl;
        over = λ j a c. (let x : ℕ = b.greatest * (armed_on (j % 3) p + 0) in let x0 : x ≡ 0 = ap (λ (q : ℕ). b.greatest * q) (let z = none_armed (j % 3) p refl in let q : armed_on (j % 3) p + 0 ≡ 0 = omega arith in q) ∙ none_there in let y : ℕ = b.greatest * 8 in
            at_put (λ _. 0) k off (λ (o : ℕ). o + x < size_of b + y) j (λ _. let m : off < size_of b = mod-lt b.start (omega arith) in omega arith) (λ _. omega arith));
        room = (let y : ℕ = b.greatest * 8 in let x : ℕ = b.greatest * 0 in let x0 : x ≡ 0 = none_there in let z : ℕ = claimed_to g t in let e : z ≡ key.start = ends in let h : ℕ = size_of b / 2 in let q : z + x ≤ key.start + h + y = omega arith in q);
        each = one_pass (Knows b t) p (first_knows key so t refl);
      };
      memory = record {
        cleaned = omega arith;
        held = room key.start (size_of b) b.greatest s.1 s.2;
        zeros = λ x unit above below. fresh_zeros b ws f (slot g x) (omega arith);
        each = one_pass (Stored b ws) p record { stands = tt; placed = λ h. refl; aligned = tt; done = tt; undone = tt; kept = tt };
      };
    }
  where
    room : (s t c : ℕ) → 65536 ≤ t → c ≤ t / 7 + 63 → s + t / 2 + c * 8 ≤ s + 3 * t
    room s t c long few = omega arith

-- ---- a publisher is dealt

pub split_total : (f : Pass → ℕ) (ps : List Pass) (id : ℕ) (v l r : Pass) → get_elem? ps id ≡ some v → f l + f r ≡ f v → total f (set ps id l ++ r ∷ []) ≡ total f ps
split_total f ps id v l r at e = let a = total_set f ps id v l at in let c = total_append f (set ps id l) (r ∷ []) in omega arith

-- a pass is cut in two, which have together what it had
pub split_ruled : (b : Bounds) (ws : List ℕ) (ps : List Pass) (rule : Ruled b ws ps) (id : ℕ) (p l q : Pass) → get_elem? ps id ≡ some p → ((h : Entry → ℕ) → weight h l + weight h q ≡ weight h p) → parts_of l + parts_of q ≡ parts_of p → armed_of l + armed_of q ≡ armed_of p → ((j : ℕ) → armed_on j l + armed_on j q ≡ armed_on j p)
    → Knows b rule.claims.terms l → Knows b rule.claims.terms q → Stored b ws l → Stored b ws q → Ruled b ws (set ps id l ++ q ∷ [])
split_ruled b ws ps r id p l q at weighs parts armed same_armed keeps gets left_is right_is =
    let t = r.claims.terms in let ps' : List Pass = set ps id l ++ q ∷ [] in
    let tail_same : total (weight length_of) ps' ≡ total (weight length_of) ps = split_total (weight length_of) ps id p l q at (weighs length_of) in record {
      claims = record {
        sound = r.claims.sound;
        wide = r.claims.wide;
        limit = r.claims.limit;
        terms = t;
        tailed = r.claims.tailed;
        log = r.claims.log;
        tiles = r.claims.tiles;
        fair = λ h. split_total (weight h) ps id p l q at (weighs h) ∙ r.claims.fair h;
        reached = r.claims.reached;
        parted = split_total parts_of ps id p l q at parts ∙ r.claims.parted;
        over = λ j x y. subst (λ (n : ℕ). t.offset j + b.greatest * n < size_of b + b.greatest * 8) (sym (split_total (armed_on (j % 3)) ps id p l q at (same_armed (j % 3)))) (r.claims.over j x y);
        room = subst (λ (n : ℕ). claimed_to (shape_of b) t + b.greatest * n ≤ b.limit + b.greatest * 8) (sym (split_total armed_of ps id p l q at armed)) r.claims.room;
        each = λ j u e. ⊎_elim (λ (y : get_elem? (set ps id l) j ≡ some u). each_set b t t ps id l (unchanged (shape_of b) t) r.claims.each keeps j u y) (λ (y : q ≡ u). subst (Knows b t) y gets) (at_snoc (set ps id l) q u j e);
      };
      memory = record {
        cleaned = r.memory.cleaned;
        held = r.memory.held;
        zeros = λ x unit above below. r.memory.zeros x unit (subst (λ (z : ℕ). b.start + z ≤ x) tail_same above) below;
        each = λ j u e. ⊎_elim
            (λ (y : get_elem? (set ps id l) j ≡ some u). ⊎_elim (λ (z : (j ≡ id) × (l ≡ u)). subst (Stored b ws) z.1 left_is) (λ (z : (j ≢ id) × (get_elem? ps j ≡ some u)). r.memory.each j u z.1) (at_set ps id j l u y))
            (λ (y : q ≡ u). subst (Stored b ws) y right_is) (at_snoc (set ps id l) q u j e);
      };
    }

pub plus_none : (n : ℕ) → n + 0 ≡ n
plus_none n = omega arith

pub shared : (b : Bounds) (ws : List ℕ) (ps : List Pass) → Ruled b ws ps → (id : ℕ) (p : Pass) → get_elem? ps id ≡ some p → p.right.armed ≡ 0 → 120 < p.right.parts → Ruled b ws (set ps id (dealer p) ++ (dealt p) ∷ [])
shared b ws ps r id p at off many =
    let l : Pass = dealer p in let q : Pass = dealt p in let k = r.claims.each id p at in let m = r.memory.each id p at in let number = k.number in
    split_ruled b ws ps r id p l q at (λ h. plus_none (weight h p)) (let z : p.right.parts - 120 + 120 ≡ p.right.parts = omega arith in z) (plus_none p.right.armed)
    (λ j. let a = none_armed j l off in let c = none_armed j q refl in let d = none_armed j p off in omega arith)
    record { identity = k.identity; start = k.start; number = (let z : p.number - 1 < 8 = omega arith in z); right = record { capped = k.right.capped; able = omega arith; once = k.right.once; idle = λ z. absurd (omega arith) }; entries = k.entries; seen = k.seen }
    record { identity = k.identity; start = k.start; number = k.number; right = record { capped = k.right.capped; able = omega arith; once = omega arith; idle = λ z. refl }; entries = tt; seen = k.seen }
    record { stands = m.stands; placed = m.placed; aligned = m.aligned; done = m.done; undone = m.undone; kept = m.kept }
    record { stands = tt; placed = λ h. refl; aligned = tt; done = tt; undone = tt; kept = tt }
