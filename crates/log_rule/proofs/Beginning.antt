-- The words of a log that opens obey the rule.
use Rattle.std.proofs.Common.{◌≡◌, inl, ℕ, zero, suc, ◌+◌, ◌-◌, ◌*◌, ◌/◌, ◌%◌, ◌<◌, ◌≤◌, eqb, cond, Bool, true, false, List, [], ◌∷◌, replicate, length, sym, refl, ap, ◌∙◌, subst, ne_eqb, ◌++◌, length-append, lt_of_not-le, arith}
use mathlib.Core.Option.{some, some-injective, some-ne-none}
use mathlib.Core.Logic.{dite}
use native.Mathlib.Decide.{dec_le}
use lib.ListN.{get_elem?}
use Rattle.std.specs.Prelude.{slice_index}
use Rattle.std.specs.List.{AllByRecursion}
use Rattle.std.proofs.lemmas.List.{length-replicate}
use Rattle.theory.specs.Position.{greatest_claim}
use Rattle.theory.specs.Refusal.{limit_in}
use Rattle.publication.specs.declared.pass.Controls.{Controls}
use Rattle.publication.specs.declared.pass.Pass.{Pass}
use Rattle.log_rule.specs.declared.claims.view.View.{View}
use Rattle.log_rule.specs.declared.claims.view.Origin.{Origin}
use Rattle.log_rule.specs.Claims.Packs.{consumer_place, ring_of, slot}
use Rattle.log_rule.specs.Claims.Sums.{total}
use Rattle.log_rule.specs.Claims.Terms.{claimed_to}
use Rattle.log_rule.specs.Claims.Rule.{Bounds, ClaimsHold, Sound, first_of}
use Rattle.log_rule.specs.Claims.Memory.{Ruled, Stored, tail_of}
use Rattle.log_rule.specs.Claims.Openings.{Fresh}
use Rattle.log_rule.specs.Claims.Sure.{IsSure, controls_in}
use Rattle.log_rule.specs.Claims.Plays.{bounds_of, newcomer}
use Rattle.log_rule.proofs.Claimed.Tails.{elsewhere}
use Rattle.log_rule.proofs.Claimed.Memories.{tail_is}
use Rattle.log_rule.proofs.Claimed.Begun.{fresh_is, fresh_zeros, ruled_first}
use Rattle.log_rule.specs.declared.rule.Key.{Key}
use Rattle.log_rule.specs.Edges.{IsPlaced}
use Rattle.log_rule.specs.Numbers.{Owns, numbers_as}
use Rattle.log_rule.proofs.Owning.{down_once}
use Rattle.log_rule.specs.Kept.{Attends, IsReader, IsSeen, IsThere, Kept, reads_as}
use Rattle.log_rule.specs.Table.{LogRuled, consumers_at, first_there, now_at, whole_pass, whole_seat}
use Rattle.log_rule.specs.Opening.{Begun}

abbrev pub origin_of : Key → Origin
origin_of key = record { identity = key.identity; start = key.start }

-- ---- numbers of a log that opens

one_pass : (P : Pass → Type 0) (p : Pass) → P p → (j : ℕ) (v : Pass) → get_elem? (p ∷ []) j ≡ some v → P v
one_pass P p a zero v e = subst P (some-injective p v e) a
one_pass P p a (suc j) v e = absurd (some-ne-none v (sym e))

one_view : (P : View → Type 0) (p : View) → P p → (j : ℕ) (v : View) → get_elem? (p ∷ []) j ≡ some v → P v
one_view P p a zero v e = subst P (some-injective p v e) a
one_view P p a (suc j) v e = absurd (some-ne-none v (sym e))

readers_none : (start j k n : ℕ) → j < k → total (reads_as j) (consumers_at start k n) ≡ 0
readers_none start j k zero lt = refl
readers_none start j k (suc n) lt = let r = readers_none start j (suc k) n (omega arith) in let z : reads_as j (record { number = k; position = start; known = []; misses = 0 }) ≡ 0 = ap (λ (b : Bool). cond b 1 0) (ne_eqb k j (λ e. omega arith)) in omega arith

readers_once : (start j k n : ℕ) → total (reads_as j) (consumers_at start k n) ≤ 1
readers_once start j k zero = omega arith
readers_once start j k (suc n) = dite (dec_le j k)
    (λ le. let r = readers_none start j (suc k) n (omega arith) in let one = small (eqb k j) in omega arith)
    (λ no. let z : reads_as j (record { number = k; position = start; known = []; misses = 0 }) ≡ 0 = ap (λ (b : Bool). cond b 1 0) (ne_eqb k j (λ e. no (let q : j ≤ k = omega arith in q))) in let r = readers_once start j (suc k) n in omega arith)
  where
    small : (b : Bool) → cond b 1 0 ≤ 1
    small true = omega arith
    small false = omega arith

readers_right : (ws : List ℕ) (ps : List Pass) (start k n : ℕ) → ((j : ℕ) → k ≤ j → j < k + n → slice_index ws (consumer_place j) ≡ start) → AllByRecursion (IsReader ws ps) (consumers_at start k n)
readers_right ws ps start k zero at = tt
readers_right ws ps start k (suc n) at = (record { position = λ low. at k (omega arith) (omega arith); known = tt }, readers_right ws ps start (suc k) n (λ j le lt. at j (omega arith) (omega arith)))

filled : (n start j : ℕ) → j < n → slice_index (replicate {A = ℕ} n start) j ≡ start
filled zero start j lt = absurd (omega arith)
filled (suc n) start zero lt = refl
filled (suc n) start (suc j) lt = filled n start j (omega arith)

flag_front : (n m j : ℕ) → j < n → slice_index (replicate n 1 ++ replicate m 0) j ≡ 1
flag_front zero m j lt = absurd (omega arith)
flag_front (suc n) m zero lt = refl
flag_front (suc n) m (suc j) lt = flag_front n m j (omega arith)

zero_at : (m j : ℕ) → slice_index (replicate {A = ℕ} m 0) j ≡ 0
zero_at zero j = refl
zero_at (suc m) zero = refl
zero_at (suc m) (suc j) = zero_at m j

flag_behind : (n m j : ℕ) → n ≤ j → slice_index (replicate n 1 ++ replicate m 0) j ≡ 0
flag_behind zero m j le = zero_at m j
flag_behind (suc n) m zero le = absurd (omega arith)
flag_behind (suc n) m (suc j) le = flag_behind n m j (omega arith)

-- those who are there from the start on are the first
pub first_flag : (n j : ℕ) → IsThere (first_there n) j → j < n
first_flag n j here = dite (dec_le n j) (λ past. absurd (let none = flag_behind n (8 - n) j past in omega arith)) (λ low. lt_of_not-le low)

pub first_is : (n j : ℕ) → j < n → IsThere (first_there n) j
first_is n j lt = flag_front n (8 - n) j lt

pub first_none : (n j : ℕ) → n ≤ j → slice_index (first_there n) j ≡ 0
first_none n j le = flag_behind n (8 - n) j le

pub first_eight : (n : ℕ) → n ≤ 8 → length (first_there n) ≡ 8
first_eight n few = length-append (replicate {A = ℕ} n 1) (replicate (8 - n) 0) ∙ (λ i. length-replicate {A = ℕ} n 1 i + length-replicate {A = ℕ} (8 - n) 0 i) ∙ (let e : n + (8 - n) ≡ 8 = omega arith in e)

-- as many numbers are there, and no others
readers_past : (start j k n : ℕ) → k + n ≤ j → total (reads_as j) (consumers_at start k n) ≡ 0
readers_past start j k zero le = refl
readers_past start j k (suc n) le = let r = readers_past start j (suc k) n (omega arith) in let z : reads_as j (record { number = k; position = start; known = []; misses = 0 }) ≡ 0 = ap (λ (b : Bool). cond b 1 0) (ne_eqb k j (λ e. omega arith)) in omega arith

-- ---- the rule

pub opens : (key : Key) (ws0 ws : List ℕ) → Sound (bounds_of (origin_of key)) → (0 < key.consumers) × (key.consumers ≤ 8) → Fresh (bounds_of (origin_of key)) ws0 → Begun key.start ws0 key.consumers ws → LogRuled key record { words = ws; homes = []; views = whole_seat key ∷ [] }
opens key ws0 ws so count f o =
    let k0 = origin_of key in let b0 : Bounds = bounds_of k0 in let g = key.identity.geometry in let r0 = ruled_first k0 ws0 so f in let c = r0.claims in let p0 : Pass = newcomer key.identity key.start 7 1024 in let p : Pass = whole_pass key in
    let b : Bounds = now_at key key.start key.start in
    let unit : limit_in key.start ≡ key.start = (let u = so.unit in whole key.start u) in
    let tail0 : tail_of b0 (p0 ∷ []) ≡ key.start = none key.start in
    let end : claimed_to g c.terms ≡ key.start = sym (tail_is b0 ws0 (p0 ∷ []) c) ∙ tail0 in
    let claims : ClaimsHold b ws (p ∷ []) = record {
      sound = record { geometry = so.geometry; unit = so.unit; below = so.below; greatest = refl; limit = refl };
      wide = o.wide ∙ c.wide;
      limit = o.limit;
      terms = c.terms;
      tailed = elsewhere g (first_of b) c.terms ws0 ws (λ j pos low. o.others j (λ e. omega arith) (λ i lt e. omega arith)) c.tailed;
      log = c.log;
      tiles = c.tiles;
      fair = c.fair;
      reached = (let e = end in omega arith);
      parted = refl;
      over = c.over;
      room = room_is (claimed_to g c.terms) key.start (limit_in key.start) (greatest_claim g) end unit (c.room);
      each = one_pass _ p (let x = c.each 0 p0 refl in record { identity = refl; start = refl; number = omega arith; right = record { capped = omega arith; able = omega arith; once = omega arith; idle = λ z. refl }; entries = tt; seen = x.seen });
    } in
    let held : limit_in key.start + greatest_claim g * 8 < key.start + 3 * g.term_length = (let m = r0.memory.held in let h = so.geometry.term.least in below key.start (limit_in key.start) (greatest_claim g * 8) g.term_length m unit h) in
    let ruled : Ruled b ws (p ∷ []) = record {
      claims = claims;
      memory = record {
        cleaned = omega arith;
        held = (let h = held in less (limit_in key.start + greatest_claim g * 8) (key.start + 3 * g.term_length) h);
        zeros = λ x u above low. o.others (slot g x) (λ e. omega arith) (λ i lt e. far_off i (x / 8 % ring_of g) (let l = lt in let f = count.1 in omega arith) e) ∙ fresh_zeros b0 ws0 f (slot g x) (omega arith);
        each = one_pass (Stored b ws) p record { stands = tt; placed = λ h. refl; aligned = tt; done = tt; undone = tt; kept = tt };
      };
    } in
    let few = count.1 in
    let there : List ℕ = first_there key.consumers in
    let kept : Kept b there ws (p ∷ []) = record {
      eight = first_eight key.consumers few;
      flags = λ j. dite (dec_le key.consumers j) (λ past. let none = first_none key.consumers j past in omega arith) (λ low. let one = first_is key.consumers j (lt_of_not-le low) in omega arith);
      one = 0;
      any = first_is key.consumers 0 count.0;
      unit = (let u = so.unit in by_eight key.start u);
      ahead = held;
      free = λ j low none. (let past : key.consumers ≤ j = not_there key.consumers j none in o.others (consumer_place j) (λ e. omega arith) (λ k lt e. omega arith) ∙ f.others (consumer_place j) record { limit = λ e. omega arith; count = λ e. omega arith; here = λ e. off_tails (first_of b0 % 3) j (low_three (first_of b0)) e; next = λ e. off_tails ((first_of b0 + 1) % 3) j (low_three (first_of b0 + 1)) e; last = λ e. off_tails ((first_of b0 + 2) % 3) j (low_three (first_of b0 + 2)) e });
      placed = λ j lt. subst (IsPlaced b (p ∷ [])) (sym (o.consumers j (first_flag key.consumers j lt))) record {
        unit = so.unit;
        from = omega arith;
        readable = omega arith;
        edge = inl (sym (none key.start));
        passed = refl;
      };
      single = λ j lt. dite (dec_le key.consumers j)
          (λ past. let none = readers_past key.start j 0 key.consumers (omega arith) in none_plus (total (reads_as j) (consumers_at key.start 0 key.consumers)) (slice_index there j) none)
          (λ low. let a = readers_once key.start j 0 key.consumers in let one = first_is key.consumers j (lt_of_not-le low) in some_plus (total (reads_as j) (consumers_at key.start 0 key.consumers)) (slice_index there j) a one);
      keepers = omega arith;
      each = one_pass (Attends b there ws (p ∷ [])) p record {
        readings = readers_right ws (p ∷ []) key.start 0 key.consumers (λ j le lt. o.consumers j (omega arith));
        keeping = record {
          limit = λ _. refl;
          cleaned = λ _. refl;
          there = λ _. refl;
          all = λ _. length-replicate 8 key.start;
          swept = λ _ j lt. (let low = first_flag key.consumers j lt in let a = filled 8 key.start j (omega arith) in let c' = o.consumers j low in same (slice_index (replicate {A = ℕ} 8 key.start) j) (slice_index ws (consumer_place j)) key.start a c');
          seen = λ _ j lt. (let low = first_flag key.consumers j lt in subst (IsSeen b (p ∷ [])) (sym (filled 8 key.start j (omega arith))) record { unit = so.unit; from = omega arith; edge = inl (sym (none key.start)); passed = refl });
        };
      };
    } in record {
      cleaned = key.start;
      there = there;
      ruled = subst (λ (n : ℕ). Ruled (now_at key n key.start) ws (p ∷ [])) (sym o.limit) ruled;
      kept = subst (λ (n : ℕ). Kept (now_at key n key.start) there ws (p ∷ [])) (sym o.limit) kept;
      sure = record { each = one_view (IsSure ws) (whole_seat key) record { whole = λ _. refl; exact = λ _. ap (λ (x : Controls). record x { limit = key.start }) (fresh_is k0 ws0 f) ∙ sym (controls_as o) } };
      numbered = record { single = λ n. plus (numbers_as n p) (down_once n 7 8); each = one_pass Owns p record { claims = λ less. absurd (omega (arith, less)); armed = λ less _. absurd (omega (arith, less)) } };
    }
  where
    whole : (s : ℕ) → s % 32 ≡ 0 → limit_in s ≡ s
    whole s u = omega arith

    none : (s : ℕ) → s + (0 + 0) ≡ s
    none s = omega arith

    room_is : (e s l c : ℕ) → e ≡ s → l ≡ s → e + c * 0 ≤ s + (key.identity.geometry.term_length / 2) + c * 8 → e + c * 0 ≤ l + c * 8
    room_is e s l c a d old' = omega arith

    below : (s l g t : ℕ) → s + t / 2 + g ≤ s + 3 * t → l ≡ s → 65536 ≤ t → l + g < s + 3 * t
    below s l g t m e h = omega arith

    less : (a c : ℕ) → a < c → a ≤ c
    less a c lt = omega arith

    far_off : (i q : ℕ) → i < 8 → 208 + q ≡ i * 16 + 80 → ⊥
    far_off i q lt e = omega arith

    by_eight : (s : ℕ) → s % 32 ≡ 0 → s % 8 ≡ 0
    by_eight s u = omega arith

    plus : (n : ℕ) → n ≤ 1 → n + 0 ≤ 1
    plus n le = omega arith

    none_plus : (n f : ℕ) → n ≡ 0 → n + 0 ≤ f
    none_plus n f e = omega arith

    some_plus : (n f : ℕ) → n ≤ 1 → f ≡ 1 → n + 0 ≤ f
    some_plus n f le e = omega arith

    not_there : (n j : ℕ) → slice_index (first_there n) j ≡ 0 → n ≤ j
    not_there n j none = dite (dec_le n j) (λ le. le) (λ no. absurd (let one = first_is n j (lt_of_not-le no) in omega arith))

    low_three : (n : ℕ) → n % 3 < 3
    low_three n = omega arith

    off_tails : (t j : ℕ) → t < 3 → j * 16 + 80 ≡ t * 16 + 32 → ⊥
    off_tails t j lt e = omega arith

    same : (a c s : ℕ) → a ≡ s → c ≡ s → a ≤ c
    same a c s e f = omega arith

    controls_as : Begun key.start ws0 key.consumers ws → controls_in ws ≡ record (controls_in ws0) { limit = key.start }
    controls_as o = λ i. record { limit = o.limit i; count = o.others 16 (λ e. omega arith) (λ j lt e. omega arith) i; tails = o.others 32 (λ e. omega arith) (λ j lt e. omega arith) i ∷ o.others 48 (λ e. omega arith) (λ j lt e. omega arith) i ∷ o.others 64 (λ e. omega arith) (λ j lt e. omega arith) i ∷ [] }
