-- What the three raw tails say of the terms, and how they change.
use Rattle.std.proofs.Common.{◌≡◌, ℕ, ◌+◌, ◌-◌, ◌%◌, ◌^◌, ◌<◌, ◌≤◌, List, length, set, sym, ap, ◌∙◌, subst, lt_of_not-le, mod-lt, get_or-set_other, get_or-set_same, arith}
use native.Mathlib.Decide.{dec_le, ℕ_discrete}
use mathlib.Core.Logic.{dite}
use Rattle.std.specs.Prelude.{slice_index}
use Rattle.theory.specs.Position.{Geometry, id_of}
use Rattle.theory.specs.Words.{id_before, id_in, offset_in, tail_word}
use Rattle.log_rule.specs.Claims.Packs.{count_place, tail_place}
use Rattle.log_rule.specs.Claims.Terms.{Terms, Turns, Tailed}
use Rattle.publication.proofs.Packed.{Fit, id_fits, before_fits, one_id, two_before, before_count, before_next, id_of_word, offset_of_word, add_to_word}
use Rattle.log_rule.proofs.Claimed.Packs.{one_count, holds, put, at_put, put_here, put_else}

-- no offset that a tail shows spills into the id
abbrev pub Narrow : Terms → Type 0
Narrow t = (k : ℕ) → k ≤ t.newest → t.newest ≤ k + 2 → t.offset k < 4294967296

-- what the tail of a count's partition shows: a count that isn't below it
pub record Shows (g : Geometry) (t : Terms) (ws : List ℕ) (p : ℕ) : Type 0 where
  pub k : ℕ
  pub low : k ≤ t.newest
  pub high : t.newest ≤ k + 2
  pub up : p ≤ k
  pub there : tail_place k ≡ tail_place p
  pub word : slice_index ws (tail_place p) ≡ tail_word (id_of g k) (t.offset k)
  pub id : id_in (slice_index ws (tail_place p)) ≡ id_of g k
  pub off : offset_in (slice_index ws (tail_place p)) ≡ t.offset k
  pub narrow : t.offset k < 4294967296
  pub only : (q : ℕ) → q < 4294967296 → id_in (slice_index ws (tail_place p)) ≡ id_of g q → k ≡ q

pub shows : (g : Geometry) (first : ℕ) (t : Terms) (ws : List ℕ) → Fit g → Tailed g first t ws → Narrow t → (p : ℕ) → p ≤ t.newest → Shows g t ws p
shows g first t ws f r nar p le =
    let h = holds t.newest p le in let k : ℕ = h.0 in let small : t.offset k < 4294967296 = nar k h.1 h.2 in let to = r.turns.to in let below = h.1 in
    let word : slice_index ws (tail_place p) ≡ tail_word (id_of g k) (t.offset k) = ap (λ (z : ℕ). slice_index ws z) (sym h.3) ∙ r.tails k h.1 h.2 in
    let id : id_in (slice_index ws (tail_place p)) ≡ id_of g k = ap id_in word ∙ id_of_word (id_of g k) (t.offset k) (id_fits g k) small in
    record {
      k = k;
      low = h.1;
      high = h.2;
      up = h.4;
      there = h.3;
      word = word;
      id = id;
      off = ap offset_in word ∙ offset_of_word (id_of g k) (t.offset k) small;
      narrow = small;
      only = λ q lq e. one_id g f k q (omega arith) lq (sym id ∙ e);
    }

-- the tail behind the newest one has the id two before
pub behind : (g : Geometry) (first : ℕ) (t : Terms) (ws : List ℕ) → Fit g → Tailed g first t ws → Narrow t → id_in (slice_index ws (tail_place (t.newest + 1))) ≡ id_before g t.newest 2
behind g first t ws f r nar = dite (dec_le 2 t.newest)
    (λ (old : 2 ≤ t.newest). let n : ℕ = t.newest in let to = r.turns.to in let k : ℕ = n - 2 in
    let spot : tail_place (n + 1) ≡ tail_place k = omega arith in
    ap (λ (z : ℕ). id_in (slice_index ws z)) spot ∙ ap id_in (r.tails k (omega arith) (omega arith)) ∙ id_of_word (id_of g k) (t.offset k) (id_fits g k) (nar k (omega arith) (omega arith)) ∙ sym (before_count g f n 2 (omega arith) old (omega arith)))
    (λ new. let n : ℕ = t.newest in let lt : n < 2 = lt_of_not-le new in
    let spot : tail_place (n + 1) ≡ tail_place (n + 3 - 2) = omega arith in
    ap (λ (z : ℕ). id_in (slice_index ws z)) spot ∙ ap id_in (r.unused 2 lt (omega arith)) ∙ id_of_word (id_before g n 2) 0 (before_fits g n 2) (omega arith))

-- a tail that has the id of the count behind k says that it was begun
pub next_named : (g : Geometry) (first : ℕ) (t : Terms) (ws : List ℕ) → Fit g → Tailed g first t ws → Narrow t → (k : ℕ) → k ≤ t.newest → k + 1 < 2147483648 → id_in (slice_index ws (tail_place (k + 1))) ≡ id_of g (k + 1) → k + 1 ≤ t.newest
next_named g first t ws f r nar k le low e = dite (dec_le (k + 1) t.newest) (λ yes. yes)
    (λ no. let lt = lt_of_not-le no in let same : t.newest ≡ k = omega arith in
    absurd (two_before g f t.newest (k + 1) (omega arith) low (sym e ∙ ap (λ (z : ℕ). id_in (slice_index ws (tail_place (z + 1)))) (sym same) ∙ behind g first t ws f r nar)))

-- and one that has the id two before k says that k is the newest
pub next_old : (g : Geometry) (first : ℕ) (t : Terms) (ws : List ℕ) → Fit g → Tailed g first t ws → Narrow t → (k : ℕ) → k ≤ t.newest → id_in (slice_index ws (tail_place (k + 1))) ≡ id_before g k 2 → k ≡ t.newest
next_old g first t ws f r nar k le e = dite (dec_le (k + 1) t.newest)
    (λ yes. let sh = shows g first t ws f r nar (k + 1) yes in let up = sh.up in let low = sh.low in let to = r.turns.to in absurd (two_before g f k sh.k (omega arith) (omega arith) (sym sh.id ∙ e)))
    (λ no. let lt = lt_of_not-le no in omega arith)

-- ---- steps

pub elsewhere : (g : Geometry) (first : ℕ) (t : Terms) (ws ws' : List ℕ) → ((j : ℕ) → 0 < j → j < 80 → slice_index ws' j ≡ slice_index ws j) → Tailed g first t ws → Tailed g first t ws'
elsewhere g first t ws ws' same r = record {
  turns = r.turns;
  active = subst (λ (n : ℕ). (first ≤ n) × (n ≤ t.newest)) (sym (same count_place (omega arith) (omega arith))) r.active;
  tails = λ k a b. let m : k % 3 < 3 = mod-lt k (omega arith) in same (tail_place k) (omega arith) (omega arith) ∙ r.tails k a b;
  unused = λ back a b. let m : (t.newest + 3 - back) % 3 < 3 = mod-lt (t.newest + 3 - back) (omega arith) in same (tail_place (t.newest + 3 - back)) (omega arith) (omega arith) ∙ r.unused back a b;
}

abbrev pub raised : Terms → ℕ → ℕ → Terms
raised t k n = record { newest = t.newest; offset = put t.offset k (t.offset k + n) }

raised_turns : (g : Geometry) (first : ℕ) (t : Terms) (k n : ℕ) → n % 32 ≡ 0 → k ≤ t.newest → Turns g first t → Turns g first (raised t k n)
raised_turns g first t k n unit low u = record {
  from = u.from;
  to = u.to;
  done = λ j a b. at_put t.offset k (t.offset k + n) (λ x. g.term_length ≤ x) j (λ e. let d = u.done j a b in let e' : t.offset j ≡ t.offset k = ap t.offset e in omega arith) (λ _. u.done j a b);
  after = λ j lt. put_else t.offset k (t.offset k + n) j (λ e. omega arith) ∙ u.after j lt;
  units = λ j. at_put t.offset k (t.offset k + n) (λ x. x % 32 ≡ 0) j (λ _. let a = u.units k in omega arith) (λ _. u.units j);
}

-- so many bytes more in the tail of a partition
pub added : (g : Geometry) (first : ℕ) (t : Terms) (ws : List ℕ) → Tailed g first t ws → (p n : ℕ) (sh : Shows g t ws p) → n % 32 ≡ 0 → t.offset sh.k + n < 4294967296 → tail_place p < length ws
    → Tailed g first (raised t sh.k n) (set ws (tail_place p) ((slice_index ws (tail_place p) + n) % 2 ^ 64))
added g first t ws r p n sh unit fits inside = let k : ℕ = sh.k in let i : ℕ = tail_place p in let new : ℕ = (slice_index ws i + n) % 2 ^ 64 in let u = raised t k n in let low = sh.low in let high = sh.high in
    let m : p % 3 < 3 = mod-lt p (omega arith) in
    let is : new ≡ tail_word (id_of g k) (t.offset k + n) = ap (λ (z : ℕ). (z + n) % 2 ^ 64) sh.word ∙ add_to_word (id_of g k) (t.offset k) n (id_fits g k) fits in
    record {
      turns = raised_turns g first t k n unit low r.turns;
      active = subst (λ (z : ℕ). (first ≤ z) × (z ≤ t.newest)) (sym (get_or-set_other ws i count_place new 0 (λ e. omega arith))) r.active;
      tails = λ j a b. dite (ℕ_discrete j k)
          (λ e. let spot : i ≡ tail_place j = sym sh.there ∙ ap tail_place (sym e) in
          subst (λ (z : ℕ). slice_index (set ws i new) z ≡ tail_word (id_of g j) (u.offset j)) spot
          (get_or-set_same ws i new 0 inside ∙ is ∙ (λ x. tail_word (id_of g (sym e x)) (sym (put_here t.offset k (t.offset k + n)) x)) ∙ ap (λ (z : ℕ). tail_word (id_of g j) (u.offset z)) (sym e)))
          (λ ne. get_or-set_other ws i (tail_place j) new 0 (λ e. ne (one_count t.newest j k a b low high (e ∙ sym sh.there))) ∙ r.tails j a b ∙ ap (tail_word (id_of g j)) (sym (put_else t.offset k (t.offset k + n) j ne)));
      unused = λ back a b. get_or-set_other ws i (tail_place (t.newest + 3 - back)) new 0 (λ e. let there : tail_place k ≡ tail_place p = sh.there in omega arith) ∙ r.unused back a b;
    }

abbrev pub turned : Terms → Terms
turned t = record { newest = t.newest + 1; offset = t.offset }

-- the next term begins
pub term_begun : (g : Geometry) (first : ℕ) (t : Terms) (ws : List ℕ) → Fit g → Tailed g first t ws → g.term_length ≤ t.offset t.newest → t.newest + 1 < 2 ^ 31 → tail_place (t.newest + 1) < length ws
    → Tailed g first (turned t) (set ws (tail_place (t.newest + 1)) (tail_word (id_of g (t.newest + 1)) 0))
term_begun g first t ws f r full low inside = let n : ℕ = t.newest in let i : ℕ = tail_place (n + 1) in let new : ℕ = tail_word (id_of g (n + 1)) 0 in let u = r.turns in let m : (n + 1) % 3 < 3 = mod-lt (n + 1) (omega arith) in
    let empty : t.offset (n + 1) ≡ 0 = u.after (n + 1) (omega arith) in
    record {
      turns = record {
        from = (let a = u.from in omega arith);
        to = low;
        done = λ j a b. dite (ℕ_discrete j n) (λ e. let e' : t.offset j ≡ t.offset n = ap t.offset e in omega arith) (λ ne. u.done j a (omega arith));
        after = λ j lt. u.after j (omega arith);
        units = u.units;
      };
      active = subst (λ (z : ℕ). (first ≤ z) × (z ≤ n + 1)) (sym (get_or-set_other ws i count_place new 0 (λ e. omega arith))) (let a = r.active in (a.0, omega arith));
      tails = λ j a b. dite (ℕ_discrete j (n + 1))
          (λ e. subst (λ (z : ℕ). slice_index (set ws i new) (tail_place z) ≡ tail_word (id_of g z) (t.offset z)) (sym e) (get_or-set_same ws i new 0 inside ∙ ap (tail_word (id_of g (n + 1))) (sym empty)))
          (λ ne. get_or-set_other ws i (tail_place j) new 0 (λ e. ne (one_count (n + 1) j (n + 1) a b (omega arith) (omega arith) e)) ∙ r.tails j (omega arith) (omega arith));
      unused = λ back a b. let less : back - 1 + 1 ≡ back = omega arith in let spot : tail_place (n + 1 + 3 - back) ≡ tail_place (n + 3 - (back - 1)) = ap tail_place (let q : n + 1 + 3 - back ≡ n + 3 - (back - 1) = omega arith in q) in
          get_or-set_other ws i (tail_place (n + 1 + 3 - back)) new 0 (λ e. omega arith) ∙ ap (λ (z : ℕ). slice_index ws z) spot ∙ r.unused (back - 1) (omega arith) (omega arith)
          ∙ ap (λ x. tail_word x 0) (sym (before_next g f n (back - 1) (omega arith) (omega arith)) ∙ ap (id_before g (n + 1)) less);
    }

-- the active count goes to one that was begun
pub counted : (g : Geometry) (first : ℕ) (t : Terms) (ws : List ℕ) → Tailed g first t ws → (n : ℕ) → first ≤ n → n ≤ t.newest → count_place < length ws → Tailed g first t (set ws count_place n)
counted g first t ws r n from to inside = record {
  turns = r.turns;
  active = subst (λ (z : ℕ). (first ≤ z) × (z ≤ t.newest)) (sym (get_or-set_same ws count_place n 0 inside)) (from, to);
  tails = λ k a b. get_or-set_other ws count_place (tail_place k) n 0 (λ e. omega arith) ∙ r.tails k a b;
  unused = λ back a b. get_or-set_other ws count_place (tail_place (t.newest + 3 - back)) n 0 (λ e. omega arith) ∙ r.unused back a b;
}
