-- The positions that the active count and the raw tails show lie within what was claimed.
use Rattle.std.proofs.Common.{◌≡◌, ℕ, suc, ◌+◌, ◌-◌, ◌*◌, ◌%◌, ◌^◌, ◌<◌, ◌≤◌, max, min, Bool, List, sym, ap, ◌∙◌, subst, mul-le-mul_right, arith}
use mathlib.Core.Logic.{dite}
use native.Mathlib.Decide.{dec_le, ℕ_discrete}
use Rattle.std.specs.Prelude.{slice_index, if◌then◌else◌}
use Rattle.std.specs.Int.{w32, cast_unsigned}
use Rattle.std.proofs.lemmas.Bool.{le-ltb, lt-ltb}
use Rattle.std.proofs.lemmas.Int.{of_z-to_z}
use Rattle.theory.specs.Position.{Geometry, IsGeometry, count_of, id_of}
use Rattle.theory.specs.Words.{id_before, id_in, offset_in, tail_word}
use Rattle.theory.proofs.Named.{counts}
use Rattle.publication.specs.Steps.{count_in, shown_position}
use Rattle.publication.proofs.Packed.{before_fits, before_is, id_fits, id_of_word, offset_of_word, seed, seed_low}
use Rattle.log_rule.specs.Claims.Packs.{count_place, tail_place}
use Rattle.log_rule.specs.Claims.Terms.{Tailed, Terms, claimed_to}
use Rattle.log_rule.proofs.Claimed.Tails.{Narrow}

-- ---- what a word says

pub count_is : (g : Geometry) (word k : ℕ) → IsGeometry g → k < 2 ^ 31 → id_in word ≡ id_of g k → count_in g word ≡ k
count_is g word k is low e = ap (λ z. cast_unsigned w32 (count_of g z)) e ∙ ap (cast_unsigned w32) (counts g k is.initial low)

pub position_is : (g : Geometry) (n k o : ℕ) → count_in g n ≡ k → k < 2 ^ 31 → offset_in n ≡ o → shown_position g n ≡ k * g.term_length + min o g.term_length
position_is g n k o e low f =
    ap (λ (b : Bool). if b then count_in g n * g.term_length + min (offset_in n) g.term_length else 0) (lt-ltb (count_in g n) (2 ^ 31) (subst (λ (x : ℕ). x < 2 ^ 31) (sym e) low))
    ∙ (λ i. e i * g.term_length + min (f i) g.term_length)

-- the id of a count before 0 is of no term
before_count : (g : Geometry) (n back : ℕ) → IsGeometry g → n < back → back < 3 → 2 ^ 31 ≤ cast_unsigned w32 (count_of g (id_before g n back))
before_count g n back is lt low =
    let u : ℕ = seed g in let small = seed_low g is.initial in
    let named = before_is g n back low in
    let x : ℕ = cast_unsigned w32 (id_before g n back) in
    let back_is : cast_unsigned w32 (count_of g (id_before g n back)) ≡ (x + (4294967296 - u)) % 4294967296 = of_z-to_z w32 ((x + (4294967296 - u)) % 4294967296) (omega arith) in
    far u n back x (cast_unsigned w32 (count_of g (id_before g n back))) small lt low named back_is
  where
    far : (u n back x c : ℕ) → u < 4294967296 → n < back → back < 3 → x ≡ ((u + n) % 4294967296 + (4294967296 - back)) % 4294967296 → c ≡ (x + (4294967296 - u)) % 4294967296 → 2 ^ 31 ≤ c
    far u n back x c small lt low e f = omega arith

none_shown : (g : Geometry) (n : ℕ) → 2 ^ 31 ≤ count_in g n → shown_position g n ≡ 0
none_shown g n far = ap (λ (b : Bool). if b then count_in g n * g.term_length + min (offset_in n) g.term_length else 0) (le-ltb (count_in g n) (2 ^ 31) far)

-- ---- a raw tail

module _ (g : Geometry) (first : ℕ) (t : Terms) (ws : List ℕ) (is : IsGeometry g) (r : Tailed g first t ws) (nar : Narrow t) where
  -- that of one of the three newest counts
  used : (p k : ℕ) → k ≤ t.newest → t.newest ≤ k + 2 → tail_place k ≡ tail_place p → shown_position g (slice_index ws (tail_place p)) ≤ claimed_to g t
  used p k low high there =
      let to = r.turns.to in let small : k < 2 ^ 31 = omega arith in let thin = nar k low high in
      let word : slice_index ws (tail_place p) ≡ tail_word (id_of g k) (t.offset k) = ap (slice_index ws) (sym there) ∙ r.tails k low high in
      let named : id_in (slice_index ws (tail_place p)) ≡ id_of g k = ap id_in word ∙ id_of_word (id_of g k) (t.offset k) (id_fits g k) thin in
      let off : offset_in (slice_index ws (tail_place p)) ≡ t.offset k = ap offset_in word ∙ offset_of_word (id_of g k) (t.offset k) thin in
      let at = position_is g (slice_index ws (tail_place p)) k (t.offset k) (count_is g (slice_index ws (tail_place p)) k is small named) small off in
      dite (ℕ_discrete k t.newest)
      (λ e. let same : k * g.term_length + min (t.offset k) g.term_length ≡ claimed_to g t = (λ i. e i * g.term_length + min (t.offset (e i)) g.term_length) in equal (shown_position g (slice_index ws (tail_place p))) (claimed_to g t) (at ∙ same))
      (λ ne. let more : suc k ≤ t.newest = omega (arith, low, ne) in let rise : suc k * g.term_length ≤ t.newest * g.term_length = mul-le-mul_right g.term_length more in let z : suc k * g.term_length ≡ k * g.term_length + g.term_length = omega arith in
      below (shown_position g (slice_index ws (tail_place p))) (k * g.term_length) g.term_length (t.offset k) (suc k * g.term_length) (t.newest * g.term_length) (min (t.offset t.newest) g.term_length) at z rise)
    where
      equal : (a c : ℕ) → a ≡ c → a ≤ c
      equal a c e = omega arith

      below : (s y l o next top m : ℕ) → s ≡ y + min o l → next ≡ y + l → next ≤ top → s ≤ top + m
      below s y l o next top m e f le = omega arith

  -- that of a partition which has had no count
  unused : (p back : ℕ) → t.newest < back → back < 3 → tail_place (t.newest + 3 - back) ≡ tail_place p → shown_position g (slice_index ws (tail_place p)) ≤ claimed_to g t
  unused p back lt low there =
      let word : slice_index ws (tail_place p) ≡ tail_word (id_before g t.newest back) 0 = ap (slice_index ws) (sym there) ∙ r.unused back lt low in
      let named : id_in (slice_index ws (tail_place p)) ≡ id_before g t.newest back = ap id_in word ∙ id_of_word (id_before g t.newest back) 0 (before_fits g t.newest back) (omega arith) in
      let none = none_shown g (slice_index ws (tail_place p)) (subst (λ z. 2 ^ 31 ≤ cast_unsigned w32 (count_of g z)) (sym named) (before_count g t.newest back is lt low)) in
      least (shown_position g (slice_index ws (tail_place p))) (claimed_to g t) none
    where
      least : (a c : ℕ) → a ≡ 0 → a ≤ c
      least a c e = omega arith

  pub tail_shows : (p : ℕ) → shown_position g (slice_index ws (tail_place p)) ≤ claimed_to g t
  tail_shows p =
      let n : ℕ = t.newest in
      dite (ℕ_discrete (n % 3) (p % 3)) (λ e. used p n (omega arith) (omega arith) (omega arith))
      (λ a. dite (ℕ_discrete ((n + 2) % 3) (p % 3))
      (λ e. dite (dec_le 1 n) (λ le. used p (n - 1) (omega arith) (omega arith) (omega arith)) (λ no. unused p 1 (omega (arith, no)) (omega arith) (omega (arith, no))))
      (λ c. dite (dec_le 2 n) (λ le. used p (n - 2) (omega arith) (omega arith) (omega (arith, a, c))) (λ no. unused p 2 (omega (arith, no)) (omega arith) (omega (arith, a, c, no)))))

  -- that of the newest count shows the end
  newest_shows : claimed_to g t ≤ shown_position g (slice_index ws (tail_place t.newest))
  newest_shows =
      let n : ℕ = t.newest in let word = r.tails n (omega arith) (omega arith) in let thin = nar n (omega arith) (omega arith) in
      let named : id_in (slice_index ws (tail_place n)) ≡ id_of g n = ap id_in word ∙ id_of_word (id_of g n) (t.offset n) (id_fits g n) thin in
      let off : offset_in (slice_index ws (tail_place n)) ≡ t.offset n = ap offset_in word ∙ offset_of_word (id_of g n) (t.offset n) thin in
      let at = position_is g (slice_index ws (tail_place n)) n (t.offset n) (count_is g (slice_index ws (tail_place n)) n is r.turns.to named) r.turns.to off in
      equal (shown_position g (slice_index ws (tail_place n))) (claimed_to g t) at
    where
      equal : (a c : ℕ) → a ≡ c → c ≤ a
      equal a c e = omega arith

  pub greatest_is : max (max (shown_position g (slice_index ws (tail_place 0))) (shown_position g (slice_index ws (tail_place 1)))) (shown_position g (slice_index ws (tail_place 2))) ≡ claimed_to g t
  greatest_is =
      let x : ℕ = shown_position g (slice_index ws (tail_place 0)) in let y : ℕ = shown_position g (slice_index ws (tail_place 1)) in let z : ℕ = shown_position g (slice_index ws (tail_place 2)) in
      let n : ℕ = t.newest in
      dite (ℕ_discrete (n % 3) 0) (λ e. zeroth_top x y z (claimed_to g t) (tail_shows 0) (tail_shows 1) (tail_shows 2) (there 0 (omega arith)))
      (λ a. dite (ℕ_discrete (n % 3) 1) (λ e. second x y z (claimed_to g t) (tail_shows 0) (tail_shows 1) (tail_shows 2) (there 1 (omega arith)))
      (λ c. third x y z (claimed_to g t) (tail_shows 0) (tail_shows 1) (tail_shows 2) (there 2 (omega (arith, a, c)))))
    where
      there : (p : ℕ) → tail_place t.newest ≡ tail_place p → claimed_to g t ≤ shown_position g (slice_index ws (tail_place p))
      there p e = subst (λ (k : ℕ). claimed_to g t ≤ shown_position g (slice_index ws k)) e newest_shows

      zeroth_top : (x y z n : ℕ) → x ≤ n → y ≤ n → z ≤ n → n ≤ x → max (max x y) z ≡ n
      zeroth_top x y z n a c d e = omega arith

      second : (x y z n : ℕ) → x ≤ n → y ≤ n → z ≤ n → n ≤ y → max (max x y) z ≡ n
      second x y z n a c d e = omega arith

      third : (x y z n : ℕ) → x ≤ n → y ≤ n → z ≤ n → n ≤ z → max (max x y) z ≡ n
      third x y z n a c d e = omega arith

  -- ---- a count

  pub count_shows : (n : ℕ) → n ≤ t.newest → n * g.term_length ≤ claimed_to g t
  count_shows n le = let rise : n * g.term_length ≤ t.newest * g.term_length = mul-le-mul_right g.term_length le in up (n * g.term_length) (t.newest * g.term_length) (min (t.offset t.newest) g.term_length) rise
    where
      up : (a c m : ℕ) → a ≤ c → a ≤ c + m
      up a c m le = omega arith

  pub active_shows : slice_index ws count_place * g.term_length ≤ claimed_to g t
  active_shows = count_shows (slice_index ws count_place) r.active.1
