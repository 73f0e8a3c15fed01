-- What passes have claimed ends far below the greatest number of a word.
use Rattle.std.proofs.Common.{◌≡◌, ℕ, zero, suc, cond, ◌+◌, ◌*◌, ◌^◌, ◌<◌, ◌≤◌, min, ◌-◌, ◌%◌, List, [], ◌∷◌, refl, sym, ap, ◌∙◌, subst, mul-le-mul, lt_of_not-le, arith}
use mathlib.Core.Logic.{dite}
use native.Mathlib.Decide.{dec_le}
use Rattle.std.specs.Prelude.{◌==◌}
use Rattle.std.specs.List.{AllByRecursion}
use Rattle.theory.specs.Position.{Geometry, IsGeometry, aligned, cuts_of, framed_length, span}
use Rattle.theory.specs.Words.{offset_in}
use Rattle.theory.proofs.Claims.{covers_framed}
use Rattle.theory.proofs.Places.{power_unit}
use Rattle.publication.specs.declared.pass.ClaimRange.{ClaimRange}
use Rattle.publication.specs.Steps.{Adds, geometry_of, message_at, padding_at, term_of}
use Rattle.theory.specs.Entry.{Entry, length_of}
use Rattle.theory.specs.Tiling.{share_of}
use Rattle.theory.proofs.Tiling.{share-cons}
use Rattle.publication.specs.declared.pass.Pass.{Pass}
use Rattle.log_rule.specs.Claims.Sums.{total}
use Rattle.log_rule.specs.Claims.Terms.{claimed_to}
use Rattle.log_rule.specs.Claims.Rule.{Bounds, shape_of, size_of, weight}
use Rattle.log_rule.specs.Claims.Memory.{Ruled}
use Rattle.log_rule.proofs.Claimed.Looks.{term_short}
use Rattle.log_rule.proofs.Claimed.Totals.{extent_of, total_append}
use Rattle.log_rule.specs.Shares.{claimed_bytes, owner_bytes, range_bytes}

pub claimed_low : (b : Bounds) (ws : List ℕ) (ps : List Pass) → Ruled b ws ps → total (weight length_of) ps < 2 ^ 63
claimed_low b ws ps r =
    let t = r.claims.terms in let s = term_short b r.claims.sound in let to = r.claims.tailed.turns.to in
    let most : t.newest ≤ 2147483647 = omega arith in let up : t.newest * size_of b ≤ 2147483647 * 16777216 = mul-le-mul most s.0 in
    low b.start (total length_of r.claims.log) (t.newest * size_of b) (t.offset t.newest) (size_of b) (total (weight length_of) ps) (r.claims.fair length_of) (extent_of (size_of b) b.start (claimed_to (shape_of b) t) r.claims.log r.claims.tiles) up s.0
  where
    low : (start all base offset term sum : ℕ) → sum ≡ all → start + all ≡ base + min offset term → base ≤ 2147483647 * 16777216 → term ≤ 16777216 → sum < 2 ^ 63
    low start all base offset term sum e tiles up short = omega arith

-- ---- what steps make of it

adds_bytes : (v w : Pass) (size n : ℕ) → IsGeometry (geometry_of v) → Adds v size n w → claimed_bytes w ≡ claimed_bytes v + min (framed_length (geometry_of v) size) (term_of v - offset_in n)
adds_bytes v w size n is a =
    let t : ℕ = term_of v in let o : ℕ = offset_in n in let f : ℕ = framed_length (geometry_of v) size in let unit = power_unit t is.term.power is.term.least in let more = λ (c : ClaimRange). total_append range_bytes v.right.claims (c ∷ []) in
    dite (dec_le (o + f) t)
    (λ (le : o + f ≤ t). let e = ap claimed_bytes (a.fits le) in let m = more (message_at v n size) in let c = covers_framed (geometry_of v) size is in let s : ℕ = span (cuts_of (geometry_of v) size) in omega arith)
    (λ no. let far = lt_of_not-le no in dite (dec_le t o)
    (λ (le : t ≤ o). let e = ap claimed_bytes (a.over le) in omega arith)
    (λ off. let low = lt_of_not-le off in let e = ap claimed_bytes (a.trips low far) in let m = more (padding_at v n) in let u = a.unit in whole t o f (claimed_bytes v) (claimed_bytes w) unit u low far (e ∙ m)))
  where
    whole : (t o f s s' : ℕ) → t % 32 ≡ 0 → o % 32 ≡ 0 → o < t → t < o + f → s' ≡ s + (aligned (t - o) + 0 + 0) → s' ≡ s + min f (t - o)
    whole t o f s s' u v low far e = omega arith

-- by numbers that a call has
pub adds_share : (v w : Pass) (size n : ℕ) (g : Geometry) → geometry_of v ≡ g → IsGeometry g → Adds v size n w → (share covered took : ℕ) → share ≡ claimed_bytes v → covered ≡ framed_length g size → took ≡ min covered (g.term_length - offset_in n) → share + took ≡ claimed_bytes w
adds_share v w size n g e is a share covered took now c t =
    (λ j. now j + t j) ∙ (λ j. claimed_bytes v + min (c j) (g.term_length - offset_in n)) ∙ (λ j. claimed_bytes v + min (framed_length (sym e j) size) ((sym e j).term_length - offset_in n)) ∙ sym (adds_bytes v w size n (subst IsGeometry (sym e) is) a)

-- ---- the share of an owner

pub share_is : (owner : ℕ) (es : List Entry) → total (owner_bytes owner) es ≡ share_of owner es
share_is owner [] = refl
share_is owner (e ∷ es) = ap (λ (n : ℕ). owner_bytes owner e + n) (share_is owner es) ∙ sym (share-cons owner e es)

one_of_eight : (o n : ℕ) → o < 8 → cond (o == 0) n 0 + cond (o == 1) n 0 + cond (o == 2) n 0 + cond (o == 3) n 0 + cond (o == 4) n 0 + cond (o == 5) n 0 + cond (o == 6) n 0 + cond (o == 7) n 0 ≡ n
one_of_eight zero n h = omega arith
one_of_eight (suc zero) n h = omega arith
one_of_eight (suc (suc zero)) n h = omega arith
one_of_eight (suc (suc (suc zero))) n h = omega arith
one_of_eight (suc (suc (suc (suc zero)))) n h = omega arith
one_of_eight (suc (suc (suc (suc (suc zero))))) n h = omega arith
one_of_eight (suc (suc (suc (suc (suc (suc zero)))))) n h = omega arith
one_of_eight (suc (suc (suc (suc (suc (suc (suc zero))))))) n h = omega arith
one_of_eight (suc (suc (suc (suc (suc (suc (suc (suc o)))))))) n h = absurd (omega arith)

-- the shares of the eight are all that the entries cover
pub eight_shares : (es : List Entry) → AllByRecursion (λ e. e.owner < 8) es → total (owner_bytes 0) es + total (owner_bytes 1) es + total (owner_bytes 2) es + total (owner_bytes 3) es + total (owner_bytes 4) es + total (owner_bytes 5) es + total (owner_bytes 6) es + total (owner_bytes 7) es ≡ total length_of es
eight_shares [] low = refl
eight_shares (e ∷ es) low = let one = one_of_eight e.owner (length_of e) low.0 in let r = eight_shares es low.1 in
    sums (owner_bytes 0 e) (owner_bytes 1 e) (owner_bytes 2 e) (owner_bytes 3 e) (owner_bytes 4 e) (owner_bytes 5 e) (owner_bytes 6 e) (owner_bytes 7 e) (length_of e) (total (owner_bytes 0) es) (total (owner_bytes 1) es) (total (owner_bytes 2) es) (total (owner_bytes 3) es) (total (owner_bytes 4) es) (total (owner_bytes 5) es) (total (owner_bytes 6) es) (total (owner_bytes 7) es) (total length_of es) one r
  where
    sums : (a b c d e f g h n a' b' c' d' e' f' g' h' n' : ℕ) → a + b + c + d + e + f + g + h ≡ n → a' + b' + c' + d' + e' + f' + g' + h' ≡ n' → (a + a') + (b + b') + (c + c') + (d + d') + (e + e') + (f + f') + (g + g') + (h + h') ≡ n + n'
    sums a b c d e f g h n a' b' c' d' e' f' g' h' n' x y = omega arith
