-- The padding that an addition left open.
use Rattle.std.proofs.Common.{◌≡◌, ℕ, ◌+◌, ◌-◌, ◌*◌, ◌%◌, ◌<◌, ◌≤◌, [], ◌∷◌, ◌++◌, length, length-append, sym, refl, ap, subst, arith}
use Rattle.theory.specs.Placed.{Pad}
use Rattle.theory.specs.Position.{max_position}
use Rattle.theory.specs.Words.{offset_in}
use Rattle.publication.specs.declared.pass.Pass.{Pass}
use Rattle.publication.specs.Steps.{count_in, geometry_of, start_in, term_of}
use Rattle.publication.specs.Frames.{frame_at}
use Rattle.publication.specs.Claims.{Fills, HasBlank, padding_stores}
use Rattle.publication.specs.Looks.{Pads}
use Rattle.publication.proofs.Adding.{in_stream}

not_both : (m n : ℕ) → m < n → n ≤ m → ⊥
not_both m n l h = omega (arith, l, h)

no_more : (m n : ℕ) → m < n → m + 0 ≤ n
no_more m n l = omega (arith, l)

no_further : (m n : ℕ) → m + 0 ≤ n → m ≤ n
no_further m n h = omega (arith, h)

-- one frame is committed more
pub one_more : (v w : Pass) (start cut : ℕ) → HasBlank v start cut → Fills v start (Pad cut) w → 1 ≡ padding_stores v w
one_more v w start cut blank fills =
    let all : length w.work.frames ≡ length (v.work.frames ++ frame_at v.identity start (Pad cut) ∷ []) = ap (λ (u : Pass). length u.work.frames) (fills blank.front blank.behind blank.parts) in
    let one : length (v.work.frames ++ frame_at v.identity start (Pad cut) ∷ []) ≡ length v.work.frames + 1 = length-append v.work.frames (frame_at v.identity start (Pad cut) ∷ []) in
    omega (arith, all, one)

pub none_more : (v : Pass) → 0 ≡ padding_stores v v
none_more v = omega arith

-- the blank that is left begins at the word's offset
pub blank_here : (v : Pass) (word start cut : ℕ) → start ≡ start_in (geometry_of v) word → cut ≡ term_of v - offset_in word → HasBlank v (start_in (geometry_of v) word) (term_of v - offset_in word) → HasBlank v start cut
blank_here v word start cut at long blank = subst (λ (x : ℕ × ℕ). HasBlank v x.0 x.1) (λ j. (sym at j, sym long j)) blank

pub pads_below : (v w : Pass) (word start cut : ℕ) → start ≡ start_in (geometry_of v) word → cut ≡ term_of v - offset_in word → offset_in word < term_of v → Fills v start (Pad cut) w → Pads v word w
pads_below v w word start cut at long below fills = record {
  below = λ _. subst (λ (x : ℕ × ℕ). Fills v x.0 (Pad x.1) w) (λ j. (at j, long j)) fills;
  over = λ h. absurd (not_both (offset_in word) (term_of v) below h);
}

pub pads_over : (v : Pass) (word : ℕ) → term_of v ≤ offset_in word → Pads v word v
pads_over v word over = record { below = λ h. absurd (not_both (offset_in word) (term_of v) h over); over = λ _. refl }

-- it begins and ends in the stream
pub pad_in_stream : (v : Pass) (word start : ℕ) → start ≡ start_in (geometry_of v) word → count_in (geometry_of v) word < 2147483648 → offset_in word < term_of v → start ≤ max_position (geometry_of v)
pad_in_stream v word start at small below =
    subst (λ (n : ℕ). n ≤ max_position (geometry_of v)) (sym at)
    (no_further (count_in (geometry_of v) word * term_of v + offset_in word) (term_of v * 2147483648) (in_stream (count_in (geometry_of v) word) (term_of v) (offset_in word) 0 small (no_more (offset_in word) (term_of v) below)))

pub pad_long : (offset term : ℕ) → offset % 32 ≡ 0 → term % 65536 ≡ 0 → offset < term → 32 ≤ term - offset
pad_long offset term unit whole below = omega (arith, unit, whole, below)

pub pad_short : (offset term : ℕ) → term - offset ≤ term
pad_short offset term = omega arith
