-- What is stored of a frame is what its words say, and its parts are an eighth each of the right to read that.
use Rattle.std.proofs.Common.{◌≡◌, ℕ, zero, suc, ◌+◌, ◌-◌, ◌*◌, ◌/◌, ◌%◌, ◌^◌, ◌<◌, ◌≤◌, List, [], ◌∷◌, ◌++◌, drop, get_or, length, replicate, sym, ap, ◌∙◌, arith}
use Rattle.std.proofs.lemmas.List.{drop-replicate, get_or-drop}
use Rattle.std.specs.Int.{w64, from_le_bytes}
use Rattle.std.specs.Prelude.{slice_index}
use Rattle.position.specs.Contents.{bytes_in}
use Rattle.position.specs.Words.{words_in}
use Rattle.position.proofs.Contents.{IsSmall, bytes_small}
use Rattle.position.proofs.Wordings.{words_length, words_spell}
use Rattle.region.specs.declared.access.Access.{Access}
use Rattle.region.specs.declared.access.ReadAccess.{ReadAccess}
use Rattle.log_memory.specs.declared.drafts.Draft.{Draft}
use Rattle.log_memory.specs.declared.view.Site.{Site}
use Rattle.log_memory.specs.Drafts.{IsDraft, words_of}
use Rattle.log_memory.specs.Rights.{IsEighthAt}
use Rattle.log_memory.specs.Steps.{Carries, IsPartAt}

pub written_items : (d : Draft) → IsDraft d → bytes_in (d.first ∷ d.second ∷ d.third ∷ 0 ∷ []) ++ (d.payload.now ++ drop (length d.payload.now) (drop 32 (replicate (32 * (d.bytes / 32)) 0))) ≡ bytes_in (words_of d)
written_items d is =
    let len : ℕ = length d.payload.now in let n : ℕ = 32 * (d.bytes / 32) in let m : ℕ = d.bytes / 8 - 4 in let whole = is.whole in let fits = is.fits in let b : ℕ = d.bytes in
    let rest : drop len (drop 32 (replicate {A = ℕ} n 0)) ≡ replicate (8 * m - len) 0 = ap (drop len) (drop-replicate 32 n 0) ∙ drop-replicate len (n - 32) 0 ∙ ap (λ (k : ℕ). replicate k 0) (left b len whole fits) in
    ap (λ (l : List ℕ). bytes_in (d.first ∷ d.second ∷ d.third ∷ 0 ∷ []) ++ (d.payload.now ++ l)) rest
    ∙ ap (λ (l : List ℕ). bytes_in (d.first ∷ d.second ∷ d.third ∷ 0 ∷ []) ++ l) (sym (words_spell m d.payload.now (bytes_small d.payload.now is.small) (room b len whole fits)))
  where
    left : (b l : ℕ) → b % 32 ≡ 0 → 32 + l ≤ b → 32 * (b / 32) - 32 - l ≡ 8 * (b / 8 - 4) - l
    left b l w f = omega arith

    room : (b l : ℕ) → b % 32 ≡ 0 → 32 + l ≤ b → l ≤ 8 * (b / 8 - 4)
    room b l w f = omega arith

-- each slot of a row has something else
pub carries_as : (is also : ℕ → Access → Type 0) (k count : ℕ) (before mine : List (ℕ × Access)) → ((i : ℕ) (g : Access) → is i g → also i g) → Carries is k count before mine → Carries also k count before mine
carries_as is also k zero before mine go c = c
carries_as is also k (suc count) before mine go c = (c.0, c.1, c.2, go k c.0 c.3, carries_as is also (suc k) count before c.1 go c.4)

pub eighths_are_parts : (t : Site) (k : ℕ) (ws : List ℕ) (whole : ReadAccess) → whole.identity ≡ t.region.identity → whole.at ≡ 4 * k → whole.items ≡ bytes_in ws → (i : ℕ) (g : Access) → IsEighthAt k whole i g → IsPartAt t k ws whole.round.life whole.round.book i g
eighths_are_parts t k ws whole identity at items i g e low = let r = e low in record {
  identity = ap (λ (x : ReadAccess). x.identity) r ∙ identity;
  at = ap (λ (x : ReadAccess). x.at) r ∙ at;
  count = ap (λ (x : ReadAccess). x.count) r;
  round = ap (λ (x : ReadAccess). x.round) r;
  items = ap (λ (x : ReadAccess). x.items) r ∙ items;
}

-- its words are as many bytes as it covers
pub words_long : (d : Draft) → IsDraft d → 8 * length (words_of d) ≡ d.bytes
words_long d is = ap (λ (n : ℕ). 8 * suc (suc (suc (suc n)))) (words_length (d.bytes / 8 - 4) d.payload.now) ∙ go d.bytes (length d.payload.now) is.whole is.fits
  where
    go : (b l : ℕ) → b % 32 ≡ 0 → 32 + l ≤ b → 8 * suc (suc (suc (suc (b / 8 - 4)))) ≡ b
    go b l w f = omega arith

-- and words of 64 bits
word_low : (a b c d e f g h : ℕ) → a < 256 → b < 256 → c < 256 → d < 256 → e < 256 → f < 256 → g < 256 → h < 256 → a + b * 256 + c * 65536 + d * 16777216 + e * 4294967296 + f * 1099511627776 + g * 281474976710656 + h * 72057594037927936 < 2 ^ 64
word_low a b c d e f g h la lb lc ld le lf lg lh = omega arith

word_fits : (xs : List ℕ) → IsSmall xs → from_le_bytes w64 xs < 2 ^ 64
word_fits xs small = word_low (get_or xs 0 0) (get_or xs 1 0) (get_or xs 2 0) (get_or xs 3 0) (get_or xs 4 0) (get_or xs 5 0) (get_or xs 6 0) (get_or xs 7 0) (small 0) (small 1) (small 2) (small 3) (small 4) (small 5) (small 6) (small 7)

words_fit : (n : ℕ) (xs : List ℕ) → IsSmall xs → (i : ℕ) → slice_index (words_in n xs) i < 2 ^ 64
words_fit zero xs small i = omega arith
words_fit (suc n) xs small zero = word_fits xs small
words_fit (suc n) xs small (suc i) = words_fit n (drop 8 xs) (λ j. let e = get_or-drop 8 xs j 0 in let s = small (8 + j) in omega (arith, e, s)) i

pub draft_fits : (d : Draft) → IsDraft d → (i : ℕ) → slice_index (words_of d) i < 2 ^ 64
draft_fits d is zero = is.header.0
draft_fits d is (suc zero) = is.header.1
draft_fits d is (suc (suc zero)) = is.header.2
draft_fits d is (suc (suc (suc zero))) = omega arith
draft_fits d is (suc (suc (suc (suc i)))) = words_fit (d.bytes / 8 - 4) d.payload.now (bytes_small d.payload.now is.small) i
