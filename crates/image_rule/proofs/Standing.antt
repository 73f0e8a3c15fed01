-- A reader's steps keep the rule.
use Rattle.std.proofs.Common.{◌≡◌, ℕ, ◌+◌, ◌-◌, ◌*◌, ◌%◌, ◌<◌, mod-lt, sym, ap, ◌∙◌, subst, arith}
use Rattle.std.specs.Prelude.{slice_index}
use mathlib.Core.Logic.{dite}
use native.Mathlib.Decide.{dec_le}
use Rattle.atomic_table.specs.Table.{State}
use Rattle.region.specs.declared.access.ReadAccess.{ReadAccess}
use Rattle.image_rule.specs.declared.view.Held.{Held}
use Rattle.image_rule.specs.declared.view.Key.{Key}
use Rattle.image_rule.specs.declared.view.View.{View}
use Rattle.image_rule.specs.Frames.{Has, held_bit, held_place, image_length, ring}
use Rattle.image_rule.specs.Rule.{IsKey, Owners, Sound, Stands, WordsRuled, consumer_place, image_place}

-- ---- where a consumer stands

-- it is within the ring
pub below_end : (key : Key) (h : Held) (u : ℕ) → IsKey key → Sound key h → Stands key h u → u < h.floor + (ring key)
below_end key h u is s st = dite (dec_le u h.floor)
    (λ le. let a = is.some in omega arith)
    (λ gt. let j = s.joined in let has = st.reached (u - 1) (omega arith) (omega arith) in let e = st.edge has.frame has.among (let a = has.covers.0 in omega arith) in let n = s.near has.frame has.among in let b = has.covers.1 in omega arith)

-- a stored frame that has the unit begins there
pub begins : (key : Key) (h : Held) (u : ℕ) → Stands key h u → (has : Has h.got u) → has.frame.unit ≡ u
begins key h u st has = dite (dec_le u has.frame.unit)
    (λ le. let a = has.covers.0 in omega arith)
    (λ gt. let e = st.edge has.frame has.among (omega arith) in let b = has.covers.1 in absurd (omega arith))

-- a bit where a consumer stands is that of a frame which begins there
pub bit_shows : (key : Key) (h : Held) (u : ℕ) → IsKey key → Sound key h → Stands key h u → held_bit (ring key) h.words u ≡ 1 → Has h.got u
bit_shows key h u is s st = s.honest u st.from (below_end key h u is s st) st.reached

-- without the bit it stands at the end of what was stored without a gap
pub contiguous : (key : Key) (h : Held) (u : ℕ) → Sound key h → Stands key h u → held_bit (ring key) h.words u ≡ 0 → Has h.got u → ⊥
contiguous key h u s st none has =
    let b = begins key h u st has in
    let m = s.marked has.frame has.among (let f = st.from in omega arith) in
    let e : held_bit (ring key) h.words has.frame.unit ≡ held_bit (ring key) h.words u = ap (held_bit (ring key) h.words) b in
    let m' : held_bit (ring key) h.words u ≡ 1 = sym e ∙ m in
    absurd (omega arith)

-- ---- the words of a table that are the image's

held_inside : (key : Key) (u : ℕ) → IsKey key → held_place (ring key) u < image_length (ring key)
held_inside key u is = let a = is.some in let w = is.whole in let q : ℕ = u % (ring key) in let m : q < (ring key) = mod-lt u a in omega arith

one_unit : (a c : ℕ) → 32 * a ≡ 32 * c → a ≡ c
one_unit a c e = omega arith

module _ (key : Key) (s : State ReadAccess View) (hd : Held) (ow : Owners) (r : WordsRuled key s hd ow) where
  -- the word of held bits that a table has is that of its image
  pub held_word : (u : ℕ) → slice_index s.words (image_place + held_place (ring key) u) ≡ slice_index hd.words (held_place (ring key) u)
  held_word u = r.mirrors (held_place (ring key) u) (held_inside key u r.is_key)

  pub stands_there : (j u : ℕ) → j < key.consumers → slice_index s.words (consumer_place j) ≡ 32 * u → Stands key hd u
  stands_there j u lt e = let a = r.stands j lt in subst (Stands key hd) (one_unit a.unit u (sym a.is ∙ e)) a.stands
