-- What the inserter's words say of the units that it stored.
use Rattle.std.proofs.Common.{◌≡◌, ℕ, ◌+◌, ◌-◌, ◌*◌, ◌/◌, ◌%◌, ◌^◌, ◌<◌, ◌≤◌, inl, inr, ⊎_elim, min, sym, ap, ◌∙◌, subst, arith, mod-lt, List}
use Rattle.std.proofs.lemmas.Nat.{and_le_l}
use Rattle.std.proofs.lemmas.Bool.{cases_lt}
use Rattle.std.specs.Prelude.{◌↔◌, Bool, IsTrue, bit_and, slice_index}
use Rattle.std.specs.Int.{bit_at, w64, to_le_bytes, trailing_zeros}
use Rattle.std.proofs.lemmas.Nat.Bits.{bit_at-lt, bit_at-trailing_zeros, bit_at_and, shr_and_one}
use Rattle.theory.specs.Placed.{Placed}
use Rattle.theory.specs.Units.{HasUnit}
use Rattle.position.specs.declared.head.FrameHead.{FrameHead}
use Rattle.position.specs.Heads.{head_of}
use Rattle.position.specs.Contents.{head_by}
use Rattle.image_rule.specs.declared.view.Frame.{Frame}
use Rattle.image_rule.specs.declared.view.Held.{Held}
use Rattle.image_rule.specs.declared.view.Key.{Key}
use Rattle.image_rule.specs.Frames.{Has, HasStart, StartsAt, held_bit, held_place, placed_all, ring, start_bit, start_place}
use Rattle.image_rule.specs.Bits as bits
use Rattle.image_rule.specs.Bits.{InRun, IsExact, IsMask}
use Rattle.image_rule.specs.Rule.{IsKey}
use Rattle.image_rule.proofs.Runs.{same_word}
use Rattle.image_rule.proofs.Spelt.{says}
use Rattle.image_rule.proofs.Units.{AreCovered, has_at, has_unit, placed_among, placed_starts, sound_covered, starts_placed, unit_at}
use Rattle.image.specs.Handles.{InserterSeat, IsInserting, stored_by}
use Rattle.image.proofs.RingPlaces.{times_place}
use Rattle.image.specs.Memory.{HasMemory}
use Rattle.image.specs.Looking.{AreFree, IsFirstWord, IsHeadOf, TellsUnits}

-- ---- a word and a mask have a bit together: a unit of the run was stored

module _ (key : Key) (is : IsKey key) (h : Held) (e : IsExact key h) where
  pub some_part : (at count m word : ℕ) → h.floor ≤ at → at + count ≤ h.floor + ring key → at % 64 + count ≤ 64 → IsMask m (at % 64) (at % 64 + count) → word < 2 ^ 64 → word ≡ slice_index h.words (held_place (ring key) at) → (bit_and word m ≡ 0 → ⊥) → bits.AreFree h at (at + count) → ⊥
  some_part at count m w from near short mask small is_word some free =
      let n : ℕ = bit_and w m in
      let le : n ≤ w = and_le_l w m in
      let positive : 0 < n = ⊎_elim (λ (l : 0 < n). l) (λ (l : n ≤ 0). absurd (some (omega arith))) (cases_lt 0 n) in
      let first = bit_at-trailing_zeros w64 n positive (omega arith) in
      let k : ℕ = trailing_zeros w64 n in
      let one : bit_at n k ≡ 1 = first.1 in
      let both : bit_at n k ≡ min (bit_at w k) (bit_at m k) = bit_at_and w m k in
      let lo : at % 64 ≤ k = ⊎_elim (λ (l : k < at % 64). let none : bit_at m k ≡ 0 = mask.outside k (inl l) in absurd (omega arith)) (λ (l : at % 64 ≤ k). l) (cases_lt k (at % 64)) in
      let hi : k < at % 64 + count = ⊎_elim (λ (l : k < at % 64 + count). l) (λ (l : at % 64 + count ≤ k). let none : bit_at m k ≡ 0 = mask.outside k (inr l) in absurd (omega arith)) (cases_lt k (at % 64 + count)) in
      let u : ℕ = at - at % 64 + k in
      let word_of : u / 64 ≡ at / 64 = omega arith in
      let bit_of : u % 64 ≡ k = omega arith in
      let less : bit_at w k < 2 = bit_at-lt w k in
      let held : bit_at w k ≡ 1 = omega arith in
      let bit : held_bit (ring key) h.words u ≡ 1 = (λ j. bit_at (slice_index h.words (same_word key is u at word_of j)) (bit_of j)) ∙ ap (λ (x : ℕ). bit_at x k) (sym is_word) ∙ held in
      ⊎_elim (λ (has : Has h.got u). free u (omega arith) (omega arith) has) (λ (r : InRun 0 0 u). let b = r.1 in absurd (omega arith)) (e.marked.only u (omega arith) (omega arith) bit)

-- ---- by positions

module _ (n : InserterSeat) (is : IsInserting n.key n.view) where
  abbrev h : Held
  h = n.view.held

  are : AreCovered n.view.held.got
  are = sound_covered n.key n.view.held is.exact.sound

  pub free_to : (from to : ℕ) → from % 32 ≡ 0 → to % 32 ≡ 0 → bits.AreFree n.view.held (from / 32) (to / 32) → AreFree n from to
  free_to from to a b free p lo hi has = let e = unit_at n.view.held.got p has in free (p / 32) (omega arith) (omega arith) (has_at n.view.held.got p are has)

  pub free_of : (from to : ℕ) → from % 32 ≡ 0 → to % 32 ≡ 0 → AreFree n from to → bits.AreFree n.view.held (from / 32) (to / 32)
  free_of from to a b free u lo hi has = free (32 * u) (omega arith) (omega arith) (has_unit n.view.held.got u are has)

  -- a unit's place
  place : (p : ℕ) → p % 32 ≡ 0 → held_place (ring n.key) (p / 32) ≡ p % (3 * n.key.identity.geometry.term_length) / 2048
  place p unit =
      let u : ℕ = p / 32 in let r : ℕ = ring n.key in let q : ℕ = u % r in
      let e : 32 * u ≡ p = omega arith in
      let m : p % (3 * n.key.identity.geometry.term_length) ≡ 32 * q = (λ j. (sym e) j % (sym is.is_key.bytes) j) ∙ times_place 32 u r is.is_key.some (let lt : q < r = mod-lt u is.is_key.some in omega arith) in
      sym (ap (λ (x : ℕ). x / 2048) m ∙ (let f : 32 * q / 2048 ≡ q / 64 = omega arith in f))

  pub tells_units : (index word : ℕ) → word ≡ slice_index n.view.held.words index → TellsUnits n index word
  tells_units index word w p unit lo hi at =
      let u : ℕ = p / 32 in let e : 32 * u ≡ p = omega arith in let bytes = is.is_key.bytes in
      let there : held_place (ring n.key) u ≡ index = place p unit ∙ at in
      let bit : bit_at word (p % 2048 / 32) ≡ held_bit (ring n.key) n.view.held.words u = (λ j. bit_at (w j) ((let b : p % 2048 / 32 ≡ u % 64 = omega arith in b) j)) ∙ ap (λ (x : ℕ). bit_at (slice_index n.view.held.words x) (u % 64)) (sym there) in (
        λ one. subst (HasUnit (placed_all n.view.held.got)) e (has_unit n.view.held.got u are (⊎_elim (λ (has : Has n.view.held.got u). has) (λ (r : InRun 0 0 u). let b = r.1 in absurd (omega arith)) (is.exact.marked.only u (omega arith) (omega arith) (sym bit ∙ one)))),
        λ has. bit ∙ is.exact.marked.set u (omega arith) (omega arith) (inl (has_at n.view.held.got p are has)),
      )

  pub tells_start : (position word : ℕ) → position % 32 ≡ 0 → 32 * n.view.held.floor ≤ position → position < 32 * n.view.held.floor + 3 * n.key.identity.geometry.term_length → word ≡ slice_index n.view.held.words (start_place (ring n.key) (position / 32)) → (bit_at word (position / 32 % 64) ≡ 1) ↔ HasStart (stored_by n) position
  tells_start p word unit lo hi w =
      let u : ℕ = p / 32 in let e : 32 * u ≡ p = omega arith in let bytes = is.is_key.bytes in
      let bit : bit_at word (u % 64) ≡ start_bit (ring n.key) n.view.held.words u = ap (λ (x : ℕ). bit_at x (u % 64)) w in (
        λ one. subst (HasStart (placed_all n.view.held.got)) e (starts_placed n.view.held.got u (⊎_elim (λ (s : StartsAt n.view.held.got u). s) (λ (r : InRun 0 0 u). let b = r.1 in absurd (omega arith)) (is.exact.started.only u (omega arith) (omega arith) (sym bit ∙ one)).1)),
        λ has. bit ∙ is.exact.started.set u (omega arith) (omega arith) (inl (placed_starts n.view.held.got u (subst (HasStart (placed_all n.view.held.got)) (sym e) has))),
      )

  -- the first bytes of a frame that were written down
  pub first_bytes : (position word place : ℕ) (free : List Bool) (heads : List ℕ) → HasMemory (ring n.key) n.view.held free heads → n.view.held.freed ≡ n.view.held.floor → position % 32 ≡ 0 → 32 * n.view.held.floor ≤ position → place ≡ position / 32 % ring n.key → word ≡ slice_index heads place → IsFirstWord n position word
  first_bytes p word place free heads mem freed unit lo there w f among at =
      let e : f.unit ≡ p / 32 = omega arith in let b = mem.bytes f among (omega (arith, freed)) in
      ap (to_le_bytes w64) (w ∙ ap (slice_index heads) (there ∙ ap (λ (u : ℕ). u % ring n.key) (sym e))) ∙ b.head

  pub head_is : (position first : ℕ) (head : FrameHead) → IsFirstWord n position first → head ≡ head_by position (to_le_bytes w64 first) → IsHeadOf n position head
  head_is p first head is_first is_head s among at =
      let q = placed_among s n.view.held.got among in let f : Frame = q.frame in
      let here : 32 * f.unit ≡ p = sym (ap (λ (x : Placed). x.at) q.is) ∙ at in
      is_head ∙ ap (head_by p) (is_first f q.among here) ∙ (says n.key.identity f (is.exact.sound.spelt f q.among)).head p ∙ ap (λ (x : Placed). head_of p x.frame) (sym q.is)

-- ---- what the calls say, of the very inserter

pub on_units : (n m : InserterSeat) (index word : ℕ) → n ≡ m → IsInserting n.key n.view → word ≡ slice_index n.view.held.words index → TellsUnits m index word
on_units n m index word e is w = subst (λ (x : InserterSeat). TellsUnits x index word) e (tells_units n is index word w)

pub on_free : (n m : InserterSeat) (from to : ℕ) (b : Bool) → n ≡ m → IsInserting n.key n.view → from % 32 ≡ 0 → to % 32 ≡ 0 → (IsTrue b ↔ bits.AreFree n.view.held (from / 32) (to / 32)) → IsTrue b ↔ AreFree m from to
on_free n m from to b e is p q free = subst (λ (x : InserterSeat). IsTrue b ↔ AreFree x from to) e (λ yes'. free_to n is from to p q (free.0 yes'), λ f. free.1 (free_of n is from to p q f))

pub on_start : (n m : InserterSeat) (position word : ℕ) → n ≡ m → IsInserting n.key n.view → position % 32 ≡ 0 → 32 * n.view.held.floor ≤ position → position < 32 * n.view.held.floor + 3 * n.key.identity.geometry.term_length → word ≡ slice_index n.view.held.words (start_place (ring n.key) (position / 32))
    → (bit_and (word / 2 ^ (position / 32 % 64)) 1 ≡ 1) ↔ HasStart (stored_by m) position
on_start n m p word e is unit lo hi w =
    let t = tells_start n is p word unit lo hi w in let k : ℕ = p / 32 % 64 in
    subst (λ (x : InserterSeat). (bit_and (word / 2 ^ k) 1 ≡ 1) ↔ HasStart (stored_by x) p) e (λ one. t.0 (sym (shr_and_one word k) ∙ one), λ s. shr_and_one word k ∙ t.1 s)

pub on_head : (n m : InserterSeat) (position first : ℕ) (head : FrameHead) → n ≡ m → IsInserting n.key n.view → IsFirstWord m position first → head ≡ head_by position (to_le_bytes w64 first) → IsHeadOf m position head
on_head n m p first head e is is_first is_head = subst (λ (x : InserterSeat). IsHeadOf x p head) e (head_is n is p first head (subst (λ (x : InserterSeat). IsFirstWord x p first) (sym e) is_first) is_head)
