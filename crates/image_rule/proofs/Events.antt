-- Each kind of step is an event of the stream, or a look.
use Rattle.std.proofs.Common.{◌≡◌, ℕ, ◌+◌, ◌*◌, ◌/◌, ◌%◌, ◌<◌, ◌≤◌, ⊎_elim, inl, inr, List, [], ◌∷◌, set, length, sym, refl, ap, ◌∙◌, subst, arith, get_or-set_same, get_or-set_other, mod-lt}
use Rattle.std.specs.Prelude.{◌^◌, ◌-◌, slice_index}
use Rattle.std.specs.Int.{bit_at}
use Rattle.std.proofs.lemmas.Nat.Bits.{bit_at-lt}
use lib.ListN.{get_elem?}
use lib.Seq.{set-get_or}
use mathlib.Core.Logic.{dite}
use mathlib.Core.Option.{Option, some}
use native.Mathlib.Decide.{ℕ_discrete}
use Rattle.atomic_table.specs.Table.{Allows, State, carried_after, homes_after}
use Rattle.theory.specs.Placed.{frame_length}
use Rattle.theory.specs.Position.{aligned}
use Rattle.theory.specs.Units.{HasUnit, IsContiguous}
use Rattle.region.specs.declared.access.ReadAccess.{ReadAccess}
use Rattle.image_rule.specs.declared.view.Frame.{Frame}
use Rattle.image_rule.specs.declared.view.Key.{Key}
use Rattle.image_rule.specs.declared.view.Held.{Held}
use Rattle.image_rule.specs.declared.view.Site.{Site}
use Rattle.image_rule.specs.declared.view.View.{View}
use Rattle.image_rule.specs.Frames.{Covers, Has, end_of, frame_said, held_place, image_length, placed_all, placed_of, ring}
use Rattle.image_rule.specs.Law.{EndsWithoutBit, IsInsert, IsLook, IsMove, SamePositions, StepsAreEvents}
use Rattle.image_rule.specs.Rule.{ImageRuled, IsKey, Owners, Sound, WordsRuled, consumer_place, image_place}
use Rattle.image_rule.specs.Steps.{Changes, Commits, Fetches, Frees, IsBefore, Looks, MayStore, Mine, Moves, Sweeps, TakesSlots, changed, moved_to, told}
use Rattle.image_rule.proofs.Moves.{change, fetch, look, move, sweep}
use Rattle.image_rule.proofs.Slots.{commit, free, take}
use Rattle.image_rule.proofs.Standing.{contiguous, stands_there, held_word}
use Rattle.image_rule.proofs.Stores.{held_low, may_clear, may_mark, may_start}
use Rattle.image_rule.proofs.Units.{AreCovered, among_placed, has_at, has_unit, sound_covered, unit_has}

-- ---- the contiguous end

pub words_end : (key : Key) (s : State ReadAccess View) (hd : Held) (ow : Owners) (r : WordsRuled key s hd ow) (j u : ℕ) → j < key.consumers → slice_index s.words (consumer_place j) ≡ 32 * u → bit_at (slice_index s.words (image_place + held_place (ring key) u)) (u % 64) ≡ 0 → IsContiguous (placed_all hd.got) (32 * key.join) (slice_index s.words (consumer_place j))
words_end key s hd ow r j u lt at bit =
    let st = stands_there key s hd ow r j u lt at in
    let are : AreCovered hd.got = sound_covered key hd r.sound in
    let joined : key.join ≤ u = (let a = r.sound.joined in let b = st.from in omega arith) in
    subst (IsContiguous (placed_all hd.got) (32 * key.join)) (sym at) record {
      units = u - key.join;
      end = omega arith;
      all = λ k less. subst (HasUnit (placed_all hd.got)) (on key.join k) (has_unit hd.got (key.join + k) are (st.reached (key.join + k) (omega arith) (omega arith)));
      next = λ h. contiguous key hd u r.sound st (ap (λ (n : ℕ). bit_at n (u % 64)) (sym (held_word key s hd ow r u)) ∙ bit) (unit_has hd.got u are h);
    }
  where
    on : (a k : ℕ) → 32 * (a + k) ≡ 32 * a + 32 * k
    on a k = omega arith

-- ---- a step

module _ (t : Site) (id : ℕ) (m : Mine) (i : ℕ) (f : ℕ → ℕ) (told : ℕ → Mine → Type 0) (event : List Frame → List ℕ → List ℕ → View → Type 0) (s : State ReadAccess View) (r : ImageRuled t s) (at : get_elem? s.views id ≡ some m.0) (low : slice_index s.words i < 2 ^ 64) where
  -- one that the table allows, that tells so much, and is such an event
  stepping : Allows (ImageRuled t) (length s.homes) id m i f told → ((w : Mine) → told (slice_index s.words i) w → event r.held.got s.words (set s.words i (f (slice_index s.words i))) w.0)
      → (w : Mine) × (homes : List (Option ReadAccess)) × ImageRuled t (record { words = set s.words i (f (slice_index s.words i)); homes = homes; views = set s.views id w.0 }) × told (slice_index s.words i) w × event r.held.got s.words (set s.words i (f (slice_index s.words i))) w.0
  stepping go is = let g = go s r refl at low in ((g.0, carried_after m.1 g.1), homes_after s.homes m.1 g.1, g.3, g.4, is (g.0, carried_after m.1 g.1) g.4)

-- the view has the same frames
record Rests (v w : View) : Type 0 where
  inserting : w.inserting ≡ v.inserting
  got : w.held.got ≡ v.held.got

rests_by : (v w x : View) → w ≡ x → x.inserting ≡ v.inserting → x.held.got ≡ v.held.got → Rests v w
rests_by v w x e a b = record { inserting = ap (λ (y : View). y.inserting) e ∙ a; got = ap (λ (y : View). y.held.got) e ∙ b }

-- a load
loads : (key : Key) (words : List ℕ) (i : ℕ) (v w : View) → Rests v w → IsLook key words (set words i (slice_index words i)) v w
loads key words i v w k = record { inserting = k.inserting; stored = k.got; positions = λ j lt. ap (λ (ws : List ℕ). slice_index ws (consumer_place j)) (set-get_or words i 0) }

-- a store of the inserter's
stores_apart : (key : Key) (words : List ℕ) (k x : ℕ) → IsKey key → SamePositions key words (set words (image_place + k) x)
stores_apart key words k x is j lt = let few = is.few in get_or-set_other words (image_place + k) (consumer_place j) x 0 (λ e. omega arith)

stores : (key : Key) (words : List ℕ) (k x floor : ℕ) (v w : View) → IsKey key → Changes k x floor v.held.got v w → IsLook key words (set words (image_place + k) x) v w
stores key words k x floor v w is told = let e = rests_by v w _ told refl refl in record { inserting = e.inserting; stored = e.got; positions = stores_apart key words k x is }

looks_rests : (t : Site) (m : Mine) (n : ℕ) (w : Mine) → Looks t m n w → Rests m.0 w.0
looks_rests t m n w told = dite (ℕ_discrete (bit_at n (m.0.reading.unit % 64)) 1)
    (λ y. rests_by m.0 w.0 _ (told.found y).found.after refl refl)
    (λ ne. rests_by m.0 w.0 _ (told.none (let b = bit_at-lt n (m.0.reading.unit % 64) in omega arith)).0 refl refl)

inserts : (key : Key) (v : View) (f : Frame) (k x : ℕ) (words : List ℕ) (w : View) → IsKey key → Sound key v.held → MayStore key v.held f k x → w ≡ record v { held = record (changed v.held k x v.held.floor (f ∷ v.held.got)) { out = 0 } } → IsInsert key words (set words (image_place + k) x) v w (placed_of f)
inserts key v f k x words w is sound may told =
    let are : AreCovered v.held.got = sound_covered key v.held sound in
    let mine : AreCovered (f ∷ []) = (λ g a. ⊎_elim (λ (e : g ≡ f). subst (λ (y : Frame). 32 * y.units ≡ aligned (frame_length (frame_said y.bytes))) (sym e) may.spelt.covered) (λ n. absurd n) a) in
    record {
      inserting = ap (λ (y : View). y.inserting) told;
      stored = ap (λ (y : View). placed_all y.held.got) told;
      apart = λ p here there.
          let h = has_at (f ∷ []) p mine here in let c : Covers f (p / 32) = covers (p / 32) h in
          may.free (p / 32) c (has_at v.held.got p are there);
      positions = stores_apart key words k x is;
    }
  where
    covers : (u : ℕ) → Has (f ∷ []) u → Covers f u
    covers u h = ⊎_elim (λ (e : h.frame ≡ f). subst (λ (y : Frame). Covers y u) e h.covers) (λ n. absurd n) h.among

moves : (key : Key) (s : State ReadAccess View) (hd : Held) (ow : Owners) (r : WordsRuled key s hd ow) (id : ℕ) (v : View) (f : Frame) (w : View) → get_elem? s.views id ≡ some v → IsBefore f v → w ≡ moved_to v (end_of f) → IsMove key hd.got s.words (set s.words (consumer_place v.reading.number) (32 * end_of f)) v w v.reading.number (placed_of f)
moves key s hd ow r id v f w at may told =
    let k = r.each id v at in let a = k.reads may.reads in let among = k.known f may.known in let e = rests_by v w _ told refl refl in
    let c = (r.sound.spelt f among).covered in
    record {
      inserting = e.inserting;
      stored = e.got;
      among = among_placed f hd.got among;
      here = (let h = may.here in let p = a.position in omega arith);
      there = get_or-set_same s.words (consumer_place v.reading.number) (32 * end_of f) 0 (short v.reading.number key.consumers (image_length (ring key)) (length s.words) a.inside r.is_key.few r.long) ∙ ends f.unit f.units (aligned (frame_length (frame_said f.bytes))) c;
      others = λ j lt ne. get_or-set_other s.words (consumer_place v.reading.number) (consumer_place j) (32 * end_of f) 0 (λ q. ne (omega arith));
    }
  where
    short : (j c x l : ℕ) → j < c → c ≤ 8 → l ≡ image_place + x → consumer_place j < l
    short j c x l a b e = omega arith

    ends : (u n c : ℕ) → 32 * n ≡ c → 32 * (u + n) ≡ 32 * u + c
    ends u n c e = omega arith

pub ends_without_bit : EndsWithoutBit
ends_without_bit t s r j u lt at bit = words_end t.key s r.held r.owners r.words j u lt at bit

pub steps_are_events : StepsAreEvents
steps_are_events = record {
  load_position = λ t id m j one inside s r at low.
      stepping t id m (consumer_place j) (λ n. n) (told (Sweeps j) m) (λ _ words after w. IsLook t.key words after m.0 w) s r at low
      (sweep t (length s.homes) id m j one inside) (λ w q. loads t.key s.words (consumer_place j) m.0 w.0 (rests_by m.0 w.0 _ q.1.after refl refl));
  store_later_bits = λ t id m k x one may s r at low.
      stepping t id m (image_place + k) (λ _. x) (λ _. told (λ v n w. Changes k n v.held.floor v.held.got v w) m x) (λ _ words after w. IsLook t.key words after m.0 w) s r at low
      (change t (length s.homes) id m k x m.0.held.floor (let a = may.inside in omega arith) (may_mark t.key m.0 k x r.words.is_key one may) (inl refl)) (λ w q. stores t.key s.words k x m.0.held.floor m.0 w.0 r.words.is_key q.1);
  store_start_bits = λ t id m k x one from below s r at low.
      stepping t id m (image_place + k) (λ _. x) (λ _. told (λ v n w. Changes k n v.held.floor v.held.got v w) m x) (λ _ words after w. IsLook t.key words after m.0 w) s r at low
      (change t (length s.homes) id m k x m.0.held.floor below (may_start t.key m.0 k x r.words.is_key one from below) (inl refl)) (λ w q. stores t.key s.words k x m.0.held.floor m.0 w.0 r.words.is_key q.1);
  clear_bits = λ t id m floor k x one idle may s r at low.
      stepping t id m (image_place + k) (λ _. x) (λ _. told (λ v n w. Changes k n floor v.held.got v w) m x) (λ _ words after w. IsLook t.key words after m.0 w) s r at low
      (change t (length s.homes) id m k x floor (let a = may.inside in omega arith) (may_clear t.key m.0 floor k x r.words.is_key one may) (inr (idle, may.from, may.near))) (λ w q. stores t.key s.words k x floor m.0 w.0 r.words.is_key q.1);
  take_slots = λ t id m u i may s r at low.
      stepping t id m i (λ n. n) (λ _. TakesSlots t u m) (λ _ words after w. IsLook t.key words after m.0 w) s r at low
      (take t (length s.homes) id m u i may) (λ w q. loads t.key s.words i m.0 w.0 (rests_by m.0 w.0 _ q.after refl refl));
  free_slots = λ t id m f i may s r at low.
      stepping t id m i (λ n. n) (Frees f m) (λ _ words after w. IsLook t.key words after m.0 w) s r at low
      (free t (length s.homes) id m f i may) (λ w q. loads t.key s.words i m.0 w.0 (rests_by m.0 w.0 _ q.0 refl refl));
  insert = λ t id m f k x one may parts s r at low.
      let mine = ((r.words.each id m.0 at).inserts one).held in
      stepping t id m (image_place + k) (λ _. x) (λ _. Commits k f m x) (λ _ words after w. IsInsert t.key words after m.0 w (placed_of f)) s r at low
      (commit t (length s.homes) id m f k x one may (let a = subst (λ (y : ℕ). y < ring t.key / 64) may.there (held_low t.key r.words.is_key f.unit) in omega arith) parts)
      (λ w q. inserts t.key m.0 f k x s.words w.0 r.words.is_key (subst (Sound t.key) (sym mine) r.words.sound) may q.0);
  load_own_bits = λ t id m one s r at low.
      stepping t id m (image_place + held_place (ring t.key) m.0.reading.unit) (λ n. n) (Looks t m) (λ _ words after w. IsLook t.key words after m.0 w) s r at low
      (look t (length s.homes) id m one) (λ w q. loads t.key s.words (image_place + held_place (ring t.key) m.0.reading.unit) m.0 w.0 (looks_rests t m (slice_index s.words (image_place + held_place (ring t.key) m.0.reading.unit)) w q));
  load_bits = λ t id m k one inside s r at low.
      stepping t id m (image_place + k) (λ n. n) (told (Fetches k) m) (λ _ words after w. IsLook t.key words after m.0 w) s r at low
      (fetch t (length s.homes) id m k one inside) (λ w q. loads t.key s.words (image_place + k) m.0 w.0 (rests_by m.0 w.0 m.0 q.1.1 refl refl));
  move = λ t id m f may s r at low.
      stepping t id m (consumer_place m.0.reading.number) (λ _. 32 * end_of f) (λ _. Moves f m (32 * end_of f)) (λ got words after w. IsMove t.key got words after m.0 w m.0.reading.number (placed_of f)) s r at low
      (move t (length s.homes) id m f m.0.reading.number (32 * end_of f) refl refl may) (λ w q. moves t.key s r.held r.owners r.words id m.0 f w.0 at may.before q.0);
}
