-- What the rule says of a table's state, by its parts.
use Rattle.std.proofs.Common.{◌≡◌, ℕ, suc, ◌+◌, ◌*◌, ◌/◌, ◌%◌, ◌<◌, ◌≤◌, ⊎_elim, inl, inr, List, [], ◌∷◌, length, take, sym, refl, ap, ◌∙◌, subst, arith}
use Rattle.std.specs.Prelude.{slice_index}
use Rattle.std.specs.Int.{bit_at}
use Rattle.std.specs.List.{AllByRecursion}
use mathlib.Core.Option.{some}
use mathlib.Core.Logic.{dite}
use native.Mathlib.Decide.{dec_le}
use lib.ListN.{get_elem?}
use Rattle.atomic_table.specs.Table.{State}
use Rattle.theory.specs.Placed as placed
use Rattle.theory.specs.Placed.{Placed, frame_length}
use Rattle.theory.specs.Position.{aligned}
use Rattle.theory.specs.Units.{HasUnit, IsContiguous, contiguous}
use Rattle.theory.proofs.Contiguous.{contiguous_is, end_below}
use Rattle.theory.proofs.Follow.{one_end}
use Rattle.region.specs.declared.access.ReadAccess.{ReadAccess}
use Rattle.image_rule.specs.declared.view.Frame.{Frame}
use Rattle.image_rule.specs.declared.view.Held.{Held}
use Rattle.image_rule.specs.declared.view.Key.{Key}
use Rattle.image_rule.specs.declared.view.Site.{Site}
use Rattle.image_rule.specs.declared.view.View.{View}
use Rattle.image_rule.specs.Frames.{Among, Covers, Has, IsPart, byte_place, end_of, frame_said, held_bit, held_place, placed_all, placed_of, ring, slot_of}
use Rattle.image_rule.specs.Rule.{ImageRuled, IsHome, IsWithReader, Owners, Stands, WordsRuled, consumer_place, image_place}
use Rattle.image_rule.specs.Says.{HasPart, IsStanding, KnowsStored, RuleSays, ShowsFrame, StandsThere, bit_there, join_of}
use Rattle.image_rule.proofs.Events.{words_end}
use Rattle.image_rule.proofs.Spelt.{says}
use Rattle.image_rule.proofs.Standing.{begins, bit_shows, held_word}
use Rattle.image_rule.proofs.Units.{AreCovered, IsPlacedIn, among_placed, has_at, has_unit, placed_among, sound_covered, starts_placed}

-- ---- frames of the stream that units say

all_placed : (P : Placed → Type 0) (got : List Frame) → ((f : Frame) → Among f got → P (placed_of f)) → AllByRecursion P (placed_all got)
all_placed P [] each = tt
all_placed P (f ∷ fs) each = (each f (inl refl), all_placed P fs (λ g a. each g (inr a)))

placed_end : (f : Frame) → 32 * f.units ≡ aligned (frame_length (frame_said f.bytes)) → placed.end_of (placed_of f) ≡ 32 * end_of f
placed_end f e = omega arith

covers_one : (f : Frame) (s : Placed) (p : ℕ) → 32 * f.units ≡ aligned (frame_length (frame_said f.bytes)) → s ≡ placed_of f → HasUnit (s ∷ []) p → Covers f (p / 32)
covers_one f s p e is has =
    let mine : AreCovered (f ∷ []) = (λ g a. ⊎_elim (λ (same : g ≡ f). subst (λ (y : Frame). 32 * y.units ≡ aligned (frame_length (frame_said y.bytes))) (sym same) e) (λ n. absurd n) a) in
    let h : Has (f ∷ []) (p / 32) = has_at (f ∷ []) p mine (subst (λ (x : Placed). HasUnit (x ∷ []) p) is has) in
    ⊎_elim (λ (same : h.frame ≡ f). subst (λ (y : Frame). Covers y (p / 32)) same h.covers) (λ n. absurd n) h.among

-- ---- a state

module _ (key : Key) (s : State ReadAccess View) (hd : Held) (ow : Owners) (r : WordsRuled key s hd ow) where
  abbrev got : List Frame
  got = hd.got

  abbrev frames : List Placed
  frames = placed_all got

  are : AreCovered got
  are = sound_covered key hd r.sound

  -- the bit where a unit begins is that of the held words
  there : (u : ℕ) → bit_there key s.words (32 * u) ≡ bit_at (slice_index s.words (image_place + held_place (ring key) u)) (u % 64)
  there u = ap (λ (n : ℕ). bit_at (slice_index s.words (image_place + held_place (ring key) n)) (n % 64)) (same u)
    where
      same : (n : ℕ) → 32 * n / 32 ≡ n
      same n = omega arith

  held_there : (u : ℕ) → bit_there key s.words (32 * u) ≡ held_bit (ring key) hd.words u
  held_there u = there u ∙ ap (λ (n : ℕ). bit_at n (u % 64)) (held_word key s hd ow r u)

  -- ---- frames

  apart : (x y : Placed) (p : ℕ) → placed.Among x frames → placed.Among y frames → HasUnit (x ∷ []) p → HasUnit (y ∷ []) p → x ≡ y
  apart x y p a b hx hy =
      let f : IsPlacedIn got x = placed_among x got a in let g : IsPlacedIn got y = placed_among y got b in
      let one : f.frame ≡ g.frame = r.sound.apart f.frame g.frame (p / 32) f.among g.among (covers_one f.frame x p (are f.frame f.among) f.is hx) (covers_one g.frame y p (are g.frame g.among) g.is hy) in
      f.is ∙ ap placed_of one ∙ sym g.is

  spelt_there : (f : Frame) → Among f got → hd.floor ≤ f.unit → StandsThere key s.words (placed_of f)
  spelt_there f a from =
      let say = says key.identity f (r.sound.spelt f a) in record {
        unit = whole f.unit;
        content = say.content;
        marked = held_there f.unit ∙ r.sound.marked f a from;
      }
    where
      whole : (n : ℕ) → 32 * n % 32 ≡ 0
      whole n = omega arith

  stands : (x : Placed) → placed.Among x frames → 32 * hd.floor ≤ x.at → StandsThere key s.words x
  stands x a from =
      let f : IsPlacedIn got x = placed_among x got a in let at : x.at ≡ 32 * f.frame.unit = ap (λ (y : Placed). y.at) f.is in
      subst (StandsThere key s.words) (sym f.is) (spelt_there f.frame f.among (omega arith))

  -- ---- the contiguous end

  abbrev top : ℕ
  top = 32 * (hd.floor + ring key)

  below_top : AllByRecursion (λ x. placed.end_of x ≤ top) frames
  below_top = all_placed (λ x. placed.end_of x ≤ top) got (λ f a. let e = placed_end f (are f a) in let n = r.sound.near f a in omega arith)

  abbrev last : ℕ
  last = contiguous frames (join_of key) top

  ends : IsContiguous frames (join_of key) last
  ends = contiguous_is frames (join_of key) top below_top

  -- ---- consumers

  -- all units from the join on that lie below the unit of one were stored
  not_above : (u q : ℕ) → Stands key hd u → IsContiguous frames (join_of key) q → 32 * u ≤ q
  not_above u q st c = dite (dec_le (32 * u) q) (λ le. le) (λ gt.
      let e : q ≡ join_of key + 32 * c.units = c.end in let k : ℕ = key.join + c.units in let at : 32 * k ≡ q = omega arith in
      absurd (c.next (subst (HasUnit frames) at (has_unit got k are (st.reached k (omega arith) (omega arith))))))

  standing : (j u : ℕ) → j < key.consumers → slice_index s.words (consumer_place j) ≡ 32 * u → Stands key hd u → IsStanding key s.words frames (32 * hd.floor) last (32 * u)
  standing j u lt at st =
      let joined = r.sound.joined in let from = st.from in record {
        unit = whole u;
        from = omega arith;
        kept = omega arith;
        below = not_above u last st ends;
        edge = λ x a less. (
            let f : IsPlacedIn got x = placed_among x got a in let here : x.at ≡ 32 * f.frame.unit = ap (λ (y : Placed). y.at) f.is in
            let e : placed.end_of x ≡ 32 * end_of f.frame = ap placed.end_of f.is ∙ placed_end f.frame (are f.frame f.among) in
            let b = st.edge f.frame f.among (omega arith) in omega arith
            );
        shows = λ bit. (let has = bit_shows key hd u r.is_key r.sound st (sym (held_there u) ∙ bit) in starts_placed got u record { frame = has.frame; among = has.among; here = begins key hd u st has });
        ends = λ bit. one_end frames (join_of key) (32 * u) last (subst (IsContiguous frames (join_of key)) at (words_end key s hd ow r j u lt at (sym (there u) ∙ bit))) ends;
      }
    where
      whole : (n : ℕ) → 32 * n % 32 ≡ 0
      whole n = omega arith

  consumers : (j : ℕ) → j < key.consumers → IsStanding key s.words frames (32 * hd.floor) last (slice_index s.words (consumer_place j))
  consumers j lt = let a = r.stands j lt in subst (IsStanding key s.words frames (32 * hd.floor) last) (sym a.is) (standing j a.unit lt a.is a.stands)

  -- ---- seats

  knows : (i : ℕ) (v : View) → get_elem? s.views i ≡ some v → v.inserting ≡ 1 → KnowsStored frames (32 * hd.floor) v
  knows i v at one = let e : v.held ≡ hd = ((r.each i v at).inserts one).held in record {
    all = ap (λ (h : Held). placed_all h.got) e;
    floor = ap (λ (h : Held). 32 * h.floor) e;
  }

  known : (i : ℕ) (v : View) (x : Placed) → get_elem? s.views i ≡ some v → placed.Among x (placed_all v.reading.known) → placed.Among x frames
  known i v x at a =
      let f : IsPlacedIn v.reading.known x = placed_among x v.reading.known a in
      subst (λ (y : Placed). placed.Among y frames) (sym f.is) (among_placed f.frame got ((r.each i v at).known f.frame f.among))

  numbers : (i j : ℕ) (v w : View) → get_elem? s.views i ≡ some v → get_elem? s.views j ≡ some w → v.reading.reads ≡ 1 → w.reading.reads ≡ 1 → v.reading.number ≡ w.reading.number → i ≡ j
  numbers i j v w a b one two same = sym ((r.each i v a).reads one).seat ∙ ap ow.sits same ∙ ((r.each j w b).reads two).seat

-- ---- the consumers' parts

module _ (t : Site) (s : State ReadAccess View) (r : ImageRuled t s) where
  abbrev stored : List Frame
  stored = r.held.got

  shows : (f : Frame) (g : ReadAccess) → Among f stored → IsPart (ring t.key) t.region f (r.rounds f.unit).0 (r.rounds f.unit).1 g → ShowsFrame t (placed_of f) g
  shows f g a is =
      let spelt = r.words.sound.spelt f a in record {
        identity = is.identity;
        at = is.at ∙ ap (byte_place (ring t.key)) (sym (unit_of f.unit));
        bytes = ap (λ (bs : List ℕ). take (length bs) g.items) (sym spelt.bytes) ∙ is.spells ∙ spelt.bytes;
      }
    where
      unit_of : (u : ℕ) → 32 * u / 32 ≡ u
      unit_of u = omega arith

  part_of : (f : Frame) (j : ℕ) → Among f stored → j < t.key.consumers → slice_index s.words (consumer_place j) ≤ 32 * f.unit → HasPart t s j (placed_of f)
  part_of f j a lt le =
      let u : ℕ = f.unit in let back : u ≡ 32 * u / 32 = omega arith in
      let st = r.words.stands j lt in let at = st.is in let from = st.stands.from in let full = r.words.sound.full f a in let near = r.words.sound.near f a in let few = r.words.is_key.few in let low = r.memory.freed j lt in
      ⊎_elim
      (λ (h : IsHome t s r.held r.rounds u j). inl (h.part, subst (λ (x : ℕ). get_elem? s.homes (slot_of (ring t.key) x j) ≡ some (some h.part)) back h.there, shows f h.part a (h.is f a refl (omega arith))))
      (⊎_elim
      (λ (e : r.held.out ≡ suc u). absurd (⊎_elim
      (λ no'. no' record { frame = f; among = a; here = refl })
      (λ (passed : (i : ℕ) → i < t.key.consumers → 32 * u < slice_index s.words (consumer_place i)). let p = passed j lt in omega arith)
      (r.memory.left u e)))
      (λ (w : IsWithReader s u j). inr (subst (λ (x : ℕ). IsWithReader s x j) back w)))
      (r.memory.slots u j (omega arith) (omega arith) (omega arith))

  parts : (x : Placed) (j : ℕ) → placed.Among x (placed_all stored) → j < t.key.consumers → slice_index s.words (consumer_place j) ≤ x.at → HasPart t s j x
  parts x j a lt le =
      let f : IsPlacedIn stored x = placed_among x stored a in let at : x.at ≡ 32 * f.frame.unit = ap (λ (y : Placed). y.at) f.is in
      subst (HasPart t s j) (sym f.is) (part_of f.frame j f.among lt (omega arith))

pub rule_says : RuleSays
rule_says t s r = let key = t.key in let hd = r.held in let ow = r.owners in let rw = r.words in record {
  stored = frames key s hd ow rw;
  cleared = 32 * hd.floor;
  end = last key s hd ow rw;
  apart = apart key s hd ow rw;
  stands = stands key s hd ow rw;
  parts = parts t s r;
  contiguous = ends key s hd ow rw;
  marks = λ mark from below. end_below (frames key s hd ow rw) (join_of key) (last key s hd ow rw) mark below from (ends key s hd ow rw);
  consumers = consumers key s hd ow rw;
  inserter = knows key s hd ow rw;
  one = λ i j v w a b one two. sym ((rw.each i v a).inserts one).seat ∙ ((rw.each j w b).inserts two).seat;
  readers = λ i v at one. (let k = (rw.each i v at).reads one in record { number = k.inside; position = k.position });
  numbers = numbers key s hd ow rw;
  known = known key s hd ow rw;
}
