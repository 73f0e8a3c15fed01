-- A reader's steps keep the rule.
use Rattle.std.proofs.Common.{◌≡◌, ◌≢◌, ℕ, ◌+◌, ◌*◌, ◌%◌, ◌<◌, ◌≤◌, inl, ⊎_elim, List, set, length, length-set, sym, refl, ap, ◌∙◌, subst, arith, get_or-set_same, get_or-set_other, mod-lt}
use Rattle.std.specs.Prelude.{slice_index}
use Rattle.std.specs.Int.{bit_at}
use Rattle.std.proofs.lemmas.Nat.Bits.{bit_at-lt}
use mathlib.Core.Logic.{dite}
use native.Mathlib.Decide.{dec_le, ℕ_discrete}
use Rattle.atomic_table.specs.Table.{State}
use Rattle.region.specs.declared.access.ReadAccess.{ReadAccess}
use Rattle.image_rule.specs.declared.view.Frame.{Frame}
use Rattle.image_rule.specs.declared.view.Held.{Held}
use Rattle.image_rule.specs.declared.view.Key.{Key}
use Rattle.image_rule.specs.declared.view.View.{View}
use Rattle.image_rule.specs.Frames.{Among, Has, end_of, held_place, image_length, ring}
use Rattle.image_rule.specs.Rule.{Knows, Owners, Sound, Stands, StandsAt, WordsRuled, consumer_place, image_place}
use Rattle.image_rule.specs.Steps.{FindsFrame, IsBefore, holding, moved_to, with_known, with_miss}
use Rattle.image_rule.proofs.Spelt.{says}
use Rattle.image_rule.proofs.Standing.{begins, bit_shows, contiguous, held_word, stands_there}
use Rattle.image_rule.proofs.Staying.{after, loaded}

module _ (key : Key) (s : State ReadAccess View) (hd : Held) (ow : Owners) (r : WordsRuled key s hd ow) (id : ℕ) (v : View) (k : Knows key hd ow s.words id v) where
  -- what is known of a frame that was stored
  pub knows_frame : (f : Frame) (round book : ℕ) → Among f hd.got → Knows key hd ow s.words id (holding (with_known v f) round book)
  knows_frame f round book among = record {
    inserts = λ one. (let a = k.inserts one in record { seat = a.seat; held = a.held; seen = a.seen; looks = a.looks });
    few = k.few;
    swept = k.swept;
    reads = λ one. (let a = k.reads one in record { inside = a.inside; seat = a.seat; position = a.position; dealt = a.dealt });
    deals = k.deals;
    known = λ g here. ⊎_elim (λ (e : g ≡ f). subst (λ (x : Frame). Among x hd.got) (sym e) among) (λ (a : Among g v.reading.known). k.known g a) here;
  }

  -- it found none
  pub knows_miss : Knows key hd ow s.words id (with_miss v)
  knows_miss = record {
    inserts = λ one. (let a = k.inserts one in record { seat = a.seat; held = a.held; seen = a.seen; looks = a.looks });
    few = k.few;
    swept = k.swept;
    reads = λ one. (let a = k.reads one in record { inside = a.inside; seat = a.seat; position = a.position; dealt = a.dealt });
    deals = k.deals;
    known = k.known;
  }

  -- two frames that begin at one unit are one
  pub one_frame : (f g : Frame) → Among f hd.got → Among g hd.got → g.unit ≡ f.unit → g ≡ f
  one_frame f g a b e = let p = r.sound.full f a in let q = r.sound.full g b in r.sound.apart g f f.unit b a (omega arith, omega arith) (omega arith, omega arith)

  pub found : (one : v.reading.reads ≡ 1) → (n : ℕ) → n ≡ slice_index s.words (image_place + held_place (ring key) v.reading.unit) → bit_at n (v.reading.unit % 64) ≡ 1 → Has hd.got v.reading.unit
  found one n e bit =
      let a = k.reads one in let u : ℕ = v.reading.unit in let st = stands_there key s hd ow r v.reading.number u a.inside a.position in
      bit_shows key hd u r.is_key r.sound st (ap (λ (x : ℕ). bit_at x (u % 64)) (sym (e ∙ held_word key s hd ow r u)) ∙ bit)

  pub missing : (one : v.reading.reads ≡ 1) → (n : ℕ) → n ≡ slice_index s.words (image_place + held_place (ring key) v.reading.unit) → bit_at n (v.reading.unit % 64) ≡ 0 → (g : Frame) → Among g v.reading.known → g.unit ≡ v.reading.unit → ⊥
  missing one n e bit g known at =
      let a = k.reads one in let u : ℕ = v.reading.unit in let st = stands_there key s hd ow r v.reading.number u a.inside a.position in
      let p = r.sound.full g (k.known g known) in
      contiguous key hd u r.sound st (ap (λ (x : ℕ). bit_at x (u % 64)) (sym (e ∙ held_word key s hd ow r u)) ∙ bit)
      record { frame = g; among = k.known g known; covers = (omega arith, omega arith) }

  abbrev pub finds : (one : v.reading.reads ≡ 1) → (has : Has hd.got v.reading.unit) (round book : ℕ) → FindsFrame v (holding (with_known v has.frame) round book)
  finds one has round book =
      let a = k.reads one in let st = stands_there key s hd ow r v.reading.number v.reading.unit a.inside a.position in let b = begins key hd v.reading.unit st has in record {
        frame = has.frame;
        here = b;
        low = r.sound.low has.frame has.among;
        says = says key.identity has.frame (r.sound.spelt has.frame has.among);
        only = λ g known at. one_frame has.frame g has.among (k.known g known) (at ∙ sym b);
        after = refl;
      }

-- ---- a reader moves on

-- who stands where a frame begins may stand where it ends
next_stand : (key : Key) (h : Held) (f : Frame) → Sound key h → Among f h.got → Stands key h f.unit → Stands key h (end_of f)
next_stand key h f s among st = record {
  from = (let a = st.from in omega arith);
  reached = λ v from lt. dite (dec_le f.unit v) (λ le. record { frame = f; among = among; covers = (le, lt) }) (λ gt. st.reached v from (omega arith));
  edge = λ g here lt. dite (dec_le f.unit g.unit)
      (λ le. let full = s.full g here in let same : g ≡ f = s.apart g f g.unit here among (omega arith, omega arith) (le, lt) in let e : end_of g ≡ end_of f = ap end_of same in omega arith)
      (λ gt. let e = st.edge g here (omega arith) in omega arith);
}

module _ (key : Key) (s : State ReadAccess View) (hd : Held) (ow : Owners) (r : WordsRuled key s hd ow) (id : ℕ) (v : View) (k : Knows key hd ow s.words id v) (f : Frame) (may : IsBefore f v) where
  abbrev words : List ℕ
  words = set s.words (consumer_place v.reading.number) (32 * end_of f)

  short : consumer_place v.reading.number < length s.words
  short = let a = (k.reads may.reads).inside in let few = r.is_key.few in let l = r.long in go v.reading.number key.consumers (image_length (ring key)) (length s.words) a few l
    where
      go : (j c x l : ℕ) → j < c → c ≤ 8 → l ≡ image_place + x → consumer_place j < l
      go j c x l a b e = omega arith

  here : (j : ℕ) → j ≡ v.reading.number → slice_index words (consumer_place j) ≡ 32 * end_of f
  here j e = ap (λ (x : ℕ). slice_index (set s.words (consumer_place v.reading.number) (32 * end_of f)) (consumer_place x)) e ∙ get_or-set_same s.words (consumer_place v.reading.number) (32 * end_of f) 0 short

  else' : (i : ℕ) → i ≢ consumer_place v.reading.number → slice_index words i ≡ slice_index s.words i
  else' i ne = get_or-set_other s.words (consumer_place v.reading.number) i (32 * end_of f) 0 ne

  apart : (j : ℕ) → j ≢ v.reading.number → slice_index words (consumer_place j) ≡ slice_index s.words (consumer_place j)
  apart j ne = else' (consumer_place j) (λ e. ne (omega arith))

  stand : Stands key hd f.unit
  stand = let a = k.reads may.reads in subst (Stands key hd) (sym may.here) (stands_there key s hd ow r v.reading.number v.reading.unit a.inside a.position)

  pub up : (j : ℕ) → slice_index s.words (consumer_place j) ≤ slice_index words (consumer_place j)
  up j = dite (ℕ_discrete j v.reading.number)
      (λ e. let a = k.reads may.reads in let old : slice_index s.words (consumer_place j) ≡ 32 * v.reading.unit = ap (λ (x : ℕ). slice_index s.words (consumer_place x)) e ∙ a.position in let new = here j e in let h = may.here in omega arith)
      (λ ne. let a = apart j ne in omega arith)

  pub moved_rule : WordsRuled key (record { words = words; homes = s.homes; views = set s.views id (moved_to v (end_of f)) }) hd ow
  moved_rule = let a = k.reads may.reads in let among = k.known f may.known in after key s hd ow r id words hd (moved_to v (end_of f)) record {
    leaves = record { grows = λ g b. b; same = inl refl; further = λ j lt. up j; still = λ j lt ne. apart j (λ e. ne (ap ow.sits e ∙ a.seat)) };
    sound = r.sound;
    long = length_is;
    mirrors = λ i lt. else' (image_place + i) (λ e. far i e) ∙ r.mirrors i lt;
    stands = λ j lt. dite (ℕ_discrete j v.reading.number)
        (λ e. record { unit = end_of f; is = here j e; stands = next_stand key hd f r.sound among stand })
        (λ ne. subst (StandsAt key hd) (sym (apart j ne)) (r.stands j lt));
    knows = record {
      inserts = λ one. (let b = k.inserts one in record { seat = b.seat; held = b.held; seen = b.seen; looks = b.looks });
      few = k.few;
      swept = λ j lt. (let b = k.swept j lt in let c = up j in omega arith);
      reads = λ one. record { inside = a.inside; seat = a.seat; position = here v.reading.number refl; dealt = a.dealt };
      deals = λ j lt. (let d = a.dealt in absurd (omega arith));
      known = k.known;
    };
  }
    where
      length_is : length words ≡ length s.words
      length_is = length-set s.words (consumer_place v.reading.number) (32 * end_of f)

      far : (i : ℕ) → image_place + i ≡ consumer_place v.reading.number → ⊥
      far i e = let a = (k.reads may.reads).inside in let few = r.is_key.few in omega arith
