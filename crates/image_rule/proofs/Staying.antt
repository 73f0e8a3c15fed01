-- What one seat's step leaves of the others, and the rule after it.
use Rattle.std.proofs.Common.{◌≡◌, ◌≢◌, ℕ, ◌+◌, ◌<◌, ◌≤◌, ◌⊎◌, inl, ⊎_elim, List, set, length, sym, refl, ◌∙◌, subst, arith}
use Rattle.std.specs.Prelude.{slice_index}
use lib.Seq.{set-get_or}
use mathlib.Core.Option.{Option}
use Rattle.atomic_table.specs.Table.{State}
use Rattle.atomic_table.proofs.Lists.{at_set}
use Rattle.region.specs.declared.access.ReadAccess.{ReadAccess}
use Rattle.image_rule.specs.declared.view.Frame.{Frame}
use Rattle.image_rule.specs.declared.view.Held.{Held}
use Rattle.image_rule.specs.declared.view.Key.{Key}
use Rattle.image_rule.specs.declared.view.View.{View}
use Rattle.image_rule.specs.Frames.{Among, image_length, ring}
use Rattle.image_rule.specs.Rule.{Knows, Owners, Sound, StandsAt, WordsRuled, consumer_place, image_place}

module _ (key : Key) (s : State ReadAccess View) (hd : Held) (ow : Owners) (r : WordsRuled key s hd ow) (id : ℕ) where
  -- what was stored stays; consumers move on, and only this seat's
  pub record Leaves (words : List ℕ) (h : Held) : Type 0 where
    pub grows : (f : Frame) → Among f hd.got → Among f h.got
    pub same : (h ≡ hd) ⊎ (ow.inserter ≡ id)
    pub further : (j : ℕ) → j < key.consumers → slice_index s.words (consumer_place j) ≤ slice_index words (consumer_place j)
    pub still : (j : ℕ) → j < key.consumers → ow.sits j ≢ id → slice_index words (consumer_place j) ≡ slice_index s.words (consumer_place j)

  other_knows : (words : List ℕ) (h : Held) → Leaves words h → (i : ℕ) (u : View) → i ≢ id → Knows key hd ow s.words i u → Knows key h ow words i u
  other_knows words h l i u ne k = record {
    inserts = λ one. (let a = k.inserts one in ⊎_elim (λ e. record { seat = a.seat; held = a.held ∙ sym e; seen = a.seen; looks = a.looks }) (λ e. absurd (ne (sym a.seat ∙ e))) l.same);
    few = k.few;
    swept = λ j lt. (let a = k.swept j lt in let few = k.few in let b = l.further j (omega arith) in omega arith);
    reads = λ one. (let a = k.reads one in record { inside = a.inside; seat = a.seat; position = l.still u.reading.number a.inside (λ e. ne (sym a.seat ∙ e)) ∙ a.position; dealt = a.dealt });
    deals = λ j lt. (let a = k.deals j lt in record { inside = a.inside; seat = a.seat; position = l.still j a.inside (λ e. ne (sym a.seat ∙ e)) ∙ a.position });
    known = λ f among. l.grows f (k.known f among);
  }

  -- the rule after a step of this seat
  pub record After (words : List ℕ) (h : Held) (w : View) : Type 0 where
    pub leaves : Leaves words h
    pub sound : Sound key h
    pub long : length words ≡ length s.words
    pub mirrors : (k : ℕ) → k < image_length (ring key) → slice_index words (image_place + k) ≡ slice_index h.words k
    pub stands : (j : ℕ) → j < key.consumers → StandsAt key h (slice_index words (consumer_place j))
    pub knows : Knows key h ow words id w

  pub after : (words : List ℕ) (h : Held) (w : View) → After words h w → WordsRuled key (record { words = words; homes = s.homes; views = set s.views id w }) h ow
  after words h w a = record {
    is_key = r.is_key;
    sound = a.sound;
    long = a.long ∙ r.long;
    mirrors = a.mirrors;
    stands = a.stands;
    each = λ i u there. ⊎_elim
        (λ t. subst (λ (x : ℕ × View). Knows key h ow words x.0 x.1) (λ k. (sym t.0 k, t.1 k)) a.knows)
        (λ t. other_knows words h a.leaves i u t.0 (r.each i u t.1))
        (at_set s.views id i w u there);
  }

  -- a load leaves all but what the seat knows
  pub loaded : (i : ℕ) (w : View) → Knows key hd ow s.words id w → WordsRuled key (record { words = set s.words i (slice_index s.words i); homes = s.homes; views = set s.views id w }) hd ow
  loaded i w k = subst (λ (ws : List ℕ). WordsRuled key (record { words = ws; homes = s.homes; views = set s.views id w }) hd ow) (sym (set-get_or s.words i 0))
      (after s.words hd w record {
        leaves = record { grows = λ f a. a; same = inl refl; further = λ j lt. omega arith; still = λ j lt ne. refl };
        sound = r.sound;
        long = refl;
        mirrors = r.mirrors;
        stands = r.stands;
        knows = k;
      })

-- slots are nothing to the words
pub homes_on : (key : Key) (s : State ReadAccess View) (hd : Held) (ow : Owners) (homes : List (Option ReadAccess)) → WordsRuled key s hd ow → WordsRuled key (record { words = s.words; homes = homes; views = s.views }) hd ow
homes_on key s hd ow homes r = record { is_key = r.is_key; sound = r.sound; long = r.long; mirrors = r.mirrors; stands = r.stands; each = r.each }
