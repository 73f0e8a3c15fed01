-- The words and slots of a log that opens obey the rule.
use Rattle.std.proofs.Common.{List, [], ap, arith, inl, inr, length, length-append, map, mod-lt, refl, replicate, subst, suc, sym, zero, ℕ, ◌%◌, ◌*◌, ◌+◌, ◌-◌, ◌/◌, ◌<◌, ◌∙◌, ◌∷◌, ◌≡◌, ◌≤◌}
use mathlib.Core.Option.{some, some-injective, some-ne-none}
use lib.ListN.{get_elem?}
use Rattle.std.specs.Prelude.{slice_index}
use Rattle.std.proofs.lemmas.List.{get_or-take, length-replicate, length-take-le}
use Rattle.atomic_table.specs.Table.{opening}
use Rattle.atomic_table.proofs.Lists.{at_map, some_there}
use Rattle.theory.specs.Placed.{Among}
use Rattle.theory.specs.Position.{greatest_claim}
use Rattle.theory.proofs.Claims.{claim_bound}
use Rattle.publication.specs.declared.pass.FrameWords.{FrameWords}
use Rattle.publication.specs.declared.pass.Pass.{Pass}
use Rattle.publication.specs.declared.pass.Reading.{Reading}
use Rattle.region.specs.declared.access.Access.{Access}
use Rattle.log_rule.specs.Edges.{IsAmong}
use Rattle.log_rule.specs.Table.{LogRuled, consumers_at, first_there, whole_pass}
use Rattle.log_rule.proofs.Beginning.{opens}
use Rattle.log_rule.proofs.Claimed.Begun.{fresh_zeros}
use Rattle.log_rule.proofs.Growing.{there_low}
use Rattle.log_rule.proofs.Known.{found}
use Rattle.log_memory.specs.declared.view.LogView.{LogView}
use Rattle.log_memory.specs.declared.view.Site.{Site}
use Rattle.log_memory.specs.Places.{head_place, slot_of}
use Rattle.log_memory.specs.Opening.{SlotsBegun, WordsBegun}
use Rattle.log_memory.specs.Rule.{Board, IsBeyond, KnowsRoom, LogMemoryRuled, passes_of, ring, shape, stream_state, term, whole_seat}
use Rattle.log_memory.proofs.Facts.{least, some_ring, whole_term, width}
use Rattle.log_memory.proofs.Places.{slot_low}

one_seat : (v w : LogView) (i : ℕ) → get_elem? (v ∷ []) i ≡ some w → v ≡ w
one_seat v w zero e = some-injective v w e
one_seat v w (suc i) e = absurd (some-ne-none w (sym e))

all_same : (n x j : ℕ) → j < n → slice_index (replicate {A = ℕ} n x) j ≡ x
all_same zero x j lt = absurd (omega arith)
all_same (suc n) x zero lt = refl
all_same (suc n) x (suc j) lt = all_same n x j (omega arith)

at_start : (start number n : ℕ) (r : Reading) → Among r (consumers_at start number n) → r.position ≡ start
at_start start number zero r a = absurd a
at_start start number (suc n) r (inl e) = ap (λ (x : Reading). x.position) e
at_start start number (suc n) r (inr a) = at_start start (suc number) n r a

module _ (t : Site) (words : List ℕ) (slots : List Access) (b : WordsBegun t words) (k : SlotsBegun t slots) where
  abbrev board : Board
  board = opening words slots (whole_seat t)

  q : LogRuled t.key (stream_state b.stream (whole_seat t ∷ []))
  q = opens t.key b.fresh b.stream b.sound (b.some, b.few) b.is_fresh b.begun

  no_frame : (f : FrameWords) → IsAmong (passes_of (whole_seat t ∷ [])) f → ⊥
  no_frame f among = let by = found (passes_of (whole_seat t ∷ [])) f among in go by.place by.holder by.at by.among
    where
      go : (i : ℕ) (p : Pass) → get_elem? (whole_pass t.key ∷ []) i ≡ some p → Among f p.work.frames → ⊥
      go zero p e a = subst (λ (x : Pass). Among f x.work.frames) (sym (some-injective (whole_pass t.key) p e)) a
      go (suc i) p e a = absurd (some-ne-none p (sym e))

  zeros : (i : ℕ) → 208 ≤ i → slice_index b.stream i ≡ 0
  zeros i far = b.begun.others i (λ e. omega arith) (λ j lt e. (let f = b.few in omega arith)) ∙ fresh_zeros _ b.fresh b.is_fresh i far

  wide : 208 + ring t ≤ length b.stream
  wide = let a = q.ruled.claims.wide in let w = width t b.stream (whole_seat t ∷ []) q in let u = whole_term t b.stream (whole_seat t ∷ []) q in let n : ℕ = ring t in let l : ℕ = term t in let a' : length b.stream ≡ 208 + 3 * (l / 8) = a in omega arith

  word : (i : ℕ) → i < 208 + ring t → slice_index words i ≡ slice_index b.stream i
  word i lt = ap (λ (l : List ℕ). slice_index l i) b.front ∙ get_or-take (208 + ring t) b.stream i 0 lt

  beyond : (p : ℕ) → t.key.start ≤ p → IsBeyond t (passes_of (whole_seat t ∷ [])) (t.key.start + 0) p
  beyond p le = record { passed = omega arith; back = λ f among near. absurd (no_frame f among) }

  some_n : 0 < ring t
  some_n = some_ring t b.stream (whole_seat t ∷ []) q

  pub begins : LogMemoryRuled t (opening words slots (whole_seat t))
  begins = record {
    stream = b.stream;
    freed = t.key.start;
    out = 0;
    rounds = λ x. (0, 0);
    ruled = q;
    words = record {
      long = ap length b.front ∙ length-take-le (208 + ring t) b.stream wide;
      small = λ i far. (let z = zeros i far in omega arith);
      controls = λ i lt. word i (omega arith);
      heads = λ f among from. absurd (no_frame f among);
      rest = λ p unit from to none. (let x : ℕ = p / 32 % ring t in let lt : x < ring t = mod-lt (p / 32) some_n in word (head_place (ring t) p) (omega arith) ∙ zeros (head_place (ring t) p) (omega arith));
    };
    memory = record {
      shelves = map_long slots ∙ k.long;
      unit = b.sound.unit;
      edge = inl (let z : t.key.start + 0 ≡ t.key.start + (0 + 0) = omega arith in z);
      passed = refl;
      ahead = (let l = least t b.stream (whole_seat t ∷ []) q in let g = b.sound.geometry in let c = claim_bound (shape t) g.mtu.unit (let m = g.mtu.least in omega arith) in let e = word 0 (omega arith) ∙ b.begun.limit in
          below (slice_index words 0) t.key.start (greatest_claim (shape t)) (term t) e c l);
      free = λ p unit from to. record {
        room = (let lt = slot_low (ring t) p 0 some_n (omega arith) in let g = k.room (slot_of (ring t) p 0) (let x : ℕ = p / 32 % ring t in omega arith) lt in record { access = g.0; there = at_map some slots (slot_of (ring t) p 0) g.0 g.1; so = g.2 });
        others = λ j lj. (let lt = slot_low (ring t) p j some_n lj in let g = some_there slots (slot_of (ring t) p j) (let e = k.long in omega arith) in record { access = g.0; there = g.1; so = tt });
      };
      frames = λ f among from. absurd (no_frame f among);
      taken = λ some'. absurd (omega arith);
      parked = λ i v f at among. absurd (subst (λ (x : LogView). Among f x.parked) (sym (one_seat (whole_seat t) v i at)) among);
      held = λ i v at has. absurd (none (ap (λ (x : LogView). x.part.has) (one_seat (whole_seat t) v i at)) has);
      readers = λ i v r at among low. beyond r.position (let e = at_start t.key.start 0 t.key.consumers r (subst (λ (x : LogView). Among r x.view.pass.reading) (sym (one_seat (whole_seat t) v i at)) among) in omega arith);
      keeper = λ i v at one. subst (KnowsRoom t (passes_of (whole_seat t ∷ [])) t.key.start 0) (one_seat (whole_seat t) v i at) record {
        freed_is = refl;
        out_is = refl;
        cleaned = omega arith;
        seen = λ j there. beyond (slice_index (replicate {A = ℕ} 8 t.key.start) j) (let same = all_same 8 t.key.start j (there_low (first_there t.key.consumers) j (eight t.key.consumers b.few) there) in omega arith);
      };
    };
  }
    where
      map_long : (xs : List Access) → length (map {B = _} some xs) ≡ length xs
      map_long [] = refl
      map_long (x ∷ xs) = ap suc (map_long xs)

      below : (w s g t : ℕ) → w ≡ s → g ≤ t / 7 + 63 → 65536 ≤ t → w / 4 * 4 + g * 8 < s + 3 * t
      below w s g t e c l = omega arith

      none : {n : ℕ} → 0 ≡ n → n ≡ 1 → ⊥
      none e one = omega arith

      eight : (n : ℕ) → n ≤ 8 → length (first_there n) ≡ 8
      eight n few = length-append (replicate n 1) (replicate (8 - n) 0) ∙ sum (length (replicate {A = ℕ} n 1)) (length (replicate {A = ℕ} (8 - n) 0)) n (length-replicate n 1) (length-replicate (8 - n) 0) few
        where
          sum : (a c n : ℕ) → a ≡ n → c ≡ 8 - n → n ≤ 8 → a + c ≡ 8
          sum a c n e f few = omega arith
