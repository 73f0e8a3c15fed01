-- What the rule says of committed frames and of room.
use Rattle.std.proofs.Common.{◌≡◌, ℕ, ◌+◌, ◌-◌, ◌*◌, ◌/◌, ◌%◌, ◌<◌, ◌≤◌, min, List, map, length, sym, refl, subst, lt_of_not-le, arith}
use mathlib.Core.Option.{some}
use mathlib.Core.Logic.{dite}
use native.Mathlib.Decide.{dec_le}
use lib.ListN.{get_elem?}
use Rattle.std.specs.Prelude.{slice_index}
use Rattle.atomic_table.proofs.Lists.{at_map}
use Rattle.theory.specs.Position.{IsGeometry, aligned}
use Rattle.theory.specs.Placed.{Among, Data, Frame, Pad, frame_length}
use Rattle.position.specs.Heads.{head_of}
use Rattle.theory.proofs.Places.{power_unit}
use Rattle.publication.specs.declared.pass.FrameWords.{FrameWords}
use Rattle.publication.specs.Steps.{Extent, extent_of}
use Rattle.log_rule.specs.Claims.Packs.{limit_place}
use Rattle.log_rule.specs.Claims.Plays.{pass_in}
use Rattle.log_rule.specs.Claims.Rule.{Bounds}
use Rattle.log_rule.specs.Claims.Memory.{IsCommittedFrame}
use Rattle.log_rule.specs.Claims.Sums.{covers}
use Rattle.log_rule.specs.Edges.{IsAmong, begins_at, claimed_sum}
use Rattle.log_rule.specs.Readings.{end_of}
use Rattle.log_rule.specs.Table.{LogRuled, now_at}
use Rattle.log_rule.proofs.Claimed.Memories.{tail_low}
use Rattle.log_rule.proofs.Edges.{among_claimed}
use Rattle.log_rule.proofs.InTerm.{done_long, frame_at, unit_of, words_cover}
use Rattle.log_rule.proofs.Known.{done_of, is_among, one_frame}
use Rattle.log_rule.proofs.Sums.{covered, covering, sum_both, sum_up}
use Rattle.log_memory.specs.declared.view.LogView.{LogView}
use Rattle.log_memory.specs.declared.view.Site.{Site}
use Rattle.log_memory.specs.Rule.{Board, LogMemoryRuled, passes_of, ring, stream_state, tail_in, term, view_in}
use Rattle.log_memory.proofs.Places.{in_ring, some_units, units_are}

-- ---- a frame's head

head_start : (p : ℕ) (f : Frame) → (head_of p f).start ≡ p
head_start p (Data flags payload) = refl
head_start p (Pad n) = refl

pub head_length : (p : ℕ) (f : Frame) → (head_of p f).frame_length ≡ frame_length f
head_length p (Data flags payload) = refl
head_length p (Pad n) = refl

pub pass_at : (views : List LogView) (i : ℕ) (v : LogView) → get_elem? views i ≡ some v → get_elem? (passes_of views) i ≡ some v.view.pass
pass_at views i v at = at_map pass_in (map view_in views) i v.view (at_map view_in views i v at)

-- of the stream's words alone
module _ (t : Site) (stream : List ℕ) (views : List LogView) (q : LogRuled t.key (stream_state stream views)) where
  abbrev pub bounds : Bounds
  bounds = now_at t.key (slice_index stream limit_place) q.cleaned

  pub geometry : IsGeometry t.key.identity.geometry
  geometry = q.ruled.claims.sound.geometry

  pub least : 65536 ≤ term t
  least = geometry.term.least

  pub whole_term : term t % 32 ≡ 0
  whole_term = power_unit (term t) geometry.term.power geometry.term.least

  pub width : ring t * 32 ≡ 3 * term t
  width = units_are t.key.identity.geometry whole_term

  pub some_ring : 0 < ring t
  some_ring = some_units t.key.identity.geometry geometry.term.least

  module _ (f : FrameWords) (among : IsAmong (passes_of views) f) where
    pub done : IsCommittedFrame t.key.identity f
    done = done_of bounds stream (passes_of views) q.ruled f among

    pub long : 0 < length f.words
    long = done_long t.key.identity f done

    pub unit : f.start % 32 ≡ 0
    unit = unit_of bounds stream (passes_of views) q.ruled f among

    pub whole : (8 * length f.words) % 32 ≡ 0
    whole = let e = words_cover t.key.identity f done in by_aligned (8 * length f.words) (frame_length (done.content)) e
      where
        by_aligned : (n m : ℕ) → n ≡ aligned m → n % 32 ≡ 0
        by_aligned n m e = omega arith

    pub in_term : f.start % term t + 8 * length f.words ≤ term t
    in_term = let h = frame_at bounds stream (passes_of views) q.ruled f.start unit f among refl in let e = words_cover t.key.identity f h.done in
        subst (λ (x : ℕ). f.start % term t + x ≤ term t) (sym e) (subst (λ (x : ℕ × ℕ). x.0 % term t + aligned x.1 ≤ term t) (λ i. (head_start f.start h.done.content i, head_length f.start h.done.content i)) h.head.in_term)

    -- it ends at the tail, or below
    pub end_low : end_of f ≤ tail_in t.key (passes_of views)
    end_low =
        let x : ℕ = f.start + 8 * length f.words - 1 in let a = among_claimed bounds stream (passes_of views) q.ruled f among (covering x) in let c = covered bounds stream (passes_of views) q.ruled.claims x in
        go f.start (length f.words) t.key.start (tail_in t.key (passes_of views)) (claimed_sum (covering x) (passes_of views)) long a c
      where
        go : (p l s e c : ℕ) → 0 < l → covers (p + 8 * l - 1) p (8 * l) ≤ c → c ≡ min 1 (min (p + 8 * l - 1 + 1 - s) (e - (p + 8 * l - 1))) → p + 8 * l ≤ e
        go p l s e c pos a is = omega arith

    pub start_low : f.start < tail_in t.key (passes_of views)
    start_low = let a = end_low in let l = long in omega arith

    -- it lies in a row of the ring
    pub in_row_of : f.start % (ring t * 32) + 8 * length f.words ≤ ring t * 32
    in_row_of = subst (λ (x : ℕ). f.start % x + 8 * length f.words ≤ x) (sym width) (in_ring (term t) f.start (8 * length f.words) (let l = least in omega arith) in_term)

  -- of two frames one ends before the other begins
  pub apart : (f g : FrameWords) → IsAmong (passes_of views) f → IsAmong (passes_of views) g → f.start < g.start → end_of f ≤ g.start
  apart f g in_f in_g lt = dite (dec_le (end_of f) g.start) (λ le. le) (λ no. absurd (clash (lt_of_not-le no)))
    where
      behind : Extent → ℕ
      behind e = covers g.start e.start e.bytes - begins_at g.start e

      clash : g.start < end_of f → ⊥
      clash inside =
          let a = among_claimed bounds stream (passes_of views) q.ruled f in_f behind in let c = among_claimed bounds stream (passes_of views) q.ruled g in_g (begins_at g.start) in
          let two = sum_both behind (begins_at g.start) (passes_of views) in let up = sum_up (λ e. behind e + begins_at g.start e) (covering g.start) (passes_of views) (λ e. small g.start e.start e.bytes) in
          let once = covered bounds stream (passes_of views) q.ruled.claims g.start in
          many (claimed_sum behind (passes_of views)) (claimed_sum (begins_at g.start) (passes_of views)) (claimed_sum (λ e. behind e + begins_at g.start e) (passes_of views)) (claimed_sum (covering g.start) (passes_of views)) (min (g.start + 1 - t.key.start) (tail_in t.key (passes_of views) - g.start))
          (least_of 1 (behind (extent_of f)) (claimed_sum behind (passes_of views)) (its f.start (length f.words) g.start lt inside) a)
          (least_of 1 (begins_at g.start (extent_of g)) (claimed_sum (begins_at g.start) (passes_of views)) (begins g.start (length g.words) (long g in_g)) c)
          two up once
        where
          small : (x s m : ℕ) → (covers x s m - min m (1 - ((s - x) + (x - s)))) + min m (1 - ((s - x) + (x - s))) ≤ covers x s m
          small x s m = omega arith

          its : (s l x : ℕ) → s < x → x < s + 8 * l → 1 ≤ covers x s (8 * l) - min (8 * l) (1 - ((s - x) + (x - s)))
          its s l x lo hi = omega arith

          begins : (s l : ℕ) → 0 < l → 1 ≤ min (8 * l) (1 - ((s - s) + (s - s)))
          begins s l pos = omega arith

          least_of : (a c d : ℕ) → a ≤ c → c ≤ d → a ≤ d
          least_of a c d p o = omega arith

          many : (a c d e m : ℕ) → 1 ≤ a → 1 ≤ c → d ≡ a + c → d ≤ e → e ≡ min 1 m → ⊥
          many a c d e m p o is le once = omega arith

  -- two that begin at one position are one
  pub one : (f g : FrameWords) → IsAmong (passes_of views) f → IsAmong (passes_of views) g → f.start ≡ g.start → f ≡ g
  one f g in_f in_g same = one_frame bounds stream (passes_of views) q.ruled f g in_f in_g same (long f in_f) (long g in_g)

  pub mine : (i : ℕ) (v : LogView) (f : FrameWords) → get_elem? views i ≡ some v → Among f v.view.pass.work.frames → IsAmong (passes_of views) f
  mine i v f at a = is_among (passes_of views) i v.view.pass f (pass_at views i v at) a

  pub tail_limit : tail_in t.key (passes_of views) ≤ bounds.limit + bounds.greatest * 8
  tail_limit = tail_low bounds stream (passes_of views) q.ruled.claims

-- of the whole rule
module _ (t : Site) (s : Board) (r : LogMemoryRuled t s) where
  -- all that was claimed lies in a ring from where memory was taken back
  pub tail_near : tail_in t.key (passes_of s.views) < r.freed + 3 * term t
  tail_near =
      let a = tail_limit t r.stream s.views r.ruled in let c = r.memory.ahead in let e = r.words.controls 0 (omega arith) in
      go (tail_in t.key (passes_of s.views)) (slice_index s.words 0) (slice_index r.stream 0) (bounds t r.stream s.views r.ruled).greatest (r.freed + 3 * term t) e a c
    where
      go : (tail n m g w : ℕ) → n ≡ m → tail ≤ m / 4 * 4 + g * 8 → n / 4 * 4 + g * 8 < w → tail < w
      go tail n m g w e a c = omega arith
