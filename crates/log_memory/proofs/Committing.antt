-- A frame is committed, and its memory goes to those who read it.
use Rattle.std.proofs.Common.{◌≡◌, ◌≢◌, ℕ, suc, ◌+◌, ◌-◌, ◌*◌, ◌/◌, ◌%◌, ◌<◌, ◌≤◌, ◌⊎◌, ◌==◌, cond, Bool, inl, inr, ⊎_elim, min, List, [], ◌∷◌, ◌++◌, length, map, set, length-set, get_or-set_same, get_or-set_other, eq-eqb, ne_eqb, sym, refl, ap, ◌∙◌, subst, lt_of_not-le, arith}
use mathlib.Core.Option.{some}
use mathlib.Core.Logic.{dite}
use native.Mathlib.Decide.{dec_le}
use lib.ListN.{get_elem?}
use Rattle.std.specs.Prelude.{slice_index}
use Rattle.std.proofs.lemmas.List.{length-replicate, map-set}
use Rattle.atomic_table.specs.Table.{Allows, homes_after}
use Rattle.atomic_table.proofs.Lists.{at_map, at_set, set_again, set_else, set_here}
use Rattle.theory.specs.Entry.{Entry, length_of}
use Rattle.theory.specs.Placed.{Among}
use Rattle.theory.specs.Position.{aligned, greatest_claim}
use Rattle.theory.specs.Refusal.{limit_in}
use Rattle.theory.proofs.Lists.{among_cases, among_right}
use Rattle.publication.specs.declared.pass.FrameWords.{FrameWords}
use Rattle.publication.specs.declared.pass.Keeping.{Keeping}
use Rattle.publication.specs.declared.pass.Pass.{Pass}
use Rattle.publication.specs.Steps.{Extent, blank, extent_of, frame, with_work}
use Rattle.region.specs.declared.access.Access.{Access}
use Rattle.log_rule.specs.declared.claims.view.View.{View}
use Rattle.log_rule.specs.declared.rule.Key.{Key}
use Rattle.log_rule.specs.Claims.Events.{committed_weight}
use Rattle.log_rule.specs.Claims.Plays.{pass_in}
use Rattle.log_rule.specs.Claims.Rule.{entry_of, weight}
use Rattle.log_rule.specs.Claims.Sums.{covers, total}
use Rattle.log_rule.specs.Claims.Sure.{IsSure}
use Rattle.log_rule.specs.Edges.{IsAmong, begins_at, begins_below, claimed_sum, committed_sum, in_entry, open_sum, open_weight}
use Rattle.log_rule.specs.Kept.{IsThere, Kept}
use Rattle.log_rule.specs.Readings.{end_of}
use Rattle.log_rule.specs.Table.{LogRuled, now_at}
use Rattle.log_rule.proofs.Claimed.Totals.{total_append, total_at, total_set}
use Rattle.log_rule.proofs.Growing.{same_sum}
use Rattle.log_rule.proofs.Known.{among_total, found, is_among}
use Rattle.log_rule.proofs.Sums.{all_parted, covered, covering, sum_less}
use Rattle.log_memory.specs.declared.view.LogView.{LogView}
use Rattle.log_memory.specs.declared.view.Site.{Site}
use Rattle.log_memory.specs.Places.{head_place, slot_of}
use Rattle.log_memory.specs.Rule.{Board, IsBeyond, IsHome, IsPart, KnowsRoom, Lies, LogMemoryRuled, Rounds, passes_of, ring, shape, stream_state, tail_in, term, view_in}
use Rattle.log_memory.specs.Steps.{Commits, IsIdle, IsPartAt, IsQuiet, MayCommit, Mine}
use Rattle.log_memory.proofs.Facts.{apart, bounds, end_low, in_row_of, long as long_frame, pass_at, some_ring, tail_near, unit, whole, width}
use Rattle.log_memory.proofs.Lifting.{passes_set, there_low, with_reader_on}
use Rattle.log_memory.proofs.Places.{head_apart, in_range, one_unit, place_is, row_apart}
use Rattle.log_memory.proofs.Rows.{GivesRow, carried_behind, gives_row}
use Rattle.log_memory.proofs.Storing.{Stored, stored}
use Rattle.log_rule.specs.Claims.Memory.{Ruled}
use Rattle.log_rule.specs.Numbers.{AreNumbered}
use Rattle.log_memory.proofs.OpenFrames.{open_else, open_from, open_to}
use Rattle.log_memory.proofs.Resting.{none_parked, parked_on, parked_set}

-- a seat's count of steps says nothing of the stream
pub restep : (key : Key) (words : List ℕ) (views : List View) (id n : ℕ) (w : View) → id < length views → LogRuled key (record { words = words; homes = []; views = set views id w }) → LogRuled key (record { words = words; homes = []; views = set views id (record w { steps = n }) })
restep key words views id n w low q =
    let w' : View = record w { steps = n } in let same : map pass_in (set views id w') ≡ map pass_in (set views id w) = map-set pass_in views id w' ∙ sym (map-set pass_in views id w) in record {
      cleaned = q.cleaned;
      there = q.there;
      ruled = subst (Ruled (now_at key (slice_index words 0) q.cleaned) words) (sym same) q.ruled;
      kept = subst (Kept (now_at key (slice_index words 0) q.cleaned) q.there words) (sym same) q.kept;
      sure = record {
        each = λ j x e. ⊎_elim
            (λ a. subst (IsSure words) a.1 (let y = q.sure.each id w (set_here views id w low) in record { whole = y.whole; exact = y.exact }))
            (λ a. q.sure.each j x (set_else views id j w a.0 ∙ a.1))
            (at_set views id j w' x e);
      };
      numbered = subst AreNumbered (sym same) q.numbered;
    }

-- a frame stands once in a list in which its position is covered once
first_of : FrameWords → List FrameWords → FrameWords
first_of d [] = d
first_of d (x ∷ xs) = x

others_of : List FrameWords → List FrameWords
others_of [] = []
others_of (x ∷ xs) = xs

-- how often the frames have a position
abbrev there_in : ℕ → List FrameWords → ℕ
there_in p fs = total (λ f. covers p f.start (8 * length f.words)) fs

taken_out : (p : ℕ) (d : FrameWords) (xs ys xs' ys' : List FrameWords) → 1 ≤ covers p d.start (8 * length d.words) → there_in p (xs ++ d ∷ ys) ≤ 1 → xs ++ d ∷ ys ≡ xs' ++ d ∷ ys' → xs ++ ys ≡ xs' ++ ys'
unfolding first_of others_of
taken_out p d [] ys [] ys' one most e = ap others_of e
taken_out p d [] ys (x' ∷ xs') ys' one most e =
    let a = ap (there_in p) (ap others_of e) in let c = total_append (λ f. covers p f.start (8 * length f.words)) xs' (d ∷ ys') in
    absurd (many (covers p d.start (8 * length d.words)) (there_in p ys) (there_in p xs') (there_in p ys') (there_in p (xs' ++ d ∷ ys')) one most a c)
  where
    many : (c y x y' t : ℕ) → 1 ≤ c → c + y ≤ 1 → y ≡ t → t ≡ x + (c + y') → ⊥
    many c y x y' t one most e f = omega arith
taken_out p d (x ∷ xs) ys [] ys' one most e =
    let c = total_append (λ f. covers p f.start (8 * length f.words)) xs (d ∷ ys) in let z = ap (λ (f : FrameWords). covers p f.start (8 * length f.words)) (ap (first_of d) e) in
    absurd (many (covers p d.start (8 * length d.words)) (covers p x.start (8 * length x.words)) (there_in p xs) (there_in p ys) (there_in p (xs ++ d ∷ ys)) one z most c)
  where
    many : (c x m y t : ℕ) → 1 ≤ c → x ≡ c → x + t ≤ 1 → t ≡ m + (c + y) → ⊥
    many c x m y t one e most f = omega arith
taken_out p d (x ∷ xs) ys (x' ∷ xs') ys' one most e = λ i. ap (first_of d) e i ∷ taken_out p d xs ys xs' ys' one (omega arith) (ap others_of e) i

twice : (p : ℕ) (z : FrameWords) (zs : List FrameWords) (f g : FrameWords) → covers p z.start (8 * length z.words) + there_in p zs ≤ 1 → f ≡ z → Among g zs → 1 ≤ covers p f.start (8 * length f.words) → 1 ≤ covers p g.start (8 * length g.words) → ⊥
twice p z zs f g most e c x y =
    let d = among_total (λ h. covers p h.start (8 * length h.words)) zs g c in let k = ap (λ (h : FrameWords). covers p h.start (8 * length h.words)) e in
    many (covers p f.start (8 * length f.words)) (covers p z.start (8 * length z.words)) (covers p g.start (8 * length g.words)) (there_in p zs) k most d x y
  where
    many : (f z g t : ℕ) → f ≡ z → z + t ≤ 1 → g ≤ t → 1 ≤ f → 1 ≤ g → ⊥
    many f z g t e most le x y = omega arith

one_there : (p : ℕ) (fs : List FrameWords) (f g : FrameWords) → there_in p fs ≤ 1 → Among f fs → Among g fs → 1 ≤ covers p f.start (8 * length f.words) → 1 ≤ covers p g.start (8 * length g.words) → f ≡ g
one_there p [] f g most a c x y = absurd a
one_there p (z ∷ zs) f g most (inl e) (inl e') x y = e ∙ sym e'
one_there p (z ∷ zs) f g most (inl e) (inr c) x y = absurd (twice p z zs f g most e c x y)
one_there p (z ∷ zs) f g most (inr a) (inl e') x y = absurd (twice p z zs g f most e' a y x)
one_there p (z ∷ zs) f g most (inr a) (inr c) x y = one_there p zs f g (omega arith) a c x y

-- the round of the frame at a position is another
abbrev pub rounds_with : ℕ → ℕ × ℕ → Rounds → Rounds
rounds_with p new rounds x = cond (x == p) new (rounds x)

rounds_here : (p : ℕ) (new : ℕ × ℕ) (rounds : Rounds) → rounds_with p new rounds p ≡ new
rounds_here p new rounds = ap (λ (b : Bool). cond b new (rounds p)) (eq-eqb p p refl)

rounds_else : (p : ℕ) (new : ℕ × ℕ) (rounds : Rounds) (x : ℕ) → x ≢ p → rounds_with p new rounds x ≡ rounds x
rounds_else p new rounds x ne = ap (λ (b : Bool). cond b new (rounds x)) (ne_eqb x p ne)

module _ (t : Site) (s : Board) (r : LogMemoryRuled t s) (id p : ℕ) (ws : List ℕ) (m : Mine) (at : get_elem? s.views id ≡ some m.0) (idle : IsIdle m.0) (may : MayCommit t p ws m) where
  abbrev v : LogView
  v = m.0

  abbrev ps : List Pass
  ps = passes_of s.views

  abbrev f0 : FrameWords
  f0 = frame p may.cut ws

  low : id < length (map view_in s.views)
  low = there_low (map view_in s.views) id m.0.view (at_map view_in s.views id m.0 at)

  pub made : Stored t.key r.stream (map view_in s.views) r.ruled id m.0.view (at_map view_in s.views id m.0 at) p may.cut ws may.front may.behind may.drafts may.long may.done may.small
  made = stored t.key r.stream (map view_in s.views) r.ruled id m.0.view (at_map view_in s.views id m.0 at) p may.cut ws may.front may.behind may.drafts may.long may.done may.small may.some

  abbrev pub seat : LogView
  seat = record m.0 { view = record made.became.view { steps = suc m.0.view.steps } }

  abbrev pub views : List LogView
  views = set s.views id seat

  abbrev ps' : List Pass
  ps' = passes_of (set s.views id seat)

  q : LogRuled t.key (stream_state made.after (set s.views id seat))
  q = subst (λ (l : List View). LogRuled t.key (record { words = made.after; homes = []; views = l })) (sym (map-set view_in s.views id seat)) (restep t.key made.after (map view_in s.views) id (suc m.0.view.steps) made.became.view low made.became.ruled)

  pass_is : seat.view.pass ≡ with_work (m.0.view.pass.work.frames ++ f0 ∷ []) (may.front ++ may.behind) m.0.view.pass
  pass_is = made.became.pass_is

  -- ---- what is claimed and committed

  here : get_elem? (passes_of s.views) id ≡ some m.0.view.pass
  here = pass_at s.views id m.0 at

  claimed : (h : Entry → ℕ) → total (weight h) (passes_of (set s.views id seat)) ≡ total (weight h) (passes_of s.views)
  claimed h = ap (total (weight h)) (passes_set s.views id seat) ∙ same_sum (weight h) (passes_of s.views) id m.0.view.pass seat.view.pass here (ap (λ (x : Pass). total h (map entry_of x.right.claims)) pass_is)

  committed : (h : FrameWords → ℕ) → total (committed_weight h) (passes_of (set s.views id seat)) ≡ total (committed_weight h) (passes_of s.views) + h f0
  committed h = ap (total (committed_weight h)) (passes_set s.views id seat)
      ∙ more (total (committed_weight h) (set (passes_of s.views) id seat.view.pass)) (total (committed_weight h) (passes_of s.views)) (committed_weight h m.0.view.pass) (committed_weight h seat.view.pass) (h f0) (total_set (committed_weight h) (passes_of s.views) id m.0.view.pass seat.view.pass here) (ap (λ (x : Pass). total h x.work.frames) pass_is ∙ total_append h m.0.view.pass.work.frames (f0 ∷ []))
    where
      more : (now old a c n : ℕ) → now + a ≡ old + c → c ≡ a + (n + 0) → now ≡ old + n
      more now old a c n e g = omega arith

  there : get_elem? (set s.views id seat) id ≡ some seat
  there = set_here s.views id seat (there_low s.views id m.0 at)

  there_pass : get_elem? (passes_of (set s.views id seat)) id ≡ some seat.view.pass
  there_pass = pass_at (set s.views id seat) id seat there

  pub is_new : IsAmong (passes_of (set s.views id seat)) f0
  is_new = is_among (passes_of (set s.views id seat)) id seat.view.pass f0 there_pass (subst (λ (x : Pass). Among f0 x.work.frames) (sym pass_is) (among_right f0 m.0.view.pass.work.frames (f0 ∷ []) (inl refl)))

  still : (f : FrameWords) → IsAmong (passes_of s.views) f → IsAmong (passes_of (set s.views id seat)) f
  still f among h = let a = among h in let e = committed h in up (h f) (total (committed_weight h) (passes_of s.views)) (total (committed_weight h) (passes_of (set s.views id seat))) (h f0) a e
    where
      up : (x a c n : ℕ) → x ≤ a → c ≡ a + n → x ≤ c
      up x a c n le e = omega arith

  which : (f : FrameWords) → IsAmong (passes_of (set s.views id seat)) f → IsAmong (passes_of s.views) f ⊎ (f ≡ f0)
  which f among =
      let by = found (passes_of (set s.views id seat)) f among in let at' = ap (λ (l : List Pass). get_elem? l by.place) (sym (passes_set s.views id seat)) ∙ by.at in
      ⊎_elim
      (λ (a : (by.place ≡ id) × (seat.view.pass ≡ by.holder)). ⊎_elim
      (λ old. inl (is_among (passes_of s.views) id m.0.view.pass f here old))
      (λ new. inr (⊎_elim (λ (e : f ≡ f0). e) (λ none. absurd none) new))
      (among_cases f m.0.view.pass.work.frames (f0 ∷ []) (subst (λ (x : Pass). Among f x.work.frames) (sym a.1 ∙ pass_is) by.among)))
      (λ (a : (by.place ≢ id) × (get_elem? (passes_of s.views) by.place ≡ some by.holder)). inl (is_among (passes_of s.views) by.place by.holder f a.1 by.among))
      (at_set (passes_of s.views) id by.place seat.view.pass by.holder at')

  -- ---- the open frame, before

  opened : (h : _ → ℕ) → h (extent_of (blank p may.cut)) ≤ open_sum h (passes_of s.views)
  opened h = let a = among_total (λ f. h (extent_of f)) m.0.view.pass.work.drafts (blank p may.cut) (subst (Among (blank p may.cut)) (sym may.drafts) (among_right (blank p may.cut) may.front (blank p may.cut ∷ may.behind) (inl refl))) in
      let c = total_at (open_weight h) (passes_of s.views) id m.0.view.pass here in up (h (extent_of (blank p may.cut))) (open_weight h m.0.view.pass) (open_sum h (passes_of s.views)) a c
    where
      up : (x y z : ℕ) → x ≤ y → y ≤ z → x ≤ z
      up x y z p q = omega arith

  parted : (h : _ → ℕ) → claimed_sum h (passes_of s.views) ≡ committed_sum h (passes_of s.views) + open_sum h (passes_of s.views)
  parted h = all_parted (bounds t r.stream s.views r.ruled) r.stream (passes_of s.views) r.ruled.ruled.memory h

  some_words : 0 < length (blank p may.cut).words
  some_words = let e = may.long in let a = may.some in omega arith

  -- nothing committed begins there
  not_there : (f : FrameWords) → IsAmong (passes_of s.views) f → f.start ≢ p
  not_there f among e =
      let a = among (λ g. covering p (extent_of g)) in let c = opened (covering p) in let two = parted (covering p) in let once = covered (bounds t r.stream s.views r.ruled) r.stream (passes_of s.views) r.ruled.ruled.claims p in
      clash f.start (length f.words) p (length (blank p may.cut).words) (committed_sum (covering p) (passes_of s.views)) (open_sum (covering p) (passes_of s.views)) (claimed_sum (covering p) (passes_of s.views)) (min (p + 1 - t.key.start) (tail_in t.key (passes_of s.views) - p)) e (long_frame t r.stream s.views r.ruled f among) some_words a c two once
    where
      clash : (fs l p d cs os ts y : ℕ) → fs ≡ p → 0 < l → 0 < d → covers p fs (8 * l) ≤ cs → covers p p (8 * d) ≤ os → ts ≡ cs + os → ts ≡ min 1 y → ⊥
      clash fs l p d cs os ts y e some' some'' a c two once = omega arith

  -- and it lies behind what was taken back
  gone_low : r.freed + r.out ≤ p
  gone_low = dite (dec_le (r.freed + r.out) p) (λ le. le) (λ no'. let gone : ℕ = r.freed + r.out in let c = opened (begins_below gone) in let two = parted (begins_below gone) in
      absurd (clash p gone (length (blank p may.cut).words) (committed_sum (begins_below gone) (passes_of s.views)) (open_sum (begins_below gone) (passes_of s.views)) (claimed_sum (begins_below gone) (passes_of s.views)) (lt_of_not-le no') some_words c two r.memory.passed))
    where
      clash : (p g d cs os ts : ℕ) → p < g → 0 < d → min 1 (min (8 * d) (g - p)) ≤ os → ts ≡ cs + os → ts ≡ cs → ⊥
      clash p g d cs os ts lt some' c two e = omega arith

  -- ---- its row

  unit_p : p % 32 ≡ 0
  unit_p = unit t made.after (set s.views id seat) q f0 is_new

  whole_p : (8 * length ws) % 32 ≡ 0
  whole_p = whole t made.after (set s.views id seat) q f0 is_new

  row : p % (ring t * 32) + 8 * length ws ≤ ring t * 32
  row = in_row_of t made.after (set s.views id seat) q f0 is_new

  tail_same : tail_in t.key (passes_of (set s.views id seat)) ≡ tail_in t.key (passes_of s.views)
  tail_same = ap (λ (n : ℕ). t.key.start + n) (claimed length_of)

  near : p + 8 * length ws ≤ tail_in t.key (passes_of s.views)
  near = let a = end_low t made.after (set s.views id seat) q f0 is_new in let e = tail_same in omega arith

  some_n : 0 < ring t
  some_n = some_ring t r.stream s.views r.ruled

  wide : slot_of (ring t) p 0 + 8 * length ws / 4 ≤ length s.homes
  wide = let e = place_is (ring t) p some_n unit_p in let x : ℕ = p / 32 % ring t in let e' : x * 32 ≡ p % (ring t * 32) = e in let a = row in let c = r.memory.shelves in let l : ℕ = length ws in omega arith

  abbrev is : ℕ → Access → Type 0
  is = IsPartAt t (slot_of (ring t) p 0) ws may.round may.book

  pub gives : GivesRow s.homes (IsPartAt t (slot_of (ring t) p 0) ws may.round may.book) (slot_of (ring t) p 0) (8 * length ws / 4) m.1 may.before
  gives = gives_row s.homes (IsPartAt t (slot_of (ring t) p 0) ws may.round may.book) (slot_of (ring t) p 0) (8 * length ws / 4) m.1 may.before wide may.carries

  abbrev words : List ℕ
  words = set s.words (head_place (ring t) p) (slice_index ws 0)

  abbrev pub after : Board
  after = record { words = set s.words (head_place (ring t) p) (slice_index ws 0); homes = homes_after s.homes m.1 gives.act; views = set s.views id seat }

  abbrev rounds : Rounds
  rounds = rounds_with p (may.round, may.book) r.rounds

  -- a slot of a unit that isn't the frame's is where it was
  home_on : (x j : ℕ) (is : Access → Type 0) → x % 32 ≡ 0 → r.freed ≤ x → x < r.freed + 3 * term t → (x < p) ⊎ (p + 8 * length ws ≤ x) → j < 8 → IsHome s (slot_of (ring t) x j) is → IsHome after (slot_of (ring t) x j) is
  home_on x j is ux lo hi out lt h = let w = width t r.stream s.views r.ruled in let g = gone_low in let a = near in let n = tail_near t s r in record {
    access = h.access;
    there = gives.others (slot_of (ring t) x j) (row_apart (ring t) r.freed p (8 * length ws) x j some_n unit_p whole_p row (omega arith) (omega arith) ux lo (omega arith) out lt) ∙ h.there;
    so = h.so;
  }

  -- another frame lies as it did
  lies_on : (f : FrameWords) → IsAmong (passes_of s.views) f → r.freed ≤ f.start → Lies t s r.rounds f → Lies t after rounds f
  lies_on f among from l =
      let ne = not_there f among in let e : rounds f.start ≡ r.rounds f.start = rounds_else p (may.round, may.book) r.rounds f.start ne in let near' = tail_near t s r in let end = end_low t r.stream s.views r.ruled f among in let n = long_frame t r.stream s.views r.ruled f among in
      let side : (end_of f ≤ p) ⊎ (p + 8 * length ws ≤ f.start) = dite (dec_le f.start p)
      (λ le. inl (apart t made.after (set s.views id seat) q f f0 (still f among) is_new (omega arith)))
      (λ gt. inr (apart t made.after (set s.views id seat) q f0 f is_new (still f among) (lt_of_not-le gt))) in
      let out : (x : ℕ) → f.start ≤ x → x < end_of f → (x < p) ⊎ (p + 8 * length ws ≤ x) = λ x lo hi. ⊎_elim (λ a. inl (omega arith)) (λ a. inr (omega arith)) side in record {
        parts = λ j lt. ⊎_elim
            (λ h. inl (subst (λ (y : ℕ × ℕ). IsHome after (slot_of (ring t) f.start j) (IsPart t (slot_of (ring t) f.start 0) f.words y.0 y.1)) (sym e) (home_on f.start j _ (unit t r.stream s.views r.ruled f among) from (omega arith) (out f.start (omega arith) (omega arith)) lt h)))
            (λ b. inr (let x = with_reader_on s words id m.0 seat at idle f.start j b in record { seat = x.seat; view = x.view; there = x.there; part = x.part }))
            (l.parts j lt);
        inside = λ x j ux lo hi lt. home_on x j _ ux (omega arith) (omega arith) (out x (omega arith) hi) lt (l.inside x j ux lo hi lt);
      }

  -- and the new one lies there
  lies_new : Lies t after rounds f0
  lies_new = let e : rounds p ≡ (may.round, may.book) = rounds_here p (may.round, may.book) r.rounds in record {
    parts = λ j lt. inl (let i : ℕ = slot_of (ring t) p j in let b = in_range (ring t) p (8 * length ws) p j some_n unit_p whole_p row unit_p (omega arith) (let a = may.some in omega arith) lt in let g = gives.full i b.0 b.1 in
        subst (λ (y : ℕ × ℕ). IsHome after (slot_of (ring t) p j) (IsPart t (slot_of (ring t) p 0) ws y.0 y.1)) (sym e) record { access = g.0; there = g.1; so = g.2 (let x : ℕ = p / 32 % ring t in omega arith) });
    inside = λ x j ux lo hi lt. (let b = in_range (ring t) p (8 * length ws) x j some_n unit_p whole_p row ux (omega arith) hi lt in let g = gives.full (slot_of (ring t) x j) b.0 b.1 in record { access = g.0; there = g.1; so = tt });
  }

  beyond_on : (gone x : ℕ) → gone ≤ p → IsBeyond t (passes_of s.views) gone x → IsBeyond t (passes_of (set s.views id seat)) gone x
  beyond_on gone x le a = record { passed = a.passed; back = λ f among near'. ⊎_elim (λ old. a.back f old near') (λ new. subst (λ (y : FrameWords). gone ≤ y.start) (sym new) le) (which f among) }

  knows_on : (w : LogView) → KnowsRoom t (passes_of s.views) r.freed r.out w → KnowsRoom t (passes_of (set s.views id seat)) r.freed r.out w
  knows_on w a = record { freed_is = a.freed_is; out_is = a.out_is; cleaned = a.cleaned; seen = λ j x. beyond_on (r.freed + r.out) _ gone_low (a.seen j x) }

  own_room : seat.view.pass.keeping.right ≡ 1 → KnowsRoom t (passes_of s.views) r.freed r.out seat
  own_room one' = let same : seat.view.pass.keeping ≡ m.0.view.pass.keeping = ap (λ (x : Pass). x.keeping) pass_is in let k = r.memory.keeper id m.0 at (sym (ap (λ (x : Keeping). x.right) same) ∙ one') in record {
    freed_is = k.freed_is;
    out_is = k.out_is;
    cleaned = subst (λ (x : Keeping). x.cleaned ≤ r.freed) (sym same) k.cleaned;
    seen = λ j x. subst (λ (y : Keeping). IsBeyond t (passes_of s.views) (r.freed + r.out) (slice_index y.positions j)) (sym same) (k.seen j (subst (λ (y : Keeping). IsThere y.there j) same x));
  }

  head_low : head_place (ring t) p < length s.words
  head_low = let e = place_is (ring t) p some_n unit_p in let x : ℕ = p / 32 % ring t in let e' : x * 32 ≡ p % (ring t * 32) = e in let a = row in let b = may.some in let c = r.words.long in let l : ℕ = length ws in omega arith

  -- the word of another unit is as it was
  head_else : (x : ℕ) → x % 32 ≡ 0 → r.freed ≤ x → x < r.freed + 3 * term t → x ≢ p → slice_index words (head_place (ring t) x) ≡ slice_index s.words (head_place (ring t) x)
  head_else x ux lo hi ne = let w = width t r.stream s.views r.ruled in let g = gone_low in let a = near in let b = may.some in let n = tail_near t s r in
      get_or-set_other s.words (head_place (ring t) p) (head_place (ring t) x) (slice_index ws 0) 0 (λ e. ne (one_unit (ring t) r.freed x p ux unit_p lo (omega arith) (omega arith) (omega arith) (head_apart (ring t) x p e)))

  -- however its open frames are parted
  pub filled : (front : List FrameWords) (cut : ℕ) (behind : List FrameWords) → 0 < cut → m.0.view.pass.work.drafts ≡ front ++ blank p cut ∷ behind → seat.view.pass ≡ with_work (m.0.view.pass.work.frames ++ frame p cut ws ∷ []) (front ++ behind) m.0.view.pass
  filled front cut behind pos drafts =
      let b = bounds t r.stream s.views r.ruled in let h : Extent → ℕ = covering p in
      let once = covered b r.stream (passes_of s.views) r.ruled.ruled.claims p in let two = parted h in let mine = total_at (open_weight h) (passes_of s.views) id m.0.view.pass here in
      let all : there_in p (may.front ++ blank p may.cut ∷ may.behind) ≤ 1 = subst (λ (l : List FrameWords). there_in p l ≤ 1) may.drafts (least (open_weight h m.0.view.pass) (open_sum h (passes_of s.views)) (committed_sum h (passes_of s.views)) (claimed_sum h (passes_of s.views)) (min (p + 1 - t.key.start) (tail_in t.key (passes_of s.views) - p)) mine two once) in
      let one' = its p (length (blank p may.cut).words) some_words in
      let same : blank p may.cut ≡ blank p cut = one_there p (may.front ++ blank p may.cut ∷ may.behind) (blank p may.cut) (blank p cut) all (among_right (blank p may.cut) may.front (blank p may.cut ∷ may.behind) (inl refl)) (subst (Among (blank p cut)) (sym drafts ∙ may.drafts) (among_right (blank p cut) front (blank p cut ∷ behind) (inl refl))) one' (its p (length (blank p cut).words) (let e = length-replicate (aligned cut / 8) 0 in words_in_cut cut (length (blank p cut).words) pos e)) in
      let cuts : may.cut ≡ cut = ap (λ (f : FrameWords). f.cut) same in
      let lists = taken_out p (blank p may.cut) may.front may.behind front behind one' all (sym may.drafts ∙ drafts ∙ ap (λ (f : FrameWords). front ++ f ∷ behind) (sym same)) in
      pass_is ∙ (λ i. with_work (m.0.view.pass.work.frames ++ frame p (cuts i) ws ∷ []) (lists i) m.0.view.pass)
    where
      least : (a o c s y : ℕ) → a ≤ o → s ≡ c + o → s ≡ min 1 y → a ≤ 1
      least a o c s y le e f = omega arith

      its : (p l : ℕ) → 0 < l → 1 ≤ covers p p (8 * l)
      its p l pos = omega arith

      words_in_cut : (cut n : ℕ) → 0 < cut → n ≡ aligned cut / 8 → 0 < n
      words_in_cut cut n pos e = omega arith

  -- another seat's open frame isn't this one
  open_out : (i : ℕ) (x : LogView) → i ≢ id → get_elem? s.views i ≡ some x → (f : FrameWords) → Among f x.view.pass.work.drafts → (y : ℕ) → f.start ≤ y → y < end_of f → (y < p) ⊎ (p + 8 * length ws ≤ y)
  open_out i x ne here' f draft y lo hi = subst (λ (n : ℕ). (y < p) ⊎ (p + 8 * n ≤ y)) (sym may.long)
      (open_else t s r i x here' f draft id m.0 (λ e. ne (sym e)) at (blank p may.cut) (subst (Among (blank p may.cut)) (sym may.drafts) (among_right (blank p may.cut) may.front (blank p may.cut ∷ may.behind) (inl refl))) y lo hi)

  pub committing : LogMemoryRuled t after
  committing = record {
    stream = made.after;
    freed = r.freed;
    out = r.out;
    rounds = rounds;
    ruled = q;
    words = record {
      long = length-set s.words (head_place (ring t) p) (slice_index ws 0) ∙ r.words.long;
      small = made.became.small r.words.small;
      controls = λ i lt. get_or-set_other s.words (head_place (ring t) p) i (slice_index ws 0) 0 (λ e. (let x : ℕ = p / 32 % ring t in omega arith)) ∙ r.words.controls i lt ∙ sym (made.became.controls i lt);
      heads = λ f among from. ⊎_elim
          (λ old. (let end = end_low t r.stream s.views r.ruled f old in let n = long_frame t r.stream s.views r.ruled f old in let near' = tail_near t s r in head_else f.start (unit t r.stream s.views r.ruled f old) from (omega arith) (not_there f old) ∙ r.words.heads f old from))
          (λ new. subst (λ (y : FrameWords). slice_index words (head_place (ring t) y.start) ≡ slice_index y.words 0) (sym new) (get_or-set_same s.words (head_place (ring t) p) (slice_index ws 0) 0 head_low))
          (which f among);
      rest = λ x ux from to none'. head_else x ux from to (λ e. none' f0 is_new (sym e)) ∙ r.words.rest x ux from to (λ f among. none' f (still f among));
    };
    memory = record {
      shelves = gives.long ∙ r.memory.shelves;
      unit = r.memory.unit;
      edge = ⊎_elim (λ e. inl (e ∙ sym tail_same)) (λ pos. inr (let e = claimed (in_entry (begins_at (r.freed + r.out))) in more (claimed_sum (begins_at (r.freed + r.out)) (passes_of s.views)) (claimed_sum (begins_at (r.freed + r.out)) (passes_of (set s.views id seat))) pos e)) r.memory.edge;
      passed = (let gone : ℕ = r.freed + r.out in let c = claimed (in_entry (begins_below gone)) in let d = committed (λ f. begins_below gone (extent_of f)) in let up = sum_less (bounds t made.after (set s.views id seat) q) made.after (passes_of (set s.views id seat)) q.ruled.memory (begins_below gone) in
          full (claimed_sum (begins_below gone) (passes_of s.views)) (claimed_sum (begins_below gone) (passes_of (set s.views id seat))) (committed_sum (begins_below gone) (passes_of s.views)) (committed_sum (begins_below gone) (passes_of (set s.views id seat))) (begins_below gone (extent_of f0)) r.memory.passed c d up);
      ahead = subst (λ (n : ℕ). limit_in n + greatest_claim (shape t) * 8 < r.freed + 3 * term t) (sym (get_or-set_other s.words (head_place (ring t) p) 0 (slice_index ws 0) 0 (λ e. (let x : ℕ = p / 32 % ring t in omega arith)))) r.memory.ahead;
      free = λ x ux from to. (let e = tail_same in let a = near in let g = gone_low in let f = r.memory.free x ux (omega arith) to in record {
        room = home_on x 0 _ ux (omega arith) to (inr (omega arith)) (omega arith) f.room;
        others = λ j lt. home_on x j _ ux (omega arith) to (inr (omega arith)) lt (f.others j lt);
      });
      frames = λ f among from. ⊎_elim
          (λ old. lies_on f old (omega arith) (r.memory.frames f old from))
          (λ new. subst (Lies t after rounds) (sym new) lies_new)
          (which f among);
      taken = λ some'. (let a = r.memory.taken some' in record { frame = a.frame; among = still a.frame a.among; here = a.here; long = a.long });
      held = λ i x here' has. ⊎_elim
          (λ e. absurd (clash m.0.part.has x.part.has (ap (λ (y : LogView). y.part.has) e.1) has idle.0))
          (λ e. let a = r.memory.held i x e.1 has in let ne : x.part.at ≢ p = (λ z. not_there a.frame a.among (a.here ∙ z)) in let same = rounds_else p (may.round, may.book) r.rounds x.part.at ne in record {
            frame = a.frame;
            among = still a.frame a.among;
            here = a.here;
            round = a.round ∙ sym (ap (λ (y : ℕ × ℕ). y.0) same);
            book = a.book ∙ sym (ap (λ (y : ℕ × ℕ). y.1) same);
            reading = a.reading;
            mine = a.mine;
            number = a.number;
            low = a.low;
            near = a.near;
          })
          (at_set s.views id i seat x here');
      readers = λ i x y here' among lt. ⊎_elim
          (λ e. beyond_on (r.freed + r.out) y.position gone_low (r.memory.readers id m.0 y at (subst (Among y) (sym (ap (λ (z : LogView). z.view.pass.reading) e.1) ∙ ap (λ (z : Pass). z.reading) pass_is) among) lt))
          (λ e. beyond_on (r.freed + r.out) y.position gone_low (r.memory.readers i x y e.1 among lt))
          (at_set s.views id i seat x here');
      keeper = λ i x here' one'. ⊎_elim
          (λ e. subst (KnowsRoom t (passes_of (set s.views id seat)) r.freed r.out) e.1 (knows_on seat (own_room (subst (λ (z : LogView). z.view.pass.keeping.right ≡ 1) (sym e.1) one'))))
          (λ e. knows_on x (r.memory.keeper i x e.1 one'))
          (at_set s.views id i seat x here');
      parked = parked_set t s after id seat (none_parked t after seat idle.1) (λ i x f ne here' among. let a = r.memory.parked i x f here' among in let from = open_from t s r i x here' f a.draft in let to = open_to t s r i x here' f a.draft in let near' = tail_near t s r in
          parked_on t s after x f (λ y j is unit lo hi lt h. home_on y j is unit (omega arith) (omega arith) (open_out i x ne here' f a.draft y lo hi) lt h) a);
    };
  }
    where
      more : (a c : ℕ) → 0 < a → c ≡ a → 0 < c
      more a c pos e = omega arith

      full : (s s' c c' k : ℕ) → s ≡ c → s' ≡ s → c' ≡ c + k → c' ≤ s' → s' ≡ c'
      full s s' c c' k e f g le = omega arith

      clash : (a c : ℕ) → a ≡ c → c ≡ 1 → a ≡ 0 → ⊥
      clash a c e has none' = omega arith

pub commit : (t : Site) (id p : ℕ) (ws : List ℕ) (m : Mine) → IsIdle m.0 → MayCommit t p ws m → (slots : ℕ) → Allows (LogMemoryRuled t) slots id m (head_place (ring t) p) (λ _. slice_index ws 0) (λ _ w. Commits t p ws m w)
commit t id p ws m idle may slots s r homes at small = let g = gives t s r id p ws m at idle may in (
  seat t s r id p ws m at idle may,
  g.act,
  g.valid,
  committing t s r id p ws m at idle may,
  record {
    carried = g.rest ∙ sym (carried_behind (IsPartAt t (slot_of (ring t) p 0) ws may.round may.book) (slot_of (ring t) p 0) (8 * length ws / 4) may.before m.1 may.carries);
    part = refl;
    room = refl;
    parked = refl;
    steps = refl;
    learns = record { sure = (made t s r id p ws m at idle may).became.sure; leads = (made t s r id p ws m at idle may).became.leads };
    fills = filled t s r id p ws m at idle may;
  },
)

-- a seat that has made one step more, and nothing else
pub stepped : (t : Site) (s : Board) (r : LogMemoryRuled t s) (id : ℕ) (v x : LogView) → get_elem? s.views id ≡ some v → x.view ≡ record v.view { steps = suc v.view.steps } → LogRuled t.key (stream_state r.stream (set s.views id x))
stepped t s r id v x at e =
    let there = at_map view_in s.views id v at in
    subst (λ (l : List View). LogRuled t.key (record { words = r.stream; homes = []; views = l })) (ap (set (map view_in s.views) id) (sym e) ∙ sym (map-set view_in s.views id x))
    (restep t.key r.stream (map view_in s.views) id (suc v.view.steps) v.view (there_low (map view_in s.views) id v.view there) (subst (λ (l : List View). LogRuled t.key (record { words = r.stream; homes = []; views = l })) (sym (set_again (map view_in s.views) id v.view there)) r.ruled))

-- which is quiet
pub quiet_step : (v : View) (n : ℕ) → IsQuiet v (record v { steps = n })
quiet_step v n = record { claims = refl; frames = refl; readings = λ x among low. inl (x, among, low, omega arith); keeper = λ one. one; cleaned = refl; seen = λ one j there. (one, (j, there, omega arith)) }
