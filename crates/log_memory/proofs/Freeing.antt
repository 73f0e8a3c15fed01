-- The keeper takes the memory of a frame back that nobody needs, and gives it as room.
use Rattle.std.proofs.Common.{◌≡◌, ◌≢◌, ℕ, suc, ◌+◌, ◌-◌, ◌*◌, ◌/◌, ◌%◌, ◌<◌, ◌≤◌, inl, inr, ⊎_elim, max, min, List, [], ◌∷◌, length, set, sym, refl, ap, ◌∙◌, subst, lt_of_not-le, arith}
use mathlib.Core.Option.{Option, some, some-injective}
use mathlib.Core.Logic.{dite}
use native.Mathlib.Decide.{dec_le, ℕ_discrete}
use lib.ListN.{get_elem?}
use Rattle.std.specs.Prelude.{slice_index}
use Rattle.std.proofs.lemmas.List.{set-get_or}
use Rattle.atomic_table.specs.Table.{Allows, homes_after}
use Rattle.atomic_table.proofs.Lists.{at_set, set_else, set_here}
use Rattle.theory.specs.Bytes.{Identity}
use Rattle.theory.specs.Placed.{Among}
use Rattle.theory.specs.Position.{greatest_claim}
use Rattle.theory.specs.Refusal.{limit_in}
use Rattle.theory.proofs.Lists.{all_at}
use Rattle.publication.specs.declared.pass.FrameWords.{FrameWords}
use Rattle.publication.specs.declared.pass.Pass.{Pass}
use Rattle.publication.specs.declared.pass.Reading.{Reading}
use Rattle.publication.specs.Steps.{Extent, extent_of, term_of}
use Rattle.region.specs.declared.access.Access.{Access}
use Rattle.log_rule.specs.Claims.Packs.{consumer_place}
use Rattle.log_rule.specs.Claims.Sums.{covers, total}
use Rattle.log_rule.specs.Claims.Events.{committed_weight}
use Rattle.log_rule.specs.Edges.{AreCommitted, IsAmong, begins_at, begins_below, claimed_sum, committed_sum, open_sum, open_weight}
use Rattle.log_rule.specs.Kept.{IsReader, IsThere, keepers_of}
use Rattle.log_rule.specs.Keepings.{least_there}
use Rattle.log_rule.specs.Readings.{end_of}
use Rattle.log_rule.proofs.Claimed.Totals.{both_at}
use Rattle.log_rule.proofs.Consumers.{is_there}
use Rattle.log_rule.proofs.Edges.{among_claimed, edge_behind, edge_low, passed_behind}
use Rattle.log_rule.proofs.Keeping.{least_low}
use Rattle.log_rule.proofs.Known.{is_among, among_at}
use Rattle.log_rule.proofs.Sums.{all_parted, covered, covering, has_some, sum_up, total_up}
use Rattle.log_memory.specs.declared.view.LogView.{LogView}
use Rattle.log_memory.specs.declared.view.Site.{Site}
use Rattle.log_memory.specs.Places.{head_place, slot_of}
use Rattle.log_memory.specs.Rule.{Board, IsBeyond, IsEdgeOf, IsHeld, IsHome, IsParked, IsPartOf, IsWithReader, KnowsRoom, Lies, LogMemoryRuled, passes_of, ring, shape, tail_in, term}
use Rattle.log_memory.specs.Steps.{IsPartAt, MayTakeBack, Mine, TakesBack}
use Rattle.log_memory.proofs.Committing.{quiet_step, stepped}
use Rattle.log_memory.proofs.Facts.{apart, bounds, done, end_low, in_row_of, in_term, long, pass_at, some_ring, tail_near, unit, whole, width}
use Rattle.log_memory.proofs.Lifting.{quiet_look, there_low}
use Rattle.log_memory.proofs.Places.{row_apart, row_unit}
use Rattle.log_memory.proofs.Resting.{SameFrames, beyond_on, edge_on, held_on, parked_on, parked_set, passed_on, same_frames, tail_on}
use Rattle.log_memory.proofs.Rows.{Full, TakesRow, takes_row}
use Rattle.log_memory.proofs.OpenFrames.{open_beside, open_from, open_to}

among_place : (r : Reading) (rs : List Reading) → Among r rs → (k : ℕ) × (get_elem? rs k ≡ some r)
among_place r [] a = absurd a
among_place r (x ∷ xs) (inl e) = (0, ap some (sym e))
among_place r (x ∷ xs) (inr a) = let k = among_place r xs a in (suc k.0, k.1)

-- ---- one seat makes a step, and its views of parts stay

module _ (s : Board) (id : ℕ) (v w : LogView) (at : get_elem? s.views id ≡ some v) (part : w.part ≡ v.part) where
  low : id < length s.views
  low = there_low s.views id v at

  pub reader_on : (words : List ℕ) (homes : List (Option Access)) (p j : ℕ) → IsWithReader s p j → IsWithReader (record { words = words; homes = homes; views = set s.views id w }) p j
  reader_on words homes p j b = dite (ℕ_discrete b.seat id)
      (λ e. let same : v ≡ b.view = some-injective v b.view (sym at ∙ ap (get_elem? s.views) (sym e) ∙ b.there) in let z = part ∙ ap (λ (x : LogView). x.part) same in record {
        seat = id;
        view = w;
        there = set_here s.views id w low;
        part = record { has = ap (λ x. x.has) z ∙ b.part.has; number = ap (λ x. x.number) z ∙ b.part.number; at = ap (λ x. x.at) z ∙ b.part.at };
      })
      (λ ne. record { seat = b.seat; view = b.view; there = set_else s.views id b.seat w ne ∙ b.there; part = b.part })

-- ---- what the keeper knows

module _ (t : Site) (s : Board) (r : LogMemoryRuled t s) (id : ℕ) (v : LogView) (at : get_elem? s.views id ≡ some v) (keeper : v.view.pass.keeping.right ≡ 1) where
  abbrev ps : List Pass
  ps = passes_of s.views

  pub room : KnowsRoom t (passes_of s.views) r.freed r.out v
  room = r.memory.keeper id v at keeper

  -- nobody else is
  pub only : (i : ℕ) (x : LogView) → i ≢ id → get_elem? s.views i ≡ some x → x.view.pass.keeping.right ≡ 1 → ⊥
  only i x ne there one = let two = both_at keepers_of (passes_of s.views) id i v.view.pass x.view.pass ne (pass_at s.views id v at) (pass_at s.views i x there) in let most = r.ruled.kept.keepers in
      many v.view.pass.keeping.right x.view.pass.keeping.right (total keepers_of (passes_of s.views)) keeper one two most
    where
      many : (a c n : ℕ) → a ≡ 1 → c ≡ 1 → a + c ≤ n → n ≤ 1 → ⊥
      many a c n e f two most = omega arith

  abbrev far : ℕ
  far = least_there v.view.pass.keeping.there v.view.pass.keeping.positions

  who_is : v.view.pass.keeping.there ≡ r.ruled.there
  who_is = (r.ruled.kept.each id v.view.pass (pass_at s.views id v at)).keeping.there keeper

  seen_far : (j : ℕ) → IsThere r.ruled.there j → far ≤ slice_index v.view.pass.keeping.positions j
  seen_far j there = least_low v.view.pass.keeping.there v.view.pass.keeping.positions j (let e = ap (λ (l : List ℕ). slice_index l j) who_is in positive (slice_index v.view.pass.keeping.there j) (slice_index r.ruled.there j) e there)
    where
      positive : (a c : ℕ) → a ≡ c → c ≡ 1 → 0 < a
      positive a c e one = omega arith

  -- each consumer stands there, or further on
  stands_far : (i : ℕ) (u : LogView) (x : Reading) → get_elem? s.views i ≡ some u → Among x u.view.pass.reading → x.number < 8 → far ≤ x.position
  stands_far i u x there among lt =
      let b = bounds t r.stream s.views r.ruled in let k = among_place x u.view.pass.reading among in let pass = pass_at s.views i u there in
      let is = is_there b r.ruled.there r.stream (passes_of s.views) r.ruled.kept i u.view.pass k.0 x pass k.1 lt in
      let swept = (r.ruled.kept.each id v.view.pass (pass_at s.views id v at)).keeping.swept keeper x.number is in
      let word = (all_at (IsReader r.stream (passes_of s.views)) x u.view.pass.reading (r.ruled.kept.each i u.view.pass pass).readings among).position lt in
      up far (slice_index v.view.pass.keeping.positions x.number) (slice_index r.stream (consumer_place x.number)) x.position (seen_far x.number is) swept word
    where
      up : (a c d e : ℕ) → a ≤ c → c ≤ d → d ≡ e → a ≤ e
      up a c d e p q w = omega arith

  start_is : v.view.pass.start ≡ t.key.start
  start_is = (r.ruled.ruled.claims.each id v.view.pass (pass_at s.views id v at)).start

  term_is : term_of v.view.pass ≡ term t
  term_is = ap (λ (x : Identity). x.geometry.term_length) (r.ruled.ruled.claims.each id v.view.pass (pass_at s.views id v at)).identity

  gone_from : t.key.start ≤ r.freed + r.out
  gone_from = ⊎_elim
      (λ (e : r.freed + r.out ≡ tail_in t.key (passes_of s.views)). least t.key.start (r.freed + r.out) (tail_in t.key (passes_of s.views)) e (omega arith))
      (λ (pos : 0 < claimed_sum (begins_at (r.freed + r.out)) (passes_of s.views)). let p : ℕ = r.freed + r.out in let up = sum_up (begins_at p) (covering p) (passes_of s.views) (λ x. at_covers p x.start x.bytes) in let c = covered (bounds t r.stream s.views r.ruled) r.stream (passes_of s.views) r.ruled.ruled.claims p in
      low' p t.key.start (tail_in t.key (passes_of s.views) - p) (claimed_sum (begins_at p) (passes_of s.views)) (claimed_sum (covering p) (passes_of s.views)) pos up c)
      r.memory.edge
    where
      least : (a c d : ℕ) → c ≡ d → a ≤ d → a ≤ c
      least a c d e le = omega arith

      at_covers : (p s n : ℕ) → min n (1 - ((s - p) + (p - s))) ≤ covers p s n
      at_covers p s n = omega arith

      low' : (p s m a c : ℕ) → 0 < a → a ≤ c → c ≡ min 1 (min (p + 1 - s) m) → s ≤ p
      low' p s m a c pos le is = omega arith

  -- ---- the frame there

  pub record FrameThere : Type 0 where
    pub frame : FrameWords
    pub among : IsAmong (passes_of s.views) frame
    pub here : frame.start ≡ r.freed

  module _ (may : MayTakeBack v) where
    idle : r.out ≡ 0
    idle = sym room.out_is ∙ may.idle

    deep : r.freed + term t < far
    deep = let a = may.below in let e = start_is in let f = term_is in let g = room.freed_is in let c = gone_from in let z = idle in go v.room.freed r.freed v.view.pass.start t.key.start far (term_of v.view.pass) (term t) (r.freed + r.out) r.out a e f g c z refl
      where
        go : (vf f vs ks far vt kt gone out : ℕ) → vf < max vs (far - vt) → vs ≡ ks → vt ≡ kt → vf ≡ f → ks ≤ gone → out ≡ 0 → gone ≡ f + out → f + kt < far
        go vf f vs ks far vt kt gone out a e g h c z d = omega arith

    pub frame_there : FrameThere
    frame_there =
        let b = bounds t r.stream s.views r.ruled in let p : ℕ = r.freed in let one : ℕ = r.ruled.kept.one in let there = r.ruled.kept.any in
        let seen = (r.ruled.kept.each id v.view.pass (pass_at s.views id v at)).keeping.seen keeper one there in let q : ℕ = slice_index v.view.pass.keeping.positions one in
        let d = deep in let a = seen_far one there in let low' = edge_low b r.stream (passes_of s.views) r.ruled.ruled q seen.edge in let z = idle in
        let pos : 0 < claimed_sum (begins_at r.freed) (passes_of s.views) = ⊎_elim
        (λ (e : r.freed + r.out ≡ tail_in t.key (passes_of s.views)). absurd (late (r.freed) r.out (tail_in t.key (passes_of s.views)) far q (term t) e z d a low'))
        (λ pos. subst (λ (x : ℕ). 0 < claimed_sum (begins_at x) (passes_of s.views)) (let e : r.freed + r.out ≡ r.freed = omega arith in e) pos)
        r.memory.edge in
        let parted = all_parted b r.stream (passes_of s.views) r.ruled.ruled.memory (begins_below q) in let parted' = all_parted b r.stream (passes_of s.views) r.ruled.ruled.memory (begins_at r.freed) in
        let up : open_sum (begins_at r.freed) (passes_of s.views) ≤ open_sum (begins_below q) (passes_of s.views) = total_up (open_weight (begins_at r.freed)) (open_weight (begins_below q)) (passes_of s.views) (λ x. total_up (λ f. begins_at r.freed (extent_of f)) (λ f. begins_below q (extent_of f)) x.work.drafts (λ f. below r.freed q f.start (8 * length f.words) (omega arith))) in
        let some' : 0 < committed_sum (begins_at r.freed) (passes_of s.views) = left (claimed_sum (begins_at r.freed) (passes_of s.views)) (committed_sum (begins_at r.freed) (passes_of s.views)) (open_sum (begins_at r.freed) (passes_of s.views)) (claimed_sum (begins_below q) (passes_of s.views)) (committed_sum (begins_below q) (passes_of s.views)) (open_sum (begins_below q) (passes_of s.views)) pos parted' parted seen.passed up in
        let i = has_some (committed_weight (λ f. begins_at r.freed (extent_of f))) (passes_of s.views) some' in let f = has_some (λ f. begins_at r.freed (extent_of f)) i.one.work.frames i.some in record {
          frame = f.one;
          among = is_among (passes_of s.views) i.place i.one f.one i.at (among_at i.one.work.frames f.place f.one f.at);
          here = at_it r.freed f.one.start (8 * length f.one.words) f.some;
        }
      where
        late : (f o tail far q t : ℕ) → f + o ≡ tail → o ≡ 0 → f + t < far → far ≤ q → q ≤ tail → ⊥
        late f o tail far q t e z d a c = omega arith

        below : (p q s n : ℕ) → p < q → min n (1 - ((s - p) + (p - s))) ≤ min 1 (min n (q - s))
        below p q s n lt = omega arith

        left : (s c o s' c' o' : ℕ) → 0 < s → s ≡ c + o → s' ≡ c' + o' → s' ≡ c' → o ≤ o' → 0 < c
        left s c o s' c' o' pos e e' same up = omega arith

        at_it : (p s n : ℕ) → 0 < min n (1 - ((s - p) + (p - s))) → s ≡ p
        at_it p s n pos = omega arith

    abbrev f : FrameWords
    f = frame_there.frame

    abbrev k0 : ℕ
    k0 = slot_of (ring t) frame_there.frame.start 0

    abbrev round : ℕ
    round = (r.rounds frame_there.frame.start).0

    abbrev book : ℕ
    book = (r.rounds frame_there.frame.start).1

    abbrev size : ℕ
    size = 8 * length frame_there.frame.words

    abbrev is : ℕ → Access → Type 0
    is = IsPartAt t (slot_of (ring t) frame_there.frame.start 0) frame_there.frame.words (r.rounds frame_there.frame.start).0 (r.rounds frame_there.frame.start).1

    some_n : 0 < ring t
    some_n = some_ring t r.stream s.views r.ruled

    unit_f : frame_there.frame.start % 32 ≡ 0
    unit_f = unit t r.stream s.views r.ruled frame_there.frame frame_there.among

    whole_f : (8 * length frame_there.frame.words) % 32 ≡ 0
    whole_f = whole t r.stream s.views r.ruled frame_there.frame frame_there.among

    row : frame_there.frame.start % (ring t * 32) + 8 * length frame_there.frame.words ≤ ring t * 32
    row = in_row_of t r.stream s.views r.ruled frame_there.frame frame_there.among

    some_f : 0 < length frame_there.frame.words
    some_f = long t r.stream s.views r.ruled frame_there.frame frame_there.among

    end_f : end_of frame_there.frame ≤ tail_in t.key (passes_of s.views)
    end_f = end_low t r.stream s.views r.ruled frame_there.frame frame_there.among

    lies : Lies t s r.rounds frame_there.frame
    lies = r.memory.frames frame_there.frame frame_there.among (let z = idle in let h = frame_there.here in omega arith)

    -- no reader has a part of it
    no_reader : (j : ℕ) → IsWithReader s frame_there.frame.start j → ⊥
    no_reader j b = let h = r.memory.held b.seat b.view b.there b.part.has in let a = stands_far b.seat b.view h.reading b.there h.mine h.low in let n = h.near in let e = b.part.at in let d = deep in let z = frame_there.here in omega arith

    part_home : (j : ℕ) → j < 8 → IsHome s (slot_of (ring t) frame_there.frame.start j) (IsPartOf t r.rounds frame_there.frame)
    part_home j lt = ⊎_elim (λ h. h) (λ b. absurd (no_reader j b)) (lies.parts j lt)

    full : Full s.homes is k0 (8 * length frame_there.frame.words / 4)
    full i lo hi = dite (dec_le (k0 + 8) i)
        (λ past. let u = row_unit (ring t) frame_there.frame.start (8 * length frame_there.frame.words) i some_n unit_f whole_f row lo hi in let from = u.from in let to = u.to in
        let ne : u.at ≢ frame_there.frame.start = (λ e. early (frame_there.frame.start / 32 % ring t) u.number i (sym (ap (λ (x : ℕ). slot_of (ring t) x u.number) e) ∙ u.is) u.low past) in
        let h = lies.inside u.at u.number u.unit (omega arith) to u.low in (h.access, ap (get_elem? s.homes) (sym u.is) ∙ h.there, λ lt. absurd (omega arith)))
        (λ near. let j : ℕ = i - k0 in let lt = lt_of_not-le near in let x : ℕ = frame_there.frame.start / 32 % ring t in let same : slot_of (ring t) frame_there.frame.start j ≡ i = omega arith in let h = part_home j (omega arith) in (h.access, ap (get_elem? s.homes) (sym same) ∙ h.there, λ _. h.so))
      where
        early : (q number i : ℕ) → 8 * q + number ≡ i → number < 8 → 8 * q + 0 + 8 ≤ i → ⊥
        early q number i e lt past = omega arith

    pub takes : (before : List (ℕ × Access)) → TakesRow s.homes is k0 (8 * length frame_there.frame.words / 4) before
    takes before = takes_row s.homes is k0 (8 * length frame_there.frame.words / 4) before full

    abbrev pub seat : LogView
    seat = record v { view = record v.view { steps = suc v.view.steps }; room = record { freed = v.room.freed; out = 8 * length frame_there.frame.words } }

    gone : ℕ
    gone = r.freed + 8 * length frame_there.frame.words

    -- frames of which the reader is a term behind begin behind it
    later : (p : ℕ) → far ≤ p → (g : FrameWords) → IsAmong (passes_of s.views) g → p ≤ g.start + term t → r.freed + 8 * length frame_there.frame.words ≤ g.start
    later p from g among near = let d = deep in let h = frame_there.here in let a = apart t r.stream s.views r.ruled frame_there.frame g frame_there.among among (omega arith) in omega arith

    short : 8 * length frame_there.frame.words ≤ term t
    short = let a = in_term t r.stream s.views r.ruled frame_there.frame frame_there.among in let x : ℕ = frame_there.frame.start % term t in omega arith

    beyond : (p : ℕ) → far ≤ p → IsBeyond t (passes_of s.views) (r.freed + 8 * length frame_there.frame.words) p
    beyond p from = record { passed = (let d = deep in let a = short in omega arith); back = later p from }

    module _ (before : List (ℕ × Access)) (words : List ℕ) (same : words ≡ s.words) where
      abbrev pub board : Board
      board = record { words = words; homes = homes_after s.homes before (takes before).act; views = set s.views id seat }

      frames_same : SameFrames (passes_of s.views) (passes_of (set s.views id seat))
      frames_same = same_frames (passes_of s.views) (passes_of (set s.views id seat)) (quiet_look s.views id v seat at (quiet_step v.view (suc v.view.steps))).committed

      home_on : (x j : ℕ) (is' : Access → Type 0) → x % 32 ≡ 0 → r.freed ≤ x → x < r.freed + 3 * term t → frame_there.frame.start + 8 * length frame_there.frame.words ≤ x → j < 8 → IsHome s (slot_of (ring t) x j) is' → IsHome board (slot_of (ring t) x j) is'
      home_on x j is' ux lo hi out lt h = let w = width t r.stream s.views r.ruled in let z = frame_there.here in let e = end_f in let n = tail_near t s r in record {
        access = h.access;
        there = (takes before).others (slot_of (ring t) x j) (row_apart (ring t) r.freed frame_there.frame.start (8 * length frame_there.frame.words) x j some_n unit_f whole_f row (omega arith) (omega arith) ux lo (omega arith) (inr out) lt) ∙ h.there;
        so = h.so;
      }

      -- room that is at home stays there
      parked_here : (i : ℕ) (x : LogView) → get_elem? s.views i ≡ some x → (f : FrameWords) → Among f x.parked → IsParked t board x f
      parked_here i x here f among = let a = r.memory.parked i x f here among in let from = open_from t s r i x here f a.draft in let to = open_to t s r i x here f a.draft in let near = tail_near t s r in let h = frame_there.here in
          parked_on t s board x f (λ p j is unit lo hi lt home. home_on p j is unit (omega arith) (omega arith) (⊎_elim (λ below. absurd (omega arith)) (λ past. past) (open_beside t s r i x here f a.draft frame_there.frame frame_there.among p lo hi)) lt home) a

      as_seat : (f : FrameWords) → IsParked t board v f → IsParked t board seat f
      as_seat f a = record { draft = a.draft; room = a.room }

      pub took_back : LogMemoryRuled t board
      took_back =
          let ps = passes_of s.views in let ps' = passes_of (set s.views id seat) in let look = quiet_look s.views id v seat at (quiet_step v.view (suc v.view.steps)) in
          let b = bounds t r.stream s.views r.ruled in let h = frame_there.here in let z = idle in let size : ℕ = 8 * length frame_there.frame.words in
          let own : (hh : Extent → ℕ) → hh (extent_of frame_there.frame) ≤ claimed_sum hh ps = among_claimed b r.stream ps r.ruled.ruled frame_there.frame frame_there.among in
          let edge = edge_behind b r.stream ps r.ruled.ruled frame_there.frame.start size frame_there.frame.cut (omega (arith, some_f)) own in
          let mine : 1 ≤ committed_sum (begins_at frame_there.frame.start) ps = (let a = frame_there.among (λ g. begins_at frame_there.frame.start (extent_of g)) in counted frame_there.frame.start (length frame_there.frame.words) (committed_sum (begins_at frame_there.frame.start) ps) some_f a) in
          let passed = passed_behind b r.stream ps r.ruled.ruled frame_there.frame.start size frame_there.frame.cut (omega (arith, some_f)) own (subst (AreCommitted ps) (let e : r.freed + r.out ≡ frame_there.frame.start = omega arith in e) r.memory.passed) mine in record {
            stream = r.stream;
            freed = r.freed;
            out = size;
            rounds = r.rounds;
            ruled = stepped t s r id v seat at refl;
            words = record {
              long = ap length same ∙ r.words.long;
              small = r.words.small;
              controls = λ i lt. ap (λ (l : List ℕ). slice_index l i) same ∙ r.words.controls i lt;
              heads = λ g among from. ap (λ (l : List ℕ). slice_index l (head_place (ring t) g.start)) same ∙ r.words.heads g (frames_same.back g among) from;
              rest = λ x ux from to none. ap (λ (l : List ℕ). slice_index l (head_place (ring t) x)) same ∙ r.words.rest x ux from to (λ g among. none g (frames_same.there g among));
            };
            memory = record {
              shelves = (takes before).long ∙ r.memory.shelves;
              unit = r.memory.unit;
              edge = edge_on t ps ps' look (r.freed + size) (subst (λ (x : ℕ). IsEdgeOf t.key ps (x + size)) h edge);
              passed = passed_on t ps ps' look (r.freed + size) (subst (λ (x : ℕ). AreCommitted ps (x + size)) h passed);
              ahead = subst (λ (l : List ℕ). limit_in (slice_index l 0) + greatest_claim (shape t) * 8 < r.freed + 3 * term t) (sym same) r.memory.ahead;
              free = λ x ux from to. (let e = tail_on t ps ps' look in let a = end_f in let g = r.memory.free x ux (omega arith) to in record {
                room = home_on x 0 _ ux (omega arith) to (omega arith) (omega arith) g.room;
                others = λ j lt. home_on x j _ ux (omega arith) to (omega arith) lt (g.others j lt);
              });
              frames = λ g among from. (let old = frames_same.back g among in let l = r.memory.frames g old (omega arith) in let e = end_low t r.stream s.views r.ruled g old in let n = tail_near t s r in let len = long t r.stream s.views r.ruled g old in record {
                parts = λ j lt. ⊎_elim
                    (λ a. inl (home_on g.start j _ (unit t r.stream s.views r.ruled g old) (omega arith) (omega arith) (omega arith) lt a))
                    (λ a. inr (reader_on s id v seat at refl words (homes_after s.homes before (takes before).act) g.start j a))
                    (l.parts j lt);
                inside = λ x j ux lo hi lt. home_on x j _ ux (omega arith) (omega arith) (omega arith) lt (l.inside x j ux lo hi lt);
              });
              taken = λ _. record { frame = frame_there.frame; among = frames_same.there frame_there.frame frame_there.among; here = h; long = refl };
              held = λ i x there has. ⊎_elim
                  (λ e. subst (λ (y : LogView). IsHeld t ps' r.rounds y) e.1 (let a = held_on t ps ps' frames_same r.rounds v (r.memory.held id v at (ap (λ (y : LogView). y.part.has) e.1 ∙ has)) in record { frame = a.frame; among = a.among; here = a.here; round = a.round; book = a.book; reading = a.reading; mine = a.mine; number = a.number; low = a.low; near = a.near }))
                  (λ e. held_on t ps ps' frames_same r.rounds x (r.memory.held i x e.1 has))
                  (at_set s.views id i seat x there);
              readers = λ i x y there among lt. ⊎_elim
                  (λ e. beyond_on t ps ps' frames_same (r.freed + size) y.position (beyond y.position (stands_far id v y at (subst (Among y) (sym (ap (λ (a : LogView). a.view.pass.reading) e.1)) among) lt)))
                  (λ e. beyond_on t ps ps' frames_same (r.freed + size) y.position (beyond y.position (stands_far i x y e.1 among lt)))
                  (at_set s.views id i seat x there);
              keeper = λ i x there one. ⊎_elim
                  (λ e. subst (KnowsRoom t ps' r.freed size) e.1 record { freed_is = room.freed_is; out_is = refl; cleaned = room.cleaned; seen = λ j is'. beyond_on t ps ps' frames_same (r.freed + size) _ (beyond _ (seen_far j (subst (λ (l : List ℕ). IsThere l j) who_is is'))) })
                  (λ e. absurd (only i x e.0 e.1 one))
                  (at_set s.views id i seat x there);
              parked = parked_set t s board id seat (λ f among. as_seat f (parked_here id v at f among)) (λ i x f ne there among. parked_here i x there f among);
            };
          }
        where
          counted : (p l c : ℕ) → 0 < l → min (8 * l) (1 - ((p - p) + (p - p))) ≤ c → 1 ≤ c
          counted p l c some' le = omega arith

pub take_back : (t : Site) (id : ℕ) (m : Mine) → MayTakeBack m.0 → (slots : ℕ) → Allows (LogMemoryRuled t) slots id m (head_place (ring t) m.0.room.freed) (λ n. n) (λ n w. TakesBack t m n w)
take_back t id m may slots s r homes at small =
    let v = m.0 in let h : ℕ = head_place (ring t) v.room.freed in let same : set s.words h (slice_index s.words h) ≡ s.words = set-get_or s.words h 0 in let f = frame_there t s r id v at may.keeper may in let tk = takes t s r id v at may.keeper may m.1 in
    let freed = (room t s r id v at may.keeper).freed_is in (
      seat t s r id v at may.keeper may,
      tk.act,
      tk.valid,
      took_back t s r id v at may.keeper may m.1 (set s.words h (slice_index s.words h)) same,
      record {
        frame = f.frame;
        here = f.here ∙ sym freed;
        done = done t r.stream s.views r.ruled f.frame f.among;
        word = ap (λ (x : ℕ). slice_index s.words (head_place (ring t) x)) (freed ∙ sym f.here) ∙ r.words.heads f.frame f.among (let e = f.here in omega arith);
        round = (r.rounds f.frame.start).0;
        book = (r.rounds f.frame.start).1;
        carries = tk.taken;
        part = refl;
        room = refl;
        parked = refl;
        rests = refl;
      },
    )
